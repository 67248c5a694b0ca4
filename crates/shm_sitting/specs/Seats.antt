-- what calls make of a session, by the kind of its pool
use Rattle.std.specs.Prelude.{ℕ}
use Rattle.shm_graph.specs.declared.ask.Me.{Me}
use Rattle.shm_session.specs.declared.said.{Call.Call, Ran.Ran, Said.Said}
use Rattle.shm_sitting.specs.declared.seat.{Kind.Kind, Seat.{Seat, TheVariants.{Tables, Singles}}}
use Rattle.shm_sitting.specs.declared.seat.Kind.TheVariants as kind
use Rattle.shm_sitting.specs.TablesSeats as table
use Rattle.shm_sitting.specs.SinglesSeats as single

-- a session was opened in a pool of this kind: it is one of this kind
abbrev pub IsOpened : Kind → Me → ℕ → Seat → Type 0
IsOpened kind.Tables me n (Tables s) = table.IsOpened me n s
IsOpened kind.Singles me n (Singles s) = single.IsOpened me n s
IsOpened k me n s = ⊥

-- a word was told: a session stays one of its kind, and becomes what this kind says
abbrev pub IsTold : Seat → ℕ → Said → Seat → Type 0
IsTold (Tables s) n r (Tables t) = table.IsTold s n r t
IsTold (Singles s) n r (Singles t) = single.IsTold s n r t
IsTold s n r t = ⊥

-- a call by its number
abbrev pub IsCalled : Seat → Call → Said → Seat → Type 0
IsCalled (Tables s) c r (Tables t) = table.IsCalled s c r t
IsCalled (Singles s) c r (Singles t) = single.IsCalled s c r t
IsCalled s c r t = ⊥

-- many word steps were made at most, on so many words: what this kind says
abbrev pub IsRun : Seat → ℕ → ℕ → Ran → Seat → Type 0
IsRun (Tables s) count n r (Tables t) = table.IsRun s count n r t
IsRun (Singles s) count n r (Singles t) = single.IsRun s count n r t
IsRun s count n r t = ⊥
