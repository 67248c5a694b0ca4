-- a recovery in single steps
use Rattle.std.specs.Prelude.{◌≡◌, Bool, true, false, if◌then◌else◌, List, Ok}
use Rattle.atomic_table.specs.declared.shared.Seat.{Seat}
use Rattle.plans.specs.declared.calls.Calls.{Calls}
use Rattle.shm_graph.specs.declared.{ask.Turn.{Turn, TheVariants.Done}, memo.Memo.Memo, run.Account.Account}
use Rattle.shm_graph.specs.{declared.run.Start.Start, Agents.acts, Asks.Trail, Laws.Control}
use Rattle.shm_graph.specs.Whole.{fits_now, gives_now}
use Rattle.shm_recover.specs.{declared.recover.RecoverState.RecoverState, Recover.Control.RecoverCall}
use Rattle.shm_pool.specs.{Endings.{Answer, LeavesGone}, Rules.alone}
use Rattle.shm_pool.specs.Tokens.{Its, IsFallen, IsStill, its, recovering_account}

-- the machine of a recovery
abbrev pub RecoverMachine : Type 0
RecoverMachine = Calls RecoverState RecoverCall

-- a token of an identity that a machine recovers step by step: the account of its seat, whether the recoverer has begun, the machine, and whether that has answered Ok
pub record RescuingBy (M : Type 0) : Type 0 where
  pub of : Its
  pub seat : Account
  pub begun : Bool
  pub machine : M
  pub done : Bool

-- one that a recovery recovers
abbrev pub Rescuing : Type 0
Rescuing = RescuingBy RecoverMachine

-- the recoverer's account: where it hasn't begun, the seat's with the death and the recoverer that begins with its first word step
abbrev pub account_of : Bool → Account → Account
account_of begun e = if begun then e else recovering_account e

-- the token of a seat
abbrev pub rescuing_of : {M : Type 0} → Start → Seat (Unit {0}) (List Account) → Bool → M → Bool → RescuingBy M
rescuing_of start s begun machine done = record { of = its s.table_id start; seat = alone s; begun = begun; machine = machine; done = done }

-- whether a machine has answered Ok
abbrev pub is_finished_ok : Turn Answer → Bool
is_finished_ok (Done (Ok u)) = true
is_finished_ok _ = false

-- The machine is of the identity, and while it isn't finished it fits, and leaves the identity gone where it will answer Ok. Before the recoverer has begun the seat is the corpse's; then its agent acts, until the machine has answered Ok, and with that the identity is gone
pub record IsRescuing {M : Type 0} (k : Control M Answer) (suits : M → Memo → Memo → Trail → Type 0) (gives : M → Memo → Memo → Trail → Answer → Type 0) (start : Start) (fell begun done : Bool) (e : Account) (m : M) : Type 0 where
  pub waits : begun ≡ false → IsFallen fell e.memo × (done ≡ false)
  pub acts : begun ≡ true → done ≡ false → acts e.memo ≡ true
  pub gone : done ≡ true → IsStill e.memo
  pub me : k.me m ≡ record { geometry = start.geometry; who = e.who }
  pub fits : k.finished m ≡ false → (done ≡ false) × (r0 : Memo) × fits_now k suits m r0 (account_of begun e).memo × LeavesGone (gives_now gives) m r0
