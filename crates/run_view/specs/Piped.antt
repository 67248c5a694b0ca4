-- a text on its way to a sink
use Rattle.std.specs.Prelude.{◌≡◌, ℕ, List, ◌++◌, Option, Some, None}
use Rattle.std.specs.Borrow.{MutBor}
use Rattle.shm_io.specs.{Faults.Rose, Writing.Appends}
use Rattle.run_view.specs.declared.pipe.Stop.{Stop, TheVariants.{Memory, Fault}}

-- the sink, why the text is not written whole, where it isn't, and what is kept of it before it is written
pub record Sending (A : Type 0) : Type 0 where
  pub sink : MutBor A
  pub stop : Option Stop
  pub kept : List ℕ

-- from the one value of a sink to the other: this text was written; or, where it stopped, nothing for want of memory, or a write failed
abbrev pub IsTold : {A : Type 0} → (A → Option (List ℕ)) → (A → ℕ) → List ℕ → A → Option Stop → A → Type 0
IsTold held faults text x None y = Appends (held x) (held y) text × (faults y ≡ faults x)
IsTold held faults text x (Some Memory) y = y ≡ x
IsTold held faults text x (Some Fault) y = Rose (faults x) (faults y)

-- to that sink
pub record IsSent {A : Type 0} (held : A → Option (List ℕ)) (faults : A → ℕ) (first : MutBor A) (text : List ℕ) (stop : Option Stop) (sink : MutBor A) : Type 0 where
  pub same : sink.ghost_name ≡ first.ghost_name
  pub told : IsTold held faults text first.now stop sink.now

-- a text on its way to that sink: a front of it was written, and the rest is kept
pub record IsUnderWay {A : Type 0} (held : A → Option (List ℕ)) (faults : A → ℕ) (first : MutBor A) (text : List ℕ) (x : Sending A) : Type 0 where
  pub front : List ℕ
  pub sent : IsSent held faults first front x.stop x.sink
  pub whole : text ≡ front ++ x.kept

-- whatever was written before, these bytes were written behind it
pub record Writes {A : Type 0} (held : A → Option (List ℕ)) (faults : A → ℕ) (stop : Option Stop) (sink : MutBor A) (stop' : Option Stop) (sink' : MutBor A) (bytes : List ℕ) : Type 0 where
  pub writes : (first : MutBor A) (text : List ℕ) → IsSent held faults first text stop sink → IsSent held faults first (text ++ bytes) stop' sink'

-- whatever text was on its way, it goes on with these bytes
pub record Adds {A : Type 0} (held : A → Option (List ℕ)) (faults : A → ℕ) (x y : Sending A) (bytes : List ℕ) : Type 0 where
  pub adds : (first : MutBor A) (text : List ℕ) → IsUnderWay held faults first text x → IsUnderWay held faults first (text ++ bytes) y

-- where the text is whole, all of it was written
pub record Ends {A : Type 0} (held : A → Option (List ℕ)) (faults : A → ℕ) (x : Sending A) (stop : Option Stop) (sink : MutBor A) : Type 0 where
  pub ends : (first : MutBor A) (text : List ℕ) → IsUnderWay held faults first text x → IsSent held faults first text stop sink

-- the sink of a text, where it has begun
abbrev pub IsFrom : {A : Type 0} → (A → Option (List ℕ)) → (A → ℕ) → Option (MutBor A) → List ℕ → Sending A → Type 0
IsFrom held faults None text x = ⊥
IsFrom held faults (Some first) text x = IsUnderWay held faults first text x

abbrev pub IsSentFrom : {A : Type 0} → (A → Option (List ℕ)) → (A → ℕ) → Option (MutBor A) → List ℕ → Option Stop → MutBor A → Type 0
IsSentFrom held faults None text stop sink = ⊥
IsSentFrom held faults (Some first) text stop sink = IsSent held faults first text stop sink

-- some text is on its way from there, or was sent
abbrev pub IsSome : {A : Type 0} → (A → Option (List ℕ)) → (A → ℕ) → Option (MutBor A) → Sending A → Type 0
IsSome held faults sink x = (text : List ℕ) × IsFrom held faults sink text x

abbrev pub IsSomeSent : {A : Type 0} → (A → Option (List ℕ)) → (A → ℕ) → Option (MutBor A) → Option Stop → MutBor A → Type 0
IsSomeSent held faults from stop sink = (text : List ℕ) × IsSentFrom held faults from text stop sink
