-- what is known of the identities of a pool between two calls
use Rattle.std.specs.Prelude.{◌≡◌, ◌≢◌, ℕ, ◌<◌, Bool, ◌==◌, ◌||◌, if◌then◌else◌, nat_le, false, true, Option, None, Some, Result, Ok, Err, IfSome}
use Rattle.std.specs.{List.Contains, Option.is_some}
use Rattle.shm_words.specs.Layout.{GeometryFits}
use Rattle.shm_graph.specs.{Agents.{last_agent, recovers}, Held.is_loose, Reach.is_reached, Runs.{fell_by, first_memo}}
use Rattle.shm_plain.specs.{Calls.IsAtWork, Pools.{Pool, memo_of}}
use Rattle.shm_count.specs.{declared.answer.Made.Made, Waiting.IsQuiet}
use Rattle.shm_queue.specs.declared.answer.PeekFault.{PeekFault, TheVariants.{Empty, EraSpent, RootsFull, CountFull}}
use Rattle.shm_ref.specs.declared.answer.{Busy.Busy, NotHeld.NotHeld}
use Rattle.t_calls.specs.declared.standing.{Known.Known, Standing.{Standing, TheVariants.{New, Works, Fallen, Lost}}}

-- ---- after a call

abbrev pub kept : Known → Known
kept k = record k { found = 0; dying = 0 }

abbrev pub unsettled : Known → Known
unsettled k = record k { quiet = false; found = 0; dying = 0 }

-- this, where there was an answer
abbrev pub told : {A : Type 0} → Option A → Known → Option Known
told (Some a) k = Some k
told None k = None

-- what waits is as it was where the call was done
abbrev pub settled : {T E : Type 0} → Option (Result T E) → Known → Option Known
settled (Some (Ok t)) k = Some (kept k)
settled (Some (Err e)) k = Some (unsettled k)
settled None k = None

abbrev pub released : Known → Known
released k = record k { free = true; held = false; found = 0; dying = 0 }

abbrev pub seeing : Known → Known
seeing k = record k { quiet = false; dying = 0 }

abbrev pub bare : Known
bare = record { free = false; held = false; quiet = false; found = 0; dying = 0 }

-- one that held no latch asked for one
abbrev pub held : Option (Result (Unit {0}) Busy) → Known → Option Known
held (Some (Ok u)) k = Some (record k { free = false; held = true; found = 0; dying = 0 })
held (Some (Err e)) k = Some (kept k)
held None k = None

abbrev pub found : Option (Result ℕ NotHeld) → Known → Option Known
found (Some (Ok b)) k = Some (record k { quiet = false; found = b; dying = 0 })
found (Some (Err e)) k = Some (unsettled k)
found None k = None

-- an item was asked for; where there was none, what waits is as it was
abbrev pub received : Option (Result Made PeekFault) → Known → Option Known
received (Some (Ok made)) k = Some (kept k)
received (Some (Err (Empty n))) k = Some (kept k)
received (Some (Err (EraSpent e))) k = Some (unsettled k)
received (Some (Err RootsFull)) k = Some (unsettled k)
received (Some (Err (CountFull b n))) k = Some (unsettled k)
received None k = None

-- the count of b came to 0, where that was answered
abbrev pub dying : {E : Type 0} → Option (Result Bool E) → ℕ → Option Known
dying (Some (Ok true)) b = Some (record bare { dying = b })
dying (Some (Ok false)) b = Some bare
dying (Some (Err e)) b = Some bare
dying None b = None

-- ---- what it says

-- a client of c is between two calls, in a pool for single calls, and what k says holds
pub record IsKnown (k : Known) (c : ℕ) (p : Pool) : Type 0 where
  pub work : IsAtWork c p
  pub client : recovers (memo_of p c) ≡ false
  pub loose : is_loose (memo_of p c).part ≡ true
  pub free : k.free ≡ true → (memo_of p c).latch ≡ None
  pub held : k.held ≡ true → is_some (memo_of p c).latch ≡ true
  pub quiet : k.quiet ≡ true → IsQuiet (memo_of p c)
  pub found : k.found ≢ 0 → is_reached c (memo_of p c) k.found ≡ true
  pub dying : k.dying ≢ 0 → Contains (memo_of p c).dying k.dying

-- how c stands in a pool
abbrev pub IsSo : Standing → ℕ → Pool → Type 0
IsSo New c p = (c < p.start.geometry.clients) × (p.start.tables ≡ false) × (memo_of p c ≡ first_memo p.start c)
IsSo (Works k) c p = IsKnown k c p
IsSo Fallen c p = (c < p.start.geometry.clients) × (fell_by (last_agent (memo_of p c).agents) ≡ true)
IsSo Lost c p = Unit {0}

-- how the first two identities of a pool stand
pub record Stand (s t : Standing) (p : Pool) : Type 0 where
  pub geometry : GeometryFits p.start.geometry
  pub first : IsSo s 0 p
  pub second : IsSo t 1 p

-- what a call of c on the pool p leaves: all but c is as it was, and where there is something to know of c it is so
pub record After (c : ℕ) (p q : Pool) (o : Option Known) : Type 0 where
  pub start : q.start ≡ p.start
  pub others : (d : ℕ) → d ≢ c → memo_of q d ≡ memo_of p d
  pub known : IfSome o (λ k. IsKnown k c q)

-- ---- who stands so

abbrev pub pick : Standing → Standing → ℕ → Standing
pick s t c = if c == 0 then s else if c == 1 then t else Lost

abbrev pub placed_first : ℕ → Standing → Standing → Standing
placed_first c x s = if c == 0 then x else s

abbrev pub placed_second : ℕ → Standing → Standing → Standing
placed_second c x t = if c == 1 then x else t

abbrev pub stood : Option Known → Standing
stood (Some k) = Works k
stood None = Lost

abbrev pub joined_known : Known
joined_known = record { free = true; held = false; quiet = true; found = 0; dying = 0 }

-- how c stands where d was the first to join a pool of so many
abbrev pub begun : ℕ → Bool → ℕ → ℕ → Standing
begun n tables c d = if tables || nat_le n c then Lost else if c == d then Works joined_known else New
