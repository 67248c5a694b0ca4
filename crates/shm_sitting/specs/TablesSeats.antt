-- what calls make of a session in a pool for tables
use Rattle.std.specs.Prelude.{◌≡◌, ℕ, ◌<◌, ◌≤◌, Some, None}
use Rattle.shm_graph.specs.declared.ask.Me.{Me}
use Rattle.shm_words.specs.Layout.{total_of}
use Rattle.shm_session.specs.declared.said.{Call.Call, Ran.Ran, Said.Said, Misuse.TheVariants.Range}
use Rattle.shm_session.specs.Sessions.{called, refusal_said, stage_found, told}
use Rattle.shm_mapped.specs.Runs.{HasRun}
use Rattle.shm_sitting.specs.{declared.tables_seat.TablesSeat.TablesSeat, Tables.tables}

-- a session of an identity was opened, whose status word was found so: nothing is in progress
pub record IsOpened (me : Me) (n : ℕ) (s : TablesSeat) : Type 0 where
  pub is : s.session.me ≡ me
  pub stage : stage_found n ≡ Some s.session.stage
  pub work : s.session.work ≡ None

-- a word was told: the work goes on by its control, and its next word step is said, or its answer
pub record IsTold (s : TablesSeat) (n : ℕ) (r : Said) (t : TablesSeat) : Type 0 where
  pub me : t.session.me ≡ s.session.me
  pub said : r ≡ (told tables s.session.stage s.session.work n).said
  pub stage : t.session.stage ≡ (told tables s.session.stage s.session.work n).stage
  pub work : t.session.work ≡ (told tables s.session.stage s.session.work n).work

-- a call by its number
pub record IsCalled (s : TablesSeat) (c : Call) (r : Said) (t : TablesSeat) : Type 0 where
  pub me : t.session.me ≡ s.session.me
  pub said : r ≡ (called tables s.session.me s.session.stage s.session.work c).said
  pub stage : t.session.stage ≡ (called tables s.session.me s.session.stage s.session.work c).stage
  pub work : t.session.work ≡ (called tables s.session.me s.session.stage s.session.work c).work

-- so many word steps were made at most, on so many words: too few are refused, and nothing changes
pub record IsRun (s : TablesSeat) (count n : ℕ) (r : Ran) (t : TablesSeat) : Type 0 where
  pub me : t.session.me ≡ s.session.me
  pub few : count < total_of s.session.me.geometry → (r ≡ record { said = refusal_said Range; steps = 0 }) × (t.session.stage ≡ s.session.stage) × (t.session.work ≡ s.session.work)
  pub ran : total_of s.session.me.geometry ≤ count → HasRun tables count n s.session.stage s.session.work r t.session.stage t.session.work
