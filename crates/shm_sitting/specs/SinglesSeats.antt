-- what calls make of a session in a pool for single blocks
use Rattle.std.specs.Prelude.{◌≡◌, ℕ, ◌<◌, ◌≤◌, ◌==◌, nat_lt, if◌then◌else◌, Some, None, List, slice_set, replicate}
use Rattle.shm_words.specs.Layout.{total_of}
use Rattle.shm_graph.specs.declared.ask.Me.{Me}
use Rattle.shm_session.specs.declared.said.{Call.Call, Ran.Ran, Said.Said, Misuse.TheVariants.Range}
use Rattle.shm_session.specs.Sessions.{Turned, called, code_said, refusal_said, stage_found, told}
use Rattle.shm_singles.specs.Singles.{Work, singles}
use Rattle.shm_mapped.specs.Runs.{HasRun}
use Rattle.shm_sitting.specs.declared.singles_seat.SinglesSeat.{SinglesSeat}

-- a plain word of the block that is made next is kept, by its index; another index is refused, and nothing changes
abbrev pub keep_said : ℕ → Said
keep_said i = if nat_lt i 8 then code_said 16 else refusal_said Range

-- the words that are kept then
abbrev pub words_after : ℕ → ℕ → List ℕ → List ℕ
words_after i n ws = if nat_lt i 8 then slice_set ws i n else ws

-- a call of number 30 keeps a word; every other one is the session's, with the words that are kept
abbrev pub single_called : SinglesSeat → Call → Turned Work
single_called s c = if c.op == 30 then record { said = keep_said c.first; stage = s.session.stage; work = s.session.work } else called singles s.session.me s.session.stage s.session.work (record c { words = s.words })

-- the words that are kept after a call
abbrev pub single_words : SinglesSeat → Call → List ℕ
single_words s c = if c.op == 30 then words_after c.first c.second s.words else s.words

-- a session of an identity was opened, whose status word was found so: nothing is in progress, and no plain word is kept
pub record IsOpened (me : Me) (n : ℕ) (s : SinglesSeat) : Type 0 where
  pub is : s.session.me ≡ me
  pub stage : stage_found n ≡ Some s.session.stage
  pub work : s.session.work ≡ None
  pub words : s.words ≡ replicate 8 0

-- a call by its number
pub record IsCalled (s : SinglesSeat) (c : Call) (r : Said) (t : SinglesSeat) : Type 0 where
  pub me : t.session.me ≡ s.session.me
  pub said : r ≡ (single_called s c).said
  pub stage : t.session.stage ≡ (single_called s c).stage
  pub work : t.session.work ≡ (single_called s c).work
  pub words : t.words ≡ single_words s c

-- a word was told: the work goes on by its control, and its next word step is said, or its answer
pub record IsTold (s : SinglesSeat) (n : ℕ) (r : Said) (t : SinglesSeat) : Type 0 where
  pub me : t.session.me ≡ s.session.me
  pub said : r ≡ (told singles s.session.stage s.session.work n).said
  pub stage : t.session.stage ≡ (told singles s.session.stage s.session.work n).stage
  pub work : t.session.work ≡ (told singles s.session.stage s.session.work n).work
  pub words : t.words ≡ s.words

-- so many word steps were made at most, on so many words: too few are refused, and nothing changes
pub record IsRun (s : SinglesSeat) (count n : ℕ) (r : Ran) (t : SinglesSeat) : Type 0 where
  pub me : t.session.me ≡ s.session.me
  pub few : count < total_of s.session.me.geometry → (r ≡ record { said = refusal_said Range; steps = 0 }) × (t.session.stage ≡ s.session.stage) × (t.session.work ≡ s.session.work)
  pub ran : total_of s.session.me.geometry ≤ count → HasRun singles count n s.session.stage s.session.work r t.session.stage t.session.work
  pub words : t.words ≡ s.words
