-- the commit test as a plan: what is known before each load, and what is left
use Rattle.std.specs.Prelude.{◌≡◌, ◌≢◌, ℕ, ◌+◌, ◌<◌, ◌≤◌, true, nat_lt, if◌then◌else◌, Option, Some, None, List, []}
use Rattle.std.specs.List.{Contains}
use Rattle.shm_words.specs.{declared.redo.Redo.Redo as ARedo, Headers.header_of}
use Rattle.shm_words.specs.{Layout.{GeometryFits, address, total_of}, Redos.redo_of}
use Rattle.shm_words.specs.declared.place.Place.TheVariants as place
use Rattle.shm_words.specs.declared.redo.Redo.TheVariants as redos
use Rattle.shm_graph.specs.declared.{ask.{Ask.TheVariants.Load, Me.Me}, spot.Spot.TheVariants.{Era, Redo, RedoMore}}
use Rattle.shm_graph.specs.{declared.memo.Memo.Memo, Agents.recovers, Asks.{Trail, IsWithin, pair}, Core.core}
use Rattle.shm_graph.specs.{Events.Event, Ops.on_of, MemoAfterRead.next_row, Views.own_word}
use Rattle.kind_parts.specs.WordParts.{TestBegun, TestGoesOn}
use Rattle.plans.specs.{declared.word.Word.Word, Parts.Part, Plans.Planned, Words.word_part}
use Rattle.shm_count.specs.declared.commit_test.{Commit.{Commit, TheVariants.{Committed, NotCommitted}}, Proof.Proof}
use Rattle.shm_count.specs.declared.commit_test.TestingPoint.{TestingPoint, TheVariants.{Header, Row}}
use Rattle.shm_count.specs.{declared.commit_test.TestingState.TestingState, CommitTest.StepTrail.read_part}
use Rattle.shm_count.specs.CommitTest.Control.{is_header, is_shown, test_ask, testing_steered, is_first_half}
use Rattle.shm_count.specs.declared.commit_test.Proof.TheVariants as proof
pub mod Control
pub mod StepTrail
pub mod Machines

-- ---- when it may begin

-- the block whose count a step changes that a redo record spells at own era e
abbrev pub step_block : Option ARedo → ℕ → Option ℕ
step_block (Some (redos.Up p b)) e = Some b
step_block (Some (redos.Down p b)) e = Some b
step_block (Some (redos.Change parity p a b)) e = Some (if is_first_half parity e then b else a)
step_block r e = None

-- the redo record that the own words of a memo spell, if they do
abbrev pub record_in : Me → Memo → Option ARedo
record_in me r = redo_of me.geometry.wide (own_word r.own (Redo me.who)) (own_word r.own (RedoMore me.who))

-- a recoverer asks of the own era and of the block that the redo record names for it, or of 0, which it names in format 2 while its words are of two records
pub record MayTest (me : Me) (b e : ℕ) (r : Memo) : Type 0 where
  pub geometry : GeometryFits me.geometry
  pub who : me.who < me.geometry.clients
  pub recoverer : recovers r ≡ true
  pub inside : b < total_of me.geometry
  pub era : own_word r.own (Era me.who me.who) ≡ e
  pub named : step_block (record_in me r) e ≡ Some b

-- ---- on the way

-- how many words are read before row k: the header, and the rows before it but the own one
abbrev pub rows_to : ℕ → ℕ → ℕ
rows_to c k = if nat_lt c k then k else k + 1

-- the memo shows that the rows from k on are left to be read; of word 0 it shows nothing
abbrev pub HasTest : ℕ → Memo → ℕ → Type 0
HasTest b r k = b ≢ 0 → r.test ≡ Some (record { block = b; next = k })

-- the header and the rows before this one didn't show the step
pub record IsTesting (m : TestingState) (r0 r : Memo) (tr : Trail) (es : List Event) : Type 0 where
  pub may : MayTest m.me m.block m.era r0
  pub same : core r ≡ core r0
  pub recoverer : recovers r ≡ true
  pub stands : (n : ℕ) × HasTest m.block r n × (m.row ≡ next_row m.me.who n)
  pub low : m.row < m.me.geometry.clients
  pub none : es ≡ []
  pub bound : IsWithin (rows_to m.me.who m.row) tr

abbrev pub TestKnows : TestingState → TestingPoint → Memo → Memo → Trail → List Event → Type 0
TestKnows m Header r0 r tr es = MayTest m.me m.block m.era r0 × (r ≡ r0) × (tr ≡ []) × (es ≡ [])
TestKnows m Row r0 r tr es = IsTesting m r0 r tr es

-- ---- what it leaves

-- this word was read, and shows that the step of era e is committed on block b
abbrev pub IsProof : Me → ℕ → ℕ → Trail → Proof → Type 0
IsProof me b e tr proof.Header = (n : ℕ) × Contains tr (pair (Load b) n) × ((header_of n).client ≡ me.who) × ((header_of n).era ≡ e)
IsProof me b e tr (proof.Row k) = (k < me.geometry.clients) × (k ≢ me.who) × ((n : ℕ) × Contains tr (pair (Load (address me.geometry (place.Era k me.who))) n) × (e ≤ n))

-- the step in progress is committed on the block, as a word shows; or it isn't
abbrev pub IsTold : Me → ℕ → ℕ → Memo → Trail → Commit → Type 0
IsTold me b e r tr (Committed by) = (on_of r.op ≡ Some b) × IsProof me b e tr by
IsTold me b e r tr NotCommitted = on_of r.op ≢ Some b

-- nothing of the memo changed, and there was no event
pub record IsTested (me : Me) (b e : ℕ) (r0 r : Memo) (tr : Trail) (es : List Event) (a : Commit) : Type 0 where
  pub told : IsTold me b e r tr a
  pub same : core r ≡ core r0
  pub none : es ≡ []
  pub bound : IsWithin me.geometry.clients tr

abbrev pub TestLeaves : TestingState → Memo → Memo → Trail → List Event → Commit → Type 0
TestLeaves m = IsTested m.me m.block m.era

-- ---- the plan

-- what holds after the load at a point, by the word found: a header that shows the step shows that it is committed
abbrev pub TestFound : TestingState → TestingPoint → Memo → ℕ → Memo → Type 0
TestFound m Header r n x = TestBegun m.me.geometry m.me.who m.block r n x × (is_shown m.me.who m.era n ≡ true → on_of r.op ≡ Some m.block)
TestFound m Row r n x = TestGoesOn m.me.who m.row r n x

abbrev pub test_part : TestingState → TestingPoint → Part Word ℕ
test_part m y = read_part (word_part (is_header y) m.me (test_ask m.me m.block m.row y) (TestFound m y))

abbrev pub testing_plan : Planned TestingState Word ℕ Commit
testing_plan =
    record {
      steered = testing_steered;
      part = λ m. test_part m m.point;
      knows = λ m. TestKnows m m.point;
      leaves = TestLeaves;
    }
