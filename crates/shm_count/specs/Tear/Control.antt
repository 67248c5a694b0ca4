-- the control of a tear-down: which word it asks for, and where it goes by the word found
use Rattle.std.specs.Prelude.{ℕ, ◌+◌, ◌%◌, ◌<◌, Bool, true, false, ◌==◌, nat_lt, if◌then◌else◌, Option, Some, None, Result, Ok, Err, []}
use Rattle.shm_words.specs.{declared.tag.Tag.Tag as ATag, Layout.{GeometryFits, address_limit, place_limit}}
use Rattle.shm_words.specs.Tags.{tag_word, tag_of, TagFits}
use Rattle.shm_graph.specs.{declared.ask.{Ask.{Ask, TheVariants.{Load, Store}}, Me.Me}, Laws.Control}
use Rattle.shm_count.specs.declared.{answer.{EraSpent.EraSpent, UpFault.UpFault}, point.StepPoint.StepPoint}
use Rattle.shm_count.specs.declared.{point.{StepState.StepState, StepNext.StepNext}, tear_point.TearPoint.TearPoint}
use Rattle.shm_count.specs.declared.tear_point.{TearState.TearState, TearNext.{TearNext, TheVariants.{Go, Answer}}}
use Rattle.shm_count.specs.Step.Control.{PointFits, step_ask, step_next, spent}
use Rattle.shm_count.specs.declared.point.Aim.TheVariants as aims
use Rattle.shm_count.specs.declared.point.StepPoint.TheVariants as step
use Rattle.shm_count.specs.declared.point.StepNext.TheVariants as next
use Rattle.shm_count.specs.declared.tear_point.TearPoint.TheVariants as point

-- ---- words

-- the address of a reference word
abbrev pub word_address : ℕ → ℕ → ℕ
word_address b i = (b + 2 + i) % address_limit

-- the tag that a word is, or an empty one
abbrev pub or_empty : Option ATag → ATag
or_empty None = record { refs = 0; plain = 0; author = 0; link = 0 }
or_empty (Some g) = g

abbrev pub tag_read : Bool → ℕ → ATag
tag_read wide n = or_empty (tag_of wide n)

-- the step down that takes the reference to t out of word i of block b
abbrev pub down_state : Me → ℕ → ℕ → ℕ → StepPoint → StepState
down_state me b i t y = record { me = me; slot = word_address b i; aim = aims.Down t; point = y }

-- ---- the steps

abbrev pub tear_ask_at : Me → ℕ → TearPoint → Ask
tear_ask_at me b point.Begin = Load (b + 1)
tear_ask_at me b (point.Enter l) = Load (b + 1)
tear_ask_at me b (point.Link g) = Store (b + 1) (tag_word me.geometry.wide g)
tear_ask_at me b (point.Word g i) = Load (word_address b i)
tear_ask_at me b (point.Down g i t y) = step_ask (down_state me b i t y)
tear_ask_at me b (point.Free g) = Store b 0
tear_ask_at me b point.Return = Load (b + 1)
tear_ask_at me b point.Over = Load 0

abbrev pub tear_ask : TearState → Ask
tear_ask m = tear_ask_at m.me m.block m.point

-- ---- where it goes

-- it stays at its block
abbrev pub stay : ℕ → TearPoint → TearNext
stay b y = Go b y

-- the reference word with this index comes next, and after the last one the header
abbrev pub word_or_free : ATag → ℕ → TearPoint
word_or_free g i = if nat_lt i g.refs then point.Word g i else point.Free g

-- a tag with a link, which is brought into range
abbrev pub relinked : Bool → ATag → ℕ → ATag
relinked wide g l = record g { link = l % place_limit wide }

-- by the tag of a block that is entered from the block l, or from none
abbrev pub entered_next : Bool → ℕ → ℕ → ℕ → TearNext
entered_next wide b l n = Go b (if (tag_read wide n).link == l then word_or_free (tag_read wide n) 0 else point.Link (relinked wide (tag_read wide n) l))

-- by a reference word
abbrev pub word_next : ℕ → ATag → ℕ → ℕ → TearNext
word_next b g i n = Go b (if n % address_limit == 0 then word_or_free g (i + 1) else point.Down g i (n % address_limit) step.Era)

-- by what a step down answered
abbrev pub lowered_next : ℕ → ATag → ℕ → ℕ → Result Bool UpFault → TearNext
lowered_next b g i t (Ok true) = Go t (point.Enter b)
lowered_next b g i t (Ok false) = Go b (word_or_free g (i + 1))
lowered_next b g i t (Err f) = Answer (Err (spent f))

-- once a block is free
abbrev pub freed_next : ATag → TearNext
freed_next g = if g.link == 0 then Answer (Ok tt) else Go g.link point.Return

-- by where the step down goes
abbrev pub down_next : ℕ → ATag → ℕ → ℕ → StepNext → TearNext
down_next b g i t (next.Point y) = Go b (point.Down g i t y)
down_next b g i t (next.Answer a) = lowered_next b g i t a

abbrev pub tear_next_at : Me → ℕ → TearPoint → ℕ → TearNext
tear_next_at me b point.Begin n = entered_next me.geometry.wide b 0 n
tear_next_at me b (point.Enter l) n = entered_next me.geometry.wide b l n
tear_next_at me b (point.Link g) n = Go b (word_or_free g 0)
tear_next_at me b (point.Word g i) n = word_next b g i n
tear_next_at me b (point.Down g i t y) n = down_next b g i t (step_next (down_state me b i t y) n)
tear_next_at me b (point.Free g) n = freed_next g
tear_next_at me b point.Return n = Go b (word_or_free (tag_read me.geometry.wide n) 0)
tear_next_at me b point.Over n = Go b point.Over

abbrev pub tear_next : TearState → ℕ → TearNext
tear_next m n = tear_next_at m.me m.block m.point n

abbrev pub block_of : ℕ → TearNext → ℕ
block_of b (Go d y) = d
block_of b (Answer a) = b

abbrev pub point_of : TearNext → TearPoint
point_of (Go d y) = y
point_of (Answer a) = point.Over

abbrev pub answer_of : TearNext → Option (Result (Unit {0}) EraSpent)
answer_of (Go d y) = None
answer_of (Answer a) = Some a

abbrev pub is_begin : TearPoint → Bool
is_begin point.Begin = true
is_begin y = false

abbrev pub is_over : TearPoint → Bool
is_over point.Over = true
is_over y = false

abbrev pub tear_control : Control TearState (Result (Unit {0}) EraSpent)
tear_control =
    record {
      me = λ m. m.me;
      line = λ m. [];
      fresh = λ m. is_begin m.point;
      finished = λ m. is_over m.point;
      asks = tear_ask;
      after = λ m n. record m { block = block_of m.block (tear_next m n); point = point_of (tear_next m n) };
      turns = λ m n. answer_of (tear_next m n);
    }

-- ---- what the control keeps in range

abbrev pub TearPointFits : Me → TearPoint → Type 0
TearPointFits me point.Begin = Unit {0}
TearPointFits me (point.Enter l) = l < address_limit
TearPointFits me (point.Link g) = TagFits me.geometry.wide g
TearPointFits me (point.Word g i) = TagFits me.geometry.wide g × (i < g.refs)
TearPointFits me (point.Down g i t y) = TagFits me.geometry.wide g × (i < g.refs) × (t < address_limit) × PointFits me (aims.Down t) y
TearPointFits me (point.Free g) = TagFits me.geometry.wide g
TearPointFits me point.Return = Unit {0}
TearPointFits me point.Over = Unit {0}

pub record TearInRange (m : TearState) : Type 0 where
  pub geometry : GeometryFits m.me.geometry
  pub who : m.me.who < m.me.geometry.clients
  pub first : m.first < address_limit
  pub block : m.block < address_limit
  pub point : TearPointFits m.me m.point
