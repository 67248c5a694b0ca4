-- what the control of a tear-down keeps in range, it keeps there
use Rattle.std.proofs.Common.{◌≡◌, ℕ, ◌+◌, ◌%◌, ◌<◌, ◌==◌, nat_lt, if◌then◌else◌, Bool, true, false, Option, Some, None, refl, subst, arith}
use Rattle.std.proofs.lemmas.Bool.{ltb-true}
use Rattle.std.specs.Prelude.{Result, Ok, Err}
use Rattle.shm_words.specs.{declared.tag.Tag.Tag as ATag, Tags.{tag_of, TagFits}, Layout.address_limit}
use Rattle.shm_words.proofs.Words.{tag_fits, place_some, place_most, place_below}
use Rattle.shm_graph.specs.declared.ask.Me.{Me}
use Rattle.shm_count.specs.declared.{answer.UpFault.UpFault, point.StepNext.StepNext, tear_point.TearPoint.TearPoint}
use Rattle.shm_count.specs.declared.tear_point.{TearState.TearState, TearNext.{TearNext, TheVariants.{Go, Answer}}}
use Rattle.shm_count.specs.Step.Control.{step_next_at}
use Rattle.shm_count.specs.Tear.Control.{or_empty, tag_read, word_or_free, entered_next, lowered_next, freed_next, down_next, tear_next, tear_next_at, block_of, point_of, tear_control, TearPointFits, TearInRange, relinked}
use Rattle.shm_count.specs.declared.point.Aim.TheVariants as aims
use Rattle.shm_count.specs.declared.point.StepPoint.TheVariants as step
use Rattle.shm_count.specs.declared.point.StepNext.TheVariants as next
use Rattle.shm_count.specs.declared.tear_point.TearPoint.TheVariants as point
use Rattle.shm_count.specs.Proved.Step.Ranges as steps

-- where it goes on, block and point are in range
abbrev NextFits : Me → TearNext → Type 0
NextFits me (Go d y) = (d < address_limit) × TearPointFits me y
NextFits me (Answer a) = Unit {0}

-- one of two points, each in range where it is taken
chosen : (me : Me) (b : Bool) (y z : TearPoint) → (b ≡ true → TearPointFits me y) → (b ≡ false → TearPointFits me z) → TearPointFits me (if b then y else z)
chosen me true y z f h = f refl
chosen me false y z f h = h refl

-- a tag that was read is in range, and so is the empty one
pub read_fits : (wide : Bool) (n : ℕ) → TagFits wide (tag_read wide n)
read_fits wide n = go (tag_of wide n) refl
  where
    go : (o : Option ATag) → tag_of wide n ≡ o → TagFits wide (or_empty o)
    go None e = record { refs = omega arith; plain = omega arith; author = omega arith; link = place_some wide }
    go (Some g) e = tag_fits wide n g e

-- so is a tag with another link in range
linked_fits : (wide : Bool) (g : ATag) (l : ℕ) → TagFits wide g → TagFits wide (relinked wide g l)
linked_fits wide g l f = record { refs = f.refs; plain = f.plain; author = f.author; link = place_below wide l }

-- the next reference word, or the header
word_fits : (me : Me) (g : ATag) (i : ℕ) → TagFits me.geometry.wide g → TearPointFits me (word_or_free g i)
word_fits me g i f = chosen me (nat_lt i g.refs) (point.Word g i) (point.Free g) (λ e. (f, ltb-true i g.refs e)) (λ e. f)

-- where it goes from the tag of a block that is entered
entered_fits : (me : Me) (b l n : ℕ) → b < address_limit → l < address_limit → NextFits me (entered_next me.geometry.wide b l n)
entered_fits me b l n h k = (
  h,
  chosen me ((tag_read me.geometry.wide n).link == l) (word_or_free (tag_read me.geometry.wide n) 0) (point.Link (relinked me.geometry.wide (tag_read me.geometry.wide n) l))
      (λ e. word_fits me (tag_read me.geometry.wide n) 0 (read_fits me.geometry.wide n))
      (λ e. linked_fits me.geometry.wide (tag_read me.geometry.wide n) l (read_fits me.geometry.wide n)),
)

-- where it goes from a reference word
found_fits : (me : Me) (g : ATag) (i n : ℕ) → TagFits me.geometry.wide g → i < g.refs → TearPointFits me (if n % address_limit == 0 then word_or_free g (i + 1) else point.Down g i (n % address_limit) step.Era)
found_fits me g i n f l = chosen me (n % address_limit == 0) (word_or_free g (i + 1)) (point.Down g i (n % address_limit) step.Era) (λ e. word_fits me g (i + 1) f) (λ e. (f, l, omega arith, tt))

-- where it goes by what a step down answered
lowered_fits : (me : Me) (b : ℕ) (g : ATag) (i t : ℕ) (a : Result Bool UpFault) → b < address_limit → TagFits me.geometry.wide g → t < address_limit → NextFits me (lowered_next b g i t a)
lowered_fits me b g i t (Ok true) h f k = (k, h)
lowered_fits me b g i t (Ok false) h f k = (h, word_fits me g (i + 1) f)
lowered_fits me b g i t (Err e) h f k = tt

-- where it goes by where a step down goes
down_fits : (me : Me) (b : ℕ) (g : ATag) (i t : ℕ) (y : StepNext) → b < address_limit → TagFits me.geometry.wide g → i < g.refs → t < address_limit → steps.NextFits me (aims.Down t) y → NextFits me (down_next b g i t y)
down_fits me b g i t (next.Point y) h f l k s = (h, (f, l, k, s))
down_fits me b g i t (next.Answer a) h f l k s = lowered_fits me b g i t a h f k

-- where it goes once a block is free
freed_fits : (me : Me) (g : ATag) → TagFits me.geometry.wide g → NextFits me (freed_next g)
freed_fits me g f = go (g.link == 0)
  where
    go : (b : Bool) → NextFits me (if b then Answer (Ok tt) else Go g.link point.Return)
    go true = tt
    go false = (let m = place_most me.geometry.wide in let l = f.link in omega arith, tt)

-- where it goes from a point in range is in range
next_fits : (me : Me) (b : ℕ) (y : TearPoint) (n : ℕ) → b < address_limit → TearPointFits me y → NextFits me (tear_next_at me b y n)
next_fits me b point.Begin n h k = entered_fits me b 0 n h (omega arith)
next_fits me b (point.Enter l) n h k = entered_fits me b l n h k
next_fits me b (point.Link g) n h k = (h, word_fits me g 0 k)
next_fits me b (point.Word g i) n h k = (h, found_fits me g i n k.0 k.1)
next_fits me b (point.Down g i t y) n h k = down_fits me b g i t (step_next_at me (aims.Down t) y n) h k.0 k.1 k.2 (steps.next_fits me (aims.Down t) y n k.3)
next_fits me b (point.Free g) n h k = freed_fits me g k
next_fits me b point.Return n h k = (h, word_fits me (tag_read me.geometry.wide n) 0 (read_fits me.geometry.wide n))
next_fits me b point.Over n h k = (h, tt)

-- what the control keeps in range stays there
pub knows_after : (m : TearState) (n : ℕ) → TearInRange m → TearInRange (tear_control.after m n)
knows_after m n k = go (tear_next m n) (next_fits m.me m.block m.point n k.block k.point)
  where
    go : (y : TearNext) → NextFits m.me y → TearInRange (record m { block = block_of m.block y; point = point_of y })
    go (Go d y) h = record { geometry = k.geometry; who = k.who; first = k.first; block = h.0; point = h.1 }
    go (Answer a) h = record { geometry = k.geometry; who = k.who; first = k.first; block = k.block; point = tt }

-- where it goes on, the next point is in range
pub knows_next : (m : TearState) (n d : ℕ) (y : TearPoint) → TearInRange m → tear_next m n ≡ Go d y → TearInRange (record m { block = d; point = y })
knows_next m n d y k e = subst (λ (z : TearNext). TearInRange (record m { block = block_of m.block z; point = point_of z })) e (knows_after m n k)
