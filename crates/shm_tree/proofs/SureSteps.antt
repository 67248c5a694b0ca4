-- No exchange of a count step, or of a tear-down, fails where nobody else steps: it exchanges the header that was read.
use Rattle.std.proofs.Common.{◌≡◌, ℕ, ◌+◌, sym, ap, ◌∙◌, refl, subst, Bool, true, false, eqb, ltb, ◌&&◌, ◌%◌, List}
use Rattle.std.proofs.lemmas.Bool.{true≢false, eq-eqb}
use Rattle.std.specs.Prelude.{Result, Ok, Err, if◌then◌else◌}
use Rattle.shm_words.specs.{declared.tag.Tag.Tag as ATag, Headers.header_of, Layout.address_limit}
use Rattle.shm_graph.specs.declared.{ask.{Ask.Ask, Me.Me}, memo.Memo.Memo, spot.Spot.{Spot, TheVariants.{Body, Head}}}
use Rattle.shm_graph.specs.{Asks.{Trail, at_of, failed_by, seen_of, words_after}, Blocks.classes, Events.Event}
use Rattle.shm_graph.specs.{Laws.{Frame, Outcome, Stands}, Spots.spot_at, Tells.happens_along}
use Rattle.shm_graph.proofs.StepKinds.Loads.{choice}
use Rattle.shm_count.specs.declared.{answer.UpFault.UpFault, point.Aim.{Aim, TheVariants.{Up, Down, Change}}}
use Rattle.shm_count.specs.declared.point.{Half.Half, StepPoint.StepPoint, StepState.StepState, StepNext.StepNext}
use Rattle.shm_count.specs.declared.tear_point.{TearPoint.TearPoint, TearState.TearState, TearNext.TearNext}
use Rattle.shm_count.specs.Step.Control.{PointFits, block_at, closed_next, committed_next, era_next, exchange_next, first_next, header_next, last_era, raises, row_next, step_ask_at, step_control, step_next_at}
use Rattle.shm_count.specs.{Step.{CanStep, PointHolds, StepFits}, Proved.Step.Headers.half_block}
use Rattle.shm_count.specs.{Proved.{Step.BeforeExchange.row_spot, Tear.Laws.{IsRunning, fit_runs}}, StepsFrom.FitsFrom}
use Rattle.shm_count.specs.Tear.Control.{TearPointFits, down_next, entered_next, freed_next, lowered_next, relinked, tag_read, tear_ask_at, tear_control, tear_next_at, word_address, word_next, word_or_free}
use Rattle.shm_count.specs.Tear.{Events.{tear_event, tear_start}, TearFits, TearHolds}
use Rattle.shm_count.specs.declared.answer.UpFault.TheVariants as fault
use Rattle.shm_count.specs.declared.point.Half.TheVariants as half
use Rattle.shm_count.specs.declared.point.StepPoint.TheVariants as step
use Rattle.shm_count.specs.declared.point.StepNext.TheVariants as next
use Rattle.shm_count.specs.declared.tear_point.TearPoint.TheVariants as point
use Rattle.shm_count.specs.declared.tear_point.TearNext.TheVariants as tear
use Rattle.shm_count.specs.Step.Control as steps
use Rattle.shm_count.specs.Tear.Control as tears
use Rattle.shm_tree.proofs.Sure.{AreSure}

-- ---- count steps

-- the header that was read is still in the header word of its block
abbrev pub point_knows : Aim → StepPoint → (Spot → ℕ) → Type 0
point_knows x (step.Row e h k) w = w (Head (block_at x h)) ≡ k
point_knows x (step.Show e h k) w = w (Head (block_at x h)) ≡ k
point_knows x (step.Exchange e h k) w = w (Head (block_at x h)) ≡ k
point_knows x y w = Unit {0}

abbrev pub step_knows : StepState → (Spot → ℕ) → Type 0
step_knows m w = point_knows m.aim m.point w

abbrev next_knows : Aim → (Spot → ℕ) → StepNext → Type 0
next_knows x w (next.Point y) = point_knows x y w
next_knows x w (next.Answer a) = Unit {0}

-- by a header that was read, and is there
header_knows : (me : Me) (x : Aim) (e : ℕ) (h : Half) (k : ℕ) (w : Spot → ℕ) → w (Head (block_at x h)) ≡ k → next_knows x w (header_next me x e h k)
header_knows me x e h k w is =
    choice (next_knows x w) ((raises x h) && eqb (header_of k).count 1023) (next.Answer (Err (fault.CountFull (block_at x h) (header_of k).count))) _
    (λ z. tt)
    (λ z. choice (next_knows x w) (eqb (header_of k).client me.who) (next.Point (step.Exchange e h k)) (next.Point (step.Row e h k)) (λ u. is) (λ u. is))

-- by the own row
row_knows : (x : Aim) (e : ℕ) (h : Half) (k n : ℕ) (w : Spot → ℕ) → w (Head (block_at x h)) ≡ k → next_knows x w (row_next e h k n)
row_knows x e h k n w is = choice (next_knows x w) (ltb n (header_of k).era) (next.Point (step.Show e h k)) (next.Point (step.Exchange e h k)) (λ z. is) (λ z. is)

-- by the own era
pub first_knows : (x : Aim) (wide : Bool) (n : ℕ) (w : Spot → ℕ) → point_knows x (if wide then step.More n else step.Redo n) w
first_knows x true n w = tt
first_knows x false n w = tt

era_knows : (me : Me) (x : Aim) (n : ℕ) (w : Spot → ℕ) → next_knows x w (era_next me x n)
era_knows me x n w = choice (next_knows x w) (ltb (last_era x) n) (next.Answer (Err (fault.EraSpent n))) (first_next me n) (λ z. tt) (λ z. first_knows x me.geometry.wide n w)

-- once it is committed, and once it is closed
committed_knows : (x : Aim) (e : ℕ) (h : Half) (k : ℕ) (w : Spot → ℕ) → next_knows x w (committed_next x e h k)
committed_knows x e half.First k w = tt
committed_knows x e half.Second k w = tt

closed_knows : (x : Aim) (e : ℕ) (h : Half) (z : Bool) (w : Spot → ℕ) → next_knows x w (closed_next x e h z)
closed_knows (Up b) e h z w = tt
closed_knows (Down b) e h z w = tt
closed_knows (Change a b) e half.First z w = tt
closed_knows (Change a b) e half.Second z w = tt

-- the word step at a point that found n, and left these words
record StepSure (me : Me) (slot : ℕ) (x : Aim) (y : StepPoint) (n : ℕ) (w : Spot → ℕ) : Type 0 where
  pub whole : failed_by (step_ask_at me slot x y) n ≡ 0
  pub goes : next_knows x w (step_next_at me x y n)

-- an exchange that finds the header that was read
exchanged : (me : Me) (slot : ℕ) (x : Aim) (e : ℕ) (h : Half) (k n : ℕ) (w : Spot → ℕ) → n ≡ k → StepSure me slot x (step.Exchange e h k) n w
exchanged me slot x e h k n w is =
    let same : eqb n k ≡ true = eq-eqb n k is in
    record { whole = rw same refl; goes = rw same (committed_knows x e h k w) }

module _ (me : Me) (slot : ℕ) (x : Aim) (p : Spot) (r0 : Memo) (w : Spot → ℕ) (r : ℕ → Memo) (f : Frame) (tr : Trail) where
  -- the words after the own row shows the era
  shown_words : (e : ℕ) (h : Half) (k : ℕ) → Stands me w r f tr → PointHolds me slot x p r0 (r me.who) (step.Show e h k) → w (Head (block_at x h)) ≡ k
      → let a : Ask = step_ask_at me slot x (step.Show e h k) in words_after w a (spot_at me.geometry (classes w) (at_of a)) (Head (block_at x h)) ≡ k
  shown_words e h k st holds is =
      subst (λ (s : Spot). words_after w (step_ask_at me slot x (step.Show e h k)) s (Head (block_at x h)) ≡ k) (sym (row_spot me w (header_of k).client st.who holds.has.1.client)) is

  point_sure : (y : StepPoint) → steps.is_over y ≡ false → Stands me w r f tr → CanStep me slot x p r0 → PointFits me x y → PointHolds me slot x p r0 (r me.who) y → point_knows x y w
      → let a : Ask = step_ask_at me slot x y in let s = spot_at me.geometry (classes w) (at_of a) in StepSure me slot x y (seen_of a (w s)) (words_after w a s)
  point_sure step.Era o st can fits holds is = record { whole = refl; goes = era_knows me x _ w }
  point_sure (step.More e) o st can fits holds is = record { whole = refl; goes = tt }
  point_sure (step.Redo e) o st can fits holds is = record { whole = refl; goes = tt }
  point_sure (step.Load e h) o st can fits holds is =
      let place : spot_at me.geometry (classes w) (block_at x h) ≡ Head (block_at x h) = half_block me slot p r0 w r e st.held st.who x h can fits.0 fits.1 holds.has in
      record { whole = refl; goes = header_knows me x e h (w (spot_at me.geometry (classes w) (block_at x h))) w (ap w (sym place)) }
  point_sure (step.Row e h k) o st can fits holds is = record { whole = refl; goes = row_knows x e h k _ w is }
  point_sure (step.Show e h k) o st can fits holds is = record { whole = refl; goes = shown_words e h k st holds is }
  point_sure (step.Exchange e h k) o st can fits holds is =
      let place : spot_at me.geometry (classes w) (block_at x h) ≡ Head (block_at x h) = half_block me slot p r0 w r e st.held st.who x h can fits.0 fits.1 holds.has.0 in
      let a : Ask = step_ask_at me slot x (step.Exchange e h k) in
      exchanged me slot x e h k (w (spot_at me.geometry (classes w) (block_at x h))) (words_after w a (spot_at me.geometry (classes w) (block_at x h))) (ap w place ∙ is)
  point_sure (step.Slot e z) o st can fits holds is = record { whole = refl; goes = tt }
  point_sure (step.Close e h z) o st can fits holds is = record { whole = refl; goes = closed_knows x e h z _ }
  point_sure step.Over o st can fits holds is = absurd (true≢false o)

-- where a step leads it knows what it has to
step_goes : (x : Aim) (w : Spot → ℕ) (z : StepNext) → next_knows x w z → Outcome (steps.answer_of z) (point_knows x (steps.point_of z) w) (λ a. Unit {0})
step_goes x w (next.Point y) h = h
step_goes x w (next.Answer a) h = tt

-- a count step at p
pub step_sure : (p : Spot) → AreSure step_control step_knows (StepFits p)
step_sure p m r0 tr w r f going st fit is =
    let a : Ask = step_ask_at m.me m.slot m.aim m.point in
    let s : Spot = spot_at m.me.geometry (classes w) (at_of a) in
    let h = point_sure m.me m.slot m.aim p r0 w r f tr m.point going st fit.can fit.knows.point fit.holds is in
    record { whole = h.whole; alone = step_goes m.aim (words_after w a s) (step_next_at m.me m.aim m.point (seen_of a (w s))) h.goes }

-- and one that was taken up on its way
pub from_sure : (p : Spot) (y : StepPoint) → AreSure step_control step_knows (FitsFrom p y)
from_sure p y m r0 tr w r f going st fit is =
    let a : Ask = step_ask_at m.me m.slot m.aim m.point in
    let s : Spot = spot_at m.me.geometry (classes w) (at_of a) in
    let h = point_sure m.me m.slot m.aim p fit.r0 w r f tr m.point going st fit.came.can fit.knows.point fit.holds is in
    record { whole = h.whole; alone = step_goes m.aim (words_after w a s) (step_next_at m.me m.aim m.point (seen_of a (w s))) h.goes }

-- ---- tear-downs

-- what the step down of a reference word knows
abbrev pub tear_point_knows : TearPoint → (Spot → ℕ) → Type 0
tear_point_knows (point.Down g i t y) w = point_knows (Down t) y w
tear_point_knows y w = Unit {0}

abbrev pub tear_knows : TearState → (Spot → ℕ) → Type 0
tear_knows m w = tear_point_knows m.point w

abbrev tear_next_knows : (Spot → ℕ) → TearNext → Type 0
tear_next_knows w (tear.Go d y) = tear_point_knows y w
tear_next_knows w (tear.Answer a) = Unit {0}

word_known : (g : ATag) (i : ℕ) (w : Spot → ℕ) → tear_point_knows (word_or_free g i) w
word_known g i w = choice (λ y. tear_point_knows y w) (ltb i g.refs) (point.Word g i) (point.Free g) (λ z. tt) (λ z. tt)

entered_known : (wide : Bool) (b l n : ℕ) (w : Spot → ℕ) → tear_next_knows w (entered_next wide b l n)
entered_known wide b l n w =
    choice (λ y. tear_point_knows y w) (eqb (tag_read wide n).link l) (word_or_free (tag_read wide n) 0) (point.Link (relinked wide (tag_read wide n) l)) (λ z. word_known (tag_read wide n) 0 w) (λ z. tt)

found_known : (b : ℕ) (g : ATag) (i n : ℕ) (w : Spot → ℕ) → tear_next_knows w (word_next b g i n)
found_known b g i n w =
    choice (λ y. tear_point_knows y w) (eqb (n % address_limit) 0) (word_or_free g (i + 1)) (point.Down g i (n % address_limit) step.Era) (λ z. word_known g (i + 1) w) (λ z. tt)

freed_known : (g : ATag) (w : Spot → ℕ) → tear_next_knows w (freed_next g)
freed_known g w = choice (tear_next_knows w) (eqb g.link 0) (tear.Answer (Ok tt)) (tear.Go g.link point.Return) (λ z. tt) (λ z. tt)

lowered_known : (b : ℕ) (g : ATag) (i t : ℕ) (a : Result Bool UpFault) (w : Spot → ℕ) → tear_next_knows w (lowered_next b g i t a)
lowered_known b g i t (Ok true) w = tt
lowered_known b g i t (Ok false) w = word_known g (i + 1) w
lowered_known b g i t (Err f) w = tt

down_known : (b : ℕ) (g : ATag) (i t : ℕ) (z : StepNext) (w : Spot → ℕ) → next_knows (Down t) w z → tear_next_knows w (down_next b g i t z)
down_known b g i t (next.Point y) w h = h
down_known b g i t (next.Answer a) w h = lowered_known b g i t a w

record TearSure (me : Me) (b : ℕ) (y : TearPoint) (n : ℕ) (w : Spot → ℕ) : Type 0 where
  pub whole : failed_by (tear_ask_at me b y) n ≡ 0
  pub goes : tear_next_knows w (tear_next_at me b y n)

-- the word step at a point of a tear-down
tear_point_sure : (me : Me) (first : ℕ) (r0 : Memo) (w : Spot → ℕ) (r : ℕ → Memo) (f : Frame) (tr : Trail) (b : ℕ) (es : List Event) (y : TearPoint) → tears.is_over y ≡ false → IsRunning y → Stands me w r f tr → TearPointFits me y → TearHolds me first r0 b y (r me.who) es tr → tear_point_knows y w
    → let a : Ask = tear_ask_at me b y in let s = spot_at me.geometry (classes w) (at_of a) in TearSure me b y (seen_of a (w s)) (words_after w a s)
tear_point_sure me first r0 w r f tr b es point.Begin o c st fits h is = record { whole = refl; goes = entered_known me.geometry.wide b 0 _ w }
tear_point_sure me first r0 w r f tr b es (point.Enter l) o c st fits h is = record { whole = refl; goes = entered_known me.geometry.wide b l _ w }
tear_point_sure me first r0 w r f tr b es (point.Link g) o c st fits h is = record { whole = refl; goes = word_known g 0 _ }
tear_point_sure me first r0 w r f tr b es (point.Word g i) o c st fits h is = record { whole = refl; goes = found_known b g i _ w }
tear_point_sure me first r0 w r f tr b es (point.Down g i t y) o c st fits h is =
    let a : Ask = tear_ask_at me b (point.Down g i t y) in
    let s : Spot = spot_at me.geometry (classes w) (at_of a) in
    let n : ℕ = seen_of a (w s) in
    let d = point_sure me (word_address b i) (Down t) (Body b i) h.2 w r f tr y c st h.6 fits.3 h.7 is in
    record { whole = d.whole; goes = down_known b g i t (step_next_at me (Down t) y n) (words_after w a s) d.goes }
tear_point_sure me first r0 w r f tr b es (point.Free g) o c st fits h is = record { whole = refl; goes = freed_known g _ }
tear_point_sure me first r0 w r f tr b es point.Return o c st fits h is = record { whole = refl; goes = word_known (tag_read me.geometry.wide _) 0 w }
tear_point_sure me first r0 w r f tr b es point.Over o c st fits h is = absurd (true≢false o)

tear_goes : (w : Spot → ℕ) (z : TearNext) → tear_next_knows w z → Outcome (tears.answer_of z) (tear_point_knows (tears.point_of z) w) (λ a. Unit {0})
tear_goes w (tear.Go d y) h = h
tear_goes w (tear.Answer a) h = tt

pub tear_sure : AreSure tear_control tear_knows TearFits
tear_sure m r0 tr w r f going st fit is =
    let a : Ask = tear_ask_at m.me m.block m.point in
    let s : Spot = spot_at m.me.geometry (classes w) (at_of a) in
    let h = tear_point_sure m.me m.first r0 w r f tr m.block (happens_along tear_control tear_event (tear_start m) tr) m.point going (fit_runs m r0 (r m.me.who) tr fit) st fit.knows.point fit.holds is in
    record { whole = h.whole; alone = tear_goes (words_after w a s) (tear_next_at m.me m.block m.point (seen_of a (w s))) h.goes }
