-- a tear-down that works alone ends: the loss of each reference and the freeing of each block pay for what comes before the next of them: what is proved of it
use Rattle.std.proofs.Common.{◌≡◌, ℕ, ◌+◌, ◌-◌, ◌*◌, ◌%◌, ◌<◌, arith, Bool, true, false, eqb, ltb, List}
use Rattle.std.proofs.lemmas.Bool.{true≢false}
use Rattle.std.specs.Prelude.{Result, Ok, Err}
use Rattle.shm_words.specs.{declared.tag.Tag.Tag as ATag, Layout.address_limit, Tags.TagFits}
use Rattle.shm_graph.specs.declared.{ask.{Ask.Ask, Me.Me}, memo.Memo.Memo, spot.Spot.{Spot, TheVariants.Body}}
use Rattle.shm_graph.specs.{Asks.{Trail, at_of, seen_of, words_after}, Blocks.classes, Events.Event}
use Rattle.shm_graph.specs.{Laws.{Frame, Outcome, Stands}, Spots.spot_at, Tells.happens_along}
use Rattle.shm_graph.proofs.StepKinds.Loads.{choice}
use Rattle.shm_count.specs.declared.{answer.UpFault.UpFault, point.StepNext.StepNext, tear_point.TearPoint.TearPoint}
use Rattle.shm_count.specs.declared.tear_point.TearNext.{TearNext, TheVariants.{Go, Answer}}
use Rattle.shm_count.specs.Step.Events.{step_event_at}
use Rattle.shm_count.specs.Tear.Control.{word_address, tag_read, word_or_free, relinked, entered_next, word_next, lowered_next, freed_next, down_next, tear_ask_at, tear_next_at, point_of, answer_of, is_over, tear_control, TearPointFits}
use Rattle.shm_count.specs.Tear.{Events.{tear_event, tear_start}, TearHolds, TearFits}
use Rattle.shm_count.specs.Proved.Tear.{Laws.{IsRunning, fit_runs}, Ranges.read_fits}
use Rattle.shm_count.specs.declared.point.Aim.TheVariants as aims
use Rattle.shm_count.specs.declared.point.StepPoint.TheVariants as step
use Rattle.shm_count.specs.declared.point.StepNext.TheVariants as next
use Rattle.shm_count.specs.declared.tear_point.TearPoint.TheVariants as point
use Rattle.shm_count.specs.Step.Control as steps
use Rattle.shm_alone.specs.{Alone.{pay, weight, EndsAlone}, StepEnds.{point_left, StepGoes}}
use Rattle.shm_alone.specs.Proved.StepEnds.{redo_few, down_owes}
use Rattle.shm_alone.specs.TearEnds.{tear_point_alone, tear_alone, tear_point_left, tear_left, tear_saved, TearGoes, TearOwes}

-- ---- where it goes

-- the next reference word, or the header
word_goes : (wide : Bool) (b : ℕ) (g : ATag) (i n : ℕ) (w : Spot → ℕ) → TagFits wide g → 26 - i < n → 1 < n → TearGoes wide w n (Go b (word_or_free g i))
word_goes wide b g i n w fits l k =
    choice (λ y. TearGoes wide w n (Go b y)) (ltb i g.refs) (point.Word g i) (point.Free g)
    (λ z. (tt, l))
    (λ z. (tt, k))

-- by the tag of a block that is entered
entered_goes : (wide : Bool) (b l n : ℕ) (w : Spot → ℕ) → TearGoes wide w 28 (entered_next wide b l n)
entered_goes wide b l n w =
    choice (λ y. TearGoes wide w 28 (Go b y)) (eqb (tag_read wide n).link l) (word_or_free (tag_read wide n) 0) (point.Link (relinked wide (tag_read wide n) l))
    (λ z. word_goes wide b (tag_read wide n) 0 28 w (read_fits wide n) (omega arith) (omega arith))
    (λ z. (tt, omega arith))

-- by a reference word
found_goes : (wide : Bool) (b : ℕ) (g : ATag) (i n : ℕ) (w : Spot → ℕ) → TagFits wide g → i < g.refs → TearGoes wide w (26 - i + 0) (word_next b g i n)
found_goes wide b g i n w fits l =
    let most = fits.refs in
    let few = redo_few wide in
    choice (λ y. TearGoes wide w (26 - i + 0) (Go b y)) (eqb (n % address_limit) 0) (word_or_free g (i + 1)) (point.Down g i (n % address_limit) step.Era)
    (λ z. word_goes wide b g (i + 1) (26 - i + 0) w fits (omega arith) (omega arith))
    (λ z. (tt, omega arith))

-- once a block is free
freed_goes : (wide : Bool) (g : ATag) (w : Spot → ℕ) → TearGoes wide w 257 (freed_next g)
freed_goes wide g w = choice (TearGoes wide w 257) (eqb g.link 0) (Answer (Ok tt)) (Go g.link point.Return) (λ z. omega arith) (λ z. (tt, omega arith))

-- by what a step down answered
lowered_goes : (wide : Bool) (b : ℕ) (g : ATag) (i t n : ℕ) (w : Spot → ℕ) (a : Result Bool UpFault) → TagFits wide g → StepGoes wide (aims.Down t) w n (next.Answer a) → TearGoes wide w n (lowered_next b g i t a)
lowered_goes wide b g i t n w (Ok true) fits h = (tt, omega arith)
lowered_goes wide b g i t n w (Ok false) fits h = word_goes wide b g (i + 1) n w fits (omega arith) (omega arith)
lowered_goes wide b g i t n w (Err f) fits h = omega arith

-- by where a step down goes
down_goes : (wide : Bool) (b : ℕ) (g : ATag) (i t n : ℕ) (w : Spot → ℕ) (z : StepNext) → TagFits wide g → StepGoes wide (aims.Down t) w n z → TearGoes wide w n (down_next b g i t z)
down_goes wide b g i t n w (next.Point y) fits h = h
down_goes wide b g i t n w (next.Answer a) fits h = lowered_goes wide b g i t n w a fits h

-- the word step at a point of a tear-down
tear_owes : (me : Me) (first : ℕ) (r0 : Memo) (w : Spot → ℕ) (r : ℕ → Memo) (f : Frame) (tr : Trail) (b : ℕ) (es : List Event) (y : TearPoint) → is_over y ≡ false → IsRunning y → Stands me w r f tr → TearPointFits me y → TearHolds me first r0 b y (r me.who) es tr → tear_point_alone y w
    → let a : Ask = tear_ask_at me b y in let s = spot_at me.geometry (classes w) (at_of a) in TearOwes me b y (seen_of a (w s)) (words_after w a s)
tear_owes me first r0 w r f tr b es point.Begin o c st fits h is = record { loss = tt; goes = entered_goes me.geometry.wide b 0 (w (spot_at me.geometry (classes w) (b + 1))) w }
tear_owes me first r0 w r f tr b es (point.Enter l) o c st fits h is = record { loss = tt; goes = entered_goes me.geometry.wide b l (w (spot_at me.geometry (classes w) (b + 1))) w }
tear_owes me first r0 w r f tr b es (point.Link g) o c st fits h is =
    let a : Ask = tear_ask_at me b (point.Link g) in
    record { loss = tt; goes = word_goes me.geometry.wide b g 0 27 (words_after w a (spot_at me.geometry (classes w) (at_of a))) fits (omega arith) (omega arith) }
tear_owes me first r0 w r f tr b es (point.Word g i) o c st fits h is = record { loss = tt; goes = found_goes me.geometry.wide b g i (w (spot_at me.geometry (classes w) (word_address b i))) w fits.0 fits.1 }
tear_owes me first r0 w r f tr b es (point.Down g i t y) o c st fits h is =
    let a : Ask = tear_ask_at me b (point.Down g i t y) in
    let s : Spot = spot_at me.geometry (classes w) (at_of a) in
    let n : ℕ = seen_of a (w s) in
    let d = down_owes me (word_address b i) t (Body b i) h.2 w r f tr y c st h.6 fits.3 h.7 is in
    record { loss = d.loss; goes = down_goes me.geometry.wide b g i t (point_left me.geometry.wide y + pay * weight (step_event_at me (aims.Down t) (Body b i) y n)) (words_after w a s) (steps.step_next_at me (aims.Down t) y n) fits.0 d.goes }
tear_owes me first r0 w r f tr b es (point.Free g) o c st fits h is =
    let a : Ask = tear_ask_at me b (point.Free g) in
    record { loss = tt; goes = freed_goes me.geometry.wide g (words_after w a (spot_at me.geometry (classes w) (at_of a))) }
tear_owes me first r0 w r f tr b es point.Return o c st fits h is =
    let n : ℕ = w (spot_at me.geometry (classes w) (b + 1)) in
    record { loss = tt; goes = word_goes me.geometry.wide b (tag_read me.geometry.wide n) 0 27 w (read_fits me.geometry.wide n) (omega arith) (omega arith) }
tear_owes me first r0 w r f tr b es point.Over o c st fits h is = absurd (true≢false o)

-- ---- in any frame

-- where a step leads it knows what it has to, and has less than n left or over
goes_alone : (wide : Bool) (w : Spot → ℕ) (n : ℕ) (z : TearNext) → TearGoes wide w n z → Outcome (answer_of z) (tear_point_alone (point_of z) w) (λ a. Unit {0})
goes_alone wide w n (Go d y) h = h.0
goes_alone wide w n (Answer a) h = tt

goes_less : (wide : Bool) (w : Spot → ℕ) (n : ℕ) (z : TearNext) → TearGoes wide w n z → Outcome (answer_of z) (tear_point_left wide (point_of z) < n) (λ a. tear_saved a < n)
goes_less wide w n (Go d y) h = h.1
goes_less wide w n (Answer a) h = h

-- a tear-down that works alone ends
pub tear_ends : EndsAlone tear_control tear_event tear_alone tear_left tear_saved TearFits
tear_ends m r0 tr w r f going st fit is =
    let a : Ask = tear_ask_at m.me m.block m.point in
    let s : Spot = spot_at m.me.geometry (classes w) (at_of a) in
    let n : ℕ = seen_of a (w s) in
    let most : ℕ = tear_left m + pay * weight (tear_event m n) in
    let h = tear_owes m.me m.first r0 w r f tr m.block (happens_along tear_control tear_event (tear_start m) tr) m.point going (fit_runs m r0 (r m.me.who) tr fit) st fit.knows.point fit.holds is in
    record {
      loss = h.loss;
      alone = goes_alone m.me.geometry.wide (words_after w a s) most (tear_next_at m.me m.block m.point n) h.goes;
      paid = goes_less m.me.geometry.wide (words_after w a s) most (tear_next_at m.me m.block m.point n) h.goes;
    }
