-- the event of each step of a count step is the one that it tells
use Rattle.std.proofs.Common.{◌≡◌, ℕ, refl, sym, ap, ◌∙◌, subst, false, cond, eqb}
use Rattle.std.proofs.lemmas.Bool.{true≢false, and_from, lt-ltb}
use Rattle.shm_words.specs.Headers.{header_of}
use Rattle.shm_words.specs.declared.place.Place.TheVariants as place
use Rattle.shm_graph.specs.declared.{ask.{Ask.{Ask, TheVariants.{Store, Load, Exchange}}, Me.Me}, spot.Spot.Spot}
use Rattle.shm_graph.specs.{declared.memo.{Memo.Memo, Step.Step}, Events.Nothing}
use Rattle.shm_graph.specs.{Laws.{event_by, event_on, event_of, framed, Stands, Frame}, Tells.Tells, Spots.spot_at}
use Rattle.shm_graph.specs.{Asks.{at_of, Trail, seen_of}, Blocks.classes}
use Rattle.shm_graph.specs.declared.spot.Spot.TheVariants as spot
use Rattle.shm_graph.proofs.{Memos.LoadTold.is_head, Spots.SpotPlaces.spot-place}
use Rattle.shm_count.specs.declared.point.{Half.{Half, TheVariants.{Second, First}}, StepPoint.StepPoint}
use Rattle.shm_count.specs.declared.point.Aim.{TheVariants.{Up, Change, Down}, Aim}
use Rattle.shm_count.specs.Step.Control.{step_control, is_over, PartFits, block_at, PointFits, step_ask_at}
use Rattle.shm_count.specs.Step.Events.{event_of_half, step_event_at, step_event}
use Rattle.shm_count.specs.{Step.{StepFits, CanStep, PointHolds, op_of}, Proved.Step.Memos.half_op}
use Rattle.shm_count.specs.Proved.Step.{Committing.slot_set, Cores.IsStepSlot, BeforeExchange.row_spot}
use Rattle.shm_count.specs.Proved.Step.Headers.{half_block}
use Rattle.shm_count.specs.declared.point.StepPoint.TheVariants as point

-- a step at another word than a header is no event
elsewhere : (m : Memo) (t : Step) (a : Ask) (p q : Spot) → p ≡ q → is_head q ≡ false → event_by m t a p ≡ Nothing
elsewhere m t a p q e n = ap (event_by m t a) e ∙ go a q n
  where
    go : (b : Ask) (x : Spot) → is_head x ≡ false → event_by m t b x ≡ Nothing
    go (Load at) x z = refl
    go (Store at v) (spot.Head b) z = absurd (true≢false z)
    go (Exchange at from to) (spot.Head b) z = absurd (true≢false z)
    go (Store at v) x z = refl
    go (Exchange at from to) x z = refl

-- so is one that is asked for there
pub quiet : (me : Me) (w : Spot → ℕ) (r : ℕ → Memo) (f : Frame) (a : Ask) (q : Spot) → spot_at me.geometry (classes w) (at_of a) ≡ q → is_head q ≡ false
    → let s = spot_at me.geometry (classes w) (at_of a) in event_on (r me.who) (framed me a f (seen_of a (w s))) s ≡ Nothing
quiet me w r f a q e n = let s = spot_at me.geometry (classes w) (at_of a) in elsewhere (r me.who) (framed me a f (seen_of a (w s))) a s q e n

-- a slot is no header
slot_quiet : (c : ℕ) (p : Spot) → IsStepSlot c p → is_head p ≡ false
slot_quiet c (spot.Root d k) s = refl
slot_quiet c (spot.Home d) s = refl
slot_quiet c (spot.Slot i j k) s = refl
slot_quiet c (spot.Body b i) s = refl
slot_quiet c _ s = absurd s

-- the step in progress tells the event of its half
half_event : (me : Me) (x : Aim) (p : Spot) (e : ℕ) (h : Half) → PartFits x h → event_of me.who (op_of x p e h) ≡ event_of_half me x p h
half_event me (Up b) p e First fits = refl
half_event me (Down b) p e First fits = refl
half_event me (Change a b) p e First fits = refl
half_event me (Change a b) p e Second fits = refl
half_event me (Up b) p e Second fits = absurd fits
half_event me (Down b) p e Second fits = absurd fits

-- the event at a point: that of the exchange of the header, which finds it, and otherwise none
pub tells_at : (me : Me) (slot : ℕ) (x : Aim) (p : Spot) (r0 : Memo) (w : Spot → ℕ) (r : ℕ → Memo) (f : Frame) (tr : Trail) (y : StepPoint) → Stands me w r f tr → CanStep me slot x p r0 → PointFits me x y → PointHolds me slot x p r0 (r me.who) y → is_over y ≡ false
    → let a : Ask = step_ask_at me slot x y in let s = spot_at me.geometry (classes w) (at_of a) in event_on (r me.who) (framed me a f (seen_of a (w s))) s ≡ step_event_at me x p y (seen_of a (w s))
tells_at me slot x p r0 w r f tr point.Era st can fits h o = refl
tells_at me slot x p r0 w r f tr (point.More e) st can fits h o = quiet me w r f (step_ask_at me slot x (point.More e)) (spot.RedoMore me.who) (spot-place me.geometry (classes w) (place.RedoMore me.who) (and_from _ _ fits.1 (lt-ltb me.who me.geometry.clients st.who))) refl
tells_at me slot x p r0 w r f tr (point.Redo e) st can fits h o = quiet me w r f (step_ask_at me slot x (point.Redo e)) (spot.Redo me.who) (spot-place me.geometry (classes w) (place.Redo me.who) (lt-ltb me.who me.geometry.clients st.who)) refl
tells_at me slot x p r0 w r f tr (point.Load e i) st can fits h o = refl
tells_at me slot x p r0 w r f tr (point.Row e i k) st can fits h o = refl
tells_at me slot x p r0 w r f tr (point.Show e i k) st can fits h o = quiet me w r f (step_ask_at me slot x (point.Show e i k)) (spot.Era me.who (header_of k).client) (row_spot me w (header_of k).client st.who h.has.1.client) refl
tells_at me slot x p r0 w r f tr (point.Exchange e i k) st can fits h o =
    let b : ℕ = block_at x i in
    let t : ℕ → Step = λ n. framed me (step_ask_at me slot x (point.Exchange e i k)) f n in
    let place : spot_at me.geometry (classes w) b ≡ spot.Head b = half_block me slot p r0 w r e st.held st.who x i can fits.0 fits.1 h.has.0 in
    subst (λ s. event_on (r me.who) (t (w s)) s ≡ step_event_at me x p (point.Exchange e i k) (w s)) (sym place)
    (ap (λ y. cond (eqb (w (spot.Head b)) k) y Nothing) (ap (event_of me.who) (half_op me slot p r0 (r me.who) e x i can fits.0 fits.1 h.has.0) ∙ half_event me x p e i fits.1))
tells_at me slot x p r0 w r f tr (point.Slot e z) st can fits h o =
    let at = slot_set me slot x p r0 w r e z st.held st.who can fits h in
    quiet me w r f (step_ask_at me slot x (point.Slot e z)) p at.place (slot_quiet me.who p at.kind)
tells_at me slot x p r0 w r f tr (point.Close e i z) st can fits h o = quiet me w r f (step_ask_at me slot x (point.Close e i z)) (spot.Era me.who me.who) (spot-place me.geometry (classes w) (place.Era me.who me.who) (and_from _ _ (lt-ltb me.who me.geometry.clients st.who) (lt-ltb me.who me.geometry.clients st.who))) refl
tells_at me slot x p r0 w r f tr point.Over st can fits h o = absurd (true≢false o)

-- in any frame
pub step_tells : (p : Spot) → Tells step_control (StepFits p) (step_event p)
step_tells p m r0 tr w r f going st fit = tells_at m.me m.slot m.aim p r0 w r f tr m.point st fit.can fit.knows.point fit.holds going
