-- each word step of a count step keeps the invariant, and its memo fits again or holds what is answered
use Rattle.std.proofs.{Common.{true, ◌≡◌, ◌≢◌, ℕ, refl, false, [], ◌∷◌, ◌++◌}, lemmas.Bool.true≢false}
use Rattle.shm_graph.specs.{declared.{ask.Me.Me, spot.Spot.Spot, memo.Memo.Memo}, Spots.spot_at, Blocks.classes}
use Rattle.shm_graph.specs.Asks.{Trail, at_of, pair, seen_of}
use Rattle.shm_graph.specs.Laws.{EachStepKeeps, Then, Frame, Stands, KeptAt, Outcome}
use Rattle.shm_graph.proofs.StepKinds.KindKeeping.{not_fresh}
use Rattle.shm_count.specs.declared.point.{Aim.Aim, StepPoint.StepPoint}
use Rattle.shm_count.specs.declared.point.StepPoint.TheVariants.{Era, Redo, More, Load, Row, Show, Exchange, Slot, Close, Over}
use Rattle.shm_count.specs.declared.point.{StepState.StepState, StepNext.{StepNext, TheVariants.{Point, Answer}}}
use Rattle.shm_count.specs.Step.Control.{step_ask, step_ask_at, step_next, step_next_at, point_of, answer_of, is_over, step_control, PointFits}
use Rattle.shm_count.specs.{Step.{CanStep, PointHolds, NextHolds, StepFits, StepGives}, Proved.Step.Ranges.knows_after}
use Rattle.shm_count.specs.Proved.Step.Going.{fits_goes, gives_ends}
use Rattle.shm_count.specs.Proved.Step.BeforeExchange.{era_step, more_step, redo_step, load_step, row_step, show_step}
use Rattle.shm_count.specs.Proved.Step.{HalfExchange.exchange_step, Committing.{slot_step, close_step}}
use Rattle.plans.specs.{Grown.Grows, Proved.Grown.grows_more}

-- the step at a point
pub step_at : (me : Me) (slot : ℕ) (x : Aim) (p : Spot) (r0 : Memo) (w : Spot → ℕ) (r : ℕ → Memo) (f : Frame) (tr : Trail) (y : StepPoint) → is_over y ≡ false → Stands me w r f tr → (y ≢ Era → f.fresh ≡ false) → CanStep me slot x p r0 → PointFits me x y → PointHolds me slot x p r0 (r me.who) y
    → KeptAt me w r (step_ask_at me slot x y) f (λ n m. NextHolds me slot x p r0 m (step_next_at me x y n)) (spot_at me.geometry (classes w) (at_of (step_ask_at me slot x y)))
step_at me slot x p r0 w r f tr Era o s going can l h = era_step me slot x p r0 w r f tr s can l h
step_at me slot x p r0 w r f tr (Redo e) o s going can l h = redo_step me slot x p r0 w r f tr e s (going (λ z. cc)) can l h
step_at me slot x p r0 w r f tr (More e) o s going can l h = more_step me slot x p r0 w r f tr e s (going (λ z. cc)) can l h
step_at me slot x p r0 w r f tr (Load e i) o s going can l h = load_step me slot x p r0 w r f tr e i s (going (λ z. cc)) can l h
step_at me slot x p r0 w r f tr (Row e i k) o s going can l h = row_step me slot x p r0 w r f tr e i k s (going (λ z. cc)) can l h
step_at me slot x p r0 w r f tr (Show e i k) o s going can l h = show_step me slot x p r0 w r f tr e i k s (going (λ z. cc)) can l h
step_at me slot x p r0 w r f tr (Exchange e i k) o s going can l h = exchange_step me slot x p r0 w r f tr e i k s (going (λ z. cc)) can l h
step_at me slot x p r0 w r f tr (Slot e z) o s going can l h = slot_step me slot x p r0 w r f tr e z s (going (λ z. cc)) can l h
step_at me slot x p r0 w r f tr (Close e i z) o s going can l h = close_step me slot x p r0 w r f tr e i z s (going (λ z. cc)) can l h
step_at me slot x p r0 w r f tr Over o s going can l h = absurd (true≢false o)

-- what holds after a step: it fits again, or gives what it answers
then_holds : (p : Spot) (m : StepState) (r0 r x : Memo) (tr : Trail) (n : ℕ) → StepFits p m r0 r tr → Grows true r0 x → NextHolds m.me m.slot m.aim p r0 x (step_next m n) → Then step_control (StepFits p) (StepGives p) m r0 tr n x
then_holds p m r0 r x tr n fit grows h = go (step_next m n) refl h
  where
    go : (y : StepNext) → step_next m n ≡ y → NextHolds m.me m.slot m.aim p r0 x y
        → Outcome (answer_of y) (StepFits p (record m { point = point_of y }) r0 x (tr ++ pair (step_ask m) n ∷ [])) (StepGives p m r0 x (tr ++ pair (step_ask m) n ∷ []))
    go (Point y) e z = fits_goes p m r0 r x tr n y fit e (knows_after m n fit.knows y e) grows z
    go (Answer a) e z = gives_ends p m r0 r x tr n a fit e grows z

pub step_keeps : (p : Spot) → EachStepKeeps step_control (StepFits p) (StepGives p)
step_keeps p m r0 tr going w r f s fit =
    let k = step_at m.me m.slot m.aim p r0 w r f tr m.point going s (λ z. not_fresh m.me w r f tr s (fit.begun z)) fit.can fit.knows.point fit.holds in
    let at : Spot = spot_at m.me.geometry (classes w) (at_of (step_ask m)) in
    record { told = k.told; step = k.step; fits = then_holds p m r0 (r m.me.who) _ tr _ fit (grows_more true r0 (r m.me.who) m.me (step_ask m) f (seen_of (step_ask m) (w at)) at (λ z. absurd (true≢false z)) fit.grows) k.fits }
