-- each word step of a tear-down keeps the invariant, and its memo fits again or holds what is answered
use Rattle.std.proofs.{Common.{true, ◌≡◌, ◌≢◌, ℕ, false, List}, lemmas.Bool.true≢false}
use Rattle.shm_graph.specs.{declared.{ask.Me.Me, spot.Spot.Spot, memo.Memo.Memo}, Asks.{Trail, at_of, seen_of}}
use Rattle.shm_graph.specs.{Blocks.classes, Spots.spot_at, Events.Event, Laws.{Frame, Stands, EachStepKeeps, Laws}}
use Rattle.shm_graph.specs.Tells.{happens_along}
use Rattle.shm_graph.proofs.StepKinds.KindKeeping.{not_fresh}
use Rattle.shm_count.specs.declared.tear_point.TearPoint.{TearPoint}
use Rattle.shm_count.specs.declared.tear_point.TearPoint.TheVariants.{Begin, Enter, Link, Word, Down, Free, Return, Over}
use Rattle.shm_count.specs.Tear.{Control.{tear_ask, tear_control, TearPointFits}, Events.{tear_event, tear_start}}
use Rattle.shm_count.specs.{Tear.{CanTear, TearHolds, TearFits, TearGives}, Proved.Tear.Going.then_holds}
use Rattle.shm_count.specs.Proved.Tear.Laws.{IsRunning, fit_runs, tear_steady, tear_inside, tear_back}
use Rattle.shm_count.specs.Proved.Tear.{Lowering.down_step, TagLoads.{TearKept, begin_step, enter_step, return_step}}
use Rattle.shm_count.specs.Proved.Tear.{Storing.{link_step, free_step}, Words.word_step}
use Rattle.plans.specs.Proved.Grown.{grows_more}

-- the step at a point
pub tear_at : (me : Me) (first : ℕ) (r0 : Memo) (b : ℕ) (w : Spot → ℕ) (r : ℕ → Memo) (f : Frame) (tr : Trail) (es : List Event) (y : TearPoint) → IsRunning y → Stands me w r f tr → (y ≢ Begin → f.fresh ≡ false) → CanTear me first r0 → TearPointFits me y → TearHolds me first r0 b y (r me.who) es tr
    → TearKept me first r0 b w r f tr es y
tear_at me first r0 b w r f tr es Begin o s going can l h = begin_step me first r0 b w r f tr es s h
tear_at me first r0 b w r f tr es (Enter d) o s going can l h = enter_step me first r0 b d w r f tr es s h
tear_at me first r0 b w r f tr es (Link g) o s going can l h = link_step me first r0 b g w r f tr es s (going (λ z. cc)) can l h
tear_at me first r0 b w r f tr es (Word g i) o s going can l h = word_step me first r0 b g i w r f tr es s can h
tear_at me first r0 b w r f tr es (Down g i t y) o s going can l h = down_step me first r0 b g i t y w r f tr es s (going (λ z. cc)) o can l h
tear_at me first r0 b w r f tr es (Free g) o s going can l h = free_step me first r0 b g w r f tr es s (going (λ z. cc)) can h
tear_at me first r0 b w r f tr es Return o s going can l h = return_step me first r0 b w r f tr es s h
tear_at me first r0 b w r f tr es Over o s going can l h = absurd ((h.2).shows)

pub tear_keeps : EachStepKeeps tear_control TearFits TearGives
tear_keeps m r0 tr going w r f s fit =
    let es : List Event = happens_along tear_control tear_event (tear_start m) tr in
    let k = tear_at m.me m.first r0 m.block w r f tr es m.point (fit_runs m r0 (r m.me.who) tr fit) s (λ z. not_fresh m.me w r f tr s (fit.begun z)) fit.can fit.knows.point fit.holds in
    let at : Spot = spot_at m.me.geometry (classes w) (at_of (tear_ask m)) in
    record { told = k.told; step = k.step; fits = then_holds m r0 (r m.me.who) _ tr _ fit (grows_more true r0 (r m.me.who) m.me (tear_ask m) f (seen_of (tear_ask m) (w at)) at (λ z. absurd (true≢false z)) fit.grows) k.fits }

-- the laws of a tear-down
pub tear_laws : Laws tear_control TearFits TearGives
tear_laws = record { steady = tear_steady; inside = tear_inside; back = tear_back; keeps = tear_keeps }
