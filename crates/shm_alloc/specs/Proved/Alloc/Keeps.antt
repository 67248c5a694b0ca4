-- each step of an allocation keeps the invariant, and its memo fits again or holds what is answered
use Rattle.std.proofs.{Common.{true, ◌≡◌, ◌≢◌, ℕ, refl, false, [], ◌∷◌, ◌++◌}, lemmas.Bool.true≢false}
use Rattle.shm_graph.specs.{declared.{ask.Me.Me, spot.Spot.Spot, memo.Memo.Memo}, Spots.spot_at, Blocks.classes}
use Rattle.shm_graph.specs.Asks.{Trail, at_of, pair, seen_of}
use Rattle.shm_graph.specs.Laws.{EachStepKeeps, Then, Frame, Stands, KeptAt, Outcome}
use Rattle.shm_graph.proofs.StepKinds.KindKeeping.{not_fresh}
use Rattle.shm_alloc.specs.declared.{request.Request.Request, point.AllocPoint.AllocPoint}
use Rattle.shm_alloc.specs.declared.point.AllocPoint.TheVariants.{Era, Root, Segment, Claim, Page, Class, Header, Tag, Reference, Plain, More, Redo, Commit, Slot, Close, Over}
use Rattle.shm_alloc.specs.declared.point.{AllocState.AllocState, AllocNext.{AllocNext, TheVariants.{Point, Answer}}}
use Rattle.shm_alloc.specs.Alloc.Control.{alloc_ask, alloc_ask_at, alloc_next, alloc_next_at, point_of, answer_of, is_over, alloc_control, RequestFits, PointFits}
use Rattle.shm_alloc.specs.Alloc.{CanAlloc, PointHolds, NextHolds, AllocFits, AllocGives}
use Rattle.shm_alloc.specs.Proved.Alloc.{Ranges.knows_after, Going.{fits_goes, gives_ends}}
use Rattle.shm_alloc.specs.Proved.Alloc.SearchSegments.{era_step, root_step, segment_step, claim_step}
use Rattle.shm_alloc.specs.Proved.Alloc.SearchPages.{page_step, class_step, header_step}
use Rattle.shm_alloc.specs.Proved.Alloc.MakingSteps.{tag_step, reference_step, plain_step}
use Rattle.shm_alloc.specs.Proved.Alloc.Live.{more_step, redo_step, commit_step, slot_step, close_step}
use Rattle.plans.specs.{Grown.Grows, Proved.Grown.grows_more}

-- the step at a point
step_at : (me : Me) (q : Request) (r0 : Memo) (w : Spot → ℕ) (r : ℕ → Memo) (f : Frame) (tr : Trail) (p : AllocPoint) → is_over p ≡ false → Stands me w r f tr → (p ≢ Era → f.fresh ≡ false) → CanAlloc me r0 → RequestFits q → PointFits me q p → PointHolds me q r0 (r me.who) p
    → KeptAt me w r (alloc_ask_at me q p) f (λ n x. NextHolds me q r0 x (alloc_next_at me q p n)) (spot_at me.geometry (classes w) (at_of (alloc_ask_at me q p)))
step_at me q r0 w r f tr Era o s going can fits l h = era_step me q r0 w r f tr s can fits l h
step_at me q r0 w r f tr (Root e k) o s going can fits l h = root_step me q r0 w r f tr e k s (going (λ z. cc)) can fits l h
step_at me q r0 w r f tr (Segment g a) o s going can fits l h = segment_step me q r0 w r f tr g a s (going (λ z. cc)) can fits l h
step_at me q r0 w r f tr (Claim g a) o s going can fits l h = claim_step me q r0 w r f tr g a s (going (λ z. cc)) can fits l h
step_at me q r0 w r f tr (Page g a p) o s going can fits l h = page_step me q r0 w r f tr g a p s (going (λ z. cc)) can fits l h
step_at me q r0 w r f tr (Class g a p) o s going can fits l h = class_step me q r0 w r f tr g a p s (going (λ z. cc)) can fits l h
step_at me q r0 w r f tr (Header g a p i) o s going can fits l h = header_step me q r0 w r f tr g a p i s (going (λ z. cc)) can fits l h
step_at me q r0 w r f tr (Tag g b) o s going can fits l h = tag_step me q r0 w r f tr g b s (going (λ z. cc)) can fits l h
step_at me q r0 w r f tr (Reference g b i) o s going can fits l h = reference_step me q r0 w r f tr g b i s (going (λ z. cc)) can fits l h
step_at me q r0 w r f tr (Plain g b i) o s going can fits l h = plain_step me q r0 w r f tr g b i s (going (λ z. cc)) can fits l h
step_at me q r0 w r f tr (More g b) o s going can fits l h = more_step me q r0 w r f tr g b s (going (λ z. cc)) can fits l h
step_at me q r0 w r f tr (Redo g b) o s going can fits l h = redo_step me q r0 w r f tr g b s (going (λ z. cc)) can fits l h
step_at me q r0 w r f tr (Commit g b) o s going can fits l h = commit_step me q r0 w r f tr g b s (going (λ z. cc)) can fits l h
step_at me q r0 w r f tr (Slot g b) o s going can fits l h = slot_step me q r0 w r f tr g b s (going (λ z. cc)) can fits l h
step_at me q r0 w r f tr (Close g b) o s going can fits l h = close_step me q r0 w r f tr g b s (going (λ z. cc)) can fits l h
step_at me q r0 w r f tr Over o s going can fits l h = absurd (true≢false o)

-- what holds after a step: it fits again, or gives what it answers
then_holds : (m : AllocState) (r0 r x : Memo) (tr : Trail) (n : ℕ) → AllocFits m r0 r tr → Grows true r0 x → NextHolds m.me m.request r0 x (alloc_next m n) → Then alloc_control AllocFits AllocGives m r0 tr n x
then_holds m r0 r x tr n fit grows h = go (alloc_next m n) refl h
  where
    go : (y : AllocNext) → alloc_next m n ≡ y → NextHolds m.me m.request r0 x y
        → Outcome (answer_of y) (AllocFits (record m { point = point_of y }) r0 x (tr ++ pair (alloc_ask m) n ∷ [])) (AllocGives m r0 x (tr ++ pair (alloc_ask m) n ∷ []))
    go (Point p) e z = fits_goes m r0 r x tr n p fit e (knows_after m n fit.knows p e) grows z
    go (Answer a) e z = gives_ends m r0 r x tr n a fit e grows z

-- each step of an allocation keeps the invariant, and what comes next holds of the memo
pub alloc_keeps : EachStepKeeps alloc_control AllocFits AllocGives
alloc_keeps m r0 tr going w r f s fit =
    let k = step_at m.me m.request r0 w r f tr m.point going s (λ z. not_fresh m.me w r f tr s (fit.begun z)) fit.can fit.knows.request fit.knows.point fit.holds in
    let at : Spot = spot_at m.me.geometry (classes w) (at_of (alloc_ask m)) in
    record { told = k.told; step = k.step; fits = then_holds m r0 (r m.me.who) _ tr _ fit (grows_more true r0 (r m.me.who) m.me (alloc_ask m) f (seen_of (alloc_ask m) (w at)) at (λ z. absurd (true≢false z)) fit.grows) k.fits }
