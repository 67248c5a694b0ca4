-- machines that leave the own map while they run, and the parts of larger machines that do
use Rattle.std.proofs.Common.{◌≡◌, ℕ, ◌+◌, ◌%◌, refl, sym, ap, ◌∙◌, subst, Bool, true, false, cond, List}
use Rattle.std.specs.Prelude.{◌==◌, nat_lt, if◌then◌else◌, Result, Ok}
use Rattle.shm_words.specs.{declared.tag.Tag.Tag as ATag, Layout.address_limit}
use Rattle.shm_graph.specs.{declared.{ask.Me.Me, memo.{Memo.Memo, Op.{Op, TheVariants.Nothing}}}, Asks.Trail}
use Rattle.shm_graph.specs.{Chains.part_set, Events.Event, Laws.{Control, is_some}, Mapped.OnTheWay}
use Rattle.shm_graph.specs.{Ops.{cover, cover_of}, Reach.shown, Tells.happens_along, Views.own_word}
use Rattle.shm_graph.specs.declared.spot.Spot.TheVariants as spot
use Rattle.plans.specs.{CallsControl.calls_control, CallsFit.CallsFits, Either.{OrFits, or_control}, Plans.Planned}
use Rattle.plans.specs.{Words.{WordFits, word_control}, Proved.PlanKept.kept_along}
use Rattle.plans.specs.declared.or.Or.TheVariants as or
use Rattle.kind_parts.specs.Reparting.{sight}
use Rattle.shm_count.specs.declared.{answer.UpFault.UpFault, point.{Aim.TheVariants.Down, StepNext.StepNext}}
use Rattle.shm_count.specs.declared.{point.StepPoint.StepPoint, tear_point.TearNext.TheVariants.{Answer, Go}}
use Rattle.shm_count.specs.declared.tear_point.{TearPoint.TearPoint, TearState.TearState}
use Rattle.shm_count.specs.Step.Control.{PointFits, answer_of as next_answer, is_over, point_of as next_point, step_next}
use Rattle.shm_count.specs.Step.{ExchangeMade.exchanged_at, Machines.{down_control, up_control}, Parts.part_after}
use Rattle.shm_count.specs.{Step.PointHas, Proved.Step.Laws.step_steady, StepsAt.{DownFitsAt, UpFitsAt}}
use Rattle.shm_count.specs.Tear.Control.{TearPointFits, down_next, down_state, lowered_next, point_of, relinked, tag_read, tear_control, tear_next_at, word_address, word_or_free}
use Rattle.shm_count.specs.Tear.{Events.{tear_event, tear_start}, Memos.IsFound, TearFits, TearHolds}
use Rattle.shm_count.specs.declared.point.StepNext.TheVariants as next
use Rattle.shm_count.specs.declared.point.StepPoint.TheVariants as step
use Rattle.shm_count.specs.declared.tear_point.TearPoint.TheVariants as tear
use Rattle.shm_alloc.specs.Alloc.{Control.alloc_control, AllocFits}
use Rattle.shm_table.specs.{Proved.Staying.Laws.same_map, Staying.SameMap}
use Rattle.shm_table.proofs.Running.Steps.{lane_part, point_part, quiet_by, root_part}

-- ---- the form

-- of a machine that is running: the memo is so to the one in which the machine began
abbrev pub WhileRunning : {S A : Type 0} → (Memo → Memo → Type 0) → Control S A → OnTheWay S → Type 0
WhileRunning {S} R k fits = (m : S) (r0 r : Memo) (tr : Trail) → k.finished m ≡ false → fits m r0 r tr → R r0 r

-- one of two machines
pub or_running : {S T A B : Type 0} (R : Memo → Memo → Type 0) (j : Control S A) (k : Control T B) (fits : OnTheWay S) (fits' : OnTheWay T) → WhileRunning R j fits → WhileRunning R k fits' → WhileRunning R (or_control j k) (OrFits fits fits')
or_running R j k fits fits' h i (or.First m) r0 r tr going fit = h m r0 r tr going fit
or_running R j k fits fits' h i (or.Second m) r0 r tr going fit = i m r0 r tr going fit

-- a machine that makes the calls of a plan, where the memo is known to be so before each call, and each call leaves it so
pub calls_running : {P C B A : Type 0} (R : Memo → Memo → Type 0) → ((x y z : Memo) → R x y → R y z → R x z) → (k : Control C B) (q : Planned P C B A) → ((p : P) (r0 r : Memo) (tr : Trail) (es : List Event) → q.knows p r0 r tr es → R r0 r) → ((p : P) → WhileRunning R k (q.part p).fits)
    → WhileRunning R (calls_control k q.steered) (CallsFits k q)
calls_running R more k q known keeps m r0 r tr going fit = more r0 fit.rs r (known m.plan r0 fit.rs fit.before fit.es fit.knows) (keeps m.plan m.call fit.rs r fit.t going fit.fits)

-- the map is what it was when the machine began
abbrev pub IsStill : {S A : Type 0} → Control S A → OnTheWay S → Type 0
IsStill k fits = WhileRunning SameMap k fits

-- nothing was done yet
pub same_now : (r0 r : Memo) → r ≡ r0 → SameMap r0 r
same_now r0 r e = same_map r0 r (ap (λ (x : Memo). x.part) e)

-- ---- single steps

pub word_still : (first : Bool) → IsStill word_control (WordFits first)
word_still first m r0 r tr going fit = same_now r0 r fit.same

pub alloc_still : IsStill alloc_control AllocFits
alloc_still m r0 r tr going fit = same_map r0 r fit.holds.stays.part

-- count steps at roots and at slots of queues
pub root_down_still : (c k : ℕ) → IsStill down_control (DownFitsAt (spot.Root c k))
root_down_still c k m r0 r tr going fit = same_map r0 r (root_part c k m r0 r tr going fit.1)

pub root_up_still : (c k : ℕ) → IsStill up_control (UpFitsAt (spot.Root c k))
root_up_still c k m r0 r tr going fit = same_map r0 r (root_part c k m r0 r tr going fit.1)

pub lane_down_still : (s t k : ℕ) → IsStill down_control (DownFitsAt (spot.Slot s t k))
lane_down_still s t k m r0 r tr going fit = same_map r0 r (lane_part s t k m r0 r tr going fit.1)

pub lane_up_still : (s t k : ℕ) → IsStill up_control (UpFitsAt (spot.Slot s t k))
lane_up_still s t k m r0 r tr going fit = same_map r0 r (lane_part s t k m r0 r tr going fit.1)

-- ---- a tear-down, in whose blocks no partition is read

-- the step down in it is running
abbrev pub RunsDown : TearPoint → Type 0
RunsDown (tear.Down g i t y) = is_over y ≡ false
RunsDown y = Unit {0}

runs_either : (z : Bool) (x y : TearPoint) → RunsDown x → RunsDown y → RunsDown (cond z x y)
runs_either true x y h k = h
runs_either false x y h k = k

runs_word : (g : ATag) (i : ℕ) → RunsDown (word_or_free g i)
runs_word g i = runs_either (nat_lt i g.refs) (tear.Word g i) (tear.Free g) tt tt

runs_lowered : (b : ℕ) (g : ATag) (i t : ℕ) (a : Result Bool UpFault) → RunsDown (point_of (lowered_next b g i t a))
runs_lowered b g i t (Ok false) = runs_word g (i + 1)
runs_lowered b g i t _ = tt

runs_freed : (z : Bool) (g : ATag) → RunsDown (point_of (if z then Answer (Ok tt) else Go g.link tear.Return))
runs_freed true g = tt
runs_freed false g = tt

runs_down : (me : Me) (b : ℕ) (g : ATag) (i t : ℕ) (y : StepPoint) (n : ℕ) → is_over y ≡ false → RunsDown (point_of (down_next b g i t (step_next (down_state me b i t y) n)))
runs_down me b g i t y n going = go (step_next (down_state me b i t y) n) (step_steady (down_state me b i t y) n going).ends
  where
    go : (o : StepNext) → is_over (next_point o) ≡ is_some (next_answer o) → RunsDown (point_of (down_next b g i t o))
    go (next.Point y) e = e
    go (next.Answer a) e = runs_lowered b g i t a

runs_on : (m : TearState) (n : ℕ) → RunsDown m.point → RunsDown (tear_control.after m n).point
runs_on m n h = go m.point h
  where
    go : (y : TearPoint) → RunsDown y → RunsDown (point_of (tear_next_at m.me m.block y n))
    go tear.Begin h = runs_either ((tag_read m.me.geometry.wide n).link == 0) (word_or_free (tag_read m.me.geometry.wide n) 0) (tear.Link (relinked m.me.geometry.wide (tag_read m.me.geometry.wide n) 0)) (runs_word (tag_read m.me.geometry.wide n) 0) tt
    go (tear.Enter l) h = runs_either ((tag_read m.me.geometry.wide n).link == l) (word_or_free (tag_read m.me.geometry.wide n) 0) (tear.Link (relinked m.me.geometry.wide (tag_read m.me.geometry.wide n) l)) (runs_word (tag_read m.me.geometry.wide n) 0) tt
    go (tear.Link g) h = runs_word g 0
    go (tear.Word g i) h = runs_either (n % address_limit == 0) (word_or_free g (i + 1)) (tear.Down g i (n % address_limit) step.Era) (runs_word g (i + 1)) refl
    go (tear.Down g i t y) h = runs_down m.me m.block g i t y n h
    go (tear.Free g) h = runs_freed (g.link == 0) g
    go tear.Return h = runs_word (tag_read m.me.geometry.wide n) 0
    go tear.Over h = tt

-- the partition is what it was before the step down that is running, which clears a word that none is read from
module _ (me : Me) (b i t : ℕ) (m : Memo) (idle : m.op ≡ Nothing) (found : IsFound me m b i t) where
  cleared : part_after me.who (sight me.who m) (spot.Body b i) 0 ≡ m.part
  cleared =
      let c = me.who in
      let home : own_word m.own (spot.Home c) ≡ shown m (spot.Home c) = ap (λ (o : Op). cover (cover_of o) (spot.Home c) (own_word m.own (spot.Home c))) (sym idle) in
      ap (λ h. part_set m.known c h (spot.Body b i) 0 m.part) home ∙ found.part

  down_part : (slot : ℕ) (r : Memo) (y : StepPoint) → PointFits me (Down t) y → is_over y ≡ false → PointHas me slot (Down t) (spot.Body b i) m r y → r.part ≡ m.part
  down_part slot r y fits going has = quiet_by (exchanged_at (Down t) y) me.who (spot.Body b i) 0 m r cleared (point_part me slot (Down t) (spot.Body b i) m tt r y fits going has)

-- where a tear-down fits the step down in it is running
pub tear_runs : (m : TearState) (r0 r : Memo) (tr : Trail) → TearFits m r0 r tr → RunsDown m.point
tear_runs m r0 r tr fit = subst (λ (x : TearState). RunsDown x.point) fit.course (kept_along tear_control (λ x. RunsDown x.point) runs_on (tear_start m) tr tt)

pub tear_still : IsStill tear_control TearFits
tear_still m r0 r tr going fit = same_map r0 r (go m.point fit.knows.point (tear_runs m r0 r tr fit) fit.holds)
  where
    es : List Event
    es = happens_along tear_control tear_event (tear_start m) tr

    go : (y : TearPoint) → TearPointFits m.me y → RunsDown y → TearHolds m.me m.first r0 m.block y r es tr → r.part ≡ r0.part
    go tear.Begin fits runs (k, vs, at) = ap (λ (x : Memo). x.part) at.settled.stays.rest
    go (tear.Enter l) fits runs (k, vs, at) = ap (λ (x : Memo). x.part) at.settled.stays.rest
    go (tear.Link g) fits runs (k, vs, at) = ap (λ (x : Memo). x.part) at.settled.stays.rest
    go (tear.Word g i) fits runs (k, vs, at) = ap (λ (x : Memo). x.part) at.settled.stays.rest
    go (tear.Down g i t y) fits runs (k, vs, x, before, at, told, can, holds) = down_part m.me m.block i t x can.idle at.shows.4 (word_address m.block i) r y fits.3 runs holds.has ∙ ap (λ (z : Memo). z.part) at.settled.stays.rest
    go (tear.Free g) fits runs (k, vs, at) = ap (λ (x : Memo). x.part) at.settled.stays.rest
    go tear.Return fits runs (k, vs, at) = ap (λ (x : Memo). x.part) at.settled.stays.rest
    go tear.Over fits runs (k, vs, at) = absurd at.shows
