-- what was sent while a word step, a count step, an allocation or a tear-down is running: none of them sends
use Rattle.std.proofs.{Common.{◌≡◌, ℕ, refl, ap, ◌∙◌, Bool, false, eqb, ◌&&◌, List}, lemmas.Bool.true≢false}
use Rattle.std.specs.List.{filter}
use Rattle.shm_words.specs.Headers.{header_of}
use Rattle.shm_graph.specs.declared.{ask.Me.Me, spot.Spot.Spot, memo.First.TheVariants.Committed}
use Rattle.shm_graph.specs.declared.memo.{Second.TheVariants.Closed, ChangeStage.TheVariants.Lowering, Memo.Memo}
use Rattle.shm_graph.specs.{Asks.Trail, Events.Event}
use Rattle.shm_graph.specs.MemoAfterExchange.{cut, lowered, reparted, without_made, with_unsent, with_untaken}
use Rattle.shm_graph.specs.{Laws.Control, Mapped.OnTheWay, Ops.{is_op, slot_of}, Reach.learnt, Spots.same_spot}
use Rattle.shm_graph.specs.{MemoAfterStore.{making_with, other_than, put, written}, Tells.happens_along}
use Rattle.shm_graph.specs.declared.spot.Spot.TheVariants as spot
use Rattle.shm_graph.specs.declared.memo.Op.TheVariants as op
use Rattle.shm_graph.proofs.StepKinds.Loads.{choice}
use Rattle.kind_laws.specs.HeaderExchanges.{dying_after}
use Rattle.kind_parts.proofs.MemoCommits.{known_lowered, lowered_is}
use Rattle.plans.specs.{CallsControl.calls_control, CallsFit.CallsFits, Either.{OrFits, or_control}, Plans.Planned}
use Rattle.plans.specs.Words.{WordFits, word_control}
use Rattle.shm_count.specs.declared.point.{Aim.{Aim, TheVariants.{Up, Down, Change}}, Half.Half}
use Rattle.shm_count.specs.declared.point.{Half.TheVariants.{First, Second}, StepPoint.StepPoint}
use Rattle.shm_count.specs.declared.tear_point.TearPoint.{TearPoint}
use Rattle.shm_count.specs.Step.Control.{header_after, is_over, step_control, value_after}
use Rattle.shm_count.specs.Step.{AtFirst, InHalf, PointHas, StepFits, set_memo, slot_memo}
use Rattle.shm_count.specs.{Step.Machines.{down_control, up_control}, Proved.Step.Memos.closed_part}
use Rattle.shm_count.specs.{Proved.Step.BeforeExchange.ready_part, StepsAt.{DownFitsAt, UpFitsAt}}
use Rattle.shm_count.specs.Tear.{Control.{tear_control, word_address}, Events.{tear_event, tear_start}}
use Rattle.shm_count.specs.Tear.{TearFits, TearHolds}
use Rattle.shm_count.specs.declared.point.StepPoint.TheVariants as point
use Rattle.shm_count.specs.declared.tear_point.TearPoint.TheVariants as tear
use Rattle.shm_alloc.specs.Alloc.{Control.alloc_control, AllocFits}
use Rattle.shm_table.proofs.Running.Steps.{IsPlace}
use Rattle.shm_table.proofs.Running.Still.{RunsDown, WhileRunning, calls_running, or_running, tear_runs}

-- ---- the form

-- of a machine that is running: nothing was sent since it began
abbrev pub SentSame : Memo → Memo → Type 0
SentSame r0 r = r.sent ≡ r0.sent

abbrev pub SendsNone : {S A : Type 0} → Control S A → OnTheWay S → Type 0
SendsNone k fits = WhileRunning SentSame k fits

-- one of two machines
pub or_sends : {S T A B : Type 0} (j : Control S A) (k : Control T B) (fits : OnTheWay S) (fits' : OnTheWay T) → SendsNone j fits → SendsNone k fits' → SendsNone (or_control j k) (OrFits fits fits')
or_sends j k fits fits' h i = or_running SentSame j k fits fits' h i

-- a machine that makes the calls of a plan, where nothing was sent before each call, and no call sends
pub calls_sends : {P C B A : Type 0} (k : Control C B) (q : Planned P C B A) → ((p : P) (r0 r : Memo) (tr : Trail) (es : List Event) → q.knows p r0 r tr es → SentSame r0 r) → ((p : P) → SendsNone k (q.part p).fits) → SendsNone (calls_control k q.steered) (CallsFits k q)
calls_sends k q known keeps = calls_running SentSame (λ x y z h i. i ∙ h) k q known keeps

-- nothing was done yet
pub sent_now : (r0 r : Memo) → r ≡ r0 → SentSame r0 r
sent_now r0 r e = ap (λ (x : Memo). x.sent) e

-- ---- single steps

pub word_sends : (first : Bool) → SendsNone word_control (WordFits first)
word_sends first m r0 r tr going fit = sent_now r0 r fit.same

pub alloc_sends : SendsNone alloc_control AllocFits
alloc_sends m r0 r tr going fit = fit.holds.stays.sent

-- ---- a count step

-- the queue's part of a step leaves what was sent
unsent_sent : (c : ℕ) (p : Spot) (b : ℕ) (m : Memo) → (with_unsent c p b m).sent ≡ m.sent
unsent_sent c (spot.Slot s r k) b m = choice (λ (x : Memo). x.sent ≡ m.sent) (eqb s c) (record m { unsent = put 0 m.unsent r b }) m (λ z. refl) (λ z. refl)
unsent_sent c _ b m = refl

untaken_sent : (c : ℕ) (p : Spot) (b : ℕ) (m : Memo) → (with_untaken c p b m).sent ≡ m.sent
untaken_sent c (spot.Slot s r k) b m = choice (λ (x : Memo). x.sent ≡ m.sent) (eqb r c) (record m { untaken = put 0 m.untaken s b; known = filter (λ x. other_than (spot.Slot s r k) x.spot) m.known }) m (λ z. refl) (λ z. refl)
untaken_sent c _ b m = refl

lowered_sent : (n b : ℕ) (m : Memo) → (lowered n b m).sent ≡ m.sent
lowered_sent n b m = ap (λ (x : Memo). x.sent) {y = record m { dying = dying_after n b m.dying; known = known_lowered n b m.known }} (lowered_is n b m)

module _ (me : Me) (q : Memo) (e w : ℕ) where
  abbrev c : ℕ
  c = me.who

  -- neither does an exchange
  set_sent : (x : Aim) (p : Spot) (h : Half) → (set_memo me x p e h q w).sent ≡ q.sent
  set_sent (Up b) p First = unsent_sent c p b (record q { op = op.Up Committed p b e; made = without_made q b })
  set_sent (Down b) p First =
      let m : Memo = record q { op = op.Down Committed p b e; made = without_made q b } in
      let n : Memo = with_untaken c p b (with_unsent c p 0 m) in
      lowered_sent (header_of (header_after me (Down b) e First w)).count b (cut c p (reparted c n p 0)) ∙ (untaken_sent c p b (with_unsent c p 0 m) ∙ unsent_sent c p 0 m)
  set_sent (Change a b) p Second = lowered_sent (header_of (header_after me (Change a b) e Second w)).count a (cut c p (record q { op = op.Change (Lowering Closed) p a b e; made = without_made q a }))
  set_sent _ p _ = refl

  -- nor the store of a slot
  slot_sent : (x : Aim) (p : Spot) → IsPlace p → (slot_memo me x p e q w).sent ≡ q.sent
  slot_sent x (spot.Home d) s = set_sent x (spot.Home d) First
  slot_sent x (spot.Root d k) s = set_sent x (spot.Root d k) First
  slot_sent x (spot.Slot t r k) s = set_sent x (spot.Slot t r k) First
  slot_sent x (spot.Body d i) s =
      let m : Memo = set_memo me x (spot.Body d i) e First q w in
      choice (λ (y : Memo). y.sent ≡ m.sent) (is_op m.op && same_spot (slot_of m.op) (spot.Body d i)) (record (written m) { known = learnt (spot.Body d i) (value_after x) m.known })
      (record m { making = making_with me.geometry m.facts m.making d (spot.Body d i) (value_after x) }) (λ z. refl) (λ z. refl)
      ∙ set_sent x (spot.Body d i) First
  slot_sent x _ s = absurd s

module _ (me : Me) (slot : ℕ) (x : Aim) (p : Spot) (r0 : Memo) (place : IsPlace p) where
  first_sent : (q : Memo) (e : ℕ) → AtFirst me slot x p r0 q e → q.sent ≡ r0.sent
  first_sent q e (own, rows) = ap (λ (m : Memo). m.sent) rows.rest

  half_sent : (r : Memo) (e : ℕ) (h : Half) → InHalf me slot x p r0 r e h → r.sent ≡ r0.sent
  half_sent r e First k = first_sent r e k
  half_sent r e Second (d, next, (q, w, at, rows)) = ap (λ (m : Memo). m.sent) rows.rest ∙ (closed_part (λ (m : Memo). m.sent) me d (slot_memo me x p d q w) refl ∙ (slot_sent me q d w x p place ∙ first_sent q d at))

  pub point_sent : (r : Memo) (y : StepPoint) → is_over y ≡ false → PointHas me slot x p r0 r y → r.sent ≡ r0.sent
  point_sent r point.Era going (same, put) = ap (λ (m : Memo). m.sent) same
  point_sent r (point.More e) going (same, era, put, z) = ap (λ (m : Memo). m.sent) same
  point_sent r (point.Redo e) going (same, era, put) = ap (λ (m : Memo). m.sent) same ∙ ready_part (λ (m : Memo). m.sent) me slot x e r0 refl
  point_sent r (point.Load e h) going k = half_sent r e h k
  point_sent r (point.Row e h w) going k = half_sent r e h k.0
  point_sent r (point.Show e h w) going k = half_sent r e h k.0
  point_sent r (point.Exchange e h w) going k = half_sent r e h k.0
  point_sent r (point.Slot e z) going (q, w, at, some, same, is) = ap (λ (m : Memo). m.sent) same ∙ (set_sent me q e w x p First ∙ first_sent q e at)
  point_sent r (point.Close e First z) going (q, w, at, some, same, is) = ap (λ (m : Memo). m.sent) same ∙ (slot_sent me q e w x p place ∙ first_sent q e at)
  point_sent r (point.Close e Second z) going (q, w, half, some, same, is) = ap (λ (m : Memo). m.sent) same ∙ (set_sent me q e w x p Second ∙ half_sent q e Second half)
  point_sent r point.Over going k = absurd (true≢false going)

-- of a count step at p that is running
pub step_sends : (p : Spot) → IsPlace p → SendsNone step_control (StepFits p)
step_sends p place m r0 r tr going fit = point_sent m.me m.slot m.aim p r0 place r m.point going fit.holds.has

pub down_sends : (p : Spot) → IsPlace p → SendsNone down_control (DownFitsAt p)
down_sends p place m r0 r tr going fit = step_sends p place m r0 r tr going fit.1

pub up_sends : (p : Spot) → IsPlace p → SendsNone up_control (UpFitsAt p)
up_sends p place m r0 r tr going fit = step_sends p place m r0 r tr going fit.1

-- ---- a tear-down

pub tear_sends : SendsNone tear_control TearFits
tear_sends m r0 r tr going fit = go m.point (tear_runs m r0 r tr fit) fit.holds
  where
    es : List Event
    es = happens_along tear_control tear_event (tear_start m) tr

    go : (y : TearPoint) → RunsDown y → TearHolds m.me m.first r0 m.block y r es tr → r.sent ≡ r0.sent
    go (tear.Down g i t y) runs (k, vs, x, before, at, told, can, holds) = point_sent m.me (word_address m.block i) (Down t) (spot.Body m.block i) x tt r y runs holds.has ∙ ap (λ (z : Memo). z.sent) at.settled.stays.rest
    go tear.Begin runs (k, vs, at) = ap (λ (x : Memo). x.sent) at.settled.stays.rest
    go (tear.Enter l) runs (k, vs, at) = ap (λ (x : Memo). x.sent) at.settled.stays.rest
    go (tear.Link g) runs (k, vs, at) = ap (λ (x : Memo). x.sent) at.settled.stays.rest
    go (tear.Word g i) runs (k, vs, at) = ap (λ (x : Memo). x.sent) at.settled.stays.rest
    go (tear.Free g) runs (k, vs, at) = ap (λ (x : Memo). x.sent) at.settled.stays.rest
    go tear.Return runs (k, vs, at) = ap (λ (x : Memo). x.sent) at.settled.stays.rest
    go tear.Over runs (k, vs, at) = absurd at.shows
