-- the partition of a memo while a count step or a tear-down is running: as it was up to the exchange of the first half, and from then on the one that the slot leads to
use Rattle.std.proofs.Common.{◌≡◌, ℕ, refl, sym, ap, ◌∙◌, subst, Bool, true, false, eqb, ◌&&◌, List, cond}
use Rattle.std.proofs.lemmas.Bool.{true≢false}
use Rattle.std.specs.List.{filter}
use Rattle.shm_words.specs.Headers.{header_of}
use Rattle.shm_graph.specs.declared.{ask.Me.Me, spot.Spot.Spot, memo.First.TheVariants.Committed}
use Rattle.shm_graph.specs.declared.memo.{Second.TheVariants.Closed, ChangeStage.TheVariants.Lowering, Memo.Memo}
use Rattle.shm_graph.specs.{declared.{memo.Stored.Stored, table.Part.{Part, TheVariants.{Loose, Table}}}, Asks.Trail}
use Rattle.shm_graph.specs.{Laws.Control, Tells.after_all, Chains.part_set}
use Rattle.shm_graph.specs.MemoAfterExchange.{cut, lowered, reparted, without_made, with_unsent, with_untaken}
use Rattle.shm_graph.specs.{Ops.{On, cover, is_op, slot_of}, Reach.{learnt, shown, sifted}, Spots.same_spot}
use Rattle.shm_graph.specs.MemoAfterStore.{making_with, other_than, put, written}
use Rattle.shm_graph.specs.declared.spot.Spot.TheVariants as spot
use Rattle.shm_graph.specs.declared.memo.Op.TheVariants as op
use Rattle.shm_graph.proofs.StepKinds.Loads.{choice}
use Rattle.kind_laws.specs.HeaderExchanges.{dying_after}
use Rattle.kind_parts.specs.Reparting.{Sight, sight}
use Rattle.kind_parts.proofs.MemoCommits.{known_lowered, lowered_is}
use Rattle.shm_count.specs.declared.point.{Aim.{Aim, TheVariants.{Up, Down, Change}}, Half.Half}
use Rattle.shm_count.specs.declared.point.{Half.TheVariants.{First, Second}, StepPoint.StepPoint, StepState.StepState}
use Rattle.shm_count.specs.Step.Control.{PartFits, PointFits, header_after, is_over, step_control, value_after}
use Rattle.shm_count.specs.Step.ExchangeMade.{exchanged_at, is_second, step_exchanged}
use Rattle.shm_count.specs.Step.{AtFirst, InHalf, PointHas, StepFits, set_memo, slot_memo, Parts.part_after}
use Rattle.shm_count.specs.Proved.Step.{Memos.closed_part, Parts.first_sight, BeforeExchange.ready_part}
use Rattle.shm_count.specs.StepsFrom.{FitsFrom}
use Rattle.shm_count.specs.declared.point.StepPoint.TheVariants as point
use Rattle.shm_table.proofs.Running.AsMade.{KeepsAim, aimed_so}

-- ---- slots

-- a slot of a step: a root, a home, a slot of a queue, a word of a block
abbrev pub IsPlace : Spot → Type 0
IsPlace (spot.Root d k) = Unit {0}
IsPlace (spot.Home d) = Unit {0}
IsPlace (spot.Slot s r k) = Unit {0}
IsPlace (spot.Body b i) = Unit {0}
IsPlace p = ⊥

-- no partition is read from a root or from a slot of a queue
pub root_none : (ks : List Stored) (c h d k x : ℕ) (o : Part) → part_set ks c h (spot.Root d k) x o ≡ o
root_none ks c h d k x Loose = refl
root_none ks c h d k x (Table chains) = refl

pub slot_none : (ks : List Stored) (c h s r k x : ℕ) (o : Part) → part_set ks c h (spot.Slot s r k) x o ≡ o
slot_none ks c h s r k x Loose = refl
slot_none ks c h s r k x (Table chains) = refl

pub root_after : (c : ℕ) (s : Sight) (d k x : ℕ) → part_after c s (spot.Root d k) x ≡ s.part
root_after c s d k x = root_none s.known c (cover (On (spot.Root d k) x) (spot.Home c) s.home) d k x s.part

pub lane_after : (c : ℕ) (s : Sight) (t r k x : ℕ) → part_after c s (spot.Slot t r k) x ≡ s.part
lane_after c s t r k x = slot_none s.known c (cover (On (spot.Slot t r k) x) (spot.Home c) s.home) t r k x s.part

-- the queue's part of a step leaves the partition
unsent_part : (c s r k b : ℕ) (m : Memo) → (with_unsent c (spot.Slot s r k) b m).part ≡ m.part
unsent_part c s r k b m = choice (λ (x : Memo). x.part ≡ m.part) (eqb s c) (record m { unsent = put 0 m.unsent r b }) m (λ z. refl) (λ z. refl)

untaken_part : (c s r k b : ℕ) (m : Memo) → (with_untaken c (spot.Slot s r k) b m).part ≡ m.part
untaken_part c s r k b m = choice (λ (x : Memo). x.part ≡ m.part) (eqb r c) (record m { untaken = put 0 m.untaken s b; known = filter (λ x. other_than (spot.Slot s r k) x.spot) m.known }) m (λ z. refl) (λ z. refl)

module _ (me : Me) (q : Memo) (e w : ℕ) where
  abbrev c : ℕ
  c = me.who

  -- the partition that the slot leads to
  abbrev leads : Spot → ℕ → Part
  leads p x = part_after c (sight c q) p x

  -- what a step down lowers isn't the partition
  lowers_part : (b : ℕ) (m : Memo) → (sifted c (lowered (header_of (header_after me (Down b) e First w)).count b m)).part ≡ m.part
  lowers_part b m =
      let n : ℕ = (header_of (header_after me (Down b) e First w)).count in
      ap (λ (y : Memo). (sifted c y).part) {y = record m { dying = dying_after n b m.dying; known = known_lowered n b m.known }} (lowered_is n b m)

  -- the exchange of the first half sets it
  set_part : (x : Aim) (p : Spot) → IsPlace p → (set_memo me x p e First q w).part ≡ leads p (value_after x)
  set_part (Up b) (spot.Home d) s = refl
  set_part (Up b) (spot.Body d i) s = refl
  set_part (Up b) (spot.Root d k) s = refl
  set_part (Up b) (spot.Slot t r k) s =
      let m : Memo = record q { op = op.Up Committed (spot.Slot t r k) b e; made = without_made q b } in
      let n : Memo = with_unsent c (spot.Slot t r k) b m in
      slot_none n.known c (shown n (spot.Home c)) t r k b n.part ∙ (unsent_part c t r k b m ∙ sym (lane_after c (sight c q) t r k b))
  set_part (Down b) (spot.Home d) s = lowers_part b (cut c (spot.Home d) (reparted c (record q { op = op.Down Committed (spot.Home d) b e; made = without_made q b }) (spot.Home d) 0))
  set_part (Down b) (spot.Body d i) s = lowers_part b (cut c (spot.Body d i) (reparted c (record q { op = op.Down Committed (spot.Body d i) b e; made = without_made q b }) (spot.Body d i) 0))
  set_part (Down b) (spot.Root d k) s = lowers_part b (cut c (spot.Root d k) (reparted c (record q { op = op.Down Committed (spot.Root d k) b e; made = without_made q b }) (spot.Root d k) 0))
  set_part (Down b) (spot.Slot t r k) s =
      let p : Spot = spot.Slot t r k in
      let m : Memo = record q { op = op.Down Committed p b e; made = without_made q b } in
      let n : Memo = with_untaken c p b (with_unsent c p 0 m) in
      lowers_part b (cut c p (reparted c n p 0))
      ∙ (slot_none n.known c (shown n (spot.Home c)) t r k 0 n.part ∙ (untaken_part c t r k b (with_unsent c p 0 m) ∙ (unsent_part c t r k 0 m ∙ sym (lane_after c (sight c q) t r k 0))))
  set_part (Change a b) p s = refl
  set_part _ _ s = absurd s

  -- that of the second half doesn't
  second_part : (x : Aim) (p : Spot) → (set_memo me x p e Second q w).part ≡ q.part
  second_part (Change a b) p =
      let n : ℕ = (header_of (header_after me (Change a b) e Second w)).count in
      let m : Memo = cut c p (record q { op = op.Change (Lowering Closed) p a b e; made = without_made q a }) in
      ap (λ (y : Memo). (sifted c y).part) {y = record m { dying = dying_after n a m.dying; known = known_lowered n a m.known }} (lowered_is n a m)
  second_part _ p = refl

  -- and it stays with the store of the slot
  slot_part : (x : Aim) (p : Spot) → IsPlace p → (slot_memo me x p e q w).part ≡ leads p (value_after x)
  slot_part x (spot.Home d) s = set_part x (spot.Home d) s
  slot_part x (spot.Root d k) s = set_part x (spot.Root d k) s
  slot_part x (spot.Slot t r k) s = set_part x (spot.Slot t r k) s
  slot_part x (spot.Body d i) s =
      let m : Memo = set_memo me x (spot.Body d i) e First q w in
      choice (λ (y : Memo). y.part ≡ m.part) (is_op m.op && same_spot (slot_of m.op) (spot.Body d i)) (record (written m) { known = learnt (spot.Body d i) (value_after x) m.known })
      (record m { making = making_with me.geometry m.facts m.making d (spot.Body d i) (value_after x) }) (λ z. refl) (λ z. refl)
      ∙ set_part x (spot.Body d i) s
  slot_part x _ s = absurd s

-- ---- a running step

-- by whether the exchange was made: the partition is as it was, or the one that the slot leads to
abbrev pub PartBy : Bool → ℕ → Spot → ℕ → Memo → Memo → Type 0
PartBy false c p x r0 r = r.part ≡ r0.part
PartBy true c p x r0 r = r.part ≡ part_after c (sight c r0) p x

module _ (me : Me) (slot : ℕ) (x : Aim) (p : Spot) (r0 : Memo) (place : IsPlace p) where
  abbrev after : Part
  after = part_after me.who (sight me.who r0) p (value_after x)

  first_part : (q : Memo) (e : ℕ) → AtFirst me slot x p r0 q e → q.part ≡ r0.part
  first_part q e (own, rows) = ap (λ (m : Memo). m.part) rows.rest

  -- once the slot is set
  set_after : (q : Memo) (e w : ℕ) → AtFirst me slot x p r0 q e → (set_memo me x p e First q w).part ≡ after
  set_after q e w at = set_part me q e w x p place ∙ ap (λ (s : Sight). part_after me.who s p (value_after x)) (first_sight me slot x p r0 q e at)

  slot_after : (q : Memo) (e w : ℕ) → AtFirst me slot x p r0 q e → (slot_memo me x p e q w).part ≡ after
  slot_after q e w at = slot_part me q e w x p place ∙ ap (λ (s : Sight). part_after me.who s p (value_after x)) (first_sight me slot x p r0 q e at)

  second_after : (r : Memo) (e : ℕ) → InHalf me slot x p r0 r e Second → r.part ≡ after
  second_after r e (d, next, (q, w, at, rows)) = ap (λ (m : Memo). m.part) rows.rest ∙ (closed_part (λ (m : Memo). m.part) me d (slot_memo me x p d q w) refl ∙ slot_after q d w at)

  half_part : (r : Memo) (e : ℕ) (h : Half) → PartFits x h → InHalf me slot x p r0 r e h → PartBy (is_second x h) me.who p (value_after x) r0 r
  half_part r e h part k = go x h part refl k
    where
      go : (y : Aim) (h : Half) → PartFits y h → x ≡ y → InHalf me slot x p r0 r e h → PartBy (is_second y h) me.who p (value_after x) r0 r
      go (Up b) First part same k = first_part r e k
      go (Change a b) Second part same k = second_after r e k
      go (Up b) Second part same k = absurd part
      go (Down b) Second part same k = absurd part
      go _ First part same k = first_part r e k

  pub point_part : (r : Memo) (y : StepPoint) → PointFits me x y → is_over y ≡ false → PointHas me slot x p r0 r y → PartBy (exchanged_at x y) me.who p (value_after x) r0 r
  point_part r point.Era fits going (same, put) = ap (λ (m : Memo). m.part) same
  point_part r (point.More e) fits going (same, era, put, z) = ap (λ (m : Memo). m.part) same
  point_part r (point.Redo e) fits going (same, era, put) = ap (λ (m : Memo). m.part) same ∙ ready_part (λ (m : Memo). m.part) me slot x e r0 refl
  point_part r (point.Load e h) fits going k = half_part r e h fits.1 k
  point_part r (point.Row e h w) fits going k = half_part r e h fits.1 k.0
  point_part r (point.Show e h w) fits going k = half_part r e h fits.1 k.0
  point_part r (point.Exchange e h w) fits going k = half_part r e h fits.1 k.0
  point_part r (point.Slot e z) fits going (q, w, at, some, same, is) = ap (λ (m : Memo). m.part) same ∙ set_after q e w at
  point_part r (point.Close e First z) fits going (q, w, at, some, same, is) = ap (λ (m : Memo). m.part) same ∙ slot_after q e w at
  point_part r (point.Close e Second z) fits going (q, w, half, some, same, is) = ap (λ (m : Memo). m.part) same ∙ (second_part me q e w x p ∙ second_after q e half)
  point_part r point.Over fits going k = absurd (true≢false going)

-- of a count step at p that is running
pub step_part : (p : Spot) (m : StepState) (r0 r : Memo) (tr : Trail) → IsPlace p → step_control.finished m ≡ false → StepFits p m r0 r tr → PartBy (step_exchanged m) m.me.who p (value_after m.aim) r0 r
step_part p m r0 r tr place going fit = point_part m.me m.slot m.aim p r0 place r m.point fit.knows.point going fit.holds.has

-- ---- slots from which no partition is read

pub quiet_by : (z : Bool) (c : ℕ) (p : Spot) (x : ℕ) (r0 r : Memo) → part_after c (sight c r0) p x ≡ r0.part → PartBy z c p x r0 r → r.part ≡ r0.part
quiet_by false c p x r0 r same h = h
quiet_by true c p x r0 r same h = h ∙ same

pub root_part : (c k : ℕ) (m : StepState) (r0 r : Memo) (tr : Trail) → step_control.finished m ≡ false → StepFits (spot.Root c k) m r0 r tr → r.part ≡ r0.part
root_part c k m r0 r tr going fit = quiet_by (step_exchanged m) m.me.who (spot.Root c k) (value_after m.aim) r0 r (root_after m.me.who (sight m.me.who r0) c k (value_after m.aim)) (step_part (spot.Root c k) m r0 r tr tt going fit)

pub lane_part : (s t k : ℕ) (m : StepState) (r0 r : Memo) (tr : Trail) → step_control.finished m ≡ false → StepFits (spot.Slot s t k) m r0 r tr → r.part ≡ r0.part
lane_part s t k m r0 r tr going fit = quiet_by (step_exchanged m) m.me.who (spot.Slot s t k) (value_after m.aim) r0 r (lane_after m.me.who (sight m.me.who r0) s t k (value_after m.aim)) (step_part (spot.Slot s t k) m r0 r tr tt going fit)

-- a step at a root that is taken up once its own era was loaded
pub root_from : (z : Bool) (c k e : ℕ) (m : StepState) (rs r : Memo) (tr : Trail) → step_control.finished m ≡ false → FitsFrom (spot.Root c k) (cond z (point.More e) (point.Redo e)) m rs r tr → r.part ≡ rs.part
root_from z c k e m rs r tr going fit =
    let d = m.me.who in
    let now = point_part m.me m.slot m.aim (spot.Root c k) fit.r0 tt r m.point fit.knows.point going fit.holds.has in
    quiet_by (step_exchanged m) d (spot.Root c k) (value_after m.aim) fit.r0 r (root_after d (sight d fit.r0) c k (value_after m.aim)) now ∙ sym (came z fit.came.holds.has)
  where
    came : (b : Bool) → PointHas m.me m.slot m.aim (spot.Root c k) fit.r0 rs (cond b (point.More e) (point.Redo e)) → rs.part ≡ fit.r0.part
    came true h = ap (λ (x : Memo). x.part) h.0
    came false h = ap (λ (x : Memo). x.part) h.0 ∙ ready_part (λ (x : Memo). x.part) m.me m.slot m.aim e fit.r0 refl

-- ---- a step by its identity and its aim as it was made

pub aimed_part : {A : Type 0} (k : Control StepState A) → KeepsAim k → (s : StepState) (p : Spot) → IsPlace p → (r0 r : Memo) (t tr : Trail) → let x = after_all k s t in step_control.finished x ≡ false → StepFits p x r0 r tr → PartBy (step_exchanged x) s.me.who p (value_after s.aim) r0 r
aimed_part k keep s p place r0 r t tr going fit =
    let x : StepState = after_all k s t in
    let (who, aim) = aimed_so k keep s t in
    subst (λ (i : Me). PartBy (step_exchanged x) i.who p (value_after s.aim) r0 r) who
    (subst (λ (y : Aim). PartBy (step_exchanged x) x.me.who p (value_after y) r0 r) aim (step_part p x r0 r tr place going fit))
