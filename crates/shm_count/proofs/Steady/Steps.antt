-- the partition on the way of a count step: what it was, or what the slot with its new value leads to
use Rattle.std.proofs.Common.{◌≡◌, ℕ, ◌+◌, refl, sym, ap, ◌∙◌, subst, false, Bool, eqb, ◌&&◌, List, [], ◌∷◌, ◌++◌, None, ◌⊎◌, inl, inr}
use Rattle.std.proofs.lemmas.Bool.{true≢false}
use Rattle.std.specs.List.{filter}
use Rattle.shm_words.specs.{declared.geometry.Geometry.Geometry, Headers.header_of}
use Rattle.shm_count.specs.Proved.Step.{BeforeExchange.ready_part, Parts.first_sight}
use Rattle.shm_count.specs.Step.{Control.{header_after, is_over, value_after}, Machines.{down_control, up_control}}
use Rattle.shm_count.specs.Step.Parts.{part_after}
use Rattle.shm_count.specs.Step.{AtFirst, InHalf, PointHas, StepFits, closed_memo, set_memo, slot_memo}
use Rattle.shm_count.specs.declared.point.{Aim.{Aim, TheVariants.{Up, Down, Change}}, Half.Half}
use Rattle.shm_count.specs.declared.point.{Half.TheVariants.{First, Second}, StepPoint.StepPoint, StepState.StepState}
use Rattle.shm_count.specs.{CountParts.{down_part, up_part}, Slots.Lost, Steady.IsSteady}
use Rattle.shm_count.specs.declared.point.StepPoint.TheVariants as point
use Rattle.shm_count.proofs.Steady.{table_of}
use Rattle.shm_graph.specs.declared.{ask.Me.Me, spot.Spot.Spot, memo.{Memo.Memo, First.TheVariants.Committed}}
use Rattle.shm_graph.specs.declared.memo.{ChangeStage.TheVariants.Lowering, Second.TheVariants.Closed, Stored.Stored}
use Rattle.shm_graph.specs.{declared.table.Part.{Part as TablePart, TheVariants.{Loose, Table}}, Agents.status_of}
use Rattle.shm_graph.specs.{Asks.Trail, Chains.part_set}
use Rattle.shm_graph.specs.MemoAfterExchange.{cut, lowered, reparted, with_unsent, with_untaken, without_made}
use Rattle.shm_graph.specs.{Ops.{On, cover, is_op, slot_of}, Reach.{is_dying, learnt, shown}, Spots.same_spot}
use Rattle.shm_graph.specs.MemoAfterStore.{era_stored, is_lowering, making_with, not_of, op_closed, other_than, put, stored_on, with_own, without_looks, written}
use Rattle.shm_graph.specs.Views.{own_word}
use Rattle.shm_graph.specs.declared.spot.Spot.TheVariants as spot
use Rattle.shm_graph.specs.declared.memo.Op.TheVariants as op
use Rattle.shm_graph.proofs.StepKinds.Loads.{choice}
use Rattle.kind_parts.specs.Reparting.{sight}

-- ---- what leaves the partition as it is

unsent_part : (c : ℕ) (p : Spot) (b : ℕ) (m : Memo) → (with_unsent c p b m).part ≡ m.part
unsent_part c (spot.Slot s r k) b m = choice (λ (y : Memo). y.part ≡ m.part) (eqb s c) (record m { unsent = put 0 m.unsent r b }) m (λ z. refl) (λ z. refl)
unsent_part c _ b m = refl

untaken_part : (c : ℕ) (p : Spot) (b : ℕ) (m : Memo) → (with_untaken c p b m).part ≡ m.part
untaken_part c (spot.Slot s r k) b m =
    choice (λ (y : Memo). y.part ≡ m.part) (eqb r c) (record m { untaken = put 0 m.untaken s b; known = filter (λ x. other_than (spot.Slot s r k) x.spot) m.known }) m (λ z. refl) (λ z. refl)
untaken_part c _ b m = refl

lowered_part : (n b : ℕ) (m : Memo) → (lowered n b m).part ≡ m.part
lowered_part n b m = choice (λ (y : Memo). y.part ≡ m.part) (eqb n 0) (record m { dying = m.dying ++ b ∷ []; known = filter (not_of b) m.known }) m (λ z. refl) (λ z. refl)

-- no store changes it
pub stored_part : (g : Geometry) (c : ℕ) (m : Memo) (p : Spot) (v : ℕ) → (stored_on g c m p v).part ≡ m.part
stored_part g c m (spot.Status d) v =
    choice (λ (y : Memo). y.part ≡ m.part) (eqb v 2) (record m { status = status_of v; making = None; known = []; values = [] }) (record m { status = status_of v }) (λ z. refl) (λ z. refl)
stored_part g c m (spot.Era i j) v =
    let p : Spot = spot.Era i j in
    let n : Memo = record (with_own m p v) { op = op_closed m.op v } in
    choice (λ (y : Memo). y.part ≡ m.part) (eqb j c) (era_stored c m p v) (with_own m p v)
    (λ z. choice (λ (y : Memo). y.part ≡ m.part) (is_lowering m.op) (without_looks c n) n (λ u. refl) (λ u. refl)) (λ z. refl)
stored_part g c m (spot.Tag b) v =
    choice (λ (y : Memo). y.part ≡ m.part) (is_dying m b) (record m { known = learnt (spot.Tag b) v m.known }) (record m { making = making_with g m.facts m.making b (spot.Tag b) v }) (λ z. refl) (λ z. refl)
stored_part g c m (spot.Body b i) v =
    let p : Spot = spot.Body b i in
    choice (λ (y : Memo). y.part ≡ m.part) (is_op m.op && same_spot (slot_of m.op) p) (record (written m) { known = learnt p v m.known }) (record m { making = making_with g m.facts m.making b p v }) (λ z. refl) (λ z. refl)
stored_part g c m _ v = refl

-- none is read from a slot of a queue, or from a root
slot_unset : (known : List Stored) (c h s r k x : ℕ) (part : TablePart) → part_set known c h (spot.Slot s r k) x part ≡ part
slot_unset known c h s r k x Loose = refl
slot_unset known c h s r k x (Table chains) = refl

root_unset : (known : List Stored) (c h d k x : ℕ) (part : TablePart) → part_set known c h (spot.Root d k) x part ≡ part
root_unset known c h d k x Loose = refl
root_unset known c h d k x (Table chains) = refl

-- ---- the exchanges

module _ (me : Me) (q : Memo) (e w : ℕ) where
  abbrev c : ℕ
  c = me.who

  -- the count of the block once the header is exchanged
  abbrev left : Aim → Half → ℕ
  left x h = (header_of (header_after me x e h w)).count

  -- that of the first half sets the partition
  set_part : (x : Aim) (p : Spot) → (set_memo me x p e First q w).part ≡ part_after c (sight c q) p (value_after x)
  set_part (Up b) (spot.Slot s r k) =
      let p : Spot = spot.Slot s r k in
      let m : Memo = record q { op = op.Up Committed p b e; made = without_made q b } in
      let n : Memo = with_unsent c p b m in
      slot_unset n.known c (shown n (spot.Home c)) s r k b n.part ∙ (unsent_part c p b m ∙ sym (slot_unset q.known c (shown m (spot.Home c)) s r k b q.part))
  set_part (Up b) _ = refl
  set_part (Down b) (spot.Slot s r k) =
      let p : Spot = spot.Slot s r k in
      let m : Memo = record q { op = op.Down Committed p b e; made = without_made q b } in
      let u : Memo = with_unsent c p 0 m in
      let n : Memo = with_untaken c p b u in
      lowered_part (left (Down b) First) b (cut c p (reparted c n p 0))
      ∙ (slot_unset n.known c (shown n (spot.Home c)) s r k 0 n.part
      ∙ (untaken_part c p b u ∙ (unsent_part c p 0 m ∙ sym (slot_unset q.known c (shown m (spot.Home c)) s r k 0 q.part))))
  set_part (Down b) p = lowered_part (left (Down b) First) b (cut c p (reparted c (record q { op = op.Down Committed p b e; made = without_made q b }) p 0))
  set_part (Change a b) p = refl

  -- that of the second half leaves it
  lower_part : (x : Aim) (p : Spot) → (set_memo me x p e Second q w).part ≡ q.part
  lower_part (Up b) p = refl
  lower_part (Down b) p = refl
  lower_part (Change a b) p =
      lowered_part (left (Change a b) Second) a (cut c p (record q { op = op.Change (Lowering Closed) p a b e; made = without_made q a }))

  -- and so do the stores of the slot
  slot_part : (x : Aim) (p : Spot) → (slot_memo me x p e q w).part ≡ part_after c (sight c q) p (value_after x)
  slot_part x p = stored_part me.geometry c (set_memo me x p e First q w) p (value_after x) ∙ set_part x p

-- and of the own era
era_part : (me : Me) (e : ℕ) (m : Memo) → (closed_memo me e m).part ≡ m.part
era_part me e m = stored_part me.geometry me.who m (spot.Era me.who me.who) (e + 1)

-- ---- the points

module _ (me : Me) (slot : ℕ) (x : Aim) (p : Spot) (r0 r : Memo) where
  -- as it was, or as the slot leads to
  abbrev pub IsPartOf : TablePart → Type 0
  IsPartOf y = (y ≡ r0.part) ⊎ (y ≡ part_after me.who (sight me.who r0) p (value_after x))

  -- from the exchange on it is the one that the slot leads to
  first_after : (q : Memo) (e w : ℕ) → AtFirst me slot x p r0 q e → (set_memo me x p e First q w).part ≡ part_after me.who (sight me.who r0) p (value_after x)
  first_after q e w first = set_part me q e w x p ∙ ap (λ s. part_after me.who s p (value_after x)) (first_sight me slot x p r0 q e first)

  slot_after : (q : Memo) (e w : ℕ) → AtFirst me slot x p r0 q e → (slot_memo me x p e q w).part ≡ part_after me.who (sight me.who r0) p (value_after x)
  slot_after q e w first = slot_part me q e w x p ∙ ap (λ s. part_after me.who s p (value_after x)) (first_sight me slot x p r0 q e first)

  -- in each half
  half_part : (m : Memo) (e : ℕ) (h : Half) → InHalf me slot x p r0 m e h → IsPartOf m.part
  half_part m e First (own, rows) = inl (ap (λ (y : Memo). y.part) rows.rest)
  half_part m e Second (d, next, (q, w, first, rows)) =
      inr (ap (λ (y : Memo). y.part) rows.rest ∙ (era_part me d (slot_memo me x p d q w) ∙ slot_after q d w first))

  -- at each point but the last one, at which the step has answered
  pub point_part : (y : StepPoint) → is_over y ≡ false → PointHas me slot x p r0 r y → IsPartOf r.part
  point_part point.Era going has = inl (ap (λ (y : Memo). y.part) has.0)
  point_part (point.More e) going has = inl (ap (λ (y : Memo). y.part) has.0)
  point_part (point.Redo e) going has = inl (ap (λ (y : Memo). y.part) has.0 ∙ ready_part (λ (y : Memo). y.part) me slot x e r0 refl)
  point_part (point.Load e h) going has = half_part r e h has
  point_part (point.Row e h w) going has = half_part r e h has.0
  point_part (point.Show e h w) going has = half_part r e h has.0
  point_part (point.Exchange e h w) going has = half_part r e h has.0
  point_part (point.Slot e z) going (q, w, first, some, same, is) = inr (ap (λ (y : Memo). y.part) same ∙ first_after q e w first)
  point_part (point.Close e First z) going (q, w, first, some, same, is) = inr (ap (λ (y : Memo). y.part) same ∙ slot_after q e w first)
  point_part (point.Close e Second z) going (q, w, half, some, same, is) =
      subst IsPartOf (sym (ap (λ (y : Memo). y.part) same ∙ lower_part me q e w x p)) (half_part q e Second half)
  point_part point.Over going has = absurd (true≢false going)

-- of the whole step
pub step_part : (p : Spot) (m : StepState) (r0 r : Memo) (tr : Trail) → is_over m.point ≡ false → StepFits p m r0 r tr → (r.part ≡ r0.part) ⊎ (r.part ≡ part_after m.me.who (sight m.me.who r0) p (value_after m.aim))
step_part p m r0 r tr going fit = point_part m.me m.slot m.aim p r0 r m.point going fit.holds.has

-- ---- steps at slots from which no partition is read

-- roots, and slots of queues
abbrev pub IsUnread : Spot → Type 0
IsUnread (spot.Root d k) = Unit {0}
IsUnread (spot.Slot s r k) = Unit {0}
IsUnread p = ⊥

pub unread_after : (c : ℕ) (m : Memo) (p : Spot) (x : ℕ) → IsUnread p → part_after c (sight c m) p x ≡ m.part
unread_after c m (spot.Root d k) x is = root_unset m.known c (cover (On (spot.Root d k) x) (spot.Home c) (own_word m.own (spot.Home c))) d k x m.part
unread_after c m (spot.Slot s r k) x is = slot_unset m.known c (cover (On (spot.Slot s r k) x) (spot.Home c) (own_word m.own (spot.Home c))) s r k x m.part
unread_after c m _ x is = absurd is

-- there the partition stays
pub unread_part : (p : Spot) (m : StepState) (r0 r : Memo) (tr : Trail) → IsUnread p → is_over m.point ≡ false → StepFits p m r0 r tr → r.part ≡ r0.part
unread_part p m r0 r tr is going fit =
    elim (step_part p m r0 r tr going fit) [
      | inl e ↦ e
      | inr e ↦ e ∙ unread_after m.me.who r0 p (value_after m.aim) is
    ]

-- and where a reference in such a slot was lost
pub lost_part : (c : ℕ) (p : Spot) (h : Bool) (t x : ℕ) (z : Bool) (m r : Memo) → IsUnread p → Lost c p h t x z m r → r.part ≡ m.part
lost_part c p h t x z m r is lost = ap (λ (y : Memo). y.part) lost.took.rest ∙ unread_after c m p x is

pub down_steady : (p : Spot) → IsUnread p → IsSteady down_control (down_part p)
down_steady p is m r0 r tr going fit = table_of r0 r (unread_part p m r0 r tr is going fit.1)
