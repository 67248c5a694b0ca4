-- the last points of a count step: what the exchange of a header that finds it, the store of the slot and that of the own era keep
use Rattle.std.proofs.Common.{◌≡◌, ◌≢◌, ℕ, ◌+◌, ◌^◌, ◌<◌, refl, sym, ap, ◌∙◌, subst, arith, Bool, true, false, not, ◌&&◌, eqb}
use Rattle.std.proofs.lemmas.Bool.{eq-eqb, and_from, lt-ltb}
use Rattle.shm_words.proofs.Placing.{total_small}
use Rattle.shm_words.specs.{Layout.{GeometryFits, total_of, address}, Headers.header_of}
use Rattle.shm_words.specs.declared.place.Place.TheVariants as place
use Rattle.shm_graph.specs.declared.{ask.{Ask.{Ask, TheVariants.Store}, Me.Me}, spot.Spot.Spot, memo.{Memo.Memo, Op.Op}}
use Rattle.shm_graph.specs.declared.memo.{Second.TheVariants.Closed, ChangeStage.TheVariants.Lowering}
use Rattle.shm_graph.specs.{Views.{own_word, view}, References.words_of, Asks.Trail}
use Rattle.shm_graph.specs.{Laws.{framed, Stands, KeptAt, Frame}, MemoAfterStore.{op_written, op_closed}}
use Rattle.shm_graph.specs.{Ops.{is_op, slot_of}, Held.{HeldAt, OpTie}, Spots.{spot_at, IsAt}, Blocks.classes}
use Rattle.shm_graph.specs.{Changes.{called, memo_on}, Agents.recovers, Core.core}
use Rattle.shm_graph.specs.declared.spot.Spot.TheVariants as spot
use Rattle.shm_graph.specs.declared.memo.Op.TheVariants as op
use Rattle.shm_graph.proofs.{Spots.SpotPlaces.spot-place, Memos.MemoSteps.recovers_on}
use Rattle.kind_laws.specs.{Slotting.Writes, OwnWords.Closes}
use Rattle.kind_parts.specs.Conditions.{IsHere, MayWrite}
use Rattle.kind_parts.proofs.{SlotStores.{home_stored, queue_stored, body_stored, root_stored}, OwnStoresEra.era_closed}
use Rattle.kind_parts.proofs.{KeptAfter.kept_going, Cores.{HasSlot, here_same}}
use Rattle.shm_count.specs.declared.point.{Aim.{Aim, TheVariants.{Change, Down, Up}}, Half.TheVariants.{First, Second}}
use Rattle.shm_count.specs.declared.point.Half.{Half}
use Rattle.shm_count.specs.Proved.Step.Cores.{set_op, stored_core, can_slot, IsSet, PointKeeps, IsStepSlot, is_set, is_stored, closed_core}
use Rattle.shm_count.specs.Proved.Step.Memos.{era_room, rows_same, half_status}
use Rattle.shm_count.specs.Step.{NextHolds, AtFirst, set_memo, slot_memo, closed_memo, InHalf, CanStep, PointHolds}
use Rattle.shm_count.specs.Step.Control.{AimFits, step_next_at, PartFits, value_after, EraFits, closed_next, raises}
use Rattle.shm_count.specs.declared.point.StepPoint.TheVariants as point

-- ---- the step in progress

-- what the invariant says of a step in progress at era e: that is the own era, and the spot of its slot's address is the slot
pub record IsGoing (me : Me) (w : Spot → ℕ) (m : Memo) (p : Spot) (e : ℕ) : Type 0 where
  pub era : e ≡ own_word m.own (spot.Era me.who me.who)
  pub at : IsAt me.geometry (classes w) p

-- the own word of the own era
own_era : (me : Me) (w : Spot → ℕ) (r : ℕ → Memo) → HeldAt me.geometry w (view r) → me.who < me.geometry.clients → own_word (r me.who).own (spot.Era me.who me.who) ≡ w (spot.Era me.who me.who)
own_era me w r held who = held.mine me.who who (spot.Era me.who me.who) (eq-eqb me.who me.who refl)

-- so it is for a step that a half committed
pub set_going : (me : Me) (x : Aim) (p : Spot) (e : ℕ) (h : Half) (w : Spot → ℕ) (r : ℕ → Memo) → HeldAt me.geometry w (view r) → me.who < me.geometry.clients → (r me.who).op ≡ set_op x p e h → IsGoing me w (r me.who) p e
set_going me x p e h w r held who o = go x h (subst (OpTie me.geometry (classes w) (w (spot.Redo me.who)) (w (spot.RedoMore me.who)) (w (spot.Era me.who me.who)) (words_of me.geometry.wide w)) o (held.op me.who who))
  where
    own : own_word (r me.who).own (spot.Era me.who me.who) ≡ w (spot.Era me.who me.who)
    own = own_era me w r held who

    go : (x : Aim) (h : Half) → OpTie me.geometry (classes w) (w (spot.Redo me.who)) (w (spot.RedoMore me.who)) (w (spot.Era me.who me.who)) (words_of me.geometry.wide w) (set_op x p e h) → IsGoing me w (r me.who) p e
    go (Up b) h s = record { era = s.current ∙ sym own; at = s.at }
    go (Down b) h s = record { era = s.current ∙ sym own; at = s.at }
    go (Change a b) First s = record { era = s.current ∙ sym own; at = s.at }
    go (Change a b) Second s = record { era = s.current ∙ sym own; at = s.at }

-- ---- the slot

-- a new value is a word
value_small : (me : Me) (x : Aim) → GeometryFits me.geometry → AimFits me x → value_after x < 2 ^ 64
value_small me (Up b) fits l = let most = total_small me.geometry fits in let u : b < total_of me.geometry = l.1 in omega arith
value_small me (Down b) fits l = omega arith
value_small me (Change a b) fits l = let most = total_small me.geometry fits in let u : b < total_of me.geometry = l.1.1 in omega arith

-- a committed step writes its new value
set_writes : (x : Aim) (p : Spot) (e : ℕ) → Writes (set_op x p e First) (op_written (set_op x p e First)) (value_after x)
set_writes (Up b) p e = (refl, refl)
set_writes (Down b) p e = (refl, refl)
set_writes (Change a b) p e = (refl, refl)

-- the slot of a committed step
set_slot : (x : Aim) (p : Spot) (e : ℕ) → (is_op (set_op x p e First) ≡ true) × (slot_of (set_op x p e First) ≡ p)
set_slot (Up b) p e = (refl, refl)
set_slot (Down b) p e = (refl, refl)
set_slot (Change a b) p e = (refl, refl)

-- the store of a slot, by its kind
slot_written : (me : Me) (w : Spot → ℕ) (r : ℕ → Memo) (f : Frame) (tr : Trail) (at y : ℕ) (p : Spot) → Stands me w r f tr → f.fresh ≡ false → spot_at me.geometry (classes w) at ≡ p → IsStepSlot me.who p → MayWrite (r me.who) p y
    → KeptAt me w r (Store at y) f (λ n m. Unit {0}) (spot_at me.geometry (classes w) at)
slot_written me w r f tr at y (spot.Root d k) st going e s may = root_stored me w r f tr at k y st going (e ∙ ap (λ i. spot.Root i k) s) (subst (λ i. MayWrite (r me.who) (spot.Root i k) y) s may)
slot_written me w r f tr at y (spot.Home d) st going e s may = home_stored me w r f tr at y st going (e ∙ ap (λ i. spot.Home i) s) (subst (λ i. MayWrite (r me.who) (spot.Home i) y) s may)
slot_written me w r f tr at y (spot.Slot i j k) st going e s may = queue_stored me w r f tr at i j k y st going e may
slot_written me w r f tr at y (spot.Body b i) st going e s may = body_stored me w r f tr at b i y st going e may
slot_written me w r f tr at y _ st going e s may = absurd s

-- each step has a first half
part_first : (x : Aim) → PartFits x First
part_first (Up b) = tt
part_first (Down b) = tt
part_first (Change a b) = tt

-- where the slot is to be stored, the step is committed, its slot stands at the address, and it is one that a step may have
pub record IsSetAt (me : Me) (slot : ℕ) (x : Aim) (p : Spot) (w : Spot → ℕ) (m : Memo) (e : ℕ) : Type 0 where
  pub place : spot_at me.geometry (classes w) slot ≡ p
  pub kind : IsStepSlot me.who p
  pub op : m.op ≡ set_op x p e First

-- so it is at that point
pub slot_set : (me : Me) (slot : ℕ) (x : Aim) (p : Spot) (r0 : Memo) (w : Spot → ℕ) (r : ℕ → Memo) (e : ℕ) (z : Bool) → HeldAt me.geometry w (view r) → me.who < me.geometry.clients → CanStep me slot x p r0 → EraFits x e First → PointHolds me slot x p r0 (r me.who) (point.Slot e z) → IsSetAt me slot x p w (r me.who) e
slot_set me slot x p r0 w r e z held who can fits h =
    let o : (r me.who).op ≡ set_op x p e First = ap (λ (y : Memo). y.op) h.has.4 ∙ (is_set me x p e First h.has.0 h.has.1 (part_first x)).op in
    record {
      place = ap (spot_at me.geometry (classes w)) can.at ∙ (set_going me x p e First w r held who o).at;
      kind = can_slot me slot x p r0 e can h.has.2.0 (era_room x e fits);
      op = o;
    }

-- the slot is stored
pub slot_step : (me : Me) (slot : ℕ) (x : Aim) (p : Spot) (r0 : Memo) (w : Spot → ℕ) (r : ℕ → Memo) (f : Frame) (tr : Trail) (e : ℕ) (z : Bool) → PointKeeps me slot x p r0 w r f tr (point.Slot e z)
slot_step me slot x p r0 w r f tr e z st going can fits h =
    let c = me.who in
    let m : Memo = r c in
    let q : Memo = h.has.0 in
    let k : ℕ = h.has.1 in
    let first : AtFirst me slot x p r0 q e = h.has.2 in
    let same : core m ≡ core (set_memo me x p e First q k) = h.has.4 in
    let set : IsSet q (set_memo me x p e First q k) (set_op x p e First) = is_set me x p e First q k (part_first x) in
    let s : IsSetAt me slot x p w m e = slot_set me slot x p r0 w r e z st.held st.who can fits h in
    let here : IsHere m = here_same r0 m (ap (λ (y : Memo). y.status) same ∙ (set.status ∙ ap (λ (y : Memo). y.status) first.1.rest)) can.here in
    let y : ℕ = value_after x in
    let a : Ask = Store slot y in
    let has : HasSlot m p = subst (λ (o : Op). (is_op o ≡ true) × (slot_of o ≡ p)) (sym s.op) (set_slot x p e) in
    let n : Memo = called m (framed me a (record f { fresh = false }) 0) in
    kept_going me w r a f (λ n r'. NextHolds me slot x p r0 r' (step_next_at me x (point.Slot e z) n)) p going s.place
    (slot_written me w r f tr slot y p st going s.place s.kind
    (record { here = here; slot = has.1; op = subst (λ (o : Op). Writes o (op_written o) y) (sym s.op) (set_writes x p e); small = value_small me x can.geometry can.blocks }))
    (record {
      agent = recovers_on m (framed me a (record f { fresh = false }) 0) p ∙ h.agent;
      has = (q, k, first, h.has.3, stored_core me.geometry c p y n (set_memo me x p e First q k) s.kind has same, h.has.5);
    })

-- ---- the own era

-- a step that is closed
closes_set : (x : Aim) (p : Spot) (e : ℕ) → Closes (op_written (set_op x p e First)) (op_closed (op_written (set_op x p e First)) (e + 1))
closes_set (Up b) p e = refl
closes_set (Down b) p e = refl
closes_set (Change a b) p e = refl

-- the step whose slot is stored is at the own era
written_going : (me : Me) (x : Aim) (p : Spot) (e : ℕ) (w : Spot → ℕ) (r : ℕ → Memo) → HeldAt me.geometry w (view r) → me.who < me.geometry.clients → (r me.who).op ≡ op_written (set_op x p e First) → e ≡ own_word (r me.who).own (spot.Era me.who me.who)
written_going me x p e w r held who o = go x (subst (OpTie me.geometry (classes w) (w (spot.Redo me.who)) (w (spot.RedoMore me.who)) (w (spot.Era me.who me.who)) (words_of me.geometry.wide w)) o (held.op me.who who))
  where
    own : own_word (r me.who).own (spot.Era me.who me.who) ≡ w (spot.Era me.who me.who)
    own = own_era me w r held who

    go : (x : Aim) → OpTie me.geometry (classes w) (w (spot.Redo me.who)) (w (spot.RedoMore me.who)) (w (spot.Era me.who me.who)) (words_of me.geometry.wide w) (op_written (set_op x p e First)) → e ≡ own_word (r me.who).own (spot.Era me.who me.who)
    go (Up b) s = s.current ∙ sym own
    go (Down b) s = s.current ∙ sym own
    go (Change a b) s = s.current ∙ sym own

-- the own era is stored, where the step has done all that it closes
era_stored_kept : (me : Me) (w : Spot → ℕ) (r : ℕ → Memo) (f : Frame) (tr : Trail) (e : ℕ) (after : ℕ → Memo → Type 0) → Stands me w r f tr → f.fresh ≡ false → IsHere (r me.who) → e ≡ own_word (r me.who).own (spot.Era me.who me.who) → Closes (r me.who).op (op_closed (r me.who).op (e + 1))
    → ((m : Memo) (n : ℕ) → recovers m ≡ recovers (r me.who) → core m ≡ core (closed_memo me e (r me.who)) → after n m)
    → let at : ℕ = address me.geometry (place.Era me.who me.who) in KeptAt me w r (Store at (e + 1)) f after (spot_at me.geometry (classes w) at)
era_stored_kept me w r f tr e after st going here own closes holds =
    let c = me.who in
    let m : Memo = r c in
    let p : Spot = spot.Era c c in
    let at : ℕ = address me.geometry (place.Era c c) in
    let a : Ask = Store at (e + 1) in
    let i : spot_at me.geometry (classes w) at ≡ p = spot-place me.geometry (classes w) (place.Era c c) (and_from _ _ (lt-ltb c me.geometry.clients st.who) (lt-ltb c me.geometry.clients st.who)) in
    let n : Memo = called m (framed me a (record f { fresh = false }) 0) in
    kept_going me w r a f after p going i
    (subst (λ y. KeptAt me w r (Store at (y + 1)) f (λ n m. Unit {0}) (spot_at me.geometry (classes w) at)) (sym own)
    (era_closed me w r f tr at st going i (record { here = here; op = subst (λ y. Closes m.op (op_closed m.op (y + 1))) own closes })))
    (holds (memo_on m (framed me a (record f { fresh = false }) 0) p) 0 (recovers_on m (framed me a (record f { fresh = false }) 0) p) (closed_core me e n m refl))

-- the first half is closed: the step is done, or a change goes on with its second half
pub close_first : (me : Me) (slot : ℕ) (x : Aim) (p : Spot) (r0 : Memo) (w : Spot → ℕ) (r : ℕ → Memo) (f : Frame) (tr : Trail) (e : ℕ) (z : Bool) → PointKeeps me slot x p r0 w r f tr (point.Close e First z)
close_first me slot x p r0 w r f tr e z st going can fits h =
    let c = me.who in
    let m : Memo = r c in
    let q : Memo = h.has.0 in
    let k : ℕ = h.has.1 in
    let first : AtFirst me slot x p r0 q e = h.has.2 in
    let same : core m ≡ core (slot_memo me x p e q k) = h.has.4 in
    let set : IsSet q (set_memo me x p e First q k) (set_op x p e First) = is_set me x p e First q k fits.1 in
    let kind : IsStepSlot c p = can_slot me slot x p r0 e can first.0 (era_room x e fits.0) in
    let stored = is_stored me.geometry c p (value_after x) (set_memo me x p e First q k) kind (subst (λ (o : Op). (is_op o ≡ true) × (slot_of o ≡ p)) (sym set.op) (set_slot x p e)) in
    let o : m.op ≡ op_written (set_op x p e First) = ap (λ (y : Memo). y.op) same ∙ (stored.0 ∙ ap op_written set.op) in
    let here : IsHere m = here_same r0 m (ap (λ (y : Memo). y.status) same ∙ (stored.1 ∙ (set.status ∙ ap (λ (y : Memo). y.status) first.1.rest))) can.here in
    era_stored_kept me w r f tr e (λ n r'. NextHolds me slot x p r0 r' (step_next_at me x (point.Close e First z) n)) st going here (written_going me x p e w r st.held st.who o)
    (subst (λ (o : Op). Closes o (op_closed o (e + 1))) (sym o) (closes_set x p e))
    (λ m' n agent i. first_closed x m' q k first h.has.3 (agent ∙ h.agent) (i ∙ closed_core me e m (slot_memo me x p e q k) same) h.has.5)
  where
    first_closed : (x : Aim) (m' q : Memo) (k : ℕ) → AtFirst me slot x p r0 q e → (header_of k).count ≢ 0 → recovers m' ≡ recovers r0 → core m' ≡ core (closed_memo me e (slot_memo me x p e q k)) → z ≡ (not (raises x First) && (eqb (header_of k).count 1)) → NextHolds me slot x p r0 m' (closed_next x e First z)
    first_closed (Up b) m' q k first some agent i j = (e, q, k, first, some, i, j)
    first_closed (Down b) m' q k first some agent i j = (e, q, k, first, some, i, j)
    first_closed (Change a b) m' q k first some agent i j = record { agent = agent; has = (e, refl, (q, k, first, rows_same me.who (closed_memo me e (slot_memo me (Change a b) p e q k)) m' i)) }

-- the second half of a change is closed: the step is done
pub close_second : (me : Me) (slot : ℕ) (x : Aim) (p : Spot) (r0 : Memo) (w : Spot → ℕ) (r : ℕ → Memo) (f : Frame) (tr : Trail) (e : ℕ) (z : Bool) → PointKeeps me slot x p r0 w r f tr (point.Close e Second z)
close_second me slot (Up b) p r0 w r f tr e z st going can fits h = absurd fits.1
close_second me slot (Down b) p r0 w r f tr e z st going can fits h = absurd fits.1
close_second me slot (Change a b) p r0 w r f tr e z st going can fits h =
    let c = me.who in
    let x : Aim = Change a b in
    let m : Memo = r c in
    let q : Memo = h.has.0 in
    let k : ℕ = h.has.1 in
    let half : InHalf me slot x p r0 q e Second = h.has.2 in
    let same : core m ≡ core (set_memo me x p e Second q k) = h.has.4 in
    let set : IsSet q (set_memo me x p e Second q k) (set_op x p e Second) = is_set me x p e Second q k tt in
    let o : m.op ≡ op.Change (Lowering Closed) p a b e = ap (λ (y : Memo). y.op) same ∙ set.op in
    let here : IsHere m = here_same r0 m (ap (λ (y : Memo). y.status) same ∙ (set.status ∙ half_status me slot p r0 q e x Second can fits.0 tt half)) can.here in
    era_stored_kept me w r f tr e (λ n r'. NextHolds me slot x p r0 r' (step_next_at me x (point.Close e Second z) n)) st going here (set_going me x p e Second w r st.held st.who o).era
    (subst (λ (o : Op). Closes o (op_closed o (e + 1))) (sym o) refl)
    (λ m' n agent i. (e, q, k, half, h.has.3, i ∙ closed_core me e m (set_memo me x p e Second q k) same, h.has.5))

-- the own era is stored
pub close_step : (me : Me) (slot : ℕ) (x : Aim) (p : Spot) (r0 : Memo) (w : Spot → ℕ) (r : ℕ → Memo) (f : Frame) (tr : Trail) (e : ℕ) (h : Half) (z : Bool) → PointKeeps me slot x p r0 w r f tr (point.Close e h z)
close_step me slot x p r0 w r f tr e First z = close_first me slot x p r0 w r f tr e z
close_step me slot x p r0 w r f tr e Second z = close_second me slot x p r0 w r f tr e z
