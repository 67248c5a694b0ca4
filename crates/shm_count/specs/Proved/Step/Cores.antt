-- memos by what a count step reads of them: their cores, the steps in progress, and the slots that a step may have
use Rattle.std.proofs.Common.{◌≡◌, ℕ, ◌+◌, ◌≤◌, refl, sym, ap, ◌∙◌, subst, true, false, eqb}
use Rattle.std.specs.Prelude.{Bool}
use Rattle.shm_words.specs.{declared.geometry.Geometry.Geometry, Headers.header_of}
use Rattle.shm_graph.specs.declared.{ask.Me.Me, spot.Spot.Spot, memo.Memo.Memo}
use Rattle.shm_graph.specs.declared.memo.{ChangeStage.TheVariants.{Lowering, Raising}, First.TheVariants.Committed}
use Rattle.shm_graph.specs.declared.memo.{Op.Op, Second.TheVariants.Closed}
use Rattle.shm_graph.specs.MemoAfterExchange.{reparted, cut, without_made, lowered, with_untaken}
use Rattle.shm_graph.specs.MemoAfterStore.{op_written, written, stored_on, with_own, era_stored, is_lowering}
use Rattle.shm_graph.specs.{Spots.spot_at, Reach.{learnt, sifted}, Views.own_word, Ops.{slot_of, is_op}}
use Rattle.shm_graph.specs.{Asks.{at_of, Trail}, Laws.{Stands, Frame, KeptAt}, Blocks.classes, Core.core}
use Rattle.shm_graph.specs.declared.spot.Spot.TheVariants as spot
use Rattle.shm_graph.specs.declared.memo.Op.TheVariants as op
use Rattle.kind_laws.specs.HeaderExchanges.{dying_after}
use Rattle.kind_parts.proofs.MemoCommits.{untaken_list, known_left, known_lowered, lowered_is, with_untaken_is, unsent_list, with_unsent_is}
use Rattle.kind_parts.proofs.Cores.{HasSlot, body_word, core_cond}
use Rattle.shm_count.specs.declared.point.{Aim.{TheVariants.{Down, Change, Up}, Aim}, Half.TheVariants.{First, Second}}
use Rattle.shm_count.specs.declared.point.{Half.Half, StepPoint.StepPoint}
use Rattle.shm_count.specs.Step.{CanUp, CanStep, CanChange, CanAim, set_memo, closed_memo, CanDown, PointHolds, NextHolds}
use Rattle.shm_count.specs.Step.Control.{last_era, header_after, PartFits, PointFits, step_ask_at, step_next_at}

-- ---- steps in progress

-- the step that an exchange of a half commits
abbrev pub set_op : Aim → Spot → ℕ → Half → Op
set_op (Up b) p e h = op.Up Committed p b e
set_op (Down b) p e h = op.Down Committed p b e
set_op (Change a b) p e First = op.Change (Raising Committed) p a b e
set_op (Change a b) p e Second = op.Change (Lowering Closed) p a b e

-- of a memo that the exchange makes: the step is committed, and the status and the own words stay
pub record IsSet (m n : Memo) (o : Op) : Type 0 where
  pub op : n.op ≡ o
  pub status : n.status ≡ m.status
  pub own : n.own ≡ m.own

-- from another form of the memo
set_from : (m n n' : Memo) → ◌≡◌ {A = Memo} n n' → n'.status ≡ m.status → n'.own ≡ m.own → IsSet m n n'.op
set_from m n n' e s o = record { op = ap (λ (y : Memo). y.op) e; status = ap (λ (y : Memo). y.status) e ∙ s; own = ap (λ (y : Memo). y.own) e ∙ o }

-- the exchange of a half makes such a memo
pub is_set : (me : Me) (x : Aim) (p : Spot) (e : ℕ) (h : Half) (q : Memo) (w : ℕ) → PartFits x h → IsSet q (set_memo me x p e h q w) (set_op x p e h)
is_set me (Up b) p e First q w z =
    let c = me.who in
    set_from q (set_memo me (Up b) p e First q w) (reparted c (record q { op = op.Up Committed p b e; made = without_made q b; unsent = unsent_list c p b q.unsent }) p b)
    (ap (λ (y : Memo). reparted c y p b) (with_unsent_is c p b (record q { op = op.Up Committed p b e; made = without_made q b })))
    (refl {a = q.status}) (refl {a = q.own})
is_set me (Down b) p e First q w z =
    let c = me.who in
    let m : Memo = record q { op = op.Down Committed p b e; made = without_made q b } in
    let m1 : Memo = record m { unsent = unsent_list c p 0 q.unsent } in
    let m2 : Memo = record m1 { untaken = untaken_list c p b q.untaken; known = known_left c p q.known } in
    let m3 : Memo = cut c p (reparted c m2 p 0) in
    let n : ℕ = (header_of (header_after me (Down b) e First w)).count in
    let m4 : Memo = record m3 { dying = dying_after n b m3.dying; known = known_lowered n b m3.known } in
    let n' : Memo = sifted c m4 in
    set_from q (set_memo me (Down b) p e First q w) n'
    (◌∙◌ {c = n'} (ap (λ (y : Memo). sifted c (lowered n b (cut c p (reparted c (with_untaken c p b y) p 0)))) (with_unsent_is c p 0 m))
    (◌∙◌ {c = n'} (ap (λ (y : Memo). sifted c (lowered n b (cut c p (reparted c y p 0)))) (with_untaken_is c p b m1))
    (ap (sifted c) {y = m4} (lowered_is n b m3))))
    (refl {a = q.status}) (refl {a = q.own})
is_set me (Change a b) p e First q w z =
    let c = me.who in
    let n : Memo = set_memo me (Change a b) p e First q w in
    set_from q n n (refl {a = n}) (refl {a = q.status}) (refl {a = q.own})
is_set me (Change a b) p e Second q w z =
    let c = me.who in
    let m3 : Memo = cut c p (record q { op = op.Change (Lowering Closed) p a b e; made = without_made q a }) in
    let n : ℕ = (header_of (header_after me (Change a b) e Second w)).count in
    let m4 : Memo = record m3 { dying = dying_after n a m3.dying; known = known_lowered n a m3.known } in
    set_from q (set_memo me (Change a b) p e Second q w) (sifted c m4)
    (ap (sifted c) {y = m4} (lowered_is n a m3))
    (refl {a = q.status}) (refl {a = q.own})
is_set me (Up b) p e Second q w z = absurd z
is_set me (Down b) p e Second q w z = absurd z

-- ---- slots

-- a slot that a count step of c may have
abbrev pub IsStepSlot : ℕ → Spot → Type 0
IsStepSlot c (spot.Root d k) = d ≡ c
IsStepSlot c (spot.Home d) = d ≡ c
IsStepSlot c (spot.Slot s r k) = Unit {0}
IsStepSlot c (spot.Body b i) = Unit {0}
IsStepSlot c p = ⊥

-- the slot of a step up is one by what the memo shows of it
up_slot : (wide : Bool) (n c : ℕ) (m : Memo) (b : ℕ) (p : Spot) → CanUp wide n c m b p → IsStepSlot c p
up_slot wide n c m b (spot.Root d k) y = y.0
up_slot wide n c m b (spot.Home d) y = y.0
up_slot wide n c m b (spot.Slot s r k) y = tt
up_slot wide n c m b (spot.Body d i) y = tt
up_slot wide n c m b _ y = absurd y

-- so is that of a step down
down_slot : (wide : Bool) (n c : ℕ) (m : Memo) (b : ℕ) (p : Spot) → CanDown wide n c m b p → IsStepSlot c p
down_slot wide n c m b (spot.Root d k) y = y.0
down_slot wide n c m b (spot.Slot s r k) y = tt
down_slot wide n c m b (spot.Body d i) y = tt
down_slot wide n c m b _ y = absurd y

-- and that of a change
change_slot : (wide : Bool) (c : ℕ) (m : Memo) (a b : ℕ) (p : Spot) → CanChange wide c m a b p → IsStepSlot c p
change_slot wide c m a b (spot.Root d k) y = y.0
change_slot wide c m a b (spot.Body d i) y = tt
change_slot wide c m a b _ y = absurd y

-- so that it is for each step
aim_slot : (wide : Bool) (n c : ℕ) (m : Memo) (x : Aim) (p : Spot) → CanAim wide n c m x p → IsStepSlot c p
aim_slot wide n c m (Up b) p y = up_slot wide n c m b p y
aim_slot wide n c m (Down b) p y = down_slot wide n c m b p y
aim_slot wide n c m (Change a b) p y = change_slot wide c m a b p y

-- so it is where the step could begin at an era that leaves room
pub can_slot : (me : Me) (slot : ℕ) (x : Aim) (p : Spot) (r0 : Memo) (e : ℕ) → CanStep me slot x p r0 → e ≡ own_word r0.own (spot.Era me.who me.who) → e ≤ last_era x → IsStepSlot me.who p
can_slot me slot x p r0 e can own l = aim_slot me.geometry.wide me.geometry.clients me.who r0 x p (can.can (subst (λ y. y ≤ last_era x) own l))

-- the store of the slot writes the step, and leaves the status
pub is_stored : (g : Geometry) (c : ℕ) (p : Spot) (v : ℕ) (m : Memo) → IsStepSlot c p → HasSlot m p → ((stored_on g c m p v).op ≡ op_written m.op) × ((stored_on g c m p v).status ≡ m.status)
is_stored g c (spot.Root d k) v m s h = (refl, refl)
is_stored g c (spot.Home d) v m s h = (refl, refl)
is_stored g c (spot.Slot i j k) v m s h = (refl, refl)
is_stored g c (spot.Body b i) v m s h = let e = body_word g c b i v m h in (ap (λ (y : Memo). y.op) e, ap (λ (y : Memo). y.status) e)
is_stored g c _ v m s h = absurd s

-- ---- cores

-- the store of the slot reads no more than the core
pub stored_core : (g : Geometry) (c : ℕ) (p : Spot) (v : ℕ) (m n : Memo) → IsStepSlot c p → HasSlot m p → core m ≡ core n → core (stored_on g c m p v) ≡ core (stored_on g c n p v)
stored_core g c (spot.Root d k) v m n s h e = ap (λ (y : Memo). core (stored_on g c y (spot.Root d k) v)) e
stored_core g c (spot.Home d) v m n s h e = ap (λ (y : Memo). core (stored_on g c y (spot.Home d) v)) e
stored_core g c (spot.Slot i j k) v m n s h e = ap (λ (y : Memo). core (stored_on g c y (spot.Slot i j k) v)) e
stored_core g c (spot.Body b i) v m n s h e =
    ap core (body_word g c b i v m h)
    ∙ (ap (λ (y : Memo). core (record (written y) { known = learnt (spot.Body b i) v y.known })) e
    ∙ ap core (sym (body_word g c b i v n (subst (λ (o : Op). (is_op o ≡ true) × (slot_of o ≡ spot.Body b i)) (ap (λ (y : Memo). y.op) e) h))))
stored_core g c _ v m n s h e = absurd s

-- the store of the own era reads no more than the core
closed_own : (me : Me) (e : ℕ) (m : Memo) → core (closed_memo me e m) ≡ core (closed_memo me e (core m))
closed_own me e m =
    let c = me.who in
    let p : Spot = spot.Era c c in
    core_cond (eqb c c) (era_stored c m p (e + 1)) (with_own m p (e + 1)) (era_stored c (core m) p (e + 1)) (with_own (core m) p (e + 1))
    (core_cond (is_lowering m.op) _ _ _ _ refl refl)
    refl

-- so that memos of one core come to one core
pub closed_core : (me : Me) (e : ℕ) (m n : Memo) → core m ≡ core n → core (closed_memo me e m) ≡ core (closed_memo me e n)
closed_core me e m n i = closed_own me e m ∙ (ap (λ (y : Memo). core (closed_memo me e y)) i ∙ sym (closed_own me e n))

-- ---- what a step owes

-- the step at a point keeps the invariant, and then what comes next holds of the memo
abbrev pub PointKeeps : Me → ℕ → Aim → Spot → Memo → (Spot → ℕ) → (ℕ → Memo) → Frame → Trail → StepPoint → Type 0
PointKeeps me slot x p r0 w r f tr y =
    Stands me w r f tr → f.fresh ≡ false → CanStep me slot x p r0 → PointFits me x y → PointHolds me slot x p r0 (r me.who) y
    → KeptAt me w r (step_ask_at me slot x y) f (λ n r'. NextHolds me slot x p r0 r' (step_next_at me x y n)) (spot_at me.geometry (classes w) (at_of (step_ask_at me slot x y)))
