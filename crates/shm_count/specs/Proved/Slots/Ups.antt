-- what a step up leaves, at each kind of slot
use Rattle.std.proofs.Common.{◌≡◌, ℕ, ◌+◌, ◌≤◌, refl, sym, ap, ◌∙◌, subst, Bool, false, cond, eqb, List}
use Rattle.std.proofs.lemmas.Bool.{eq-eqb, cond-true}
use Rattle.shm_graph.specs.declared.{ask.Me.Me, spot.Spot.Spot, memo.{Memo.Memo, First.TheVariants.Committed, Op.Op}}
use Rattle.shm_graph.specs.{declared.memo.Stored.Stored, Chains.part_set, MemoAfterExchange.{reparted, without_made}}
use Rattle.shm_graph.specs.{Ops.{On, cover}, Spots.same_spot}
use Rattle.shm_graph.specs.{MemoAfterStore.{put, written, stored_on, with_own, era_stored}, Views.own_word, Core.core}
use Rattle.shm_graph.specs.declared.spot.Spot.TheVariants as spot
use Rattle.shm_graph.specs.declared.memo.Op.TheVariants as op
use Rattle.shm_graph.proofs.Spots.Spotting.{same_spot_self}
use Rattle.kind_parts.specs.Reparting.{sight}
use Rattle.kind_parts.proofs.Cores.{body_word}
use Rattle.shm_count.specs.declared.point.{Aim.TheVariants.Up, Half.TheVariants.First}
use Rattle.shm_count.specs.Slots.{IsFilled, slotted, known_at, unsent_at, Filled}
use Rattle.shm_count.specs.Step.{Done, begun, set_memo, slot_memo, closed_memo, Parts.part_after}
use Rattle.shm_count.specs.Proved.Step.Parts.{lasting_not, first_own, rows_grow}

module _ (me : Me) (slot b e w : ℕ) (q : Memo) where
  abbrev c : ℕ
  c = me.who

  -- the memo once the step is committed, and once its slot is stored
  abbrev raised : Spot → Memo
  raised p = record q { op = op.Up Committed p b e; made = without_made q b; unsent = unsent_at p b q.unsent; part = part_set q.known c (cover (On p b) (spot.Home c) (own_word q.own (spot.Home c))) p b q.part }

  abbrev filled : Spot → Memo
  filled p = let n : Memo = written (slotted p b (raised p)) in record n { known = known_at p b n.known }

  -- the exchange makes it
  set_is : (p : Spot) → IsFilled c p → ◌≡◌ {A = Memo} (set_memo me (Up b) p e First q w) (raised p)
  set_is (spot.Root d k) i = refl
  set_is (spot.Home d) i = refl
  set_is (spot.Body d k) i = refl
  set_is (spot.Slot s r k) i =
      let m : Memo = record q { op = op.Up Committed (spot.Slot s r k) b e; made = without_made q b } in
      ap (λ (x : Memo). reparted c x (spot.Slot s r k) b) {y = record m { unsent = put 0 q.unsent r b }} (cond-true (eqb s c) _ _ (eq-eqb s c i))
  set_is _ i = absurd i

  -- the store of the slot makes that
  stored_is : (p : Spot) → IsFilled c p → ◌≡◌ {A = Memo} (stored_on me.geometry c (raised p) p b) (filled p)
  stored_is (spot.Root d k) i = refl
  stored_is (spot.Home d) i = refl
  stored_is (spot.Slot s r k) i = refl
  stored_is (spot.Body d k) i = body_word me.geometry c d k b (raised (spot.Body d k)) (refl, refl)
  stored_is _ i = absurd i

  slot_is : (p : Spot) → IsFilled c p → ◌≡◌ {A = Memo} (slot_memo me (Up b) p e q w) (filled p)
  slot_is p i = ◌∙◌ {c = filled p} (ap (λ (x : Memo). stored_on me.geometry c x p b) {y = raised p} (set_is p i)) (stored_is p i)

  abbrev closes : Spot → Memo
  closes p = record (with_own (filled p) (spot.Era c c) (e + 1)) { op = op.Nothing }

  -- the step in progress is an up still, which is closed by the store of the own era
  is_up : (p : Spot) → IsFilled c p → ◌≡◌ {A = Memo} (era_stored c (filled p) (spot.Era c c) (e + 1)) (closes p)
  is_up (spot.Root d k) i = refl
  is_up (spot.Home d) i = refl
  is_up (spot.Slot s r k) i = refl
  is_up (spot.Body d k) i = refl
  is_up _ i = absurd i

  pub closed_is : (p : Spot) → IsFilled c p → ◌≡◌ {A = Memo} (closed_memo me e (slot_memo me (Up b) p e q w)) (closes p)
  closed_is p i =
      let x : Memo = filled p in
      ◌∙◌ {c = closes p} (ap (closed_memo me e) {y = x} (slot_is p i))
      (◌∙◌ {c = closes p} (cond-true (eqb c c) (era_stored c x (spot.Era c c) (e + 1)) (with_own x (spot.Era c c) (e + 1)) (eq-eqb c c refl)) (is_up p i))

-- the memo u with these own words, the block at the slot, and no step in progress; h is what the home held
abbrev with_slot : (c b h : ℕ) (p : Spot) → List Stored → Memo → Memo
with_slot c b h p own u = record u { own = own; op = op.Nothing; known = known_at p b u.known; unsent = unsent_at p b u.unsent; part = part_set u.known c (cover (On p b) (spot.Home c) h) p b u.part }

closes_core : (me : Me) (slot b e w : ℕ) (q : Memo) (p : Spot) → IsFilled me.who p
    → core (closes me slot b e w q p) ≡ core (with_slot me.who b (own_word q.own (spot.Home me.who)) p (closes me slot b e w q p).own q)
closes_core me slot b e w q (spot.Root d k) i = refl
closes_core me slot b e w q (spot.Home d) i = refl
closes_core me slot b e w q (spot.Slot s r k) i = refl
closes_core me slot b e w q (spot.Body d k) i = refl
closes_core me slot b e w q _ i = absurd i

-- an own word that is the slot holds the word, and the others that last are what they were
pub slotted_own : (c e x : ℕ) (p s : Spot) (m q : Memo) → same_spot (spot.Era c c) s ≡ false → own_word q.own s ≡ own_word m.own s
    → own_word (with_own (slotted p x q) (spot.Era c c) (e + 1)).own s ≡ own_word (slotted p x m).own s
slotted_own c e x p s m q other same = ap (λ z. cond z (e + 1) (own_word (slotted p x q).own s)) other ∙ go p
  where
    go : (p2 : Spot) → own_word (slotted p2 x q).own s ≡ own_word (slotted p2 x m).own s
    go (spot.Root d k) = ap (cond (same_spot (spot.Root d k) s) x) same
    go (spot.Home d) = ap (cond (same_spot (spot.Home d) s) x) same
    go _ = same

-- a slot is no word of the own row, and the stage of the step is no own word
pub closed_row : (c e b j : ℕ) (p : Spot) (q : Memo) → own_word (with_own (written (slotted p b q)) (spot.Era c c) (e + 1)).own (spot.Era c j) ≡ own_word (with_own q (spot.Era c c) (e + 1)).own (spot.Era c j)
closed_row c e b j (spot.Root d k) q = refl
closed_row c e b j (spot.Home d) q = refl
closed_row c e b j _ q = refl

-- what is left of a step up that is done
pub up_leaves : (me : Me) (slot b : ℕ) (p : Spot) (m r : Memo) (z : Bool) → IsFilled me.who p → m.op ≡ op.Nothing → Done me slot (Up b) p m r z → Filled me.who p b m r
up_leaves me slot b p m r z i idle (e, q, w, first, some, same, is) =
    let c = me.who in
    let f : Memo = closes me slot b e w q p in
    let left : core r ≡ core f = ◌∙◌ {c = core f} same (ap core {y = f} (closed_is me slot b e w q p i)) in
    let base : core q ≡ core (record (begun me slot (Up b) p e m) { own = q.own }) = first.1.rest in
    let home : own_word q.own (spot.Home c) ≡ own_word m.own (spot.Home c) = first.1.own (spot.Home c) refl in
    let mine : r.own ≡ f.own = ap (λ (u : Memo). u.own) left in
    let row : (j : ℕ) → own_word f.own (spot.Era c j) ≡ own_word (with_own q (spot.Era c c) (e + 1)).own (spot.Era c j) = (λ j. closed_row c e b j p (raised me slot b e w q p)) in
    record {
      rest = left
          ∙ (closes_core me slot b e w q p i
          ∙ (ap (λ (u : Memo). core (with_slot c b (own_word q.own (spot.Home c)) p f.own u)) {y = core (record (begun me slot (Up b) p e m) { own = q.own })} base
          ∙ (ap (λ h. core (with_slot c b h p f.own m)) home
          ∙ (ap (λ (o : Op). core (record (with_slot c b (own_word m.own (spot.Home c)) p f.own m) { op = o })) (sym idle)
          ∙ ap (λ (u : List Stored). core (record m { own = u; known = known_at p b m.known; unsent = unsent_at p b m.unsent; part = part_after c (sight c m) p b })) (sym mine)))));
      own = λ s l. ap (λ (u : List Stored). own_word u s) mine ∙ slotted_own c e b p s m (raised me slot b e w q p) (lasting_not c s l).0 (first_own me slot (Up b) p m q e first s l);
      era = ap (λ (u : List Stored). own_word u (spot.Era c c)) mine ∙ (cond-true _ _ _ (same_spot_self (spot.Era c c)) ∙ ap (λ y. y + 1) first.0);
      rows = λ j. subst (λ y. own_word m.own (spot.Era c j) ≤ y) (sym (ap (λ (u : List Stored). own_word u (spot.Era c j)) mine ∙ row j)) (rows_grow me slot (Up b) p e m q first j);
    }
