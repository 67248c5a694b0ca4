-- what a step down leaves, at each kind of slot
use Rattle.std.proofs.Common.{◌≡◌, ◌≢◌, ℕ, ◌+◌, ◌-◌, ◌^◌, ◌<◌, ◌≤◌, refl, sym, ap, ◌∙◌, subst, arith, Bool, true, false, cond, eqb, List, [], ◌∷◌, ◌++◌, inl, inr}
use Rattle.std.proofs.lemmas.Bool.{eq-eqb, ne_eqb, cond-true, cond-false}
use Rattle.std.proofs.lemmas.List.Elements.{Contains-append_cases, Contains-append_right, Contains-push_cases}
use Rattle.std.specs.{Prelude.if◌then◌else◌, List.{Contains, filter}}
use Rattle.shm_words.specs.Headers.{header_of}
use Rattle.shm_graph.specs.declared.{ask.Me.Me, spot.Spot.Spot, memo.Memo.Memo}
use Rattle.shm_graph.specs.declared.memo.{First.TheVariants.{Committed, Written}, Op.Op, Stored.Stored}
use Rattle.shm_graph.specs.{declared.table.Part.{Part as TablePart, TheVariants.{Loose, Table}}, Chains.part_set}
use Rattle.shm_graph.specs.MemoAfterExchange.{cut, reparted, without_made, with_unsent, with_untaken, lowered}
use Rattle.shm_graph.specs.{Ops.{On, cover, cover_of}, Reach.{is_named, not_at, shown, sifted}, Spots.same_spot}
use Rattle.shm_graph.specs.MemoAfterStore.{is_lowering, is_of, not_of, op_closed, op_written, other_than, put, written, without_looks, stored_on, with_own, era_stored}
use Rattle.shm_graph.specs.{Views.own_word, Core.core}
use Rattle.shm_graph.specs.declared.spot.Spot.TheVariants as spot
use Rattle.shm_graph.specs.declared.memo.Op.TheVariants as op
use Rattle.shm_graph.proofs.StepKinds.Loads.{choice}
use Rattle.kind_laws.proofs.Lists.{newest, Contains-filter, filter_from}
use Rattle.kind_laws.specs.HeaderExchanges.{dying_after}
use Rattle.kind_parts.proofs.{MemoCommits.{known_lowered, lowered_is}, Cores.body_word}
use Rattle.kind_parts.specs.Reparting.{sight}
use Rattle.shm_count.specs.declared.point.{Aim.TheVariants.Down, Half.TheVariants.First}
use Rattle.shm_count.specs.Proved.DownLeaves.{count_less, joined, kept_lowered, one_less}
use Rattle.shm_count.specs.Proved.Retaining.{slots_learnt, slots_forgotten, slots_sifted, named_same, named_sifted, value_sifted}
use Rattle.shm_count.specs.Proved.{Slots.Ups.{slotted_own, closed_row}, Step.Parts.{lasting_not, first_own, rows_grow}}
use Rattle.shm_count.specs.{Roots.rest, Slots.{IsEmptied, emptied, slotted, known_at, Lost}, Step.Control.header_after}
use Rattle.shm_count.specs.Step.{Done, begun, set_memo, slot_memo, closed_memo, Parts.part_after}
use Rattle.shm_count.specs.Tear.Memos.{is_slot_word}

-- what no slot changes
pub slotted_op : (p : Spot) (x : ℕ) (m : Memo) → (slotted p x m).op ≡ m.op
slotted_op (spot.Root d k) x m = refl
slotted_op (spot.Home d) x m = refl
slotted_op _ x m = refl

emptied_op : (p : Spot) (h : Bool) (t : ℕ) (m : Memo) → (emptied p h t m).op ≡ m.op
emptied_op (spot.Slot s r k) true t m = refl
emptied_op (spot.Slot s r k) false t m = refl
emptied_op _ h t m = refl

emptied_own : (p : Spot) (h : Bool) (t : ℕ) (m : Memo) → (emptied p h t m).own ≡ m.own
emptied_own (spot.Slot s r k) true t m = refl
emptied_own (spot.Slot s r k) false t m = refl
emptied_own _ h t m = refl

emptied_dying : (p : Spot) (h : Bool) (t : ℕ) (m : Memo) → (emptied p h t m).dying ≡ m.dying
emptied_dying (spot.Slot s r k) true t m = refl
emptied_dying (spot.Slot s r k) false t m = refl
emptied_dying _ h t m = refl

emptied_values : (p : Spot) (h : Bool) (t : ℕ) (m : Memo) → (emptied p h t m).values ≡ m.values
emptied_values (spot.Slot s r k) true t m = refl
emptied_values (spot.Slot s r k) false t m = refl
emptied_values _ h t m = refl

emptied_known : (p : Spot) (h : Bool) (t : ℕ) (m n : Memo) → m.known ≡ n.known → (emptied p h t m).known ≡ (emptied p h t n).known
emptied_known (spot.Slot s r k) true t m n e = ap (filter (λ (x : Stored). other_than (spot.Slot s r k) x.spot)) e
emptied_known (spot.Slot s r k) false t m n e = e
emptied_known (spot.Root d k) h t m n e = e
emptied_known (spot.Body d k) h t m n e = e
emptied_known _ h t m n e = e

pub slotted_dying : (p : Spot) (x : ℕ) (m : Memo) → (slotted p x m).dying ≡ m.dying
slotted_dying (spot.Root d k) x m = refl
slotted_dying (spot.Home d) x m = refl
slotted_dying _ x m = refl

pub slotted_rest : (p : Spot) (x : ℕ) (m : Memo) → rest (slotted p x m) ≡ rest m
slotted_rest (spot.Root d k) x m = refl
slotted_rest (spot.Home d) x m = refl
slotted_rest _ x m = refl

pub slotted_values : (p : Spot) (x : ℕ) (m : Memo) → (slotted p x m).values ≡ m.values
slotted_values (spot.Root d k) x m = refl
slotted_values (spot.Home d) x m = refl
slotted_values _ x m = refl

pub slotted_known : (p : Spot) (x : ℕ) (m : Memo) → (slotted p x m).known ≡ m.known
slotted_known (spot.Root d k) x m = refl
slotted_known (spot.Home d) x m = refl
slotted_known _ x m = refl

-- what stays known beside a word that is known anew
pub known_at_keeps : (p : Spot) (x : ℕ) (ks ls : List Stored) (s : Stored) → (Contains ks s → Contains ls s) → Contains (known_at p x ks) s → Contains (known_at p x ls) s
known_at_keeps (spot.Body d i) x ks ls s keeps has =
    let new : Stored = record { spot = spot.Body d i; value = x } in
    elim (Contains-append_cases (new ∷ []) (filter (not_at (spot.Body d i)) ks) s has) [
      | inl here ↦ elim (Contains-push_cases [] new s here) [
        | inl none ↦ absurd (let l = none.1 in omega arith)
        | inr e ↦ subst (Contains (known_at (spot.Body d i) x ls)) e (newest new (filter (not_at (spot.Body d i)) ls))
      ]
      | inr rest ↦ (
          let y = filter_from (not_at (spot.Body d i)) ks s rest in
          Contains-append_right (new ∷ []) (filter (not_at (spot.Body d i)) ls) s (Contains-filter (not_at (spot.Body d i)) ls s (keeps y.0) y.1)
          )
    ]
known_at_keeps (spot.Root d k) x ks ls s keeps has = keeps has
known_at_keeps _ x ks ls s keeps has = keeps has

-- no partition is read from a root, or from a slot of a queue; from a word of a block it is read by what is known of it
part_emptied : (c x hm : ℕ) (p : Spot) (h : Bool) (t : ℕ) (m : Memo) → IsEmptied c p h → part_set (emptied p h t m).known c hm p x (emptied p h t m).part ≡ part_set m.known c hm p x m.part
part_emptied c x hm (spot.Slot s r k) true t m i = go m.part
  where
    go : (part : TablePart) → part_set (filter (λ (y : Stored). other_than (spot.Slot s r k) y.spot) m.known) c hm (spot.Slot s r k) x part ≡ part_set m.known c hm (spot.Slot s r k) x part
    go Loose = refl
    go (Table chains) = refl
part_emptied c x hm (spot.Slot s r k) false t m i = refl
part_emptied c x hm (spot.Root d k) h t m i = refl
part_emptied c x hm (spot.Body d k) h t m i = refl
part_emptied c x hm _ h t m i = absurd i

-- queues are emptied alike whatever else a memo has
emptied_rest : (p : Spot) (h : Bool) (t : ℕ) (part : TablePart) (m n : Memo) → rest m ≡ rest n → rest (record (emptied p h t m) { part = part }) ≡ rest (record (emptied p h t n) { part = part })
emptied_rest (spot.Slot s r k) true t part m n e = ap (λ (u : Memo). rest (record u { untaken = put 0 u.untaken s t; part = part })) e
emptied_rest (spot.Slot s r k) false t part m n e = ap (λ (u : Memo). rest (record u { unsent = put 0 u.unsent r 0; part = part })) e
emptied_rest _ h t part m n e = ap (λ (u : Memo). rest (record u { part = part })) e

-- a root and the home hold what the step in progress shows of them
pub slotted_root : (c j x : ℕ) (p : Spot) (m q : Memo) → m.own ≡ q.own → own_word (slotted p x m).own (spot.Root c j) ≡ cover (On p x) (spot.Root c j) (own_word q.own (spot.Root c j))
slotted_root c j x (spot.Root d k) m q e = ap (λ (o : List Stored). cond (same_spot (spot.Root d k) (spot.Root c j)) x (own_word o (spot.Root c j))) e
slotted_root c j x (spot.Home d) m q e = ap (λ (o : List Stored). own_word o (spot.Root c j)) e
slotted_root c j x _ m q e = ap (λ (o : List Stored). own_word o (spot.Root c j)) e

pub slotted_home : (c x : ℕ) (p : Spot) (m q : Memo) → m.own ≡ q.own → own_word (slotted p x m).own (spot.Home c) ≡ cover (On p x) (spot.Home c) (own_word q.own (spot.Home c))
slotted_home c x (spot.Root d k) m q e = ap (λ (o : List Stored). own_word o (spot.Home c)) e
slotted_home c x (spot.Home d) m q e = ap (λ (o : List Stored). cond (same_spot (spot.Home d) (spot.Home c)) x (own_word o (spot.Home c))) e
slotted_home c x _ m q e = ap (λ (o : List Stored). own_word o (spot.Home c)) e

module _ (me : Me) (h : Bool) (slot t e w : ℕ) (q : Memo) where
  abbrev c : ℕ
  c = me.who

  abbrev n : ℕ
  n = (header_of (header_after me (Down t) e First w)).count

  -- the memo with the step committed, and the queue as it leaves it
  abbrev begins : Spot → Memo
  begins p = emptied p h t (record q { op = op.Down Committed p t e; made = without_made q t })

  -- with the looks cut, the partition, and the zero-count blocks, but for what binds no more
  abbrev cuts : Spot → Memo
  cuts p = cut c p (reparted c (begins p) p 0)

  abbrev lowers : Spot → Memo
  lowers p = let m : Memo = cuts p in record m { dying = dying_after n t m.dying; known = known_lowered n t m.known }

  -- the queue's part
  begins_is : (p : Spot) (h2 : Bool) (m : Memo) → IsEmptied c p h2 → ◌≡◌ {A = Memo} (with_untaken c p t (with_unsent c p 0 m)) (emptied p h2 t m)
  begins_is (spot.Root d k) h2 m i = refl
  begins_is (spot.Body d k) h2 m i = refl
  begins_is (spot.Slot s r k) true m i =
      let n : Memo = record m { untaken = put 0 m.untaken s t; known = filter (λ x. other_than (spot.Slot s r k) x.spot) m.known } in
      ◌∙◌ {c = n} (ap (λ (x : Memo). with_untaken c (spot.Slot s r k) t x) {y = m} (cond-false (eqb s c) _ _ (ne_eqb s c i.1))) (cond-true (eqb r c) _ _ (eq-eqb r c i.0))
  begins_is (spot.Slot s r k) false m i =
      let n : Memo = record m { unsent = put 0 m.unsent r 0 } in
      ◌∙◌ {c = n} (ap (λ (x : Memo). with_untaken c (spot.Slot s r k) t x) {y = n} (cond-true (eqb s c) _ _ (eq-eqb s c i.0))) (cond-false (eqb r c) _ _ (ne_eqb r c i.1))
  begins_is _ h2 m i = absurd i

  -- the exchange makes it
  set_is : (p : Spot) → IsEmptied c p h → ◌≡◌ {A = Memo} (set_memo me (Down t) p e First q w) (sifted c (lowers p))
  set_is p i =
      let m : Memo = record q { op = op.Down Committed p t e; made = without_made q t } in
      ◌∙◌ {c = sifted c (lowers p)} (ap (λ (x : Memo). sifted c (lowered n t (cut c p (reparted c x p 0)))) {y = begins p} (begins_is p h m i)) (ap (sifted c) {y = lowers p} (lowered_is n t (cuts p)))

  -- the memo once the slot is stored
  abbrev clears : Spot → Memo
  clears p = let m : Memo = written (slotted p 0 (sifted c (lowers p))) in record m { known = known_at p 0 m.known }

  stored_is : (p : Spot) → IsEmptied c p h → ◌≡◌ {A = Memo} (stored_on me.geometry c (sifted c (lowers p)) p 0) (clears p)
  stored_is p i = go p h i
    where
      go : (p2 : Spot) (h2 : Bool) → IsEmptied c p2 h2 → ◌≡◌ {A = Memo} (stored_on me.geometry c (sifted c (lowers p2)) p2 0) (clears p2)
      go (spot.Root d k) h2 i2 = refl
      go (spot.Slot s r k) h2 i2 = refl
      go (spot.Body d k) h2 i2 = body_word me.geometry c d k 0 (sifted c (lowers (spot.Body d k))) (refl, refl)
      go _ h2 i2 = absurd i2

  -- the step in progress is this one still
  clears_op : (p : Spot) → (clears p).op ≡ op.Down Written p t e
  clears_op p = ap op_written (slotted_op p 0 (sifted c (lowers p)) ∙ emptied_op p h t (record q { op = op.Down Committed p t e; made = without_made q t }))

  -- and once the own era is stored, but for what binds no more
  abbrev closes : Spot → Memo
  closes p = record (with_own (clears p) (spot.Era c c) (e + 1)) { op = op.Nothing; looks = [] }

  pub closed_is : (p : Spot) → IsEmptied c p h → ◌≡◌ {A = Memo} (closed_memo me e (slot_memo me (Down t) p e q w)) (sifted c (closes p))
  closed_is p i =
      let x : Memo = clears p in
      ◌∙◌ {c = sifted c (closes p)} (ap (λ (y : Memo). closed_memo me e (stored_on me.geometry c y p 0)) {y = sifted c (lowers p)} (set_is p i))
      (◌∙◌ {c = sifted c (closes p)} (ap (closed_memo me e) {y = x} (stored_is p i))
      (◌∙◌ {c = sifted c (closes p)} (cond-true (eqb c c) (era_stored c x (spot.Era c c) (e + 1)) (with_own x (spot.Era c c) (e + 1)) (eq-eqb c c refl)) over))
    where
      over : ◌≡◌ {A = Memo} (era_stored c (clears p) (spot.Era c c) (e + 1)) (sifted c (closes p))
      over = ap (λ (o : Op). let m : Memo = record (with_own (clears p) (spot.Era c c) (e + 1)) { op = op_closed o (e + 1) } in if is_lowering o then without_looks c m else m) {y = op.Down Written p t e} (clears_op p)

  -- ---- what of it stays

  -- what is known of first slots of queues stays, but for the slot itself
  lowers_slots : (p : Spot) → filter is_slot_word (lowers p).known ≡ filter is_slot_word (begins p).known
  lowers_slots p = choice (λ (ks : List Stored). filter is_slot_word ks ≡ filter is_slot_word (begins p).known) (eqb n 0) (filter (not_of t) (begins p).known) (begins p).known (λ z. slots_forgotten t (begins p).known) (λ z. refl)

  known_slots : (p2 : Spot) (ks : List Stored) → filter is_slot_word (known_at p2 0 ks) ≡ filter is_slot_word ks
  known_slots (spot.Body d k) ks = slots_learnt (spot.Body d k) 0 ks refl
  known_slots _ ks = refl

  -- the same blocks are named once the step is committed, and once it is closed
  abbrev mine : Spot → Memo
  mine p = record q { op = op.Down Committed p t e; made = without_made q t }

  lowers_shown : (p s : Spot) → shown (lowers p) s ≡ cover (On p 0) s (own_word q.own s)
  lowers_shown p s = ap (λ (o : Op). cover (cover_of o) s (own_word (begins p).own s)) (emptied_op p h t (mine p)) ∙ ap (λ (o : List Stored). cover (On p 0) s (own_word o s)) (emptied_own p h t (mine p))

  closes_slots : (p : Spot) → filter is_slot_word (closes p).known ≡ filter is_slot_word (begins p).known
  closes_slots p = known_slots p (slotted p 0 (sifted c (lowers p))).known ∙ (ap (filter is_slot_word) (slotted_known p 0 (sifted c (lowers p))) ∙ (slots_sifted c (lowers p) ∙ lowers_slots p))

  named_lowers : (p : Spot) (b : ℕ) → is_named c (lowers p) b ≡ is_named c (closes p) b
  named_lowers p b =
      named_same c (closes p) (lowers p) b
      (λ j. lowers_shown p (spot.Root c j) ∙ sym (slotted_root c j 0 p (sifted c (lowers p)) q (emptied_own p h t (mine p))))
      (lowers_shown p (spot.Home c) ∙ sym (slotted_home c 0 p (sifted c (lowers p)) q (emptied_own p h t (mine p))))
      (lowers_slots p ∙ sym (closes_slots p))

  named_closes : (p : Spot) (b : ℕ) → is_named c (sifted c (closes p)) b ≡ is_named c (closes p) b
  named_closes p b = named_same c (closes p) (sifted c (closes p)) b (λ j. refl) refl (slots_sifted c (closes p))

  -- so that what is known of a block that is named stays known
  closes_words : (p : Spot) (b : ℕ) (s : Spot) (x : ℕ) → is_named c (sifted c (closes p)) b ≡ true → (eqb n 0 ≡ true → b ≢ t) → is_of b s ≡ true
      → Contains (known_at p 0 (begins p).known) (record { spot = s; value = x }) → Contains (sifted c (closes p)).known (record { spot = s; value = x })
  closes_words p b s x named other o has =
      let e1 : is_named c (closes p) b ≡ true = sym (named_closes p b) ∙ named in
      let y : Stored = record { spot = s; value = x } in
      named_sifted c (closes p) b s x e1 o
      (known_at_keeps p 0 (begins p).known (slotted p 0 (sifted c (lowers p))).known y
      (λ z. subst (λ (ks : List Stored). Contains ks y) (sym (slotted_known p 0 (sifted c (lowers p)))) (named_sifted c (lowers p) b s x (named_lowers p b ∙ e1) o (kept_lowered n t b s x (begins p).known other o z)))
      has)

  closes_values : (p : Spot) (b : ℕ) → is_named c (sifted c (closes p)) b ≡ true → Contains q.values b → Contains (sifted c (closes p)).values b
  closes_values p b named has =
      let e1 : is_named c (closes p) b ≡ true = sym (named_closes p b) ∙ named in
      value_sifted c (closes p) b e1
      (subst (λ (vs : List ℕ). Contains vs b) (sym (slotted_values p 0 (sifted c (lowers p))))
      (value_sifted c (lowers p) b (named_lowers p b ∙ e1) (subst (λ (vs : List ℕ). Contains vs b) (sym (emptied_values p h t (mine p))) has)))

  -- and the rest is what the queue leaves of it
  closes_rest : (p : Spot) → IsEmptied c p h → rest (closes p) ≡ rest (record (emptied p h t q) { part = part_set q.known c (cover (On p 0) (spot.Home c) (own_word q.own (spot.Home c))) p 0 q.part })
  closes_rest p i =
      let hm : ℕ = cover (On p 0) (spot.Home c) (own_word q.own (spot.Home c)) in
      slotted_rest p 0 (sifted c (lowers p))
      ∙ (ap (λ (y : TablePart). rest (record (begins p) { part = y })) (ap (λ z. part_set (begins p).known c z p 0 (begins p).part) (lowers_shown p (spot.Home c)) ∙ part_emptied c 0 hm p h t (mine p) i)
      ∙ emptied_rest p h t (part_set q.known c hm p 0 q.part) (mine p) q refl)

-- what is left of a step down that is done, of an identity whose own era a header has room for
pub down_leaves_at : (me : Me) (h : Bool) (slot t : ℕ) (p : Spot) (m r : Memo) (z : Bool) → IsEmptied me.who p h → me.who < 64 → own_word m.own (spot.Era me.who me.who) < 2 ^ 47 → Done me slot (Down t) p m r z → Lost me.who p h t 0 z m r
down_leaves_at me h slot t p m r z i who era (e, q, w, first, some, same, zero) =
    let c = me.who in
    let less : (header_of (header_after me (Down t) e First w)).count ≡ (header_of w).count - 1 = count_less me t e w who (subst (λ y. y < 2 ^ 47) (sym first.0) era) some in
    let base : core q ≡ core (record (begun me slot (Down t) p e m) { own = q.own }) = first.1.rest in
    let f : Memo = sifted c (closes me h slot t e w q p) in
    let left : core r ≡ core f = ◌∙◌ {c = core f} same (ap core {y = f} (closed_is me h slot t e w q p i)) in
    let fell : eqb (header_of (header_after me (Down t) e First w)).count 0 ≡ z = ap (λ k. eqb k 0) less ∙ (one_less (header_of w).count some ∙ sym zero) in
    let known : q.known ≡ m.known = ap (λ (y : Memo). y.known) base in
    let home : own_word q.own (spot.Home c) ≡ own_word m.own (spot.Home c) = first.1.own (spot.Home c) refl in
    let own : r.own ≡ f.own = ap (λ (u : Memo). u.own) left in
    let at_begin : (begins me h slot t e w q p).own ≡ q.own = emptied_own p h t (mine me h slot t e w q p) in
    let named : (d : ℕ) → is_named c f d ≡ is_named c r d = λ d.
    named_same c r f d (λ j. sym (ap (λ (x : Memo). shown x (spot.Root c j)) left)) (sym (ap (λ (x : Memo). shown x (spot.Home c)) left)) (sym (ap (λ (x : Memo). filter is_slot_word x.known) left)) in
    let kept : (begins me h slot t e w q p).known ≡ (emptied p h t m).known = emptied_known p h t (mine me h slot t e w q p) m known in
    record {
      took = record {
        rest = ap rest left ∙ (closes_rest me h slot t e w q p i
            ∙ (ap (λ (u : Memo). rest (record (emptied p h t q) { part = part_set u.known c (cover (On p 0) (spot.Home c) (own_word q.own (spot.Home c))) p 0 u.part })) base
            ∙ (ap (λ k. rest (record (emptied p h t q) { part = part_set m.known c (cover (On p 0) (spot.Home c) k) p 0 m.part })) home
            ∙ emptied_rest p h t (part_after c (sight c m) p 0) q m (ap rest base))));
        op = ap (λ (u : Memo). u.op) left;
        own = λ s l. ap (λ (u : List Stored). own_word u s) own ∙ slotted_own c e 0 p s m (sifted c (lowers me h slot t e w q p)) (lasting_not c s l).0 (ap (λ (u : List Stored). own_word u s) at_begin ∙ first_own me slot (Down t) p m q e first s l);
        rows = λ j. subst (λ y. own_word m.own (spot.Era c j) ≤ y) (sym (ap (λ (u : List Stored). own_word u (spot.Era c j)) own ∙ (closed_row c e 0 j p (sifted c (lowers me h slot t e w q p)) ∙ ap (λ (u : List Stored). cond (same_spot (spot.Era c c) (spot.Era c j)) (e + 1) (own_word u (spot.Era c j))) at_begin))) (rows_grow me slot (Down t) p e m q first j);
        sifts = record {
          looks = ap (λ (y : Memo). y.looks) left;
          slots = ap (λ (y : Memo). filter is_slot_word y.known) left ∙ (slots_sifted c (closes me h slot t e w q p) ∙ (closes_slots me h slot t e w q p ∙ (ap (filter is_slot_word) kept ∙ sym (known_slots me h slot t e w q p (emptied p h t m).known))));
          words = λ d s x l other o has. subst (λ (ks : List Stored). Contains ks (record { spot = s; value = x })) (sym (ap (λ (y : Memo). y.known) left))
              (closes_words me h slot t e w q p d s x (named d ∙ l) (λ u. other (sym fell ∙ u)) o (subst (λ (ks : List Stored). Contains (known_at p 0 ks) (record { spot = s; value = x })) (sym kept) has));
          values = λ d l has. subst (λ (vs : List ℕ). Contains vs d) (sym (ap (λ (y : Memo). y.values) left))
              (closes_values me h slot t e w q p d (named d ∙ l) (subst (λ (vs : List ℕ). Contains vs d) (sym (ap (λ (y : Memo). y.values) base)) (subst (λ (vs : List ℕ). Contains vs d) (emptied_values p h t m) has)));
        };
      };
      dying =
          ap (λ (y : Memo). y.dying) left
          ∙ (slotted_dying p 0 (sifted c (lowers me h slot t e w q p))
          ∙ (ap (dying_after (header_of (header_after me (Down t) e First w)).count t) (emptied_dying p h t (mine me h slot t e w q p))
          ∙ (ap (λ (y : Memo). dying_after (header_of (header_after me (Down t) e First w)).count t y.dying) base
          ∙ (ap (λ y. cond y (m.dying ++ t ∷ []) m.dying) (ap (λ k. eqb k 0) less ∙ (one_less (header_of w).count some ∙ sym zero))
          ∙ joined z t m.dying))));
    }
