-- what a step that changes a reference leaves, at a root and at a word of a block
use Rattle.std.proofs.Common.{◌≡◌, ◌≢◌, ℕ, ◌+◌, ◌-◌, ◌^◌, ◌<◌, ◌≤◌, refl, sym, ap, ◌∙◌, subst, arith, Bool, true, cond, eqb, List, [], ◌∷◌, ◌++◌}
use Rattle.std.proofs.lemmas.Bool.{eq-eqb, cond-true}
use Rattle.std.specs.List.{Contains, filter}
use Rattle.shm_words.specs.Headers.{header_of}
use Rattle.shm_graph.specs.declared.{ask.Me.Me, spot.Spot.Spot, memo.{Memo.Memo, First.TheVariants.Committed}}
use Rattle.shm_graph.specs.declared.memo.ChangeStage.TheVariants.{Raising, Lowering}
use Rattle.shm_graph.specs.{declared.memo.{Second.TheVariants.{Open, Closed}, Stored.Stored}, Chains.part_set}
use Rattle.shm_graph.specs.{MemoAfterExchange.{cut, reparted, without_made}, Ops.{On, cover}}
use Rattle.shm_graph.specs.{Reach.{is_named, shown, sifted}, Spots.same_spot}
use Rattle.shm_graph.specs.MemoAfterStore.{is_of, not_block, not_of, written, stored_on, with_own, era_stored}
use Rattle.shm_graph.specs.{Views.own_word, Core.core}
use Rattle.shm_graph.specs.declared.spot.Spot.TheVariants as spot
use Rattle.shm_graph.specs.declared.memo.Op.TheVariants as op
use Rattle.shm_graph.proofs.{StepKinds.Loads.choice, Spots.Spotting.same_spot_is}
use Rattle.kind_laws.specs.HeaderExchanges.{dying_after}
use Rattle.kind_parts.proofs.{MemoCommits.{known_lowered, lowered_is}, Cores.body_word}
use Rattle.kind_parts.specs.Reparting.{sight}
use Rattle.shm_count.specs.declared.point.{Aim.TheVariants.Change, Half.TheVariants.Second}
use Rattle.shm_count.specs.Proved.DownLeaves.{count_less, joined, kept_lowered, one_less}
use Rattle.shm_count.specs.Proved.Retaining.{slots_learnt, slots_forgotten, slots_sifted, named_same, named_sifted, value_sifted}
use Rattle.shm_count.specs.Proved.Slots.Ups.{slotted_own, closed_row}
use Rattle.shm_count.specs.Proved.Slots.Downs.{known_at_keeps, slotted_rest, slotted_dying, slotted_values, slotted_known, slotted_root, slotted_home}
use Rattle.shm_count.specs.{Proved.Step.Parts.{lasting_not, first_own, rows_grow}, Roots.rest}
use Rattle.shm_count.specs.{Slots.{IsReplaced, emptied, slotted, known_at, Lost, Sifts}, Step.Control.header_after}
use Rattle.shm_count.specs.Step.{Done, Rows, begun, set_memo, slot_memo, closed_memo, Parts.part_after}
use Rattle.shm_count.specs.Tear.Memos.{is_slot_word}

known_slots : (p : Spot) (x : ℕ) (ks : List Stored) → filter is_slot_word (known_at p x ks) ≡ filter is_slot_word ks
known_slots (spot.Body d k) x ks = slots_learnt (spot.Body d k) x ks refl
known_slots _ x ks = refl

-- no queue is read from a root or from a word of a block
emptied_none : (c : ℕ) (p : Spot) (h : Bool) (t : ℕ) (m : Memo) → IsReplaced c p → ◌≡◌ {A = Memo} (emptied p h t m) m
emptied_none c (spot.Root e k) h t m i = refl
emptied_none c (spot.Body e k) h t m i = refl
emptied_none c _ h t m i = absurd i

-- ---- the first half

module _ (me : Me) (slot a b d v : ℕ) (q : Memo) where
  abbrev c : ℕ
  c = me.who

  -- the memo once the half is committed, but for what binds no more
  abbrev raises : Spot → Memo
  raises p = cut c p (reparted c (record q { op = op.Change (Raising Committed) p a b d; made = filter (not_block a) (without_made q b) }) p b)

  -- once the slot is stored
  abbrev fills : Spot → Memo
  fills p = let m : Memo = written (slotted p b (sifted c (raises p))) in record m { known = known_at p b m.known }

  -- and once the own era is stored
  abbrev opens : Spot → Memo
  opens p = record (with_own (fills p) (spot.Era c c) (d + 1)) { op = op.Change (Lowering Open) p a b (d + 1) }

  stored_is : (p : Spot) → IsReplaced c p → ◌≡◌ {A = Memo} (stored_on me.geometry c (sifted c (raises p)) p b) (fills p)
  stored_is (spot.Root e k) i = refl
  stored_is (spot.Body e k) i = body_word me.geometry c e k b (sifted c (raises (spot.Body e k))) (refl, refl)
  stored_is _ i = absurd i

  opens_is : (p : Spot) → IsReplaced c p → ◌≡◌ {A = Memo} (closed_memo me d (slot_memo me (Change a b) p d q v)) (opens p)
  opens_is p i =
      ◌∙◌ {c = opens p} (ap (closed_memo me d) {y = fills p} (stored_is p i))
      (◌∙◌ {c = opens p} (cond-true (eqb c c) (era_stored c (fills p) (spot.Era c c) (d + 1)) (with_own (fills p) (spot.Era c c) (d + 1)) (eq-eqb c c refl)) (over p i))
    where
      over : (p2 : Spot) → IsReplaced c p2 → ◌≡◌ {A = Memo} (era_stored c (fills p2) (spot.Era c c) (d + 1)) (opens p2)
      over (spot.Root e k) i2 = refl
      over (spot.Body e k) i2 = refl
      over _ i2 = absurd i2

  -- ---- what of it stays

  opens_slots : (p : Spot) → filter is_slot_word (opens p).known ≡ filter is_slot_word q.known
  opens_slots p = known_slots p b (slotted p b (sifted c (raises p))).known ∙ (ap (filter is_slot_word) (slotted_known p b (sifted c (raises p))) ∙ slots_sifted c (raises p))

  -- the same blocks are named once the half is committed, and once it is closed
  named_raises : (p : Spot) (x : ℕ) → is_named c (raises p) x ≡ is_named c (opens p) x
  named_raises p x =
      named_same c (opens p) (raises p) x
      (λ j. sym (slotted_root c j b p (sifted c (raises p)) q refl))
      (sym (slotted_home c b p (sifted c (raises p)) q refl))
      (sym (opens_slots p))

  opens_words : (p : Spot) (x : ℕ) (s : Spot) (y : ℕ) → is_named c (opens p) x ≡ true → is_of x s ≡ true → Contains (known_at p b q.known) (record { spot = s; value = y }) → Contains (opens p).known (record { spot = s; value = y })
  opens_words p x s y named o =
      known_at_keeps p b q.known (slotted p b (sifted c (raises p))).known (record { spot = s; value = y })
      (λ z. subst (λ (ks : List Stored). Contains ks (record { spot = s; value = y })) (sym (slotted_known p b (sifted c (raises p)))) (named_sifted c (raises p) x s y (named_raises p x ∙ named) o z))

  opens_values : (p : Spot) (x : ℕ) → is_named c (opens p) x ≡ true → Contains q.values x → Contains (opens p).values x
  opens_values p x named has = subst (λ (vs : List ℕ). Contains vs x) (sym (slotted_values p b (sifted c (raises p)))) (value_sifted c (raises p) x (named_raises p x ∙ named) has)

-- ---- the second half

module _ (me : Me) (a b e w : ℕ) (p : Spot) (q : Memo) where
  abbrev n : ℕ
  n = (header_of (header_after me (Change a b) e Second w)).count

  -- the memo once the half is committed, but for what binds no more
  abbrev lowers : Memo
  lowers = let m : Memo = cut me.who p (record q { op = op.Change (Lowering Closed) p a b e; made = without_made q a }) in record m { dying = dying_after n a m.dying; known = known_lowered n a m.known }

  -- and once the own era is stored
  abbrev closes : Memo
  closes = record (with_own (sifted me.who lowers) (spot.Era me.who me.who) (e + 1)) { op = op.Nothing; looks = [] }

  closes_is : ◌≡◌ {A = Memo} (closed_memo me e (set_memo me (Change a b) p e Second q w)) (sifted me.who closes)
  closes_is =
      let who = me.who in
      let m : Memo = cut who p (record q { op = op.Change (Lowering Closed) p a b e; made = without_made q a }) in
      let x : Memo = sifted who lowers in
      ◌∙◌ {c = sifted who closes} (ap (λ (y : Memo). closed_memo me e (sifted who y)) {y = lowers} (lowered_is n a m))
      (cond-true (eqb who who) (era_stored who x (spot.Era who who) (e + 1)) (with_own x (spot.Era who who) (e + 1)) (eq-eqb who who refl))

  lowers_slots : filter is_slot_word lowers.known ≡ filter is_slot_word q.known
  lowers_slots = choice (λ (ks : List Stored). filter is_slot_word ks ≡ filter is_slot_word q.known) (eqb n 0) (filter (not_of a) q.known) q.known (λ z. slots_forgotten a q.known) (λ z. refl)

  named_closes : (x : ℕ) → is_named me.who (sifted me.who closes) x ≡ is_named me.who closes x
  named_closes x = named_same me.who closes (sifted me.who closes) x (λ j. refl) refl (slots_sifted me.who closes)

  named_lowers : (x : ℕ) → is_named me.who lowers x ≡ is_named me.who closes x
  named_lowers x = named_same me.who closes lowers x (λ j. refl) refl (sym (slots_sifted me.who lowers))

  closes_words : (x : ℕ) (s : Spot) (y : ℕ) → is_named me.who (sifted me.who closes) x ≡ true → (eqb n 0 ≡ true → x ≢ a) → is_of x s ≡ true → Contains q.known (record { spot = s; value = y }) → Contains (sifted me.who closes).known (record { spot = s; value = y })
  closes_words x s y named other o has =
      let e1 : is_named me.who closes x ≡ true = sym (named_closes x) ∙ named in
      named_sifted me.who closes x s y e1 o (named_sifted me.who lowers x s y (named_lowers x ∙ e1) o (kept_lowered n a x s y q.known other o has))

  closes_values : (x : ℕ) → is_named me.who (sifted me.who closes) x ≡ true → Contains q.values x → Contains (sifted me.who closes).values x
  closes_values x named has =
      let e1 : is_named me.who closes x ≡ true = sym (named_closes x) ∙ named in
      value_sifted me.who closes x e1 (value_sifted me.who lowers x (named_lowers x ∙ e1) has)

-- ---- all

-- what is left of a step that is done, of an identity whose own era a header has room for twice
pub change_leaves_at : (me : Me) (slot a b : ℕ) (p : Spot) (h : Bool) (m r : Memo) (z : Bool) → IsReplaced me.who p → me.who < 64 → own_word m.own (spot.Era me.who me.who) + 1 < 2 ^ 47 → Done me slot (Change a b) p m r z → Lost me.who p h a b z m r
change_leaves_at me slot a b p h m r z i who era (e, q, w, (d, next, (q0, v, first, rows)), some, same, zero) =
    let c = me.who in
    let o : Memo = opens me slot a b d v q0 p in
    let f : Memo = sifted c (closes me a b e w p q) in
    let left : core r ≡ core f = ◌∙◌ {c = core f} same (ap core {y = f} (closes_is me a b e w p q)) in
    let opened : ◌≡◌ {A = Memo} (closed_memo me d (slot_memo me (Change a b) p d q0 v)) o = opens_is me slot a b d v q0 p i in
    let half : Rows c o q = subst (λ (x : Memo). Rows c x q) opened rows in
    let base : core q0 ≡ core (record (begun me slot (Change a b) p d m) { own = q0.own }) = first.1.rest in
    let home : own_word q0.own (spot.Home c) ≡ own_word m.own (spot.Home c) = first.1.own (spot.Home c) refl in
    let less : (header_of (header_after me (Change a b) e Second w)).count ≡ (header_of w).count - 1 = count_less me a e w who (let y = first.0 in let u = next in omega arith) some in
    let fell : eqb (header_of (header_after me (Change a b) e Second w)).count 0 ≡ z = ap (λ k. eqb k 0) less ∙ (one_less (header_of w).count some ∙ sym zero) in
    let own : r.own ≡ f.own = ap (λ (u : Memo). u.own) left in
    let known : q0.known ≡ m.known = ap (λ (y : Memo). y.known) base in
    let later : q.known ≡ o.known = ap (λ (y : Memo). y.known) half.rest in
    let named : (x : ℕ) → is_named c f x ≡ is_named c r x = (λ x.
    named_same c r f x (λ j. sym (ap (λ (y : Memo). shown y (spot.Root c j)) left)) (sym (ap (λ (y : Memo). shown y (spot.Home c)) left)) (sym (ap (λ (y : Memo). filter is_slot_word y.known) left))) in
    let slots : filter is_slot_word r.known ≡ filter is_slot_word o.known =
    ap (λ (y : Memo). filter is_slot_word y.known) left ∙ (slots_sifted c (closes me a b e w p q) ∙ (slots_sifted c (lowers me a b e w p q) ∙ (lowers_slots me a b e w p q ∙ ap (filter is_slot_word) later))) in
    let before : (x : ℕ) → is_named c o x ≡ is_named c r x = (λ x.
    named_same c r o x (λ j. sym (ap (λ (y : Memo). shown y (spot.Root c j)) left ∙ half.own (spot.Root c j) refl)) (sym (ap (λ (y : Memo). shown y (spot.Home c)) left ∙ half.own (spot.Home c) refl)) (sym slots)) in
    record {
      took = record {
        rest = ap rest left ∙ (ap rest half.rest ∙ (slotted_rest p b (sifted c (raises me slot a b d v q0 p))
            ∙ (ap (λ (u : Memo). rest (record u { part = part_set u.known c (cover (On p b) (spot.Home c) (own_word q0.own (spot.Home c))) p b u.part })) base
            ∙ (ap (λ k. rest (record m { part = part_set m.known c (cover (On p b) (spot.Home c) k) p b m.part })) home
            ∙ ap (λ (u : Memo). rest (record u { part = part_after c (sight c m) p b })) (sym (emptied_none c p h a m i))))));
        op = ap (λ (u : Memo). u.op) left;
        own = λ s l. let y = lasting_not c s l in ap (λ (u : List Stored). own_word u s) own ∙ (ap (λ k. cond k (e + 1) (own_word q.own s)) y.0
            ∙ (half.own s y.1 ∙ slotted_own c d b p s m (sifted c (raises me slot a b d v q0 p)) y.0 (first_own me slot (Change a b) p m q0 d first s l)));
        rows = λ j. let grown : own_word m.own (spot.Era c j) ≤ own_word q.own (spot.Era c j) =
            (let g = rows_grow me slot (Change a b) p d m q0 first j in let u = closed_row c d b j p (sifted c (raises me slot a b d v q0 p)) in let k = half.more j in omega arith) in
            subst (λ y. own_word m.own (spot.Era c j) ≤ y) (sym (ap (λ (u : List Stored). own_word u (spot.Era c j)) own))
            (choice (λ y. own_word m.own (spot.Era c j) ≤ y) (same_spot (spot.Era c c) (spot.Era c j)) (e + 1) (own_word q.own (spot.Era c j))
            (λ u. let mine : d ≡ own_word m.own (spot.Era c j) = first.0 ∙ ap (own_word m.own) (same_spot_is (spot.Era c c) (spot.Era c j) u) in let s = next in omega arith)
            (λ u. grown));
        sifts = subst (λ (x : Memo). Sifts c a z (record x { known = known_at p b x.known }) r) (sym (emptied_none c p h a m i))
            (record {
              looks = ap (λ (y : Memo). y.looks) left;
              slots = slots ∙ (opens_slots me slot a b d v q0 p ∙ (ap (filter is_slot_word) known ∙ sym (known_slots p b m.known)));
              words = λ x s y l other is_one has. subst (λ (ks : List Stored). Contains ks (record { spot = s; value = y })) (sym (ap (λ (u : Memo). u.known) left))
                  (closes_words me a b e w p q x s y (named x ∙ l) (λ u. other (sym fell ∙ u)) is_one
                  (subst (λ (ks : List Stored). Contains ks (record { spot = s; value = y })) (sym later)
                  (opens_words me slot a b d v q0 p x s y (before x ∙ l) is_one (subst (λ (ks : List Stored). Contains (known_at p b ks) (record { spot = s; value = y })) (sym known) has))));
              values = λ x l has. subst (λ (vs : List ℕ). Contains vs x) (sym (ap (λ (u : Memo). u.values) left))
                  (closes_values me a b e w p q x (named x ∙ l)
                  (subst (λ (vs : List ℕ). Contains vs x) (sym (ap (λ (u : Memo). u.values) half.rest))
                  (opens_values me slot a b d v q0 p x (before x ∙ l) (subst (λ (vs : List ℕ). Contains vs x) (sym (ap (λ (u : Memo). u.values) base)) has))));
            });
      };
      dying =
          ap (λ (y : Memo). y.dying) left
          ∙ (ap (λ (y : Memo). dying_after (header_of (header_after me (Change a b) e Second w)).count a y.dying) half.rest
          ∙ (ap (dying_after (header_of (header_after me (Change a b) e Second w)).count a) (slotted_dying p b (sifted c (raises me slot a b d v q0 p)))
          ∙ (ap (λ (y : Memo). dying_after (header_of (header_after me (Change a b) e Second w)).count a y.dying) base
          ∙ (ap (λ y. cond y (m.dying ++ a ∷ []) m.dying) fell ∙ joined z a m.dying))));
    }
