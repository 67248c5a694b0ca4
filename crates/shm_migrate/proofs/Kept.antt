-- a clean pool of format 1 is clean in format 2, with as many live blocks and references
use Rattle.std.proofs.Common.{◌≡◌, ◌≢◌, ℕ, zero, suc, ◌+◌, ◌-◌, ◌<◌, ◌≤◌, true, false, eqb, cond, List, refl, sym, ap, subst, ◌∙◌, arith, inl, inr, ◌⊎◌}
use Rattle.std.proofs.lemmas.Bool.{cases_lt, cases_eq, lt-ltb, ne_eqb, Decides.nat_tests}
use Rattle.shm_words.specs.{Layout.{GeometryFits, total_of, bodies}, Headers.header_of, Tags.tag_of}
use Rattle.shm_words.specs.declared.place.Place.TheVariants as place
use Rattle.shm_words.proofs.Words.{live_not_zero, header_of_zero, tag_of-word}
use Rattle.shm_graph.specs.declared.spot.Spot.{Spot, TheVariants.{Spare, Status, Redo, RedoMore, Page, Head, Tag}}
use Rattle.shm_graph.specs.Spots.{spot_at, spot_address, classes_in, class_at, see}
use Rattle.shm_graph.specs.Blocks.{classes, headers, IsBlock, IsLive}
use Rattle.shm_graph.specs.References.{sum_below, one_if, references, references_to, references_in_all, live_count}
use Rattle.shm_graph.specs.Clean.{IsClean, TagSuits}
use Rattle.shm_graph.proofs.Spots.{Sums.sum_none, Spotting.{block_within, tag_spot}, SpotPlaces.status_at}
use Rattle.shm_graph.proofs.{Spots.Seeing.{see_there, classes-see}, States.Reading.{live_block, live_class}}
use Rattle.shm_migrate.specs.Widened.{moved, widened}
use Rattle.shm_migrate.proofs.Places.{narrow, wide, front, is_front, front_spot, front_spot_narrow, total_further}
use Rattle.shm_migrate.proofs.Widening.{wide_fits}
use Rattle.shm_migrate.proofs.Widening as widening

-- ---- sums of which the first terms are 0, and the others stand further on

pub sum_further : (m k n : ℕ) (f h : ℕ → ℕ) → ((a : ℕ) → a < k → f a ≡ 0) → ((a : ℕ) → a < k + n → h a ≡ 0) → ((a : ℕ) → k ≤ a → a < m → h (a + n) ≡ f a) → k ≤ m → sum_below (m + n) h ≡ sum_below m f
sum_further zero k n f h x y e l = let z : 0 + n ≡ n = omega arith in ap (λ i. sum_below i h) z ∙ sum_none n h (λ a b. y a (omega arith))
sum_further (suc m) k n f h x y e l =
    elim (cases_lt m k) [
      | inl b ↦ sum_none (suc m + n) h (λ a d. y a (omega arith)) ∙ sym (sum_none (suc m) f (λ a d. x a (omega arith)))
      | inr b ↦
          let i = sum_further m k n f h x y (λ a c d. e a c (omega arith)) b in
          let j = e m b (omega arith) in
          let z : suc m + n ≡ suc (m + n) = omega arith in
          let r : sum_below (suc (m + n)) h ≡ sum_below (suc m) f = omega arith in
          ap (λ i. sum_below i h) z ∙ r
    ]

front_names : (wide : _) (w : Spot → ℕ) (p : Spot) → is_front p ≡ true → references wide w p ≡ 0
front_names wide w Spare e = refl
front_names wide w (Status c) e = refl
front_names wide w (Redo c) e = refl
front_names wide w (RedoMore c) e = refl
front_names wide w _ e = absurd cc

module _ (n s : ℕ) (ws : List ℕ) (f : GeometryFits (narrow n s)) where
  abbrev class : ℕ → ℕ → ℕ
  class = classes_in (narrow n s) ws

  abbrev before : Spot → ℕ
  before = see (narrow n s) ws

  abbrev after : Spot → ℕ
  after = see (wide n s) (widened (narrow n s) ws)

  classes_after : classes after ≡ class
  classes_after = classes-see (wide n s) (widened (narrow n s) ws) (wide_fits n s f) ∙ widening.same_classes n s ws f

  classes_same : classes after ≡ classes before
  classes_same = classes_after ∙ sym (classes-see (narrow n s) ws f)

  status_same : (c : ℕ) → c < n → after (Status c) ≡ before (Status c)
  unfolding spot_address
  status_same c l =
      let h = lt-ltb c n l in
      see_there (wide n s) (widened (narrow n s) ws) (Status c) (status_at (wide n s) (classes_in (wide n s) (widened (narrow n s) ws)) c h)
      ∙ widening.of_place n s ws f (place.Status c) h

  page_same : (t p : ℕ) → after (Page t p) ≡ before (Page t p)
  page_same t p = ap (λ (c : ℕ → ℕ → ℕ). c t p) classes_same

  class_further : (b : ℕ) → bodies (narrow n s) ≤ b → class_at (wide n s) (classes after) (b + n) ≡ class_at (narrow n s) (classes before) b
  class_further b l =
      let e : b + n - bodies (wide n s) ≡ b - bodies (narrow n s) = omega arith in
      rw e (ap (λ c. class_at (narrow n s) c b) classes_same)

  -- a live block in format 2 was one in format 1
  live_seen : (b : ℕ) → IsLive (headers after) b → (c : ℕ) × (c + n ≡ b) × IsBlock (narrow n s) class c × (headers after b ≡ headers before c)
  live_seen b l =
      let t = widening.head_seen n s ws f b (live_not_zero (after (Head b)) l) in
      (t.0, t.1, t.2, ap header_of t.3)

  module _ (clean : IsClean (narrow n s) before) where
    target : (a : ℕ) → (references false before (spot_at (narrow n s) class a) ≡ 0) ⊎ IsLive (headers before) (references false before (spot_at (narrow n s) class a))
    target a =
        elim (cases_eq (references false before (spot_at (narrow n s) class a)) 0) [
          | inl z ↦ inl z
          | inr h ↦ inr (clean.targets (spot_at (narrow n s) class a) h)
        ]

    -- what is added up over all references
    names_kept : (u v : ℕ → ℕ) → u 0 ≡ 0 → v 0 ≡ 0 → ((x : ℕ) → (x ≡ 0) ⊎ IsLive (headers before) x → u (moved (narrow n s) x) ≡ v x) → sum_below (total_of (wide n s)) (λ a. u (references true after (spot_at (wide n s) (classes after) a))) ≡ sum_below (total_of (narrow n s)) (λ a. v (references false before (spot_at (narrow n s) (classes before) a)))
    names_kept u v p q same =
        ap (λ k. sum_below k (λ a. u (references true after (spot_at (wide n s) (classes after) a)))) (total_further n s)
        ∙ sum_further (total_of (narrow n s)) (front n) n _ _
        (λ a l. ap v (front_names false before _ (front_spot_narrow n s (classes before) a l)) ∙ q)
        (λ a l. ap u (front_names true after _ (front_spot n s (classes after) a l)) ∙ p)
        (λ a l m.
        ap (λ c. u (references true after (spot_at (wide n s) c (a + n)))) (classes-see (wide n s) (widened (narrow n s) ws) (wide_fits n s f))
        ∙ (ap (λ r. u (references true after r)) (widening.spots_further n s ws f a l m)
        ∙ (ap u (widening.reference_further n s ws f clean a _ refl)
        ∙ (same _ (target a)
        ∙ ap (λ c. v (references false before (spot_at (narrow n s) c a))) (sym (classes-see (narrow n s) ws f))))))
        (omega arith)

    same_name : (b x : ℕ) → b ≢ 0 → (x ≡ 0) ⊎ IsLive (headers before) x → one_if (eqb (moved (narrow n s) x) (b + n)) ≡ one_if (eqb x b)
    same_name b x h (inl z) =
        ap (λ y. one_if (eqb (moved (narrow n s) y) (b + n))) z
        ∙ (ap one_if (ne_eqb 0 (b + n) (λ e. h (omega arith)))
        ∙ (sym (ap one_if (ne_eqb 0 b (λ e. h (sym e)))) ∙ ap (λ y. one_if (eqb y b)) (sym z)))
    same_name b x h (inr l) = ap (λ y. one_if (eqb y (b + n))) (widening.moved_live n s ws f x l) ∙ same_sum x b
      where
        same_sum : (x b : ℕ) → one_if (eqb (x + n) (b + n)) ≡ one_if (eqb x b)
        same_sum x b = grind (arith, nat_tests)

    pub found_kept : (b : ℕ) → b ≢ 0 → references_to (wide n s) (classes after) (references true after) (b + n) ≡ references_to (narrow n s) (classes before) (references false before) b
    unfolding references_to
    found_kept b h =
        names_kept (λ x. one_if (eqb x (b + n))) (λ x. one_if (eqb x b)) (ap one_if (ne_eqb 0 (b + n) (λ e. h (omega arith)))) (ap one_if (ne_eqb 0 b (λ e. h (sym e)))) (λ x. same_name b x h)

    any_name : (x : ℕ) → (x ≡ 0) ⊎ IsLive (headers before) x → ◌≡◌ {A = ℕ} (cond (eqb (moved (narrow n s) x) 0) 0 1) (cond (eqb x 0) 0 1)
    any_name x (inl z) = ap (λ y. cond (eqb (moved (narrow n s) y) 0) 0 1) z ∙ ap (λ y. cond (eqb y 0) 0 1) (sym z)
    any_name x (inr l) =
        let w = block_within (narrow n s) class x (live_block (narrow n s) ws x l) in
        let b = w.0 in
        ap (λ y. cond (eqb y 0) 0 1) (widening.moved_live n s ws f x l) ∙ (ap (λ t. cond t 0 1) (ne_eqb (x + n) 0 (omega arith)) ∙ sym (ap (λ t. cond t 0 1) (ne_eqb x 0 (omega arith))))

    pub names_in_all_kept : references_in_all (wide n s) (classes after) (references true after) ≡ references_in_all (narrow n s) (classes before) (references false before)
    unfolding references_in_all
    names_in_all_kept = names_kept (λ x. cond (eqb x 0) 0 1) (λ x. cond (eqb x 0) 0 1) refl refl any_name

    -- ---- a clean pool

    tag_kept : (b c : ℕ) → c + n ≡ b → IsBlock (narrow n s) class c → IsLive (headers before) c → TagSuits true n (class_at (wide n s) (classes after) b) (after (Tag b))
    tag_kept b c e is live =
        let t = clean.tags c live in
        let w = block_within (narrow n s) class c is in
        let spot = tag_spot (narrow n s) class c is (live_class (narrow n s) ws c f clean live) in
        let k : class_at (wide n s) (classes after) b ≡ class_at (narrow n s) (classes before) c = ap (class_at (wide n s) (classes after)) (sym e) ∙ class_further c w.0 in
        record {
          tag = record { refs = t.tag.refs; plain = t.tag.plain; author = t.tag.author; link = 0 };
          is = ap (λ a. tag_of true (after (Tag a))) (sym e) ∙ (ap (tag_of true) (widening.tag_further n s ws f clean c live spot) ∙ tag_of-word true _ (widening.wide_tag_fits n s ws f clean c live));
          room = (let r = t.room in omega arith);
          author = t.author;
        }

    pub clean_kept : IsClean (wide n s) after
    clean_kept =
        record {
          statuses = λ c l. subst (λ w. (w ≡ 0) ⊎ (w ≡ 3)) (sym (status_same c l)) (clean.statuses c l);
          pages = λ t p. rw (page_same t p) (clean.pages t p);
          heads = λ b h.
              (let t = widening.head_seen n s ws f b h in
              let l = clean.heads t.0 (λ z. h (t.3 ∙ z)) in
              (ap (λ w. (header_of w).live) t.3 ∙ l.0, (let k = ap (λ w. (header_of w).client) t.3 in let m = l.1 in omega arith)));
          tags = λ b l. (let t = live_seen b l in tag_kept b t.0 t.1 t.2 (ap (λ h. h.live) (sym t.3) ∙ l));
          targets = λ p h.
              (let t = widening.reference_seen n s ws f clean p h in
              let l = widening.target_live n s ws f clean (spot_at (narrow n s) class t.0) (λ z. h (t.3 ∙ z)) in
              let e = t.3 ∙ widening.moved_live n s ws f _ l in
              ap (λ b. (headers after b).live) e ∙ (widening.live_further n s ws f _ ∙ l));
          counts = λ b l.
              (let t = live_seen b l in
              let c = clean.counts t.0 (ap (λ h. h.live) (sym t.3) ∙ l) in
              let k = ap (λ h. h.count) t.3 in
              let w = (block_within (narrow n s) class t.0 t.2).0 in
              let r = found_kept t.0 (omega arith) in
              let e = ap (references_to (wide n s) (classes after) (references true after)) t.1 in
              let p = c.0 in
              (omega arith, k ∙ (c.1 ∙ (sym r ∙ e))));
        }

  -- ---- live blocks

  early_head : (b : ℕ) → b < bodies (narrow n s) → before (Head b) ≡ 0
  early_head b l =
      elim (cases_eq (before (Head b)) 0) [
        | inl z ↦ z
        | inr h ↦ absurd (let w = (block_within (narrow n s) class b (widening.block_seen n s ws f b h)).0 in omega arith)
      ]

  early_head_after : (b : ℕ) → b < front n + n → after (Head b) ≡ 0
  early_head_after b l =
      elim (cases_eq (after (Head b)) 0) [
        | inl z ↦ z
        | inr h ↦ absurd (let t = widening.head_seen n s ws f b h in let w = (block_within (narrow n s) class t.0 t.2).0 in let e = t.1 in omega arith)
      ]

  pub live_kept : live_count (wide n s) after ≡ live_count (narrow n s) before
  unfolding live_count
  live_kept =
      ap (λ k. sum_below k (λ b. one_if (header_of (after (Head b))).live)) (total_further n s)
      ∙ sum_further (total_of (narrow n s)) (front n) n _ _
      (λ b l. ap (λ w. one_if (header_of w).live) (early_head b (omega arith)) ∙ ap one_if header_of_zero)
      (λ b l. ap (λ w. one_if (header_of w).live) (early_head_after b l) ∙ ap one_if header_of_zero)
      (λ b l m. ap (λ w. one_if (header_of w).live) (widening.head_same n s ws f b))
      (omega arith)
