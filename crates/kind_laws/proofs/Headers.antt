-- the header of a live block is exchanged for a live one: what stays, and which blocks die where a count is lowered
use Rattle.std.proofs.Common.{◌≡◌, ◌≢◌, ℕ, ◌<◌, refl, sym, ap, ◌∙◌, true, false, Bool, cond, eqb, eq-eqb, subst, inl, inr, ◌⊎◌, List, [], ◌∷◌, ◌++◌, Option, Some, None}
use Rattle.std.proofs.lemmas.List.Elements.{Contains-push, Contains-push_cases, Contains-append_left}
use Rattle.std.proofs.lemmas.Bool.{cases_Bool, cases_eq, true≢false, eqb-true}
use Rattle.std.specs.List.{Contains}
use Rattle.shm_words.specs.{Headers.header_of, declared.geometry.Geometry.Geometry, Tags.{tag_link, tag_shape}}
use Rattle.shm_words.proofs.Words.{live_not_zero}
use Rattle.shm_graph.specs.declared.{spot.Spot.{Spot, TheVariants.{Segment, Page, Head, Tag, Body}}, memo.Making.Making}
use Rattle.shm_graph.specs.{Spots.{upd, class_at}, Blocks.{classes, headers}, References.{words_of, refs_of}}
use Rattle.shm_graph.specs.{Views.{View, at1, targets, held_overs}, Events.{graph_of, with_target, IsSame}}
use Rattle.shm_graph.specs.Held.{HeldAt, BlockSound, DyingTie, IsDying, MakingTie, TagSound, ZeroAt}
use Rattle.shm_graph.proofs.{Runs.Lists.{at1_here, at1_other}, Memos.Frames.at1_all}
use Rattle.kind_laws.specs.HeaderExchanges.{dying_after}
use Rattle.kind_laws.proofs.Readings.{head_words}

module _ (g : Geometry) (w : Spot → ℕ) (v : View) (h : HeldAt g w v) (b to : ℕ) (live : (headers w b).live ≡ true) (counted : (headers w b).count ≢ 0) (now : (header_of to).live ≡ true) where
  -- live blocks stay live
  pub lives : (i : ℕ) → (headers w i).live ≡ true → (headers (upd w (Head b) to) i).live ≡ true
  lives i = at1_all (λ (j x : ℕ). (header_of (head_words w j)).live ≡ true → (header_of x).live ≡ true) (head_words w) b to i (λ _. now) (λ _ q. q)

  -- and dead blocks stay dead
  pub live_stays : (i : ℕ) → (headers (upd w (Head b) to) i).live ≡ (headers w i).live
  live_stays i = at1_all (λ (j x : ℕ). (header_of x).live ≡ (header_of (head_words w j)).live) (head_words w) b to i (now ∙ sym live) (λ _. refl)

  -- the shapes of the blocks stay
  pub shape_stays : (i : ℕ) → cond (headers (upd w (Head b) to) i).live (tag_shape g.wide (w (Tag i))) 0 ≡ cond (headers w i).live (tag_shape g.wide (w (Tag i))) 0
  shape_stays i = ap (λ z. cond z (tag_shape g.wide (w (Tag i))) 0) (live_stays i)

  -- zero-count blocks stay those that they are
  pub dying_stays : (d i : ℕ) → IsDying (headers w i) d → IsDying (headers (upd w (Head b) to) i) d
  dying_stays d i = at1_all (λ (j x : ℕ). IsDying (header_of (head_words w j)) d → IsDying (header_of x) d) (head_words w) b to i (λ q. absurd (counted q.1)) (λ _ q. q)

  -- where the new count isn't 0 they are all
  pub dying_raised : (header_of to).count ≢ 0 → (d : ℕ) → d < g.clients → DyingTie (headers (upd w (Head b) to)) d (v.dying d)
  dying_raised some d l =
      record {
        listed = λ i x. dying_stays d i ((h.dying d l).listed i x);
        all = λ i x. at1_all (λ (j y : ℕ). IsDying (header_of y) d → Contains (v.dying d) j) (head_words w) b to i (λ q. absurd (some q.1)) (λ n. (h.dying d l).all i) x;
      }

  pub blocks_stay : BlockSound g (classes w) (λ i. upd w (Head b) to (Head i)) (λ i. w (Tag i))
  blocks_stay =
      record {
        plain = λ i. at1_all (λ (j x : ℕ). (header_of x).live ≡ false → x ≡ 0) (head_words w) b to i (λ dead. absurd (true≢false (sym now ∙ dead))) (λ n. h.blocks.plain i);
        tagged = λ i. at1_all (λ (j x : ℕ). (header_of x).live ≡ true → TagSound g.wide g.clients (class_at g (classes w) j) (w (Tag j))) (head_words w) b to i (λ _. h.blocks.tagged b live) (λ n. h.blocks.tagged i);
        link = λ i. at1_all (λ (j x : ℕ). (header_of x).live ≡ true → (header_of x).count ≢ 0 → tag_link g.wide (w (Tag j)) ≡ 0) (head_words w) b to i (λ _ _. h.blocks.link b live counted) (λ n. h.blocks.link i);
      }

  -- a free block is another block
  not_free : (i : ℕ) → head_words w i ≡ 0 → b ≢ i
  not_free i z x = live_not_zero (head_words w b) live (ap (head_words w) x ∙ z)

  pub making_stays : (d : ℕ) (x : Option Making) → MakingTie g (classes w) (λ s. w (Segment s)) (head_words w) (λ i. w (Tag i)) (λ i j. w (Body i j)) d x → MakingTie g (classes w) (λ s. w (Segment s)) (λ i. upd w (Head b) to (Head i)) (λ i. w (Tag i)) (λ i j. w (Body i j)) d x
  making_stays d None y = tt
  making_stays d (Some x) y = record { free = at1_other (head_words w) b to x.block (not_free x.block y.free) ∙ y.free; block = y.block; mine = y.mine; sized = y.sized; stored = y.stored }

  pub zero_stays : (d : ℕ) (p : Spot) → ZeroAt g (classes w) (λ s. w (Segment s)) (head_words w) d p → ZeroAt g (classes w) (λ s. w (Segment s)) (λ i. upd w (Head b) to (Head i)) d p
  zero_stays d (Page i j) z = z
  zero_stays d (Head i) z = (at1_other (head_words w) b to i (not_free i z.0) ∙ z.0, z.1, z.2)
  zero_stays d _ z = absurd z

  -- the numbers of reference words stay
  pub refs_stay : (d : ℕ) → (words_of g.wide (upd w (Head b) to)).refs d ≡ (words_of g.wide w).refs d
  refs_stay d = ap (λ z. refs_of g.wide z (w (Tag d))) (live_stays d)

  -- where one target changed and no block held over did, the graph is the one with that target
  pub graph_stays : (v' : View) (p : Spot) (x : ℕ) → targets g (upd w (Head b) to) v' ≡ upd (targets g w v) p x → held_overs v' ≡ held_overs v → IsSame (with_target (graph_of g w v) p x) (graph_of g (upd w (Head b) to) v')
  graph_stays v' p x path held_over =
      record {
        lives = live_stays;
        shapes = λ i. ap (λ l. cond l (tag_shape g.wide (w (Tag i))) 0) (live_stays i);
        targets = λ q. ap (λ f. f q) path;
        held_overs = λ d. ap (λ f. f d) held_over;
      }

  -- ---- the zero-count blocks, where c lowers the count to n

  module _ (c n : ℕ) (client : (header_of to).client ≡ c) (count : (header_of to).count ≡ n) where
    listed : (i : ℕ) → c < g.clients → (eqb n 0 ≡ true) ⊎ (eqb n 0 ≡ false) → Contains (dying_after n b (v.dying c)) i → IsDying (headers (upd w (Head b) to) i) c
    listed i l (inl z) x =
        let y : Contains (v.dying c ++ b ∷ []) i = rw z at x in
        elim (Contains-push_cases (v.dying c) b i y) [
          | inl u ↦ dying_stays c i ((h.dying c l).listed i u)
          | inr u ↦ subst (λ j. IsDying (headers (upd w (Head b) to) j) c) u (subst (λ x. IsDying (header_of x) c) (sym (at1_here (head_words w) b to)) (now, count ∙ eqb-true n 0 z, client))
        ]
    listed i l (inr z) x = dying_stays c i ((h.dying c l).listed i (let y : Contains (v.dying c) i = rw z at x in y))

    before : (d i : ℕ) → d < g.clients → b ≢ i → IsDying (headers (upd w (Head b) to) i) d → Contains (v.dying d) i
    before d i l m q = (h.dying d l).all i (subst (λ x. IsDying (header_of x) d) (at1_other (head_words w) b to i m) q)

    pub dying_more : (i : ℕ) → Contains (v.dying c) i → Contains (dying_after n b (v.dying c)) i
    dying_more i x = both (eqb n 0)
      where
        both : (y : Bool) → Contains (cond y (v.dying c ++ b ∷ []) (v.dying c)) i
        both true = Contains-append_left (v.dying c) (b ∷ []) i x
        both false = x

    all_own : (i : ℕ) → c < g.clients → IsDying (headers (upd w (Head b) to) i) c → (b ≡ i) ⊎ (b ≡ i → ⊥) → Contains (dying_after n b (v.dying c)) i
    all_own i l q (inl x) =
        let z : n ≡ 0 = sym count ∙ (ap (λ y. (header_of y).count) (sym (at1_here (head_words w) b to)) ∙ (ap (λ j. (headers (upd w (Head b) to) j).count) x ∙ q.1)) in
        subst (Contains (dying_after n b (v.dying c))) x (rw (eq-eqb n 0 z) (Contains-push (v.dying c) b))
    all_own i l q (inr m) = dying_more i (before c i l m q)

    all_other : (d i : ℕ) → c ≢ d → d < g.clients → IsDying (headers (upd w (Head b) to) i) d → (b ≡ i) ⊎ (b ≡ i → ⊥) → Contains (v.dying d) i
    all_other d i m l q (inl x) = absurd (m (sym client ∙ (ap (λ y. (header_of y).client) (sym (at1_here (head_words w) b to)) ∙ (ap (λ j. (headers (upd w (Head b) to) j).client) x ∙ q.2))))
    all_other d i m l q (inr n) = before d i l n q

    pub dying_lowered : (d : ℕ) → d < g.clients → DyingTie (headers (upd w (Head b) to)) d (at1 v.dying c (dying_after n b (v.dying c)) d)
    dying_lowered d l =
        record {
          listed = λ i. at1_all (λ (j : ℕ) (x : List ℕ). j < g.clients → Contains x i → IsDying (headers (upd w (Head b) to) i) j) v.dying c (dying_after n b (v.dying c)) d
              (λ lc x. listed i lc (cases_Bool (eqb n 0)) x)
              (λ m ld x. dying_stays d i ((h.dying d ld).listed i x)) l;
          all = λ i x. at1_all (λ (j : ℕ) (y : List ℕ). j < g.clients → IsDying (headers (upd w (Head b) to) i) j → Contains y i) v.dying c (dying_after n b (v.dying c)) d
              (λ lc q. all_own i lc q (cases_eq b i))
              (λ m ld q. all_other d i m ld q (cases_eq b i)) l x;
        }
