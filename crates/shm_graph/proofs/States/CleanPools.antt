-- what follows from what is clean
use Rattle.std.proofs.Common.{◌≡◌, ◌≢◌, ℕ, zero, suc, ◌<◌, refl, sym, ap, ◌∙◌, subst, arith, inl, inr, Bool, true, false, cond, List}
use Rattle.std.proofs.lemmas.Bool.{cases_eq, cases_Bool, cond-true, cond-false, eq-eqb, ne_eqb}
use Rattle.std.specs.Prelude.{◌==◌}
use Rattle.shm_words.specs.{declared.geometry.Geometry.Geometry, Layout.{GeometryFits, total_of}}
use Rattle.shm_words.proofs.Words.{live_not_zero}
use Rattle.shm_graph.specs.{declared.spot.Spot.{Spot, TheVariants.{Head, Status}}, Spots.{see, spot_at}}
use Rattle.shm_graph.specs.Blocks.{IsLive, classes, headers}
use Rattle.shm_graph.specs.{References.{sum_below, one_if, references, references_to, references_in_all}, Clean.IsClean}
use Rattle.shm_graph.proofs.Spots.{Seeing.seen_stands, Spotting.{in_pool, is_at_block}}
use Rattle.shm_graph.proofs.Spots.Sums.{sum_none, sum_one, sum_each, sum_swap}

-- a number that a function takes somewhere, where it is counted at all
sum_some : (n : ℕ) (f : ℕ → ℕ) (b : ℕ) → 0 < sum_below n (λ a. one_if (f a == b)) → (a : ℕ) × (a < n) × (f a ≡ b)
sum_some zero f b l = absurd (omega arith)
sum_some (suc n) f b l =
    elim (cases_eq (f n) b) [
      | inl e ↦ (n, omega arith, e)
      | inr d ↦ (let z : one_if (f n == b) ≡ 0 = ap one_if (ne_eqb (f n) b d) in let r = sum_some n f b (omega arith) in (r.0, let q = r.1 in omega arith, r.2))
    ]

named_where : (g : Geometry) (class : ℕ → ℕ → ℕ) (t : Spot → ℕ) (b : ℕ) → 0 < references_to g class t b → (a : ℕ) × (a < total_of g) × (t (spot_at g class a) ≡ b)
unfolding references_to
named_where g class t b l = sum_some (total_of g) (λ a. t (spot_at g class a)) b l

above : (n m : ℕ) → 0 < n → n ≡ m → 0 < m
above n m l e = omega arith

module _ (g : Geometry) (w : Spot → ℕ) (h : IsClean g w) where
  pub clean_named : (b : ℕ) → IsLive (headers w) b → (a : ℕ) × (a < total_of g) × (references g.wide w (spot_at g (classes w) a) ≡ b)
  clean_named b l = let x = h.counts b l in named_where g (classes w) (references g.wide w) b (above (headers w b).count (references_to g (classes w) (references g.wide w) b) x.0 x.1)

  pub clean_empty : ((b : ℕ) → w (Head b) ≡ 0) → (p : Spot) → references g.wide w p ≡ 0
  clean_empty free p =
      elim (cases_eq (references g.wide w p) 0) [
        | inl z ↦ z
        | inr n ↦ absurd (live_not_zero (w (Head (references g.wide w p))) (h.targets p n) (free (references g.wide w p)))
      ]

  pub clean_headers : (b : ℕ) → w (Head b) ≢ 0 → IsLive (headers w) b × ((headers w b).client < g.clients)
  clean_headers b n = h.heads b n

  pub clean_joinable : (c : ℕ) → c < g.clients → (w (Status c) ≢ 1) × (w (Status c) ≢ 2)
  clean_joinable c l =
      elim (h.statuses c l) [
        | inl z ↦ (λ e. omega arith, λ e. omega arith)
        | inr z ↦ (λ e. omega arith, λ e. omega arith)
      ]

-- ---- the sum of all counts

-- the count of a live block, and 0 where no block is live
abbrev count_here : (Spot → ℕ) → ℕ → ℕ
count_here w b = cond (headers w b).live (headers w b).count 0

-- whether a word that names x is a reference to the live block b
abbrev hit : (Spot → ℕ) → ℕ → ℕ → ℕ
hit w x b = cond (headers w b).live (one_if (x == b)) 0

-- a word that names a live block is one reference to one block
one_block : (w : Spot → ℕ) (n x : ℕ) → (x ≢ 0 → IsLive (headers w) x × (x < n)) → (headers w 0).live ≡ false → sum_below n (hit w x) ≡ cond (x == 0) 0 1
one_block w n x named none =
    elim (cases_eq x 0) [
      | inl z ↦ sum_none n (hit w x) (λ b l. elim (cases_eq x b) [
        | inl e ↦ cond-false (headers w b).live (one_if (x == b)) 0 (subst (λ k. (headers w k).live ≡ false) (sym z ∙ e) none)
        | inr d ↦ missed b d
      ]) ∙ sym (cond-true (x == 0) 0 1 (eq-eqb x 0 z))
      | inr n0 ↦ sum_one n (hit w x) x (named n0).1
          (cond-true (headers w x).live (one_if (x == x)) 0 (named n0).0 ∙ ap one_if (eq-eqb x x refl))
          (λ b l d. missed b (λ e. d (sym e))) ∙ sym (cond-false (x == 0) 0 1 (ne_eqb x 0 n0))
    ]
  where
    both : (y : Bool) → let none : ℕ = cond y 0 0 in none ≡ 0
    both true = refl
    both false = refl

    missed : (b : ℕ) → x ≢ b → hit w x b ≡ 0
    missed b d = ap (λ z. cond (headers w b).live (one_if z) 0) (ne_eqb x b d) ∙ both (headers w b).live

-- what counts a block's references counts nothing where it isn't live
column : (n : ℕ) (y : Bool) (f : ℕ → ℕ) → sum_below n (λ a. cond y (f a) 0) ≡ cond y (sum_below n f) 0
column n true f = refl
column n false f = sum_none n (λ a. 0) (λ a l. refl)

module _ (g : Geometry) (ws : List ℕ) (f : GeometryFits g) (h : IsClean g (see g ws)) where
  clean_within : (b : ℕ) → IsLive (headers (see g ws)) b → (0 < b) × (b < total_of g)
  clean_within b l = in_pool g (classes (see g ws)) b (Head b) (is_at_block g (classes (see g ws)) b (seen_stands g ws (Head b) f (live_not_zero (see g ws (Head b)) l))) (λ e. cc)

  nothing_at_zero : (y : Bool) → (headers (see g ws) 0).live ≡ y → y ≡ false
  nothing_at_zero true e = absurd (let k = (clean_within 0 e).0 in omega arith)
  nothing_at_zero false e = refl

  row_sum : (p : Spot) → sum_below (total_of g) (hit (see g ws) (references g.wide (see g ws) p)) ≡ cond (references g.wide (see g ws) p == 0) 0 1
  row_sum p = one_block (see g ws) (total_of g) (references g.wide (see g ws) p) (λ n. let l = h.targets p n in (l, (clean_within (references g.wide (see g ws) p) l).1)) (nothing_at_zero (headers (see g ws) 0).live refl)

  block_sum : (b : ℕ) → sum_below (total_of g) (λ a. hit (see g ws) (references g.wide (see g ws) (spot_at g (classes (see g ws)) a)) b) ≡ count_here (see g ws) b
  unfolding references_to
  block_sum b =
      column (total_of g) (headers (see g ws) b).live (λ a. one_if (references g.wide (see g ws) (spot_at g (classes (see g ws)) a) == b))
      ∙ elim (cases_Bool (headers (see g ws) b).live) [
        | inl l ↦ ap (λ y. cond (headers (see g ws) b).live y 0) (sym (h.counts b l).1)
        | inr d ↦ cond-false (headers (see g ws) b).live _ 0 d ∙ sym (cond-false (headers (see g ws) b).live (headers (see g ws) b).count 0 d)
      ]

  pub clean_sum : references_in_all g (classes (see g ws)) (references g.wide (see g ws)) ≡ sum_below (total_of g) (λ b. cond (headers (see g ws) b).live (headers (see g ws) b).count 0)
  unfolding references_in_all
  clean_sum =
      sum_each (total_of g) (λ a. cond (references g.wide (see g ws) (spot_at g (classes (see g ws)) a) == 0) 0 1) (λ a. sum_below (total_of g) (hit (see g ws) (references g.wide (see g ws) (spot_at g (classes (see g ws)) a)))) (λ a l. sym (row_sum (spot_at g (classes (see g ws)) a)))
      ∙ (sum_swap (total_of g) (total_of g) (λ a b. hit (see g ws) (references g.wide (see g ws) (spot_at g (classes (see g ws)) a)) b)
      ∙ sum_each (total_of g) _ (count_here (see g ws)) (λ b l. block_sum b))
