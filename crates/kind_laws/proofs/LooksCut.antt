-- the looks that stay are sound for the new targets, and the block of the slot stays in reach
use Rattle.std.proofs.Common.{◌≡◌, ℕ, refl, ap, ◌∙◌, arith, true, false, Bool, cond, eqb, eq-eqb, eqb-true, subst, inl, inr, ◌⊎◌, List, [], ◌∷◌, Option, sym}
use Rattle.std.proofs.lemmas.List.Elements.{Contains-push, Contains-push_cases, Contains-append_cases, Contains-append_left, Contains-append_right}
use Rattle.std.proofs.lemmas.Bool.{cases_eq, ne_eqb, cases_Bool, false≢true, or_parts}
use Rattle.std.specs.{List.list_any, Prelude.◌||◌}
use Rattle.shm_graph.specs.declared.{spot.Spot.{Spot, TheVariants.{Home, Body}}, memo.Look.Look}
use Rattle.shm_graph.specs.{Held.{InLooks, LookAt, LooksSound}, Reach.{upto, is_look_from}, Spots.same_spot}
use Rattle.shm_graph.proofs.Spots.Spotting.{same_spot_is}

in_split : (k : Look) (ks : List Look) (b : ℕ) → InLooks (k ∷ ks) b → (k.block ≡ b) ⊎ InLooks ks b
in_split k ks b x = elim (Contains-append_cases (k ∷ []) ks x.0 x.1) [
  | inl u ↦ inl (elim (Contains-push_cases [] k x.0 u) [ inl z ↦ absurd (let l = z.1 in omega arith) | inr e ↦ ap (λ (z : Look). z.block) e ∙ x.2 ])
  | inr u ↦ inr (x.0, u, x.2)
]

in_head : (k : Look) (ks : List Look) (b : ℕ) → k.block ≡ b → InLooks (k ∷ ks) b
in_head k ks b e = (k, Contains-append_left (k ∷ []) ks k (Contains-push [] k), e)

-- the block stays
pub upto_has : (j : ℕ) (ks : List Look) → InLooks ks j → InLooks (upto j ks) j
upto_has j [] x = x
upto_has j (k ∷ ks) x = elim (in_split k ks j x) [
  | inl e ↦ in_head k (cond (eqb k.block j) [] (upto j ks)) j e
  | inr e ↦ go (eqb k.block j) refl (upto_has j ks e)
]
  where
    go : (b : Bool) → eqb k.block j ≡ b → InLooks (upto j ks) j → InLooks (k ∷ cond b [] (upto j ks)) j
    go true q r = in_head k [] j (eqb-true k.block j q)
    go false q r = (r.0, Contains-append_right (k ∷ []) (upto j ks) r.0 r.1, r.2)

-- the looks up to a block are sound
pub upto_first : (home : ℕ → ℕ) (body : ℕ → ℕ → ℕ) (author : ℕ → ℕ) (latch : Option ℕ) (named : ℕ → Type 0) (j : ℕ) (earlier ks : List Look) → LooksSound home body author latch named earlier ks → LooksSound home body author latch named earlier (upto j ks)
upto_first home body author latch named j earlier [] x = tt
upto_first home body author latch named j earlier (k ∷ ks) x = (x.0, rest (eqb k.block j) (upto_first home body author latch named j (k ∷ earlier) ks x.1))
  where
    rest : (b : Bool) → LooksSound home body author latch named (k ∷ earlier) (upto j ks) → LooksSound home body author latch named (k ∷ earlier) (cond b [] (upto j ks))
    rest true y = tt
    rest false y = y

-- looks that were read from other words than the one whose target changes are sound for the new targets
pub looks_apart : (t t' : Spot → ℕ) (author : ℕ → ℕ) (latch : Option ℕ) (named named' : ℕ → Type 0) (p : Spot)
    → ((q : Spot) → same_spot p q ≡ false → t' q ≡ t q) → ((b : ℕ) → named b → named' b)
    → (earlier ks : List Look) → list_any (is_look_from p) ks ≡ false → LooksSound (λ a. t (Home a)) (λ b i. t (Body b i)) author latch named earlier ks → LooksSound (λ a. t' (Home a)) (λ b i. t' (Body b i)) author latch named' earlier ks
looks_apart t t' author latch named named' p same hn earlier [] n x = tt
looks_apart t t' author latch named named' p same hn earlier (k ∷ ks) n x =
    let q = or_parts (same_spot p k.from) (list_any (is_look_from p) ks) n in
    (at k.from q.0 x.0, looks_apart t t' author latch named named' p same hn (k ∷ earlier) ks q.1 x.1)
  where
    at : (q : Spot) → same_spot p q ≡ false → LookAt (λ a. t (Home a)) (λ b i. t (Body b i)) author latch (λ b. named b ⊎ InLooks earlier b) q k.block → LookAt (λ a. t' (Home a)) (λ b i. t' (Body b i)) author latch (λ b. named' b ⊎ InLooks earlier b) q k.block
    at (Home a) e y = (y.0, y.1, same (Home a) e ∙ y.2)
    at (Body b i) e y = (y.0, y.1, same (Body b i) e ∙ y.2, elim y.3 [ inl u ↦ inl (hn b u) | inr u ↦ inr u ])
    at _ e y = absurd y

-- where one of the looks up to a block was read from a word of that block, the block is named
pub from_named : (home : ℕ → ℕ) (body : ℕ → ℕ → ℕ) (author : ℕ → ℕ) (latch : Option ℕ) (named : ℕ → Type 0) (j i : ℕ) (earlier ks : List Look) → (InLooks earlier j → ⊥) → list_any (is_look_from (Body j i)) (upto j ks) ≡ true → LooksSound home body author latch named earlier ks → named j
from_named home body author latch named j i earlier [] none any x = absurd (false≢true any)
from_named home body author latch named j i earlier (k ∷ ks) none any x =
    elim (cases_Bool (same_spot (Body j i) k.from)) [
      | inl e ↦ (let y : LookAt home body author latch (λ b. named b ⊎ InLooks earlier b) (Body j i) k.block = subst (λ q. LookAt home body author latch (λ b. named b ⊎ InLooks earlier b) q k.block) (sym (same_spot_is (Body j i) k.from e)) x.0 in
          elim y.3 [ inl u ↦ u | inr u ↦ absurd (none u) ])
      | inr e ↦ later (from_named home body author latch named j i (k ∷ earlier) ks) (cases_eq k.block j) (sym (ap (λ b. b || list_any (is_look_from (Body j i)) (cond (eqb k.block j) [] (upto j ks))) e) ∙ any)
    ]
  where
    later : ((InLooks (k ∷ earlier) j → ⊥) → list_any (is_look_from (Body j i)) (upto j ks) ≡ true → LooksSound home body author latch named (k ∷ earlier) ks → named j)
        → (k.block ≡ j) ⊎ (k.block ≡ j → ⊥) → list_any (is_look_from (Body j i)) (cond (eqb k.block j) [] (upto j ks)) ≡ true → named j
    later rest (inl q) z = absurd (false≢true (ap (λ b. list_any (is_look_from (Body j i)) (cond b [] (upto j ks))) (sym (eq-eqb k.block j q)) ∙ z))
    later rest (inr n) z = rest (λ y. elim (in_split k earlier j y) [ inl q ↦ n q | inr q ↦ none q ]) (ap (λ b. list_any (is_look_from (Body j i)) (cond b [] (upto j ks))) (sym (ne_eqb k.block j n)) ∙ z) x.1
