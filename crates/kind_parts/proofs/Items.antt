-- lists that have one item anew
use Rattle.std.proofs.Common.{◌≡◌, ℕ, zero, suc, refl, subst, List, [], ◌∷◌, cond, eqb, inl, inr, ◌⊎◌}
use Rattle.std.proofs.Math.{Path.fun_ext, Dec.{eqb-suc-zero, eqb-zero-suc, eqb-suc-suc}}
use Rattle.std.proofs.lemmas.Bool.{eq-eqb, ne_eqb, cases_eq}
use Rattle.std.specs.Prelude.{slice_index_or}
use Rattle.shm_graph.specs.{Views.at1, MemoAfterStore.put}
use Rattle.kind_laws.specs.OwnWords.{at2}

-- item i of a list is x, and each other one stays
pub put_at : {T : Type 0} (d : T) (xs : List T) (i : ℕ) (x : T) (j : ℕ) → slice_index_or (put d xs i x) j d ≡ cond (eqb i j) x (slice_index_or xs j d)
put_at d [] zero x zero = refl
put_at d [] zero x (suc j) = rw (eqb-zero-suc j) refl
put_at d [] (suc i) x zero = rw (eqb-suc-zero i) refl
put_at d [] (suc i) x (suc j) = rw (eqb-suc-suc i j) (put_at d [] i x j)
put_at d (y ∷ ys) zero x zero = refl
put_at d (y ∷ ys) zero x (suc j) = rw (eqb-zero-suc j) refl
put_at d (y ∷ ys) (suc i) x zero = rw (eqb-suc-zero i) refl
put_at d (y ∷ ys) (suc i) x (suc j) = rw (eqb-suc-suc i j) (put_at d ys i x j)

-- one item of one identity's part changes
pub part_at2 : {T : Type 0} (f : ℕ → ℕ → T) (c r : ℕ) (x : T) (h : ℕ → T) → ((j : ℕ) → h j ≡ cond (eqb r j) x (f c j)) → at1 f c h ≡ at2 f c r x
part_at2 {T} f c r x h e = fun_ext (λ d. fun_ext (λ j. at d j (cases_eq c d)))
  where
    at : (d j : ℕ) → (c ≡ d) ⊎ (c ≡ d → ⊥) → at1 f c h d j ≡ at2 f c r x d j
    at d j (inl q) = subst (λ k. at1 f c h k j ≡ at2 f c r x k j) q (rw (eq-eqb c c refl) (e j))
    at d j (inr n) = rw (ne_eqb c d n) refl
