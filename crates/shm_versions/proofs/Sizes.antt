-- Sizes of versions that were asked for one by one.
use Rattle.std.proofs.Common.{◌≡◌, ℕ, zero, suc, ◌<◌, List, [], ◌∷◌, length, get_or, map, refl, ap, ◌∙◌, arith}
use Rattle.shm_tree.specs.{Forests.version, Trees.{Tree, size}}

pub same_sizes : (ns : List ℕ) (ts : List Tree) → length ns ≡ length ts → ((k : ℕ) → k < length ts → get_or ns k 0 ≡ size (version ts k)) → ns ≡ map size ts
same_sizes [] [] e h = refl
same_sizes [] (t ∷ ts) e h = absurd (omega (arith, e))
same_sizes (n ∷ ns) [] e h = absurd (omega (arith, e))
same_sizes (n ∷ ns) (t ∷ ts) e h =
    let rest : ns ≡ map size ts = same_sizes ns ts (omega (arith, e)) (λ k low. h (suc k) (omega (arith, low))) in
    ap (λ (m : ℕ). m ∷ ns) (h zero (omega arith)) ∙ ap (λ (ms : List ℕ). size t ∷ ms) rest
