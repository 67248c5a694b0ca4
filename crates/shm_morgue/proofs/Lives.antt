-- the word steps of the agents of a script, by number
use Rattle.std.proofs.Common.{◌≡◌, ℕ, zero, suc, ◌<◌, List, [], ◌∷◌, ◌++◌, length, refl, arith}
use Rattle.std.specs.Prelude.{Some, slice_get, slice_index}

front_of : (xs ys : List ℕ) (i : ℕ) → i < length xs → slice_index (xs ++ ys) i ≡ slice_index xs i
front_of [] ys i l = absurd (omega arith)
front_of (x ∷ xs) ys zero l = refl
front_of (x ∷ xs) ys (suc i) l = front_of xs ys i (omega arith)

behind : (xs : List ℕ) (n i : ℕ) → i ≡ length xs → slice_index (xs ++ n ∷ []) i ≡ n
behind [] n zero e = refl
behind [] n (suc i) e = absurd (omega arith)
behind (x ∷ xs) n zero e = absurd (omega arith)
behind (x ∷ xs) n (suc i) e = behind xs n i (omega arith)

pub index_get : (ns : List ℕ) (i : ℕ) → i < length ns → slice_get ns i ≡ Some (slice_index ns i)
index_get [] i l = absurd (omega arith)
index_get (n ∷ ns) zero l = refl
index_get (n ∷ ns) (suc i) l = index_get ns i (omega arith)
