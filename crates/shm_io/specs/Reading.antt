-- What reads do to the bytes that a source has left, where it tells them.
use Rattle.std.specs.Prelude.{◌≡◌, ℕ, ◌≤◌, List, ◌++◌, length, take, drop, Option, Some, None, MatchOption}

-- the next n bytes moved into the front of the piece, and the rest of the bytes and of the piece stayed
pub record MovesNext (bytes : List ℕ) (after : Option (List ℕ)) (old new : List ℕ) (n : ℕ) : Type 0 where
  pub enough : n ≤ length bytes
  pub left : after ≡ Some (drop n bytes)
  pub piece : new ≡ take n bytes ++ drop n old

-- the same where the bytes are told, and a source that doesn't tell them stays so
abbrev pub Moves : Option (List ℕ) → Option (List ℕ) → List ℕ → List ℕ → ℕ → Type 0
Moves before after old new n = MatchOption before (after ≡ None) (λ bytes. MovesNext bytes after old new n)

-- the source gave its bytes up to a limit, and these are they
pub record TakesBytes (bytes : List ℕ) (after : Option (List ℕ)) (limit : ℕ) (taken : List ℕ) : Type 0 where
  pub front : taken ≡ take limit bytes
  pub left : after ≡ Some (drop limit bytes)

-- the same where the bytes are told, and a source that doesn't tell them stays so
abbrev pub TakesFront : Option (List ℕ) → Option (List ℕ) → ℕ → List ℕ → Type 0
TakesFront before after limit taken = MatchOption before (after ≡ None) (λ bytes. TakesBytes bytes after limit taken)

-- where the bytes are told, a front of them is lost that is no longer than the limit
abbrev pub LosesFront : Option (List ℕ) → Option (List ℕ) → ℕ → Type 0
LosesFront before after limit = MatchOption before (after ≡ None) (λ bytes. (n : ℕ) × (n ≤ limit) × (after ≡ Some (drop n bytes)))

-- where the bytes are told, the next n of them were added to the end of these
abbrev pub ReadsOn : Option (List ℕ) → Option (List ℕ) → List ℕ → List ℕ → ℕ → Type 0
ReadsOn before after old new n = MatchOption before (after ≡ None) (λ bytes. (n ≤ length bytes) × (after ≡ Some (drop n bytes)) × (new ≡ old ++ take n bytes))
