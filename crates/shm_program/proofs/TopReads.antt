-- what the bytes that were read say of those that the source had left
use Rattle.std.proofs.Common.{◌≡◌, ℕ, ◌<◌, ◌≤◌, List, [], ◌∷◌, length, take, refl, ap, ◌∙◌, arith, inl, inr, ◌⊎◌, min}
use Rattle.std.proofs.lemmas.{Bool.cases_lt, List.{take_all, length-take, drop_all}}
use Rattle.std.specs.Prelude.{Option, Some, None}
use Rattle.shm_io.specs.Reading.{TakesBytes, TakesFront}
use Rattle.shm_program.specs.Reads.{ReadsAll, ReadsLimit, ReadsNone}

-- bytes that were taken up to a limit, and are fewer, are all
short_all : (limit : ℕ) (left bytes : List ℕ) → bytes ≡ take limit left → length bytes < limit → length left ≤ limit
short_all limit left bytes e h =
    elim (cases_lt limit (length left)) [
      | inr l ↦ l
      | inl m ↦ (let k : length bytes ≡ min limit (length left) = ap length e ∙ length-take limit left in omega arith)
    ]

whole : (limit : ℕ) (left bytes : List ℕ) (after : Option (List ℕ)) → TakesBytes left after limit bytes → length left ≤ limit → (bytes ≡ left) × (after ≡ Some [])
whole limit left bytes after t h = (t.front ∙ take_all limit left h, t.left ∙ ap Some (drop_all limit left h))

pub reads_all : (limit : ℕ) (before after : Option (List ℕ)) (bytes : List ℕ) → TakesFront before after limit bytes → length bytes < limit → ReadsAll before after bytes
reads_all limit None after bytes t h = t
reads_all limit (Some left) after bytes t h = whole limit left bytes after t (short_all limit left bytes t.front h)

reads_limit : (limit : ℕ) (before after : Option (List ℕ)) (bytes : List ℕ) → TakesFront before after limit bytes → length bytes ≡ limit → ReadsLimit limit before after bytes
reads_limit limit None after bytes t h = (h, t)
reads_limit limit (Some left) after bytes t h = (h, (t.front, t.left))

-- what was read is all, or as much as the limit
pub reads : (limit : ℕ) (before after : Option (List ℕ)) (bytes : List ℕ) → TakesFront before after limit bytes → length bytes ≤ limit → ReadsAll before after bytes ⊎ ReadsLimit limit before after bytes
reads limit before after bytes t h =
    elim (cases_lt (length bytes) limit) [
      | inl l ↦ inl (reads_all limit before after bytes t l)
      | inr m ↦ (let e : length bytes ≡ limit = omega (arith, h, m) in inr (reads_limit limit before after bytes t e))
    ]

-- at the limit 0 nothing is read
pub reads_none : (before after : Option (List ℕ)) (bytes : List ℕ) → TakesFront before after 0 bytes → length bytes ≤ 0 → ReadsNone before after bytes
reads_none None after [] t h = (refl, t)
reads_none (Some left) after [] t h = (refl, t.left)
reads_none before after (b ∷ bytes) t h = absurd (omega (arith, h))

-- where the source tells its bytes, which are fewer than the limit, they were read
pub read_same : (limit : ℕ) (before after : Option (List ℕ)) (bytes left : List ℕ) → before ≡ Some left → length left < limit → ReadsAll before after bytes ⊎ ReadsLimit limit before after bytes → bytes ≡ left
read_same limit None after bytes left e short r = cc
read_same limit (Some xs) after bytes left e short (inl all) = all.0 ∙ some_same xs left e
  where
    some_same : (xs ys : List ℕ) → Some xs ≡ Some ys → xs ≡ ys
    some_same xs ys e = cc
read_same limit (Some xs) after bytes left e short (inr more) =
    let same : xs ≡ left = some_same xs left e in
    let few : length xs < limit = rw same short in
    let k : length bytes ≡ min limit (length xs) = ap length more.1.0 ∙ length-take limit xs in
    absurd (omega (arith, more.0, k, few))
  where
    some_same : (xs ys : List ℕ) → Some xs ≡ Some ys → xs ≡ ys
    some_same xs ys e = cc
