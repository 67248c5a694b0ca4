-- Digits one after the other, as loops go over them.
use Rattle.std.proofs.Common.{◌≡◌, cond, not, Option, Some, None, ℕ, ◌+◌, ◌-◌, ◌*◌, ◌<◌, ◌≤◌, Bool, true, false, ◌&&◌, List, ◌∷◌, length, get_or, drop, refl, sym, ap, ◌∙◌, arith, add-one, drop-cons}
use Rattle.std.proofs.lemmas.Bool.Decides.{nat_tests}
use Rattle.std.specs.{Char.is_ascii_digit, Str.all_ascii_digits}
use Rattle.shm_script.specs.Numbers.{value_after}

pub in_digits : (c : ℕ) → is_ascii_digit c ≡ true → (48 ≤ c) × (c ≤ 57)
in_digits c h = (grind (arith, nat_tests), grind (arith, nat_tests))

-- digits that lead well are a numeral
pub number_by : (a b : Bool) (x : Option ℕ) → cond (a && b) (Some x) None ≡ cond (not b) None (cond a (Some x) None)
number_by true true x = refl
number_by true false x = refl
number_by false true x = refl
number_by false false x = refl

module _ (word : List ℕ) (i : ℕ) (inside : i < length word) where
  front : drop i word ≡ get_or word i 0 ∷ drop (i + 1) word
  front = rw (add-one, drop-cons word i 0) refl

  pub digits_at : all_ascii_digits (drop i word) ≡ (is_ascii_digit (get_or word i 0) && all_ascii_digits (drop (i + 1) word))
  digits_at = ap all_ascii_digits front

  pub digits_fail : is_ascii_digit (get_or word i 0) ≡ false → all_ascii_digits (drop i word) ≡ false
  digits_fail h = digits_at ∙ ap (λ b. b && all_ascii_digits (drop (i + 1) word)) h

  pub digits_go : is_ascii_digit (get_or word i 0) ≡ true → all_ascii_digits (drop (i + 1) word) ≡ all_ascii_digits (drop i word)
  digits_go h = sym (digits_at ∙ ap (λ b. b && all_ascii_digits (drop (i + 1) word)) h)

  pub value_at : (n : ℕ) → value_after (n * 10 + (get_or word i 0 - 48)) (drop (i + 1) word) ≡ value_after n (drop i word)
  value_at n = sym (ap (value_after n) front)
