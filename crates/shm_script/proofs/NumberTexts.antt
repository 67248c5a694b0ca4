-- A word spells a number below 2^64 exactly where it is that number in decimal.
use Rattle.std.proofs.Common.{◌≡◌, ℕ, zero, suc, ◌^◌, ◌<◌, Bool, true, false, ◌&&◌, ◌||◌, not, cond, eqb, List, length, get_or, Some, None, refl, sym, ap, ◌∙◌, arith, rules}
use Rattle.std.proofs.lemmas.{Bool.Decides.nat_tests, Str.Parse.{IsNumeralModel, numerals_by_fold, not_in_digits}}
use Rattle.std.proofs.lemmas.Fmt.{decimal-digits_value, digits_decimal, digits_value-decimal, decimal_nonempty, first_decimal, decimal_digit}
use Rattle.std.specs.{Fmt.decimal, Str.all_ascii_digits}
use Rattle.shm_script.specs.Numbers.{is_numeral, number_of, small, value_after}
use Rattle.shm_script.proofs.Inverts.{test_is, small_is}

abbrev AreDigits : List ℕ → Type 0
AreDigits ds = all_ascii_digits ds ≡ true

own : IsNumeralModel AreDigits (value_after 0)
own = numerals_by_fold _ (search rules) value_after (search rules)

both_true : (a b : Bool) → (a && b) ≡ true → (a ≡ true) × (b ≡ true)
both_true true b h = (refl, h)
both_true false b h = absurd cc

lone : (n first : ℕ) → (eqb n 1 || (not (eqb n 0) && not (eqb first 48))) ≡ true → (0 < n) × (first ≡ 48 → n ≡ 1)
lone n first h = (grind (arith, nat_tests), λ zero. grind (arith, nat_tests))

lone_if : (n first : ℕ) → 0 < n → (first ≡ 48 → n ≡ 1) → (eqb n 1 || (not (eqb n 0) && not (eqb first 48))) ≡ true
lone_if n first some leading = grind (arith, nat_tests)

pub number_is : (w : List ℕ) (n : ℕ) → number_of w ≡ Some (Some n) → (w ≡ decimal n) × (n < 2 ^ 64)
unfolding number_of
number_is w n h =
    let t = test_is (is_numeral w) (small (value_after 0 w)) (Some n) h in
    let s = small_is (value_after 0 w) n t.1 in
    let d = both_true (all_ascii_digits w) _ t.0 in
    let l = lone (length w) (get_or w 0 0) d.1 in
    let below : value_after 0 w < 2 ^ 64 = omega arith in
    let is : decimal (value_after 0 w) ≡ w = decimal-digits_value own w d.0 l.0 l.1 below in
    (sym is ∙ ap decimal s.0, s.1)

small_if : (n : ℕ) → n < 2 ^ 64 → small n ≡ Some n
small_if n h = grind (arith, nat_tests)

leads : (n : ℕ) → n < 2 ^ 64 → get_or (decimal n) 0 0 ≡ 48 → length (decimal n) ≡ 1
leads zero h first = ap length (decimal_digit 0 (omega arith))
leads (suc n) h first = absurd (omega (arith, first_decimal (suc n) (omega arith) h))

pub number_again : (n : ℕ) → n < 2 ^ 64 → number_of (decimal n) ≡ Some (Some n)
unfolding number_of
number_again n h =
    let d : all_ascii_digits (decimal n) ≡ true = digits_decimal own n h in
    let l = lone_if (length (decimal n)) (get_or (decimal n) 0 0) (decimal_nonempty n h) (leads n h) in
    let numeral : is_numeral (decimal n) ≡ true = ap (λ b. b && (eqb (length (decimal n)) 1 || (not (eqb (length (decimal n)) 0) && not (eqb (get_or (decimal n) 0 0) 48)))) d ∙ l in
    let value : value_after 0 (decimal n) ≡ n = digits_value-decimal own n h in
    ap (λ b. cond b (Some (small (value_after 0 (decimal n)))) None) numeral ∙ ap (λ m. Some (small m)) value ∙ ap Some (small_if n h)

-- what is no digit doesn't stand in a number
pub decimal_lacks : (byte n : ℕ) → byte < 48 → n < 2 ^ 64 → (i : ℕ) → i < length (decimal n) → get_or (decimal n) i 0 ≡ byte → ⊥
decimal_lacks byte n low h = not_in_digits own (decimal n) byte (digits_decimal own n h) (λ range. omega (arith, range))

pub decimal_lacks_high : (byte n : ℕ) → 57 < byte → n < 2 ^ 64 → (i : ℕ) → i < length (decimal n) → get_or (decimal n) i 0 ≡ byte → ⊥
decimal_lacks_high byte n high h = not_in_digits own (decimal n) byte (digits_decimal own n h) (λ range. omega (arith, range))
