-- what a parse of a plain numeral gives
use Rattle.std.proofs.Common.{◌≡◌, ◌≢◌, ◌<◌, ◌^◌, ℕ, Bool, true, false, cond, get_or, List, [], ◌∷◌, length, Some, None, Result, Ok, Err, refl, sym, ap, ◌∙◌, rules, arith, lt-ltb, inl, inr, le-ltb}
use Rattle.std.proofs.lemmas.Bool.{cases_lt}
use Rattle.std.proofs.lemmas.Str.Parse.{IsNumeralModel, numerals_by_fold, parse_plain, tells_all_ascii_digits}
use Rattle.std.specs.{Result.{OkIff, result_ok}, Str.{all_ascii_digits, Parse.ParsesUnsigned}}
use Rattle.shm_script.specs.Numbers.{leads_well, small, value_after}
use Rattle.shm_program.specs.Words.{number_in}

own : IsNumeralModel (λ ds. all_ascii_digits ds ≡ true) (value_after 0)
own = numerals_by_fold _ tells_all_ascii_digits value_after (search rules)

some_length : (word : List ℕ) → leads_well word ≡ true → 0 < length word
some_length [] e = cc
some_length (x ∷ xs) e = omega arith

small_in : (n : ℕ) → n < 2 ^ 64 → small n ≡ Some n
small_in n h = ap (λ b. cond b (Some n) None) (lt-ltb n (2 ^ 64) h)

no_number : (word : List ℕ) (digits : Bool) → all_ascii_digits word ≡ digits → leads_well word ≡ true
    → ((all_ascii_digits word ≡ true) × (0 < length word) × (value_after 0 word < 2 ^ 64) → ⊥) → None ≡ number_in word
no_number word false d leads none = rw (d) refl
no_number word true d leads none =
    elim (cases_lt (value_after 0 word) (2 ^ 64)) [
      | inl few ↦ absurd (none (d, some_length word leads, few))
      | inr many ↦ rw (d, leads) (sym (ap (λ b. cond b (Some (value_after 0 word)) None) (le-ltb (value_after 0 word) (2 ^ 64) many)))
    ]

given : {E : Type 0} (word : List ℕ) (r : Result ℕ E) → leads_well word ≡ true
    → OkIff r ((all_ascii_digits word ≡ true) × (0 < length word) × (value_after 0 word < 2 ^ 64)) (value_after 0 word) → result_ok r ≡ number_in word
given word (Ok x) leads is = ap Some is.1 ∙ (sym (small_in (value_after 0 word) is.0.2) ∙ rw (is.0.0, leads) refl)
given word (Err e) leads is = no_number word (all_ascii_digits word) refl leads is

-- a word that leads well and has no sign is parsed as it is read
pub plain_number : {E : Type 0} (word : List ℕ) (r : Result ℕ E) → ParsesUnsigned 64 10 word r → leads_well word ≡ true → get_or word 0 0 ≢ 43 → result_ok r ≡ number_in word
plain_number word r parsed leads unsigned = given word r leads (parse_plain own 64 word r parsed unsigned)
