-- the least number that passes a test
use Rattle.std.proofs.Common.{◌≡◌, ℕ, zero, suc, ◌<◌, Bool, true, false, cond, refl, sym, ap, ◌∙◌, arith, inl, inr}
use Rattle.std.proofs.lemmas.Bool.{cases_Bool, cases_eq, cond-true, cond-false}
use Rattle.std.specs.{Prelude.{Option, Some, None}, Option.option_or}
use Rattle.shm_audit.specs.Faults.{least_below}

pub none_below : (n : ℕ) (t : ℕ → Bool) → ((a : ℕ) → a < n → t a ≡ false) → least_below n t ≡ None
none_below zero t h = refl
none_below (suc n) t h =
    ap (λ o. option_or o (cond (t n) (Some n) None)) (none_below n t (λ a l. h a (omega arith)))
    ∙ cond-false (t n) (Some n) None (h n (omega arith))

pub some_below : (n : ℕ) (t : ℕ → Bool) (a : ℕ) → a < n → t a ≡ true → ((b : ℕ) → b < a → t b ≡ false) → least_below n t ≡ Some a
some_below zero t a l is h = absurd (omega arith)
some_below (suc n) t a l is h =
    elim (cases_eq a n) [
      | inl e ↦
          ap (λ o. option_or o (cond (t n) (Some n) None)) (none_below n t (λ b m. h b (omega arith)))
          ∙ (cond-true (t n) (Some n) None (ap t (sym e) ∙ is) ∙ ap Some (sym e))
      | inr d ↦ (let m : a < n = omega (arith, d) in ap (λ o. option_or o (cond (t n) (Some n) None)) (some_below n t a m is h))
    ]

or_none : (x y : Option ℕ) → option_or x y ≡ None → (x ≡ None) × (y ≡ None)
or_none None y e = (refl, e)
or_none (Some a) y e = absurd cc

-- where there is none, none passes
pub none_passes : (n : ℕ) (t : ℕ → Bool) → least_below n t ≡ None → (a : ℕ) → a < n → t a ≡ false
none_passes zero t e a l = absurd (omega arith)
none_passes (suc n) t e a l =
    let p = or_none (least_below n t) (cond (t n) (Some n) None) e in
    elim (cases_eq a n) [
      | inl d ↦ ap t d ∙ elim (cases_Bool (t n)) [
        | inl y ↦ (let x : Some n ≡ None = sym (cond-true (t n) (Some n) None y) ∙ p.1 in absurd cc)
        | inr y ↦ y
      ]
      | inr d ↦ none_passes n t p.0 a (omega (arith, d))
    ]
