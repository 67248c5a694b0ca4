use Rattle.std.proofs.Common.{◌*◌, ◌+◌, ◌-◌, ◌∙◌, sym, refl, ap, cond, get_or, Some, None}
use Rattle.std.proofs.Math.ListN.{drop_of_length-le}
use Rattle.std.specs.Str.{all_ascii_digits}
use Rattle.shm_script.specs.Numbers.{small, value_after}
use Rattle.shm_script.proofs.Digits.{digits_fail, digits_go, in_digits, value_at}
use Rattle.shm_script.proofs.number.value.Goals as goal

pub loop-byte-init : goal.loop-byte-init
loop-byte-init c = (0, refl, refl, refl)

pub returns-then-not-is_ascii_digit : goal.returns-then-not-is_ascii_digit
returns-then-not-is_ascii_digit c =
    let none = sym c.loop-byte.invariant.3 ∙ digits_fail c.args.word.now c.loop-byte.byte-index c.loop-byte-test.true (sym c.if-not-is_ascii_digit.ensures.value) in
    sym (ap (λ b. cond b (Some (small (value_after 0 c.args.word.now))) None) none)

pub overflow_sub-byte : goal.overflow_sub-byte
overflow_sub-byte c =
    let here = in_digits (get_or c.args.word.now c.loop-byte.byte-index 0) (sym c.if-not-is_ascii_digit.ensures.value) in
    here.0

pub loop-byte-preserved : goal.loop-byte-preserved
loop-byte-preserved c =
    let i = c.loop-byte.byte-index in
    let word = c.args.word.now in
    let inside = c.loop-byte-test.true in
    let n = c.loop-byte.invariant.0 in
    (n * 10 + (get_or word i 0 - 48), c.push_digit-value.ensures n c.loop-byte.invariant.1, value_at word i inside n ∙ c.loop-byte.invariant.2, digits_go word i inside (sym c.if-not-is_ascii_digit.ensures.value) ∙ c.loop-byte.invariant.3)

pub returns : goal.returns
returns c =
    let none = drop_of_length-le c.args.word.now c.loop-byte-test.false in
    let digits = sym c.loop-byte.invariant.3 ∙ ap all_ascii_digits none in
    let value = c.loop-byte.invariant.1 ∙ ap small (sym (ap (value_after c.loop-byte.invariant.0) none) ∙ c.loop-byte.invariant.2) in
    ap Some value ∙ sym (ap (λ b. cond b (Some (small (value_after 0 c.args.word.now))) None) digits)
