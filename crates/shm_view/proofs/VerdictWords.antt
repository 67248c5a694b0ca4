-- the line of a verdict is a text
use Rattle.std.proofs.Common.{◌≡◌, ℕ, zero, suc, ◌+◌, ◌/◌, ◌%◌, ◌<◌, ◌==◌, ◌&&◌, Bool, true, false, cond, List, [], ◌∷◌, ◌++◌, take, codes, decimal, refl, arith}
use Rattle.std.proofs.lemmas.Bool.{and_parts, ltb-true}
use Rattle.std.proofs.lemmas.Str.{IsAscii-append, IsAscii-take, IsUtf8-from_ascii}
use Rattle.std.proofs.lemmas.Str.Ascii.{IsAscii-nil, IsAscii-cons}
use Rattle.std.specs.{Fmt.{digits, digits_onto, digit_glyph}, Prelude.nat_lt, Str.{IsAscii, IsUtf8}}
use Rattle.shm_audit.specs.declared.verdict.Verdict.{Verdict, TheVariants.{Clean, WrongCount, Uncounted, Pending}}
use Rattle.shm_audit.specs.Texts.{line_end, verdict_line}

-- a text of ASCII
record Plain (bs : List ℕ) : Type 0 where
  each : IsAscii bs

joined : {xs ys : List ℕ} → Plain xs → Plain ys → Plain (xs ++ ys)
joined {xs} {ys} p q = record { each = IsAscii-append xs ys p.each q.each }

-- ---- numbers

either : (b : Bool) (xs ys : List ℕ) → Plain xs → Plain ys → Plain (cond b xs ys)
either true xs ys p q = p
either false xs ys p q = q

glyph : (b : Bool) (d : ℕ) → d < 10 → cond b (48 + d) (87 + d) < 128
glyph true d l = omega arith
glyph false d l = omega arith

digits_plain : (k n : ℕ) (acc : List ℕ) → Plain acc → Plain (digits_onto k 10 false n acc)
digits_plain zero n acc p = p
digits_plain (suc k) n acc p =
    let d = digit_glyph false (n % 10) in
    let more : Plain (d ∷ acc) = record { each = IsAscii-cons d acc (glyph (nat_lt (n % 10) 10) (n % 10) (omega arith)) p.each } in
    either (n / 10 == 0) (d ∷ acc) (digits_onto k 10 false (n / 10) (d ∷ acc)) more (digits_plain k (n / 10) (d ∷ acc) more)

number_plain : (n : ℕ) → Plain (decimal n)
unfolding digits
number_plain n = digits_plain 64 n [] (record { each = IsAscii-nil })

-- ---- words

are_plain : List ℕ → Bool
are_plain [] = true
are_plain (b ∷ bs) = nat_lt b 128 && are_plain bs

plain_by : (bs : List ℕ) → are_plain bs ≡ true → Plain bs
unfolding are_plain
plain_by [] h = record { each = IsAscii-nil }
plain_by (b ∷ bs) h = let p = and_parts (nat_lt b 128) (are_plain bs) h in record { each = IsAscii-cons b bs (ltb-true b 128 p.0) (plain_by bs p.1).each }

-- ---- verdicts

line_plain : (v : Verdict) → Plain (verdict_line v)
unfolding are_plain
line_plain (Clean live refs) =
    joined (joined (joined (joined (plain_by (codes "clean live ") refl) (number_plain live)) (plain_by (codes " refs ") refl)) (number_plain refs)) (plain_by line_end refl)
line_plain (WrongCount block stored found) =
    let front = joined (joined (joined (plain_by (codes "wrong ") refl) (number_plain block)) (plain_by (codes " stored ") refl)) (number_plain stored) in
    joined (joined (joined front (plain_by (codes " found ") refl)) (number_plain found)) (plain_by line_end refl)
line_plain (Uncounted block) = joined (joined (plain_by (codes "uncounted ") refl) (number_plain block)) (plain_by line_end refl)
line_plain (Pending client) = joined (joined (plain_by (codes "pending ") refl) (number_plain client)) (plain_by line_end refl)

-- and so is each front of it
pub IsUtf8-verdict_front : (v : Verdict) (n : ℕ) → IsUtf8 (take n (verdict_line v))
IsUtf8-verdict_front v n = IsUtf8-from_ascii (take n (verdict_line v)) (IsAscii-take (verdict_line v) n (line_plain v).each)
