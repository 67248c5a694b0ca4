-- The spelling of a line is told as that line again.
use Rattle.std.proofs.Common.{◌≡◌, ◌≢◌, ℕ, ◌^◌, ◌<◌, ◌≤◌, true, false, not, ◌&&◌, cond, ltb, eqb, List, [], ◌∷◌, ◌++◌, get_or, Option, Some, None, codes, refl, sym, ap, subst, ◌∙◌, arith, append_assoc, rules, ◌⊎◌, inl, inr}
use Rattle.std.proofs.lemmas.{Bool.Decides.nat_tests, List.append-nil}
use Rattle.std.proofs.lemmas.List.Elements.{All-nil, All-cons, All-append, All-from_get_or, All-from_recursion}
use Rattle.std.proofs.lemmas.List.Splits.{slice_split_at, slice_split_none}
use Rattle.std.specs.{Prelude.◌==◌, Fmt.decimal, List.{All, AllByRecursion, slice_split}}
use Rattle.shm_script.specs.{declared.{line.Line.Line, raw.RawCommand.RawCommand}, Text.{spaced, line_spelled}}
use Rattle.shm_script.specs.Ranges.{LineFits, LineSmall}
use Rattle.shm_script.specs.Shapes.{Command, given, one_of, two_of, three_of, command_of, shape_by, shape_from}
use Rattle.shm_script.specs.Faults.{between, below, other_than, command_fit}
use Rattle.shm_script.specs.declared.line.Line.TheVariants as lines
use Rattle.shm_script.specs.declared.raw.RawCommand.TheVariants as raw
use Rattle.shm_script.proofs.{LineTexts.blanks, NumberTexts.{number_again, decimal_lacks, decimal_lacks_high}}

-- the byte doesn't stand in the text
pub record Free (byte : ℕ) (text : List ℕ) : Type 0 where
  pub all : All (λ b. eqb b byte ≡ false) text

no_eq : (a b : ℕ) → (a ≡ b → ⊥) → eqb a b ≡ false
no_eq a b h = grind (arith, nat_tests)

pub free_nil : {byte : ℕ} → Free byte []
free_nil {byte} = record { all = All-nil (λ b. eqb b byte ≡ false) }

pub free_cons : {byte : ℕ} {text : List ℕ} (b : ℕ) → eqb b byte ≡ false → Free byte text → Free byte (b ∷ text)
free_cons {byte} {text} b h f = record { all = All-cons (λ x. eqb x byte ≡ false) b text h f.all }

pub free_both : {byte : ℕ} (xs ys : List ℕ) → Free byte xs → Free byte ys → Free byte (xs ++ ys)
free_both {byte} xs ys f g = record { all = All-append (λ b. eqb b byte ≡ false) xs ys f.all g.all }

pub free_decimal : (byte n : ℕ) → byte < 48 → n < 2 ^ 64 → Free byte (decimal n)
free_decimal byte n low h = record { all = All-from_get_or (λ b. eqb b byte ≡ false) (decimal n) 0 (λ i inside. no_eq (get_or (decimal n) i 0) byte (decimal_lacks byte n low h i inside)) }

pub free_colon : (n : ℕ) → n < 2 ^ 64 → Free 58 (decimal n)
free_colon n h = record { all = All-from_get_or (λ b. eqb b 58 ≡ false) (decimal n) 0 (λ i inside. no_eq (get_or (decimal n) i 0) 58 (decimal_lacks_high 58 n (omega arith) h i inside)) }

free_literal : (byte : ℕ) (text : List ℕ) → AllByRecursion (λ b. eqb b byte ≡ false) text → Free byte text
free_literal byte text h = record { all = All-from_recursion (λ b. eqb b byte ≡ false) text h }

-- words without blanks
abbrev pub AreWords : List (List ℕ) → Type 0
AreWords words = AllByRecursion (Free 32) words

pub split_words : (head : List ℕ) (words : List (List ℕ)) → Free 32 head → AreWords words → slice_split (λ b. b == 32) (head ++ blanks words) ≡ head ∷ words
split_words head [] f h = ap (slice_split (λ b. b == 32)) (append-nil head) ∙ slice_split_none (λ b. b == 32) head f.all
split_words head (word ∷ words) f h = slice_split_at (λ b. b == 32) head 32 (word ++ blanks words) f.all refl ∙ ap (λ ws. head ∷ ws) (split_words word words h.0 h.1)

-- ---- numbers in range
pub below_if : (bound n : ℕ) → n < bound → below bound (Some n) ≡ Some n
below_if bound n h = let t : ltb n bound ≡ true = grind (arith, nat_tests) in ap (λ b. cond b (Some n) None) t

pub between_if : (low high n : ℕ) → low ≤ n → n ≤ high → between low high (Some n) ≡ Some n
between_if low high n l h = let t : (not (ltb n low) && not (ltb high n)) ≡ true = grind (arith, nat_tests) in ap (λ b. cond b (Some n) None) t

other_if : (me clients n : ℕ) → n < clients → n ≢ me → other_than me (below clients (Some n)) ≡ Some n
other_if me clients n h apart = ap (other_than me) (below_if clients n h) ∙ ap (λ b. cond b None (Some n)) (no_eq n me apart)

-- ---- words of numbers
pub one_again : (n : ℕ) → n < 2 ^ 64 → one_of (decimal n ∷ []) ≡ Some (Some n)
unfolding one_of
one_again n h = number_again n h

pub two_again : (a b : ℕ) → a < 2 ^ 64 → b < 2 ^ 64 → two_of (decimal a ∷ decimal b ∷ []) ≡ Some (Some a, Some b)
unfolding two_of
two_again a b h k = rw (number_again a h, one_again b k) refl

three_again : (a b c : ℕ) → a < 2 ^ 64 → b < 2 ^ 64 → c < 2 ^ 64 → three_of (decimal a ∷ decimal b ∷ decimal c ∷ []) ≡ Some (Some a, Some b, Some c)
unfolding three_of
three_again a b c h k l = rw (number_again a h, two_again b c k l) refl

-- ---- commands
-- a command before its numbers are tried
abbrev pub raw_line : Line → RawCommand
raw_line (lines.Put k n) = raw.Put (Some k) (Some n)
raw_line (lines.Del k) = raw.Del (Some k)
raw_line (lines.Get a k) = raw.Get (Some a) (Some k)
raw_line (lines.Copy k a o) = raw.Copy (Some k) (Some a) (Some o)
raw_line (lines.Send c k) = raw.Send (Some c) (Some k)
raw_line (lines.Recv c k) = raw.Recv (Some c) (Some k)

pub line_again : (clients me : ℕ) (line : Line) → LineFits clients me line → command_fit clients me (raw_line line) ≡ Some line
unfolding command_fit
line_again clients me (lines.Put k n) h = rw (below_if (2 ^ 32) k h.0) refl
line_again clients me (lines.Del k) h = rw (below_if (2 ^ 32) k h) refl
line_again clients me (lines.Get a k) h = rw (below_if clients a h.0, below_if (2 ^ 32) k h.1) refl
line_again clients me (lines.Copy k a o) h = rw (below_if (2 ^ 32) k h.0, below_if clients a h.1, below_if (2 ^ 32) o h.2) refl
line_again clients me (lines.Send c k) h = rw (other_if me clients c h.0 h.1, below_if (2 ^ 32) k h.2) refl
line_again clients me (lines.Recv c k) h = rw (other_if me clients c h.0 h.1, below_if (2 ^ 32) k h.2) refl

-- its word, and its others
abbrev pub line_head : Line → List ℕ
line_head (lines.Put k n) = codes "put"
line_head (lines.Del k) = codes "del"
line_head (lines.Get a k) = codes "get"
line_head (lines.Copy k a o) = codes "copy"
line_head (lines.Send c k) = codes "send"
line_head (lines.Recv c k) = codes "recv"

abbrev pub line_words : Line → List (List ℕ)
line_words (lines.Put k n) = decimal k ∷ decimal n ∷ []
line_words (lines.Del k) = decimal k ∷ []
line_words (lines.Get a k) = decimal a ∷ decimal k ∷ []
line_words (lines.Copy k a o) = decimal k ∷ decimal a ∷ decimal o ∷ []
line_words (lines.Send c k) = decimal c ∷ decimal k ∷ []
line_words (lines.Recv c k) = decimal c ∷ decimal k ∷ []

pub line_small : (clients me : ℕ) (line : Line) → clients < 256 → LineFits clients me line → LineSmall line
line_small clients me (lines.Put k n) few h = (omega (arith, h.0), h.1)
line_small clients me (lines.Del k) few h = omega (arith, h)
line_small clients me (lines.Get a k) few h = (omega (arith, h.0), omega (arith, h.1))
line_small clients me (lines.Copy k a o) few h = (omega (arith, h.0), omega (arith, h.1), omega (arith, h.2))
line_small clients me (lines.Send c k) few h = (omega (arith, h.0), omega (arith, h.2))
line_small clients me (lines.Recv c k) few h = (omega (arith, h.0), omega (arith, h.2))

pub line_told : (line : Line) → LineSmall line → command_of (line_head line) (line_words line) ≡ Some (raw_line line)
unfolding command_of
line_told (lines.Put k n) h = ap (given (λ (n : Option ℕ × Option ℕ). raw.Put n.0 n.1)) (two_again k n h.0 h.1)
line_told (lines.Del k) h = ap (given raw.Del) (one_again k h)
line_told (lines.Get a k) h = ap (given (λ (n : Option ℕ × Option ℕ). raw.Get n.0 n.1)) (two_again a k h.0 h.1)
line_told (lines.Copy k a o) h = ap (given (λ (n : Option ℕ × Option ℕ × Option ℕ). raw.Copy n.0 n.1 n.2)) (three_again k a o h.0 h.1 h.2)
line_told (lines.Send c k) h = ap (given (λ (n : Option ℕ × Option ℕ). raw.Send n.0 n.1)) (two_again c k h.0 h.1)
line_told (lines.Recv c k) h = ap (given (λ (n : Option ℕ × Option ℕ). raw.Recv n.0 n.1)) (two_again c k h.0 h.1)

pub line_shaped : (line : Line) → LineSmall line → shape_from (line_head line ∷ line_words line) ≡ Some (Command (raw_line line))
unfolding shape_from shape_by
line_shaped (lines.Put k n) h = ap (given Command) (line_told (lines.Put k n) h)
line_shaped (lines.Del k) h = ap (given Command) (line_told (lines.Del k) h)
line_shaped (lines.Get a k) h = ap (given Command) (line_told (lines.Get a k) h)
line_shaped (lines.Copy k a o) h = ap (given Command) (line_told (lines.Copy k a o) h)
line_shaped (lines.Send c k) h = ap (given Command) (line_told (lines.Send c k) h)
line_shaped (lines.Recv c k) h = ap (given Command) (line_told (lines.Recv c k) h)

pub line_joined : (line : Line) → line_spelled line ≡ line_head line ++ blanks (line_words line)
line_joined (lines.Put k n) = ap (λ w. codes "put" ++ (spaced k ++ w)) (sym (append-nil (spaced n)))
line_joined (lines.Del k) = ap (λ w. codes "del" ++ w) (sym (append-nil (spaced k)))
line_joined (lines.Get a k) = ap (λ w. codes "get" ++ (spaced a ++ w)) (sym (append-nil (spaced k)))
line_joined (lines.Copy k a o) = append_assoc (codes "copy" ++ spaced k) (spaced a) (spaced o) ∙ ap (λ w. codes "copy" ++ (spaced k ++ (spaced a ++ w))) (sym (append-nil (spaced o)))
line_joined (lines.Send c k) = ap (λ w. codes "send" ++ (spaced c ++ w)) (sym (append-nil (spaced k)))
line_joined (lines.Recv c k) = ap (λ w. codes "recv" ++ (spaced c ++ w)) (sym (append-nil (spaced k)))

pub low : (byte : ℕ) → (byte ≡ 10) ⊎ (byte ≡ 32) → byte < 48
low byte (inl e) = omega arith
low byte (inr e) = omega arith

pub literal : (byte : ℕ) (text : List ℕ) → (byte ≡ 10) ⊎ (byte ≡ 32) → AllByRecursion (λ b. eqb b 10 ≡ false) text → AllByRecursion (λ b. eqb b 32 ≡ false) text → Free byte text
literal byte text (inl e) h k = subst (λ b. Free b text) (sym e) (free_literal 10 text h)
literal byte text (inr e) h k = subst (λ b. Free b text) (sym e) (free_literal 32 text k)

head_free : (byte : ℕ) (line : Line) → (byte ≡ 10) ⊎ (byte ≡ 32) → Free byte (line_head line)
head_free byte (lines.Put k n) b = literal byte (codes "put") b (search rules) (search rules)
head_free byte (lines.Del k) b = literal byte (codes "del") b (search rules) (search rules)
head_free byte (lines.Get a k) b = literal byte (codes "get") b (search rules) (search rules)
head_free byte (lines.Copy k a o) b = literal byte (codes "copy") b (search rules) (search rules)
head_free byte (lines.Send c k) b = literal byte (codes "send") b (search rules) (search rules)
head_free byte (lines.Recv c k) b = literal byte (codes "recv") b (search rules) (search rules)

words_free : (byte : ℕ) (line : Line) → (byte ≡ 10) ⊎ (byte ≡ 32) → LineSmall line → AllByRecursion (Free byte) (line_words line)
words_free byte (lines.Put k n) b h = (free_decimal byte k (low byte b) h.0, (free_decimal byte n (low byte b) h.1, tt))
words_free byte (lines.Del k) b h = (free_decimal byte k (low byte b) h, tt)
words_free byte (lines.Get a k) b h = (free_decimal byte a (low byte b) h.0, (free_decimal byte k (low byte b) h.1, tt))
words_free byte (lines.Copy k a o) b h = (free_decimal byte k (low byte b) h.0, (free_decimal byte a (low byte b) h.1, (free_decimal byte o (low byte b) h.2, tt)))
words_free byte (lines.Send c k) b h = (free_decimal byte c (low byte b) h.0, (free_decimal byte k (low byte b) h.1, tt))
words_free byte (lines.Recv c k) b h = (free_decimal byte c (low byte b) h.0, (free_decimal byte k (low byte b) h.1, tt))

pub line_free : (byte : ℕ) (line : Line) → (byte ≡ 10) ⊎ (byte ≡ 32) → LineSmall line → Free byte (line_head line) × AllByRecursion (Free byte) (line_words line)
line_free byte line b h = (head_free byte line b, words_free byte line b h)
