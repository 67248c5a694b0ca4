-- The spelling of a script is read as that script again.
use Rattle.std.proofs.Common.{◌≡◌, ℕ, ◌+◌, ◌^◌, ◌<◌, ◌≤◌, true, cond, List, [], ◌∷◌, ◌++◌, length, Option, Some, None, Ok, Err, IfSome, codes, refl, sym, ap, subst, ◌∙◌, arith, append_assoc, rules, ◌⊎◌, inl, inr}
use Rattle.std.proofs.lemmas.List.{append-nil, Concat.flat_map-cons, Splits.slice_split_at}
use Rattle.std.specs.{Prelude.◌==◌, Fmt.decimal, List.{AllByRecursion, flat_map, slice_split}}
use Rattle.shm_script.specs.{declared.fault.TraceKind.TheVariants.Syntax, Shapes.{given, three_of}}
use Rattle.shm_script.specs.Text.{ended, spaced}
use Rattle.shm_script.proofs.Again.{Free, below_if, between_if, free_both, free_cons, free_decimal, free_nil, literal, low, one_again, split_words, two_again}
use Rattle.shm_script.proofs.{LineTexts.blanks, NumberTexts.number_again}
use Rattle.shm_tree.specs.declared.{line.TreeLine.TreeLine, shape.RawTree.RawTree, judge.TreePlace.TreePlace}
use Rattle.shm_tree.specs.{declared.judge.FitTree.FitTree, Shapes.{heading_of, set_of, shape_by, shape_from, shape_of}}
use Rattle.shm_tree.specs.Scripts.{Drafted, TreeScripted, draft_after, draft_none, drafted, drafted_line, fit_of, judged, may_stand, ranged, read_or, reading, script_of}
use Rattle.shm_tree.specs.ScriptTexts.{IsScript, LineFits, life_spelled, line_ended, text_of}
use Rattle.shm_tree.specs.declared.line.TreeLine.TheVariants as lines
use Rattle.shm_tree.specs.declared.shape.RawTree.TheVariants as raw
use Rattle.shm_tree.specs.declared.judge.TreePlace.TheVariants as place
use Rattle.shm_tree.specs.declared.judge.FitTree.TheVariants as fit
use Rattle.shm_tree.proofs.{LineTexts.{FitIn, fit_text, stands}, ReadLoop.{reading_end, reading_more, short_script}}

-- ---- one line

-- a line before its numbers are tried, its word, and its others
abbrev line_raw : TreeLine → RawTree
line_raw (lines.Set a b k n) = raw.Set (Some a) (Some b) (Some k) (Some n)
line_raw (lines.Del a b k) = raw.Del (Some a) (Some b) (Some k)
line_raw (lines.Get a k) = raw.Get (Some a) (Some k)
line_raw (lines.Copy a b) = raw.Copy (Some a) (Some b)
line_raw (lines.Clear a) = raw.Clear (Some a)

abbrev fit_raw : FitTree → RawTree
fit_raw (fit.Tree n) = raw.Tree (Some n)
fit_raw (fit.Life n) = raw.Life (Some n)
fit_raw (fit.Line l) = line_raw l

abbrev line_head : TreeLine → List ℕ
line_head (lines.Set a b k n) = codes "set"
line_head (lines.Del a b k) = codes "del"
line_head (lines.Get a k) = codes "get"
line_head (lines.Copy a b) = codes "copy"
line_head (lines.Clear a) = codes "clear"

abbrev fit_head : FitTree → List ℕ
fit_head (fit.Tree n) = codes "tree"
fit_head (fit.Life n) = codes "life"
fit_head (fit.Line l) = line_head l

abbrev line_words : TreeLine → List (List ℕ)
line_words (lines.Set a b k n) = decimal a ∷ decimal b ∷ decimal k ∷ decimal n ∷ []
line_words (lines.Del a b k) = decimal a ∷ decimal b ∷ decimal k ∷ []
line_words (lines.Get a k) = decimal a ∷ decimal k ∷ []
line_words (lines.Copy a b) = decimal a ∷ decimal b ∷ []
line_words (lines.Clear a) = decimal a ∷ []

abbrev fit_words : FitTree → List (List ℕ)
fit_words (fit.Tree n) = decimal n ∷ []
fit_words (fit.Life n) = decimal n ∷ []
fit_words (fit.Line l) = line_words l

fit_joined : (f : FitTree) → fit_text f ≡ fit_head f ++ blanks (fit_words f)
fit_joined (fit.Tree n) = ap (λ w. codes "tree" ++ w) (sym (append-nil (spaced n)))
fit_joined (fit.Life n) = ap (λ w. codes "life" ++ w) (sym (append-nil (spaced n)))
fit_joined (fit.Line (lines.Set a b k n)) = ap (λ w. codes "set" ++ (spaced a ++ (spaced b ++ (spaced k ++ w)))) (sym (append-nil (spaced n)))
fit_joined (fit.Line (lines.Del a b k)) = ap (λ w. codes "del" ++ (spaced a ++ (spaced b ++ w))) (sym (append-nil (spaced k)))
fit_joined (fit.Line (lines.Get a k)) = ap (λ w. codes "get" ++ (spaced a ++ w)) (sym (append-nil (spaced k)))
fit_joined (fit.Line (lines.Copy a b)) = ap (λ w. codes "copy" ++ (spaced a ++ w)) (sym (append-nil (spaced b)))
fit_joined (fit.Line (lines.Clear a)) = ap (λ w. codes "clear" ++ w) (sym (append-nil (spaced a)))

-- no blank and no line feed stands in a word
abbrev IsGap : ℕ → Type 0
IsGap byte = (byte ≡ 10) ⊎ (byte ≡ 32)

head_free : (byte : ℕ) (f : FitTree) → IsGap byte → Free byte (fit_head f)
head_free byte (fit.Tree n) b = literal byte (codes "tree") b (search rules) (search rules)
head_free byte (fit.Life n) b = literal byte (codes "life") b (search rules) (search rules)
head_free byte (fit.Line (lines.Set a c k n)) b = literal byte (codes "set") b (search rules) (search rules)
head_free byte (fit.Line (lines.Del a c k)) b = literal byte (codes "del") b (search rules) (search rules)
head_free byte (fit.Line (lines.Get a k)) b = literal byte (codes "get") b (search rules) (search rules)
head_free byte (fit.Line (lines.Copy a c)) b = literal byte (codes "copy") b (search rules) (search rules)
head_free byte (fit.Line (lines.Clear a)) b = literal byte (codes "clear") b (search rules) (search rules)

small_free : (byte n : ℕ) → IsGap byte → n < 2 ^ 64 → Free byte (decimal n)
small_free byte n b h = free_decimal byte n (low byte b) h

words_free : (byte : ℕ) (f : FitTree) → IsGap byte → FitIn f → AllByRecursion (Free byte) (fit_words f)
words_free byte (fit.Tree n) b h = (small_free byte n b (omega (arith, h.1)), tt)
words_free byte (fit.Life n) b h = (small_free byte n b (omega (arith, h.1)), tt)
words_free byte (fit.Line (lines.Set a c k n)) b h = (small_free byte a b (omega (arith, h.0)), (small_free byte c b (omega (arith, h.1)), (small_free byte k b (omega (arith, h.2)), (small_free byte n b h.3, tt))))
words_free byte (fit.Line (lines.Del a c k)) b h = (small_free byte a b (omega (arith, h.0)), (small_free byte c b (omega (arith, h.1)), (small_free byte k b (omega (arith, h.2)), tt)))
words_free byte (fit.Line (lines.Get a k)) b h = (small_free byte a b (omega (arith, h.0)), (small_free byte k b (omega (arith, h.1)), tt))
words_free byte (fit.Line (lines.Copy a c)) b h = (small_free byte a b (omega (arith, h.0)), (small_free byte c b (omega (arith, h.1)), tt))
words_free byte (fit.Line (lines.Clear a)) b h = (small_free byte a b (omega (arith, h)), tt)

blank_free : (words : List (List ℕ)) → AllByRecursion (Free 10) words → Free 10 (blanks words)
blank_free [] h = free_nil
blank_free (word ∷ words) h = free_both (32 ∷ word) (blanks words) (free_cons 32 refl h.0) (blank_free words h.1)

-- no line feed stands in a line
line_one : (f : FitTree) → FitIn f → Free 10 (fit_text f)
line_one f h = subst (Free 10) (sym (fit_joined f)) (free_both (fit_head f) (blanks (fit_words f)) (head_free 10 f (inl refl)) (blank_free (fit_words f) (words_free 10 f (inl refl) h)))

three_again : (a b c : ℕ) → a < 2 ^ 64 → b < 2 ^ 64 → c < 2 ^ 64 → three_of (decimal a ∷ decimal b ∷ decimal c ∷ []) ≡ Some (Some a, Some b, Some c)
unfolding three_of
three_again a b c h k l = rw (number_again a h, two_again b c k l) refl

four_again : (a b k n : ℕ) → a < 2 ^ 64 → b < 2 ^ 64 → k < 2 ^ 64 → n < 2 ^ 64 → set_of (decimal a ∷ decimal b ∷ decimal k ∷ decimal n ∷ []) ≡ Some (raw.Set (Some a) (Some b) (Some k) (Some n))
unfolding set_of
four_again a b k n h i j l = rw (number_again a h, three_again b k n i j l) refl

fit_shaped : (f : FitTree) → FitIn f → shape_from (fit_head f ∷ fit_words f) ≡ Some (fit_raw f)
unfolding shape_from shape_by heading_of
fit_shaped (fit.Tree n) h = ap (given raw.Tree) (one_again n (omega (arith, h.1)))
fit_shaped (fit.Life n) h = ap (given raw.Life) (one_again n (omega (arith, h.1)))
fit_shaped (fit.Line (lines.Set a b k n)) h = four_again a b k n (omega (arith, h.0)) (omega (arith, h.1)) (omega (arith, h.2)) h.3
fit_shaped (fit.Line (lines.Del a b k)) h = ap (given (λ (n : Option ℕ × Option ℕ × Option ℕ). raw.Del n.0 n.1 n.2)) (three_again a b k (omega (arith, h.0)) (omega (arith, h.1)) (omega (arith, h.2)))
fit_shaped (fit.Line (lines.Get a k)) h = ap (given (λ (n : Option ℕ × Option ℕ). raw.Get n.0 n.1)) (two_again a k (omega (arith, h.0)) (omega (arith, h.1)))
fit_shaped (fit.Line (lines.Copy a b)) h = ap (given (λ (n : Option ℕ × Option ℕ). raw.Copy n.0 n.1)) (two_again a b (omega (arith, h.0)) (omega (arith, h.1)))
fit_shaped (fit.Line (lines.Clear a)) h = ap (given raw.Clear) (one_again a (omega (arith, h)))

fit_told : (f : FitTree) → FitIn f → shape_of (fit_text f) ≡ Some (fit_raw f)
fit_told f h =
    ap shape_of (fit_joined f) ∙ ap shape_from (split_words (fit_head f) (fit_words f) (head_free 32 f (inr refl)) (words_free 32 f (inr refl) h)) ∙ fit_shaped f h

fit_again : (f : FitTree) → FitIn f → fit_of (fit_raw f) ≡ Some f
fit_again (fit.Tree n) h = rw (between_if 1 256 n h.0 h.1) refl
fit_again (fit.Life n) h = rw (between_if 1 (2 ^ 40) n h.0 h.1) refl
fit_again (fit.Line (lines.Set a b k n)) h = rw (below_if 12 a h.0, below_if 12 b h.1, below_if (2 ^ 32) k h.2) refl
fit_again (fit.Line (lines.Del a b k)) h = rw (below_if 12 a h.0, below_if 12 b h.1, below_if (2 ^ 32) k h.2) refl
fit_again (fit.Line (lines.Get a k)) h = rw (below_if 12 a h.0, below_if (2 ^ 32) k h.1) refl
fit_again (fit.Line (lines.Copy a b)) h = rw (below_if 12 a h.0, below_if 12 b h.1) refl
fit_again (fit.Line (lines.Clear a)) h = rw (below_if 12 a h) refl

stands_raw : (p : TreePlace) (f : FitTree) → may_stand p (fit_raw f) ≡ stands p f
stands_raw p (fit.Tree n) = refl
stands_raw p (fit.Life n) = refl
stands_raw p (fit.Line (lines.Set a b k n)) = refl
stands_raw p (fit.Line (lines.Del a b k)) = refl
stands_raw p (fit.Line (lines.Get a k)) = refl
stands_raw p (fit.Line (lines.Copy a b)) = refl
stands_raw p (fit.Line (lines.Clear a)) = refl

judged_again : (p : TreePlace) (f : FitTree) → FitIn f → stands p f ≡ true → judged p (shape_of (fit_text f)) ≡ Ok f
judged_again p f h s =
    ap (judged p) (fit_told f h) ∙ ap (λ b. cond b (ranged (fit_of (fit_raw f))) (Err Syntax)) (stands_raw p f ∙ s) ∙ ap ranged (fit_again f h)

-- ---- lines

abbrev cut : List ℕ → List (List ℕ)
cut bytes = slice_split (λ b. b == 10) bytes

-- behind the text, what was read is e
abbrev Reaches : Drafted → List ℕ → Drafted → Type 0
Reaches d text e = (at : ℕ) (rest : List ℕ) → (to : ℕ) × (reading d at (cut (text ++ rest)) ≡ reading e to (cut rest))

stays : (d : Drafted) → Reaches d [] d
stays d at rest = (at, refl)

then_more : (d e f : Drafted) (a b : List ℕ) → Reaches d a e → Reaches e b f → Reaches d (a ++ b) f
then_more d e f a b h k at rest =
    let one = h at (b ++ rest) in
    let two = k one.0 rest in
    (two.0, ap (λ t. reading d at (cut t)) (append_assoc a b rest) ∙ one.1 ∙ two.1)

line_reaches : (d : Drafted) (f : FitTree) → FitIn f → stands d.place f ≡ true → Reaches d (ended (fit_text f)) (draft_after d f)
line_reaches d f h s at rest =
    let line = fit_text f in
    let free = line_one f h in
    let is : drafted_line d line ≡ Ok (draft_after d f) = ap (drafted d) (judged_again d.place f h s) in (
      at + 1,
      ap (λ t. reading d at (cut t)) (append_assoc line (10 ∷ []) rest)
          ∙ ap (reading d at) (slice_split_at (λ b. b == 10) line 10 rest free.all refl)
          ∙ reading_more d at line (λ b. b == 10) rest
          ∙ ap (λ r. read_or at r (λ e. reading e (at + 1) (cut rest))) is,
    )

-- a draft by its parts
abbrev draft : TreePlace → ℕ → Option ℕ → List TreeLine → Drafted
draft p n life ls = record { place = p; script = record { segments = n; life = life; lines = ls } }

-- a line was read
abbrev GoesOn : TreePlace → Type 0
GoesOn place.Start = ⊥
GoesOn p = Unit {0}

line_stands : (p : TreePlace) (l : TreeLine) → GoesOn p → stands p (fit.Line l) ≡ true
line_stands place.Start l h = absurd h
line_stands place.Tree l h = refl
line_stands place.Body l h = refl

-- the place behind lines
abbrev behind : TreePlace → List TreeLine → TreePlace
behind p [] = p
behind p (l ∷ ls) = place.Body

behind_body : (ls : List TreeLine) → behind place.Body ls ≡ place.Body
behind_body [] = refl
behind_body (l ∷ ls) = refl

lines_reach : (p : TreePlace) (n : ℕ) (life : Option ℕ) (before ls : List TreeLine) → GoesOn p → AllByRecursion LineFits ls → Reaches (draft p n life before) (flat_map line_ended ls) (draft (behind p ls) n life (before ++ ls))
lines_reach p n life before [] on h = subst (λ xs. Reaches (draft p n life before) [] (draft p n life xs)) (sym (append-nil before)) (stays (draft p n life before))
lines_reach p n life before (l ∷ ls) on h =
    let one = line_reaches (draft p n life before) (fit.Line l) h.0 (line_stands p l on) in
    let more = lines_reach place.Body n life (before ++ l ∷ []) ls tt h.1 in
    let same : draft (behind place.Body ls) n life ((before ++ l ∷ []) ++ ls) ≡ draft place.Body n life (before ++ (l ∷ ls)) =
    ap (λ q. draft q n life ((before ++ l ∷ []) ++ ls)) (behind_body ls) ∙ ap (draft place.Body n life) (append_assoc before (l ∷ []) ls) in
    let both = then_more (draft p n life before) (draft place.Body n life (before ++ l ∷ [])) (draft place.Body n life (before ++ (l ∷ ls))) (line_ended l) (flat_map line_ended ls) one (subst (Reaches (draft place.Body n life (before ++ l ∷ [])) (flat_map line_ended ls)) same more) in
    subst (λ t. Reaches (draft p n life before) t (draft place.Body n life (before ++ (l ∷ ls)))) (sym (flat_map-cons line_ended l ls)) both

-- the place behind a life
abbrev after_life : Option ℕ → TreePlace
after_life None = place.Tree
after_life (Some n) = place.Body

life_on : (life : Option ℕ) → GoesOn (after_life life)
life_on None = tt
life_on (Some n) = tt

life_reaches : (n : ℕ) (life : Option ℕ) → IfSome life (λ m. (1 ≤ m) × (m ≤ 2 ^ 40)) → Reaches (draft place.Tree n None []) (life_spelled life) (draft (after_life life) n life [])
life_reaches n None h = stays (draft place.Tree n None [])
life_reaches n (Some m) h = line_reaches (draft place.Tree n None []) (fit.Life m) h refl

lines_on : (p : TreePlace) (ls : List TreeLine) → GoesOn p → GoesOn (behind p ls)
lines_on p [] h = h
lines_on p (l ∷ ls) h = tt

end_reads : (p : TreePlace) (n : ℕ) (life : Option ℕ) (ls : List TreeLine) (at : ℕ) → GoesOn p → reading (draft p n life ls) at ([] ∷ []) ≡ Ok (record { segments = n; life = life; lines = ls })
end_reads place.Start n life ls at h = absurd h
end_reads place.Tree n life ls at h = reading_end (draft place.Tree n life ls) at []
end_reads place.Body n life ls at h = reading_end (draft place.Body n life ls) at []

reading_again : (s : TreeScripted) → IsScript s → reading draft_none 1 (cut (text_of s)) ≡ Ok s
reading_again s h =
    let first = line_reaches draft_none (fit.Tree s.segments) (h.some, h.few) refl in
    let life = life_reaches s.segments s.life h.life in
    let body = lines_reach (after_life s.life) s.segments s.life [] s.lines (life_on s.life) h.lines in
    let more = then_more (draft place.Tree s.segments None []) (draft (after_life s.life) s.segments s.life []) (draft (behind (after_life s.life) s.lines) s.segments s.life s.lines) (life_spelled s.life) (flat_map line_ended s.lines) life body in
    let whole = then_more draft_none (draft place.Tree s.segments None []) (draft (behind (after_life s.life) s.lines) s.segments s.life s.lines) (ended (codes "tree" ++ spaced s.segments)) (life_spelled s.life ++ flat_map line_ended s.lines) first more in
    let r = whole 1 [] in
    ap (λ x. reading draft_none 1 (cut x)) (sym (append-nil (text_of s))) ∙ r.1 ∙ end_reads (behind (after_life s.life) s.lines) s.segments s.life s.lines r.0 (lines_on (after_life s.life) s.lines (life_on s.life))

-- the spelling of a script is read as that script
pub script_again : (s : TreeScripted) → IsScript s → length (text_of s) ≤ 1048576 → script_of (text_of s) ≡ Ok s
script_again s h short = short_script (text_of s) short ∙ reading_again s h
