-- Drawing one after the other, as loops do, and that what is drawn fits.
use Rattle.std.proofs.Common.{◌≡◌, ◌≢◌, ℕ, zero, suc, ◌+◌, ◌-◌, ◌%◌, ◌^◌, ◌<◌, ◌≤◌, Bool, true, false, cond, ltb, eqb, List, [], ◌∷◌, ◌++◌, length, sum, refl, sym, ap, ◌∙◌, append_assoc, arith}
use Rattle.std.proofs.lemmas.List.{append-nil}
use Rattle.std.specs.List.{AllByRecursion}
use Rattle.shm_script.specs.{declared.line.Line.Line, Values.Scripted}
use Rattle.shm_script.specs.Ranges.{LineFits, IsLife, ScriptFits, AreApart, IsTrace}
use Rattle.shm_script.specs.Drawing.{next, first, other_client, drawn_as, drawn_line, drawn_lines, drawn_life, drawn_script, drawn_scripts, drawn_trace}

-- commands drawn before, and those that are still drawn
abbrev pub with_front : List Line → List Line × ℕ → List Line × ℕ
with_front front drawn = (front ++ drawn.0, drawn.1)

pub line_goes_on : (front : List Line) (c n i x y : ℕ) (line : Line) (all : List Line × ℕ) → i < n → (line, y) ≡ drawn_line c x
    → with_front front (drawn_lines c (n - i) x) ≡ all → with_front (front ++ line ∷ []) (drawn_lines c (n - (i + 1)) y) ≡ all
unfolding drawn_lines
line_goes_on front c n i x y line all lt one so_far =
    let k : n - i ≡ suc (n - (i + 1)) = omega arith in
    let parts : (line ≡ (drawn_line c x).0) × (y ≡ (drawn_line c x).1) = (ap (λ (p : Line × ℕ). p.0) one, ap (λ (p : Line × ℕ). p.1) one) in
    let step : with_front front (drawn_lines c (n - i) x) ≡ with_front (front ++ line ∷ []) (drawn_lines c (n - (i + 1)) y) =
    rw (k, parts.0, parts.1) (ap (λ (ls : List Line). (ls, (drawn_lines c (n - (i + 1)) (drawn_line c x).1).1)) (sym (append_assoc front ((drawn_line c x).0 ∷ []) (drawn_lines c (n - (i + 1)) (drawn_line c x).1).0))) in
    sym step ∙ so_far

pub lines_done : (front : List Line) (c n i x : ℕ) (all : List Line × ℕ) → n ≤ i → with_front front (drawn_lines c (n - i) x) ≡ all → (front, x) ≡ all
unfolding drawn_lines
lines_done front c n i x all le so_far =
    let k : n - i ≡ 0 = omega arith in
    let one : with_front front (drawn_lines c (n - i) x) ≡ (front, x) = rw k (ap (λ (ls : List Line). (ls, x)) (append-nil front)) in
    sym one ∙ so_far

pub script_goes_on : (front : List Scripted) (n c x y : ℕ) (s : Scripted) (all : List Scripted) → c < 4 → (s, y) ≡ drawn_script n c x
    → front ++ drawn_scripts n c (4 - c) x ≡ all → (front ++ s ∷ []) ++ drawn_scripts n (c + 1) (4 - (c + 1)) y ≡ all
unfolding drawn_scripts
script_goes_on front n c x y s all lt one so_far =
    let k : 4 - c ≡ suc (4 - (c + 1)) = omega arith in
    let is : s ≡ (drawn_script n c x).0 = ap (λ (p : Scripted × ℕ). p.0) one in
    let at : y ≡ (drawn_script n c x).1 = ap (λ (p : Scripted × ℕ). p.1) one in
    let step : front ++ drawn_scripts n c (4 - c) x ≡ (front ++ s ∷ []) ++ drawn_scripts n (c + 1) (4 - (c + 1)) y =
    rw (k, is, at) (sym (append_assoc front ((drawn_script n c x).0 ∷ []) (drawn_scripts n (c + 1) (4 - (c + 1)) (drawn_script n c x).1))) in
    sym step ∙ so_far

pub scripts_done : (front : List Scripted) (n c x : ℕ) (all : List Scripted) → 4 ≤ c → front ++ drawn_scripts n c (4 - c) x ≡ all → front ≡ all
unfolding drawn_scripts
scripts_done front n c x all le so_far =
    let k : 4 - c ≡ 0 = omega arith in
    let one : front ++ drawn_scripts n c (4 - c) x ≡ front = rw k (append-nil front) in
    sym one ∙ so_far

-- a choice between two is of each kind that both are
chosen_is : {A : Type 0} (P : A → Type 0) (b : Bool) (x y : A) → P x → P y → P (cond b x y)
chosen_is P true x y h k = h
chosen_is P false x y h k = k

key_small : (x : ℕ) → x % 256 < 2 ^ 32
key_small x = omega arith

other_small : (c x : ℕ) → other_client c x < 4
other_small c x = omega arith

other_apart : (c x : ℕ) → c < 4 → other_client c x ≢ c
other_apart c x lt same = omega arith

as_fits : (c k x : ℕ) → c < 4 → LineFits 4 c (drawn_as c k x).0
unfolding drawn_as
as_fits c k x lt =
    let P : Line × ℕ → Type 0 = λ p. LineFits 4 c p.0 in
    chosen_is P (ltb k 4) _ _ (key_small (next x), omega arith)
    (chosen_is P (eqb k 4) _ _ (key_small (next x))
    (chosen_is P (eqb k 5) _ _ (omega arith, key_small (next (next x)))
    (chosen_is P (ltb k 8) _ _ (key_small (next x), omega arith, key_small (next (next (next x))))
    (chosen_is P (eqb k 8) _ _ (other_small c (next x), other_apart c (next x) lt, key_small (next (next x)))
    (other_small c (next x), other_apart c (next x) lt, key_small (next (next x)))))))

lines_fit : (c n x : ℕ) → c < 4 → AllByRecursion (LineFits 4 c) (drawn_lines c n x).0
unfolding drawn_lines
lines_fit c zero x lt = tt
lines_fit c (suc n) x lt = (as_fits c (next x % 10) (next x) lt, lines_fit c n (drawn_line c x).1 lt)

lines_counted : (c n x : ℕ) → length (drawn_lines c n x).0 ≡ n
unfolding drawn_lines
lines_counted c zero x = refl
lines_counted c (suc n) x = ap suc (lines_counted c n (drawn_line c x).1)

-- lives in their ranges
abbrev LivesFit : List ℕ × ℕ → Type 0
LivesFit p = AllByRecursion IsLife p.0 × (sum p.0 ≤ 2 ^ 40)

life_fits : (c x : ℕ) → LivesFit (drawn_life c x)
unfolding drawn_life
life_fits c x = chosen_is LivesFit (eqb c 3) _ _ (((omega arith, omega arith), ((omega arith, omega arith), ((omega arith, omega arith), tt))), omega arith) (tt, omega arith)

script_fits : (n c x : ℕ) → c < 4 → n ≤ 4000 → ScriptFits 4 (drawn_script n c x).0
script_fits n c x lt few =
    record {
      client = lt;
      life = (life_fits c x).0;
      sum = (life_fits c x).1;
      lines = lines_fit c n (drawn_life c x).1 lt;
      few = omega (arith, lines_counted c n (drawn_life c x).1);
    }

scripts_fit : (n c k x : ℕ) → c + k ≤ 4 → n ≤ 4000 → AllByRecursion (ScriptFits 4) (drawn_scripts n c k x)
unfolding drawn_scripts
scripts_fit n c zero x le few = tt
scripts_fit n c (suc k) x le few = (script_fits n c x (omega arith) few, scripts_fit n (c + 1) k (drawn_script n c x).1 (omega arith) few)

above : (n b c k x : ℕ) → b < c → AllByRecursion (λ o. o.client ≢ b) (drawn_scripts n c k x)
unfolding drawn_scripts
above n b c zero x lt = tt
above n b c (suc k) x lt = ((λ same. omega arith), above n b (c + 1) k (drawn_script n c x).1 (omega arith))

scripts_apart : (n c k x : ℕ) → AreApart (drawn_scripts n c k x)
unfolding drawn_scripts
scripts_apart n c zero x = tt
scripts_apart n c (suc k) x = (above n c (c + 1) k (drawn_script n c x).1 (omega arith), scripts_apart n (c + 1) k (drawn_script n c x).1)

-- a drawn trace is one of the grammar
pub trace_fits : (start n : ℕ) → n ≤ 4000 → IsTrace (drawn_trace start n)
trace_fits start n few = record {
  some_client = omega arith;
  few_clients = omega arith;
  some_segment = omega arith;
  few_segments = omega arith;
  few_items = omega arith;
  items = tt;
  scripts = scripts_fit n 0 4 (first start) (omega arith) few;
  apart = scripts_apart n 0 4 (first start);
}
