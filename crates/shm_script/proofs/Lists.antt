-- Lists that get one more element, or another last one.
use Rattle.std.proofs.Common.{◌≡◌, ◌≢◌, ℕ, ◌+◌, ◌≤◌, Bool, true, false, ◌||◌, eqb, List, [], ◌∷◌, ◌++◌, length, map, codes, refl, sym, ap, ◌∙◌, arith, append_assoc, length-append}
use Rattle.std.proofs.lemmas.{Bool.Decides.nat_tests, List.{Concat.{flat_map-cons, flat_map-append}, append-nil}}
use Rattle.std.specs.{Prelude.◌==◌, List.{AllByRecursion, flat_map, list_any}}
use Rattle.shm_script.specs.{declared.line.Line.Line, Values.Scripted, Ranges.AreApart}
use Rattle.shm_script.specs.Text.{line_ended, line_spelled, script_spelled, life_spelled, ended, spaced}

pub all_push : {A : Type 0} (P : A → Type 0) (xs : List A) (y : A) → AllByRecursion P xs → P y → AllByRecursion P (xs ++ y ∷ [])
all_push P [] y h k = (k, tt)
all_push P (x ∷ xs) y h k = (h.0, all_push P xs y h.1 k)

pub all_last : {A : Type 0} (P : A → Type 0) (xs : List A) (y z : A) → AllByRecursion P (xs ++ y ∷ []) → (P y → P z) → AllByRecursion P (xs ++ z ∷ [])
all_last P [] y z h k = (k h.0, tt)
all_last P (x ∷ xs) y z h k = (h.0, all_last P xs y z h.1 k)

pub apart_push : (ss : List Scripted) (s : Scripted) → AreApart ss → AllByRecursion (λ o. o.client ≢ s.client) ss → AreApart (ss ++ s ∷ [])
apart_push [] s h k = (tt, tt)
apart_push (x ∷ ss) s h k = (all_push (λ (o : Scripted). o.client ≢ x.client) ss s h.0 (λ same. k.0 (sym same)), apart_push ss s h.1 k.1)

pub apart_last : (ss : List Scripted) (s t : Scripted) → s.client ≡ t.client → AreApart (ss ++ s ∷ []) → AreApart (ss ++ t ∷ [])
apart_last [] s t is h = (tt, tt)
apart_last (x ∷ ss) s t is h = (all_last (λ (o : Scripted). o.client ≢ x.client) ss s t h.0 (λ apart same. apart (is ∙ same)), apart_last ss s t is h.1)

pub clients_last : (ss : List Scripted) (s t : Scripted) → s.client ≡ t.client → map (λ (o : Scripted). o.client) (ss ++ s ∷ []) ≡ map (λ (o : Scripted). o.client) (ss ++ t ∷ [])
clients_last [] s t is = ap (λ (c : ℕ). c ∷ []) is
clients_last (x ∷ ss) s t is = ap (λ cs. x.client ∷ cs) (clients_last ss s t is)

pub clients_push : (ss : List Scripted) (s : Scripted) → map (λ (o : Scripted). o.client) (ss ++ s ∷ []) ≡ map (λ (o : Scripted). o.client) ss ++ s.client ∷ []
clients_push [] s = refl
clients_push (x ∷ ss) s = ap (λ cs. x.client ∷ cs) (clients_push ss s)

or_false : (a b : Bool) → (a || b) ≡ false → (a ≡ false) × (b ≡ false)
or_false true b h = absurd cc
or_false false b h = (refl, h)

differs : (a b : ℕ) → eqb a b ≡ false → a ≢ b
differs a b h same = grind (arith, nat_tests)

pub not_taken : (ss : List Scripted) (c : ℕ) → list_any (λ o. o == c) (map (λ (o : Scripted). o.client) ss) ≡ false → AllByRecursion (λ o. o.client ≢ c) ss
not_taken [] c h = tt
not_taken (x ∷ ss) c h =
    let b = or_false (eqb x.client c) (list_any (λ o. o == c) (map (λ (o : Scripted). o.client) ss)) h in
    (differs x.client c b.0, not_taken ss c b.1)

-- another last script, with more text
pub text_last : (front : List ℕ) (ss : List Scripted) (s t : Scripted) (more : List ℕ) → script_spelled t ≡ script_spelled s ++ more → front ++ flat_map script_spelled (ss ++ t ∷ []) ≡ (front ++ flat_map script_spelled (ss ++ s ∷ [])) ++ more
text_last front ss s t more is =
    let one : (x : Scripted) → flat_map script_spelled (ss ++ x ∷ []) ≡ flat_map script_spelled ss ++ script_spelled x = λ x. flat_map-append script_spelled ss (x ∷ []) ∙ ap (λ w. flat_map script_spelled ss ++ w) (flat_map-cons script_spelled x [] ∙ append-nil (script_spelled x)) in
    ap (λ w. front ++ w) (one t ∙ ap (λ w. flat_map script_spelled ss ++ w) is ∙ sym (append_assoc (flat_map script_spelled ss) (script_spelled s) more) ∙ ap (λ w. w ++ more) (sym (one s)))
    ∙ sym (append_assoc front (flat_map script_spelled (ss ++ s ∷ [])) more)

-- a script more
pub text_push : (front : List ℕ) (ss : List Scripted) (s : Scripted) → front ++ flat_map script_spelled (ss ++ s ∷ []) ≡ (front ++ flat_map script_spelled ss) ++ script_spelled s
text_push front ss s =
    ap (λ w. front ++ w) (flat_map-append script_spelled ss (s ∷ []) ∙ ap (λ w. flat_map script_spelled ss ++ w) (flat_map-cons script_spelled s [] ∙ append-nil (script_spelled s)))
    ∙ sym (append_assoc front (flat_map script_spelled ss) (script_spelled s))

-- the line of a client
abbrev pub client_text : ℕ → List ℕ
client_text c = ended (codes "client" ++ spaced c)

-- a script with one command more
pub lines_push : (c : ℕ) (life : List ℕ) (lines : List Line) (line : Line) → script_spelled (record { client = c; life = life; lines = lines ++ line ∷ [] }) ≡ script_spelled (record { client = c; life = life; lines = lines }) ++ line_ended line
lines_push c life lines line =
    ap (λ w. (client_text c ++ life_spelled life) ++ w) (flat_map-append line_ended lines (line ∷ []) ∙ ap (λ w. flat_map line_ended lines ++ w) (flat_map-cons line_ended line [] ∙ append-nil (line_ended line)))
    ∙ sym (append_assoc (client_text c ++ life_spelled life) (flat_map line_ended lines) (line_ended line))

-- the texts of commands have a byte for each
pub many_lines : (lines : List Line) → length lines ≤ length (flat_map line_ended lines)
many_lines [] = omega arith
many_lines (line ∷ lines) = omega (arith, many_lines lines, ap length (flat_map-cons line_ended line lines), length-append (line_ended line) (flat_map line_ended lines), length-append (line_spelled line) (10 ∷ []))

pub few_lines : (s : Scripted) → length s.lines ≤ length (script_spelled s)
few_lines s = omega (arith, many_lines s.lines, length-append (client_text s.client ++ life_spelled s.life) (flat_map line_ended s.lines))

-- each script of a text has fewer commands than a bound on its bytes
pub few_in_all : (bound : ℕ) (ss : List Scripted) → length (flat_map script_spelled ss) ≤ bound → AllByRecursion (λ s. length s.lines ≤ bound) ss
few_in_all bound [] h = tt
few_in_all bound (s ∷ ss) h =
    let parts : length (flat_map script_spelled (s ∷ ss)) ≡ length (script_spelled s) + length (flat_map script_spelled ss) = ap length (flat_map-cons script_spelled s ss) ∙ length-append (script_spelled s) (flat_map script_spelled ss) in
    (omega (arith, few_lines s), few_in_all bound ss (omega arith))
