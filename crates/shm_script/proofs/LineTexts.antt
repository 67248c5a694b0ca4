-- A line whose shape is told and whose numbers are in range is the one spelling of these.
use Rattle.std.proofs.Common.{◌≡◌, ℕ, zero, suc, ◌-◌, ◌^◌, ◌<◌, ◌≤◌, List, [], ◌∷◌, ◌++◌, Option, Some, None, codes, refl, sym, ap, ◌∙◌, arith}
use Rattle.std.proofs.lemmas.List.{append-nil, Concat.flat_map-cons, Splits.join_with_byte-slice_split}
use Rattle.std.specs.{Prelude.◌==◌, Fmt.decimal, List.{slice_split, flat_map, join_with_byte}}
use Rattle.shm_script.specs.declared.{line.Item.Item, raw.RawItem.RawItem}
use Rattle.shm_script.specs.{Text.{spaced, line_spelled, pool_word, item_spelled, turns_spelled}, Numbers.number_of}
use Rattle.shm_script.specs.Shapes.{both, one_of, two_of, three_of, numbers_of, items_of, item_from}
use Rattle.shm_script.specs.Faults.{Fit, FitPool, FitOrder, FitClient, FitLife, FitCommand, between, below, turns_fit, items_fit, life_fit, before_rest}
use Rattle.shm_script.proofs.{Inverts.{both_is, given_is, below_is, between_is}, NumberTexts.number_is}

-- words, each behind a blank
abbrev pub blanks : List (List ℕ) → List ℕ
blanks [] = []
blanks (word ∷ words) = (32 ∷ word) ++ blanks words

pub join_blanks : (word : List ℕ) (words : List (List ℕ)) → join_with_byte 32 (word ∷ words) ≡ word ++ blanks words
join_blanks word [] = sym (append-nil word)
join_blanks word (next ∷ words) = ap (λ t. word ++ (32 ∷ t)) (join_blanks next words)

-- a line in range
abbrev pub fit_text : Fit → List ℕ
fit_text (FitPool wide n g) = pool_word wide ++ spaced n ++ spaced g
fit_text (FitOrder items) = codes "order" ++ flat_map item_spelled items
fit_text (FitClient c) = codes "client" ++ spaced c
fit_text (FitLife life) = codes "life" ++ flat_map spaced life
fit_text (FitCommand line) = line_spelled line

pub one_text : (words : List (List ℕ)) (n : ℕ) → one_of words ≡ Some (Some n) → (blanks words ≡ spaced n) × (n < 2 ^ 64)
unfolding one_of
one_text [] n h = absurd cc
one_text (word ∷ []) n h = let t = number_is word n h in (append-nil (32 ∷ word) ∙ ap (λ w. 32 ∷ w) t.0, t.1)
one_text (word ∷ next ∷ words) n h = absurd cc

pub two_text : (words : List (List ℕ)) (a b : ℕ) → two_of words ≡ Some (Some a, Some b) → (blanks words ≡ spaced a ++ spaced b) × (a < 2 ^ 64) × (b < 2 ^ 64)
unfolding two_of
two_text [] a b h = absurd cc
two_text (word ∷ words) a b h =
    let t = both_is (λ (x y : Option ℕ). (x, y)) (number_of word) (one_of words) (Some a, Some b) h in
    let x : number_of word ≡ Some (Some a) = t.2 ∙ ap Some (ap (λ (p : Option ℕ × Option ℕ). p.0) t.4) in
    let y : one_of words ≡ Some (Some b) = t.3 ∙ ap Some (ap (λ (p : Option ℕ × Option ℕ). p.1) t.4) in
    let first = number_is word a x in
    let second = one_text words b y in
    (ap (λ w. (32 ∷ w) ++ blanks words) first.0 ∙ ap (λ w. spaced a ++ w) second.0, first.1, second.1)

pub three_text : (words : List (List ℕ)) (a b d : ℕ) → three_of words ≡ Some (Some a, Some b, Some d) → (blanks words ≡ spaced a ++ (spaced b ++ spaced d)) × (a < 2 ^ 64) × (b < 2 ^ 64) × (d < 2 ^ 64)
unfolding three_of
three_text [] a b d h = absurd cc
three_text (word ∷ words) a b d h =
    let t = both_is (λ (x : Option ℕ) (y : Option ℕ × Option ℕ). (x, y.0, y.1)) (number_of word) (two_of words) (Some a, Some b, Some d) h in
    let x : number_of word ≡ Some (Some a) = t.2 ∙ ap Some (ap (λ (p : Option ℕ × Option ℕ × Option ℕ). p.0) t.4) in
    let y : two_of words ≡ Some (Some b, Some d) = t.3 ∙ ap Some (ap (λ (p : Option ℕ × Option ℕ × Option ℕ). (p.1, p.2)) t.4) in
    let first = number_is word a x in
    let second = two_text words b d y in
    (ap (λ w. (32 ∷ w) ++ blanks words) first.0 ∙ ap (λ w. spaced a ++ w) second.0, first.1, second.1, second.2)

pub rest_is : (o : Option ℕ) (rest : ℕ → Option (List ℕ)) (life : List ℕ) → before_rest o rest ≡ Some life → (n : ℕ) × (ns : List ℕ) × (o ≡ Some n) × (rest n ≡ Some ns) × (n ∷ ns ≡ life)
rest_is None rest life h = absurd cc
rest_is (Some n) rest life h = let g = given_is (λ (ns : List ℕ). n ∷ ns) (rest n) life h in (n, g.0, refl, g.1, g.2)

-- lives
pub life_text : (words : List (List ℕ)) (numbers : List (Option ℕ)) (left : ℕ) (life : List ℕ) → numbers_of words ≡ Some numbers → life_fit left numbers ≡ Some life → blanks words ≡ flat_map spaced life
unfolding numbers_of life_fit
life_text [] numbers left life h k =
    let none : numbers ≡ [] = cc in
    let e : life_fit left [] ≡ Some life = ap (life_fit left) (sym none) ∙ k in
    let is : life ≡ [] = cc in
    ap (flat_map spaced) (sym is)
life_text (word ∷ words) numbers left life h k =
    let t = both_is (λ (n : Option ℕ) (ns : List (Option ℕ)). n ∷ ns) (number_of word) (numbers_of words) numbers h in
    let e : before_rest (between 1 left t.0) (λ m. life_fit (left - m) t.1) ≡ Some life = ap (life_fit left) t.4 ∙ k in
    let r = rest_is (between 1 left t.0) (λ m. life_fit (left - m) t.1) life e in
    let n = between_is 1 left t.0 r.0 r.2 in
    let first = number_is word r.0 (t.2 ∙ ap Some n.0) in
    let others = life_text words t.1 (left - r.0) r.1 t.3 r.3 in
    ap (λ w. (32 ∷ w) ++ blanks words) first.0 ∙ ap (λ w. spaced r.0 ++ w) others ∙ sym (flat_map-cons spaced r.0 r.1) ∙ ap (flat_map spaced) r.4

abbrev alone : Option ℕ → RawItem
alone c = record { client = c; turns = None }

abbrev with_turns : Option ℕ → Option ℕ → RawItem
with_turns c t = record { client = c; turns = Some t }

abbrev pub made : ℕ → ℕ → Item
made c t = record { client = c; turns = t }

colon : (t : ℕ) → 1 ≤ t → (58 ∷ decimal t) ≡ turns_spelled t
colon zero h = absurd (omega arith)
colon (suc t) h = refl

-- the parts of an item at its colon
item_joined : (parts : List (List ℕ)) (raw : RawItem) (c t : ℕ) → item_from parts ≡ Some raw → raw.client ≡ Some c → turns_fit raw.turns ≡ Some t → join_with_byte 58 parts ≡ decimal c ++ turns_spelled t
unfolding item_from
item_joined [] raw c t h hc ht = absurd cc
item_joined (client ∷ []) raw c t h hc ht =
    let g = given_is (λ (x : Option ℕ). alone x) (number_of client) raw h in
    let first = number_is client c (g.1 ∙ ap Some (ap (λ (r : RawItem). r.client) g.2 ∙ hc)) in
    let none : t ≡ 0 = let e : Some 0 ≡ Some t = ap (λ (r : RawItem). turns_fit r.turns) g.2 ∙ ht in cc in
    first.0 ∙ sym (append-nil (decimal c)) ∙ ap (λ n. decimal c ++ turns_spelled n) (sym none)
item_joined (client ∷ turns ∷ []) raw c t h hc ht =
    let g = both_is (λ (x y : Option ℕ). with_turns x y) (number_of client) (number_of turns) raw h in
    let first = number_is client c (g.2 ∙ ap Some (ap (λ (r : RawItem). r.client) g.4 ∙ hc)) in
    let b = between_is 1 100000 g.1 t (ap (λ (r : RawItem). turns_fit r.turns) g.4 ∙ ht) in
    let second = number_is turns t (g.3 ∙ ap Some b.0) in
    ap (λ w. w ++ (58 ∷ turns)) first.0 ∙ ap (λ w. decimal c ++ (58 ∷ w)) second.0 ∙ ap (λ w. decimal c ++ w) (colon t b.1)
item_joined (client ∷ turns ∷ more ∷ parts) raw c t h hc ht = absurd cc

pub order_text : (clients : ℕ) (words : List (List ℕ)) (raws : List RawItem) (items : List Item) → items_of words ≡ Some raws → items_fit clients raws ≡ Some items → blanks words ≡ flat_map item_spelled items
unfolding items_of items_fit
order_text clients [] raws items h k =
    let none : raws ≡ [] = cc in
    let e : items_fit clients [] ≡ Some items = ap (items_fit clients) (sym none) ∙ k in
    let is : items ≡ [] = cc in
    ap (flat_map item_spelled) (sym is)
order_text clients (word ∷ words) raws items h k =
    let t = both_is (λ (n : RawItem) (ns : List RawItem). n ∷ ns) (item_from (slice_split (λ b. b == 58) word)) (items_of words) raws h in
    let r = both_is (λ (n : Item) (ns : List Item). n ∷ ns) (both made (below clients t.0.client) (turns_fit t.0.turns)) (items_fit clients t.1) items (ap (items_fit clients) t.4 ∙ k) in
    let i = both_is made (below clients t.0.client) (turns_fit t.0.turns) r.0 r.2 in
    let client = below_is clients t.0.client i.0 i.2 in
    let joined = item_joined (slice_split (λ b. b == 58) word) t.0 i.0 i.1 t.2 client.0 i.3 in
    let first : word ≡ decimal i.0 ++ turns_spelled i.1 = sym (join_with_byte-slice_split 58 word) ∙ joined in
    let others = order_text clients words t.1 r.1 t.3 r.3 in
    ap (λ w. (32 ∷ w) ++ blanks words) first ∙ ap (λ w. (32 ∷ (decimal i.0 ++ turns_spelled i.1)) ++ w) others ∙ ap (λ (x : Item). item_spelled x ++ flat_map item_spelled r.1) i.4 ∙ sym (flat_map-cons item_spelled r.0 r.1) ∙ ap (flat_map item_spelled) r.4
