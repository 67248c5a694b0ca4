-- The spelling of each line is told as that line again.
use Rattle.std.proofs.Common.{◌≡◌, ℕ, zero, suc, ◌-◌, ◌^◌, ◌<◌, ◌≤◌, Bool, true, false, eqb, List, [], ◌∷◌, ◌++◌, length, map, sum, Option, Some, None, Ok, codes, refl, sym, ap, subst, ◌∙◌, arith, append_assoc, rules, ◌⊎◌, inl, inr}
use Rattle.std.proofs.lemmas.{Bool.Decides.nat_tests, List.{append-nil, Concat.flat_map-cons, Sums.sum_by-cons}}
use Rattle.std.proofs.lemmas.List.Splits.{slice_split_at, slice_split_none}
use Rattle.std.specs.{Prelude.◌==◌, Fmt.decimal, List.{AllByRecursion, flat_map, slice_split}}
use Rattle.shm_script.specs.declared.{line.Item.Item, raw.RawItem.RawItem}
use Rattle.shm_script.specs.Text.{spaced, pool_word, item_spelled, turns_spelled}
use Rattle.shm_script.specs.Ranges.{ItemFits, IsLife, segments_limit}
use Rattle.shm_script.specs.Shapes.{Shape, Pool, Order, Client, Life, Command, given, numbers_of, items_of, item_from, shape_by, shape_from, shape_of}
use Rattle.shm_script.specs.Faults.{Seen, Fit, FitPool, FitOrder, FitClient, FitLife, FitCommand, turns_fit, items_fit, life_fit, before_rest, fit_of, may_stand, too_many, is_second, judged}
use Rattle.shm_script.proofs.{LineTexts.{blanks, fit_text}, FitTexts.FitRange, NumberTexts.number_again}
use Rattle.shm_script.proofs.Again.{Free, free_nil, free_cons, free_both, free_decimal, free_colon, literal, low, split_words, below_if, between_if, one_again, two_again, raw_line, line_again, line_head, line_words, line_small, line_shaped, line_joined, line_free}

-- turns before they are tried
abbrev pub raw_turns : ℕ → Option (Option ℕ)
raw_turns zero = None
raw_turns (suc n) = Some (Some (suc n))

abbrev pub raw_item : Item → RawItem
raw_item i = record { client = Some i.client; turns = raw_turns i.turns }

-- an item's word
abbrev pub item_word : Item → List ℕ
item_word i = decimal i.client ++ turns_spelled i.turns

-- a line before its numbers are tried
abbrev pub fit_raw : Fit → Shape
fit_raw (FitPool wide n g) = Pool wide (Some n) (Some g)
fit_raw (FitOrder items) = Order (map raw_item items)
fit_raw (FitClient c) = Client (Some c)
fit_raw (FitLife life) = Life (map (λ n. Some n) life)
fit_raw (FitCommand line) = Command (raw_line line)

-- its word and its others
abbrev pub fit_head : Fit → List ℕ
fit_head (FitPool wide n g) = pool_word wide
fit_head (FitOrder items) = codes "order"
fit_head (FitClient c) = codes "client"
fit_head (FitLife life) = codes "life"
fit_head (FitCommand line) = line_head line

abbrev pub fit_words : Fit → List (List ℕ)
fit_words (FitPool wide n g) = decimal n ∷ decimal g ∷ []
fit_words (FitOrder items) = map item_word items
fit_words (FitClient c) = decimal c ∷ []
fit_words (FitLife life) = map decimal life
fit_words (FitCommand line) = line_words line

numbers_joined : (life : List ℕ) → flat_map spaced life ≡ blanks (map decimal life)
numbers_joined [] = refl
numbers_joined (n ∷ life) = flat_map-cons spaced n life ∙ ap (λ w. spaced n ++ w) (numbers_joined life)

items_joined : (items : List Item) → flat_map item_spelled items ≡ blanks (map item_word items)
items_joined [] = refl
items_joined (i ∷ items) = flat_map-cons item_spelled i items ∙ ap (λ w. item_spelled i ++ w) (items_joined items)

fit_joined : (fit : Fit) → fit_text fit ≡ fit_head fit ++ blanks (fit_words fit)
fit_joined (FitPool wide n g) = append_assoc (pool_word wide) (spaced n) (spaced g) ∙ ap (λ w. pool_word wide ++ (spaced n ++ w)) (sym (append-nil (spaced g)))
fit_joined (FitOrder items) = ap (λ w. codes "order" ++ w) (items_joined items)
fit_joined (FitClient c) = ap (λ w. codes "client" ++ w) (sym (append-nil (spaced c)))
fit_joined (FitLife life) = ap (λ w. codes "life" ++ w) (numbers_joined life)
fit_joined (FitCommand line) = line_joined line

-- no blank and no line feed stands in a word
abbrev IsGap : ℕ → Type 0
IsGap byte = (byte ≡ 10) ⊎ (byte ≡ 32)

not_colon : (byte : ℕ) → IsGap byte → eqb 58 byte ≡ false
not_colon byte (inl e) = rw e refl
not_colon byte (inr e) = rw e refl

turns_free : (byte t : ℕ) → IsGap byte → t ≤ 100000 → Free byte (turns_spelled t)
turns_free byte zero b h = free_nil
turns_free byte (suc t) b h = free_cons 58 (not_colon byte b) (free_decimal byte (suc t) (low byte b) (omega arith))

items_free : (byte clients : ℕ) (items : List Item) → IsGap byte → clients < 256 → AllByRecursion (ItemFits clients) items → AllByRecursion (Free byte) (map item_word items)
items_free byte clients [] b few h = tt
items_free byte clients (i ∷ items) b few h = (free_both (decimal i.client) (turns_spelled i.turns) (free_decimal byte i.client (low byte b) (omega (arith, h.0.0))) (turns_free byte i.turns b h.0.1), items_free byte clients items b few h.1)

numbers_free : (byte : ℕ) (life : List ℕ) → IsGap byte → AllByRecursion IsLife life → AllByRecursion (Free byte) (map decimal life)
numbers_free byte [] b h = tt
numbers_free byte (n ∷ life) b h = (free_decimal byte n (low byte b) (omega (arith, h.0.1)), numbers_free byte life b h.1)

word_free : (byte : ℕ) (wide : Bool) → IsGap byte → Free byte (pool_word wide)
word_free byte true b = literal byte (codes "pool2") b (search rules) (search rules)
word_free byte false b = literal byte (codes "pool") b (search rules) (search rules)

segments_small : (wide : Bool) (g : ℕ) → g ≤ segments_limit wide → g < 2 ^ 64
segments_small true g h = omega (arith, h)
segments_small false g h = omega (arith, h)

fit_free : (byte clients me : ℕ) (fit : Fit) → IsGap byte → clients < 256 → FitRange clients me fit → Free byte (fit_head fit) × AllByRecursion (Free byte) (fit_words fit)
fit_free byte clients me (FitPool wide n g) b few h = (word_free byte wide b, (free_decimal byte n (low byte b) (omega (arith, h.1)), (free_decimal byte g (low byte b) (segments_small wide g h.3), tt)))
fit_free byte clients me (FitOrder items) b few h = (literal byte (codes "order") b (search rules) (search rules), items_free byte clients items b few h.2)
fit_free byte clients me (FitClient c) b few h = (literal byte (codes "client") b (search rules) (search rules), (free_decimal byte c (low byte b) (omega (arith, h)), tt))
fit_free byte clients me (FitLife life) b few h = (literal byte (codes "life") b (search rules) (search rules), numbers_free byte life b h.1)
fit_free byte clients me (FitCommand line) b few h = line_free byte line b (line_small clients me line few h)

blank_free : (words : List (List ℕ)) → AllByRecursion (Free 10) words → Free 10 (blanks words)
blank_free [] h = free_nil
blank_free (word ∷ words) h = free_both (32 ∷ word) (blanks words) (free_cons 32 refl h.0) (blank_free words h.1)

-- no line feed stands in a line
pub line_one : (clients me : ℕ) (fit : Fit) → clients < 256 → FitRange clients me fit → Free 10 (fit_text fit)
line_one clients me fit few h =
    let f = fit_free 10 clients me fit (inl refl) few h in
    subst (Free 10) (sym (fit_joined fit)) (free_both (fit_head fit) (blanks (fit_words fit)) f.0 (blank_free (fit_words fit) f.1))

-- ---- shapes
numbers_again : (life : List ℕ) → AllByRecursion IsLife life → numbers_of (map decimal life) ≡ Some (map (λ n. Some n) life)
unfolding numbers_of
numbers_again [] h = refl
numbers_again (n ∷ life) h = rw (number_again n (omega (arith, h.0.1)), numbers_again life h.1) refl

item_by : (c t : ℕ) → c < 2 ^ 64 → t ≤ 100000 → item_from (slice_split (λ b. b == 58) (decimal c ++ turns_spelled t)) ≡ Some (record { client = Some c; turns = raw_turns t })
unfolding item_from
item_by c zero h k =
    ap (λ w. item_from (slice_split (λ b. b == 58) w)) (append-nil (decimal c))
    ∙ ap item_from (slice_split_none (λ b. b == 58) (decimal c) (free_colon c h).all)
    ∙ ap (given (λ (x : Option ℕ). record { client = x; turns = None })) (number_again c h)
item_by c (suc t) h k =
    let small : suc t < 2 ^ 64 = omega arith in
    ap item_from (slice_split_at (λ b. b == 58) (decimal c) 58 (decimal (suc t)) (free_colon c h).all refl ∙ ap (λ ws. decimal c ∷ ws) (slice_split_none (λ b. b == 58) (decimal (suc t)) (free_colon (suc t) small).all))
    ∙ rw (number_again c h, number_again (suc t) small) refl

items_again : (clients : ℕ) (items : List Item) → clients < 256 → AllByRecursion (ItemFits clients) items → items_of (map item_word items) ≡ Some (map raw_item items)
unfolding items_of
items_again clients [] few h = refl
items_again clients (i ∷ items) few h = rw (item_by i.client i.turns (omega (arith, h.0.0)) h.0.1, items_again clients items few h.1) refl

fit_shaped : (clients me : ℕ) (fit : Fit) → clients < 256 → FitRange clients me fit → shape_from (fit_head fit ∷ fit_words fit) ≡ Some (fit_raw fit)
unfolding shape_from shape_by
fit_shaped clients me (FitPool true n g) few h = ap (given (λ (n : Option ℕ × Option ℕ). Pool true n.0 n.1)) (two_again n g (omega (arith, h.1)) (omega (arith, h.3)))
fit_shaped clients me (FitPool false n g) few h = ap (given (λ (n : Option ℕ × Option ℕ). Pool false n.0 n.1)) (two_again n g (omega (arith, h.1)) (omega (arith, h.3)))
fit_shaped clients me (FitOrder []) few h = absurd (omega (arith, h.0))
fit_shaped clients me (FitOrder (i ∷ items)) few h = ap (given Order) (items_again clients (i ∷ items) few h.2)
fit_shaped clients me (FitClient c) few h = ap (given Client) (one_again c (omega (arith, h)))
fit_shaped clients me (FitLife []) few h = absurd (omega (arith, h.0))
fit_shaped clients me (FitLife (n ∷ life)) few h = ap (given Life) (numbers_again (n ∷ life) h.1)
fit_shaped clients me (FitCommand line) few h = line_shaped line (line_small clients me line few h)

fit_told : (clients me : ℕ) (fit : Fit) → clients < 256 → FitRange clients me fit → shape_of (fit_text fit) ≡ Some (fit_raw fit)
fit_told clients me fit few h =
    let f = fit_free 32 clients me fit (inr refl) few h in
    ap shape_of (fit_joined fit) ∙ ap shape_from (split_words (fit_head fit) (fit_words fit) f.0 f.1) ∙ fit_shaped clients me fit few h

-- ---- ranges
life_again : (left : ℕ) (life : List ℕ) → AllByRecursion IsLife life → sum life ≤ left → life_fit left (map (λ n. Some n) life) ≡ Some life
unfolding life_fit
life_again left [] h k = refl
life_again left (n ∷ life) h k =
    let total = sum_by-cons (λ x. x) n life in
    let here = between_if 1 left n h.0.0 (omega arith) in
    let others = life_again (left - n) life h.1 (omega arith) in
    ap (λ o. before_rest o (λ m. life_fit (left - m) (map (λ n. Some n) life))) here ∙ ap (given (λ ns. n ∷ ns)) others

turns_again : (t : ℕ) → t ≤ 100000 → turns_fit (raw_turns t) ≡ Some t
turns_again zero h = refl
turns_again (suc t) h = between_if 1 100000 (suc t) (omega arith) h

items_in : (clients : ℕ) (items : List Item) → AllByRecursion (ItemFits clients) items → items_fit clients (map raw_item items) ≡ Some items
unfolding items_fit
items_in clients [] h = refl
items_in clients (i ∷ items) h = rw (below_if clients i.client h.0.0, turns_again i.turns h.0.1, items_in clients items h.1) refl

fit_in : (clients me : ℕ) (fit : Fit) → FitRange clients me fit → fit_of clients me (fit_raw fit) ≡ Some fit
fit_in clients me (FitPool wide n g) h = rw (between_if 1 16 n h.0 h.1, between_if 1 (segments_limit wide) g h.2 h.3) refl
fit_in clients me (FitOrder items) h = ap (given FitOrder) (items_in clients items h.2)
fit_in clients me (FitClient c) h = ap (given FitClient) (below_if clients c h)
fit_in clients me (FitLife life) h = ap (given FitLife) (life_again (2 ^ 40) life h.1 h.2)
fit_in clients me (FitCommand line) h = ap (given FitCommand) (line_again clients me line h)

map_counted : (items : List Item) → length (map raw_item items) ≡ length items
map_counted [] = refl
map_counted (i ∷ items) = ap suc (map_counted items)

fit_few : (clients me : ℕ) (fit : Fit) → FitRange clients me fit → too_many (fit_raw fit) ≡ false
fit_few clients me (FitPool wide n g) h = refl
fit_few clients me (FitOrder items) h = let n : length (map raw_item items) ≤ 1000 = omega (arith, map_counted items, h.1) in grind (arith, nat_tests)
fit_few clients me (FitClient c) h = refl
fit_few clients me (FitLife life) h = refl
fit_few clients me (FitCommand line) h = refl

by_parts : (seen : Seen) (shape : Shape) (fit : Fit) → may_stand seen.place shape ≡ true → too_many shape ≡ false → fit_of seen.clients seen.me shape ≡ Some fit → is_second seen.taken fit ≡ false → judged seen (Some shape) ≡ Ok fit
by_parts seen shape fit stands few fits second = rw (stands, few, fits, second) refl

-- a line in its one spelling is judged to fit
pub judged_again : (seen : Seen) (fit : Fit) → seen.clients < 256 → FitRange seen.clients seen.me fit → may_stand seen.place (fit_raw fit) ≡ true → is_second seen.taken fit ≡ false → judged seen (shape_of (fit_text fit)) ≡ Ok fit
judged_again seen fit few range stands second =
    ap (judged seen) (fit_told seen.clients seen.me fit few range) ∙ by_parts seen (fit_raw fit) fit stands (fit_few seen.clients seen.me fit range) (fit_in seen.clients seen.me fit range) second
