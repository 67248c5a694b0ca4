-- A line that is judged to fit is the one spelling of its numbers, which are in range.
use Rattle.std.proofs.Common.{◌≡◌, ℕ, suc, ◌-◌, ◌^◌, ◌<◌, ◌≤◌, Bool, true, false, not, cond, ltb, List, [], ◌∷◌, ◌++◌, length, sum, Option, Some, None, Ok, Err, codes, refl, sym, ap, subst, ◌∙◌, arith, append_assoc, ◌⊎◌, inl, inr}
use Rattle.std.proofs.lemmas.{Bool.ltb-false, List.{Sums.sum_by-cons, Splits.join_with_byte-slice_split}}
use Rattle.std.proofs.lemmas.Slice.Eq.{bytes_eq-Decides}
use Rattle.std.specs.{Prelude.◌==◌, List.{slice_split, join_with_byte, AllByRecursion}, Str.bytes_eq}
use Rattle.shm_script.specs.declared.{line.{Line.Line, Item.Item}, raw.{RawItem.RawItem, RawCommand.RawCommand}}
use Rattle.shm_script.specs.declared.fault.TraceKind.{TraceKind, TheVariants.{Syntax, Limit, Twice}}
use Rattle.shm_script.specs.Ranges.{LineFits, ItemFits, IsLife, segments_limit}
use Rattle.shm_script.specs.{Text.{spaced, line_spelled, pool_word}, Numbers.number_of}
use Rattle.shm_script.specs.Shapes.{Shape, Pool, Order, Client, Life, Command, both, given, one_of, two_of, three_of, numbers_of, items_of, item_from, command_of, shape_by, shape_from, shape_of}
use Rattle.shm_script.specs.Faults.{Seen, Fit, FitPool, FitOrder, FitClient, FitLife, FitCommand, between, below, key_of, other_than, turns_fit, items_fit, life_fit, command_fit, fit_of, may_stand, too_many, is_second, ranged, judged}
use Rattle.shm_script.specs.declared.line.Line.TheVariants as lines
use Rattle.shm_script.specs.declared.raw.RawCommand.TheVariants as raw
use Rattle.shm_script.proofs.Inverts.{both_is, given_is, below_is, between_is, other_is}
use Rattle.shm_script.proofs.LineTexts.{blanks, join_blanks, fit_text, one_text, two_text, three_text, life_text, rest_is, order_text, made}

-- the ranges of a line
abbrev pub FitRange : ℕ → ℕ → Fit → Type 0
FitRange clients me (FitPool wide n g) = (1 ≤ n) × (n ≤ 16) × (1 ≤ g) × (g ≤ segments_limit wide)
FitRange clients me (FitOrder items) = (0 < length items) × (length items ≤ 1000) × AllByRecursion (ItemFits clients) items
FitRange clients me (FitClient c) = c < clients
FitRange clients me (FitLife life) = (0 < length life) × AllByRecursion IsLife life × (sum life ≤ 2 ^ 40)
FitRange clients me (FitCommand line) = LineFits clients me line

pair_is : {A B : Type 0} (p : A × B) (a : A) (b : B) → p.0 ≡ a → p.1 ≡ b → p ≡ (a, b)
pair_is p a b h k = λ i. (h i, k i)

triple_is : {A B C : Type 0} (p : A × B × C) (a : A) (b : B) (c : C) → p.0 ≡ a → p.1 ≡ b → p.2 ≡ c → p ≡ (a, b, c)
triple_is p a b c h k l = λ i. (h i, k i, l i)

-- ---- commands
abbrev Told : ℕ → ℕ → List ℕ → List (List ℕ) → Line → Type 0
Told clients me head words line = (head ++ blanks words ≡ line_spelled line) × LineFits clients me line

module _ (clients me : ℕ) (words : List (List ℕ)) (r : RawCommand) (line : Line) (fit : command_fit clients me r ≡ Some line) where
  put_told : given (λ n. raw.Put n.0 n.1) (two_of words) ≡ Some r → Told clients me (codes "put") words line
  unfolding command_fit
  put_told h =
      let g = given_is (λ (n : Option ℕ × Option ℕ). raw.Put n.0 n.1) (two_of words) r h in
      let b = both_is (λ (k n : ℕ). lines.Put k n) (key_of g.0.0) g.0.1 line (ap (command_fit clients me) g.2 ∙ fit) in
      let k = below_is (2 ^ 32) g.0.0 b.0 b.2 in
      let t = two_text words b.0 b.1 (g.1 ∙ ap Some (pair_is g.0 (Some b.0) (Some b.1) k.0 b.3)) in
      subst (Told clients me (codes "put") words) b.4 (ap (λ w. codes "put" ++ w) t.0, (k.1, t.2))

  del_told : given raw.Del (one_of words) ≡ Some r → Told clients me (codes "del") words line
  unfolding command_fit
  del_told h =
      let g = given_is raw.Del (one_of words) r h in
      let b = given_is (λ (k : ℕ). lines.Del k) (key_of g.0) line (ap (command_fit clients me) g.2 ∙ fit) in
      let k = below_is (2 ^ 32) g.0 b.0 b.1 in
      let t = one_text words b.0 (g.1 ∙ ap Some k.0) in
      subst (Told clients me (codes "del") words) b.2 (ap (λ w. codes "del" ++ w) t.0, k.1)

  get_told : given (λ n. raw.Get n.0 n.1) (two_of words) ≡ Some r → Told clients me (codes "get") words line
  unfolding command_fit
  get_told h =
      let g = given_is (λ (n : Option ℕ × Option ℕ). raw.Get n.0 n.1) (two_of words) r h in
      let b = both_is (λ (a k : ℕ). lines.Get a k) (below clients g.0.0) (key_of g.0.1) line (ap (command_fit clients me) g.2 ∙ fit) in
      let a = below_is clients g.0.0 b.0 b.2 in
      let k = below_is (2 ^ 32) g.0.1 b.1 b.3 in
      let t = two_text words b.0 b.1 (g.1 ∙ ap Some (pair_is g.0 (Some b.0) (Some b.1) a.0 k.0)) in
      subst (Told clients me (codes "get") words) b.4 (ap (λ w. codes "get" ++ w) t.0, (a.1, k.1))

  copy_told : given (λ n. raw.Copy n.0 n.1 n.2) (three_of words) ≡ Some r → Told clients me (codes "copy") words line
  unfolding command_fit
  copy_told h =
      let g = given_is (λ (n : Option ℕ × Option ℕ × Option ℕ). raw.Copy n.0 n.1 n.2) (three_of words) r h in
      let b = both_is (λ (k : ℕ) (p : ℕ × ℕ). lines.Copy k p.0 p.1) (key_of g.0.0) (both (λ (a o : ℕ). (a, o)) (below clients g.0.1) (key_of g.0.2)) line (ap (command_fit clients me) g.2 ∙ fit) in
      let d = both_is (λ (a o : ℕ). (a, o)) (below clients g.0.1) (key_of g.0.2) b.1 b.3 in
      let k = below_is (2 ^ 32) g.0.0 b.0 b.2 in
      let a = below_is clients g.0.1 d.0 d.2 in
      let o = below_is (2 ^ 32) g.0.2 d.1 d.3 in
      let t = three_text words b.0 d.0 d.1 (g.1 ∙ ap Some (triple_is g.0 (Some b.0) (Some d.0) (Some d.1) k.0 a.0 o.0)) in
      let spelled : codes "copy" ++ blanks words ≡ line_spelled (lines.Copy b.0 d.0 d.1) = ap (λ w. codes "copy" ++ w) t.0 ∙ sym (append_assoc (codes "copy" ++ spaced b.0) (spaced d.0) (spaced d.1)) in
      subst (Told clients me (codes "copy") words) b.4 (subst (λ (p : ℕ × ℕ). Told clients me (codes "copy") words (lines.Copy b.0 p.0 p.1)) d.4 (spelled, (k.1, a.1, o.1)))

  send_told : given (λ n. raw.Send n.0 n.1) (two_of words) ≡ Some r → Told clients me (codes "send") words line
  unfolding command_fit
  send_told h =
      let g = given_is (λ (n : Option ℕ × Option ℕ). raw.Send n.0 n.1) (two_of words) r h in
      let b = both_is (λ (c k : ℕ). lines.Send c k) (other_than me (below clients g.0.0)) (key_of g.0.1) line (ap (command_fit clients me) g.2 ∙ fit) in
      let o = other_is me (below clients g.0.0) b.0 b.2 in
      let a = below_is clients g.0.0 b.0 o.0 in
      let k = below_is (2 ^ 32) g.0.1 b.1 b.3 in
      let t = two_text words b.0 b.1 (g.1 ∙ ap Some (pair_is g.0 (Some b.0) (Some b.1) a.0 k.0)) in
      subst (Told clients me (codes "send") words) b.4 (ap (λ w. codes "send" ++ w) t.0, (a.1, o.1, k.1))

  recv_told : given (λ n. raw.Recv n.0 n.1) (two_of words) ≡ Some r → Told clients me (codes "recv") words line
  unfolding command_fit
  recv_told h =
      let g = given_is (λ (n : Option ℕ × Option ℕ). raw.Recv n.0 n.1) (two_of words) r h in
      let b = both_is (λ (c k : ℕ). lines.Recv c k) (other_than me (below clients g.0.0)) (key_of g.0.1) line (ap (command_fit clients me) g.2 ∙ fit) in
      let o = other_is me (below clients g.0.0) b.0 b.2 in
      let a = below_is clients g.0.0 b.0 o.0 in
      let k = below_is (2 ^ 32) g.0.1 b.1 b.3 in
      let t = two_text words b.0 b.1 (g.1 ∙ ap Some (pair_is g.0 (Some b.0) (Some b.1) a.0 k.0)) in
      subst (Told clients me (codes "recv") words) b.4 (ap (λ w. codes "recv" ++ w) t.0, (a.1, o.1, k.1))

-- one of two
pub either : {A : Type 0} (b : Bool) (x y z : A) → cond b x y ≡ z → ((b ≡ true) × (x ≡ z)) ⊎ ((b ≡ false) × (y ≡ z))
either true x y z h = inl (refl, h)
either false x y z h = inr (refl, h)

-- a word that is told
pub is_head : (head word : List ℕ) → bytes_eq head word ≡ true → head ≡ word
is_head head word h = (bytes_eq-Decides head word).0 h

no_command : (r : RawCommand) → None ≡ Some r → ⊥
no_command r h = cc

err_ok : (kind : TraceKind) (fit : Fit) → Err kind ≡ Ok fit → ⊥
err_ok kind fit h = cc

not_not : (b : Bool) → not b ≡ false → b ≡ true
not_not true h = refl
not_not false h = absurd cc

told_by : (clients me : ℕ) (head word : List ℕ) (words : List (List ℕ)) (line : Line) → bytes_eq head word ≡ true → Told clients me word words line → Told clients me head words line
told_by clients me head word words line h told = subst (λ w. Told clients me w words line) (sym (is_head head word h)) told

command_told : (clients me : ℕ) (head : List ℕ) (words : List (List ℕ)) (r : RawCommand) (line : Line) → command_of head words ≡ Some r → command_fit clients me r ≡ Some line → Told clients me head words line
unfolding command_of
command_told clients me head words r line h fit =
    elim (either (bytes_eq head (codes "put")) _ _ _ h) [
      | inl p ↦ told_by clients me head (codes "put") words line p.0 (put_told clients me words r line fit p.1)
      | inr p ↦ elim (either (bytes_eq head (codes "del")) _ _ _ p.1) [
        | inl q ↦ told_by clients me head (codes "del") words line q.0 (del_told clients me words r line fit q.1)
        | inr q ↦ elim (either (bytes_eq head (codes "get")) _ _ _ q.1) [
          | inl s ↦ told_by clients me head (codes "get") words line s.0 (get_told clients me words r line fit s.1)
          | inr s ↦ elim (either (bytes_eq head (codes "copy")) _ _ _ s.1) [
            | inl t ↦ told_by clients me head (codes "copy") words line t.0 (copy_told clients me words r line fit t.1)
            | inr t ↦ elim (either (bytes_eq head (codes "send")) _ _ _ t.1) [
              | inl u ↦ told_by clients me head (codes "send") words line u.0 (send_told clients me words r line fit u.1)
              | inr u ↦ elim (either (bytes_eq head (codes "recv")) _ _ _ u.1) [
                | inl v ↦ told_by clients me head (codes "recv") words line v.0 (recv_told clients me words r line fit v.1)
                | inr v ↦ absurd (no_command r v.1)
              ]
            ]
          ]
        ]
      ]
    ]

-- ---- lines
life_ranges : (numbers : List (Option ℕ)) (left : ℕ) (life : List ℕ) → left ≤ 2 ^ 40 → life_fit left numbers ≡ Some life → (length life ≡ length numbers) × AllByRecursion IsLife life × (sum life ≤ left)
unfolding life_fit
life_ranges [] left life small h = let is : [] ≡ life = cc in subst (λ (xs : List ℕ). (length xs ≡ 0) × AllByRecursion IsLife xs × (sum xs ≤ left)) is (refl, tt, omega arith)
life_ranges (number ∷ numbers) left life small h =
    let r = rest_is (between 1 left number) (λ m. life_fit (left - m) numbers) life h in
    let n = between_is 1 left number r.0 r.2 in
    let others = life_ranges numbers (left - r.0) r.1 (omega arith) r.3 in
    subst (λ (xs : List ℕ). (length xs ≡ suc (length numbers)) × AllByRecursion IsLife xs × (sum xs ≤ left)) r.4 (ap suc others.0, ((n.1, omega arith), others.1), omega (arith, sum_by-cons (λ x. x) r.0 r.1))

turns_small : (turns : Option (Option ℕ)) (t : ℕ) → turns_fit turns ≡ Some t → t ≤ 100000
turns_small None t h = let is : 0 ≡ t = cc in omega arith
turns_small (Some o) t h = let b = between_is 1 100000 o t h in b.2

item_ranges : (clients : ℕ) (raws : List RawItem) (items : List Item) → items_fit clients raws ≡ Some items → (length items ≡ length raws) × AllByRecursion (ItemFits clients) items
unfolding items_fit
item_ranges clients [] items h = let is : [] ≡ items = cc in subst (λ (xs : List Item). (length xs ≡ 0) × AllByRecursion (ItemFits clients) xs) is (refl, tt)
item_ranges clients (x ∷ raws) items h =
    let r = both_is (λ (n : Item) (ns : List Item). n ∷ ns) (both made (below clients x.client) (turns_fit x.turns)) (items_fit clients raws) items h in
    let i = both_is made (below clients x.client) (turns_fit x.turns) r.0 r.2 in
    let client = below_is clients x.client i.0 i.2 in
    let turns = turns_small x.turns i.1 i.3 in
    let others = item_ranges clients raws r.1 r.3 in
    let fits : ItemFits clients r.0 = subst (ItemFits clients) i.4 (client.1, turns) in
    subst (λ (xs : List Item). (length xs ≡ suc (length raws)) × AllByRecursion (ItemFits clients) xs) r.4 (ap suc others.0, (fits, others.1))

items_some : (word : List ℕ) (words : List (List ℕ)) (raws : List RawItem) → items_of (word ∷ words) ≡ Some raws → 0 < length raws
unfolding items_of
items_some word words raws h =
    let t = both_is (λ (n : RawItem) (ns : List RawItem). n ∷ ns) (item_from (slice_split (λ b. b == 58) word)) (items_of words) raws h in
    omega (arith, ap length t.4)

numbers_some : (word : List ℕ) (words : List (List ℕ)) (numbers : List (Option ℕ)) → numbers_of (word ∷ words) ≡ Some numbers → 0 < length numbers
unfolding numbers_of
numbers_some word words numbers h =
    let t = both_is (λ (n : Option ℕ) (ns : List (Option ℕ)). n ∷ ns) (number_of word) (numbers_of words) numbers h in
    omega (arith, ap length t.4)

-- a line with this text and in range
abbrev pub Spelled : ℕ → ℕ → List ℕ → Fit → Type 0
Spelled clients me text fit = (text ≡ fit_text fit) × FitRange clients me fit

abbrev Words : ℕ → ℕ → List ℕ → List (List ℕ) → Fit → Type 0
Words clients me head words fit = Spelled clients me (head ++ blanks words) fit

module _ (clients me : ℕ) (word : List ℕ) (others : List (List ℕ)) (shape : Shape) (fit : Fit) (fits : fit_of clients me shape ≡ Some fit) where
  order_spelt : too_many shape ≡ false → given Order (items_of (word ∷ others)) ≡ Some shape → Words clients me (codes "order") (word ∷ others) fit
  order_spelt few h =
      let g = given_is Order (items_of (word ∷ others)) shape h in
      let f = given_is FitOrder (items_fit clients g.0) fit (ap (fit_of clients me) g.2 ∙ fits) in
      let text = order_text clients (word ∷ others) g.0 f.0 g.1 f.1 in
      let r = item_ranges clients g.0 f.0 f.1 in
      let many : ltb 1000 (length g.0) ≡ false = ap too_many g.2 ∙ few in
      let at_most : length g.0 ≤ 1000 = ltb-false _ _ many in
      let some = items_some word others g.0 g.1 in
      subst (Words clients me (codes "order") (word ∷ others)) f.2 (ap (λ w. codes "order" ++ w) text, (omega arith, omega arith, r.1))

  life_spelt : given Life (numbers_of (word ∷ others)) ≡ Some shape → Words clients me (codes "life") (word ∷ others) fit
  life_spelt h =
      let g = given_is Life (numbers_of (word ∷ others)) shape h in
      let f = given_is FitLife (life_fit (2 ^ 40) g.0) fit (ap (fit_of clients me) g.2 ∙ fits) in
      let text = life_text (word ∷ others) g.0 (2 ^ 40) f.0 g.1 f.1 in
      let r = life_ranges g.0 (2 ^ 40) f.0 (omega arith) f.1 in
      let some = numbers_some word others g.0 g.1 in
      subst (Words clients me (codes "life") (word ∷ others)) f.2 (ap (λ w. codes "life" ++ w) text, (omega arith, r.1, r.2))

  pool_spelt : (wide : Bool) → given (λ n. Pool wide n.0 n.1) (two_of (word ∷ others)) ≡ Some shape → Words clients me (pool_word wide) (word ∷ others) fit
  pool_spelt wide h =
      let g = given_is (λ (n : Option ℕ × Option ℕ). Pool wide n.0 n.1) (two_of (word ∷ others)) shape h in
      let f = both_is (FitPool wide) (between 1 16 g.0.0) (between 1 (segments_limit wide) g.0.1) fit (ap (fit_of clients me) g.2 ∙ fits) in
      let n = between_is 1 16 g.0.0 f.0 f.2 in
      let s = between_is 1 (segments_limit wide) g.0.1 f.1 f.3 in
      let t = two_text (word ∷ others) f.0 f.1 (g.1 ∙ ap Some (pair_is g.0 (Some f.0) (Some f.1) n.0 s.0)) in
      subst (Words clients me (pool_word wide) (word ∷ others)) f.4 (ap (λ w. pool_word wide ++ w) t.0 ∙ sym (append_assoc (pool_word wide) (spaced f.0) (spaced f.1)), (n.1, n.2, s.1, s.2))

  client_spelt : given Client (one_of (word ∷ others)) ≡ Some shape → Words clients me (codes "client") (word ∷ others) fit
  client_spelt h =
      let g = given_is Client (one_of (word ∷ others)) shape h in
      let f = given_is FitClient (below clients g.0) fit (ap (fit_of clients me) g.2 ∙ fits) in
      let n = below_is clients g.0 f.0 f.1 in
      let t = one_text (word ∷ others) f.0 (g.1 ∙ ap Some n.0) in
      subst (Words clients me (codes "client") (word ∷ others)) f.2 (ap (λ w. codes "client" ++ w) t.0, n.1)

  command_spelt : (head : List ℕ) → given Command (command_of head (word ∷ others)) ≡ Some shape → Words clients me head (word ∷ others) fit
  command_spelt head h =
      let g = given_is Command (command_of head (word ∷ others)) shape h in
      let f = given_is FitCommand (command_fit clients me g.0) fit (ap (fit_of clients me) g.2 ∙ fits) in
      let t = command_told clients me head (word ∷ others) g.0 f.0 g.1 f.1 in
      subst (Words clients me head (word ∷ others)) f.2 t

  by_head : (head name : List ℕ) → bytes_eq head name ≡ true → Words clients me name (word ∷ others) fit → Words clients me head (word ∷ others) fit
  by_head head name h told = subst (λ w. Words clients me w (word ∷ others) fit) (sym (is_head head name h)) told

  words_spelt : (head : List ℕ) → too_many shape ≡ false → shape_by head (word ∷ others) ≡ Some shape → Words clients me head (word ∷ others) fit
  unfolding shape_by
  words_spelt head few h =
      elim (either (bytes_eq head (codes "order")) _ _ _ h) [
        | inl p ↦ by_head head (codes "order") p.0 (order_spelt few p.1)
        | inr p ↦ elim (either (bytes_eq head (codes "life")) _ _ _ p.1) [
          | inl q ↦ by_head head (codes "life") q.0 (life_spelt q.1)
          | inr q ↦ elim (either (bytes_eq head (codes "pool")) _ _ _ q.1) [
            | inl s ↦ by_head head (codes "pool") s.0 (pool_spelt false s.1)
            | inr s ↦ elim (either (bytes_eq head (codes "pool2")) _ _ _ s.1) [
              | inl v ↦ by_head head (codes "pool2") v.0 (pool_spelt true v.1)
              | inr v ↦ elim (either (bytes_eq head (codes "client")) _ _ _ v.1) [
                | inl t ↦ by_head head (codes "client") t.0 (client_spelt t.1)
                | inr t ↦ command_spelt head t.1
              ]
            ]
          ]
        ]
      ]

-- a line by its pieces
pieces_spelt : (clients me : ℕ) (pieces : List (List ℕ)) (shape : Shape) (fit : Fit) → too_many shape ≡ false → shape_from pieces ≡ Some shape → fit_of clients me shape ≡ Some fit → Spelled clients me (join_with_byte 32 pieces) fit
unfolding shape_from
pieces_spelt clients me [] shape fit few h fits = absurd cc
pieces_spelt clients me (head ∷ []) shape fit few h fits = absurd cc
pieces_spelt clients me (head ∷ word ∷ words) shape fit few h fits =
    subst (λ t. Spelled clients me t fit) (sym (join_blanks head (word ∷ words))) (words_spelt clients me word words shape fit fits head few h)

-- what was judged to fit
pub record IsJudged (seen : Seen) (line : List ℕ) (shape : Shape) (fit : Fit) : Type 0 where
  pub shaped : shape_of line ≡ Some shape
  pub stands : may_stand seen.place shape ≡ true
  pub fits : fit_of seen.clients seen.me shape ≡ Some fit
  pub first : is_second seen.taken fit ≡ false
  pub spelled : Spelled seen.clients seen.me line fit

by_range : (seen : Seen) (o : Option Fit) (fit : Fit) → ranged seen o ≡ Ok fit → (o ≡ Some fit) × (is_second seen.taken fit ≡ false)
by_range seen None fit h = absurd cc
by_range seen (Some f) fit h =
    elim (either (is_second seen.taken f) _ _ _ h) [
      | inl p ↦ absurd (err_ok Twice fit p.1)
      | inr p ↦ let is : f ≡ fit = cc in (ap Some is, ap (is_second seen.taken) (sym is) ∙ p.0)
    ]

by_shape : (seen : Seen) (line : List ℕ) (o : Option Shape) (fit : Fit) → shape_of line ≡ o → judged seen o ≡ Ok fit → (shape : Shape) × IsJudged seen line shape fit
by_shape seen line None fit is h = absurd cc
by_shape seen line (Some shape) fit is h =
    elim (either (not (may_stand seen.place shape)) _ _ _ h) [
      | inl p ↦ absurd (err_ok Syntax fit p.1)
      | inr p ↦ elim (either (too_many shape) _ _ _ p.1) [
        | inl q ↦ absurd (err_ok Limit fit q.1)
        | inr q ↦
            let r = by_range seen (fit_of seen.clients seen.me shape) fit q.1 in
            let spelt = pieces_spelt seen.clients seen.me (slice_split (λ b. b == 32) line) shape fit q.0 is r.0 in
            (shape, record { shaped = is; stands = not_not (may_stand seen.place shape) p.0; fits = r.0; first = r.1; spelled = subst (λ t. Spelled seen.clients seen.me t fit) (join_with_byte-slice_split 32 line) spelt })
      ]
    ]

pub judged_is : (seen : Seen) (line : List ℕ) (fit : Fit) → judged seen (shape_of line) ≡ Ok fit → (shape : Shape) × IsJudged seen line shape fit
judged_is seen line fit h = by_shape seen line (shape_of line) fit refl h
