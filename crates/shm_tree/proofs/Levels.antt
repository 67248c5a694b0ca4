-- What stays of a tree once a key is taken out, level by level: each level is told by the one below it.
use Rattle.std.proofs.Common.{◌≡◌, ◌≢◌, ℕ, zero, suc, ◌+◌, ◌-◌, ◌<◌, ◌≤◌, ◌==◌, Bool, true, false, cond, nat_lt, refl, sym, ap, ◌∙◌, subst, arith, inl, inr, true≢false}
use Rattle.std.proofs.lemmas.Bool.{cases_lt, cond-false, cond-true, eq-eqb, le-ltb, lt-ltb, ne_eqb}
use Rattle.std.specs.Prelude.{Option, None, Some}
use Rattle.shm_tree.specs.{declared.node.{Content.Content, Side.{Side, TheVariants.{Left, Right}}}, Building.joined_by}
use Rattle.shm_tree.specs.{Inserting.{left_of, right_of}, Raising.again}
use Rattle.shm_tree.specs.Removing.{content_in, less_least, rest, side_tree}
use Rattle.shm_tree.specs.Trees.{Tree, Empty, Node, AreAbove, IsSearch, joined, least_key, least_number, merged, removed, without_least}
use Rattle.shm_tree.specs.Ways.{IsDeep, IsEnd, IsOther, IsSome, down, toward}
use Rattle.shm_tree.proofs.{Searching.above_less, Ways.other_some}

-- ---- ways behind the node of a key

pub down_more : (x : ℕ) (t : Tree) (a j : ℕ) → down x t (a + j) ≡ down x (down x t a) j
down_more x t a zero = let e : a + 0 ≡ a = omega arith in ap (down x t) e
down_more x t a (suc j) = let e : a + suc j ≡ suc (a + j) = omega arith in ap (down x t) e ∙ ap (toward x) (down_more x t a j)

either_above : (k : ℕ) (c : Bool) (l r : Tree) → AreAbove k l → AreAbove k r → AreAbove k (cond c l r)
either_above k true l r hl hr = hl
either_above k false l r hl hr = hr

toward_above : (x k : ℕ) (t : Tree) → AreAbove k t → AreAbove k (toward x t)
toward_above x k Empty h = h
toward_above x k (Node i n l r) (lt, hl, hr) = either_above k (nat_lt x i) l r hl hr

first_above : (x : ℕ) (t : Tree) → IsSearch t → IsEnd x t → AreAbove x (toward x t)
first_above x Empty s e = tt
first_above x (Node k n l r) s e = rw (le-ltb x k (omega (arith, e))) (above_less k x r (omega (arith, e)) s.1)

-- behind the node of a key the way goes over greater keys alone
pub behind : (x : ℕ) (t : Tree) (j : ℕ) → IsSearch t → IsEnd x t → AreAbove x (down x t (suc j))
behind x t zero s e = first_above x t s e
behind x t (suc j) s e = toward_above x x (down x t (suc j)) (behind x t j s e)

-- ---- one level

by_side : (x k n : ℕ) (l r : Tree) (b : Bool) → cond b (joined k n (removed x l) r) (joined k n l (removed x r)) ≡ joined_by (cond b Left Right) (record { key = k; number = n }) (removed x (cond b l r)) (cond b r l)
by_side x k n l r true = refl
by_side x k n l r false = refl

-- above the node of the key
removed_up : (x : ℕ) (t : Tree) → IsOther x t → removed x t ≡ again x None t (removed x (toward x t))
removed_up x Empty o = absurd o
removed_up x (Node k n l r) o = cond-false (x == k) (merged l r) (cond (nat_lt x k) (joined k n (removed x l) r) (joined k n l (removed x r))) (ne_eqb x k o) ∙ by_side x k n l r (nat_lt x k)

-- behind it
by_least : (k n : ℕ) (l r : Tree) (b : Bool) → b ≡ true → IsSome (cond b l r) → without_least k n l r ≡ joined_by (cond b Left Right) (record { key = k; number = n }) (less_least (cond b l r)) (cond b r l)
by_least k n l r false e some = absurd (true≢false (sym e))
by_least k n Empty r true e some = absurd some
by_least k n (Node j m a b) r true e some = refl

least_up : (x : ℕ) (t : Tree) → AreAbove x t → IsSome t → IsSome (toward x t) → less_least t ≡ again x None t (less_least (toward x t))
least_up x Empty above some more = absurd some
least_up x (Node k n l r) above some more = by_least k n l r (nat_lt x k) (lt-ltb x k above.0) more

-- at it
abbrev pub least_content : Tree → Content
least_content Empty = record { key = 0; number = 0 }
least_content (Node k n l r) = record { key = least_key k n l; number = least_number k n l }

by_here : (l r : Tree) (b : Bool) (c d : Content) → b ≡ false → IsSome (cond b l r) → c ≡ least_content (cond b l r) → merged l r ≡ joined_by (cond b Left Right) c (less_least (cond b l r)) (cond b r l)
by_here l r true c d e some is = absurd (true≢false e)
by_here l Empty false c d e some is = absurd some
by_here l (Node k n a b) false c d e some is = ap (λ (o : Content). joined o.key o.number l (without_least k n a b)) (sym is)

removed_here : (x : ℕ) (t : Tree) (c : Content) → IsEnd x t → IsSome t → IsSome (toward x t) → c ≡ least_content (toward x t) → removed x t ≡ again x (Some c) t (less_least (toward x t))
removed_here x Empty c e some more is = absurd some
removed_here x (Node k n l r) c e some more is =
    cond-true (x == k) (merged l r) (cond (nat_lt x k) (joined k n (removed x l) r) (joined k n l (removed x r))) (eq-eqb x k e) ∙ by_here l r (nat_lt x k) c c (le-ltb x k (omega (arith, e))) more is

-- ---- the lowest node

none_left : (b : Bool) (l r : Tree) → b ≡ true → cond b l r ≡ Empty → l ≡ Empty
none_left true l r e h = h
none_left false l r e h = absurd (true≢false (sym e))

none_right : (b : Bool) (l r : Tree) → b ≡ false → cond b l r ≡ Empty → r ≡ Empty
none_right true l r e h = absurd (true≢false e)
none_right false l r e h = h

-- that of the next greater key leaves what is on its right
least_last : (x : ℕ) (t : Tree) → AreAbove x t → toward x t ≡ Empty → less_least t ≡ right_of t
least_last x Empty above end = refl
least_last x (Node k n l r) above end = ap (λ (u : Tree). without_least k n u r) (none_left (nat_lt x k) l r (lt-ltb x k above.0) end)

-- the key's leaves what is on its left
removed_last : (x : ℕ) (t : Tree) → IsEnd x t → toward x t ≡ Empty → removed x t ≡ left_of t
removed_last x Empty e end = refl
removed_last x (Node k n l r) e end =
    cond-true (x == k) (merged l r) (cond (nat_lt x k) (joined k n (removed x l) r) (joined k n l (removed x r))) (eq-eqb x k e) ∙ ap (merged l) (none_right (nat_lt x k) l r (le-ltb x k (omega (arith, e))) end)

-- ---- the least key

by_content : (k n : ℕ) (l r : Tree) (b : Bool) → b ≡ true → IsSome (cond b l r) → least_content (Node k n l r) ≡ least_content (cond b l r)
by_content k n l r false e some = absurd (true≢false (sym e))
by_content k n Empty r true e some = absurd some
by_content k n (Node j m a b) r true e some = refl

least_same : (x : ℕ) (t : Tree) → AreAbove x t → IsSome t → IsSome (toward x t) → least_content t ≡ least_content (toward x t)
least_same x Empty above some more = absurd some
least_same x (Node k n l r) above some more = by_content k n l r (nat_lt x k) (lt-ltb x k above.0) more

least_end : (x : ℕ) (t : Tree) → AreAbove x t → toward x t ≡ Empty → least_content t ≡ content_in t
least_end x Empty above end = refl
least_end x (Node k n l r) above end = ap (λ (u : Tree). least_content (Node k n u r)) (none_left (nat_lt x k) l r (lt-ltb x k above.0) end)

-- ---- the whole way

-- The way to the key x in the tree t passes the key's node a nodes down, and its lowest node is e nodes down
pub record IsWay (x a e : ℕ) (t : Tree) : Type 0 where
  pub low : a ≤ e
  pub on : (i : ℕ) → i < a → IsOther x (down x t i)
  pub here : IsEnd x (down x t a)
  pub above : (i : ℕ) → a < i → AreAbove x (down x t i)
  pub deep : IsDeep x t (suc e)
  pub end : down x t (suc e) ≡ Empty

pub way_is : (x a e : ℕ) (t : Tree) → a ≤ e → IsSearch (down x t a) → ((i : ℕ) → i < a → IsOther x (down x t i)) → IsEnd x (down x t a) → IsDeep x (down x t a) (suc (e - a)) → down x (down x t a) (suc (e - a)) ≡ Empty → IsWay x a e t
way_is x a e t le s on here deep end =
    record {
      low = le;
      on = on;
      here = here;
      above =
          λ i lt.
          (let j : ℕ = i - suc a in
          let is : i ≡ a + suc j = omega (arith, lt) in
          subst (λ (k : ℕ). AreAbove x (down x t k)) (sym is) (subst (AreAbove x) (sym (down_more x t a (suc j))) (behind x (down x t a) j s here)));
      deep =
          λ i lt. elim (cases_lt i a) [
            | inl up ↦ other_some x (down x t i) (on i up)
            | inr ge ↦
                (let j : ℕ = i - a in
                let is : i ≡ a + j = omega (arith, ge) in
                subst (λ (k : ℕ). IsSome (down x t k)) (sym is) (subst IsSome (sym (down_more x t a j)) (deep j (omega (arith, lt, ge, le)))))
          ];
      end = (let is : suc e ≡ a + suc (e - a) = omega (arith, le) in ap (down x t) is ∙ (down_more x t a (suc (e - a)) ∙ end));
    }

module _ (x a e : ℕ) (t : Tree) (w : IsWay x a e t) where
  least_from : (j i : ℕ) → i + j ≡ e → a < i → least_content (down x t i) ≡ content_in (down x t e)
  least_from zero i is lt =
      let same : i ≡ e = omega (arith, is) in
      least_end x (down x t i) (w.above i lt) (ap (λ (k : ℕ). down x t (suc k)) same ∙ w.end) ∙ ap (λ (k : ℕ). content_in (down x t k)) same
  least_from (suc j) i is lt = least_same x (down x t i) (w.above i lt) (w.deep i (omega (arith, is))) (w.deep (suc i) (omega (arith, is))) ∙ least_from j (suc i) (omega (arith, is)) (omega (arith, lt))

  -- the next greater key and its number
  pub next_is : a < e → least_content (down x t (suc a)) ≡ content_in (down x t e)
  next_is lt = let low = w.low in least_from (e - suc a) (suc a) (omega (arith, lt)) (omega arith)

  rest_up : (i : ℕ) → i ≤ a → rest x a t i ≡ removed x (down x t i)
  rest_up i le = cond-false (nat_lt a i) (less_least (down x t i)) (removed x (down x t i)) (le-ltb a i le)

  rest_low : (i : ℕ) → a < i → rest x a t i ≡ less_least (down x t i)
  rest_low i lt = cond-true (nat_lt a i) (less_least (down x t i)) (removed x (down x t i)) (lt-ltb a i lt)

  abbrev pub told : ℕ → Option Content
  told i = cond (i == a) (cond (e == a) None (Some (content_in (down x t e)))) None

  told_other : (i : ℕ) → i ≢ a → told i ≡ None
  told_other i ne = cond-false (i == a) (cond (e == a) None (Some (content_in (down x t e)))) None (ne_eqb i a ne)

  told_here : a < e → told a ≡ Some (content_in (down x t e))
  told_here lt =
      cond-true (a == a) (cond (e == a) None (Some (content_in (down x t e)))) None (eq-eqb a a refl) ∙ cond-false (e == a) None (Some (content_in (down x t e))) (ne_eqb e a (λ s. omega (arith, s, lt)))

  -- what stays at a level, by what stays below it
  pub rest_level : (i : ℕ) → i < e → rest x a t i ≡ again x (told i) (down x t i) (rest x a t (suc i))
  rest_level i lt =
      let u : Tree = down x t i in
      elim (cases_lt i a) [
        | inl up ↦
            rest_up i (omega (arith, up)) ∙ (removed_up x u (w.on i up) ∙ (ap (λ (o : Option Content). again x o u (removed x (toward x u))) (sym (told_other i (λ s. omega (arith, s, up)))) ∙ ap (again x (told i) u) (sym (rest_up (suc i) (omega (arith, up))))))
        | inr ge ↦ elim (cases_lt a i) [
          | inl past ↦
              rest_low i past ∙ (least_up x u (w.above i past) (w.deep i (omega (arith, lt))) (w.deep (suc i) (omega (arith, lt))) ∙ (ap (λ (o : Option Content). again x o u (less_least (toward x u))) (sym (told_other i (λ s. omega (arith, s, past)))) ∙ ap (again x (told i) u) (sym (rest_low (suc i) (omega (arith, past))))))
          | inr le ↦
              (let is : i ≡ a = omega (arith, ge, le) in
              let first : rest x a t a ≡ again x (Some (content_in (down x t e))) (down x t a) (less_least (down x t (suc a))) =
              rest_up a (omega arith) ∙ removed_here x (down x t a) (content_in (down x t e)) w.here (w.deep a (omega (arith, lt, is))) (w.deep (suc a) (omega (arith, lt, is))) (sym (next_is (omega (arith, lt, is)))) in
              let all : rest x a t a ≡ again x (told a) (down x t a) (rest x a t (suc a)) =
              first ∙ (ap (λ (o : Option Content). again x o (down x t a) (less_least (down x t (suc a)))) (sym (told_here (omega (arith, lt, is)))) ∙ ap (again x (told a) (down x t a)) (sym (rest_low (suc a) (omega arith)))) in
              subst (λ (k : ℕ). rest x a t k ≡ again x (told k) (down x t k) (rest x a t (suc k))) (sym is) all)
        ]
      ]

  -- what stays at the lowest node
  pub rest_last : rest x a t e ≡ side_tree (cond (e == a) Left Right) (down x t e)
  rest_last = elim (cases_lt a e) [
    | inl lt ↦ rest_low e lt ∙ (least_last x (down x t e) (w.above e lt) w.end ∙ ap (λ (s : Side). side_tree s (down x t e)) (sym (cond-false (e == a) Left Right (ne_eqb e a (λ s. omega (arith, s, lt))))))
    | inr ge ↦
        let low = w.low in
        let is : e ≡ a = omega (arith, ge, low) in
        rest_up e ge ∙ (removed_last x (down x t e) (subst (λ (k : ℕ). IsEnd x (down x t k)) (sym is) w.here) w.end ∙ ap (λ (s : Side). side_tree s (down x t e)) (sym (cond-true (e == a) Left Right (eq-eqb e a is))))
  ]

  pub rest_top : rest x a t 0 ≡ removed x t
  rest_top = rest_up 0 (omega arith)
