-- Each live block is a node of a tree that a root names, where references fall, or a tree stands at each live block.
use Rattle.std.proofs.Common.{◌≡◌, ◌≢◌, ◌==◌, ◌||◌, ℕ, zero, suc, ◌+◌, ◌-◌, ◌<◌, ◌≤◌, Bool, true, false, cond, List, [], sym, ap, ◌∙◌, subst, arith, inl, inr, true≢false}
use Rattle.std.proofs.lemmas.Bool.{and_parts, cases_Bool, cases_eq, eqb-true, eq-eqb, ltb-true, ne_eqb}
use Rattle.std.specs.List.{Contains}
use Rattle.shm_words.specs.declared.{geometry.Geometry.Geometry, place.Place.Place}
use Rattle.shm_words.specs.{Layout.{is_in, place_at, total_of}, Tags.tag_refs}
use Rattle.shm_words.specs.declared.place.Place.TheVariants as place
use Rattle.shm_words.proofs.Placing.{in_place}
use Rattle.shm_graph.specs.declared.spot.Spot.{Spot, TheVariants.{Unused, Head, Tag, Body, Home, Root, Slot}}
use Rattle.shm_graph.specs.{Blocks.{classes, headers}, Ops.{held_over_of, indegree}}
use Rattle.shm_graph.specs.{References.{one_if, references_to, sum_below}, Spots.{see, spot_at, spot_of}}
use Rattle.shm_graph.specs.{Views.{View, held_overs, targets, view}, Runs.memos_of}
use Rattle.shm_graph.proofs.States.Holders.{held_live_not_zero, target_counted}
use Rattle.shm_plain.specs.Pools.{Pool, memo_of}
use Rattle.shm_count.specs.declared.answer.Made.{Made}
use Rattle.shm_tree.proofs.{Eras.spent_stays, Lights.{once, part_weighs, weighs_live, either, or_first, or_true}}
use Rattle.shm_tree.proofs.{Living.lives_few, Falls.{body_inside, lives_fall}}
use Rattle.shm_tree.proofs.Nodes.{IsCalm, body_names, calm_first, calm_held, names, root_is, root_names, working_calm}
use Rattle.shm_tree.specs.{Building.{IsBuilt, root_block}, Falling.AreFalling, Inserting.{is_part, outside}}
use Rattle.shm_tree.specs.{Keeping.is_live, Living.{AreFewNew, AreLivesNodes, AreLivesTrees, AreRootsTrees, KeepsLives}}
use Rattle.shm_tree.specs.{Standing.{TreeStands, weight, word_of}, Trees.{Tree, Empty, Node}}
use Rattle.shm_tree.specs.Working.{IsSpent, IsWorking, Went}

-- ---- nodes of trees

pub top_part : (q : Pool) (b a : ℕ) (t : Tree) → TreeStands q a t → a ≡ b → b ≢ 0 → is_part q b a t ≡ true
top_part q b a Empty s e some = absurd (some (sym e ∙ s))
top_part q b a (Node k n l r) s e some = or_first (b == a) (is_part q b (word_of q (Body a 0)) l || is_part q b (word_of q (Body a 1)) r) (eq-eqb b a (sym e))

-- a child of a node of a tree is one too
pub part_child : (q : Pool) (d b i : ℕ) → i < 2 → word_of q (Body d i) ≡ b → b ≢ 0 → (a : ℕ) (t : Tree) → TreeStands q a t → is_part q d a t ≡ true → is_part q b a t ≡ true
part_child q d b i low child some a Empty s e = absurd (true≢false (sym e))
part_child q d b i low child some a (Node k n l r) s e =
    let left : Bool = is_part q b (word_of q (Body a 0)) l in
    let right : Bool = is_part q b (word_of q (Body a 1)) r in
    or_true (b == a) (left || right) (elim (either (d == a) (is_part q d (word_of q (Body a 0)) l || is_part q d (word_of q (Body a 1)) r) e) [
      | inl y ↦
          (let is : d ≡ a = eqb-true d a y in
          let here : word_of q (Body a i) ≡ b = ap (λ (z : ℕ). word_of q (Body z i)) (sym is) ∙ child in
          elim (cases_eq i 0) [
            | inl first ↦ or_first left right (top_part q b (word_of q (Body a 0)) l s.1 (ap (λ (z : ℕ). word_of q (Body a z)) (sym first) ∙ here) some)
            | inr ne ↦ (let second : 1 ≡ i = omega (arith, low, ne) in or_true left right (top_part q b (word_of q (Body a 1)) r s.2 (ap (λ (z : ℕ). word_of q (Body a z)) second ∙ here) some))
          ])
      | inr y ↦ elim (either (is_part q d (word_of q (Body a 0)) l) (is_part q d (word_of q (Body a 1)) r) y) [
        | inl x ↦ or_first left right (part_child q d b i low child some (word_of q (Body a 0)) l s.1 x)
        | inr x ↦ or_true left right (part_child q d b i low child some (word_of q (Body a 1)) r s.2 x)
      ]
    ])

-- ---- spots that name blocks

sum_some : (n : ℕ) (f : ℕ → ℕ) (b : ℕ) → 0 < sum_below n (λ a. one_if (f a == b)) → (a : ℕ) × (a < n) × (f a ≡ b)
sum_some zero f b l = absurd (omega (arith, l))
sum_some (suc n) f b l =
    elim (cases_eq (f n) b) [
      | inl e ↦ (n, omega arith, e)
      | inr d ↦ (let z : one_if (f n == b) ≡ 0 = ap one_if (ne_eqb (f n) b d) in let r = sum_some n f b (omega (arith, l, z)) in (r.0, (let i = r.1 in omega (arith, i)), r.2))
    ]

pub named_where : (g : Geometry) (class : ℕ → ℕ → ℕ) (t : Spot → ℕ) (b : ℕ) → 0 < references_to g class t b → (a : ℕ) × (a < total_of g) × (t (spot_at g class a) ≡ b)
unfolding references_to
named_where g class t b l = sum_some (total_of g) (λ a. t (spot_at g class a)) b l

-- of one identity that holds nothing over, the references are all that name a block
pub only_references : (g : Geometry) (class : ℕ → ℕ → ℕ) (t : Spot → ℕ) (l : ℕ → ℕ) (b : ℕ) → g.clients ≡ 1 → l 0 ≡ 0 → b ≢ 0 → indegree g class t l b ≡ references_to g class t b
unfolding indegree
only_references g class t l b one none some =
    let over : sum_below g.clients (λ c. one_if (l c == b)) ≡ sum_below 1 (λ c. one_if (l c == b)) = ap (λ (n : ℕ). sum_below n (λ c. one_if (l c == b))) one in
    let zero_here : one_if (l 0 == b) ≡ 0 = ap (λ (x : ℕ). one_if (x == b)) none ∙ ap one_if (ne_eqb 0 b (λ e. some (sym e))) in
    omega (arith, over, zero_here)

-- the identities that a spot of a pool names are in it
abbrev pub Bounds : Geometry → Spot → Type 0
Bounds g (Home c) = c < g.clients
Bounds g (Root c k) = (c < g.clients) × (k < 16)
Bounds g (Slot s r k) = (s < g.clients) × (r < g.clients)
Bounds g s = Unit {0}

body_bounds : (g : Geometry) (a b i : ℕ) (x y z : Bool) → Bounds g (cond x (Unused a) (cond y (Head a) (cond z (Tag (a - 1)) (Body b i))))
body_bounds g a b i true y z = tt
body_bounds g a b i false true z = tt
body_bounds g a b i false false true = tt
body_bounds g a b i false false false = tt

place_bounds : (g : Geometry) (class : ℕ → ℕ → ℕ) (a : ℕ) (p : Place) → is_in g p ≡ true → Bounds g (spot_of class a p)
place_bounds g class a (place.Home c) e = ltb-true c g.clients e
place_bounds g class a (place.Root c k) e = (let w = and_parts _ _ e in (ltb-true c g.clients w.0, ltb-true k 16 w.1))
place_bounds g class a (place.Slot s r k) e = (let w = and_parts _ _ (and_parts _ _ e).0 in (ltb-true s g.clients w.0, ltb-true r g.clients w.1))
place_bounds g class a (place.Body s p i) e = body_bounds g a _ _ (class s p == 0) _ _
place_bounds g class a _ e = tt

pub spot_bounds : (g : Geometry) (class : ℕ → ℕ → ℕ) (a : ℕ) → is_in g (place_at g a) ≡ true → Bounds g (spot_at g class a)
unfolding spot_at
spot_bounds g class a e = place_bounds g class a (place_at g a) e

-- ---- from a live block up to a root

-- where references fall and each live block is counted, each is named by a root, or by a word of a live block that is so too
module _ (q : Pool) (calm : IsCalm q) (falling : AreFalling q) (counted : (b : ℕ) → is_live q b ≡ true → 0 < (headers (see q.start.geometry q.words) b).count) (P : ℕ → Type 0) (by_root : (k b : ℕ) → k < 16 → b ≢ 0 → names q (Root 0 k) ≡ b → P b) (by_body : (d i b : ℕ) → b ≢ 0 → names q (Body d i) ≡ b → is_live q d ≡ true → P d → P b) where
  abbrev g : Geometry
  g = q.start.geometry

  abbrev w : Spot → ℕ
  w = see g q.words

  abbrev v : View
  v = view (memos_of q.accounts)

  low_zero : (c : ℕ) → c < g.clients → c ≡ 0
  low_zero c l = let n = calm.one in omega (arith, n, l)

  some_live : (b : ℕ) → is_live q b ≡ true → b ≢ 0
  some_live b live = held_live_not_zero g w v (calm_held q calm) b live

  where_named : (b : ℕ) → is_live q b ≡ true → (a : ℕ) × (names q (spot_at g (classes w) a) ≡ b) × Bounds g (spot_at g (classes w) a)
  where_named b live =
      let held = calm_held q calm in
      let over : held_overs v 0 ≡ 0 = ap held_over_of calm.idle in
      let counts = held.count.counts b live in
      let one = only_references g (classes w) (targets g w v) (held_overs v) b calm.one over (some_live b live) in
      let some = counted b live in
      let x = named_where g (classes w) (targets g w v) b (omega (arith, counts, one, some)) in
      (x.0, x.2, spot_bounds g (classes w) x.0 (in_place g x.0 held.fits x.1))

  by_spot : (s : Spot) (b : ℕ) → Bounds g s → b ≢ 0 → ((e : ℕ) → is_live q e ≡ true → falling.rank b < falling.rank e → falling.rank e ≤ falling.most → P e) → names q s ≡ b → P b
  by_spot (Home c) b low some rec e = absurd (some (sym e ∙ (ap (λ (z : ℕ). names q (Home z)) (low_zero c low) ∙ falling.home)))
  by_spot (Root c k) b low some rec e = by_root k b low.1 some (ap (λ (z : ℕ). names q (Root z k)) (sym (low_zero c low.0)) ∙ e)
  by_spot (Slot s r k) b low some rec e =
      let lane = (calm_held q calm).self_lanes 0 (calm_first q calm) in
      absurd (some (sym e ∙ (ap (λ (z : ℕ). names q (Slot z r k)) (low_zero s low.0) ∙ (ap (λ (z : ℕ). names q (Slot 0 z k)) (low_zero r low.1) ∙ lane.2 k))))
  by_spot (Body d i) b low some rec e =
      let x = body_inside q d i (λ none. some (sym e ∙ none)) in
      let y = falling.falls d i (λ none. some (sym e ∙ none)) in
      by_body d i b some e x.0 (rec d x.0 (subst (λ (z : ℕ). falling.rank z < falling.rank d) e y.0) y.1)
  by_spot _ b low some rec e = absurd (some (sym e))

  climb : (n b : ℕ) → is_live q b ≡ true → falling.most < falling.rank b + n → P b
  climb zero b live le =
      let x = where_named b live in
      by_spot (spot_at g (classes w) x.0) b x.2 (some_live b live) (λ e l up top. absurd (omega (arith, le, up, top))) x.1
  climb (suc n) b live le =
      let x = where_named b live in
      by_spot (spot_at g (classes w) x.0) b x.2 (some_live b live) (λ e l up top. climb n e l (omega (arith, le, up))) x.1

  pub upward : (b : ℕ) → is_live q b ≡ true → P b
  upward b live = climb (falling.most + 1) b live (omega arith)

-- ---- nodes of trees that roots name

pub part_stands : (q : Pool) (z b : ℕ) (t : Tree) → TreeStands q b t → is_part q z b t ≡ true → (k n : ℕ) × (l r : Tree) × TreeStands q z (Node k n l r)
part_stands q z b Empty st e = absurd (true≢false (sym e))
part_stands q z b (Node k n l r) st e =
    elim (either (z == b) (is_part q z (word_of q (Body b 0)) l || is_part q z (word_of q (Body b 1)) r) e) [
      | inl y ↦ (k, n, l, r, subst (λ (d : ℕ). TreeStands q d (Node k n l r)) (sym (eqb-true z b y)) st)
      | inr y ↦ elim (either (is_part q z (word_of q (Body b 0)) l) (is_part q z (word_of q (Body b 1)) r) y) [
        | inl x ↦ part_stands q z (word_of q (Body b 0)) l st.1 x
        | inr x ↦ part_stands q z (word_of q (Body b 1)) r st.2 x
      ]
    ]

module _ (q : Pool) (work : IsWorking q) (none : (memo_of q 0).dying ≡ []) (falling : AreFalling q) (roots : AreRootsTrees q) where
  calm : IsCalm q
  calm = working_calm q work

  -- a live block that isn't counted would be a zero-count block
  all_counted : (b : ℕ) → is_live q b ≡ true → 0 < (headers (see q.start.geometry q.words) b).count
  all_counted b live =
      elim (cases_eq (headers (see q.start.geometry q.words) b).count 0) [
        | inr ne ↦ omega (arith, ne)
        | inl zero_count ↦
            (let held = calm_held q calm in
            let low = held.era.client b live in
            let alone = work.one in
            let mine : (headers (see q.start.geometry q.words) b).client ≡ 0 = omega (arith, low, alone) in
            let y : Contains [] b = subst (λ (xs : List ℕ). Contains xs b) none ((held.dying 0 (calm_first q calm)).all b (live, zero_count, mine)) in
            let l = y.1 in
            absurd (omega (arith, l)))
      ]

  -- a tree that a root names, of which it is a node
  abbrev Found : ℕ → Type 0
  Found b = (j : ℕ) × (j < 16) × (t : Tree) × TreeStands q (root_block q j) t × (is_part q b (root_block q j) t ≡ true)

  found_root : (k b : ℕ) → k < 16 → b ≢ 0 → names q (Root 0 k) ≡ b → Found b
  found_root k b low some e =
      let is : root_block q k ≡ b = root_is q calm k ∙ (sym (root_names q calm k) ∙ e) in
      let t = roots k low in
      (k, low, t.0, t.1, top_part q b (root_block q k) t.0 t.1 is some)

  found_body : (d i b : ℕ) → b ≢ 0 → names q (Body d i) ≡ b → is_live q d ≡ true → Found d → Found b
  found_body d i b some e live f =
      let node = part_stands q d (root_block q f.0) f.2 f.3 f.4 in
      let two : tag_refs q.start.geometry.wide (word_of q (Tag d)) ≡ 2 = node.4.0.refs in
      let low = (body_inside q d i (λ z. some (sym e ∙ z))).1 in
      let child : word_of q (Body d i) ≡ b = sym (body_names q calm d i live low) ∙ e in
      (f.0, f.1, f.2, f.3, part_child q d b i (omega (arith, low, two)) child some (root_block q f.0) f.2 f.3 f.4)

  pub falling_nodes : AreLivesNodes q
  falling_nodes b live = upward q calm falling all_counted Found found_root found_body b live

-- what roots name are live blocks
roots_trees : (p : Pool) → IsWorking p → AreLivesTrees p → AreRootsTrees p
roots_trees p work trees j low =
    elim (cases_eq (root_block p j) 0) [
      | inl e ↦ (Empty, e)
      | inr ne ↦
          (let calm = working_calm p work in
          trees (root_block p j) (target_counted p.start.geometry _ _ (calm_held p calm) (Root 0 j) (root_block p j) ne (root_names p calm j ∙ sym (root_is p calm j))).0)
    ]

pub lives_nodes : (q : Pool) → IsWorking q → (memo_of q 0).dying ≡ [] → AreLivesTrees q → AreLivesNodes q
lives_nodes q work none trees = falling_nodes q work none (lives_fall q work trees work.home) (roots_trees q work trees)

-- ---- how many blocks came to be live

pub lives_fresh : {n : ℕ} {m : Made} (p q : Pool) (i top : ℕ) (t u : Tree) → IsWorking p → IsWorking q → (IsSpent (memo_of q 0) → ⊥) → AreLivesTrees p → KeepsLives p q → IsBuilt n m p q → TreeStands p top t → TreeStands q m.block u → weight (outside p top t) q m.block u ≤ i → AreFewNew i p q
lives_fresh p q i top t u wp wq calm trees rests built st su few =
    let none : (memo_of q 0).dying ≡ [] = elim wq.dying [ inl e ↦ e | inr s ↦ absurd (calm s) ] in
    let later : AreLivesTrees q = λ b live. rests calm b live (elim (cases_Bool (is_live p b)) [ inl l ↦ inr (trees b l) | inr dead ↦ inl dead ]) in
    lives_few p q i top t u (roots_trees p wp trees) (lives_nodes q wq none later) built st su few

-- Where a tree was built, each block that was live is so still: it is a node of a tree that a root names
pub lives_stay : {n x y : ℕ} {m : Made} (p q : Pool) → IsWorking p → IsWorking q → Went p q x y → (IsSpent (memo_of q 0) → ⊥) → AreLivesTrees p → IsBuilt n m p q → (b : ℕ) → is_live p b ≡ true → is_live q b ≡ true
lives_stay p q wp wq went calm trees built b live =
    let none : (memo_of p 0).dying ≡ [] = elim wp.dying [ inl e ↦ e | inr s ↦ absurd (calm (spent_stays p q wp wq went s)) ] in
    let w = lives_nodes p wp none trees b live in
    let there : TreeStands q (root_block p w.0) w.2 = built.trees w.0 w.2 w.1 w.3 in
    let some = part_weighs p b (root_block p w.0) w.2 w.4 in
    let same = built.blocks (once b) w.0 w.2 w.1 w.3 in
    weighs_live q b (root_block p w.0) w.2 there (omega (arith, some, same))
