-- One level of a tree without a key, over what stays below it, if anything.
use Rattle.std.proofs.Common.{◌≡◌, ◌≢◌, ◌==◌, ℕ, zero, suc, cond, ◌+◌, ◌*◌, ◌-◌, ◌≤◌, nat_lt, refl, sym, ap, ◌∙◌, subst, arith, inl, inr}
use Rattle.std.proofs.lemmas.Bool.{cases_eq, cond-true, eq-eqb}
use Rattle.std.specs.Prelude.{IfSome, Option, None, Some}
use Rattle.shm_graph.specs.{declared.spot.Spot.TheVariants.Body, References.{one_if, sum_below}}
use Rattle.shm_plain.specs.Pools.{IsRun, Pool}
use Rattle.shm_count.specs.declared.answer.Made.{Made}
use Rattle.shm_tree.specs.{declared.node.{Content.Content, Side.{Side, TheVariants.{Left, Right}}}, Bounds.fall_steps}
use Rattle.shm_tree.specs.Building.{IsAtHand, IsBuilt, IsCut, IsHeld, IsRebuilt, block_of, root_block, rooms}
use Rattle.shm_tree.specs.{Inserting.IsRegistered, Keeping.{IsShared, IsStill, child_of}, Living.KeepsLives}
use Rattle.shm_tree.specs.{Removing.{IsKept, StandsMoved, content_in, rest, side_tree}, Spending.HasSpent}
use Rattle.shm_tree.specs.{Standing.{TreeStands, weight, word_of}, Trees.{Tree, Empty, Node, IsSearch, found}}
use Rattle.shm_tree.specs.Ways.{IsEnd, IsLast, IsPlace, IsSome, down}
use Rattle.shm_tree.specs.Working.{AreSameRoots, IsSameLatch, IsWorking, Went}
use Rattle.shm_tree.proofs.Building.{built_after, built_cut, made_more, none_stands, root_reached, rooms_rooted, still_cut, cut_then}
use Rattle.shm_tree.proofs.{Inserting.{built_held, built_up}, Levels.{IsWay, down_more, way_is}, Nodes.made_then}
use Rattle.shm_tree.proofs.{Rotations.content_is, Growing.down_tree, Ways.{down_found, tree_is}}
use Rattle.shm_tree.proofs.Weights.{blocks_nodes, weight_nodes}

-- ---- a tree or none

pub kept_cut : {n : ℕ} {p q : Pool} (o : Option Made) → IsKept n o p q → IsCut n p q
kept_cut None h = h.0
kept_cut (Some m) h = built_cut h

pub kept_none : {p q : Pool} → IsStill p q → IsKept 0 None p q
kept_none s = (still_cut s, s.roots)

pub kept_share : {m : Made} {p q : Pool} (b : ℕ) → m.block ≡ b → b ≢ 0 → IsShared m.root b p q → IsKept 0 (Some m) p q
kept_share {m = m} {p = p} {q = q} b is some s =
    record {
      rooted = record { low = s.rooted.low; empty = s.rooted.empty; names = s.rooted.names ∙ sym is; others = s.rooted.others };
      some = λ e. some (sym is ∙ e);
      trees = λ j t low h. s.trees (root_block p j) t h;
      blocks = blocks_nodes s.nodes;
      made = s.made;
    }

-- as many blocks, or more
pub kept_more : (p q : Pool) (n k : ℕ) (o : Option Made) → n ≤ k → IsKept n o p q → IsKept k o p q
kept_more p q n k None le h = (record { trees = h.0.trees; roots = h.0.roots; blocks = h.0.blocks; made = made_more n k p q h.0.made le }, h.1)
kept_more p q n k (Some m) le h = record { rooted = h.rooted; some = h.some; trees = h.trees; blocks = h.blocks; made = made_more n k p q h.made le }

-- after calls that read
pub kept_after : (n : ℕ) (p q r : Pool) (o : Option Made) → IsRun p → IsRun q → q.start ≡ p.start → IsStill p q → IsKept n o q r → IsKept n o p r
kept_after n p q r None hp hq start a h =
    (let c = cut_then hp hq start (still_cut a) h.0 in record { trees = c.trees; roots = c.roots; blocks = c.blocks; made = made_more (0 + n) n p r c.made (omega arith) }, λ k. h.1 k ∙ a.roots k)
kept_after n p q r (Some m) hp hq start a h = built_after hp hq start a h

pub kept_held : (n : ℕ) (p q : Pool) (o : Option Made) (u : Tree) → IsKept n o p q → TreeStands q (block_of o) u → IfSome o (IsHeld q)
kept_held n p q None u h st = tt
kept_held n p q (Some m) u h st = built_held u h st

same_below : (p q : Pool) (n : ℕ) → AreSameRoots p q → sum_below n (λ j. one_if (root_block q j == 0)) ≡ sum_below n (λ j. one_if (root_block p j == 0))
same_below p q zero h = refl
same_below p q (suc n) h =
    let a = same_below p q n h in
    let e : one_if (root_block q n == 0) ≡ one_if (root_block p n == 0) = ap (λ (x : ℕ). one_if (x == 0)) (h n) in
    omega arith

same_rooms : (p q : Pool) → AreSameRoots p q → rooms q ≡ rooms p
unfolding rooms
same_rooms p q s = same_below p q 16 s

-- rooms for three more where there were four
pub kept_rooms : (n : ℕ) (p q : Pool) (o : Option Made) → IsKept n o p q → 4 ≤ rooms p → 3 ≤ rooms q
kept_rooms n p q None h room = let same = same_rooms p q h.1 in omega (arith, same, room)
kept_rooms n p q (Some m) h room = let less = rooms_rooted h.rooted in omega (arith, less, room)

-- what a root names stands once calls were cut, and is at hand
pub cut_stands : {p q : Pool} {b n : ℕ} (t : Tree) → IsRegistered p b → IsCut n p q → TreeStands p b t → TreeStands q b t
cut_stands {p = p} {q = q} {b = b} t g h s =
    elim (cases_eq b 0) [
      | inl e ↦ none_stands p q b t e s
      | inr d ↦ (let k = g.named d in subst (λ (d : ℕ). TreeStands q d t) k.2 (h.trees k.0 t k.1 (subst (λ (d : ℕ). TreeStands p d t) (sym k.2) s)))
    ]

pub cut_at_hand : {p q : Pool} {b n : ℕ} → IsRegistered p b → IsCut n p q → IsWorking q → IsAtHand q b
cut_at_hand {p = p} {q = q} {b = b} g h w =
    ((g.tree.0, cut_stands g.tree.0 g h g.tree.1.stands), λ some. (let k = g.named some in root_reached q k.0 b w k.1 (h.roots k.0 (λ e. some (sym k.2 ∙ e)) ∙ k.2) some))

-- ---- one level more

-- over what stays below it, if anything, after calls that read
pub kept_up : (n : ℕ) {m : Made} {p q r s : Pool} (o : Option Made) → IsRun p → IsRun q → q.start ≡ p.start → IsRun r → r.start ≡ q.start → IsKept n o p q → IsStill q r → IsRebuilt 3 o m r s → IsBuilt (n + 3) m p s
kept_up n (Some low) hp hq start hr onward a i b = built_up hp hq start hr onward a i b
kept_up n {m = m} {p = p} {q = q} {r = r} {s = s} None hp hq start hr onward a i b =
    let same : (j : ℕ) → root_block r j ≡ root_block p j = λ j. i.roots j ∙ a.1 j in
    let all = cut_then hp hq start a.0 (still_cut i) in
    record {
      rooted = record { low = b.low; empty = sym (same m.root) ∙ b.empty; names = b.names; others = λ j h. b.others j h tt ∙ same j };
      some = b.some;
      trees = λ j t h st. subst (λ (k : ℕ). TreeStands s k t) (same j) (b.trees j t h tt (subst (λ (k : ℕ). TreeStands r k t) (sym (same j)) (all.trees j t h st)));
      blocks =
          λ f j t h st.
          (let there : TreeStands q (root_block p j) t = a.0.trees j t h st in
          let more : weight f s (root_block p j) t ≡ weight f r (root_block p j) t = subst (λ (k : ℕ). weight f s k t ≡ weight f r k t) (same j) (b.blocks f j t h tt (subst (λ (k : ℕ). TreeStands r k t) (sym (same j)) (i.trees (root_block p j) t there))) in
          more ∙ (weight_nodes f q r i.nodes (root_block p j) t there ∙ a.0.blocks f j t h st));
      made = made_more ((n + 0) + 3) (n + 3) p s (made_then (n + 0) 3 p r s hp hr (onward ∙ start) all.made b.made) (omega arith);
    }

-- ---- the lowest level

pub side_stands : (p : Pool) (b : ℕ) (s : Side) (t : Tree) → b ≢ 0 → TreeStands p b t → TreeStands p (child_of p b s) (side_tree s t)
side_stands p b s Empty some st = absurd (some st)
side_stands p b Left (Node k n l r) some st = st.1
side_stands p b Right (Node k n l r) some st = st.2

-- ---- how far the levels below came

pub record Falling (x a e d : ℕ) (top : ℕ) (o : Option Made) (p q : Pool) (u v : ℕ) : Type 0 where
  pub went : Went p q u v
  pub spent : HasSpent (fall_steps (e - d) e p.start.geometry) p q u v
  pub working : IsWorking q
  pub latch : IsSameLatch p q
  pub low : d ≤ e
  pub kept : IsKept (3 * (e - d)) o p q
  pub way : (t : Tree) → TreeStands p top t → IsWay x a e t
  pub stands : (t : Tree) → TreeStands p top t → TreeStands q (block_of o) (rest x a t d)
  pub rests : KeepsLives p q

-- a node stands at a block
pub some_block : (p : Pool) (b : ℕ) (t : Tree) → TreeStands p b t → IsSome t → b ≢ 0
some_block p b Empty st some = absurd some
some_block p b (Node k n l r) st some = st.0.some

found_here : (x : ℕ) (t : Tree) → IsEnd x t → IsSome t → found x t ≢ None
found_here x Empty e some = absurd some
found_here x (Node k n l r) e some =
    λ none. absurd (some≢none (sym (cond-true (x == k) (Some n) (cond (nat_lt x k) (found x l) (found x r)) (eq-eqb x k e)) ∙ none))
  where
    some≢none : Some n ≡ None → ⊥
    some≢none s = cc

-- the key is there whose node is passed
pub way_found : {x a e : ℕ} (t : Tree) → IsWay x a e t → found x t ≢ None
way_found {x = x} {a = a} t w = let low = w.low in λ none. found_here x (down x t a) w.here (w.deep a (omega (arith, low))) (sym (down_found x t a w.on) ∙ none)

-- the way of a key, and where its lowest node stands
pub lowest_way : {p q r : Pool} {top : ℕ} (x a e node b : ℕ) → IsRegistered p top → a ≤ e → ((t : Tree) → TreeStands p top t → IsPlace q node x a t) → ((y : ℕ) (u : Tree) → TreeStands q node u → IsSearch u → IsEnd y u → IsLast r b y (e - a) u) → (t : Tree) → TreeStands p top t → IsWay x a e t × TreeStands r b (down x t e)
lowest_way {p = p} {r = r} {top = top} x a e node b g le place last t st =
    let i = tree_is p top g.tree.0 t g.tree.1 st in
    let d = down_tree x t a i.search i.balanced in
    let w = place t st in
    let l = last x (down x t a) w.stands d.0 w.end in
    let is : a + (e - a) ≡ e = omega (arith, le) in
    (way_is x a e t le d.0 w.on w.end l.deep l.end, subst (TreeStands r b) (sym (down_more x t a (e - a)) ∙ ap (down x t) is) l.stands)

-- a tree that got a further root
pub moved_none : (p : Pool) (b : ℕ) → b ≡ 0 → StandsMoved b 0 p p
moved_none p b e = λ t st. subst (λ (k : ℕ). TreeStands p k t) e st

pub moved_share : {p q : Pool} (k b m : ℕ) → m ≡ b → IsShared k b p q → StandsMoved b m p q
moved_share {p = p} {q = q} k b m is s = λ t st. subst (λ (d : ℕ). TreeStands q d t) (sym is) (s.trees b t st)

-- after calls that read
pub moved_after : {p q : Pool} (r : Pool) (top from b : ℕ) → IsStill p q → from ≡ top → StandsMoved from b q r → StandsMoved top b p r
moved_after {p = p} r top from b still is m = λ t st. m t (still.trees from t (subst (λ (k : ℕ). TreeStands p k t) (sym is) st))

-- the content that was read of a tree's node
pub content_read : (p : Pool) (b : ℕ) (c : Content) (t : Tree) → b ≢ 0 → c.key ≡ word_of p (Body b 2) → c.number ≡ word_of p (Body b 3) → TreeStands p b t → c ≡ content_in t
content_read p b c Empty some key number st = absurd (some st)
content_read p b c (Node k n l r) some key number st = content_is (key ∙ st.0.key) (number ∙ st.0.number)
