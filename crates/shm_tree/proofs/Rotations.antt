-- Nodes by sides: what stands on the sides of one, and the tree that comes of a node whose trees are out of balance.
use Rattle.std.proofs.Common.{◌≡◌, ◌≢◌, ℕ, cond, ◌+◌, ◌<◌, ◌≤◌, refl, sym, ap, ◌∙◌, subst, arith, nat_lt}
use Rattle.std.proofs.lemmas.Bool.{cond-true, cond-false, le-ltb, lt-ltb}
use Rattle.shm_graph.specs.declared.spot.Spot.TheVariants.{Body}
use Rattle.shm_plain.specs.Pools.{Pool}
use Rattle.shm_tree.specs.declared.node.{Content.Content, Pair.Pair, Side.{Side, TheVariants.{Left, Right}}}
use Rattle.shm_tree.specs.Building.{StandsOf, StandsTurned, StandsTurnedTwice, from_far, joined_by}
use Rattle.shm_tree.specs.Keeping.{HasNode, HasTree, KeepsNodes, KeepsTrees, child_of, node_by, other_side}
use Rattle.shm_tree.specs.{Standing.{TreeStands, word_of}, Working.IsWorking, Trees.{Tree, Empty, Node, height, joined}}

-- a content is its key and its number
pub content_is : {c d : Content} → c.key ≡ d.key → c.number ≡ d.number → c ≡ d
content_is a b = λ i. record { key = a i; number = b i }

-- a node as seen from the other side
pub node_other : (s : Side) (c : Content) (x y : Tree) → node_by (other_side s) c x y ≡ node_by s c y x
node_other Left c x y = refl
node_other Right c x y = refl

pub other_twice : (s : Side) → other_side (other_side s) ≡ s
other_twice Left = refl
other_twice Right = refl

-- what stands where a node by its sides does
pub record Parts (p : Pool) (b : ℕ) (s : Side) (c : Content) (x y : Tree) : Type 0 where
  pub key : word_of p (Body b 2) ≡ c.key
  pub number : word_of p (Body b 3) ≡ c.number
  pub near : TreeStands p (child_of p b s) x
  pub far : TreeStands p (child_of p b (other_side s)) y

pub parts : (p : Pool) (b : ℕ) (s : Side) (c : Content) (x y : Tree) → TreeStands p b (node_by s c x y) → Parts p b s c x y
parts p b Left c x y h = record { key = h.0.key; number = h.0.number; near = h.1; far = h.2 }
parts p b Right c x y h = record { key = h.0.key; number = h.0.number; near = h.2; far = h.1 }

-- a tree that stands at a block is a node by its sides
pub record Shaped (s : Side) (t : Tree) : Type 0 where
  pub content : Content
  pub near : Tree
  pub far : Tree
  pub is : t ≡ node_by s content near far

pub shaped : (p : Pool) (b : ℕ) (s : Side) (t : Tree) → b ≢ 0 → TreeStands p b t → Shaped s t
shaped p b s Empty some h = absurd (some h)
shaped p b Left (Node k n l r) some h = record { content = record { key = k; number = n }; near = l; far = r; is = refl }
shaped p b Right (Node k n l r) some h = record { content = record { key = k; number = n }; near = r; far = l; is = refl }

pub node_of : (p : Pool) (b : ℕ) → b ≢ 0 → HasTree p b → HasNode p b
node_of p b some (Empty, h) = absurd (some h)
node_of p b some (Node k n l r, h) = (k, n, height (Node k n l r), h.0)

-- its children are trees
pub child_tree : (p : Pool) (b : ℕ) (s : Side) → b ≢ 0 → HasTree p b → HasTree p (child_of p b s)
child_tree p b s some (Empty, h) = absurd (some h)
child_tree p b Left some (Node k n l r, h) = (l, h.1)
child_tree p b Right some (Node k n l r, h) = (r, h.2)

pub child_at : {p : Pool} (y : Side) (b w : ℕ) → IsWorking p → b ≢ 0 → HasTree p b → w ≡ child_of p b y → HasTree p w
child_at {p = p} y b w k some t e = subst (HasTree p) (sym e) (child_tree p b y some t)

pub child_kept : (p q : Pool) (b : ℕ) (s : Side) → KeepsNodes p q → HasNode p b → child_of q b s ≡ child_of p b s
child_kept p q b Left k n = (k b n.0 n.1 n.2 n.3).left
child_kept p q b Right k n = (k b n.0 n.1 n.2 n.3).right

-- ---- heights

-- no tree of some height stands at 0
pub tall_some : (p : Pool) (b h : ℕ) → HasTree p b → ((t : Tree) → TreeStands p b t → h ≡ height t) → 0 < h → b ≢ 0
tall_some p b h (Empty, s) is tall e = let z = is Empty s in absurd (omega arith)
tall_some p b h (Node k n l r, s) is tall e = s.0.some e

-- ---- the trees that come of it

test_true : {T : Type 0} (a b : ℕ) (u v : T) → a < b → cond (nat_lt a b) u v ≡ u
test_true a b u v h = cond-true (nat_lt a b) u v (lt-ltb a b h)

test_false : {T : Type 0} (a b : ℕ) (u v : T) → b ≤ a → cond (nat_lt a b) u v ≡ v
test_false a b u v h = cond-false (nat_lt a b) u v (le-ltb a b h)

pub far_single : (s : Side) (c d : Content) (x y z : Tree) → height y ≤ height z → from_far s c x (node_by s d y z) ≡ node_by s d (node_by s c x y) z
far_single Left c d x y z h = test_false (height z) (height y) _ _ h
far_single Right c d x y z h = test_false (height z) (height y) _ _ h

pub far_double : (s : Side) (c d e : Content) (x y z t : Tree) → height t < height (node_by s e y z) → from_far s c x (node_by s d (node_by s e y z) t) ≡ node_by s e (node_by s c x y) (node_by s d z t)
far_double Left c d e x y z t h = test_true (height t) (height (node_by Left e y z)) _ _ h
far_double Right c d e x y z t h = test_true (height t) (height (node_by Right e y z)) _ _ h

pub joined_far : (s : Side) (c : Content) (x y : Tree) → height x + 1 < height y → joined_by s c x y ≡ from_far s c x y
unfolding joined
joined_far Left c x y h = test_false (height y + 1) (height x) _ _ (omega arith) ∙ test_true (height x + 1) (height y) _ _ h
joined_far Right c x y h = test_true (height x + 1) (height y) _ _ h

pub joined_near : (s : Side) (c : Content) (x y : Tree) → height y + 1 < height x → joined_by s c x y ≡ from_far (other_side s) c y x
unfolding joined
joined_near Left c x y h = test_true (height y + 1) (height x) _ _ h
joined_near Right c x y h = test_false (height x + 1) (height y) _ _ (omega arith) ∙ test_true (height y + 1) (height x) _ _ h

pub joined_flat : (s : Side) (c : Content) (x y : Tree) → height x ≤ height y + 1 → height y ≤ height x + 1 → joined_by s c x y ≡ node_by s c x y
unfolding joined
joined_flat Left c x y h l = test_false (height y + 1) (height x) _ _ h ∙ test_false (height x + 1) (height y) _ _ l
joined_flat Right c x y h l = test_false (height x + 1) (height y) _ _ l ∙ test_false (height y + 1) (height x) _ _ h

-- ---- what stands once nodes were made

pub rotated_once : (p q r : Pool) (s : Side) (c : Content) (trees : Pair) (m : ℕ) → trees.far ≢ 0 → KeepsTrees p q → ((y z : Tree) → TreeStands p (child_of p trees.far s) y → TreeStands p (child_of p trees.far (other_side s)) z → height y ≤ height z) → StandsTurned c s trees m q r → StandsOf (from_far s c) trees m p r
rotated_once p q r s c trees m some keeps low b x t sx st =
    let h = shaped p trees.far s t some st in
    let y = h.near in
    let z = h.far in
    let st' = subst (TreeStands p trees.far) h.is st in
    let w = parts p trees.far s h.content y z st' in
    let e = ap (from_far s c x) h.is ∙ far_single s c h.content x y z (low y z w.near w.far) in
    subst (TreeStands r m) (sym e) (b x y z h.content (keeps _ x sx) (keeps _ (node_by s h.content y z) st'))

pub rotated_twice : (p q r : Pool) (s : Side) (c : Content) (trees : Pair) (m : ℕ) → trees.far ≢ 0 → child_of p trees.far s ≢ 0 → KeepsTrees p q → ((y z : Tree) → TreeStands p (child_of p trees.far s) y → TreeStands p (child_of p trees.far (other_side s)) z → height z < height y) → StandsTurnedTwice c s trees m q r → StandsOf (from_far s c) trees m p r
rotated_twice p q r s c trees m some deep keeps high b x t sx st =
    let h = shaped p trees.far s t some st in
    let z = h.far in
    let w = parts p trees.far s h.content h.near z (subst (TreeStands p trees.far) h.is st) in
    let g = shaped p (child_of p trees.far s) s h.near deep w.near in
    let is : t ≡ node_by s h.content (node_by s g.content g.near g.far) z = h.is ∙ ap (λ (o : Tree). node_by s h.content o z) g.is in
    let taller : height z < height (node_by s g.content g.near g.far) = subst (λ (o : Tree). height z < height o) g.is (high h.near z w.near w.far) in
    let e = ap (from_far s c x) is ∙ far_double s c h.content g.content x g.near g.far z taller in
    subst (TreeStands r m) (sym e) (b x g.near g.far z h.content g.content (keeps _ x sx) (keeps _ (node_by s h.content (node_by s g.content g.near g.far) z) (subst (TreeStands p trees.far) is st)))

-- by the heights of two trees, a node of them stands that is balanced again
pub joined_stands : (f : Tree → Tree → Tree) (p q r : Pool) (s : Side) (c : Content) (trees : Pair) (m : ℕ) → KeepsTrees p q → ((x y : Tree) → TreeStands p trees.near x → TreeStands p trees.far y → joined_by s c x y ≡ f x y) → StandsOf f trees m q r → StandsOf (joined_by s c) trees m p r
joined_stands f p q r s c trees m keeps same b x y sx sy = subst (TreeStands r m) (sym (same x y sx sy)) (b x y (keeps _ x sx) (keeps _ y sy))

-- the same trees as seen from the other side
pub seen_back : (f : Tree → Tree → Tree) (trees : Pair) (m : ℕ) (q r : Pool) → StandsOf f (record { near = trees.far; far = trees.near }) m q r → StandsOf (λ x y. f y x) trees m q r
seen_back f trees m q r b x y sx sy = b y x sy sx
