-- How a node is made of two trees, step by step.
use Rattle.std.proofs.Common.{◌≡◌, ℕ, ◌+◌, ◌<◌, ◌≤◌, ◌||◌, max, true, false, List, [], ◌∷◌, ◌++◌, length, refl, sym, ap, ◌∙◌, subst, arith, inl, inr, eqb, ltb, ◌^◌}
use Rattle.std.proofs.lemmas.Bool.{cases_Bool, eqb-true, ltb-false, ltb-true, ne_eqb, false≢true}
use Rattle.std.proofs.lemmas.Map.Steps.{length-le_from_distinct_below}
use Rattle.std.specs.List.{AllByRecursion, IsDistinct, list_any}
use Rattle.shm_words.specs.Layout.{total_of}
use Rattle.shm_words.proofs.Placing.{total_small}
use Rattle.shm_graph.specs.{declared.spot.Spot.TheVariants.{Body, Head}, Blocks.classes, Spots.see, Views.view}
use Rattle.shm_graph.specs.Runs.{memos_of}
use Rattle.shm_graph.proofs.{Spots.Spotting.in_pool, States.Holders.held_live_block}
use Rattle.shm_plain.specs.Pools.{IsRun, Pool, memo_of}
use Rattle.shm_count.specs.{declared.answer.Made.Made, Roots.root_word}
use Rattle.shm_tree.specs.declared.node.{Content.Content, Pair.Pair, Side.{Side, TheVariants.{Left, Right}}}
use Rattle.shm_tree.specs.Falling.{KeepsFalling}
use Rattle.shm_tree.specs.Keeping.{HasGrown, HasMade, IsBorn, IsLinked, IsMade, IsReferring, IsStill, KeepsNode, KeepsNodes, child_of, is_live, node_by, other_side}
use Rattle.shm_tree.specs.{Standing.{IsNode, TreeStands, word_of}, Trees.{Tree, Empty, Node, height}}
use Rattle.shm_tree.specs.Working.{IsWorking, Went}
use Rattle.shm_tree.proofs.{Nodes.{calm_held, keeps_then, made_then, trees_kept, working_calm}, Turns.did_then}

-- ---- a tree is no higher than the pool is long

-- a block of the pool whose height is at most h
abbrev IsUnder : Pool → ℕ → ℕ → Type 0
IsUnder p h d = (d < total_of p.start.geometry) × (word_of p (Body d 4) ≤ h)

-- the nodes on a longest way down: they are different ones, and their heights are at most the tree's
record HasSpine (p : Pool) (h : ℕ) : Type 0 where
  pub blocks : List ℕ
  pub long : length blocks ≡ h
  pub distinct : IsDistinct eqb blocks
  pub under : AllByRecursion (IsUnder p h) blocks

-- one more block that is higher than all
new_distinct : (p : Pool) (b i : ℕ) (ds : List ℕ) → i < word_of p (Body b 4) → AllByRecursion (IsUnder p i) ds → IsDistinct eqb ds → IsDistinct eqb (b ∷ ds)
unfolding IsDistinct
new_distinct p b i ds high all distinct = (others ds all, distinct)
  where
    others : (xs : List ℕ) → AllByRecursion (IsUnder p i) xs → AllByRecursion (λ y. eqb b y ≡ false) xs
    others [] all = tt
    others (x ∷ xs) all = (ne_eqb b x (λ e. let low = all.0.1 in let same = ap (λ z. word_of p (Body z 4)) e in absurd (omega (arith, low, high, same))), others xs all.1)

none_distinct : IsDistinct eqb []
unfolding IsDistinct
none_distinct = tt

under_more : (p : Pool) (i h : ℕ) (ds : List ℕ) → i ≤ h → AllByRecursion (IsUnder p i) ds → AllByRecursion (IsUnder p h) ds
under_more p i h [] l all = tt
under_more p i h (d ∷ ds) l all = ((all.0.0, (let low = all.0.1 in omega (arith, low, l))), under_more p i h ds l all.1)

all_below : (p : Pool) (h : ℕ) (ds : List ℕ) → AllByRecursion (IsUnder p h) ds → (q : ℕ) → list_any (eqb q) ds ≡ true → q < total_of p.start.geometry
all_below p h [] all q is = absurd (false≢true is)
all_below p h (d ∷ ds) all q is =
    elim (cases_Bool (eqb q d)) [
      | inl y ↦ (let same = eqb-true q d y in let l = all.0.0 in omega (arith, same, l))
      | inr y ↦ all_below p h ds all.1 q (sym (ap (λ z. z || list_any (eqb q) ds) y) ∙ is)
    ]

module _ (p : Pool) (work : IsWorking p) where
  node_inside : (b k n h : ℕ) → IsNode p b k n h → b < total_of p.start.geometry
  node_inside b k n h x = (in_pool p.start.geometry (classes (see p.start.geometry p.words)) b (Head b) (held_live_block p.start.geometry (see p.start.geometry p.words) (view (memos_of p.accounts)) (calm_held p (working_calm p work)) b x.live) (λ e. cc)).1

  -- one more node on top
  topped : (b k n h i : ℕ) → IsNode p b k n h → h ≡ i + 1 → HasSpine p i → HasSpine p h
  topped b k n h i x e s =
      let is = x.height in
      record {
        blocks = b ∷ s.blocks;
        long = (let l = s.long in omega (arith, l, e));
        distinct = new_distinct p b i s.blocks (omega (arith, is, e)) s.under s.distinct;
        under = ((node_inside b k n h x, omega (arith, is)), under_more p i h s.blocks (omega (arith, e)) s.under);
      }

  spine : (t : Tree) (b : ℕ) → TreeStands p b t → HasSpine p (height t)
  spine Empty b y = record { blocks = []; long = refl; distinct = none_distinct; under = tt }
  spine (Node k n l r) b y =
      elim (cases_Bool (ltb (height l) (height r))) [
        | inl z ↦ topped b k n (height (Node k n l r)) (height r) y.0 (let less = ltb-true (height l) (height r) z in omega (arith, less)) (spine r (word_of p (Body b 1)) y.2)
        | inr z ↦ topped b k n (height (Node k n l r)) (height l) y.0 (let less = ltb-false (height l) (height r) z in omega (arith, less)) (spine l (word_of p (Body b 0)) y.1)
      ]

  pub stands_low : (t : Tree) (b : ℕ) → TreeStands p b t → height t < 2 ^ 24
  stands_low t b y =
      let s = spine t b y in
      let most : length s.blocks ≤ total_of p.start.geometry = length-le_from_distinct_below s.blocks (total_of p.start.geometry) s.distinct (all_below p (height t) s.blocks s.under) in
      let small = total_small p.start.geometry work.work.geometry in
      let l = s.long in
      omega (arith, most, small, l)

-- ---- calls one after another

-- finished or not, two calls leave what one does
pub went_then : (p m q : Pool) (x y z : ℕ) → IsRun p → Went p m x y → Went m q y z → Went p q x z
unfolding KeepsFalling
went_then p m q x y z run a b =
    record {
      start = b.start ∙ a.start;
      run = b.run;
      acts = b.acts;
      did = (a.did.0 ++ b.did.0, did_then 0 p m q a.did.0 b.did.0 run a.run a.start a.did.1 b.did.1);
      spent = (let s = a.spent in let t = b.spent in omega (arith, s, t));
      falls = λ h. b.falls (a.falls h);
    }

module _ (p m q : Pool) (hp : IsWorking p) (hm : IsWorking m) (start : m.start ≡ p.start) where
  all_then : KeepsNodes p m → KeepsNodes m q → KeepsNodes p q
  all_then x y b k n h it = keeps_then p m q b k n h (x b k n h it) y

  more_made : (i j : ℕ) → HasMade i p m → HasMade j m q → HasMade (i + j) p q
  more_made i j x y = made_then i j p m q hp.run hm.run start x y

  pub still_then : IsStill p m → IsStill m q → IsStill p q
  still_then x y =
      record {
        nodes = all_then x.nodes y.nodes;
        trees = λ b t s. y.trees b t (x.trees b t s);
        lives = λ b. y.lives b ∙ x.lives b;
        dying = y.dying ∙ x.dying;
        roots = λ k. y.roots k ∙ x.roots k;
        made = more_made 0 0 x.made y.made;
      }

  pub still_born : (a : Made) → IsStill p m → IsBorn a m q → IsBorn a p q
  still_born a x y =
      record {
        rooted = record { low = y.rooted.low; empty = sym (x.roots a.root) ∙ y.rooted.empty; names = y.rooted.names; others = λ j n. y.rooted.others j n ∙ x.roots j };
        fresh = sym (x.lives a.block) ∙ y.fresh;
        live = y.live;
        nodes = all_then x.nodes y.nodes;
        trees = λ b t s. y.trees b t (x.trees b t s);
        lives = λ b n. y.lives b n ∙ x.lives b;
        made = more_made 0 1 x.made y.made;
      }

  pub born_still : (a : Made) → IsBorn a p m → IsStill m q → IsBorn a p q
  born_still a x y =
      record {
        rooted = record { low = x.rooted.low; empty = x.rooted.empty; names = y.roots a.root ∙ x.rooted.names; others = λ j n. y.roots j ∙ x.rooted.others j n };
        fresh = x.fresh;
        live = y.lives a.block ∙ x.live;
        nodes = all_then x.nodes y.nodes;
        trees = λ b t s. y.trees b t (x.trees b t s);
        lives = λ b n. y.lives b ∙ x.lives b n;
        made = more_made 1 0 x.made y.made;
      }

  -- the new block is no node of what stood before
  pub born_refers : (a : Made) (s : Side) (x : ℕ) → IsBorn a p m → IsReferring a.block s x m q → IsBorn a p q
  born_refers a s x y z =
      let nodes : KeepsNodes p q = λ b k n h it. keeps b k n h it (y.nodes b k n h it) in
      record {
        rooted = record { low = y.rooted.low; empty = y.rooted.empty; names = z.roots a.root ∙ y.rooted.names; others = λ j n. z.roots j ∙ y.rooted.others j n };
        fresh = y.fresh;
        live = z.lives a.block ∙ y.live;
        nodes = nodes;
        trees = trees_kept p q nodes;
        lives = λ b n. z.lives b ∙ y.lives b n;
        made = more_made 1 0 y.made z.made;
      }
    where
      keeps : (b k n h : ℕ) → IsNode p b k n h → KeepsNode p m b k n h → KeepsNode p q b k n h
      keeps b k n h it u =
          let v = z.nodes b k n h (λ e. false≢true (sym y.fresh ∙ (ap (is_live p) (sym e) ∙ it.live))) u.node in
          record { node = v.node; left = v.left ∙ u.left; right = v.right ∙ u.right }

pub still_grown : (n : ℕ) (p q : Pool) → IsStill p q → HasGrown n p q
still_grown n p q x =
    record {
      nodes = x.nodes;
      trees = x.trees;
      lives = λ b l. x.lives b ∙ l;
      roots = λ k some. x.roots k;
      made = (x.made.0, x.made.1, (let few = x.made.2 in omega (arith, few)));
    }

pub born_grown : (a : Made) (p q : Pool) → IsBorn a p q → HasGrown 1 p q
born_grown a p q x =
    record {
      nodes = x.nodes;
      trees = x.trees;
      lives = λ b l. x.lives b (λ e. false≢true (sym x.fresh ∙ (ap (is_live p) (sym e) ∙ l))) ∙ l;
      roots = λ k some. x.rooted.others k (λ e. some (ap (root_word 0 (memo_of p 0)) e ∙ x.rooted.empty));
      made = x.made;
    }

-- ---- the node with its two trees

pub linked_stands : (p a b q : Pool) (c : Content) (s : Side) (trees : Pair) (m : Made) (near far : Tree) → IsMade c (1 + max (height near) (height far)) m p a → IsReferring m.block s trees.near a b → IsReferring m.block (other_side s) trees.far b q → TreeStands q trees.near near → TreeStands q trees.far far → TreeStands q m.block (node_by s c near far)
linked_stands p a b q c Left trees m near far made one two x y = (
  two.node _ _ _ (one.node _ _ _ made.node),
  subst (λ z. TreeStands q z near) (sym (two.other ∙ one.names)) x,
  subst (λ z. TreeStands q z far) (sym two.names) y,
)
linked_stands p a b q c Right trees m near far made one two x y =
    let same : max (height near) (height far) ≡ max (height far) (height near) = omega arith in (
      subst (λ h. IsNode q m.block c.key c.number (1 + h)) same (two.node _ _ _ (one.node _ _ _ made.node)),
      subst (λ z. TreeStands q z far) (sym two.names) y,
      subst (λ z. TreeStands q z near) (sym (two.other ∙ one.names)) x,
    )

-- the first tree is its child still
near_kept : (b q : Pool) (n x y : ℕ) (s : Side) → IsReferring n (other_side s) y b q → child_of b n s ≡ x → child_of q n s ≡ x
near_kept b q n x y Left two e = two.other ∙ e
near_kept b q n x y Right two e = two.other ∙ e

-- the heights by which it was made are those of its trees
pub linked_of : (p m a b q : Pool) (c : Content) (s : Side) (trees : Pair) (x y : ℕ) (n : Made) → IsWorking p → IsWorking m → IsWorking a → IsWorking b → m.start ≡ p.start → a.start ≡ p.start → b.start ≡ p.start → IsStill p m → IsMade c (1 + max x y) n m a → IsReferring n.block s trees.near a b → IsReferring n.block (other_side s) trees.far b q
    → ((t : Tree) → TreeStands p trees.near t → x ≡ height t) → ((t : Tree) → TreeStands p trees.far t → y ≡ height t) → IsLinked c s trees n p q
linked_of p m a b q c s trees x y n wp wm wa wb startm starta startb still made one two nears fars =
    let first : IsBorn n p a = still_born p m a wp wm startm n still made.born in
    let second : IsBorn n p b = born_refers p a b wp wa starta n s trees.near first one in
    let third : IsBorn n p q = born_refers p b q wp wb startb n (other_side s) trees.far second two in
    record {
      born = third;
      near = near_kept b q n.block trees.near trees.far s two one.names;
      far = two.names;
      stands = λ near far u v.
          let same : 1 + max x y ≡ 1 + max (height near) (height far) = ap (λ z. 1 + max z y) (nears near u) ∙ ap (λ z. 1 + max (height near) z) (fars far v) in
          linked_stands m a b q c s trees n near far (subst (λ z. IsMade c z n m a) same made) one two (third.trees trees.near near u) (third.trees trees.far far v);
    }

-- the heights of two trees that stand leave room for one more
pub heights_fit : (p : Pool) → IsWorking p → (a b x y : ℕ) (t u : Tree) → TreeStands p a t → TreeStands p b u → x ≡ height t → y ≡ height u → 1 + max x y < 2 ^ 64
heights_fit p work a b x y t u s v e f =
    let l = stands_low p work t a s in
    let r = stands_low p work u b v in
    omega (arith, l, r, e, f)
