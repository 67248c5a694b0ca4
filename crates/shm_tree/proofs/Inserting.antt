-- One level of a tree in which a number is set at a key, and how far the levels below it came.
use Rattle.std.proofs.Common.{◌≡◌, ◌≢◌, ◌==◌, ℕ, Bool, true, false, cond, ◌+◌, ◌*◌, ◌-◌, ◌<◌, ◌≤◌, nat_lt, refl, sym, ap, ◌∙◌, subst, arith, inl, inr}
use Rattle.std.proofs.lemmas.Bool.{cases_eq, cases_lt, cond-false, cond-true, eq-eqb, ne_eqb}
use Rattle.std.specs.Prelude.{None, Some, if◌then◌else◌}
use Rattle.shm_graph.specs.declared.spot.Spot.TheVariants.{Body}
use Rattle.shm_plain.specs.Pools.{IsRun, Pool}
use Rattle.shm_count.specs.declared.answer.Made.{Made}
use Rattle.shm_tree.specs.{Bounds.climb_steps, Spending.HasSpent, declared.node.Side.{Side, TheVariants.{Left, Right}}}
use Rattle.shm_tree.specs.Building.{IsAtHand, IsBuilt, IsHeld, IsRebuilt, joined_by, root_block}
use Rattle.shm_tree.specs.{Inserting.{IsRegistered, left_of, outside, right_of}, Keeping.{HasMade, IsStill}}
use Rattle.shm_tree.specs.{Living.KeepsLives, Raising.{IsCheapAt, StandsAgain, side_of}, Sharing.CountsTop}
use Rattle.shm_tree.specs.Standing.{TreeStands, weight, word_of}
use Rattle.shm_tree.specs.Trees.{Tree, Empty, Node, AreNear, height, inserted, joined}
use Rattle.shm_tree.specs.{Ways.{IsEnd, IsOther, down, toward}, Working.{IsSameLatch, IsWorking, Went}}
use Rattle.shm_tree.proofs.Building.{made_more, none_stands, root_reached, rooted_some}
use Rattle.shm_tree.proofs.{Costs.{away, cost, work, work_far, work_high, work_near}, Nodes.made_then}
use Rattle.shm_tree.proofs.Weights.{weight_nodes, weight_none}

by_side : (x y k n : ℕ) (l r : Tree) (b : Bool) → cond b (joined k n (inserted x y l) r) (joined k n l (inserted x y r)) ≡ joined_by (cond b Left Right) (record { key = k; number = n }) (inserted x y (cond b l r)) (cond b r l)
by_side x y k n l r true = refl
by_side x y k n l r false = refl

-- one level: the tree on the side of the key changes, and the node is balanced again
pub inserted_up : (x y k n : ℕ) (l r : Tree) → x ≢ k → inserted x y (Node k n l r) ≡ joined_by (side_of x k) (record { key = k; number = n }) (inserted x y (if nat_lt x k then l else r)) (if nat_lt x k then r else l)
inserted_up x y k n l r h =
    cond-false (x == k) (Node x y l r) (cond (nat_lt x k) (joined k n (inserted x y l) r) (joined k n l (inserted x y r))) (ne_eqb x k h) ∙ by_side x y k n l r (nat_lt x k)

-- ---- how far the levels below came

pub record Rising (x y d e : ℕ) (top : ℕ) (m : Made) (p q : Pool) (u v : ℕ) : Type 0 where
  pub went : Went p q u v
  pub spent : HasSpent (climb_steps (e - d) e p.start.geometry) p q u v
  pub working : IsWorking q
  pub latch : IsSameLatch p q
  pub low : d ≤ e
  pub built : IsBuilt (1 + 3 * (e - d)) m p q
  pub on : (t : Tree) → TreeStands p top t → (i : ℕ) → i < e → IsOther x (down x t i)
  pub stands : (t : Tree) → TreeStands p top t → TreeStands q m.block (inserted x y (down x t d))
  pub made : (t : Tree) → TreeStands p top t → HasMade (cost x y (down x t d)) p q
  pub rests : KeepsLives p q
  pub few : (t : Tree) → TreeStands p top t → weight (outside p top t) q m.block (inserted x y (down x t d)) ≤ 1 + (e - d)
  pub new : (t : Tree) → TreeStands p top t → outside p top t m.block ≡ 1
  pub tops : (t : Tree) → TreeStands p top t → height (inserted x y (down x t d)) ≡ height (down x t d) + 1 → (s : Side) → CountsTop (outside p top t) q s m.block

-- one level more was built over what was built, after calls that read
pub built_up : {n : ℕ} {low m : Made} {p q r s : Pool} → IsRun p → IsRun q → q.start ≡ p.start → IsRun r → r.start ≡ q.start → IsBuilt n low p q → IsStill q r → IsRebuilt 3 (Some low) m r s → IsBuilt (n + 3) m p s
built_up {n = n} {low = low} {m = m} {p = p} {q = q} {r = r} {s = s} hp hq start hr onward a i b =
    let ne : m.root ≢ low.root = λ e. a.some (sym a.rooted.names ∙ (ap (root_block q) (sym e) ∙ (sym (i.roots m.root) ∙ b.empty))) in
    record {
      rooted =
          record {
            low = b.low;
            empty = sym (a.rooted.others m.root ne) ∙ (sym (i.roots m.root) ∙ b.empty);
            names = b.names;
            others =
                λ j h. elim (cases_eq j low.root) [
                  | inl e ↦ ap (root_block s) e ∙ (b.left ∙ (sym a.rooted.empty ∙ ap (root_block p) (sym e)))
                  | inr e ↦ b.others j h e ∙ (i.roots j ∙ a.rooted.others j e)
                ];
          };
      some = b.some;
      trees =
          λ j t h st. elim (cases_eq (root_block p j) 0) [
            | inl e ↦ none_stands p s (root_block p j) t e st
            | inr e ↦
                (let ne' = rooted_some j a.rooted e in
                let same : root_block r j ≡ root_block p j = i.roots j ∙ a.rooted.others j ne' in
                subst (λ (k : ℕ). TreeStands s k t) same (b.trees j t h ne' (subst (λ (k : ℕ). TreeStands r k t) (sym same) (i.trees (root_block p j) t (a.trees j t h st)))))
          ];
      blocks =
          λ f j t h st. elim (cases_eq (root_block p j) 0) [
            | inl e ↦ weight_none f p s (root_block p j) t e st
            | inr e ↦
                (let ne' = rooted_some j a.rooted e in
                let same : root_block r j ≡ root_block p j = i.roots j ∙ a.rooted.others j ne' in
                let there : TreeStands q (root_block p j) t = a.trees j t h st in
                let more : weight f s (root_block p j) t ≡ weight f r (root_block p j) t = subst (λ (k : ℕ). weight f s k t ≡ weight f r k t) same (b.blocks f j t h ne' (subst (λ (k : ℕ). TreeStands r k t) (sym same) (i.trees (root_block p j) t there))) in
                more ∙ (weight_nodes f q r i.nodes (root_block p j) t there ∙ a.blocks f j t h st))
          ];
      made = made_more ((n + 0) + 3) (n + 3) p s (made_then (n + 0) 3 p r s hp hr (onward ∙ start) (made_then n 0 p q r hp hq start a.made i.made) b.made) (omega arith);
    }

-- ---- the lowest level

-- where no node stands both trees are empty ones
pub no_trees : (p : Pool) (b : ℕ) (t : Tree) → b ≡ 0 → TreeStands p b t → TreeStands p 0 (left_of t) × TreeStands p 0 (right_of t)
no_trees p b Empty e s = (refl, refl)
no_trees p b (Node k n l r) e s = absurd (s.0.some e)

pub node_trees : (p : Pool) (b : ℕ) (t : Tree) → b ≢ 0 → TreeStands p b t → TreeStands p (word_of p (Body b 0)) (left_of t) × TreeStands p (word_of p (Body b 1)) (right_of t)
node_trees p b Empty some s = absurd (some s)
node_trees p b (Node k n l r) some s = (s.1, s.2)

-- the node of a key at its place
pub inserted_low : (x y : ℕ) (t : Tree) → IsEnd x t → inserted x y t ≡ Node x y (left_of t) (right_of t)
inserted_low x y Empty e = refl
inserted_low x y (Node k n l r) e = cond-true (x == k) (Node x y l r) (cond (nat_lt x k) (joined k n (inserted x y l) r) (joined k n l (inserted x y r))) (eq-eqb x k e)

pub registered_at_hand : {p q : Pool} {b : ℕ} {n : ℕ} {m : Made} → IsRegistered p b → IsBuilt n m p q → IsWorking q → IsAtHand q b
registered_at_hand {p = p} {q = q} {b = b} g h w =
    elim (cases_eq b 0) [
      | inl e ↦ ((g.tree.0, none_stands p q b g.tree.0 e g.tree.1.stands), λ some. absurd (some e))
      | inr d ↦
          (let k = g.named d in
          let same : root_block q k.0 ≡ b = h.rooted.others k.0 (rooted_some k.0 h.rooted (λ e. d (sym k.2 ∙ e))) ∙ k.2 in
          let stands = h.trees k.0 g.tree.0 k.1 (subst (λ (d : ℕ). TreeStands p d g.tree.0) (sym k.2) g.tree.1.stands) in
          ((g.tree.0, subst (λ (d : ℕ). TreeStands q d g.tree.0) k.2 stands), root_reached q k.0 b w k.1 same))
    ]

-- what stood where a root named it stands there once a tree was built
pub registered_kept : {p q : Pool} {b : ℕ} {n : ℕ} {m : Made} (t : Tree) → IsRegistered p b → IsBuilt n m p q → TreeStands p b t → TreeStands q b t
registered_kept {p = p} {q = q} {b = b} t g h s =
    elim (cases_eq b 0) [
      | inl e ↦ none_stands p q b t e s
      | inr d ↦ (let k = g.named d in subst (λ (d : ℕ). TreeStands q d t) k.2 (h.trees k.0 t k.1 (subst (λ (d : ℕ). TreeStands p d t) (sym k.2) s)))
    ]

-- one level more: what stands at the node that was made again, by what stands below and at the node
pub level_up : {r : Pool} (s : Pool) (x y node low m : ℕ) (t : Tree) → IsOther x t → TreeStands r node t → TreeStands r low (inserted x y (toward x t)) → StandsAgain x None node low m r s → TreeStands s m (inserted x y t)
level_up s x y node low m Empty o here under b = absurd o
level_up s x y node low m (Node k n l r) o here under b = subst (TreeStands s m) (sym (inserted_up x y k n l r o)) (b (Node k n l r) (inserted x y (toward x (Node k n l r))) here under)

-- and how many blocks were made for it
pub level_made : {r s : Pool} (x y node low : ℕ) (t : Tree) → IsOther x t → TreeStands r node t → TreeStands r low (inserted x y (toward x t)) → HasMade 3 r s → IsCheapAt x node low r s → HasMade (work (inserted x y (toward x t)) (away x t)) r s
level_made x y node low Empty o here under three one = absurd o
level_made {r = r} {s = s} x y node low (Node k n l w) o here under three one =
    let a : Tree = inserted x y (toward x (Node k n l w)) in
    let b : Tree = away x (Node k n l w) in
    elim (cases_lt (height b + 1) (height a)) [
      | inl lt ↦ subst (λ (i : ℕ). HasMade i r s) (sym (work_far a b lt)) three
      | inr le ↦ elim (cases_lt (height a + 1) (height b)) [
        | inl lt ↦ subst (λ (i : ℕ). HasMade i r s) (sym (work_high a b lt)) three
        | inr le' ↦
            let near : AreNear (height a) (height b) = record { left = le; right = le' } in
            subst (λ (i : ℕ). HasMade i r s) (sym (work_near a b near)) (one k n l w a here under near)
      ]
    ]

-- the tree that a root named is held
pub built_held : {n : ℕ} {m : Made} {p q : Pool} (t : Tree) → IsBuilt n m p q → TreeStands q m.block t → IsHeld q m
built_held t b s = record { low = b.rooted.low; some = b.some; names = b.rooted.names; tree = (t, s) }
