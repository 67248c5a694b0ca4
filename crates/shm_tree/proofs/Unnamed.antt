-- Blocks that no word of a block names: those that aren't live, and what keeps one so.
use Rattle.std.proofs.Common.{◌≡◌, ◌≢◌, ℕ, false, true, cond, List, sym, ◌∙◌, subst, inl, inr, true≢false}
use Rattle.std.proofs.lemmas.Bool.{cases_Bool, cond-false, cond-true}
use Rattle.std.specs.List.{AllByRecursion}
use Rattle.shm_words.specs.declared.geometry.Geometry.{Geometry}
use Rattle.shm_graph.specs.declared.spot.Spot.{Spot, TheVariants.Body}
use Rattle.shm_graph.specs.Events.{Event, Nothing, Alloc, Up, Down, ChangeUp, ChangeDown, Free, Graph, Happens, graph_of}
use Rattle.shm_graph.specs.{Spots.same_spot, Views.targets}
use Rattle.shm_graph.proofs.States.Holders.{held_live_not_zero}
use Rattle.shm_plain.specs.{Calls.Did, Pools.{IsRun, Pool}}
use Rattle.shm_count.specs.declared.answer.Made.{Made}
use Rattle.shm_tree.specs.{Falling.IsUnnamed, Keeping.{HasTree, IsBorn, is_live}, Standing.TreeStands}
use Rattle.shm_tree.specs.Trees.{Tree, Empty, Node}
use Rattle.shm_tree.proofs.{Alive.{IsOn, after, before}, Falls.Ups, Nodes.{IsCalm, calm_held, from_started}}
use Rattle.shm_tree.proofs.Turns.{StepsKeep, did_keeps}

-- a block that isn't live is named by no word
pub dead_unnamed : (p : Pool) → IsCalm p → (b : ℕ) → b ≢ 0 → is_live p b ≡ false → IsUnnamed p b
dead_unnamed p calm b some dead d i names =
    let live : is_live p b ≡ true = subst (λ (x : ℕ). is_live p x ≡ true) names ((calm_held p calm).count.targets (Body d i) (λ none. some (sym names ∙ none))) in
    true≢false (sym live ∙ dead)

-- a tree that stood stands at another block than one that wasn't live
pub tree_other : (p : Pool) (b c : ℕ) → b ≢ 0 → is_live p b ≡ false → HasTree p c → c ≢ b
tree_other p b c some dead (t, st) = other t st
  where
    other : (u : Tree) → TreeStands p c u → c ≢ b
    other Empty none e = some (sym e ∙ none)
    other (Node k n l r) st e = true≢false (sym st.0.live ∙ subst (λ (x : ℕ). is_live p x ≡ false) (sym e) dead)

-- ---- events

-- no reference is made to it
abbrev pub Spares : ℕ → Spot → ℕ → Type 0
Spares x s b = b ≢ x

module _ (x : ℕ) (some : x ≢ 0) where
  -- no word of a block names it
  abbrev Unnamed : (Spot → ℕ) → Type 0
  Unnamed t = (d i : ℕ) → t (Body d i) ≢ x

  set_unnamed : (t u : Spot → ℕ) (p : Spot) (y : ℕ) → ((s : Spot) → u s ≡ cond (same_spot p s) y (t s)) → y ≢ x → Unnamed t → Unnamed u
  set_unnamed t u p y set other h d i is =
      elim (cases_Bool (same_spot p (Body d i))) [
        | inl e ↦ other (sym (set (Body d i) ∙ cond-true (same_spot p (Body d i)) y (t (Body d i)) e) ∙ is)
        | inr e ↦ h d i (sym (set (Body d i) ∙ cond-false (same_spot p (Body d i)) y (t (Body d i)) e) ∙ is)
      ]

  same_unnamed : (t u : Spot → ℕ) → ((s : Spot) → u s ≡ t s) → Unnamed t → Unnamed u
  same_unnamed t u same h d i is = h d i (sym (same (Body d i)) ∙ is)

  event_unnamed : (g : Geometry) (w : Spot → ℕ) (a b : Graph) (e : Event) → Happens g w e a b → Ups (Spares x) e → Unnamed a.target → Unnamed b.target
  event_unnamed g w a b Nothing h good u = same_unnamed a.target b.target h.targets u
  event_unnamed g w a b (Alloc c k y) h good u = λ d i is. u d i (sym (h.3.2.targets (Body d i)) ∙ is)
  event_unnamed g w a b (Up c p y) h good u = set_unnamed a.target b.target p y h.2.targets good u
  event_unnamed g w a b (Down c p y) h good u = set_unnamed a.target b.target p 0 h.2.targets (λ e. some (sym e)) u
  event_unnamed g w a b (ChangeUp c p y z) h good u = set_unnamed a.target b.target p z h.4.targets good u
  event_unnamed g w a b (ChangeDown c y) h good u = same_unnamed a.target b.target h.2.targets u
  event_unnamed g w a b (Free c y) h good u = same_unnamed a.target b.target h.4.targets u

  unnamed_steps : (g : Geometry) (c : ℕ) → StepsKeep g c (Ups (Spares x)) (λ w v. Unnamed (targets g w v))
  unnamed_steps g c w w' v v' a p e who h step words good is = event_unnamed g w (graph_of g w v) (graph_of g w' v') e step.event good is

  -- turns of the client whose events make no reference to it
  pub unnamed_kept : (p q : Pool) (es : List Event) → IsRun p → IsRun q → q.start ≡ p.start → Did 0 p q es → AllByRecursion (Ups (Spares x)) es → IsUnnamed p x → IsUnnamed q x
  unnamed_kept p q es hp hq start did all h =
      from_started (λ z. IsUnnamed z x) p q start (did_keeps 0 p q es hp hq start did (Ups (Spares x)) tt (λ w v. Unnamed (targets p.start.geometry w v)) (unnamed_steps p.start.geometry 0) all h)

-- a block that came to be live by an allocation
pub made_unnamed : (p q : Pool) (es : List Event) → IsOn p q es → (m : Made) → AllByRecursion (Ups (Spares m.block)) es → IsBorn m p q → IsUnnamed q m.block
made_unnamed p q es on m all born =
    let cp = before p q es on in
    let cq = after p q es on in
    let some : m.block ≢ 0 = held_live_not_zero q.start.geometry _ _ (calm_held q cq) m.block born.live in
    unnamed_kept m.block some p q es cp.run cq.run on.start on.did all (dead_unnamed p cp m.block some born.fresh)
