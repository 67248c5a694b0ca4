-- the shapes of blocks: their numbers of words and their authors
use Rattle.std.proofs.Common.{◌≡◌, ℕ, sym, ap, ◌∙◌, subst, arith, Bool, true, false, inl, inr}
use Rattle.std.proofs.lemmas.Bool.{cases_eq, cond-true}
use Rattle.shm_words.specs.declared.geometry.Geometry.{Geometry}
use Rattle.shm_words.specs.Tags.{tag_author, tag_plain, tag_refs, tag_shape, shape_author}
use Rattle.shm_words.proofs.Words.{live_not_zero}
use Rattle.shm_graph.specs.{declared.spot.Spot.{Spot, TheVariants.{Head, Tag}}, Blocks.{IsLive, headers}}
use Rattle.shm_graph.specs.Events.{Event, Nothing, Alloc, Up, Down, ChangeUp, ChangeDown, Free, Graph, Happens, graph_of}
use Rattle.shm_graph.specs.Views.{View, at1}
use Rattle.shm_graph.proofs.Runs.Lists.{at1_here, at1_other}

-- the numbers of words and the author are above the link
pub refs_above : (wide : Bool) (x y : ℕ) → tag_shape wide x ≡ tag_shape wide y → tag_refs wide x ≡ tag_refs wide y
refs_above false x y e = omega arith
refs_above true x y e = omega arith

pub plain_above : (wide : Bool) (x y : ℕ) → tag_shape wide x ≡ tag_shape wide y → tag_plain wide x ≡ tag_plain wide y
plain_above false x y e = omega arith
plain_above true x y e = omega arith

pub author_above : (wide : Bool) (x y : ℕ) → tag_shape wide x ≡ tag_shape wide y → tag_author wide x ≡ tag_author wide y
author_above wide x y e = ap shape_author e

module _ (g : Geometry) (w : Spot → ℕ) (v : View) where
  abbrev before : Graph
  before = graph_of g w v

  -- a block that is live before and after an event keeps its shape
  pub shape_stays : (e : Event) (b : Graph) → Happens g w e before b → (x : ℕ) → IsLive (headers w) x → b.live x ≡ true → b.shape x ≡ before.shape x
  shape_stays Nothing b h x here there = h.shapes x
  shape_stays (Alloc c k y) b h x here there = h.3.2.shapes x ∙ at1_other before.shape y h.3.0 x (λ e. live_not_zero (w (Head x)) here (subst (λ i. w (Head i) ≡ 0) e h.0.1))
  shape_stays (Up c p y) b h x here there = h.2.shapes x
  shape_stays (Down c p y) b h x here there = h.2.shapes x
  shape_stays (ChangeUp c p y z) b h x here there = h.4.shapes x
  shape_stays (ChangeDown c y) b h x here there = h.2.shapes x
  shape_stays (Free c y) b h x here there =
      elim (cases_eq y x) [
        | inl e ↦ let z : false ≡ true = sym (subst (λ i. at1 before.live y false i ≡ false) e (at1_here before.live y false)) ∙ (sym (h.4.lives x) ∙ there) in cc
        | inr n ↦ h.4.shapes x ∙ at1_other before.shape y 0 x n
      ]

  module _ (w' : Spot → ℕ) (v' : View) where
    abbrev after : Graph
    after = graph_of g w' v'

    -- so that its tag tells what it told
    pub tag_stays : (e : Event) → Happens g w e before after → (b : ℕ) → IsLive (headers w) b → IsLive (headers w') b → (tag_refs g.wide (w' (Tag b)) ≡ tag_refs g.wide (w (Tag b))) × (tag_plain g.wide (w' (Tag b)) ≡ tag_plain g.wide (w (Tag b))) × (tag_author g.wide (w' (Tag b)) ≡ tag_author g.wide (w (Tag b)))
    tag_stays e h b here there =
        let same : tag_shape g.wide (w' (Tag b)) ≡ tag_shape g.wide (w (Tag b)) = sym (cond-true (headers w' b).live (tag_shape g.wide (w' (Tag b))) 0 there) ∙ (shape_stays e after h b here there ∙ cond-true (headers w b).live (tag_shape g.wide (w (Tag b))) 0 here) in
        (refs_above g.wide (w' (Tag b)) (w (Tag b)) same, plain_above g.wide (w' (Tag b)) (w (Tag b)) same, author_above g.wide (w' (Tag b)) (w (Tag b)) same)

    -- a block that is allocated is live, and its author's
    pub alloc_author : (c k b : ℕ) → Happens g w (Alloc c k b) before after → IsLive (headers w') b × (tag_author g.wide (w' (Tag b)) ≡ c)
    alloc_author c k b h =
        let live : IsLive (headers w') b = h.3.2.lives b ∙ at1_here before.live b true in
        (live, ap shape_author (sym (cond-true (headers w' b).live (tag_shape g.wide (w' (Tag b))) 0 live) ∙ (h.3.2.shapes b ∙ at1_here before.shape b h.3.0)) ∙ h.3.1)
