-- a pool in which nobody is at work and each count is right
use Rattle.std.specs.Prelude.{Bool, ◌≡◌, ◌≢◌, ℕ, ◌+◌, ◌<◌, ◌≤◌, Some, ◌⊎◌}
use Rattle.shm_words.specs.{declared.{geometry.Geometry.Geometry, tag.Tag.Tag as ATag}, Classes.IsClass, Tags.tag_of}
use Rattle.shm_graph.specs.{declared.spot.Spot.{Spot, TheVariants.{Status, Page, Head, Tag}}, Spots.class_at}
use Rattle.shm_graph.specs.{Blocks.{classes, headers, IsLive}, References.{references, references_to}}

-- t is a tag whose words fit a block of k words, by one of n clients
pub record TagSuits (wide : Bool) (n k t : ℕ) : Type 0 where
  pub tag : ATag
  pub is : tag_of wide t ≡ Some tag
  pub room : 2 + tag.refs + tag.plain ≤ k
  pub author : tag.author < n

-- No identity is live or dead; page words are classes; headers, tags and references are in order; and each live block's count is above 0 and is the number of references to it
pub record IsClean (g : Geometry) (w : Spot → ℕ) : Type 0 where
  pub statuses : (c : ℕ) → c < g.clients → (w (Status c) ≡ 0) ⊎ (w (Status c) ≡ 3)
  pub pages : (s p : ℕ) → (w (Page s p) ≡ 0) ⊎ IsClass (w (Page s p))
  pub heads : (b : ℕ) → w (Head b) ≢ 0 → IsLive (headers w) b × ((headers w b).client < g.clients)
  pub tags : (b : ℕ) → IsLive (headers w) b → TagSuits g.wide g.clients (class_at g (classes w) b) (w (Tag b))
  pub targets : (p : Spot) → references g.wide w p ≢ 0 → IsLive (headers w) (references g.wide w p)
  pub counts : (b : ℕ) → IsLive (headers w) b → (0 < (headers w b).count) × ((headers w b).count ≡ references_to g (classes w) (references g.wide w) b)
