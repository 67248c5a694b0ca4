-- the words before the bodies, and words that stand from an address on
use Rattle.std.proofs.Common.{◌≡◌, ℕ, ◌+◌, ◌<◌, ◌≤◌, List, length, get_or, refl, sym, ap, ◌∙◌, arith}
use Rattle.std.proofs.lemmas.{Bool.true≢false, List.length-map}
use Rattle.std.specs.Int.{w64, from_le_bytes}
use Rattle.shm_words.specs.{declared.{geometry.Geometry.Geometry, place.Place.Place}, Layout.{bodies, place_at}}
use Rattle.shm_words.specs.declared.place.Place.TheVariants as place
use Rattle.shm_graph.specs.declared.spot.Spot.{Spot, TheVariants.{Home, Root, Slot, Head}}
use Rattle.shm_graph.specs.{Spots.{classes_in, is_in_body, see, spot_at, spot_of}, Blocks.IsBlock}
use Rattle.shm_graph.specs.References.{references}
use Rattle.shm_graph.proofs.Spots.Seeing.{see_at}
use Rattle.shm_graph.proofs.Spots.Spotting.{block_in_body, block_within, head_at, spot_before_bodies, tag_block}
use Rattle.shm_graph.proofs.Spots.WordsAt.{no_head}
use Rattle.shm_audit.specs.{Images.numbers, Tallies.{AreFrom, IsNaming, IsQuiet, named}}
use Rattle.shm_audit.proofs.Tested.{other_tag}

-- ---- words that stand from an address on

pub numbers_length : (runs : List (List ℕ)) → length (numbers runs) ≡ length runs
numbers_length runs = length-map runs (from_le_bytes w64)

pub from_word : (ws part : List ℕ) (first k a : ℕ) → AreFrom ws first part → k < length part → a ≡ first + k → get_or ws a 0 ≡ get_or part k 0
from_word ws part first k a h l e = ap (λ n. get_or ws n 0) e ∙ h k l

-- ---- before the bodies

module _ (g : Geometry) (ws : List ℕ) (a : ℕ) (l : a < bodies g) where
  at_spot : (p : Spot) → spot_at g (classes_in g ws) a ≡ p → (references g.wide (see g ws) p ≡ see g ws p) → named g ws a ≡ get_or ws a 0
  at_spot p s e = ap (references g.wide (see g ws)) s ∙ (e ∙ see_at g ws a p (omega arith) s)

  pub front_home : (c : ℕ) → place_at g a ≡ place.Home c → named g ws a ≡ get_or ws a 0
  unfolding spot_at
  front_home c e = at_spot (Home c) (ap (spot_of (classes_in g ws) a) e) refl

  pub front_root : (c k : ℕ) → place_at g a ≡ place.Root c k → named g ws a ≡ get_or ws a 0
  unfolding spot_at
  front_root c k e = at_spot (Root c k) (ap (spot_of (classes_in g ws) a) e) refl

  pub front_slot : (s r k : ℕ) → place_at g a ≡ place.Slot s r k → named g ws a ≡ get_or ws a 0
  unfolding spot_at
  front_slot s r k e = at_spot (Slot s r k) (ap (spot_of (classes_in g ws) a) e) refl

  nothing_at : (p : Place) → place_at g a ≡ p → references g.wide (see g ws) (spot_of (classes_in g ws) a p) ≡ 0 → named g ws a ≡ 0
  unfolding spot_at
  nothing_at p e z = ap (λ q. references g.wide (see g ws) (spot_of (classes_in g ws) a q)) e ∙ z

  pub front_other : (p : Place) → place_at g a ≡ p → ((c : ℕ) → p ≡ place.Home c → ⊥) → ((c k : ℕ) → p ≡ place.Root c k → ⊥) → ((s r k : ℕ) → p ≡ place.Slot s r k → ⊥) → named g ws a ≡ 0
  unfolding spot_at
  front_other place.Spare e h r s = nothing_at place.Spare e refl
  front_other (place.Status c) e h r s = nothing_at (place.Status c) e refl
  front_other (place.Redo c) e h r s = nothing_at (place.Redo c) e refl
  front_other (place.RedoMore c) e h r s = nothing_at (place.RedoMore c) e refl
  front_other (place.Hold c) e h r s = nothing_at (place.Hold c) e refl
  front_other (place.Latch c) e h r s = nothing_at (place.Latch c) e refl
  front_other (place.Home c) e h r s = absurd (h c refl)
  front_other (place.Era i j) e h r s = nothing_at (place.Era i j) e refl
  front_other (place.Root c k) e h r s = absurd (r c k refl)
  front_other (place.Tail t u) e h r s = nothing_at (place.Tail t u) e refl
  front_other (place.Head t u) e h r s = nothing_at (place.Head t u) e refl
  front_other (place.Slot t u k) e h r s = absurd (s t u k refl)
  front_other (place.Segment t) e h r s = nothing_at (place.Segment t) e refl
  front_other (place.Page t p) e h r s = nothing_at (place.Page t p) e refl
  front_other (place.Body t p k) e h r s = absurd (true≢false (sym (block_in_body (classes_in g ws t p) a k) ∙ (ap (λ q. is_in_body (spot_of (classes_in g ws) a q)) (sym e) ∙ spot_before_bodies g (classes_in g ws) a l)))

  no_block : (b : ℕ) → IsBlock g (classes_in g ws) b → b ≤ a → ⊥
  no_block b is m = let w = (block_within g (classes_in g ws) b is).0 in omega arith

  -- no header and no tag stands there
  pub front_quiet : IsQuiet g ws a
  front_quiet =
      record {
        header = no_head g ws a (λ b h. no_block a (h ∙ ap Head (sym (head_at g (classes_in g ws) a b h))) (omega arith));
        tag = other_tag g (see g ws) (spot_at g (classes_in g ws) a) (λ b t. let p = tag_block g (classes_in g ws) a b t in let q = p.1 in no_block b p.0 (omega arith));
      }

  -- the word there names this
  pub front_naming : (t : ℕ) → t ≡ named g ws a → IsNaming g ws a t
  front_naming t e = record { quiet = front_quiet; names = sym e }
