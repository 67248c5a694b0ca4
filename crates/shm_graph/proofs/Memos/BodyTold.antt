-- the memo tells the words of pages' bodies that are stored or exchanged
use Rattle.std.proofs.{Common.{◌≡◌, ℕ, refl, sym, ap, ◌∙◌, true, eq-eqb}, lemmas.Bool.true≢false}
use Rattle.shm_words.specs.declared.geometry.Geometry.{Geometry}
use Rattle.shm_graph.specs.declared.{ask.Ask.{Ask, TheVariants.{Store, Exchange}}, spot.Spot.Spot}
use Rattle.shm_graph.specs.declared.{spot.Spot.TheVariants.{Unused, Head}, memo.Memo.Memo}
use Rattle.shm_graph.specs.{Spots.{spot_at, is_in_body}, Ops.{cover_of, On}, Asks.at_of}
use Rattle.shm_graph.specs.Telling.{spot_told, body_told, fixed_spot, outside_or}
use Rattle.shm_graph.proofs.Spots.Spotting.{within_bodies, spot_in_bodies, head_at, alone}

-- by the fixed places alone a word of a body is no more than that
in_body_fixed : (g : Geometry) (class : ℕ → ℕ → ℕ) (at : ℕ) → is_in_body (spot_at g class at) ≡ true → fixed_spot g at ≡ Unused at
unfolding spot_at
in_body_fixed g class at e = let q = within_bodies g class at e in spot_in_bodies g (λ s p. 0) at q.0 q.1

pub told_in_body : (g : Geometry) (class : ℕ → ℕ → ℕ) (c : ℕ) (m : Memo) (a : Ask) (p : Spot) → spot_at g class (at_of a) ≡ p → is_in_body p ≡ true → spot_told g c m a ≡ body_told g c m a
told_in_body g class c m a p e n = ap (λ q. outside_or q (body_told g c m a)) (in_body_fixed g class (at_of a) (ap is_in_body e ∙ n))

-- a header is exchanged
pub told_exchange : (g : Geometry) (class : ℕ → ℕ → ℕ) (c : ℕ) (m : Memo) (at from to b : ℕ) → spot_at g class at ≡ Head b → spot_told g c m (Exchange at from to) ≡ Head b
told_exchange g class c m at from to b e = told_in_body g class c m (Exchange at from to) (Head b) e refl ∙ ap Head (head_at g class at b e)

-- the slot of a committed step is stored
pub told_slot : (g : Geometry) (class : ℕ → ℕ → ℕ) (c : ℕ) (m : Memo) (at v x : ℕ) (p : Spot) → spot_at g class at ≡ p → is_in_body p ≡ true → cover_of m.op ≡ On p x → spot_told g c m (Store at v) ≡ p
told_slot g class c m at v x p e n o = told_in_body g class c m (Store at v) p e n ∙ (rw o (rw (eq-eqb _ _ (alone g class at p e (λ z. true≢false (sym n ∙ ap is_in_body z))))))
