-- A pool before the first call of its client, and once it has joined: no block is live, and no word names one.
use Rattle.std.proofs.Common.{◌≡◌, ℕ, ◌+◌, false, [], refl, sym, ap, ◌∙◌, arith, inl, inr, true≢false}
use Rattle.std.proofs.lemmas.Bool.{cases_eq}
use Rattle.shm_words.specs.{Headers.header_of, Layout.{GeometryFits, place_at, total_of}}
use Rattle.shm_words.proofs.Words.{header_of_zero}
use Rattle.shm_graph.specs.declared.{run.Start.Start, spot.Spot.{Spot, TheVariants.{Body, Head, Home}}}
use Rattle.shm_graph.specs.{Blocks.headers, Runs.{EraFits, first_word, first_words}, Spots.see}
use Rattle.shm_graph.proofs.{Spots.Starting.{IsFirst, see-first}, States.FirstHeld.at-words_from}
use Rattle.shm_graph.proofs.Spots.Starting as starting
use Rattle.shm_plain.specs.{Calls.Did, Pools.{IsRun, Pool, first_pool}}
use Rattle.shm_plain.proofs.Turning.{first_run}
use Rattle.shm_tree.specs.{Falling.AreFalling, Keeping.is_live}
use Rattle.shm_tree.proofs.{Falls.falling_kept, Frames.{Unmade, dead_kept}, Nodes.names, Turns.did_keeps}

module _ (s : Start) (fits : GeometryFits s.geometry) where
  first_seen : see s.geometry (first_words s) ≡ starting.first_words s.geometry s.first_era
  first_seen = see-first s.geometry (first_words s) s.first_era fits first
    where
      first : IsFirst s.geometry s.first_era (first_words s)
      first a l = let z : 0 + a ≡ a = omega arith in at-words_from (λ i. first_word s.first_era (place_at s.geometry i)) 0 (total_of s.geometry) a l ∙ ap (λ i. first_word s.first_era (place_at s.geometry i)) z

  pub first_dead : (b : ℕ) → is_live (first_pool s) b ≡ false
  first_dead b = ap (λ (w : Spot → ℕ). (header_of (w (Head b))).live) first_seen ∙ header_of_zero

  module _ (begins : EraFits s.first_era) where
    first_names : (t : Spot) → names (first_pool s) t ≡ 0
    first_names t = elim (cases_eq (names (first_pool s) t) 0) [
      | inl e ↦ e
      | inr some ↦ absurd (true≢false (sym ((first_run s fits begins).held.at.count.targets t some) ∙ first_dead (names (first_pool s) t)))
    ]

    first_falling : AreFalling (first_pool s)
    first_falling = record { home = first_names (Home 0); rank = λ b. b; most = 0; falls = λ d i some. absurd (some (first_names (Body d i))) }

-- a client that has joined a first pool has done nothing else
pub joined_falling : (p : Pool) → GeometryFits p.start.geometry → EraFits p.start.first_era → IsRun p → Did 0 (first_pool p.start) p [] → AreFalling p
joined_falling p fits begins run did = falling_kept (first_pool p.start) p [] (first_run p.start fits begins) run refl did (first_falling p.start fits begins) tt

-- so that no block is live
pub joined_dead : (p : Pool) → GeometryFits p.start.geometry → EraFits p.start.first_era → IsRun p → Did 0 (first_pool p.start) p [] → (b : ℕ) → is_live p b ≡ false
joined_dead p fits begins run did b =
    did_keeps 0 (first_pool p.start) p [] (first_run p.start fits begins) run refl did (Unmade b) refl (λ w v. (headers w b).live ≡ false) (dead_kept p.start.geometry 0 b) tt (first_dead p.start fits b)
