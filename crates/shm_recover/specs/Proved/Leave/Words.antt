-- what a held state shows of roots and segments, and that nothing is left to finish once they are gone
use Rattle.std.proofs.Common.{◌≡◌, ℕ, ◌<◌, ◌≤◌, refl, ◌∙◌, subst, arith, List, [], ◌∷◌, inl, inr}
use Rattle.std.proofs.lemmas.Bool.{and_parts, cases_eq, eq-eqb, ltb-true}
use Rattle.std.specs.List.{Contains}
use Rattle.shm_graph.specs.declared.{ask.Me.Me, spot.Spot.{Spot, TheVariants.{Root, Segment}}, memo.Memo.Memo}
use Rattle.shm_graph.specs.{Blocks.classes, Held.HeldAt, Laws.GoneNow, Views.view}
use Rattle.shm_graph.proofs.Spots.SpotPlaces.{at_is_in}
use Rattle.plans.specs.Parts.{IsHeld}
use Rattle.shm_count.specs.Roots.{root_word}
use Rattle.shm_recover.specs.Leave.{IsLeaving}

-- ---- words that no pool has

module _ (me : Me) (l : me.who < me.geometry.clients) where
  beyond_at : (w : Spot → ℕ) (r : ℕ → Memo) (k : ℕ) → HeldAt me.geometry w (view r) → 16 ≤ k → root_word me.who (r me.who) k ≡ 0
  beyond_at w r k h far =
      h.mine me.who l (Root me.who k) (eq-eqb me.who me.who refl)
      ∙ elim (cases_eq (w (Root me.who k)) 0) [
        | inl e ↦ e
        | inr n ↦ absurd (let y = ltb-true k 16 (and_parts _ _ (at_is_in me.geometry (classes w) (Root me.who k) h.fits (h.there (Root me.who k) n))).1 in omega arith)
      ]

  -- an identity has 16 roots
  pub root_beyond : (m : Memo) (k : ℕ) → IsHeld me m → 16 ≤ k → root_word me.who m k ≡ 0
  root_beyond m k (w, r, h, same) far = subst (λ (x : Memo). root_word me.who x k ≡ 0) same (beyond_at w r k h far)

  owned_at : (w : Spot → ℕ) (r : ℕ → Memo) (i : ℕ) → HeldAt me.geometry w (view r) → Contains (r me.who).owned i → i < me.geometry.segments
  owned_at w r i h has = ltb-true i me.geometry.segments (at_is_in me.geometry (classes w) (Segment i) h.fits (h.there (Segment i) (λ z. let y = (h.segments me.who l).listed i has in absurd (omega arith))))

  -- a segment that it owns is one of the pool
  pub owned_inside : (m : Memo) (i : ℕ) → IsHeld me m → Contains m.owned i → i < me.geometry.segments
  owned_inside m i (w, r, h, same) = subst (λ (x : Memo). Contains x.owned i → i < me.geometry.segments) same (owned_at w r i h)

-- ---- once roots and segments are gone

module _ (me : Me) (r : Memo) (h : IsLeaving me me.geometry.segments r) where
  none_left : (xs : List ℕ) → ((i : ℕ) → Contains xs i → (me.geometry.segments ≤ i) × (i < me.geometry.segments)) → xs ≡ []
  none_left [] all = refl
  none_left (x ∷ xs) all = let y = all x (0, omega arith, refl) in absurd (omega arith)

  -- nothing is left to finish
  pub all_done : GoneNow me.who r
  all_done =
      record {
        roots = h.roots;
        hold = h.may.hold;
        idle = h.may.may.idle;
        latched = h.may.latch;
        segments = none_left r.owned h.owned;
        dyings = h.may.dying;
        sends = h.may.sends;
        takes = h.may.takes;
      }
