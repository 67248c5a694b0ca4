-- what a home names that isn't 0 is its word
use Rattle.std.proofs.Common.{◌≡◌, ◌≢◌, ℕ, zero, suc, ◌<◌, refl, sym, ap, ◌∙◌, subst, arith, inl, inr}
use Rattle.std.proofs.lemmas.Bool.{cases_Bool, cond-true, cond-false, true≢false, false≢true}
use Rattle.shm_words.specs.declared.geometry.Geometry.{Geometry}
use Rattle.shm_graph.specs.declared.{spot.Spot.{Spot, TheVariants.{Home, Redo, RedoMore, Era, Page}}, memo.First.First}
use Rattle.shm_graph.specs.declared.memo.First.TheVariants.{Begun, Committed, Written}
use Rattle.shm_graph.specs.declared.memo.{ChangeStage.TheVariants.{Raising, Lowering}, Op.Op}
use Rattle.shm_graph.specs.{declared.memo.Op.TheVariants.{Nothing, Alloc, Up, Down, Change}, Spots.same_spot}
use Rattle.shm_graph.specs.{References.words_of, Ops.{Cover, cover, cover_of, cover_from, covered, word_at, Cover.On}}
use Rattle.shm_graph.specs.{Views.{View, targets}, Held.{HeldAt, OpTie, Allowed, is_root, is_home}}
use Rattle.shm_graph.proofs.Spots.Spotting.{same_spot_is}

-- what each of the first identities leaves
pub covered_left : (ps : ℕ → Cover) (n : ℕ) (p : Spot) (x : ℕ) → ((d : ℕ) → d < n → cover (ps d) p x ≡ x) → covered ps n p x ≡ x
covered_left ps zero p x h = refl
covered_left ps (suc n) p x h = ap (cover (ps n) p) (covered_left ps n p x (λ d l. h d (omega arith))) ∙ h n (omega arith)

-- a cover of another spot, or with the value that is there
pub cover_on : (q p : Spot) (new x : ℕ) → (q ≡ p → new ≡ x) → cover (On q new) p x ≡ x
cover_on q p new x h =
    elim (cases_Bool (same_spot q p)) [
      | inl e ↦ cond-true _ _ _ e ∙ h (same_spot_is q p e)
      | inr e ↦ cond-false _ _ _ e
    ]

pub cover_never : (s : First) (q p : Spot) (new x : ℕ) → (q ≡ p → ⊥) → cover (cover_from s q new) p x ≡ x
cover_never Begun q p new x n = refl
cover_never Committed q p new x n = cover_on q p new x (λ e. absurd (n e))
cover_never Written q p new x n = cover_on q p new x (λ e. absurd (n e))

home_cover : (g : Geometry) (class : ℕ → ℕ → ℕ) (redo more own : ℕ) (w : Spot → ℕ) (c a : ℕ) (o : Op) → OpTie g class redo more own (words_of g.wide w) o → Allowed c o → w (Home a) ≢ 0 → cover (cover_of o) (Home a) (w (Home a)) ≡ w (Home a)
home_cover g class redo more own w c a (Alloc s p b e) tie may n = cover_never s p (Home a) b (w (Home a)) (λ q. false≢true (ap is_root (sym q) ∙ may))
home_cover g class redo more own w c a (Up Committed p b e) tie may n = cover_on p (Home a) b (w (Home a)) (λ q. absurd (n (subst (λ r. word_at (words_of g.wide w) r ≡ 0) q tie.word)))
home_cover g class redo more own w c a (Up Written p b e) tie may n = cover_on p (Home a) b (w (Home a)) (λ q. sym (subst (λ r. word_at (words_of g.wide w) r ≡ b) q tie.word))
home_cover g class redo more own w c a (Down s p b e) tie may n = cover_never s p (Home a) 0 (w (Home a)) (λ q. true≢false (ap is_home (sym q) ∙ may))
home_cover g class redo more own w c a (Change (Raising s) p x b e) tie may n = cover_never s p (Home a) b (w (Home a)) (λ q. true≢false (ap is_home (sym q) ∙ may.1))
home_cover g class redo more own w c a _ tie may n = refl

pub home_target : (g : Geometry) (w : Spot → ℕ) (v : View) (a : ℕ) → HeldAt g w v → w (Home a) ≢ 0 → targets g w v (Home a) ≡ w (Home a)
home_target g w v a h n =
    covered_left (λ d. cover_of (v.op d)) g.clients (Home a) (w (Home a))
    (λ d l. home_cover g (λ s q. w (Page s q)) (w (Redo d)) (w (RedoMore d)) (w (Era d d)) w d a (v.op d) (h.op d l) (h.allowed d l) n)
