-- the words after a store at one spot
use Rattle.std.proofs.{Common.{◌≡◌, ℕ, sym, false, inl, inr, subst}, lemmas.Bool.{cases_Bool, cond-true, cond-false}}
use Rattle.shm_graph.specs.{declared.spot.Spot.Spot, Spots.{same_spot, upd}}
use Rattle.shm_graph.proofs.Spots.Spotting.{same_spot_self, same_spot_is}

pub upd_here : (w : Spot → ℕ) (p : Spot) (x : ℕ) → upd w p x p ≡ x
upd_here w p x = cond-true (same_spot p p) x (w p) (same_spot_self p)

pub upd_other : (w : Spot → ℕ) (p : Spot) (x : ℕ) (q : Spot) → same_spot p q ≡ false → upd w p x q ≡ w q
upd_other w p x q n = cond-false (same_spot p q) x (w q) n

-- a fact of the stored word and of each other one is one of all
pub upd_all : (P : Spot → ℕ → Type 0) (w : Spot → ℕ) (p : Spot) (x : ℕ) (q : Spot) → P p x → (same_spot p q ≡ false → P q (w q)) → P q (upd w p x q)
upd_all P w p x q here other =
    elim (cases_Bool (same_spot p q)) [
      | inl e ↦ subst (λ r. P r (upd w p x r)) (same_spot_is p q e) (subst (P p) (sym (upd_here w p x)) here)
      | inr e ↦ subst (P q) (sym (upd_other w p x q e)) (other e)
    ]
