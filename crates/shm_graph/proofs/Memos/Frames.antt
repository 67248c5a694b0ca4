-- what a change of one identity's part leaves
use Rattle.std.proofs.Common.{◌≡◌, ◌≢◌, ℕ, refl, sym, true, false, Bool, cond, eqb, subst, inl, inr}
use Rattle.std.proofs.{Math.Path.fun_ext, lemmas.Bool.cases_eq}
use Rattle.shm_graph.specs.Views.{at1}
use Rattle.shm_graph.proofs.Runs.Lists.{at1_here, at1_other}

-- a fact of the changed value and of each other one is one of all
pub at1_all : {T : Type 0} (P : ℕ → T → Type 0) (f : ℕ → T) (c : ℕ) (x : T) (d : ℕ) → P c x → (c ≢ d → P d (f d)) → P d (at1 f c x d)
at1_all P f c x d here other =
    elim (cases_eq c d) [
      | inl e ↦ subst (λ k. P k (at1 f c x k)) e (subst (P c) (sym (at1_here f c x)) here)
      | inr n ↦ subst (P d) (sym (at1_other f c x d n)) (other n)
    ]

-- the value that was there
pub at1_same : {T : Type 0} (f : ℕ → T) (c : ℕ) (x : T) → x ≡ f c → at1 f c x ≡ f
at1_same {T} f c x e = fun_ext (λ d. at1_all (λ (k : ℕ) (y : T). y ≡ f k) f c x d e (λ n. refl))

-- of two changes at one identity the second stands
pub at1_twice : {T : Type 0} (f : ℕ → T) (c : ℕ) (x y : T) → at1 (at1 f c x) c y ≡ at1 f c y
at1_twice {T} f c x y = fun_ext (λ d. twice (eqb c d) (f d))
  where
    twice : (b : Bool) (z : T) → cond b y (cond b x z) ≡ cond b y z
    twice true z = refl
    twice false z = refl

-- what no function tells apart stays, and what one gives
pub cond_same : {S T : Type 0} (f : S → T) (b : Bool) (x y z : S) → f y ≡ f x → f (cond b y z) ≡ f (cond b x z)
cond_same f true x y z e = e
cond_same f false x y z e = refl
