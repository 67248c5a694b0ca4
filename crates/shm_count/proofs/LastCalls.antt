-- what the trail of a plan shows because its last call shows it: where a plan answers that a count is full, a header that shows it was read
use Rattle.std.proofs.Common.{◌≡◌, ℕ, zero, suc, refl, sym, ap, ◌∙◌, subst, append-nil, Bool, true, false, ◌++◌}
use Rattle.std.proofs.lemmas.List.Elements.{Contains-append_right}
use Rattle.std.specs.Prelude.{◌-◌, ◌^◌, ◌==◌, nat_lt, if◌then◌else◌, Option, Some, None, Result, Ok, Err}
use Rattle.shm_graph.specs.Asks.{Trail}
use Rattle.plans.specs.{declared.or.Or.TheVariants.{First, Second}, Plans.{Planned, calls_asked, go_on, plan_trail}}
use Rattle.shm_count.specs.declared.answer.{ShareFault.ShareFault, UpFault.{UpFault, TheVariants.{CountFull, EraSpent}}}
use Rattle.shm_count.specs.declared.{point.Aim.TheVariants.Up, up_root.RootingPoint.RootingPoint}
use Rattle.shm_count.specs.declared.up_root.{RootingPoint.TheVariants.{Era, Look, Step}, RootingState.RootingState}
use Rattle.shm_count.specs.{Refusing.ReadsCount, Step.{Control.first_point, Asks.point_trail, Machines.up_answer}}
use Rattle.shm_count.specs.Proved.Step.{BeforeExchange.first_asked, Refusing.first_reads}
use Rattle.shm_count.specs.UpRoot.Control.{RootingAnswer, rooting_call, rooting_turns, taken_up}
use Rattle.shm_count.specs.UpRoot.{rooting_part, rooting_plan}
use Rattle.shm_count.specs.declared.answer.ShareFault.TheVariants as share

-- ---- any plan

module _ {P C B A : Type 0} (q : Planned P C B A) (a : A) (I : P → Type 0) (R : Trail → Type 0)
    (keeps : (p : P) (b : B) → I p → q.steered.turns p b ≡ None → I (q.steered.after p b))
    (later : (t rest : Trail) → R rest → R (t ++ rest))
    (last : (p : P) (t : Trail) (b : B) → I p → (q.part p).asks (q.steered.call p) t b → q.steered.turns p b ≡ Some a → R t) where
  ends_in : (n : ℕ) (p : P) (tr : Trail) → I p → calls_asked q n p tr a → R tr
  ends_in zero p tr i h = absurd h
  ends_in (suc n) p tr i (t, (rest, b, split, asks, y)) = subst R (sym split) (go (q.steered.turns p b) refl y (λ j z. ends_in n (q.steered.after p b) rest j z))
    where
      go : (o : Option A) → q.steered.turns p b ≡ o → go_on q (calls_asked q n) (q.steered.after p b) o rest a → (I (q.steered.after p b) → calls_asked q n (q.steered.after p b) rest a → R rest) → R (t ++ rest)
      go None e z more = later t rest (more (keeps p b i e) z)
      go (Some x) e z more = subst (λ (u : Trail). R (t ++ u)) (sym z.0) (subst R (sym (append-nil t)) (last p t b i asks (e ∙ ap (λ (u : A). Some u) z.1)))

  -- what holds of what the last call asked, and stays where more was asked before, holds of the trail
  pub trail_ends : (p : P) (tr : Trail) → I p → plan_trail q p tr a → R tr
  trail_ends p tr i (n, h) = ends_in n p tr i h

-- ---- a full count

-- what was read stays read where more was asked before
reads_after : (d n : ℕ) (t rest : Trail) → ReadsCount d n rest → ReadsCount d n (t ++ rest)
reads_after d n t rest h = (h.0, Contains-append_right t rest h.0 h.1, h.2, h.3)

pub reads_same : (b k d n : ℕ) (t : Trail) → b ≡ d → k ≡ n → ReadsCount b k t → ReadsCount d n t
reads_same b k d n t block count h = subst (λ j. ReadsCount j n t) block (subst (λ j. ReadsCount b j t) count h)

-- a plan whose last call has read it
pub count_read : {P C B A : Type 0} (q : Planned P C B A) (a : A) (d n : ℕ) → ((p : P) (t : Trail) (b : B) → (q.part p).asks (q.steered.call p) t b → q.steered.turns p b ≡ Some a → ReadsCount d n t) → (p : P) (tr : Trail) → plan_trail q p tr a → ReadsCount d n tr
count_read {P} q a d n last p tr = trail_ends q a (λ (x : P). Unit {0}) (λ (t : Trail). ReadsCount d n t) (λ p b i e. tt) (reads_after d n) (λ p t b i asks e. last p t b asks e) p tr tt

-- an up at the least empty root
pub up_root_reads : (p : RootingState) (tr : Trail) (d n : ℕ) → plan_trail rooting_plan p tr (Err (share.CountFull d n)) → ReadsCount d n tr
up_root_reads p tr d n = count_read rooting_plan (Err (share.CountFull d n)) d n (λ m t b. last m m.point t b) p tr
  where
    -- no other answer is one of a full count
    Full : Option (Result ℕ ShareFault) → Type 0
    Full o = o ≡ Some (Err (share.CountFull d n))

    no_era : (q : Bool) (x : ℕ) → Full (if q then Some (Err (share.EraSpent x)) else None) → ⊥
    no_era true x e = cc
    no_era false x e = cc

    no_look : (q z : Bool) → Full (if q then None else if z then Some (Err share.RootsFull) else None) → ⊥
    no_look true z e = cc
    no_look false true e = cc
    no_look false false e = cc

    step : (m : RootingState) (t : Trail) (b k : ℕ) (a : Result Bool UpFault) → up_answer a ≡ Err (CountFull b k) → point_trail m.me (taken_up m.me m.root m.block m.era).slot (Up m.block) (first_point m.me m.era) t a → ReadsCount b k t
    step m t b k (Ok z) e h = absurd (cc)
    step m t b k (Err (EraSpent x)) e h = absurd (cc)
    step m t b k (Err (CountFull x y)) e h =
        let slot = (taken_up m.me m.root m.block m.era).slot in
        reads_same x y b k t (cc) (cc) (first_reads m.me slot (Up m.block) m.era t x y (first_asked m.me slot (Up m.block) m.era t (Err (CountFull x y)) h))

    last : (m : RootingState) (y : RootingPoint) (t : Trail) (b : RootingAnswer) → (rooting_part m y).asks (rooting_call m y) t b → Full (rooting_turns m y b) → ReadsCount d n t
    last m Era t (First x) h e = absurd (no_era (nat_lt (2 ^ 47 - 3) x) x e)
    last m Era t (Second b) h e = absurd h
    last m Look t (First x) h e = absurd (no_look (x == 0) (m.root == 15) e)
    last m Look t (Second b) h e = absurd h
    last m Step t (First x) h e = absurd h
    last m Step t (Second (Ok done)) h e = absurd (cc)
    last m Step t (Second (Err (EraSpent x))) h e = absurd (cc)
    last m Step t (Second (Err (CountFull b k))) h e = reads_same b k d n t (cc) (cc) (step m t b k h.0 h.1 h.2)
