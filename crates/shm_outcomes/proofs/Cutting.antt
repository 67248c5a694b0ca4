-- identities that were given up after so many turns
use Rattle.std.proofs.Common.{◌≡◌, ℕ, ◌+◌, ◌<◌, ◌⊎◌, Bool, true, false, eqb, List, [], ◌∷◌, take, refl, sym, ap, ◌∙◌, subst, arith, inl, inr}
use Rattle.std.proofs.lemmas.Bool.{cond-false, cond-true}
use Rattle.std.specs.Prelude.{Option, Some, slice_index}
use Rattle.shm_agents.specs.{Cuts.AreCut, Turns.{lives_of, script_in}}
use Rattle.shm_async.specs.Limited.{AreGiven, AreLimited, IsCutTo, LimitedWithin}
use Rattle.shm_graph.specs.{declared.run.Account.Account, Runs.account_at}
use Rattle.shm_script.specs.Values.{Scripted}
use Rattle.shm_outcomes.proofs.Elements.{head_same}

pub some_same : (x y : Scripted) → ◌≡◌ {A = Option Scripted} (Some x) (Some y) → x ≡ y
some_same x y e = cc

-- the script as it was cut, or as it is
abbrev pub MayBeCut : ℕ → Scripted → Scripted → Type 0
MayBeCut turns s r = (r ≡ s) ⊎ IsCutTo turns s r

module _ (turns : ℕ) (es : List Account) (c : ℕ) (s : Scripted) where
  -- what a script is under the limit
  abbrev Under : Scripted → Scripted → Type 0
  Under q r = ((r ≡ q) × LimitedWithin turns q (account_at es q.client)) ⊎ IsCutTo turns q r

  same_client : (q r : Scripted) → Under q r → r.client ≡ q.client
  same_client q r (inl h) = ap (λ (z : Scripted). z.client) h.0
  same_client q r (inr h) = ap (λ (z : Scripted). z.client) h.script

  may_be_cut : (q r : Scripted) → q ≡ s → Under q r → MayBeCut turns s r
  may_be_cut q r same (inl h) = inl (h.0 ∙ same)
  may_be_cut q r same (inr h) = inr (subst (λ (z : Scripted). IsCutTo turns z r) same h)

  abbrev Found : List Scripted → Type 0
  Found rs = (x : Scripted) × (script_in rs c ≡ Some x) × MayBeCut turns s x

  pub cut_in : (ss rs : List Scripted) → AreLimited turns es ss rs → script_in ss c ≡ Some s → Found rs
  cut_in [] rs are is = absurd (cc)
  cut_in (q ∷ ss) [] are is = absurd are
  cut_in (q ∷ ss) (r ∷ rs) are is = go (eqb q.client c) refl (cut_in ss rs are.1)
    where
      who : r.client ≡ q.client
      who = same_client q r are.0

      go : (b : Bool) → eqb q.client c ≡ b → (script_in ss c ≡ Some s → Found rs) → Found (r ∷ rs)
      go true f later =
          let same : q ≡ s = some_same q s (sym (cond-true (eqb q.client c) (Some q) (script_in ss c) f) ∙ is) in
          (r, cond-true (eqb r.client c) (Some r) (script_in rs c) (ap (λ (n : ℕ). eqb n c) who ∙ f), may_be_cut q r same are.0)
      go false f later =
          let (x, at, cut) = later (sym (cond-false (eqb q.client c) (Some q) (script_in ss c) f) ∙ is) in
          (x, cond-false (eqb r.client c) (Some r) (script_in rs c) (ap (λ (n : ℕ). eqb n c) who ∙ f) ∙ at, cut)

-- the first of the lives that were cut, where it is less than it was
pub cut_first : (all lives : List ℕ) (turns n : ℕ) → AreCut all lives → AreGiven all lives turns → n ≡ slice_index lives 0 → n < slice_index all 0 → n ≡ turns
cut_first [] lives turns n cut given is less = let none : n < 0 = less in absurd (omega arith)
cut_first (k ∷ all) [] turns n cut given is less = absurd cut
cut_first (k ∷ all) (j ∷ []) turns n cut (inl e) is less = let all_turns : turns + 1 ≡ j + 1 + 0 = e in let same : n ≡ j = is in omega arith
cut_first (k ∷ all) (j ∷ []) turns n cut (inr (e, whole, more)) is less = let same : j ≡ k = head_same j k [] (take 0 all) whole in let here : n ≡ j = is in let low : n < k = less in absurd (omega arith)
cut_first (k ∷ all) (j ∷ i ∷ lives) turns n cut given is less = let same : j ≡ k = cut.0 in let here : n ≡ j = is in let low : n < k = less in absurd (omega arith)

-- a script that was cut keeps the word steps of its first life for the first agent
pub first_life : (life : List ℕ) (all : List ℕ) → AreCut all life → slice_index (lives_of life) 0 ≡ slice_index life 0
first_life [] [] cut = absurd cut
first_life [] (n ∷ all) cut = absurd cut
first_life (k ∷ life) all cut = refl

-- a client that died before the word steps of its life were made
pub cut_at : (turns n : ℕ) (s r : Scripted) → MayBeCut turns s r → n ≡ slice_index (lives_of r.life) 0 → n < slice_index (lives_of s.life) 0 → n ≡ turns
cut_at turns n s r (inl e) is less = let same : slice_index (lives_of r.life) 0 ≡ slice_index (lives_of s.life) 0 = ap (λ (z : Scripted). slice_index (lives_of z.life) 0) e in absurd (omega arith)
cut_at turns n s r (inr h) is less = cut_first (lives_of s.life) r.life turns n h.cut h.given (is ∙ first_life r.life (lives_of s.life) h.cut) less
