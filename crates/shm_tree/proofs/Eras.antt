-- The own era only grows, so that one that is spent stays so.
use Rattle.std.proofs.Common.{◌≡◌, ◌==◌, ◌&&◌, ℕ, ◌≤◌, Bool, true, false, cond, List, [], ◌∷◌, refl, sym, ap, ◌∙◌, subst, arith, inl, inr}
use Rattle.std.proofs.lemmas.Bool.{and_parts, cases_eq, eqb-true, eq-eqb, ne_eqb}
use Rattle.std.specs.List.{AllByRecursion}
use Rattle.shm_words.specs.declared.geometry.Geometry.{Geometry}
use Rattle.shm_graph.specs.declared.{ask.Ask.{Ask, TheVariants.{Load, Store, Exchange}}, run.Start.Start}
use Rattle.shm_graph.specs.{declared.spot.Spot.{Spot, TheVariants.Era}, Asks.words_after, Controllers.IsEraRaised}
use Rattle.shm_graph.specs.{Events.Event, Spots.{see, upd}, Views.own_word}
use Rattle.shm_plain.specs.Pools.{IsRun, Pool, memo_of}
use Rattle.shm_tree.specs.{Standing.word_of, Working.{IsSpent, IsWorking, Went}}
use Rattle.shm_tree.proofs.Turns.{StepsKeep, did_keeps}

abbrev any : Event → Type 0
any e = Unit {0}

all_any : (es : List Event) → AllByRecursion any es
all_any [] = tt
all_any (e ∷ es) = (tt, all_any es)

era_at : (w : Spot → ℕ) (i j value x : ℕ) → w (Era i j) ≤ value → x ≤ w (Era 0 0) → x ≤ cond ((i == 0) && (j == 0)) value (w (Era 0 0))
era_at w i j value x raised h = by ((i == 0) && (j == 0)) refl
  where
    by : (c : Bool) → ((i == 0) && (j == 0)) ≡ c → x ≤ cond c value (w (Era 0 0))
    by false e = h
    by true e =
        let both = and_parts (i == 0) (j == 0) e in
        let ei : i ≡ 0 = eqb-true i 0 both.0 in
        let ej : j ≡ 0 = eqb-true j 0 both.1 in
        let same : w (Era i j) ≡ w (Era 0 0) = ap (λ (k : ℕ). w (Era k j)) ei ∙ ap (λ (k : ℕ). w (Era 0 k)) ej in
        omega (arith, raised, h, same)

stored : (w : Spot → ℕ) (p : Spot) (value x : ℕ) → ((i j : ℕ) → p ≡ Era i j → w (Era i j) ≤ value) → x ≤ w (Era 0 0) → x ≤ upd w p value (Era 0 0)
stored w (Era i j) value x raised h = era_at w i j value x (raised i j refl) h
stored w p value x raised h = h

stepped : (w : Spot → ℕ) (a : Ask) (p : Spot) (x : ℕ) → IsEraRaised w a p → x ≤ w (Era 0 0) → x ≤ words_after w a p (Era 0 0)
stepped w (Load at) p x r h = h
stepped w (Store at value) p x r h = stored w p value x (λ i j e. (subst (IsEraRaised w (Store at value)) e r).0) h
stepped w (Exchange at from to) p x r h =
    elim (cases_eq (w p) from) [
      | inl e ↦ subst (λ (c : Bool). x ≤ cond c (upd w p to) w (Era 0 0)) (sym (eq-eqb (w p) from e)) (stored w p to x (λ i j is. (subst (IsEraRaised w (Exchange at from to)) is r (sym (ap w is) ∙ e)).0) h)
      | inr ne ↦ subst (λ (c : Bool). x ≤ cond c (upd w p to) w (Era 0 0)) (sym (ne_eqb (w p) from ne)) h
    ]

kept : (g : Geometry) (x : ℕ) → StepsKeep g 0 any (λ w v. x ≤ w (Era 0 0))
kept g x w w' v v' a p e low held step is good h = subst (λ (u : Spot → ℕ). x ≤ u (Era 0 0)) (sym is) (stepped w a p x step.era h)

era_is : (p : Pool) → IsRun p → p.start.geometry.clients ≡ 1 → own_word (memo_of p 0).own (Era 0 0) ≡ word_of p (Era 0 0)
era_is p run one = run.held.at.mine 0 (omega (arith, one)) (Era 0 0) refl

-- also in the midst of a call
pub spent_went : (p q : Pool) {x y : ℕ} → IsWorking p → Went p q x y → IsSpent (memo_of p 0) → IsSpent (memo_of q 0)
spent_went p q wp went spent =
    let before = era_is p wp.run wp.one in
    let after = era_is q went.run (ap (λ (s : Start). s.geometry.clients) went.start ∙ wp.one) in
    let least : ℕ = word_of p (Era 0 0) in
    let grown : least ≤ see p.start.geometry q.words (Era 0 0) =
    did_keeps 0 p q went.did.0 wp.run went.run went.start went.did.1 any tt (λ w v. least ≤ w (Era 0 0)) (kept p.start.geometry least) (all_any went.did.0) (omega arith) in
    let same : word_of q (Era 0 0) ≡ see p.start.geometry q.words (Era 0 0) = ap (λ (s : Start). see s.geometry q.words (Era 0 0)) went.start in
    omega (arith, before, after, grown, same, spent)

pub spent_stays : (p q : Pool) {x y : ℕ} → IsWorking p → IsWorking q → Went p q x y → IsSpent (memo_of p 0) → IsSpent (memo_of q 0)
spent_stays p q wp wq went spent = spent_went p q wp went spent
