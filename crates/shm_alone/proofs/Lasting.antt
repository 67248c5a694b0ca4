-- a call of a machine that works alone on a pool
use Rattle.std.proofs.Common.{◌≡◌, ℕ, ◌<◌, ◌+◌, ◌*◌, ◌^◌, ◌≤◌, ◌++◌, List, length, true, false, Bool, sym, ap, ◌∙◌, subst, arith, inl, inr}
use Rattle.std.proofs.lemmas.Bool.{cases_Bool}
use Rattle.shm_words.specs.{declared.geometry.Geometry.Geometry, Layout.GeometryFits}
use Rattle.shm_graph.specs.declared.{ask.Me.Me, spot.Spot.Spot, memo.Memo.Memo, run.{Move.Move, Start.Start}}
use Rattle.shm_graph.specs.{Asks.{Trail, call_before}, Events.Event, Laws.{Control, Laws}, Runs.{Leads, first_state}}
use Rattle.shm_graph.specs.{Spots.see, Tells.{Tells, machine_steps}, Whole.fits_now}
use Rattle.plans.specs.{declared.calls.Calls.Calls, CallsControl.{calls_control, calls_does, calls_of}}
use Rattle.plans.specs.{CallsFit.{CallsFits, CallsGives}, Proved.CallsKeep.{calls_laws, calls_tells}}
use Rattle.plans.specs.Plans.{PlanLaws, Planned}
use Rattle.shm_plain.specs.Pools.{Pool, IsOf, IsRun, MayStep, memo_of, readied}
use Rattle.shm_plain.specs.Calls.{Ran, TookSteps, state_of, words}
use Rattle.shm_plain.proofs.{OwnTurns.leads_after, Turning.ready_run}
use Rattle.shm_alone.specs.{Alone.{pay, left_limit, alone_steps, EndsAlone}, Size.{size_of, size_limit}}
use Rattle.shm_alone.proofs.{Shrinking.size_small, Paying.{at_most, graph_in}}

-- the numbers
few : (wide : Bool) (n l s x y : ℕ) → n ≤ l + pay * s + 1 → l ≤ left_limit wide → s ≤ size_limit wide → y + n ≡ x → x ≤ y + alone_steps wide
few false n l s x y a b c e = omega arith
few true n l s x y a b c e = omega arith

-- what is few in format 1 is few in both
pub left_few : (wide : Bool) (n : ℕ) → n ≤ 2 ^ 30 → n ≤ left_limit wide
left_few false n l = omega arith
left_few true n l = omega arith

-- and how many that is at most
pub alone_few : (wide : Bool) → alone_steps wide ≤ 2 ^ 38
alone_few false = omega arith
alone_few true = omega arith

-- 2^34 word steps, in format 2 2^38, are enough for a call that this machine begins, where nobody else steps
abbrev pub Lasts : {S A : Type 0} → Control S A → (S → Memo → Memo → Trail → Type 0) → S → Type 0
Lasts k fits m = (c : ℕ) (p q : Pool) (r0 : Memo) → IsRun p → IsRun q → q.start ≡ p.start → MayStep p c → IsOf p c k m → fits_now k fits m r0 (memo_of (readied p c) c) → TookSteps k c p m q → (x y : ℕ) → y + length (memo_of q c).call ≡ x → x ≤ y + alone_steps p.start.geometry.wide

module _ {S A : Type 0} (k : Control S A) (fits : S → Memo → Memo → Trail → Type 0) (gives : S → Memo → Memo → Trail → A → Type 0) (laws : Laws k fits gives) (does : S → ℕ → Event) (tells : Tells k fits does)
    (alone : S → (Spot → ℕ) → Type 0) (left : S → ℕ) (saved : A → ℕ) (ends : EndsAlone k does alone left saved fits) (m : S) where
  -- it took no more word steps than it had left
  took_most : (c : ℕ) (p q : Pool) (r0 : Memo) → IsRun p → IsRun q → q.start ≡ p.start → MayStep p c → IsOf p c k m → fits_now k fits m r0 (memo_of (readied p c) c) → alone m (see p.start.geometry p.words) → (t : TookSteps k c p m q)
      → length t.trail ≤ left m + pay * size_of p.start.geometry.wide (graph_in p.start.geometry (state_of (readied p c))) + 1
  took_most c p q r0 before now start may of fit knows t =
      let g : Geometry = p.start.geometry in
      let r : Pool = readied p c in
      let ready : IsRun r = (ready_run p c before of.1 may).0 in
      let ms : List Move = words (machine_steps k m t.trail) in
      let all : Leads g (first_state p.start) (r.turns ++ ms) (state_of q) =
      subst (λ (ns : List Move). Leads g (first_state p.start) ns (state_of q)) t.grew (subst (λ (s : Start). Leads s.geometry (first_state s) q.turns (state_of q)) start now.leads) in
      let leads : Leads g (state_of r) ms (state_of q) = leads_after g (first_state p.start) r.turns ms (state_of r) (state_of q) ready.leads all in
      at_most k fits gives laws does tells alone left saved ends g c (state_of r) m r0 t.trail (state_of q) of.0 of.1 ready.held leads fit t.goes knows

  -- where it has made no step, and knows nothing of the words, its control says that so many are enough
  pub lasts : ((w : Spot → ℕ) → alone m w) → (GeometryFits (k.me m).geometry → left m ≤ left_limit (k.me m).geometry.wide) → k.fresh m ≡ true → Lasts k fits m
  lasts knows small fresh c p q r0 before now start may of fit t x y e =
      let same : (memo_of q c).call ≡ t.trail = t.call ∙ ap (λ (b : Bool). call_before b (memo_of (readied p c) c).call ++ t.trail) fresh in
      let wide : Bool = p.start.geometry.wide in
      let size = size_small wide (graph_in p.start.geometry (state_of (readied p c))) in
      let low : left m ≤ left_limit wide = subst (λ (me : Me). GeometryFits me.geometry → left m ≤ left_limit me.geometry.wide) of.0 small before.held.at.fits in
      few wide (length t.trail) (left m) (size_of wide (graph_in p.start.geometry (state_of (readied p c)))) x y (took_most c p q r0 before now start may of fit (knows (see p.start.geometry p.words)) t) low size (ap (λ (tr : Trail). y + length tr) (sym same) ∙ e)

-- it has answered, and at most so many word steps of its life went
pub answers_alone : {S A : Type 0} (k : Control S A) (fits : S → Memo → Memo → Trail → Type 0) (m : S) → Lasts k fits m → (c : ℕ) (p q : Pool) (r0 : Memo) (answered : Bool) (x y : ℕ) → IsRun p → MayStep p c → IsOf p c k m → fits_now k fits m r0 (memo_of (readied p c) c) → k.fresh m ≡ true
    → Ran c (k.fresh m) answered p q x y → (0 < x → TookSteps k c p m q) → (0 < x → k.fresh m ≡ true → y + length (memo_of q c).call ≡ x) → alone_steps p.start.geometry.wide < x
    → (answered ≡ true) × (x ≤ y + alone_steps p.start.geometry.wide)
answers_alone k fits m enough c p q r0 answered x y before may of fit fresh ran took spent long =
    let some : 0 < x = omega arith in
    let last : x ≤ y + alone_steps p.start.geometry.wide = enough c p q r0 before ran.run ran.start may of fit (took some) x y (spent some fresh) in
    elim (cases_Bool answered) [
      | inl e ↦ (e, last)
      | inr e ↦ (let none = ran.died e in absurd (omega arith))
    ]

-- of a machine that makes the calls of a plan
pub calls_last : {P C A B : Type 0} (k : Control C B) (q : Planned P C B A) → PlanLaws k q → (alone : Calls P C → (Spot → ℕ) → Type 0) (left : Calls P C → ℕ) (saved : A → ℕ) → EndsAlone (calls_control k q.steered) (calls_does k q) alone left saved (CallsFits k q)
    → (p : P) → ((w : Spot → ℕ) → alone (calls_of q.steered p) w) → (GeometryFits (q.steered.me p).geometry → left (calls_of q.steered p) ≤ left_limit (q.steered.me p).geometry.wide) → (calls_control k q.steered).fresh (calls_of q.steered p) ≡ true → Lasts (calls_control k q.steered) (CallsFits k q) (calls_of q.steered p)
calls_last k q laws alone left saved ends p knows small fresh = lasts (calls_control k q.steered) (CallsFits k q) (CallsGives k q) (calls_laws k q laws) (calls_does k q) (calls_tells k q laws) alone left saved ends (calls_of q.steered p) knows small fresh
