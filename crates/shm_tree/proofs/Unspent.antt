-- Where the client of a pool has made few word steps its own era leaves room, and no call was refused since it doesn't.
use Rattle.shm_tree.specs.{declared.hints.Hints.Hints, Causes.{StopCause, Within}, Forests.CallStopped, Working.IsSpent}
use Rattle.shm_tree.specs.declared.stop.Stop.TheVariants as stop
use Rattle.shm_tree.proofs.{Asking.asked_near, Turns.did_leads}
use Rattle.std.proofs.Common.{◌≡◌, ℕ, zero, suc, ◌+◌, ◌-◌, ◌^◌, ◌<◌, ◌≤◌, ◌⊎◌, List, [], ◌++◌, length, refl, sym, ap, ◌∙◌, subst, arith, inl, inr, Err}
use Rattle.shm_words.specs.declared.geometry.Geometry.{Geometry}
use Rattle.shm_graph.specs.declared.{ask.Me.Me, memo.Memo.Memo, run.Start.Start, spot.Spot.Spot}
use Rattle.shm_graph.specs.{declared.spot.Spot.TheVariants.{Body, Era}, Agents.steps_made, Asks.Trail, Events.Event}
use Rattle.shm_graph.specs.{Spots.see, Views.own_word}
use Rattle.shm_graph.proofs.Runs.EraRises.{first_was_held, memo_bounds, run_rises}
use Rattle.shm_plain.specs.{Calls.{Did, state_of}, Pools.{IsRun, Pool, memo_of}}
use Rattle.shm_alloc.specs.{declared.point.AllocState.AllocState, Alloc.AllocGives}
use Rattle.shm_alloc.specs.declared.alloc.AllocFault.TheVariants as alloc
use Rattle.shm_count.specs.{declared.answer.EraSpent.EraSpent, Roots.member, Step.Control.last_era, UpRoot.UpRootLeaves}
use Rattle.shm_count.specs.declared.answer.ShareFault.TheVariants as share
use Rattle.shm_ref.specs.{DropRoot.{Control.dropping, DropLeaves}, SetRef.Control.setting}
use Rattle.shm_ref.specs.SetRef.{SetLeaves, SetSpent, aim_of, taken_events, SetSpent.{AtStep, AtTear}}
use Rattle.shm_ref.specs.declared.answer.SetFault.TheVariants as set

-- the own era
abbrev era_of : Memo → ℕ
era_of m = own_word m.own (Era 0 0)

-- its client is there, and began with era 1
pub record IsOfOne (s : Start) : Type 0 where
  pub who : 0 < s.geometry.clients
  pub first : s.first_era ≡ 1

-- it doesn't fall
era_grows : (p q : Pool) (es : List Event) → IsRun p → IsRun q → 0 < p.start.geometry.clients → q.start ≡ p.start → Did 0 p q es → era_of (memo_of p 0) ≤ era_of (memo_of q 0)
era_grows p q es hp hq who start did =
    let g : Geometry = p.start.geometry in
    let rises = run_rises g (state_of p) did.turns (state_of q) hp.held (did_leads 0 p q es hp hq start did) in
    let row : see g p.words (Era 0 0) ≤ see g q.words (Era 0 0) = rises.rows 0 0 in
    let there : 0 < q.start.geometry.clients = subst (λ (s : Start). 0 < s.geometry.clients) (sym start) who in
    let before : era_of (memo_of p 0) ≡ see g p.words (Era 0 0) = hp.held.at.mine 0 who (Era 0 0) refl in
    let after : era_of (memo_of q 0) ≡ see q.start.geometry q.words (Era 0 0) = hq.held.at.mine 0 there (Era 0 0) refl in
    let same : see q.start.geometry q.words (Era 0 0) ≡ see g q.words (Era 0 0) = ap (λ (s : Start). see s.geometry q.words (Era 0 0)) start in
    omega (arith, row, before, after, same)

-- and is at most the word steps and one
era_low : (p : Pool) → IsRun p → IsOfOne p.start → steps_made (memo_of p 0) ≤ 2 ^ 46 → era_of (memo_of p 0) ≤ 2 ^ 46 + 1
era_low p run one few =
    let bounds = memo_bounds p.start p.turns (state_of p) (first_was_held p.start p.turns (state_of p) run.held run.leads) run.leads 0 one.who in
    let most = bounds.1 in
    let first = one.first in
    omega (arith, most, first, few)

pub few_unspent : (p : Pool) → IsRun p → IsOfOne p.start → steps_made (memo_of p 0) ≤ 2 ^ 46 → IsSpent (memo_of p 0) → ⊥
few_unspent p run one few spent = let low = era_low p run one few in omega (arith, low, spent)

-- ---- refusals

-- what a refusal says of the own era before the call, or behind it
abbrev Says : (Memo → Memo → Trail → List Event → Type 0) → Type 0
Says L = (r0 r : Memo) (tr : Trail) (es : List Event) → L r0 r tr es → 2 ^ 47 - 4 < era_of r0 ⊎ 2 ^ 47 - 4 < era_of r

alloc_says : (g : Geometry) (m : AllocState) (e : ℕ) → m.me ≡ record { geometry = g; who = 0 } → Says (λ r0 r tr es. AllocGives m r0 r tr (Err (alloc.EraSpent e)))
alloc_says g m e me r0 r tr es h =
    let cause = h.holds.gives.1 in
    let mine : own_word r0.own (Era m.me.who m.me.who) ≡ era_of r0 = ap (λ (z : Me). own_word r0.own (Era z.who z.who)) me in
    let is = cause.0 in
    let high = cause.1 in
    inl (omega (arith, is, high, mine))

-- some event is told where a reference is taken out of a word
taken_told : (p : Spot) (a x : ℕ) (torn es : List Event) → es ≡ taken_events 0 p a x ++ torn → es ≡ [] → ⊥
taken_told p a zero torn es told none = let e = ap length (sym told ∙ none) in omega (arith, e)
taken_told p a (suc x) torn es told none = let e = ap length (sym told ∙ none) in omega (arith, e)

aim_last : (a b : ℕ) → 2 ^ 47 - 4 ≤ last_era (aim_of a b)
aim_last zero b = omega arith
aim_last (suc a) zero = omega arith
aim_last (suc a) (suc b) = omega arith

set_says : (g : Geometry) (b i c e : ℕ) → Says (λ r0 r tr es. SetLeaves (setting (member g 0) b i c) r0 r tr es (Err (set.EraSpent e)) × (es ≡ []))
set_says g b i c e r0 r tr es (h, none) = by h.stays
  where
    by : SetSpent (member g 0) b i c r0 r es e h.left → 2 ^ 47 - 4 < era_of r0 ⊎ 2 ^ 47 - 4 < era_of r
    by (AtStep t old read other memo cause told all) = let last = aim_last old c in let is = cause.0 in let high = cause.1 in inl (omega (arith, last, is, high))
    by (AtTear t old read some other took stopped torn told walk) = absurd (taken_told (Body b i) old c torn es told none)

share_says : (g : Geometry) (b e : ℕ) → Says (λ r0 r tr es. UpRootLeaves (member g 0) b r0 r tr es (Err (share.EraSpent e)))
share_says g b e r0 r tr es h = let is = h.era in let high = h.spent in inl (omega (arith, is, high))

drop_says : (g : Geometry) (k : ℕ) (e : EraSpent) → Says (λ r0 r tr es. DropLeaves (dropping (member g 0) k) r0 r tr es (Err e))
drop_says g k e r0 r tr es (vs, h) = let high = h.stopped.spent in let most = h.most in inr (omega (arith, high, most))

-- ---- so that none came

-- the own era at a call between two moments is at most that behind it
within_low : (L : Memo → Memo → Trail → List Event → Type 0) (p q : Pool) → IsRun q → 0 < p.start.geometry.clients → q.start ≡ p.start → (w : Within p q L) → (era_of (memo_of w.before 0) ≤ era_of (memo_of q 0)) × (era_of (memo_of w.after 0) ≤ era_of (memo_of q 0))
within_low L p q run who start w =
    let there : (s : Start) → s ≡ p.start → 0 < s.geometry.clients = λ s e. subst (λ (z : Start). 0 < z.geometry.clients) (sym e) who in
    let one = era_grows w.before w.after w.told w.runs.0 w.runs.1 (there w.before.start w.starts.0) (w.starts.1 ∙ sym w.starts.0) w.ran in
    let two = era_grows w.after q w.on.0 w.runs.1 run (there w.after.start w.starts.1) (start ∙ sym w.starts.1) w.on.1 in
    (omega (arith, one, two), two)

within_never : (L : Memo → Memo → Trail → List Event → Type 0) (p q : Pool) → IsRun q → 0 < p.start.geometry.clients → q.start ≡ p.start → era_of (memo_of q 0) ≤ 2 ^ 46 + 1 → Says L → Within p q L → ⊥
within_never L p q run who start low says w =
    let least = within_low L p q run who start w in
    let before = least.0 in
    let after = least.1 in
    elim (says (memo_of w.before 0) (memo_of w.after 0) (memo_of w.after 0).call w.told w.leaves) [
      | inl h ↦ omega (arith, before, low, h)
      | inr h ↦ omega (arith, after, low, h)
    ]

-- a line of a client that has made few word steps wasn't refused since the own era is spent
pub few_never : {hints : Hints} (p q : Pool) (e : ℕ) → IsRun q → q.start ≡ p.start → IsOfOne p.start → steps_made (memo_of q 0) ≤ 2 ^ 46 → CallStopped hints p q (stop.EraSpent e) → ⊥
few_never {hints = hints} p q e run start one few s = by s.cause
  where
    who : 0 < s.at.start.geometry.clients
    who = subst (λ (z : Start). 0 < z.geometry.clients) (sym s.start) one.who

    behind : era_of (memo_of s.at 0) ≤ era_of (memo_of q 0)
    behind = era_grows s.at q s.on.0 s.run run who (start ∙ sym s.start) s.on.1

    low : era_of (memo_of s.at 0) ≤ 2 ^ 46 + 1
    low = let last = era_low q run (subst IsOfOne (sym start) one) few in let l = behind in omega (arith, last, l)

    never : (L : Memo → Memo → Trail → List Event → Type 0) → Says L → Within p s.at L → ⊥
    never L = within_never L p s.at s.run one.who s.start low

    by : StopCause hints p s.at (stop.EraSpent e) → ⊥
    by (inl (m, xs, long, asked, w)) = never (λ r0 r tr es. AllocGives m r0 r tr (Err (alloc.EraSpent e))) (alloc_says p.start.geometry m e (asked_near hints p.start.geometry xs m asked).me) w
    by (inr (inl (b, i, c, w))) = never (λ r0 r tr es. SetLeaves (setting (member p.start.geometry 0) b i c) r0 r tr es (Err (set.EraSpent e)) × (es ≡ [])) (set_says p.start.geometry b i c e) w
    by (inr (inr (inl (b, w)))) = never (λ r0 r tr es. UpRootLeaves (member p.start.geometry 0) b r0 r tr es (Err (share.EraSpent e))) (share_says p.start.geometry b e) w
    by (inr (inr (inr (k, w)))) = never (λ r0 r tr es. DropLeaves (dropping (member p.start.geometry 0) k) r0 r tr es (Err (record { era = e }))) (drop_says p.start.geometry k (record { era = e })) w
