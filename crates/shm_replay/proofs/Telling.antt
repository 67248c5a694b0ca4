-- what was told of an identity is told still, as a pool grows
use Rattle.std.proofs.Common.{◌≡◌, ℕ, zero, suc, Bool, true, false, cond, List, [], ◌∷◌, ◌++◌, length, append_assoc, append-nil, refl, sym, ap, ◌∙◌, subst, inl, inr}
use Rattle.std.proofs.lemmas.{Bool.{cases_eq, cases_lt}, List.{get_or-set_other, get_or-set_same, set_past}}
use Rattle.std.specs.Prelude.{slice_set}
use Rattle.shm_words.specs.declared.geometry.Geometry.{Geometry}
use Rattle.shm_graph.specs.declared.{memo.{Seen.Seen, Step.Step}, run.{Account.Account, LoggedLine.LoggedLine}}
use Rattle.shm_graph.specs.declared.run.{Move.{Move, TheVariants.{Word, Dies, Begins}}, Start.Start}
use Rattle.shm_graph.specs.{Agents.{acts, last_agent}, Asks.call_after, Laws.Control}
use Rattle.shm_graph.specs.Runs.{Leads, State, account_after, account_at, account_died, account_entered, fell_by, first_state, moved, told_by, told_left}
use Rattle.shm_graph.specs.Tells.{machine_steps}
use Rattle.shm_graph.proofs.Runs.Lists.{account_part}
use Rattle.shm_plain.specs.{Calls.{state_of, words}, Pools.{IsRun, Pool, memo_of, readied}, Tracks.kind_next}
use Rattle.shm_replay.specs.Closings.{AreVisits, IsRecovery, IsVisit, IsWhole}

-- the second list is the first with more behind it
abbrev pub Grows : {A : Type 0} → List A → List A → Type 0
Grows xs ys = (more : List _) × (ys ≡ xs ++ more)

pub grows_none : {A : Type 0} (xs ys : List A) → ys ≡ xs → Grows xs ys
grows_none xs ys e = ([], e ∙ sym (append-nil xs))

pub grows_then : {A : Type 0} (xs ys zs : List A) → Grows xs ys → Grows ys zs → Grows xs zs
grows_then xs ys zs (a, e) (b, f) = (a ++ b, f ∙ (ap (λ zs. zs ++ b) e ∙ append_assoc xs a b))

-- ---- turns

by_grows : (line : List ℕ) (trail : List Seen) (finished : Bool) (told : List LoggedLine) → Grows told (told_by line trail finished told)
by_grows [] trail finished told = grows_none told told refl
by_grows (x ∷ xs) trail finished told = (_, refl)

left_grows : (fresh : Bool) (e : Account) → Grows e.told (told_left fresh e)
left_grows true e = by_grows e.running e.memo.call false e.told
left_grows false e = grows_none e.told e.told refl

-- a word step tells what is left of a dead agent, where it is the first of a call
pub left_first : (e : Account) (t : Step) → Grows (told_left t.fresh e) (account_after e t).told
left_first e t = go t.ends
  where
    left : List LoggedLine
    left = told_left t.fresh e

    now : List LoggedLine
    now = told_by t.line (call_after t.fresh e.memo.call t.ask t.seen) true left

    go : (b : Bool) → Grows left (cond b now left)
    go true = by_grows t.line (call_after t.fresh e.memo.call t.ask t.seen) true left
    go false = grows_none left left refl

after_grows : (e : Account) (t : Step) → Grows e.told (account_after e t).told
after_grows e t = grows_then e.told (told_left t.fresh e) (account_after e t).told (left_grows t.fresh e) (left_first e t)

word_grows : (es : List Account) (c : ℕ) (e : Account) (d : ℕ) → Grows (account_at es c).told e.told → Grows (account_at es d).told (account_at (slice_set es c e) d).told
word_grows es c e d h =
    elim (cases_eq d c) [
      | inr n ↦ grows_none (account_at es d).told (account_at (slice_set es c e) d).told (ap (λ (x : Account). x.told) (get_or-set_other es c d e _ n))
      | inl s ↦ subst (λ (n : ℕ). Grows (account_at es n).told (account_at (slice_set es c e) n).told) (sym s) (elim (cases_lt c (length es)) [
        | inl l ↦ subst (λ (x : Account). Grows (account_at es c).told x.told) (sym (get_or-set_same es c e _ l)) h
        | inr o ↦ grows_none (account_at es c).told (account_at (slice_set es c e) c).told (ap (λ (xs : List Account). (account_at xs c).told) (set_past es c e o))
      ])
    ]

moved_grows : (s : State) (m : Move) (d : ℕ) → Grows (account_at s.accounts d).told (account_at (moved s m).accounts d).told
moved_grows s (Word t) d = word_grows s.accounts t.me.who (account_after (account_at s.accounts t.me.who) t) d (after_grows (account_at s.accounts t.me.who) t)
moved_grows s (Dies c) d = grows_none (account_at s.accounts d).told (account_at (moved s (Dies c)).accounts d).told (account_part (λ (x : Account). x.told) s.accounts c (account_died (account_at s.accounts c)) d refl)
moved_grows s (Begins c k) d = grows_none (account_at s.accounts d).told (account_at (moved s (Begins c k)).accounts d).told (account_part (λ (x : Account). x.told) s.accounts c (account_entered k (account_at s.accounts c)) d refl)

pub leads_grows : (g : Geometry) (a : State) (ms : List Move) (b : State) → Leads g a ms b → (d : ℕ) → Grows (account_at a.accounts d).told (account_at b.accounts d).told
leads_grows g a [] b run d = grows_none (account_at a.accounts d).told (account_at b.accounts d).told (ap (λ (s : State). (account_at s.accounts d).told) (sym run))
leads_grows g a (m ∷ ms) b run d = grows_then (account_at a.accounts d).told (account_at (moved a m).accounts d).told (account_at b.accounts d).told (moved_grows a m d) (leads_grows g (moved a m) ms b run.2 d)

-- ---- pools

pub leads_on : (g : Geometry) (a : State) (ms ns : List Move) (b d : State) → Leads g a ms b → Leads g a (ms ++ ns) d → Leads g b ns d
leads_on g a [] ns b d run all = subst (λ (s : State). Leads g s ns d) run all
leads_on g a (m ∷ ms) ns b d run all = leads_on g (moved a m) ms ns b d run.2 all.2

pools_grow : (p q : Pool) (ms : List Move) → IsRun p → IsRun q → q.start ≡ p.start → q.turns ≡ p.turns ++ ms → (d : ℕ) → Grows (account_at p.accounts d).told (account_at q.accounts d).told
pools_grow p q ms before now start grew d =
    leads_grows p.start.geometry (state_of p) ms (state_of q)
    (leads_on p.start.geometry (first_state p.start) p.turns ms (state_of p) (state_of q) before.leads
    (subst (λ (ns : List Move). Leads p.start.geometry (first_state p.start) ns (state_of q)) grew (subst (λ (s : Start). Leads s.geometry (first_state s) q.turns (state_of q)) start now.leads)))
    d

pub ready_grew : (p : Pool) (c : ℕ) → Grows p.turns (readied p c).turns
ready_grew p c = go (acts (memo_of p c))
  where
    go : (b : Bool) → Grows p.turns (cond b p.turns (p.turns ++ Begins c (kind_next (memo_of p c)) ∷ []))
    go true = grows_none p.turns p.turns refl
    go false = (_, refl)

pub whole_grows : {M A : Type 0} (k : Control M A) (c : ℕ) (p : Pool) (m : M) (q : Pool) → IsRun p → IsWhole k c p m q → (d : ℕ) → Grows (account_at p.accounts d).told (account_at q.accounts d).told
whole_grows k c p m q run h d =
    let x = grows_then p.turns (readied p c).turns q.turns (ready_grew p c) (words (machine_steps k m h.took.trail), h.took.grew) in
    pools_grow p q x.0 run h.run h.start x.1 d

recovery_grows : (b : Bool) (c : ℕ) (p q : Pool) → IsRun p → IsRecovery b c p q → (d : ℕ) → IsRun q × Grows (account_at p.accounts d).told (account_at q.accounts d).told
recovery_grows false c p q run h d = (subst IsRun (sym h) run, grows_none (account_at p.accounts d).told (account_at q.accounts d).told (ap (λ (x : Pool). (account_at x.accounts d).told) h))
recovery_grows true c p q run h d = (h.run, whole_grows _ c p _ q run h d)

visit_grows : (c : ℕ) (p q : Pool) → IsRun p → IsVisit c p q → (d : ℕ) → Grows (account_at p.accounts d).told (account_at q.accounts d).told
visit_grows c p q run v d =
    let (now, grown) = recovery_grows (fell_by (last_agent (memo_of p c).agents)) c p v.recovered run v.recovery d in
    grows_then (account_at p.accounts d).told (account_at v.recovered.accounts d).told (account_at q.accounts d).told grown
    (grows_then (account_at v.recovered.accounts d).told (account_at v.joined.accounts d).told (account_at q.accounts d).told (whole_grows _ c v.recovered _ v.joined now v.join d)
    (grows_then (account_at v.joined.accounts d).told (account_at v.drained.accounts d).told (account_at q.accounts d).told (whole_grows _ c v.joined _ v.drained v.join.run v.drain d) (whole_grows _ c v.drained _ q v.drain.run v.leave d)))

-- the closing of a pool tells more behind what was told
pub visits_grow : (c n : ℕ) (p q : Pool) → IsRun p → AreVisits c n p q → (d : ℕ) → (more : List LoggedLine) × ((account_at q.accounts d).told ≡ (account_at p.accounts d).told ++ more)
visits_grow c zero p q run h d = grows_none (account_at p.accounts d).told (account_at q.accounts d).told (ap (λ (x : Pool). (account_at x.accounts d).told) h)
visits_grow c (suc n) p q run h d =
    grows_then (account_at p.accounts d).told (account_at h.0.accounts d).told (account_at q.accounts d).told (visit_grows c p h.0 run h.1 d) (visits_grow (suc c) n h.0 q h.1.leave.run h.2 d)

recovery_start : (b : Bool) (c : ℕ) (p q : Pool) → IsRecovery b c p q → q.start ≡ p.start
recovery_start false c p q h = ap (λ (x : Pool). x.start) h
recovery_start true c p q h = h.start

pub visits_start : (c n : ℕ) (p q : Pool) → AreVisits c n p q → q.start ≡ p.start
visits_start c zero p q h = ap (λ (x : Pool). x.start) h
visits_start c (suc n) p q h = visits_start (suc c) n h.0 q h.2 ∙ (h.1.leave.start ∙ (h.1.drain.start ∙ (h.1.join.start ∙ recovery_start (fell_by (last_agent (memo_of p c).agents)) c p h.1.recovered h.1.recovery)))
