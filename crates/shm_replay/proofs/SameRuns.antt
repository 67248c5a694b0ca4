-- where a machine of its own runs to, and the closing of a pool, are determined
use Rattle.std.proofs.Common.{◌≡◌, ◌≢◌, ℕ, zero, suc, Bool, true, false, List, [], ◌∷◌, ◌++◌, refl, sym, ap, ◌∙◌, subst}
use Rattle.std.proofs.lemmas.{Bool.false≢true, List.get_or-set_same}
use Rattle.shm_words.specs.declared.geometry.Geometry.{Geometry}
use Rattle.shm_graph.specs.declared.{memo.{Step.Step, Seen.Seen}, run.{Account.Account, Move.{Move, TheVariants.Word}}}
use Rattle.shm_graph.specs.{declared.run.Start.Start, Agents.last_agent, Asks.Trail, Changes.asked_spot}
use Rattle.shm_graph.specs.Laws.{Control, Steady, is_some, step_of}
use Rattle.shm_graph.specs.Runs.{Leads, State, account_after, account_at, accounts_after, fell_by, first_state, memos_of, moved}
use Rattle.shm_graph.specs.Tells.{GoesOn, machine_steps}
use Rattle.shm_graph.proofs.{Memos.MemoSteps.memo_over, Runs.{Going.acts_within, Running.Leads-split}}
use Rattle.plans.specs.{CallsControl.calls_control, Proved.CallsKeep.calls_laws}
use Rattle.shm_queue.specs.{Drain.{Control.{drain_parts, drain_steered}, drain_plan}, Proved.Drain.Laws.drain_laws}
use Rattle.shm_queue.specs.Proved.Take.Laws.{take_laws}
use Rattle.shm_recover.specs.{Join.join_control, Proved.{Join.Keeps.join_laws, Leave.Laws.leave_laws}}
use Rattle.shm_recover.specs.Leave.{Control.{leave_parts, leave_steered}, leave_plan}
use Rattle.shm_recover.specs.Recover.{Control.{recover_parts, recover_steered}, recover_plan}
use Rattle.shm_plain.specs.{Calls.{state_of, words}, Pools.{IsRun, Pool, memo_of, pool, readied}}
use Rattle.shm_agents.specs.Logs.{answer_along}
use Rattle.shm_agents.proofs.WorkLaws.{recoveries}
use Rattle.shm_replay.specs.Closings.{AreVisits, IsRecovery, IsVisit, IsWhole}

-- ---- turns

-- turns lead to one state
leads_same : (g : Geometry) (a : State) (ms : List Move) (b d : State) → Leads g a ms b → Leads g a ms d → b ≡ d
leads_same g a [] b d run now = sym run ∙ now
leads_same g a (m ∷ ms) b d run now = leads_same g (moved a m) ms b d run.2 now.2

pool_same : (p q : Pool) → p.start ≡ q.start → p.turns ≡ q.turns → state_of p ≡ state_of q → p ≡ q
pool_same p q start turns now =
    ap (λ (s : Start). pool s p.words p.accounts p.turns) start
    ∙ (ap (λ (s : State). pool q.start s.words s.accounts p.turns) now ∙ ap (λ (ms : List Move). pool q.start q.words q.accounts ms) turns)

-- the turns of a pool lead to it alone
pub run_same : (p q : Pool) → IsRun p → IsRun q → p.start ≡ q.start → p.turns ≡ q.turns → p ≡ q
run_same p q run now start turns =
    let all : Leads q.start.geometry (first_state q.start) q.turns (state_of p) =
    subst (λ (ms : List Move). Leads q.start.geometry (first_state q.start) ms (state_of p)) turns (subst (λ (s : Start). Leads s.geometry (first_state s) p.turns (state_of p)) start run.leads) in
    pool_same p q start turns (leads_same q.start.geometry (first_state q.start) q.turns (state_of p) (state_of q) all now.leads)

-- ---- a machine

module _ {M A : Type 0} (k : Control M A) where
  -- the word that it finds is the word that is there
  found : (g : Geometry) (s : State) (m : M) (x y : Seen) (tr us : Trail) (a b : State) → Leads g s (words (machine_steps k m (x ∷ tr))) a → Leads g s (words (machine_steps k m (y ∷ us))) b → x.word ≡ y.word
  found g s m x y tr us a b run now = run.0.0 ∙ sym now.0.0

  -- from one state it finds the same words, until it answers
  same_steps : (g : Geometry) (s : State) (m : M) (tr us : Trail) (a b : State) → Leads g s (words (machine_steps k m tr)) a → Leads g s (words (machine_steps k m us)) b → GoesOn k m tr → GoesOn k m us
      → is_some (answer_along k m tr) ≡ true → is_some (answer_along k m us) ≡ true → machine_steps k m tr ≡ machine_steps k m us
  same_steps g s m [] us a b run now goes on ends end = absurd (false≢true ends)
  same_steps g s m (x ∷ tr) [] a b run now goes on ends end = absurd (false≢true end)
  same_steps g s m (x ∷ []) (y ∷ []) a b run now goes on ends end = ap (λ n. step_of k m n ∷ []) (found g s m x y [] [] a b run now)
  same_steps g s m (x ∷ []) (y ∷ z ∷ us) a b run now goes on ends end = absurd (false≢true (sym (ap is_some (ap (k.turns m) (found g s m x y [] (z ∷ us) a b run now) ∙ on.1.0)) ∙ ends))
  same_steps g s m (x ∷ z ∷ tr) (y ∷ []) a b run now goes on ends end = absurd (false≢true (sym (ap is_some (ap (k.turns m) (sym (found g s m x y (z ∷ tr) [] a b run now)) ∙ goes.1.0)) ∙ end))
  same_steps g s m (x ∷ z ∷ tr) (y ∷ v ∷ us) a b run now goes on ends end =
      let e : x.word ≡ y.word = found g s m x y (z ∷ tr) (v ∷ us) a b run now in
      let rest : machine_steps k (k.after m y.word) (z ∷ tr) ≡ machine_steps k (k.after m y.word) (v ∷ us) =
      same_steps g (moved s (Word (step_of k m y.word))) (k.after m y.word) (z ∷ tr) (v ∷ us) a b
      (subst (λ n. Leads g (moved s (Word (step_of k m n))) (words (machine_steps k (k.after m n) (z ∷ tr))) a) e run.2) now.2
      (subst (λ n. GoesOn k (k.after m n) (z ∷ tr)) e goes.1.1) on.1.1
      (subst (λ n. is_some (answer_along k (k.after m n) (z ∷ tr)) ≡ true) e ends) end in
      ap (λ n. step_of k m n ∷ machine_steps k (k.after m n) (z ∷ tr)) e ∙ ap (λ ts. step_of k m y.word ∷ ts) rest

  -- where the call of its identity is over, it has answered
  over_answers : Steady k → (c : ℕ) (g : Geometry) (s : State) (m : M) (tr : Trail) (b : State) → Leads g s (words (machine_steps k m tr)) b → GoesOn k m tr → tr ≢ [] → (k.me m).who ≡ c → (memos_of b.accounts c).over ≡ true → is_some (answer_along k m tr) ≡ true
  over_answers steady c g s m [] b run goes some me over = absurd (some refl)
  over_answers steady c g s m (x ∷ []) b run goes some me over =
      let t : Step = step_of k m x.word in
      let who : ℕ = (k.me m).who in
      let e : Account = account_at s.accounts who in
      let at : account_at (accounts_after s.accounts t) who ≡ account_after e t = get_or-set_same s.accounts who _ _ (acts_within s.accounts who run.0.1) in
      let end : (memos_of b.accounts who).over ≡ k.finished (k.after m x.word) = ap (λ (z : State). (memos_of z.accounts who).over) (sym run.2) ∙ (ap (λ (z : Account). z.memo.over) at ∙ memo_over e.memo t (asked_spot e.memo t)) in
      sym (steady m x.word goes).ends ∙ (sym end ∙ (ap (λ n. (memos_of b.accounts n).over) me ∙ over))
  over_answers steady c g s m (x ∷ y ∷ tr) b run goes some me over =
      over_answers steady c g (moved s (Word (step_of k m x.word))) (k.after m x.word) (y ∷ tr) b run.2 goes.1.1 (λ e. absurd (cc)) (ap (λ z. z.who) (steady m x.word goes.0).same_me ∙ me) over

  -- A machine runs from a pool to one pool
  pub whole_same : Steady k → (c : ℕ) (p : Pool) (m : M) (q r : Pool) → (k.me m).who ≡ c → IsWhole k c p m q → IsWhole k c p m r → q ≡ r
  whole_same steady c p m q r me a b =
      let g : Geometry = p.start.geometry in
      let before : List Move = (readied p c).turns in
      let led : (x : Pool) → (h : IsWhole k c p m x) → (s : State) × Leads g (first_state p.start) before s × Leads g s (words (machine_steps k m h.took.trail)) (state_of x) =
      (λ x h. Leads-split g (first_state p.start) before (words (machine_steps k m h.took.trail)) (state_of x)
      (subst (λ (ms : List Move). Leads g (first_state p.start) ms (state_of x)) h.took.grew (subst (λ (s : Start). Leads s.geometry (first_state s) x.turns (state_of x)) h.start h.run.leads))) in
      let (s, first, then) = led q a in
      let (s', first', now) = led r b in
      let same : s' ≡ s = leads_same g (first_state p.start) before s' s first' first in
      let then' : Leads g s (words (machine_steps k m b.took.trail)) (state_of r) = subst (λ (z : State). Leads g z (words (machine_steps k m b.took.trail)) (state_of r)) same now in
      let steps : machine_steps k m a.took.trail ≡ machine_steps k m b.took.trail =
      same_steps g s m a.took.trail b.took.trail (state_of q) (state_of r) then then' a.took.goes b.took.goes
      (over_answers steady c g s m a.took.trail (state_of q) then a.took.goes a.some me a.over)
      (over_answers steady c g s m b.took.trail (state_of r) then' b.took.goes b.some me b.over) in
      run_same q r a.run b.run (a.start ∙ sym b.start) (a.took.grew ∙ (ap (λ ts. before ++ words ts) steps ∙ sym b.took.grew))

-- ---- closings

recovery_same : (b : Bool) (c : ℕ) (p q r : Pool) → IsRecovery b c p q → IsRecovery b c p r → q ≡ r
recovery_same false c p q r a b = a ∙ sym b
recovery_same true c p q r a b = whole_same (calls_control recover_parts recover_steered) (calls_laws recover_parts recover_plan recoveries).steady c p _ q r refl a b

visit_same : (c : ℕ) (p q r : Pool) → IsVisit c p q → IsVisit c p r → q ≡ r
visit_same c p q r a b =
    let e : b.recovered ≡ a.recovered = recovery_same (fell_by (last_agent (memo_of p c).agents)) c p b.recovered a.recovered b.recovery a.recovery in
    let f : b.joined ≡ a.joined = whole_same join_control join_laws.steady c a.recovered _ b.joined a.joined refl (subst (λ (x : Pool). IsWhole join_control c x _ b.joined) e b.join) a.join in
    let h : b.drained ≡ a.drained = whole_same (calls_control drain_parts drain_steered) (calls_laws drain_parts drain_plan (drain_laws take_laws)).steady c a.joined _ b.drained a.drained refl (subst (λ (x : Pool). IsWhole (calls_control drain_parts drain_steered) c x _ b.drained) f b.drain) a.drain in
    whole_same (calls_control leave_parts leave_steered) (calls_laws leave_parts leave_plan leave_laws).steady c a.drained _ q r refl a.leave (subst (λ (x : Pool). IsWhole (calls_control leave_parts leave_steered) c x _ r) h b.leave)

-- The visits lead from a pool to one pool
pub visits_same : (c n : ℕ) (p q r : Pool) → AreVisits c n p q → AreVisits c n p r → q ≡ r
visits_same c zero p q r a b = a ∙ sym b
visits_same c (suc n) p q r (x, v, a) (y, w, b) = visits_same (suc c) n x q r a (subst (λ (z : Pool). AreVisits (suc c) n z r) (visit_same c p y x w v) b)
