-- No exchange fails in a call of the one client of a pool.
use Rattle.std.proofs.Common.{◌≡◌, ◌≢◌, ℕ, ◌+◌, ◌<◌, ◌≤◌, Bool, true, false, List, [], ◌∷◌, ◌++◌, length, cond, append_assoc, refl, sym, ap, ◌∙◌, subst, arith}
use Rattle.std.specs.Prelude.{None, slice_index}
use Rattle.shm_words.specs.declared.geometry.Geometry.{Geometry}
use Rattle.shm_graph.specs.declared.{ask.{Ask.Ask, Me.Me}, memo.{Memo.Memo, Step.Step}, run.Account.Account}
use Rattle.shm_graph.specs.declared.{run.{Move.{Move, TheVariants.{Begins, Word}}, Start.Start}, spot.Spot.Spot}
use Rattle.shm_graph.specs.Agents.{acts}
use Rattle.shm_graph.specs.Asks.{IsWithin, Trail, at_of, call_before, failed, pair, seen_of, words_after, words_set}
use Rattle.shm_graph.specs.{Laws.{Control, Frame, Laws, Stands, frame_of, step_of}, Operations.IsReady}
use Rattle.shm_graph.specs.Runs.{Held, Leads, State, account_entered, changed, first_state, memos_of, moved, state}
use Rattle.shm_graph.specs.{Spots.{classes_in, see, spot_at}, Tells.{GoesOn, machine_steps}, Views.view, Whole.fits_now}
use Rattle.shm_graph.proofs.Machines.{Composing.outcome_none, Wholes.{whole_inside, whole_keeps}}
use Rattle.shm_graph.proofs.{Runs.{CallEventsOf.memo_here, Lists.see-words_set}, Spots.Seeing.{classes-see, see-spot}}
use Rattle.shm_plain.specs.{Calls.{Ran, TookSteps, state_of, words}, Pools.{Pool, memo_of, pool, readied}}
use Rattle.shm_plain.specs.Tracks.{kind_next}
use Rattle.shm_plain.proofs.OwnTurns.{leads_after}
use Rattle.plans.specs.{declared.calls.Calls.Calls, CallsControl.{calls_control, calls_of}}
use Rattle.plans.specs.{CallsFit.{CallsFits, CallsGives}, Proved.CallsKeep.{calls_begin, calls_laws}}
use Rattle.plans.specs.{Plans.{PlanLaws, Planned}, Tasks.TaskLaws}
use Rattle.shm_count.specs.Roots.{member}
use Rattle.shm_tree.specs.Working.{IsWorking}
use Rattle.shm_tree.proofs.{Nodes.{calm_held, working_calm}, Sure.{AreSure, CallsSure, IsSure, calls_know, calls_sure}}

-- ---- in a run of its steps alone

module _ {S A : Type 0} (k : Control S A) (fits : S → Memo → Memo → Trail → Type 0) (gives : S → Memo → Memo → Trail → A → Type 0) (laws : Laws k fits gives) (knows : S → (Spot → ℕ) → Type 0) (sure : AreSure k knows fits) where
  -- what the machine finds in these words
  abbrev found : S → List ℕ → ℕ
  found m ws = seen_of (k.asks m) (slice_index ws (at_of (k.asks m)))

  -- the step of m that found n is sure, the call has one pair more, and where m goes on it fits
  record Goes (me : Me) (a : State) (m : S) (r0 : Memo) (n : ℕ) : Type 0 where
    pub step : IsSure k knows m n (see me.geometry (moved a (Word (step_of k m n))).words)
    pub call : (memos_of (moved a (Word (step_of k m n))).accounts me.who).call ≡ call_before (k.fresh m) (memos_of a.accounts me.who).call ++ pair (k.asks m) n ∷ []
    pub fit : k.turns m n ≡ None → fits_now k fits (k.after m n) r0 (memos_of (moved a (Word (step_of k m n))).accounts me.who)

  -- on lists
  goes_here : (m : S) (ws : List ℕ) (es : List Account) (r0 : Memo) → let me : Me = k.me m in Held me.geometry ws es → me.who < me.geometry.clients → fits_now k fits m r0 (memos_of es me.who) → k.finished m ≡ false → knows m (see me.geometry ws)
      → Goes me (state ws es) m r0 (found m ws)
  goes_here m ws es r0 h l fit going is =
      let me : Me = k.me m in
      let g : Geometry = me.geometry in
      let a : Ask = k.asks m in
      let w : Spot → ℕ = see g ws in
      let r : ℕ → Memo = memos_of es in
      let tr : Trail = call_before (k.fresh m) (r me.who).call in
      let n : ℕ = found m ws in
      let t : Step = step_of k m n in
      let f : Frame = frame_of k m n in
      let p : Spot = spot_at g (classes_in g ws) (at_of a) in
      let within = whole_inside k fits gives laws m r0 (r me.who) l fit going in
      let e : w p ≡ slice_index ws (at_of a) = see-spot g ws (at_of a) within in
      let stands : Stands me w r f tr = record { held = h.at; who = l; call = ([], refl) } in
      let x : IsSure k knows m (seen_of a (w p)) (words_after w a p) =
      subst (λ (class : ℕ → ℕ → ℕ). let q : Spot = spot_at g class (at_of a) in IsSure k knows m (seen_of a (w q)) (words_after w a q)) (classes-see g ws h.at.fits) (sure m r0 tr w r f going stands fit is) in
      let x' : IsSure k knows m n (words_after w a p) = subst (λ (z : ℕ). IsSure k knows m (seen_of a z) (words_after w a p)) e x in
      let kept = whole_keeps k fits gives laws m ws es r0 h l fit going in
      let one = kept.turned.event.one_event in
      let seen : words_after w a p ≡ see g (words_set a ws) = sym (see-words_set g ws (view r) me.who a p h.at h.words within refl one.allowed) in
      let here = memo_here es t me.who refl (subst (λ (z : ℕ). me.who < z) (sym h.accounts) l) in
      record {
        step = subst (λ (v : Spot → ℕ). IsSure k knows m n v) seen x';
        call = ap (λ (z : Memo). z.call) here;
        fit = λ more. subst (λ (z : Memo). fits_now k fits (k.after m n) r0 z) (sym here) (outcome_none (k.turns m n) _ _ more kept.learns);
      }

  -- as an identity of a pool
  goes_as : (me : Me) (a : State) (m : S) (r0 : Memo) (n : ℕ) → k.me m ≡ me → Held me.geometry a.words a.accounts → me.who < me.geometry.clients → fits_now k fits m r0 (memos_of a.accounts me.who) → k.finished m ≡ false → knows m (see me.geometry a.words) → found m a.words ≡ n → Goes me a m r0 n
  goes_as me a m r0 n e h l fit going is finds =
      subst (λ (z : ℕ). Goes me a m r0 z) finds
      (subst (λ (z : Me). Held z.geometry a.words a.accounts → z.who < z.geometry.clients → fits_now k fits m r0 (memos_of a.accounts z.who) → knows m (see z.geometry a.words) → Goes z a m r0 (found m a.words)) e
      (λ h' l' fit' is'. goes_here m a.words a.accounts r0 h' l' fit' going is') h l fit is)

  -- the call has these pairs more, of which no exchange failed
  abbrev Grown : Trail → Trail → Type 0
  Grown before after = (us : Trail) × (after ≡ before ++ us) × (failed us ≡ 0)

  run_sure : (g : Geometry) (c : ℕ) (a : State) (m : S) (r0 : Memo) (tr : Trail) (b : State) → k.me m ≡ member g c → c < g.clients → Held g a.words a.accounts → Leads g a (words (machine_steps k m tr)) b → fits_now k fits m r0 (memos_of a.accounts c) → GoesOn k m tr → tr ≢ [] → knows m (see g a.words)
      → Grown (call_before (k.fresh m) (memos_of a.accounts c).call) (memos_of b.accounts c).call
  run_sure g c a m r0 [] b me l h run fit on some is = absurd (some refl)
  run_sure g c a m r0 (x ∷ []) b me l h run fit on some is =
      let n : ℕ = x.word in
      let goes : Goes (member g c) a m r0 n = goes_as (member g c) a m r0 n me h l fit on is (sym run.0.0) in
      let whole = goes.step.whole in
      (pair (k.asks m) n ∷ [], ap (λ (s : State). (memos_of s.accounts c).call) (sym run.2) ∙ goes.call, omega (arith, whole))
  run_sure g c a m r0 (x ∷ y ∷ tr) b me l h run fit on some is =
      let n : ℕ = x.word in
      let next : State = moved a (Word (step_of k m n)) in
      let more : k.turns m n ≡ None = on.1.0 in
      let goes : Goes (member g c) a m r0 n = goes_as (member g c) a m r0 n me h l fit on.0 is (sym run.0.0) in
      let whole = goes.step.whole in
      let is' : knows (k.after m n) (see g next.words) = outcome_none (k.turns m n) _ _ more goes.step.alone in
      let before : Trail = call_before (k.fresh m) (memos_of a.accounts c).call in
      let one : Trail = pair (k.asks m) n ∷ [] in
      let (us, grew, none) = run_sure g c next (k.after m n) r0 (y ∷ tr) b ((laws.steady m n on.0).same_me ∙ me) l run.1.held run.2 (goes.fit more) on.1.1 (λ e. cc) is' in (
        one ++ us,
        grew ∙ (ap (λ (z : Bool). call_before z (memos_of next.accounts c).call ++ us) (laws.steady m n on.0).started ∙ (ap (λ (t : Trail). t ++ us) goes.call ∙ append_assoc before one us)),
        omega (arith, whole, none),
      )

-- ---- of a plan that the one client ran

module _ {P C B A : Type 0} (k : Control C B) (q : Planned P C B A) (laws : PlanLaws k q) (may : P → Memo → Type 0) (ends : P → A → Type 0) (tasks : TaskLaws k q may ends) (knows : C → (Spot → ℕ) → Type 0) (sure : CallsSure k q knows) where
  -- before its first word step it fits
  plan_ready : (p : Pool) → IsWorking p → IsReady (member p.start.geometry 0) (memo_of p 0)
  plan_ready p h =
      record {
        geometry = h.work.geometry;
        who = h.work.who;
        held = (see p.start.geometry p.words, memos_of p.accounts, calm_held p (working_calm p h), refl);
        idle = h.work.idle;
      }

  -- no exchange of it failed
  pub plan_whole : (p r : Pool) (s : P) (x y : ℕ) → IsWorking p → q.steered.me s ≡ member p.start.geometry 0 → may s (memo_of p 0) → TookSteps (calls_control k q.steered) 0 p (calls_of q.steered s) r → Ran 0 true true p r x y → failed (memo_of r 0).call ≡ 0
  plan_whole p r s x y h me m t ran =
      let g : Geometry = p.start.geometry in
      let c : Control (Calls P C) A = calls_control k q.steered in
      let z : Calls P C = calls_of q.steered s in
      let new = tasks.new s (memo_of p 0) m in
      let fresh : c.fresh z ≡ true = rw (new.first, new.fresh) refl in
      let same : readied p 0 ≡ p = ready_same p h.work.acts in
      let ms : List Move = words (machine_steps c z t.trail) in
      let grew : r.turns ≡ p.turns ++ ms = t.grew ∙ ap (λ (u : Pool). u.turns ++ ms) same in
      let all : Leads g (first_state p.start) r.turns (state_of r) = subst (λ (u : Start). Leads u.geometry (first_state u) r.turns (state_of r)) ran.start ran.run.leads in
      let led : Leads g (state_of p) ms (state_of r) = leads_after g (first_state p.start) p.turns ms (state_of p) (state_of r) h.run.leads (subst (λ (us : List Move). Leads g (first_state p.start) us (state_of r)) grew all) in
      let begun : CallsFits k q z (memo_of p 0) (memo_of p 0) [] = calls_begin k q laws s (memo_of p 0) new.first new.start (tasks.begins s (memo_of p 0) (subst (λ (u : Me). IsReady u (memo_of p 0)) (sym me) (plan_ready p h)) m) in
      let fit : fits_now c (CallsFits k q) z (memo_of p 0) (memo_of p 0) = subst (λ (b : Bool). CallsFits k q z (memo_of p 0) (memo_of p 0) (call_before b (memo_of p 0).call)) (sym fresh) begun in
      let call : (memo_of r 0).call ≡ t.trail = t.call ∙ ap (λ (b : Bool). call_before b (memo_of (readied p 0) 0).call ++ t.trail) fresh in
      let some : t.trail ≢ [] = λ e. (let none : length (memo_of r 0).call ≡ 0 = ap length (call ∙ e) in let spent = ran.spent (ran.some refl) refl in let less = ran.less refl in absurd (omega (arith, none, spent, less))) in
      let (us, is, none) = run_sure c (CallsFits k q) (CallsGives k q) (calls_laws k q laws) (calls_know k q knows) (calls_sure k q knows sure) g 0 (state_of p) z (memo_of p 0) t.trail (state_of r) me h.work.who h.run.held led fit t.goes some (sure.begins s (see g p.words)) in
      ap failed (is ∙ ap (λ (b : Bool). call_before b (memo_of p 0).call ++ us) fresh) ∙ none
    where
      ready_same : (u : Pool) → acts (memo_of u 0) ≡ true → readied u 0 ≡ u
      ready_same u e = ap (λ (b : Bool). pool u.start u.words (cond b u.accounts (changed (account_entered (kind_next (memo_of u 0))) u.accounts 0)) (cond b u.turns (u.turns ++ Begins 0 (kind_next (memo_of u 0)) ∷ []))) e

  -- so that it took as many word steps as it is within
  pub plan_most : (n : ℕ) (p r : Pool) (s : P) (x y : ℕ) → IsWorking p → q.steered.me s ≡ member p.start.geometry 0 → may s (memo_of p 0) → TookSteps (calls_control k q.steered) 0 p (calls_of q.steered s) r → Ran 0 true true p r x y → IsWithin n (memo_of r 0).call → x ≤ y + n
  plan_most n p r s x y h me m t ran most =
      let whole = plan_whole p r s x y h me m t ran in
      let spent = ran.spent (ran.some refl) refl in
      omega (arith, whole, spent, most)
