-- what the agents of a visit leave
use Rattle.std.proofs.Common.{◌≡◌, ℕ, Bool, true, false, cond, List, [], ◌∷◌, ◌++◌, append-nil, append_assoc, refl, sym, ap, ◌∙◌, subst, inl, inr}
use Rattle.std.specs.Prelude.{◌<◌, Ok, slice_index}
use Rattle.shm_words.specs.Layout.{GeometryFits}
use Rattle.shm_graph.specs.declared.{ask.Me.Me, memo.{Agent.Agent, Fate.{Fate, TheVariants.{Acts, Ended}}, Kind.Kind}}
use Rattle.shm_graph.specs.declared.memo.{Kind.TheVariants.{Client, Recoverer}, Memo.Memo, Seen.Seen, Status.Status}
use Rattle.shm_graph.specs.declared.{memo.Status.TheVariants.Gone, run.{Account.Account, LoggedLine.LoggedLine}}
use Rattle.shm_graph.specs.{declared.spot.Spot.TheVariants.Hold, Agents.{is_gone, recovers}, Asks.Trail, Events.Event}
use Rattle.shm_graph.specs.{Held.is_loose, Runs.{account_entered, begun_by, told_by, told_left}, Whole.gives_now}
use Rattle.plans.specs.{CallsControl.{calls_control, calls_of, calls_does}, CallsFit.{CallsFits, CallsGives}}
use Rattle.plans.specs.Proved.CallsKeep.{calls_begin, calls_laws}
use Rattle.shm_queue.specs.Drain.Control.{drain_line, drain_parts, draining, drain_steered}
use Rattle.shm_queue.specs.{Drain.{DrainLeaves, MayDrain, drain_plan}, Proved.Drain.Laws.drain_laws}
use Rattle.shm_queue.specs.Proved.Take.Laws.{take_laws}
use Rattle.shm_queue.proofs.Steady.{drain_steady}
use Rattle.shm_recover.specs.{Join.join_line, Machines.{leave, Recovering.recover}}
use Rattle.shm_recover.specs.Leave.{Control.{leave_line, leave_parts, leaving, leave_steered}, MayLeave, leave_plan}
use Rattle.shm_recover.specs.Proved.{Leave.Laws.{leave_begin, leave_laws}, Recover.Laws.recover_begin}
use Rattle.shm_recover.specs.Recover.{Control.{recover_line, recover_parts, recovering, recover_steered}, recover_plan}
use Rattle.shm_recover.proofs.Steady.{leave_steady, recover_steady}
use Rattle.kind_parts.specs.Reparting.{map_in}
use Rattle.shm_agents.specs.Courses.{IsAside}
use Rattle.shm_agents.proofs.{Growing.begun_end, WorkLaws.recoveries}
use Rattle.shm_pool.specs.{declared.reply.Reply.TheVariants.Done, Called.HasCalled}
use Rattle.shm_pool.specs.Calls.{CallSteps, IsBetween, Shown, TellsLine, shown}
use Rattle.shm_pool.specs.{Endings.{ClientMayLeave, EndIsTold, HasLeft}, Tokens.{Acting, Its, Token, me_of}}
use Rattle.shm_replay.specs.Closings.{SameTable}
use Rattle.shm_replay.proofs.Visited.{table_then}
use Rattle.shm_team.specs.Visits.{AreAside, HasRun, HasStayed, IsVisited}
use Rattle.shm_team.proofs.{Calling.call_agents, Staying.{AreSame, same_steps, stayed_call, stayed_then}}

-- ---- memos

pub same_part : (m r : Memo) → r.part ≡ m.part → SameTable m r
same_part m r e = record { map = λ key. ap (λ x. map_in x key) e; loose = ap is_loose e }

not_dead : (b : Bool) → (b ≡ true → ⊥) → b ≡ false
not_dead true n = absurd (n refl)
not_dead false n = refl

-- where nothing is left to finish but roots and segments, nothing is after a drain
pub drained_may_leave : (me : Me) (m r : Memo) (tr : Trail) (es : List Event) (n : ℕ) → MayLeave me m → DrainLeaves (draining me) m r tr es (Ok n) → MayLeave me r
drained_may_leave me m r tr es n l g =
    let d = g.drained in
    let status : r.status ≡ m.status = ap (λ (x : Memo). x.status) d.rest in
    record {
      may = record { geometry = l.may.geometry; who = l.may.who; here = record { joined = λ e. l.may.here.joined (sym status ∙ e); stays = λ e. l.may.here.stays (sym status ∙ e) }; idle = d.op };
      hold = d.own (Hold me.who) refl (λ s. refl) ∙ l.hold;
      latch = ap (λ (x : Memo). x.latch) d.rest ∙ l.latch;
      making = ap (λ (x : Memo). x.making) d.rest ∙ l.making;
      dying = d.dying ∙ l.dying;
      sends = λ i. ap (λ (x : Memo). slice_index x.unsent i) d.rest ∙ l.sends i;
      takes = λ i. d.untaken i ∙ l.takes i;
    }

-- ---- what was told

-- a line that is aside, or an empty one
aside_rest : (line : List ℕ) (tr : List Seen) (finished : Bool) (told : List LoggedLine) → IsAside line → (rest : List LoggedLine) × (told_by line tr finished told ≡ told ++ rest) × AreAside rest
aside_rest [] tr finished told is = ([], sym (append-nil told), tt)
aside_rest (x ∷ xs) tr finished told is = (record { line = x ∷ xs; trail = tr; finished = finished } ∷ [], refl, (is, tt))

aside_both : (xs ys : List LoggedLine) → AreAside xs → AreAside ys → AreAside (xs ++ ys)
aside_both [] ys h k = k
aside_both (x ∷ xs) ys h k = (h.0, aside_both xs ys h.1 k)

-- nothing is left to tell
left_none : (e : Account) → e.running ≡ [] → told_left true e ≡ e.told
left_none e rests = ap (λ (l : List ℕ). told_by l e.memo.call false e.told) rests

-- ---- one agent

-- its first call
pub run_first : (k : Kind) (s : Shown) (e f : Account) (before left : ℕ) (fate : Fate) → IsAside s.line → CallSteps s (account_entered k e) f true before left → TellsLine s.line (account_entered k e) f → cond (is_gone f.memo.status) Ended Acts ≡ fate → SameTable e.memo f.memo → HasRun k (s.line ∷ []) fate e f
run_first k s e f before left fate aside c t is table =
    let a : Agent = record { kind = k; steps = 0; fate = Acts } in
    let (n, agents) = call_agents s (account_entered k e) f before left c e.memo.agents a refl in
    let (more, told, all) = aside_rest s.line f.memo.call true (told_left true e) aside in
    record {
      steps = n;
      agents = agents ∙ ap (λ (z : Fate). let y : Agent = record { kind = k; steps = n; fate = z } in e.memo.agents ++ y ∷ []) is;
      begun = t.begun ∙ begun_end s.line e.begun [];
      more = more;
      told = t.told ∙ told;
      aside = all;
      rests = t.running;
      table = table;
    }

-- what stands behind a list, and more behind that
then_more : {A : Type 0} (xs a b ys zs : List A) → ys ≡ xs ++ a → zs ≡ ys ++ b → zs ≡ xs ++ (a ++ b)
then_more xs a b ys zs e f = f ∙ (ap (λ ws. ws ++ b) e ∙ append_assoc xs a b)

-- and each further one
pub run_more : (k : Kind) (lines : List (List ℕ)) (s : Shown) (e f g : Account) (before left : ℕ) (fate : Fate) → IsAside s.line → HasRun k lines Acts e f → CallSteps s f g true before left → TellsLine s.line f g → cond (is_gone g.memo.status) Ended Acts ≡ fate → SameTable f.memo g.memo → HasRun k (lines ++ s.line ∷ []) fate e g
run_more k lines s e f g before left fate aside h c t is table =
    let a : Agent = record { kind = k; steps = h.steps; fate = Acts } in
    let (n, agents) = call_agents s f g before left c e.memo.agents a h.agents in
    let (more, told, all) = aside_rest s.line g.memo.call true (told_left true f) aside in
    record {
      steps = n;
      agents = agents ∙ ap (λ (z : Fate). let y : Agent = record { kind = k; steps = n; fate = z } in e.memo.agents ++ y ∷ []) is;
      begun = t.begun ∙ (ap (begun_by s.line) h.begun ∙ begun_end s.line e.begun lines);
      more = h.more ++ more;
      told = then_more (told_left true e) h.more more f.told g.told h.told (t.told ∙ (told ∙ ap (λ (xs : List LoggedLine). xs ++ more) (left_none f h.rests)));
      aside = aside_both h.more more h.aside all;
      rests = t.running;
      table = table_then e.memo f.memo g.memo h.table table;
    }

-- an agent acts still where the status isn't gone
pub acts_still : (s : Status) → is_gone s ≡ false → ◌≡◌ {A = Fate} (cond (is_gone s) Ended Acts) Acts
acts_still s e = ap (λ (b : Bool). cond b Ended Acts) e

pub ends_gone : (s : Status) → s ≡ Gone → ◌≡◌ {A = Fate} (cond (is_gone s) Ended Acts) Ended
ends_gone s e = ap (λ (z : Status). cond (is_gone z) Ended Acts) e

-- ---- a drain

-- where a whole drain of a client came to its end
module _ (t t' : Acting) (before left n : ℕ) (h : HasCalled drain_parts drain_plan (draining (me_of t.of t.account)) t t' before left (Done (Ok n))) where
  left_so : (es : List Event) × DrainLeaves (draining (me_of t.of t.account)) t.account.memo t'.account.memo t'.account.memo.call es (Ok n)
  left_so = (_, h.done.left_so)

  -- it is still there
  pub drain_here : t'.dead ≡ false
  drain_here = not_dead t'.dead h.done.died.1

  pub drain_may : ClientMayLeave t.of t.account → ClientMayLeave t'.of t'.account
  drain_may may =
      let same = h.done.same in (
        subst (λ (x : Me). MayLeave x t'.account.memo) (λ i. record { geometry = (sym same.0 i).start.geometry; who = sym same.1 i })
            (drained_may_leave (me_of t.of t.account) t.account.memo t'.account.memo t'.account.memo.call left_so.0 n may.0 left_so.1),
        h.done.told.over,
      )

  drain_table : SameTable t.account.memo t'.account.memo
  drain_table = same_part t.account.memo t'.account.memo (ap (λ (x : Memo). x.part) left_so.1.drained.rest)

  -- each of its steps leaves the map as it was
  drain_same : (here : t.dead ≡ false) → ClientMayLeave t.of t.account → AreSame t.account.memo t.account ((h.done.call here).steps ++ (h.done.call here).last)
  drain_same here may =
      let me : Me = me_of t.of t.account in
      let k = calls_control drain_parts drain_steered in
      let m = calls_of drain_steered (draining me) in
      let c = h.done.call here in
      let may_drain : MayDrain me t.account.memo = record { geometry = may.0.may.geometry; who = may.0.may.who; here = may.0.may.here; idle = may.0.may.idle; none = may.0.takes } in
      let fits = calls_begin drain_parts drain_plan (drain_laws take_laws) (draining me) t.account.memo refl refl (may_drain, refl, refl, refl, refl) in
      same_steps k (CallsFits drain_parts drain_plan) (CallsGives drain_parts drain_plan) (calls_laws drain_parts drain_plan (drain_laws take_laws)) drain_steady t.account.memo (shown k m) true m t.account c.steps c.last refl may.0.may.who refl fits c.going c.ends (h.done.events here).steps (h.done.events here).made
      (subst (λ (z : Account). SameTable t.account.memo z.memo) c.account drain_table)

  pub drain_stayed : t.dead ≡ false → ClientMayLeave t.of t.account → HasStayed t.account t'.account
  drain_stayed here may = stayed_call (shown (calls_control drain_parts drain_steered) (calls_of drain_steered (draining (me_of t.of t.account)))) t.account t'.account true before left (h.done.call here) (drain_same here may)

  -- the agent of t ran it, behind these lines
  pub drain_ran : t.dead ≡ false → IsBetween t.account → (e : Account) (lines : List (List ℕ)) → HasRun Client lines Acts e t.account → HasRun Client (lines ++ drain_line ∷ []) Acts e t'.account
  drain_ran here between e lines ran =
      run_more Client lines (shown (calls_control drain_parts drain_steered) (calls_of drain_steered (draining (me_of t.of t.account)))) e t.account t'.account _ _ Acts (inr (inr (inl refl))) ran (h.done.call here) h.done.told
      (acts_still t'.account.memo.status (ap (λ (x : Memo). is_gone x.status) left_so.1.drained.rest ∙ ap is_gone between.idle.live))
      drain_table

-- ---- a leaving, and a recovery

-- each step of them leaves the map as it was
pub leave_stayed : (p : Its) (e : Account) (u : Token) (before left : ℕ) → ClientMayLeave p e → HasLeft p e before left u → SameTable e.memo u.account.memo → HasStayed e u.account
leave_stayed p e u before left may x same =
    let me : Me = me_of p e in
    let m = calls_of leave_steered (leaving me) in
    let c = x.answered.call in
    let fits = calls_begin leave_parts leave_plan leave_laws (leaving me) e.memo refl refl (leave_begin me e.memo may.0) in
    stayed_call (shown leave m) e u.account true before left c
    (same_steps leave (CallsFits leave_parts leave_plan) (CallsGives leave_parts leave_plan) (calls_laws leave_parts leave_plan leave_laws) leave_steady e.memo (shown leave m) true m e c.steps c.last refl may.0.may.who refl fits c.going c.ends x.answered.driven.steps x.answered.driven.made
    (subst (λ (z : Account). SameTable e.memo z.memo) c.account same))

pub recover_stayed : (e : Account) (u : Token) (p : Its) (before left : ℕ) → GeometryFits p.start.geometry → e.who < p.start.geometry.clients → recovers e.memo ≡ true
    → EndIsTold recover (CallsFits recover_parts recover_plan) (gives_now (CallsGives recover_parts recover_plan)) (calls_does recover_parts recover_plan) (calls_of recover_steered (recovering (me_of p e))) p e before left u
    → SameTable e.memo u.account.memo → HasStayed e u.account
recover_stayed e u p before left sizes who recoverer x same =
    let me : Me = me_of p e in
    let m = calls_of recover_steered (recovering me) in
    let c = x.answered.call in
    let fits = calls_begin recover_parts recover_plan recoveries (recovering me) e.memo refl refl (recover_begin me e.memo (record { geometry = sizes; who = who; recoverer = recoverer })) in
    stayed_call (shown recover m) e u.account true before left c
    (same_steps recover (CallsFits recover_parts recover_plan) (CallsGives recover_parts recover_plan) (calls_laws recover_parts recover_plan recoveries) recover_steady e.memo (shown recover m) true m e c.steps c.last refl who refl fits c.going c.ends x.answered.driven.steps x.answered.driven.made
    (subst (λ (z : Account). SameTable e.memo z.memo) c.account same))

-- ---- the visit

abbrev client_lines : List (List ℕ)
client_lines = join_line ∷ drain_line ∷ leave_line ∷ []

-- of an identity that no agent's death left
pub visited_vacant : (e f : Account) → e.running ≡ [] → HasRun Client client_lines Ended e f → HasStayed e f → f.who ≡ e.who → f.memo.status ≡ Gone → IsVisited false e f
visited_vacant e f rests h stayed who gone =
    record {
      who = who;
      others = record { kind = Client; steps = h.steps; fate = Ended } ∷ [];
      lines = client_lines ∷ [];
      closers = (refl, refl, refl);
      agents = h.agents;
      begun = h.begun;
      more = h.more;
      told = h.told ∙ ap (λ (xs : List LoggedLine). xs ++ h.more) (left_none e rests);
      aside = h.aside;
      gone = gone;
      table = h.table;
      stayed = stayed;
    }

-- and of one whose last agent died
pub visited_corpse : (e m f : Account) → HasRun Recoverer (recover_line ∷ []) Ended e m → HasRun Client client_lines Ended m f → HasStayed e m → HasStayed m f → m.who ≡ e.who → f.who ≡ m.who → f.memo.status ≡ Gone → IsVisited true e f
visited_corpse e m f r h first then whom who gone =
    let a : Agent = record { kind = Recoverer; steps = r.steps; fate = Ended } in
    let b : Agent = record { kind = Client; steps = h.steps; fate = Ended } in
    record {
      who = who ∙ whom;
      others = a ∷ b ∷ [];
      lines = (recover_line ∷ []) ∷ client_lines ∷ [];
      closers = (refl, refl, refl, (refl, refl, refl));
      agents = then_more e.memo.agents (a ∷ []) (b ∷ []) m.memo.agents f.memo.agents r.agents h.agents;
      begun = then_more e.begun ((recover_line ∷ []) ∷ []) (client_lines ∷ []) m.begun f.begun r.begun h.begun;
      more = r.more ++ h.more;
      told = then_more (told_left true e) r.more h.more m.told f.told r.told (h.told ∙ ap (λ (xs : List LoggedLine). xs ++ h.more) (left_none m r.rests));
      aside = aside_both r.more h.more r.aside h.aside;
      gone = gone;
      table = table_then e.memo m.memo f.memo r.table h.table;
      stayed = stayed_then e m f first then;
    }
