-- the recovery of an identity that was cut, poll by poll
use Rattle.std.proofs.Common.{◌≡◌, ℕ, ◌+◌, ◌^◌, ◌<◌, ◌≤◌, Bool, true, false, cond, List, [], ◌∷◌, ◌++◌, append-nil, length, length-append, inl, inr, refl, sym, ap, ◌∙◌, subst, arith, true≢false, Result}
use Rattle.std.specs.Prelude.{IfErr, Option, Some, None, Ok, Err}
use Rattle.shm_graph.specs.declared.{ask.{Life.Life, Me.Me}, memo.{Agent.Agent, Fate.TheVariants.{Died, Ended}}}
use Rattle.shm_graph.specs.declared.memo.{Kind.TheVariants.{Client, Recoverer}, Status.TheVariants.Gone, Step.Step}
use Rattle.shm_graph.specs.{declared.run.Account.Account, Agents.{acts, steps_made, steps_of}}
use Rattle.shm_graph.specs.{Runs.{Stood, account_died, account_entered, first_account, is_dead}, Tells.machine_steps}
use Rattle.shm_graph.proofs.Memos.MemoSteps.{steps_died, steps_entered}
use Rattle.shm_count.specs.Roots.{member}
use Rattle.shm_recover.specs.{Machines.Recovering.recover, Recover.Control.recover_line}
use Rattle.shm_replay.specs.Closings.{SameTable}
use Rattle.shm_replay.proofs.Starting.{script_client}
use Rattle.shm_script.specs.Values.{Scripted, Traced}
use Rattle.shm_agents.specs.{Courses.HasLived, Taken.HasTaken, TurnsLeft.{deaths, turns_of}, Work.RecoverCalls}
use Rattle.shm_agents.proofs.{Courses.{agents_fell, agents_some}, Growing.steps_of-end, OwnEras.own_most}
use Rattle.shm_agents.proofs.{Recovering.recovery, Taking.took_death}
use Rattle.shm_pool.specs.declared.token.{Cause.Cause, Stopped.Stopped}
use Rattle.shm_pool.specs.Calls.{CallSteps, Ending, Going, Ongoing, Shown, accounts_by, fresh_after, pairs, shown}
use Rattle.shm_pool.specs.{Rescues.Rescuing, Tokens.{Its, Token, me_of}}
use Rattle.shm_pool.specs.declared.token.Cause.TheVariants as cause
use Rattle.shm_pool.proofs.Calling.{tells}
use Rattle.shm_team.specs.{declared.left.Left.{Left, TheVariants.{Vacant, Corpse}}, Dones.IsFinished}
use Rattle.shm_team.specs.{Lefts.{IsGivenBack, account_in, is_corpse}, Visits.HasRun}
use Rattle.shm_team.proofs.{Recoverers.recovery_taken, Visiting.{ends_gone, run_first}}
use Rattle.shm_async.specs.declared.limited.Cut.{Cut}
use Rattle.shm_async.specs.LimitedMembers.{HasRoom, IsLimitedDone, LimitedBy, IsMending, WasCut, left_of}
use Rattle.shm_async.specs.Rescued.{HasPolled, HasRescued, HasSpent, HasStepped, IsOver, Rescue, StopsBy, account_by, answered_by, is_answer, rescuing_first, token_by}
use Rattle.shm_async.proofs.Behind.{HasFollowed, finished_behind, followed_died, followed_run, recoverer_by}
use Rattle.shm_async.proofs.{Cuts.lives_given, Ongoing.Driven, Recovering.{begun_account, stepped_then}}

-- ---- it goes on

abbrev whole : Life
whole = record { left = 2 ^ 40 }

mending_site : (q : ℕ) (o b : Option Rescuing) (u : Rescuing) (before left : Life) → o ≡ Some u → HasPolled q o before None b left → (v : Rescuing) × (b ≡ Some v) × HasStepped false q u v before left
mending_site q o b u before left is h = subst (λ (x : Option Rescuing). HasPolled q x before None b left) is h

pub mending_on : (t : Traced) (p : Its) (c turns : ℕ) (k : Cut) (g : Rescue) → IsMending t p c turns k → HasRescued k.recovery None g → IsMending t p c turns (record { log = k.log; recovery = g })
mending_on t p c turns k g h polled =
    let (v, is, stepped) = mending_site k.recovery.quota k.recovery.rescuer g.rescuer h.rescuer k.recovery.life g.life h.is polled.polled in
    record {
      corpse = h.corpse;
      cut = h.cut;
      rescuer = v;
      is = is;
      quota = subst (λ (n : ℕ). 1 ≤ n) (sym polled.quota) h.quota;
      steps = h.steps + k.recovery.quota;
      stepped = stepped_then false h.steps k.recovery.quota _ h.rescuer v whole k.recovery.life g.life h.stepped stepped;
      room = h.room;
    }

pub mending_fewer : (t : Traced) (p : Its) (c turns : ℕ) (k : Cut) (g : Rescue) → IsMending t p c turns k → HasRescued k.recovery None g → g.life.left < k.recovery.life.left
mending_fewer t p c turns k g h polled =
    let (v, is, stepped) = mending_site k.recovery.quota k.recovery.rescuer g.rescuer h.rescuer k.recovery.life g.life h.is polled.polled in
    let down = stepped.life in
    let some = h.quota in
    omega arith

-- ---- it comes to its end

mended_site : (q : ℕ) (o b : Option Rescuing) (u : Rescuing) (before left : Life) (x : Result Token Stopped) → o ≡ Some u → HasPolled q o before (Some x) b left → (n : ℕ) × (v : Rescuing) × HasStepped (answered_by x) n u v before left × IsOver q n v left x
mended_site q o b u before left x is h = (subst (λ (y : Option Rescuing). HasPolled q y before (Some x) b left) is h).1

-- a whole call has some word steps
whole_some : (s : Shown) (e f : Account) (before left : ℕ) → CallSteps s e f true before left → left < before
whole_some s e f before left c = go c.last c.ends c.life
  where
    go : (last : List Step) → Ending s (fresh_after s.fresh c.steps) true last → left + length (c.steps ++ last) ≡ before → left < before
    go [] x l = absurd x
    go (y ∷ z ∷ zs) x l = absurd x
    go (y ∷ []) x l = omega (arith, length-append c.steps (y ∷ []))

module _ (t : Traced) (p : Its) (c turns : ℕ) (l : _) (k : Token) (cut : WasCut t p c turns l k) (room : HasRoom p turns) (over : Bool) (n : ℕ) (w : Rescuing) (left : Life) (stepped : HasStepped over n (rescuing_first k) w whole left) (begun : w.begun ≡ true) where
  -- the identity as it was cut
  abbrev e : Account
  e = account_died k.account

  first : account_by (rescuing_first k) ≡ account_entered Recoverer e
  first = ap (λ (b : Bool). account_entered Recoverer (account_died (cond b k.account (account_entered Client k.account)))) cut.acts

  last : account_by w ≡ w.seat
  last = begun_account w.begun w.seat begun

  of : w.of ≡ p
  of = stepped.of ∙ cut.of

  who : w.seat.who ≡ c
  who = stepped.who ∙ cut.who

  client : w.seat.who ≡ cut.script.client
  client = who ∙ sym (script_client t.scripts c cut.script cut.is)

  table : SameTable e.memo w.seat.memo
  table =
      subst (λ (z : Account). SameTable e.memo z.memo) last
      (record {
        map = (subst (λ (z : Account). SameTable z.memo (account_by w).memo) first stepped.table).map;
        loose = (subst (λ (z : Account). SameTable z.memo (account_by w).memo) first stepped.table).loose;
      })

  -- the word steps of its agents
  steps : steps_made w.seat.memo ≡ steps_made e.memo + n
  steps =
      ap (λ (z : Account). steps_made z.memo) (sym last)
      ∙ (stepped.steps ∙ ap (λ (j : ℕ). j + n) (ap (λ (z : Account). steps_made z.memo) first ∙ steps_entered Recoverer e.memo))

  few : n ≤ 2 ^ 40
  few = let life = stepped.life in omega arith

  -- ---- whose turns its word steps are

  abbrev me : Me
  me = member p.start.geometry cut.script.client

  abbrev IsTaken : Account → Type 0
  IsTaken = HasTaken me cut.script.lines (first_account p.start cut.script.client)

  mine : me_of k.of k.account ≡ me
  mine =
      let its : k.account.who ≡ cut.script.client = cut.who ∙ sym (script_client t.scripts c cut.script cut.is) in
      (λ i. record { geometry = (cut.of i).start.geometry; who = its i })

  abbrev began : Shown
  began = shown recover (rescuing_first k).machine

  -- those of the script's agents
  taken_along : (b : Bool) (ts end : List Step) → 0 < length (ts ++ end) → Going began true ts → Ending began (fresh_after true ts) b end → ts ++ end ≡ machine_steps recover (rescuing_first k).machine (pairs (ts ++ end)) → account_by w ≡ accounts_by (account_by (rescuing_first k)) (ts ++ end) → IsTaken w.seat
  taken_along b ts end some going ends its is =
      let fell = agents_fell cut.script.lines cut.log.lives e.memo.agents e.begun true cut.log.agents in
      let many = agents_some cut.script.lines cut.log.lives e.memo.agents e.begun true cut.log.agents in
      let asked : ts ++ end ≡ machine_steps recover (recovery me) (pairs (ts ++ end)) = its ∙ ap (λ (m : RecoverCalls). machine_steps recover m (pairs (ts ++ end))) (ap recovery mine) in
      let seat : accounts_by (account_entered Recoverer e) (ts ++ end) ≡ w.seat = ap (λ (z : Account). accounts_by z (ts ++ end)) (sym first) ∙ (sym is ∙ last) in
      subst IsTaken seat (recovery_taken me cut.script (first_account p.start cut.script.client) e cut.log.taken fell many began ts end some going b ends asked)

  -- ---- all is done

  -- with this agent behind those that were cut
  done_behind : (dead : Bool) (a : Agent) (f : Account) → HasFollowed dead a e f → a.kind ≡ Recoverer → HasLived (2 ^ 40) a → is_dead a.fate ≡ dead → (x : Left) → account_in x ≡ f → is_corpse x ≡ dead → IsGivenBack p x → f.who ≡ c → (dead ≡ false → f.memo.status ≡ Gone) → IsTaken f
      → IsLimitedDone t p c turns (record { log = Some l; left = x })
  done_behind dead a f h kind lived fate x account corpse token whose gone taken =
      let its : Scripted = record cut.script { life = cut.log.lives } in
      let finished : IsFinished p its l x =
      finished_behind p cut.script turns l e f cut.log cut.unspent cut.fold cut.table dead a h kind lived fate x account corpse token (whose ∙ sym (script_client t.scripts c cut.script cut.is)) gone taken in
      record {
        left = token;
        who = ap (λ (z : Account). z.who) account ∙ whose;
        script = Some its;
        limited = subst (λ (o : Option Scripted). LimitedBy turns (account_in x) o (Some its)) (sym cut.is) (inr (record { script = refl; cut = cut.log.cut; given = cut.log.given }));
        by = (l, refl, finished);
      }

  -- how many word steps the agent behind them made
  its_steps : (a : Agent) (f : Account) → f.memo.agents ≡ e.memo.agents ++ a ∷ [] → steps_made f.memo ≡ steps_made w.seat.memo → a.steps ≡ n
  its_steps a f agents same =
      let all = ap steps_of agents ∙ steps_of-end e.memo.agents a in
      let made = steps in
      omega arith

  -- ---- it has recovered the identity

  module _ (call : CallSteps (shown recover (rescuing_first k).machine) (account_by (rescuing_first k)) (account_by w) true (2 ^ 40) left.left) (driven : Driven (rescuing_first k) w (call.steps ++ call.last)) (gone : w.seat.memo.status ≡ Gone) where
    its_call : CallSteps (shown recover (rescuing_first k).machine) (account_entered Recoverer e) w.seat true (2 ^ 40) left.left
    its_call = subst (λ (z : Account). CallSteps (shown recover (rescuing_first k).machine) z w.seat true (2 ^ 40) left.left) first (subst (λ (z : Account). CallSteps (shown recover (rescuing_first k).machine) (account_by (rescuing_first k)) z true (2 ^ 40) left.left) last call)

    ran : HasRun Recoverer (recover_line ∷ []) Ended e w.seat
    ran =
        run_first Recoverer (shown recover (rescuing_first k).machine) e w.seat (2 ^ 40) left.left Ended (inr (inr (inr refl))) its_call
        (tells (shown recover (rescuing_first k).machine) (account_entered Recoverer e) w.seat (2 ^ 40) left.left refl its_call) (ends_gone w.seat.memo.status gone) table

    taken : IsTaken w.seat
    taken =
        let less = whole_some _ _ _ (2 ^ 40) left.left call in
        let life = call.life in
        taken_along true call.steps call.last (omega arith) call.going call.ends driven.steps call.account

    pub done_ended : IsLimitedDone t p c turns (record { log = Some l; left = Vacant (token_by w) })
    done_ended =
        let made : ran.steps ≡ n = its_steps (recoverer_by ran.steps Ended) w.seat ran.agents refl in
        let most = few in
        let lived : ran.steps ≤ 2 ^ 40 = omega arith in
        done_behind false (recoverer_by ran.steps Ended) w.seat (followed_run e w.seat ran) refl (inr (refl, lived)) refl (Vacant (token_by w)) refl refl (of, ran.rests) who (λ same. gone) taken

  -- ---- it died

  module _ (call : Ongoing (shown recover (rescuing_first k).machine) (account_by (rescuing_first k)) (shown recover w.machine) (account_by w) (2 ^ 40) left.left) (driven : Driven (rescuing_first k) w call.steps) (none : left.left ≡ 0) where
    all_made : n ≡ 2 ^ 40
    all_made = let life = stepped.life in omega arith

    some : 0 < length call.steps
    some = let life = call.life in omega arith

    account : w.seat ≡ accounts_by (account_entered Recoverer e) call.steps
    account = sym last ∙ (call.account ∙ ap (λ (z : Account). accounts_by z call.steps) first)

    fell : (j : ℕ) × HasFollowed true (recoverer_by j Died) e (account_died w.seat) × (acts w.seat.memo ≡ true)
    fell = followed_died (shown recover (rescuing_first k).machine) call.steps e w.seat refl some call.going account table

    taken_so : IsTaken w.seat
    taken_so =
        let all : call.steps ≡ call.steps ++ [] = sym (append-nil call.steps) in
        taken_along false call.steps [] (subst (λ (ts : List Step). 0 < length ts) all some) call.going tt
        (subst (λ (ts : List Step). ts ≡ machine_steps recover (rescuing_first k).machine (pairs ts)) all driven.steps) (call.account ∙ ap (accounts_by (account_by (rescuing_first k))) all)

    pub done_died : (x : Token) → x ≡ token_by w → IsLimitedDone t p c turns (record { log = Some l; left = Corpse x })
    done_died x is =
        let (j, h, acting) = fell in
        let made : j ≡ n = its_steps (recoverer_by j Died) (account_died w.seat) h.agents (steps_died w.seat.memo) in
        let lived : j ≡ 2 ^ 40 = made ∙ all_made in
        done_behind true (recoverer_by j Died) (account_died w.seat) h refl (inl (refl, lived)) refl (Corpse x) (ap (λ (z : Token). account_died z.account) is) refl
        (ap (λ (z : Token). z.of) is ∙ of, ap (λ (z : Token). acts z.account.memo) is ∙ acting) who (λ same. absurd (true≢false same))
        (took_death me cut.script.lines (first_account p.start cut.script.client) w.seat taken_so acting)

  -- ---- its own era has room

  module _ (stood : Stood w.of.start w.seat) (era : ℕ) where
    pub never_spent : HasSpent w.seat era → ⊥
    never_spent h =
        let most = own_most w.of.start w.seat stood in
        let start : w.of.start.first_era ≡ p.start.first_era = ap (λ (z : Its). z.start.first_era) of in
        let made = steps in
        let before = cut_few in
        let less = few in
        let high = h.high in
        let own = h.own in
        omega arith
      where
        -- the agents that were cut made at most as many word steps as turns
        cut_few : steps_made e.memo ≤ turns + 1
        cut_few =
            let all : turns_of cut.log.lives ≡ steps_of e.memo.agents + deaths e.memo.agents = lives_given cut.script.lines cut.log.lives e.memo.agents e.begun cut.log.agents in
            elim cut.log.given [
              | inl g ↦ omega arith
              | inr g ↦ (let given = g.0 in omega arith)
            ]

-- what a recovery gives of an identity that was cut
module _ (t : Traced) (p : Its) (c turns : ℕ) (k : Cut) (g : Rescue) (h : IsMending t p c turns k) where
  abbrev Gives : Result Token Stopped → Type 0
  Gives x = IsLimitedDone t p c turns (record { log = Some k.log; left = left_of x })

  -- all its word steps
  all : (over : Bool) (n : ℕ) (w : Rescuing) → HasStepped over n h.rescuer w k.recovery.life g.life → HasStepped over (h.steps + n) (rescuing_first h.corpse) w whole g.life
  all over n w = stepped_then over h.steps n (rescuing_first h.corpse) h.rescuer w whole k.recovery.life g.life h.stepped

  gives_token : (q n : ℕ) (w : Rescuing) (x : Token) → HasStepped true n h.rescuer w k.recovery.life g.life → IsOver q n w g.life (Ok x) → Gives (Ok x)
  gives_token q n w x stepped over =
      let its = all true n w stepped in
      let less = whole_some _ _ _ (2 ^ 40) g.life.left its.call in
      let life = its.life in
      let some : 0 < h.steps + n = omega arith in
      let gone = ap (λ (z : Token). z.account.memo.status) (sym over.1) ∙ over.2 in
      subst (λ (z : Token). Gives (Ok z)) (sym over.1)
      (done_ended t p c turns k.log h.corpse h.cut h.room true (h.steps + n) w g.life its (its.begun (inr some)) its.call its.driven gone)

  gives_corpse : (q n : ℕ) (w : Rescuing) (x : Token) (y : Cause) → HasStepped (is_answer y) n h.rescuer w k.recovery.life g.life → x ≡ token_by w → StopsBy y q n w g.life → Stood x.of.start x.account → IsLimitedDone t p c turns (record { log = Some k.log; left = Corpse x })
  gives_corpse q n w x cause.Died stepped is stops stood =
      let its = all false n w stepped in
      let life = its.life in
      let none = stops.1 in
      let some : 0 < h.steps + n = omega arith in
      done_died t p c turns k.log h.corpse h.cut h.room false (h.steps + n) w g.life its (its.begun (inr some)) its.call its.driven stops.1 x is
  gives_corpse q n w x (cause.EraSpent era) stepped is stops stood =
      let its = all true n w stepped in
      let less = whole_some _ _ _ (2 ^ 40) g.life.left its.call in
      let life = its.life in
      let some : 0 < h.steps + n = omega arith in
      absurd (never_spent t p c turns k.log h.corpse h.cut h.room true (h.steps + n) w g.life its (its.begun (inr some)) (subst (λ (z : Token). Stood z.of.start z.account) is stood) era stops.1)

  gives_any : (q n : ℕ) (w : Rescuing) (x : Result Token Stopped) → HasStepped (answered_by x) n h.rescuer w k.recovery.life g.life → IsOver q n w g.life x → IfErr x (λ s. Stood s.corpse.of.start s.corpse.account) → Gives x
  gives_any q n w (Ok x) stepped over stood = gives_token q n w x stepped over
  gives_any q n w (Err s) stepped over stood = gives_corpse q n w s.corpse s.cause stepped over.0 over.1 stood

  pub mending_done : (x : Result Token Stopped) → HasRescued k.recovery (Some x) g → IfErr x (λ s. Stood s.corpse.of.start s.corpse.account) → Gives x
  mending_done x polled stood =
      let (n, w, stepped, over) = mended_site k.recovery.quota k.recovery.rescuer g.rescuer h.rescuer k.recovery.life g.life x h.is polled.polled in
      gives_any k.recovery.quota n w x stepped over stood
