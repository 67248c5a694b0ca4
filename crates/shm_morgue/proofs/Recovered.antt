-- the dead of a script, behind whom one more agent came
use Rattle.std.proofs.Common.{◌≡◌, ℕ, zero, suc, ◌+◌, ◌<◌, ◌≤◌, Bool, true, false, List, [], ◌∷◌, ◌++◌, inl, inr, take, refl, sym, ap, ◌∙◌, subst, arith}
use Rattle.std.specs.Prelude.{if◌then◌else◌, Ok, Some, drop, slice_get, slice_index}
use Rattle.shm_graph.specs.declared.{ask.{Me.Me, Turn.{Turn, TheVariants.{More, Done}}}, memo.Agent.Agent}
use Rattle.shm_graph.specs.declared.memo.{Fate.TheVariants.{Acts, Died, Ended}, Kind.TheVariants.Recoverer}
use Rattle.shm_graph.specs.declared.{memo.Status.TheVariants.Gone, run.{Account.Account, LoggedLine.LoggedLine}}
use Rattle.shm_graph.specs.{Agents.{acts, acts_by, fallen, last_agent, with_last}, Held.is_loose, Laws.is_died}
use Rattle.shm_graph.specs.Runs.{account_died, first_account, told_left}
use Rattle.shm_graph.proofs.Memos.MemoSteps.{last-append}
use Rattle.shm_count.specs.Roots.{member}
use Rattle.shm_recover.specs.{Machines.Recovering.recover, Recover.Control.recover_line}
use Rattle.shm_agents.specs.{Agents.IsFold, Courses.{AreAgents, AreCommandsTold, AreRecoverers}}
use Rattle.shm_agents.specs.{Logs.{BeganWith, IsLogOf, begun_first}, Taken.HasTaken, Turns.lives_of}
use Rattle.shm_agents.proofs.{Courses.{agents_more, around, take_more, told_aside}, Deaths.some_life}
use Rattle.shm_agents.proofs.Growing.{began_more, first_more, log_on, with_last-end}
use Rattle.shm_pool.specs.{Calls.ClientStepped, Endings.Answer, Rescues.{Rescuing, account_of}}
use Rattle.shm_pool.specs.Tokens.{Its, Token, me_of}
use Rattle.shm_replay.specs.Closings.{SameTable}
use Rattle.shm_script.specs.{Logged.Logged, Values.Scripted}
use Rattle.shm_team.specs.{declared.left.Left.TheVariants.{Corpse, Vacant}, Dones.IsFinished, Lefts.token_in}
use Rattle.shm_team.specs.Visits.{AreAside, HasRun}
use Rattle.shm_team.proofs.Telling.{aside_told}
use Rattle.shm_morgue.specs.Dead.{AreDead, IsNext, left_by}
use Rattle.shm_morgue.proofs.Mending.{Fits, Gives, HasFallen, IsMending, IsWorking, mends_ends, mends_falls, mends_gone, mends_more, recoverer, taken_on}

module _ (p : Its) (s : Scripted) (n : ℕ) (l : Logged) (t : Token) (h : AreDead p s n l t) where
  abbrev e : Account
  e = account_died t.account

  abbrev me : Me
  me = member p.start.geometry s.client

  abbrev lives : List ℕ
  lives = lives_of s.life

  mine : me_of t.of t.account ≡ me
  mine = λ i. record { geometry = (h.of i).start.geometry; who = h.who i }

  -- nobody comes behind them
  pub dead_finish : take n lives ≡ lives → IsFinished p s l (Corpse t)
  dead_finish all =
      record {
        token = (h.of, h.acts);
        who = h.who;
        log = h.log;
        agents = subst (λ (ns : List ℕ). AreAgents s.lines ns e.memo.agents e.begun true) all h.died;
        only = h.only;
        unspent = h.unspent;
        fold = h.fold;
        table = h.table;
        gone = λ f. absurd (let z : true ≡ false = f in cc);
        taken = h.taken;
      }

  -- one more agent, its lines and what was told of it
  module _ (v : Account) (a : Agent) (more : List LoggedLine) (agents : List Agent) (is : agents ≡ e.memo.agents ++ a ∷ []) (begun : v.begun ≡ e.begun ++ (recover_line ∷ []) ∷ []) (told : List LoggedLine) (told_is : told ≡ told_left true e ++ more) (aside : AreAside more)
      (table : SameTable e.memo v.memo) where
    log_more : IsLogOf me s (slice_index lives 0) agents v.begun told l
    log_more =
        log_on me s (slice_index lives 0) (slice_index lives 0) refl e.memo.agents agents e.begun v.begun (told_left true e) told l
        (λ k f b. subst (λ (xs : List Agent). BeganWith xs k f) (sym is) (began_more e.memo.agents (a ∷ []) k f b))
        (λ k some b. ap begun_first begun ∙ first_more e.begun ((recover_line ∷ []) ∷ []) k some b)
        more told_is h.log

    only_more : AreCommandsTold me told l.entries
    only_more = subst (λ (ts : List LoggedLine). AreCommandsTold me ts l.entries) (sym told_is) (told_aside me (told_left true e) more l.entries h.only (aside_told me more aside))

    fold_more : IsFold l.entries v.memo
    fold_more key = table.map key ∙ h.fold key

    table_more : is_loose v.memo.part ≡ false
    table_more = table.loose ∙ h.table

    agents_then : (rest : List ℕ) (dead : Bool) → AreRecoverers true rest (a ∷ []) ((recover_line ∷ []) ∷ []) dead → AreAgents s.lines (take n lives ++ rest) agents v.begun dead
    agents_then rest dead are =
        subst (λ (bs : List (List (List ℕ))). AreAgents s.lines (take n lives ++ rest) agents bs dead) (sym begun)
        (subst (λ (xs : List Agent). AreAgents s.lines (take n lives ++ rest) xs (e.begun ++ (recover_line ∷ []) ∷ []) dead) (sym is)
        (agents_more s.lines (take n lives) rest e.memo.agents (a ∷ []) e.begun ((recover_line ∷ []) ∷ []) dead h.died are))

  module _ (steps : ℕ) (at : slice_get lives n ≡ Some steps) where
    -- the next agent recovered the identity
    pub next_recovers : (v : Token) → v.of ≡ p → v.account.who ≡ t.account.who → (r : HasRun Recoverer (recover_line ∷ []) Ended e v.account) → r.steps ≤ steps → v.account.memo.status ≡ Gone → HasTaken me s.lines (first_account p.start s.client) v.account → IsFinished p s l (Vacant v)
    next_recovers v of who r few gone taken =
        let a = recoverer r.steps Ended in
        let f = v.account in
        record {
          token = (of, r.rests);
          who = who ∙ h.who;
          log = log_more f a r.more f.memo.agents r.agents r.begun f.told r.told r.aside r.table;
          agents = subst (λ (ns : List ℕ). AreAgents s.lines ns f.memo.agents f.begun false) (around lives n steps at)
              (agents_then f a r.more f.memo.agents r.agents r.begun f.told r.told r.aside r.table (steps ∷ drop (suc n) lives) false (refl, inr (refl, few), refl, refl));
          only = only_more f a r.more f.memo.agents r.agents r.begun f.told r.told r.aside r.table;
          unspent = h.unspent;
          fold = fold_more f a r.more f.memo.agents r.agents r.begun f.told r.told r.aside r.table;
          table = table_more f a r.more f.memo.agents r.agents r.begun f.told r.told r.aside r.table;
          gone = λ vacant. gone;
          taken = taken;
        }

    -- it died
    pub next_dies : (v : Token) → v.of ≡ p → v.account.who ≡ t.account.who → HasFallen (me_of t.of t.account) t.account steps v.account → AreDead p s (n + 1) l v
    next_dies v of who r =
        let f = v.account in
        let a = recoverer steps Died in
        let is : (account_died f).memo.agents ≡ e.memo.agents ++ a ∷ [] = ap (with_last fallen) r.agents ∙ with_last-end fallen e.memo.agents (recoverer steps Acts) in
        let more : List LoggedLine = r.line ∷ [] in
        let aside : AreAside more = (inr (inr (inr r.is_line)), tt) in
        let table : SameTable e.memo f.memo = record { map = r.table.map; loose = r.table.loose } in
        record {
          fits = h.fits;
          of = of;
          who = who ∙ h.who;
          acts = ap (λ (xs : List Agent). acts_by (last_agent xs)) r.agents ∙ ap acts_by (last-append e.memo.agents (recoverer steps Acts));
          died = subst (λ (ns : List ℕ). AreAgents s.lines ns (account_died f).memo.agents f.begun true) (sym (take_more lives n steps at))
              (agents_then f a more (account_died f).memo.agents is r.begun (told_left true f) r.told aside table (steps ∷ []) true (refl, inl (refl, refl), refl, refl));
          log = log_more f a more (account_died f).memo.agents is r.begun (told_left true f) r.told aside table;
          only = only_more f a more (account_died f).memo.agents is r.begun (told_left true f) r.told aside table;
          unspent = h.unspent;
          fold = fold_more f a more (account_died f).memo.agents is r.begun (told_left true f) r.told aside table;
          table = table_more f a more (account_died f).memo.agents is r.begun (told_left true f) r.told aside table;
          taken = (subst (λ (m : Me). HasFallen m t.account steps f) mine r).taken s (first_account p.start s.client) h.taken;
        }

-- ---- a recovery at its end

abbrev token_of : Rescuing → Token
token_of r = record { of = r.of; account = r.seat }

left_is : (r : Rescuing) (b : Bool) → r.done ≡ b → left_by r ≡ (if b then Vacant (token_of r) else Corpse (token_of r))
left_is r b e = ap (λ (d : Bool). if d then Vacant (token_of r) else Corpse (token_of r)) e

pub left_of : (r : Rescuing) → (token_in (left_by r)).of ≡ r.of
left_of r = go r.done
  where
    go : (b : Bool) → (token_in (if b then Vacant (token_of r) else Corpse (token_of r))).of ≡ r.of
    go true = refl
    go false = refl

seated : (e : Account) (b : Bool) → b ≡ true → account_of b e ≡ e
seated e true h = refl
seated e false h = absurd (let z : false ≡ true = h in cc)

module _ (p : Its) (s : Scripted) (n : ℕ) (l : Logged) (t : Token) (h : AreDead p s n l t) (steps : ℕ) (at : slice_get (lives_of s.life) n ≡ Some steps) where
  -- no word step was left
  pub next_dead : (r : Rescuing) → r.of ≡ p → r.seat.who ≡ t.account.who → r.done ≡ false → (left : ℕ) → left ≡ 0 → IsWorking (me_of t.of t.account) t.account steps left r → IsNext p s (n + 1) l (left_by r)
  next_dead r of who undone left none w =
      let some : 0 < steps = some_life s.life h.fits.life n steps at in
      let made = w.made in
      let all : w.n ≡ steps = omega arith in
      let one : 0 < w.n = omega arith in
      let here : account_of r.begun r.seat ≡ r.seat = seated r.seat r.begun (w.begun one) in
      let fell : HasFallen (me_of t.of t.account) t.account w.n (account_of r.begun r.seat) = mends_falls t.account h.acts (me_of t.of t.account) w.n r.machine (account_of r.begun r.seat) w.mending one in
      subst (IsNext p s (n + 1) l) (sym (left_is r false undone))
      (next_dies p s n l t h steps at (token_of r) of who (subst (λ (k : ℕ). HasFallen (me_of t.of t.account) t.account k r.seat) all (subst (HasFallen (me_of t.of t.account) t.account w.n) here fell)))

  -- its last step left the identity gone
  pub next_gone : (r q : Rescuing) → q.of ≡ p → q.seat.who ≡ t.account.who → q.done ≡ true → (left left2 : ℕ) → left2 + 1 ≡ left → IsWorking (me_of t.of t.account) t.account steps left r
      → (u : Turn Answer) → ClientStepped recover Fits Gives r.machine (account_of r.begun r.seat) q.seat u q.machine → u ≡ Done (Ok tt) → IsNext p s (n + 1) l (left_by q)
  next_gone r q of who done left left2 less w u x is =
      let its : Me = me_of t.of t.account in
      let (run, many) = mends_ends t.account h.acts its w.n r.machine (account_of r.begun r.seat) w.mending q.seat u q.machine x is in
      let made = w.made in
      let few : run.steps ≤ steps = omega arith in
      subst (IsNext p s (n + 1) l) (sym (left_is q true done))
      (next_recovers p s n l t h steps at (token_of q) of who run few (mends_gone t.account h.acts its w.n r.machine (account_of r.begun r.seat) w.mending q.seat u q.machine x is)
      (subst (λ (m : Me). HasTaken m s.lines (first_account p.start s.client) q.seat) (mine p s n l t h)
      (taken_on t.account h.acts its w.n r.machine (account_of r.begun r.seat) w.mending q.seat u q.machine x s (first_account p.start s.client)
      (subst (λ (m : Me). HasTaken m s.lines (first_account p.start s.client) (account_died t.account)) (sym (mine p s n l t h)) h.taken))))

-- after one more step it goes on
pub works_on : (me : Me) (e : Account) (steps left left2 : ℕ) (r q : Rescuing) → acts e.memo ≡ true → left2 + 1 ≡ left → q.begun ≡ true → IsWorking me e steps left r
    → (u : Turn Answer) → ClientStepped recover Fits Gives r.machine (account_of r.begun r.seat) q.seat u q.machine → u ≡ More → IsWorking me e steps left2 q
works_on me e steps left left2 r q on less begun w u x is =
    let made = w.made in
    record {
      n = w.n + 1;
      made = omega arith;
      mending = subst (IsMending me e (w.n + 1) q.machine) (sym (seated q.seat q.begun begun)) (mends_more e on me w.n r.machine (account_of r.begun r.seat) w.mending q.seat u q.machine x is);
      begun = λ one. begun;
    }

-- ---- what a turn tells

pub not_true : (b : Bool) (P : Type 0) → (b ≡ true → P) → (P → ⊥) → b ≡ false
not_true true P f n = absurd (n (f refl))
not_true false P f n = refl

pub some_left : (t : Turn Answer) (n : ℕ) → (n ≡ 0 → is_died t ≡ true) → is_died t ≡ false → 0 < n
some_left t zero died alive = absurd (let z : true ≡ false = sym (died refl) ∙ alive in cc)
some_left t (suc n) died alive = omega arith
