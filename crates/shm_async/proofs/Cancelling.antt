-- agents at a post that are given up
use Rattle.std.proofs.Common.{◌≡◌, ℕ, ◌+◌, ◌<◌, Bool, true, false, cond, List, [], ◌∷◌, length, length-append, inl, refl, sym, ap, ◌∙◌, subst, arith, true≢false}
use Rattle.shm_graph.specs.declared.{ask.Me.Me, memo.{Agent.Agent, Fate.TheVariants.Acts, Kind.TheVariants.Recoverer}}
use Rattle.shm_graph.specs.declared.run.{Account.Account, Start.Start}
use Rattle.shm_graph.specs.{Agents.{acts, acts_by, fallen, last_agent, steps_made, steps_of, with_last}, Held.is_loose}
use Rattle.shm_graph.specs.Runs.{account_died, fell_by, first_account, told_left}
use Rattle.shm_graph.proofs.Memos.MemoSteps.{steps_died}
use Rattle.shm_count.specs.Roots.{member}
use Rattle.shm_script.specs.{declared.log.{End.TheVariants.Died, Entry.Entry}, Logged.Logged, Values.Scripted}
use Rattle.shm_agents.specs.declared.agents.Standing.TheVariants.{AtWork, Gone}
use Rattle.shm_agents.specs.Agents.{Fallen, Fresh, IsFold, Mended, Mending, Parted, Playing, Plays, Stage, AgentsStand, end_or, logged, one_agent}
use Rattle.shm_agents.specs.{Courses.AreCommandsTold, Cuts.{IsCut, IsCutOff, IsUnbegun, account_cut}}
use Rattle.shm_agents.specs.{Logs.{AreUnspent, IsLogOf, steps_first}, Taken.HasTaken, TurnsLeft.{deaths, turns_given}}
use Rattle.shm_agents.proofs.{Loose.has_table, Taking.took_death}
use Rattle.shm_pool.specs.Tokens.{IsOut}
use Rattle.shm_team.specs.{declared.done.Finish.Finish, Lefts.{IsGivenBack, account_in, is_corpse}}
use Rattle.shm_team.proofs.Finishing.{is_me}
use Rattle.shm_async.specs.{Cancelled.{HasCancelled, IsCorpseBy, LogFits}, Polled.{AtPost, StandAt}}
use Rattle.shm_async.proofs.Cuts.{cut_given}

-- what a cut leaves of the pool, whether an agent acted or none
pub by_acting : (b : Bool) (P : Type 0) → (b ≡ true → P) → (b ≡ false → P) → P
by_acting true P fell still = fell refl
by_acting false P fell still = still refl

cut_steps : (e : Account) → steps_made (account_cut e).memo ≡ steps_made e.memo
cut_steps e = go (acts e.memo)
  where
    go : (b : Bool) → steps_made (cond b (account_died e) e).memo ≡ steps_made e.memo
    go true = steps_died e.memo
    go false = refl

-- an agent that died is one
died_some : (e : Account) → acts e.memo ≡ true → (account_cut e).memo.agents ≡ [] → ⊥
died_some e acting none = go e.memo.agents refl
  where
    is : account_cut e ≡ account_died e
    is = ap (λ (b : Bool). cond b (account_died e) e) acting

    go : (xs : List Agent) → e.memo.agents ≡ xs → ⊥
    go [] at = true≢false (sym acting ∙ ap (λ (ys : List Agent). acts_by (last_agent ys)) at)
    go (a ∷ []) at = let z : fallen a ∷ [] ≡ [] = sym (ap (with_last fallen) at) ∙ (sym (ap (λ (x : Account). x.memo.agents) is) ∙ none) in absurd (cc)
    go (a ∷ b ∷ xs) at = let z : a ∷ with_last fallen (b ∷ xs) ≡ [] = sym (ap (with_last fallen) at) ∙ (sym (ap (λ (x : Account). x.memo.agents) is) ∙ none) in absurd (cc)

-- where none of them has begun nothing runs
unbegun_quiet : (start : Start) (s : Scripted) (x : Playing) (e : Account) → AgentsStand start s x e → x.standing ≡ AtWork → e.memo.agents ≡ [] → e.running ≡ []
unbegun_quiet start s x e h here none = go h.stage
  where
    go : Stage start s x e → e.running ≡ []
    go (Fresh f) = ap (λ (a : Account). a.running) f.account
    go (Plays p) = let z : one_agent p.steps Acts ≡ [] = sym p.agents ∙ none in absurd (cc)
    go (Parted p) = let z : AtWork ≡ Gone = sym here ∙ p.left in absurd (cc)
    go (Fallen f l) = absurd (let many = f.many in let some = f.some in let zero = ap length none in omega arith)
    go (Mending m l) = absurd (let many = m.many in let some = m.some in let both = ap length (sym m.agents ∙ none) in let sum = length-append m.before (record { kind = Recoverer; steps = m.steps; fate = Acts } ∷ []) in omega arith)
    go (Mended m l) = let z : AtWork ≡ Gone = sym here ∙ m.recovered in absurd (cc)

-- v are the agents w after they were given up; `some` tells whether one of them had begun
module _ (s : Scripted) (w v : AtPost) (h : StandAt s w) (here : w.agents.standing ≡ AtWork) (me : v.agents.me ≡ w.agents.me) (account : v.post.account ≡ account_cut w.post.account) where
  abbrev e : Account
  e = account_cut w.post.account

  at_cut : (b : Bool) → IsCut b s v.agents v.post.account → IsCut b s v.agents e
  at_cut b = subst (IsCut b s v.agents) account

  -- ---- what the post asks before it gives a token

  pub cut_fell : IsCutOff s v.agents v.post.account → fell_by (last_agent v.post.account.memo.agents) ≡ true
  cut_fell c = c.fell

  pub cut_out : IsUnbegun v.agents v.post.account → IsOut v.post.account.memo
  cut_out c = inl c.status

  pub cut_still : IsUnbegun v.agents v.post.account → acts v.post.account.memo ≡ false
  cut_still c = ap (λ (xs : List Agent). acts_by (last_agent xs)) c.agents

  -- nothing runs where none of them had begun
  pub cut_quiet : IsUnbegun v.agents v.post.account → v.post.account.running ≡ []
  cut_quiet c = ap (λ (a : Account). a.running) account ∙ (by_acting (acts w.post.account.memo) _ acting still)
    where
      none : (account_cut w.post.account).memo.agents ≡ []
      none = sym (ap (λ (a : Account). a.memo.agents) account) ∙ c.agents

      acting : acts w.post.account.memo ≡ true → (account_cut w.post.account).running ≡ []
      acting is = absurd (died_some w.post.account is none)

      still : acts w.post.account.memo ≡ false → (account_cut w.post.account).running ≡ []
      still is =
          let same : account_cut w.post.account ≡ w.post.account = ap (λ (b : Bool). cond b (account_died w.post.account) w.post.account) is in
          ap (λ (a : Account). a.running) same ∙ unbegun_quiet w.post.of.start s w.agents w.post.account h.stands here (sym (ap (λ (a : Account). a.memo.agents) same) ∙ none)

  pub cut_whole : IsUnbegun v.agents v.post.account → fell_by (last_agent v.post.account.memo.agents) ≡ false
  cut_whole c = ap (λ (xs : List Agent). fell_by (last_agent xs)) c.agents

  -- ---- what is given

  abbrev its : Me
  its = member w.post.of.start.geometry s.client

  abbrev first : Account
  first = first_account w.post.of.start s.client

  mine : v.agents.me ≡ its
  mine = me ∙ is_me w.post s w.agents h.stands

  corpse_by : (b : Bool) → IsCut b s v.agents e → IsCorpseBy (steps_made w.post.account.memo) b
  corpse_by true c = subst (λ (n : ℕ). 0 < n) (cut_steps w.post.account) c.stepped
  corpse_by false c = sym (cut_steps w.post.account) ∙ ap steps_of c.agents

  none_given : IsUnbegun v.agents e → turns_given w.post.account ≡ 0
  none_given c = go (acts w.post.account.memo) refl
    where
      go : (b : Bool) → acts w.post.account.memo ≡ b → turns_given w.post.account ≡ 0
      go true is = absurd (died_some w.post.account is c.agents)
      go false is =
          let same : account_cut w.post.account ≡ w.post.account = ap (λ (b : Bool). cond b (account_died w.post.account) w.post.account) is in
          ap turns_given (sym same) ∙ ap (λ (xs : List Agent). steps_of xs + deaths xs) c.agents

  -- the death of the one that acted is a turn of theirs
  taken_cut : HasTaken its s.lines first e
  taken_cut = go (acts w.post.account.memo) refl
    where
      stood : HasTaken its s.lines first w.post.account
      stood = subst (λ (m : Me). HasTaken m s.lines (first_account w.post.of.start m.who) w.post.account) (is_me w.post s w.agents h.stands) h.stands.taken

      go : (b : Bool) → acts w.post.account.memo ≡ b → HasTaken its s.lines first (cond b (account_died w.post.account) w.post.account)
      go true acting = took_death its s.lines first w.post.account stood acting
      go false quiet = stood

  log_fits : (b : Bool) → IsCut b s v.agents e → LogFits b w.post.of s (turns_given w.post.account) e (logged v.agents)
  log_fits true c =
      record {
        log = subst (λ (m : Me). IsLogOf m s (steps_first e.memo.agents) e.memo.agents e.begun (told_left true e) (logged v.agents)) mine c.settled.log;
        only = subst (λ (m : Me). AreCommandsTold m (told_left true e) v.agents.entries) mine c.settled.only;
        lives = c.lives;
        cut = c.cut;
        agents = c.died;
        given = cut_given w.post.of.start s w.agents w.post.account h.stands here c.lives c.died;
        taken = taken_cut;
      }
  log_fits false c =
      let who : v.agents.me.who ≡ s.client = ap (λ (m : Me). m.who) mine in
      let entries = c.entries in
      let end : end_or v.agents.end ≡ Died 0 false = ap end_or c.end in
      (none_given c, (λ i. record { client = who i; entries = entries i; end = end i }))

  unspent_cut : (b : Bool) → IsCut b s v.agents e → AreUnspent v.agents.entries
  unspent_cut true c = c.settled.unspent
  unspent_cut false c = subst AreUnspent (sym c.entries) tt

  fold_cut : (b : Bool) → IsCut b s v.agents e → IsFold v.agents.entries e.memo
  fold_cut true c = c.settled.fold
  fold_cut false c = subst (λ (es : List Entry). IsFold es e.memo) (sym c.entries) c.fold

  table_cut : is_loose e.memo.part ≡ false
  table_cut = go (acts w.post.account.memo)
    where
      its : is_loose w.post.account.memo.part ≡ false
      its = has_table w.post.of.start w.post.account h.posted.stood h.stands.may.tables

      go : (b : Bool) → is_loose (cond b (account_died w.post.account) w.post.account).memo.part ≡ false
      go true = its
      go false = its

  pub cancelled : (b : Bool) → IsCut b s v.agents v.post.account → (x : Finish) → x.log ≡ logged v.agents → IsGivenBack w.post.of x.token → account_in x.token ≡ v.post.account → is_corpse x.token ≡ b → HasCancelled w.post.of s w.post.account x
  cancelled b cut x log token given some =
      let c = at_cut b cut in
      let entries : x.log.entries ≡ v.agents.entries = ap (λ (l : Logged). l.entries) log in
      record {
        token = token;
        account = given ∙ account;
        who = h.posted.named ∙ sym h.stands.may.client;
        corpse = subst (IsCorpseBy (steps_made w.post.account.memo)) (sym some) (corpse_by b c);
        log = subst (λ (d : Bool). LogFits d w.post.of s (turns_given w.post.account) e x.log) (sym some) (subst (LogFits b w.post.of s (turns_given w.post.account) e) (sym log) (log_fits b c));
        unspent = subst AreUnspent (sym entries) (unspent_cut b c);
        fold = subst (λ (es : List Entry). IsFold es e.memo) (sym entries) (fold_cut b c);
        table = table_cut;
      }
