-- a pool of whose identities all is done, once it is settled, is a run of the trace
use Rattle.std.proofs.Common.{◌≡◌, ℕ, ◌%◌, ◌<◌, Bool, false, List, [], refl, sym, ap, ◌∙◌, subst}
use Rattle.std.specs.{Prelude.{Option, Some, None, slice_get, slice_index, slice_index_or}, Ordering.nat_cmp}
use Rattle.std.specs.FinMap as finmap
use Rattle.shm_graph.specs.declared.{ask.Me.Me, memo.Agent.Agent, run.{Account.Account, LoggedLine.LoggedLine}}
use Rattle.shm_graph.specs.{declared.run.Start.Start, Agents.last_agent, Held.is_loose}
use Rattle.shm_graph.specs.{Runs.{account_at, fell_by, first_account, told_left}, Tables.find}
use Rattle.shm_graph.proofs.States.FirstHeld.{same_everywhere}
use Rattle.shm_count.specs.Roots.{member}
use Rattle.kind_parts.specs.Reparting.{chain_in, map_in}
use Rattle.shm_plain.specs.{Closings.IsClosedRun, Pools.{Pool, memo_of, pool}}
use Rattle.shm_plain.proofs.StillTable.{still_part}
use Rattle.shm_pool.specs.Tokens.{Its}
use Rattle.shm_pool.specs.Tokens as shared
use Rattle.shm_script.specs.{Logged.Logged, Ranges.AreApart, Values.{Scripted, Traced}}
use Rattle.shm_agents.specs.{Logs.{AreUnspent, BeganWith, IsLog, IsLogOf, begun_first}, Turns.{lives_of, script_in}}
use Rattle.shm_agents.specs.Courses.{AreCommandsTold}
use Rattle.shm_agents.proofs.{Courses.{agents_fell, told_aside}, Growing.{began_more, first_more, log_on}}
use Rattle.shm_replay.specs.Replays.{fold_in, start_of}
use Rattle.shm_replay.proofs.{Starting.script_client, WholeRun.{script_at, table_by}}
use Rattle.shm_team.specs.{declared.left.Left.Left, Dones.{IsDoneBy, logs_in}, Lefts.{account_in, is_corpse}}
use Rattle.shm_team.specs.Rans.{HasAgents, HasTurns, IsTeamRun, MayHaveBegun, MayHaveTaken, entries_in}
use Rattle.shm_team.specs.Visits.{IsVisited}
use Rattle.shm_team.proofs.Telling.{aside_told, entries_none, entries_some, fold_none, fold_some, logs_all, logs_are}

-- the closed pool with the turns of its run
pub closed_pool : (s : Start) (ws : List ℕ) (es : List Account) (h : shared.IsClosedRun s ws es) → IsClosedRun (pool s ws es h.turns)
closed_pool s ws es h = record { run = record { held = h.held; leads = h.leads }; still = λ c l. (h.still c l).0; clean = h.clean }

-- what is done of an identity of the pool q that has this script, its log o, and the account f once it was visited
pub record WasClosed (s : Option Scripted) (q : Its) (c : ℕ) (o : Option Logged) (f : Account) : Type 0 where
  pub left : Left
  pub done : IsDoneBy s q c o left
  pub visited : IsVisited (is_corpse left) (account_in left) f

module _ (t : Traced) (few : (k : ℕ) (s : Scripted) → slice_get t.scripts k ≡ Some s → s.client < t.clients) (apart : AreApart t.scripts) (p : Pool) (q : Its) (of : q.start ≡ p.start) (start : p.start ≡ start_of t) (closed : IsClosedRun p)
    (os : List (Option Logged)) (each : (c : ℕ) → c < t.clients → WasClosed (script_in t.scripts c) q c (slice_index_or os c None) (account_at p.accounts c)) where
  -- a script's identity
  abbrev its : ℕ → Me
  its c = member p.start.geometry c

  same_me : (c : ℕ) → member q.start.geometry c ≡ its c
  same_me c = ap (λ (z : Start). member z.geometry c) of

  -- a script with the log of its client
  log_at : (k : ℕ) (s : Scripted) → slice_get t.scripts k ≡ Some s → (x : Logged) × (slice_index_or os s.client None ≡ Some x) × (x.client ≡ s.client) × IsLog p s x × AreUnspent x.entries
  log_at k s e =
      let c = s.client in
      let w = each c (few k s e) in
      let v = w.visited in
      let d : IsDoneBy (Some s) q c (slice_index_or os c None) w.left = subst (λ (r : Option Scripted). IsDoneBy r q c (slice_index_or os c None) w.left) (script_at t.scripts k s apart e) w.done in
      let x = d.0 in
      let h = d.2 in
      let a = account_in w.left in
      let f = account_at p.accounts c in
      let life = slice_index (lives_of s.life) 0 in
      let log : IsLogOf (its c) s life f.memo.agents f.begun f.told x =
      log_on (its c) s life life refl a.memo.agents f.memo.agents a.begun f.begun (told_left (is_corpse w.left) a) f.told x
      (λ n z b. subst (λ (found : List Agent). BeganWith found n z) (sym v.agents) (began_more a.memo.agents v.others n z b))
      (λ n some b. ap begun_first v.begun ∙ first_more a.begun v.lines n some b)
      v.more v.told (subst (λ (m : Me). IsLogOf m s life a.memo.agents a.begun (told_left (is_corpse w.left) a) x) (same_me c) h.log) in
      (x, d.1, h.log.client, log, h.unspent)

  have : (k : ℕ) (s : Scripted) → slice_get t.scripts k ≡ Some s → (x : Logged) × (slice_index_or os s.client None ≡ Some x) × (x.client ≡ s.client)
  have k s e = let (x, at, who, log, room) = log_at k s e in (x, at, who)

  abbrev ls : List Logged
  ls = logs_in t.scripts os

  -- what was left of an identity, in parts that no visit changes, by its script
  module _ (c : ℕ) (k : Left) where
    abbrev a : Account
    a = account_in k

    abbrev Done : Option Scripted → Type 0
    Done s = IsDoneBy s q c (slice_index_or os c None) k

    left_loose : (s : Option Scripted) → Done s → is_loose a.memo.part ≡ false
    left_loose None h = ap (λ (x : Account). is_loose x.memo.part) (ap account_in h.1) ∙ ap (λ (z : Start). is_loose (first_account z c).memo.part) (of ∙ start)
    left_loose (Some s) h = h.2.table

    left_fold : (key : ℕ) (s : Option Scripted) → script_in t.scripts c ≡ s → Done s → map_in a.memo.part key ≡ finmap.get (fold_in ls c) key
    left_fold key None is h =
        ap (λ (x : Account). map_in x.memo.part key) (ap account_in h.1)
        ∙ (ap (λ (z : Start). map_in (first_account z c).memo.part key) (of ∙ start)
        ∙ (ap (find key) (same_everywhere 16 (key % 16) [])
        ∙ sym (ap (λ m. finmap.get m key) (fold_none t.scripts os c have is) ∙ finmap.get-empty nat_cmp key)))
    left_fold key (Some s) is h = h.2.fold key ∙ sym (ap (λ m. finmap.get m key) (fold_some t.scripts os c have s h.0 is h.1))

    -- the agents of its script, and what was told of its commands
    own_agents : (s : Option Scripted) → Done s → MayHaveBegun s a.memo.agents a.begun (is_corpse k)
    own_agents None h = (ap (λ (x : Account). x.memo.agents) (ap account_in h.1), ap (λ (x : Account). x.begun) (ap account_in h.1), ap is_corpse h.1)
    own_agents (Some s) h = h.2.agents

    -- its turns, and whether the last one had died
    own_taken : (s : Option Scripted) → script_in t.scripts c ≡ s → Done s → MayHaveTaken s p.start c a
    own_taken None is h = ap account_in h.1 ∙ ap (λ (z : Start). first_account z c) of
    own_taken (Some s) is h =
        subst (λ (d : ℕ). MayHaveTaken (Some s) p.start d a) (script_client t.scripts c s is) (subst (λ (z : Start). MayHaveTaken (Some s) z s.client a) of h.2.taken)

    own_dead : (s : Option Scripted) → Done s → is_corpse k ≡ fell_by (last_agent a.memo.agents)
    own_dead None h = ap is_corpse h.1 ∙ sym (ap (λ (x : Account). fell_by (last_agent x.memo.agents)) (ap account_in h.1))
    own_dead (Some s) h = sym (agents_fell s.lines (lives_of s.life) a.memo.agents a.begun (is_corpse k) h.2.agents)

    own_told : (s : Option Scripted) → script_in t.scripts c ≡ s → Done s → AreCommandsTold (its c) (told_left (is_corpse k) a) (entries_in ls c)
    own_told None is h =
        subst (λ (z : Left). AreCommandsTold (its c) (told_left (is_corpse z) (account_in z)) (entries_in ls c)) (sym h.1) (entries_none t.scripts os c have is)
    own_told (Some s) is h =
        let who : s.client ≡ c = script_client t.scripts c s is in
        subst (AreCommandsTold (its c) (told_left (is_corpse k) a)) (sym (entries_some t.scripts os c have s h.0 is h.1))
        (subst (λ (m : Me). AreCommandsTold m (told_left (is_corpse k) a) h.0.entries) (same_me s.client ∙ ap its who) h.2.only)

  agents : (c : ℕ) → c < t.clients → HasAgents (script_in t.scripts c) (account_at p.accounts c)
  agents c l =
      let w = each c l in
      let v = w.visited in
      record {
        dead = is_corpse w.left;
        first = (account_in w.left).memo.agents;
        others = v.others;
        before = (account_in w.left).begun;
        lines = v.lines;
        agents = v.agents;
        begun = v.begun;
        own = own_agents c w.left (script_in t.scripts c) w.done;
        closers = v.closers;
      }

  turns : (c : ℕ) → c < t.clients → HasTurns (script_in t.scripts c) p.start c (account_at p.accounts c)
  turns c l =
      let w = each c l in
      let v = w.visited in
      record {
        left = account_in w.left;
        own = own_taken c w.left (script_in t.scripts c) refl w.done;
        begun = subst (MayHaveBegun (script_in t.scripts c) (account_in w.left).memo.agents (account_in w.left).begun) (own_dead c w.left (script_in t.scripts c) w.done) (own_agents c w.left (script_in t.scripts c) w.done);
        visited = subst (λ (b : Bool). IsVisited b (account_in w.left) (account_at p.accounts c)) (own_dead c w.left (script_in t.scripts c) w.done) v;
      }

  told : (c : ℕ) → c < t.clients → AreCommandsTold (its c) (account_at p.accounts c).told (entries_in ls c)
  told c l =
      let w = each c l in
      let v = w.visited in
      let es = entries_in ls c in
      subst (λ (zs : List LoggedLine). AreCommandsTold (its c) zs es) (sym v.told)
      (told_aside (its c) (told_left (is_corpse w.left) (account_in w.left)) v.more es (own_told c w.left (script_in t.scripts c) refl w.done) (aside_told (its c) v.more v.aside))

  pub is_team_run : IsTeamRun t p (logs_in t.scripts os)
  is_team_run =
      record {
        start = start;
        closed = closed;
        logs = logs_are p t.scripts os (λ k s e. let (x, at, who, log, room) = log_at k s e in (x, at, log));
        unspent = logs_all (λ (l : Logged). AreUnspent l.entries) t.scripts os (λ k s e. let (x, at, who, log, room) = log_at k s e in (x, at, room));
        agents = agents;
        turns = turns;
        told = told;
        table = λ c. chain_in (memo_of p c).part;
        is = λ c l.
            let here : c < t.clients = subst (λ n. c < n) (ap (λ (z : Start). z.geometry.clients) start) l in
            let w = each c here in
            table_by _ c _ (memo_of p c).part (w.visited.table.loose ∙ left_loose c w.left (script_in t.scripts c) w.done) (still_part p closed.run closed.still c l);
        fold = λ c key l. let w = each c l in w.visited.table.map key ∙ left_fold c w.left key (script_in t.scripts c) refl w.done;
      }
