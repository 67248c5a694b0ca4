-- in a run by threads or polls, or with medics, each log takes effect in the turns of the closed run
use Rattle.std.proofs.Common.{◌≡◌, ◌≢◌, ℕ, ◌^◌, ◌<◌, Bool, false, List, [], ◌∷◌, ◌++◌, refl, sym, ap, ◌∙◌, subst, inl, inr, arith}
use Rattle.std.specs.{Prelude.{Option, Some, slice_index}, List.AllByRecursion}
use Rattle.shm_graph.specs.declared.{ask.Me.Me, memo.Agent.Agent, run.{Account.Account, Start.Start}}
use Rattle.shm_graph.specs.{Agents.last_agent, CallEvents.own_turns}
use Rattle.shm_graph.specs.Runs.{EraFits, account_at, fell_by, first_account, first_words, state, told_left}
use Rattle.shm_graph.proofs.Runs.OwnTurns.{own_turns_are}
use Rattle.plans.specs.Deciding.{Foretells}
use Rattle.shm_count.specs.Roots.{member}
use Rattle.shm_plain.specs.Pools.{Pool}
use Rattle.shm_script.specs.{Logged.Logged, Ranges.{IsTrace, ScriptFits}, Values.{Scripted, Traced}}
use Rattle.shm_table.specs.Command.{command_by, command_control, command_effect}
use Rattle.shm_agents.specs.declared.agents.Standing.{Standing, TheVariants.{AtWork, Dead, Gone}}
use Rattle.shm_agents.specs.{Agents.{Playing, is_standing_dead, logged}, Logs.{BeganWith, IsLog, IsLogOf, begun_first}}
use Rattle.shm_agents.specs.Turns.{lives_of, script_in}
use Rattle.shm_agents.proofs.{Dying.CommandMaps, Growing.{began_more, first_more, log_on}}
use Rattle.shm_agents.proofs.Over.{IsOver, over_fell, over_gone, over_log}
use Rattle.shm_replay.proofs.{SameLogs.logs_same, WholeRun.script_at}
use Rattle.shm_team.specs.Rans.{HasTurns, IsTeamRun}
use Rattle.shm_headline.specs.{Headline.{geometry_of, words_first}, TurnsOf.turns_of}
use Rattle.shm_effects.specs.Effects.{TakesEffect}
use Rattle.shm_effects.proofs.{Along.takes_effect, Entries.{effective, when_ended}, Given.{given, none_left}}
use Rattle.shm_effects.proofs.Interleaved.{all_logs, script_of}

-- the last agent died where all of them did
dead_is : (s : Scripted) (x : Playing) (e : Account) → IsOver s x e → is_standing_dead x.standing ≡ fell_by (last_agent e.memo.agents)
dead_is s x e over = go x.standing refl
  where
    alive : x.standing ≢ Dead → is_standing_dead x.standing ≡ false → is_standing_dead x.standing ≡ fell_by (last_agent e.memo.agents)
    alive n is = is ∙ sym (over_gone s x e over n).1.1

    go : (st : Standing) → x.standing ≡ st → is_standing_dead x.standing ≡ fell_by (last_agent e.memo.agents)
    go AtWork is = alive (λ z. let y : AtWork ≡ Dead = sym is ∙ z in cc) (ap is_standing_dead is)
    go Gone is = alive (λ z. let y : Gone ≡ Dead = sym is ∙ z in cc) (ap is_standing_dead is)
    go Dead is = ap is_standing_dead is ∙ sym (over_fell s x e over is)

ended_is : (s : Scripted) (x : Playing) (e : Account) → IsOver s x e → effective s x ≡ x.entries
ended_is s x e (inl h) = when_ended s x _ h.end
ended_is s x e (inr (inl h)) = when_ended s x _ h.1.ended
ended_is s x e (inr (inr h)) = when_ended s x _ h.2.ended

one_same : (a b : Logged) → a ∷ [] ≡ b ∷ [] → a ≡ b
one_same a b e = cc

module _ (maps : CommandMaps) (tells : Foretells command_control (λ a. a) command_effect command_by) (t : Traced) (trace : IsTrace t) (p : Pool) (ls : List Logged) (r : IsTeamRun t p ls) where
  abbrev start : Start
  start = p.start

  low : (s : Scripted) → script_in t.scripts s.client ≡ Some s → s.client < t.clients
  low s e = (script_of (ScriptFits t.clients) t.scripts s.client s trace.scripts e).client

  abbrev Takes : Logged → Type 0
  Takes l = TakesEffect (geometry_of t) l 0 [] (words_first t) (turns_of p.turns)

  module _ (l : Logged) (s : Scripted) (script : script_in t.scripts s.client ≡ Some s) (is : IsLog p s l) where
    abbrev c : ℕ
    c = s.client

    here : s.client < start.geometry.clients
    here = subst (λ (z : Start). s.client < z.geometry.clients) (sym r.start) (low s script)

    its : HasTurns (Some s) p.start s.client (account_at p.accounts s.client)
    its = subst (λ (o : Option Scripted). HasTurns o p.start s.client (account_at p.accounts s.client)) script (r.turns s.client (low s script))

    abbrev f : Account
    f = account_at p.accounts s.client

    -- all that its client has noted
    ends : (x : Playing) → x.me ≡ member start.geometry s.client → IsOver s x its.left → l.entries ≡ effective s x
    ends x named over =
        let e : Account = its.left in
        let v = its.visited in
        let life : ℕ = slice_index (lives_of s.life) 0 in
        let at : IsLogOf (member start.geometry c) s life e.memo.agents e.begun (told_left (fell_by (last_agent e.memo.agents)) e) (logged x) =
        subst (λ (b : Bool). IsLogOf (member start.geometry c) s life e.memo.agents e.begun (told_left b e) (logged x)) (dead_is s x e over)
        (subst (λ (m : Me). IsLogOf m s life e.memo.agents e.begun (told_left (is_standing_dead x.standing) e) (logged x)) named (over_log s x e (sym (ap (λ (m : Me). m.who) named)) over)) in
        let noted : IsLog p s (logged x) =
        log_on (member start.geometry c) s life life refl e.memo.agents f.memo.agents e.begun f.begun (told_left (fell_by (last_agent e.memo.agents)) e) f.told (logged x)
        (λ n z b. subst (λ (found : List Agent). BeganWith found n z) (sym v.agents) (began_more e.memo.agents v.others n z b))
        (λ n some b. ap begun_first v.begun ∙ first_more e.begun v.lines n some b)
        v.more v.told at in
        ap (λ (z : Logged). z.entries) (one_same l (logged x) (logs_same p (s ∷ []) (l ∷ []) (logged x ∷ []) (is, refl) (noted, refl))) ∙ sym (ended_is s x e over)

    -- its turns are those of its script, and then those of the visit
    own : own_turns s.client p.turns ≡ its.left.turns ++ its.visited.stayed.turns
    own = sym (own_turns_are start p.turns (state p.words p.accounts) r.closed.run.leads s.client here) ∙ its.visited.stayed.grew

    takes : Takes l
    takes =
        let fits : ScriptFits start.geometry.clients s = subst (λ (z : Start). ScriptFits z.geometry.clients s) (sym r.start) (script_of (ScriptFits t.clients) t.scripts s.client s trace.scripts script) in
        let eras : EraFits start.first_era = subst (λ (z : Start). EraFits z.first_era) (sym r.start) (omega arith, omega arith) in
        let era : start.first_era < 2 ^ 46 = subst (λ (z : Start). z.first_era < 2 ^ 46) (sym r.start) (omega arith) in
        let dead : Bool = fell_by (last_agent its.left.memo.agents) in
        let (up, g, m) = given (member start.geometry c) s its.left dead its.begun its.left.turns (first_account start c) its.own.turns its.own.made in
        let took = takes_effect maps tells start s here l.entries l.end its.left (none_left (member start.geometry c) s its.left dead its.begun) its.visited.stayed.turns its.visited.stayed.still ends (state p.words p.accounts) r.closed.run.held.at.fits eras era (ap (λ (z : Start). z.tables) r.start) fits p.turns r.closed.run.leads its.left.turns (own, g, m) in
        subst (λ (z : Start). TakesEffect z.geometry l 0 [] (first_words z) (turns_of p.turns)) r.start
        (subst (λ (k : ℕ). TakesEffect start.geometry (record { client = k; entries = l.entries; end = l.end }) 0 [] (first_words start) (turns_of p.turns)) (sym is.client) took)

  pub team_takes : AllByRecursion Takes ls
  team_takes = all_logs t.scripts p Takes takes t.scripts ls (λ k s e. script_at t.scripts k s trace.apart e) r.logs
