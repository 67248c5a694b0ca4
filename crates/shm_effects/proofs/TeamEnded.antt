-- a client that ended, in a run by threads or polls: none of its identity died
use Rattle.std.proofs.Common.{◌≡◌, ℕ, suc, ◌<◌, Bool, false, refl, sym, ap, subst, List, [], ◌∷◌}
use Rattle.std.specs.{Prelude.{Option, Some, None, slice_get, slice_index}, List.AllByRecursion}
use Rattle.shm_graph.specs.declared.{memo.Agent.Agent, run.Account.Account}
use Rattle.shm_graph.specs.Runs.{account_at, first_state, is_dead, state}
use Rattle.shm_graph.specs.declared.memo.Fate.TheVariants as fate
use Rattle.shm_plain.specs.Pools.{Pool}
use Rattle.shm_count.specs.Roots.{member}
use Rattle.shm_script.specs.{declared.log.End.{End, TheVariants.Ended}, Logged.Logged, Ranges.{IsTrace, ScriptFits}}
use Rattle.shm_script.specs.Values.{Scripted, Traced}
use Rattle.shm_agents.specs.{Logs.{AreLogs, BeganWith, HasEnd, IsLog}, Turns.{lives_of, script_in}}
use Rattle.shm_replay.proofs.WholeRun.{script_at}
use Rattle.shm_team.specs.{Rans.{HasAgents, IsTeamRun}, Visits.AreClosers}
use Rattle.shm_headline.specs.TurnsOf.{turns_of}
use Rattle.shm_effects.specs.Lived.{HasLived, NoneDies}
use Rattle.shm_effects.proofs.{Ended.script_lived, Lived.{AllLived, lived_both, none_died}, Interleaved.script_of}

-- ---- the agents

closers_lived : (others : List Agent) (lines : List (List (List ℕ))) → AreClosers false others lines → AllLived others
closers_lived (a ∷ []) (b ∷ []) h = (ap is_dead h.1, tt)
closers_lived [] lines h = absurd h
closers_lived (a ∷ []) [] h = absurd h
closers_lived (a ∷ []) (b ∷ d ∷ lines) h = absurd h
closers_lived (a ∷ c ∷ others) lines h = absurd h

-- the log of a client that ended says how it began
ended_began : (p : Pool) (s : Scripted) (l : Logged) → IsLog p s l → l.end ≡ Ended → (n : ℕ) × BeganWith (account_at p.accounts s.client).memo.agents n fate.Ended
ended_began p s l is e =
    let a : Account = account_at p.accounts s.client in
    let end : HasEnd (member p.start.geometry s.client) s (slice_index (lives_of s.life) 0) a.memo.agents a.begun is.behind is.finished l.entries Ended = subst (λ (x : End). HasEnd (member p.start.geometry s.client) s (slice_index (lives_of s.life) 0) a.memo.agents a.begun is.behind is.finished l.entries x) e is.end in
    end.2

module _ (t : Traced) (p : Pool) (ls : List Logged) (r : IsTeamRun t p ls) where
  lived : (s : Scripted) → script_in t.scripts s.client ≡ Some s → s.client < t.clients → (n : ℕ) → BeganWith (account_at p.accounts s.client).memo.agents n fate.Ended → AllLived (account_at p.accounts s.client).memo.agents
  lived s script l n began = go (script_in t.scripts s.client) script (r.agents s.client l)
    where
      go : (o : Option Scripted) → o ≡ Some s → HasAgents o (account_at p.accounts s.client) → AllLived (account_at p.accounts s.client).memo.agents
      go None f h = absurd (cc)
      go (Some z) f h =
          let own = script_lived z.lines (lives_of z.life) h.first h.before h.dead h.own n (account_at p.accounts s.client).memo.agents h.others h.agents began in
          subst AllLived (sym h.agents) (lived_both h.first h.others own.0 (closers_lived h.others h.lines (subst (λ (b : Bool). AreClosers b h.others h.lines) own.1 h.closers)))

  pub team_lived : (s : Scripted) (l : Logged) → script_in t.scripts s.client ≡ Some s → s.client < t.clients → IsLog p s l → HasLived (turns_of p.turns) l
  team_lived s l script few is e =
      let (n, began) = ended_began p s l is e in
      subst (λ (c : ℕ). NoneDies c (turns_of p.turns)) (sym is.client)
      (none_died s.client p.start.geometry (first_state p.start) p.turns (state p.words p.accounts) r.closed.run.leads (lived s script few n began)).1

-- ---- all logs

team_all : (t : Traced) → IsTrace t → (p : Pool) (ls : List Logged) → IsTeamRun t p ls → (ss : List Scripted) (logs : List Logged) → ((k : ℕ) (s : Scripted) → slice_get ss k ≡ Some s → script_in t.scripts s.client ≡ Some s) → AreLogs p ss logs → AllByRecursion (HasLived (turns_of p.turns)) logs
team_all t trace p ls r [] logs at h = subst (AllByRecursion (HasLived (turns_of p.turns))) (sym h) tt
team_all t trace p ls r (s ∷ ss) [] at h = absurd h
team_all t trace p ls r (s ∷ ss) (l ∷ logs) at h =
    let script = at 0 s refl in
    (team_lived t p ls r s l script (script_of (ScriptFits t.clients) t.scripts s.client s trace.scripts script).client h.0, team_all t trace p ls r ss logs (λ k z e. at (suc k) z e) h.1)

pub team_ended : (t : Traced) → IsTrace t → (p : Pool) (ls : List Logged) → IsTeamRun t p ls → AllByRecursion (HasLived (turns_of p.turns)) ls
team_ended t trace p ls r = team_all t trace p ls r t.scripts ls (λ k s e. script_at t.scripts k s trace.apart e) r.logs
