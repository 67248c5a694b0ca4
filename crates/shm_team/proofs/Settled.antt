-- a pool that is settled where all is done of its identities is a run of the trace
use Rattle.std.proofs.Common.{◌≡◌, ℕ, ◌+◌, ◌<◌, List, [], ◌∷◌, length, refl, sym, ◌∙◌, subst, arith}
use Rattle.std.proofs.lemmas.Result.{IfOk-weaker}
use Rattle.std.specs.Prelude.{IfOk, Result, Option, Some, None, slice_get, slice_index_or}
use Rattle.shm_graph.specs.{declared.run.Move.Move, Runs.account_at}
use Rattle.shm_plain.specs.Pools.{Pool, pool}
use Rattle.shm_agents.specs.Turns.{script_in}
use Rattle.shm_pool.specs.Tokens.{End, Its}
use Rattle.shm_replay.specs.Replays.{start_of}
use Rattle.shm_replay.proofs.WholeRun.{all_at}
use Rattle.shm_script.specs.{Logged.Logged, Ranges.{AreApart, IsTrace, ScriptFits}, Values.{Scripted, Traced}}
use Rattle.shm_team.specs.{declared.{done.Done.Done, team.Ran.Ran}, Dones.{AreDones, IsDoneBy, logs_done, logs_in}}
use Rattle.shm_team.specs.Rans.{HasSettled, IsTeamRun}
use Rattle.shm_team.proofs.{Gathering.{done_at, log_done}, Whole.{WasClosed, closed_pool, is_team_run}}

-- one of them
some_done : (ds : List Done) (c : ℕ) → c < length ds → Done
some_done [] c l = absurd (omega arith)
some_done (d ∷ ds) c l = d

-- the trace t may be another one than t0, which settled the pool, but has the same logs
module _ (t0 t : Traced) (few : (k : ℕ) (s : Scripted) → slice_get t.scripts k ≡ Some s → s.client < t.clients) (apart : AreApart t.scripts) (p : Its) (start : p.start ≡ start_of t)
    (ds : List Done) (many : length ds ≡ t.clients) (dones : AreDones t p 0 ds) (end : End) (ls : List Logged) (settled : HasSettled t0 p ds end ls) (same : logs_in t0.scripts (logs_done ds) ≡ logs_in t.scripts (logs_done ds)) where
  abbrev its : Pool
  its = pool end.start end.words end.accounts settled.run.turns

  -- what was done of each identity, which was visited then
  was_closed : (c : ℕ) → c < t.clients → WasClosed (script_in t.scripts c) p c (slice_index_or (logs_done ds) c None) (account_at end.accounts c)
  was_closed c l =
      let here : c < length ds = omega (arith, many) in
      let d = some_done ds c here in
      let z : 0 + c ≡ c = omega arith in
      let h = done_at t p 0 c ds d dones here in
      let k = (slice_index_or ds c d).left in
      record {
        left = k;
        done = subst (λ (o : Option Logged). IsDoneBy (script_in t.scripts c) p c o k) (sym (log_done ds c d here)) (subst (λ (n : ℕ). IsDoneBy (script_in t.scripts n) p n (slice_index_or ds c d).log k) z h.by);
        visited = settled.visited c d here;
      }

  pub team_run_of : (turns : List Move) × IsTeamRun t (pool end.start end.words end.accounts turns) ls
  team_run_of = (
    settled.run.turns,
    subst (IsTeamRun t its) (sym (settled.logs ∙ same))
        (is_team_run t few apart its p (sym settled.start) (settled.start ∙ start) (closed_pool end.start end.words end.accounts settled.run) (logs_done ds) was_closed),
  )

-- a trace in its ranges
pub team_run : (t : Traced) → IsTrace t → (p : Its) → p.start ≡ start_of t → (ds : List Done) → length ds ≡ t.clients → AreDones t p 0 ds → (end : End) (ls : List Logged) → HasSettled t p ds end ls → (turns : List Move) × IsTeamRun t (pool end.start end.words end.accounts turns) ls
team_run t trace p start ds many dones end ls settled =
    team_run_of t t (λ k s e. (all_at (ScriptFits t.clients) t.scripts k s trace.scripts e).client) trace.apart p start ds many dones end ls settled refl

-- and so is what is handed out of it, if it could be settled
pub settled_run : {E : Type 0} (t : Traced) → IsTrace t → (p : Its) → p.start ≡ start_of t → (ds : List Done) → length ds ≡ t.clients → AreDones t p 0 ds → (r : Result Ran E)
    → IfOk r (λ (x : Ran). HasSettled t p ds x.closed x.logs.items) → IfOk r (λ (x : Ran). (turns : List Move) × IsTeamRun t (pool x.closed.start x.closed.words x.closed.accounts turns) x.logs.items)
settled_run t trace p start ds many dones r = IfOk-weaker r _ _ (λ x. team_run t trace p start ds many dones x.closed x.logs.items)
