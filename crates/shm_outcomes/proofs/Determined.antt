-- runs of one trace with the same turns
use Rattle.std.proofs.Common.{◌≡◌, List, sym, ◌∙◌, subst}
use Rattle.shm_agents.specs.Logs.{AreLogs}
use Rattle.shm_graph.specs.declared.run.Start.{Start}
use Rattle.shm_plain.specs.Pools.{IsRun, Pool}
use Rattle.shm_replay.proofs.{SameLogs.logs_same, SameRuns.run_same}
use Rattle.shm_script.specs.{Logged.Logged, Values.Scripted}

pub runs_same : (s : Start) (ss : List Scripted) (p q : Pool) (ls ms : List Logged) → p.start ≡ s → q.start ≡ s → IsRun p → IsRun q → AreLogs p ss ls → AreLogs q ss ms → p.turns ≡ q.turns → (p ≡ q) × (ls ≡ ms)
runs_same s ss p q ls ms start begun run now logs log turns =
    let same : p ≡ q = run_same p q run now (start ∙ sym begun) turns in
    (same, logs_same q ss ls ms (subst (λ (x : Pool). AreLogs x ss ls) same logs) log)
