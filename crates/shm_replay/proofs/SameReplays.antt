-- a replay is determined
use Rattle.std.proofs.Common.{◌≡◌, List, sym, subst}
use Rattle.shm_plain.specs.Pools.{Pool, first_pool}
use Rattle.shm_script.specs.{Logged.Logged, Values.Traced}
use Rattle.shm_agents.specs.Logs.{AreLogs}
use Rattle.shm_replay.specs.{Closings.AreVisits, Replays.{IsReplay, start_of}}
use Rattle.shm_replay.proofs.{SameLogs.logs_same, SameRuns.visits_same, SameTurns.same_turns}

pub replay_same : (t : Traced) (p q : Pool) (ls ms : List Logged) → IsReplay t p ls → IsReplay t q ms → (p ≡ q) × (ls ≡ ms)
replay_same t p q ls ms a b =
    let played : b.played ≡ a.played = same_turns t (first_pool (start_of t)) b.played a.played b.given a.given in
    let closed : q ≡ p = visits_same 0 t.clients a.played q p (subst (λ (x : Pool). AreVisits 0 t.clients x q) played b.visits) a.visits in
    (sym closed, logs_same p t.scripts ls ms a.logs (subst (λ (x : Pool). AreLogs x t.scripts ms) closed b.logs))
