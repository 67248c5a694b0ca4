use Rattle.std.proofs.Common.{arith, ◌≡◌, true, length, sym, ap, ◌∙◌, subst}
use Rattle.shm_words.specs.declared.geometry.Geometry.{Geometry}
use Rattle.shm_graph.specs.Runs.{account_at}
use Rattle.shm_plain.specs.Pools.{Pool, first_pool, memo_of}
use Rattle.shm_replay.specs.{Closings.{AreVisits, HasTold, SameTable}, Gathered.logs_by, Orders.IsGivenAll}
use Rattle.shm_replay.specs.Replays.{IsReplay, start_of}
use Rattle.shm_replay.proofs.{Giving.take_front, Telling.visits_start, WholeRun.is_replay}
use Rattle.shm_replay.proofs.replaying.replay_of.Goals as goal

pub returns : goal.returns
returns g c =
    let t = c.args.trace.now in
    let p = c.close.result in
    let (q, given, seated, visits, run, tables, told) = c.play.ensures.played in
    let first : c.in_ok-pool.pool ≡ first_pool (start_of t) = c.in_ok-pool.ensures.first ∙ ap (λ (g : Geometry). first_pool (record { geometry = g; first_era = 1; tables = true })) c.geometry_of-geometry.ensures.geometry in
    let here : p ≡ c.play.new.pool = c.close.ensures.is in
    let visited : AreVisits 0 t.clients q p = subst (AreVisits 0 t.clients q) (sym here) visits in
    let same : p.start ≡ q.start = visits_start 0 t.clients q p visited in
    let begun : p.start ≡ start_of t = ap (λ (x : Pool). x.start) here ∙ (c.play.ensures.start ∙ ap (λ (x : Pool). x.start) first) in
    let xs = c.play.new.agents in
    let many : c.in_ok-agents.agents.len ≡ length xs =
    (let a = seated.many in
    let b = c.in_ok-agents.ensures.many in
    let d = ap length c.deref_mut.ensures.value in
    let e = c.deref_mut.ensures.len in omega arith) in
    let taken : c.deref_mut-2.result.now ≡ xs = c.deref_mut-2.ensures.value ∙ take_front xs _ c.in_ok-agents.agents.len many in
    let logs : c.take_logs.new.logs.items ≡ logs_by t.scripts xs = c.take_logs.ensures ∙ ap (logs_by t.scripts) taken in
    subst (IsReplay t p) (sym logs)
    (is_replay t c.in_grammar.ensures q p xs (sym same ∙ begun) same (subst (λ (x : Pool). IsGivenAll t x q) first given) run seated visited c.close.ensures.end
    (λ k l. subst (λ (x : Pool). SameTable (memo_of q k) (memo_of x k)) (sym here) (tables k l))
    (λ k l dead. subst (λ (x : Pool). HasTold (account_at q.accounts k) (account_at x.accounts k)) (sym here) (told k l dead)))
