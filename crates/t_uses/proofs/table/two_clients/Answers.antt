use Rattle.std.proofs.Common.{◌≡◌, ◌<◌, true, refl, ap, rules, arith, length, Ok, Some}
use Rattle.shm_graph.specs.{declared.run.Start.Start, Agents.acts, Runs.first_memo}
use Rattle.shm_plain.specs.{Pools.memo_of, Tracks.kind_next}
use Rattle.shm_client.proofs.{Passing.ready_new, QueueReady.{one_not_zero, zero_not_one}, Opens.{open_join, open_other}}
use Rattle.shm_client.specs.Running.{IsOpen}
use Rattle.t_uses.proofs.table.two_clients.Goals as goal

pub returns-then-join-clause-first : goal.returns-then-join-clause-first
returns-then-join-clause-first c =
    let p = c.in_ok-pool.pool in
    let e : c.joined.result ≡ Ok (Some p) = search rules in
    let tables : p.start.tables ≡ true = ap (λ (s : Start). s.tables) (rw e at c.joined.ensures.start) in
    let first : IsOpen 0 p = open_join p.start c.args.geometry 0 p _ (memo_of p 0).call tables refl (rw e at c.joined.ensures.gives) (rw e at c.joined.ensures.at_work) (rw e at c.joined.ensures.client) in
    open_other 0 1 _ _ _ _ _ _ first zero_not_one c.join.ensures.ran

pub returns-then-join-clause-second : goal.returns-then-join-clause-second
returns-then-join-clause-second c =
    let p = c.in_ok-pool.pool in
    let q = c.join.new.pool in
    let e : c.joined.result ≡ Ok (Some p) = search rules in
    let start = rw e at c.joined.ensures.start in
    let tables : p.start.tables ≡ true = ap (λ (s : Start). s.tables) start in
    let here : p.start.geometry ≡ c.args.geometry = ap (λ (s : Start). s.geometry) start in
    let two = c.requires.two in
    let n : 1 < c.args.geometry.clients = omega arith in
    let low : 1 < length p.accounts = rw (rw e at c.joined.ensures.run).held.accounts (rw here n) in
    let new : memo_of p 1 ≡ first_memo p.start 1 = (rw e at c.joined.ensures.others) 1 n one_not_zero in
    let joins : c.join.result ≡ true = c.if-join.true in
    open_join p.start p.start.geometry 1 q _ (memo_of q 1).call tables (ready_new p.start 1 p low new) (c.join.ensures.gives joins) (c.join.ensures.at_work joins) (c.join.ensures.client joins (ap acts new) (ap kind_next new))
