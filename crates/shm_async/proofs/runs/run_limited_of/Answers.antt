use Rattle.std.proofs.{Common.{◌*◌, ap}, lemmas.Result.IfOk-weaker}
use Rattle.shm_graph.specs.declared.run.Start.{Start}
use Rattle.shm_async.proofs.LimitedRun.{limited_back, limited_run}
use Rattle.shm_async.proofs.runs.run_limited_of.Goals as goal

pub settle-requires-clause-clients : goal.settle-requires-clause-clients
settle-requires-clause-clients g c = ap (λ (s : Start). s.geometry.clients) c.in_ok-pool.ensures.start

pub settle-requires-clause-back : goal.settle-requires-clause-back
settle-requires-clause-back g c = limited_back c.args.trace.now c.in_grammar.ensures c.in_ok-pool.pool c.in_ok-pool.ensures.start (c.args.q * c.args.limit) c.in_ok-dones.dones.items c.in_ok-dones.ensures.many c.in_ok-dones.ensures.dones

pub returns : goal.returns
returns g c =
    IfOk-weaker c.settle.result _ _
    (λ r. limited_run c.args.trace.now c.in_grammar.ensures c.in_ok-pool.pool c.in_ok-pool.ensures.start (c.args.q * c.args.limit) c.in_ok-dones.dones.items c.in_ok-dones.ensures.many c.in_ok-dones.ensures.dones r.closed r.logs.items)
    c.settle.ensures
