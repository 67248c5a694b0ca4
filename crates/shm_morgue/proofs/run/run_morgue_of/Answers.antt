use Rattle.std.proofs.Common.{ap}
use Rattle.shm_graph.specs.declared.run.Start.{Start}
use Rattle.shm_team.proofs.{Gathering.dones_back, Settled.settled_run}
use Rattle.shm_morgue.proofs.run.run_morgue_of.Goals as goal

pub settle-requires-clause-clients : goal.settle-requires-clause-clients
settle-requires-clause-clients g c = ap (λ (s : Start). s.geometry.clients) c.in_ok-pool.ensures.start

pub settle-requires-clause-back : goal.settle-requires-clause-back
settle-requires-clause-back g c = dones_back c.args.trace.now c.in_ok-pool.pool 0 c.in_ok-dones.dones.items c.in_ok-dones.ensures.dones

pub returns : goal.returns
returns g c =
    settled_run c.args.trace.now c.in_grammar.ensures c.in_ok-pool.pool c.in_ok-pool.ensures.start c.in_ok-dones.dones.items c.in_ok-dones.ensures.many c.in_ok-dones.ensures.dones c.settle.result c.settle.ensures
