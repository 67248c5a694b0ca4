use Rattle.std.proofs.Common.{ap, ◌∙◌}
use Rattle.shm_graph.specs.declared.run.Start.{Start}
use Rattle.shm_team.specs.Dones.{AreDones}
use Rattle.shm_team.proofs.{Gathering.{dones_back, dones_of, job_there}, Settled.settled_run}
use Rattle.shm_team.proofs.team.run_team_of.Goals as goal

pub work_all-requires : goal.work_all-requires
work_all-requires g c =
    (c.type_bounds.send-A, (c.type_bounds.sync-R, (c.type_bounds.sync-G, λ i j l. job_there c.args.trace.now c.in_ok-pool.pool 0 i c.in_ok-pool.jobs.items j c.in_ok-pool.ensures.jobs l)))

pub settle-requires-clause-clients : goal.settle-requires-clause-clients
settle-requires-clause-clients g c = ap (λ (s : Start). s.geometry.clients) c.in_ok-pool.ensures.start

pub settle-requires-clause-many : goal.settle-requires-clause-many
settle-requires-clause-many g c = c.in_ok-dones.ensures.many ∙ c.in_ok-pool.ensures.many

pub settle-requires-clause-back : goal.settle-requires-clause-back
settle-requires-clause-back g c =
    let t = c.args.trace.now in
    let p = c.in_ok-pool.pool in
    dones_back t p 0 c.in_ok-dones.dones.items (dones_of t p c.in_ok-pool.jobs.items c.in_ok-dones.dones.items c.in_ok-pool.ensures.jobs c.in_ok-dones.ensures)

pub returns : goal.returns
returns g c =
    let t = c.args.trace.now in
    let p = c.in_ok-pool.pool in
    let ds = c.in_ok-dones.dones.items in
    let dones : AreDones t p 0 ds = dones_of t p c.in_ok-pool.jobs.items ds c.in_ok-pool.ensures.jobs c.in_ok-dones.ensures in
    settled_run t c.in_grammar.ensures p c.in_ok-pool.ensures.start ds (c.in_ok-dones.ensures.many ∙ c.in_ok-pool.ensures.many) dones c.settle.result c.settle.ensures
