use Rattle.std.proofs.Common.{◌≡◌, sym, subst, true}
use Rattle.shm_graph.specs.{Agents.last_agent, Runs.fell_by}
use Rattle.kind_parts.specs.Reparting.{map_in}
use Rattle.shm_plain.specs.Pools.{Pool, memo_of}
use Rattle.shm_client.proofs.Fallen.{dead_fell, dead_map}
use Rattle.shm_client.proofs.recovering.die.Goals as goal

pub returns-clause-fell : goal.returns-clause-fell
returns-clause-fell c =
    let p = c.args.pool.now in
    subst (λ (z : Pool). fell_by (last_agent (memo_of z c.args.who).agents) ≡ true) (sym c.fall.ensures.fallen)
    (dead_fell p c.args.who (rw c.fall.ensures.fallen at c.fall.ensures.run.held.accounts) c.requires.who c.requires.acts)

pub returns-clause-map : goal.returns-clause-map
returns-clause-map c =
    let p = c.args.pool.now in
    subst (λ (z : Pool). map_in (memo_of z c.args.who).part ≡ map_in (memo_of p c.args.who).part) (sym c.fall.ensures.fallen)
    (dead_map p c.args.who (rw c.fall.ensures.fallen at c.fall.ensures.run.held.accounts) c.requires.who c.requires.acts)
