use Rattle.std.proofs.Common.{ap, []}
use Rattle.crossbeam_queue.specs.Passes.{view}
use Rattle.shm_morgue.specs.{declared.rule.Hands.Hands, Hands.first_list}
use Rattle.shm_morgue.proofs.Moves.{takes_one, knows}
use Rattle.shm_morgue.proofs.morgue.Medic.take.Goals as goal

pub pop_as-requires-clause-rule : goal.pop_as-requires-clause-rule
pop_as-requires-clause-rule g c =
    let p = c.self.inside.place in
    let is = c.self.invariant.view_is in (
      takes_one g.J.Pools.pools p.id (view p) [] (first_list (view p).medics) [] (view p).clients (view p).doctors is,
      knows g.J.Pools.pools p.id (view p) (ap (λ (v : Hands). v.fresh) is),
    )
