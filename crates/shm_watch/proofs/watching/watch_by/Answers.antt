use Rattle.std.proofs.Common.{◌≡◌, ◌∙◌, subst}
use Rattle.shm_plain.specs.Pools.{Pool, first_pool}
use Rattle.shm_replay.specs.{Orders.IsGivenAll, Replays.start_of}
use Rattle.shm_watch.proofs.watching.watch_by.Goals as goal

pub returns-clause-shown : goal.returns-clause-shown
returns-clause-shown g c =
    let t = c.args.trace.now in
    let first : c.new-pool.result ≡ first_pool (start_of t) = c.new-pool.ensures ∙ c.in-Ok.ensures.first in
    (c.play.new.pool, subst (λ (x : Pool). IsGivenAll t x c.play.new.pool) first c.play.ensures, c.watcher.ensures)
