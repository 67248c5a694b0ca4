use Rattle.std.proofs.Common.{◌≡◌, ◌<◌, rules}
use Rattle.shm_plain.specs.Pools.{memo_of}
use Rattle.shm_count.specs.Roots.{root_word}
use Rattle.shm_count.proofs.RootSpots.{roots_reached}
use Rattle.t_calls.proofs.seeing.may_name.Goals as goal

pub returns-then-names-from : goal.returns-then-names-from
returns-then-names-from c = λ t.
    let low : c.loop-root.root < 16 = search rules in
    let holds : root_word c.args.client.who (memo_of c.args.pool.now c.args.client.who) c.loop-root.root ≡ c.args.block = search rules in
    roots_reached c.args.client.who (memo_of c.args.pool.now c.args.client.who) c.requires.known.work.idle.op c.loop-root.root c.args.block low c.if-block-eq0.false holds
