use Rattle.std.proofs.Common.{arith, ◌≡◌, ◌+◌, ◌*◌}
use Rattle.shm_words.proofs.Placing.{total_most_wide}
use Rattle.shm_alloc.specs.{Alloc.Control.block_of, Proved.BlockPlaces.block_of_within}
use Rattle.shm_alloc.proofs.point.AllocState.block.Goals as goal

pub overflow_add-result : goal.overflow_add-result
overflow_add-result c =
    let me = c.args.self.me in
    let b = block_of_within me c.args.self.request c.args.search c.args.page c.args.index c.requires.segment c.requires.page c.requires.index in
    let t = total_most_wide me.geometry c.requires.geometry in
    let e : c.body.result + c.from.result * c.from-2.result ≡ block_of me c.args.self.request c.args.search c.args.page c.args.index = grind arith in
    omega arith
