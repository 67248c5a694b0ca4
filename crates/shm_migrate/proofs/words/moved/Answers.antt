use Rattle.std.proofs.Common.{◌+◌, sym, ap, ◌∙◌, arith}
use Rattle.shm_words.proofs.Placing.{total_small}
use Rattle.shm_graph.proofs.States.Reading.{live_below}
use Rattle.shm_audit.specs.Images.{numbers}
use Rattle.shm_migrate.proofs.Formats.{moved_further}
use Rattle.shm_migrate.proofs.words.moved.Goals as goal

pub overflow_add-result : goal.overflow_add-result
overflow_add-result c =
    let l = (live_below c.args.geometry (numbers c.args.words.now) c.args.block (c.requires.live c.if-block-eq0.false)).1 in
    let m = total_small c.args.geometry c.requires.fits in
    let n = c.requires.fits.clients in
    let e = c.from.ensures in
    let d = c.clients.ensures in
    omega arith

pub returns-else-block-eq0 : goal.returns-else-block-eq0
returns-else-block-eq0 c =
    let m = moved_further c.args.geometry (numbers c.args.words.now) c.requires.fits c.requires.narrow c.args.block (c.requires.live c.if-block-eq0.false) in
    ap (λ n. c.args.block + n) (c.from.ensures ∙ c.clients.ensures) ∙ sym m
