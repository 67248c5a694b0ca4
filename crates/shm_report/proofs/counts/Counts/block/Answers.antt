use Rattle.std.proofs.Common.{◌≡◌, ◌+◌, ◌-◌, get_or, cond, eqb, ap, ◌∙◌, arith}
use Rattle.shm_words.specs.Headers.{header_of}
use Rattle.shm_words.proofs.Placing.{total_most_wide}
use Rattle.shm_graph.specs.References.{one_if, sum_below}
use Rattle.shm_graph.proofs.Spots.Spotting.{block_within}
use Rattle.shm_report.proofs.Counting.{counted_block, one_most}
use Rattle.shm_report.proofs.counts.Counts.block.Goals as goal

pub overflow_add-self : goal.overflow_add-self
overflow_add-self c =
    let w = (block_within _ _ _ c.requires.is).1 in
    let m = total_most_wide c.args.geometry c.requires.fits in
    let r = c.requires.counted.room.0 in
    let e : c.from.result ≡ one_if c.unpack.result.live = c.from.ensures in
    let o = one_most c.unpack.result.live in
    omega arith

pub overflow_add-first : goal.overflow_add-first
overflow_add-first c =
    let w = (block_within _ _ _ c.requires.is).1 in
    let m = total_most_wide c.args.geometry c.requires.fits in
    omega arith

pub overflow_add-first-2 : goal.overflow_add-first-2
overflow_add-first-2 c =
    let w = (block_within _ _ _ c.requires.is).1 in
    let m = total_most_wide c.args.geometry c.requires.fits in
    omega arith

pub names-requires-clause-room : goal.names-requires-clause-room
names-requires-clause-room c =
    let w = (block_within _ _ _ c.requires.is).1 in
    let m = total_most_wide c.args.geometry c.requires.fits in
    let r = c.requires.counted.room.1 in
    omega arith

pub returns : goal.returns
returns c = λ n end.
    let ws = c.args.words.now in
    let b = c.args.block in
    let r = c.from-refs.result in
    let live = c.from.ensures ∙ ap (λ h. one_if h.live) (c.unpack.ensures.is ∙ ap header_of c.word.ensures) in
    let many : b + 2 + r - (b + 2) ≡ r = omega arith in
    let refs = c.names.ensures.refs ∙ ap (λ m. c.args.self.now.refs + sum_below m (λ i. cond (eqb (get_or ws (b + 2 + i) 0) 0) 0 1)) many in
    counted_block c.args.geometry ws b n c.requires.fits c.requires.is end r _ _ _ _ c.requires.counted (λ pool. c.from-refs.ensures ∙ c.block_refs.ensures pool) (omega arith)
    (c.names.ensures.live ∙ ap (λ m. c.args.self.now.live + m) live) refs
