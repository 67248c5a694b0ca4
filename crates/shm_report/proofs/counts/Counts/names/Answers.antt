use Rattle.std.proofs.Common.{◌+◌, ◌-◌, get_or, arith}
use Rattle.shm_report.proofs.Counting.{somes_most}
use Rattle.shm_report.proofs.counts.Counts.names.Goals as goal

pub name-requires : goal.name-requires
name-requires c =
    let m = somes_most (λ i. get_or c.args.words.now (c.args.from + i) 0) (c.loop-at.at - c.args.from) in
    let r = c.requires.room in
    let e = c.loop-at.invariant.refs in
    let l = c.loop-at-test.true in
    let s = c.loop-at.invariant.start in
    let t = c.loop-at.auto.at-end in
    omega arith
