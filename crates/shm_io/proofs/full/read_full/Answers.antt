use Rattle.std.proofs.Common.{◌+◌, ◌-◌, arith, ◌∙◌, refl, drop, length, length-drop, length-take}
use borrow.Rule.Slice.PartMut.{same_len_mid}
use Rattle.shm_io.proofs.ReadSteps.{fill_end, fill_more}
use Rattle.shm_io.proofs.full.read_full.Goals as goal

pub returns-then-n-eq0-clause-front : goal.returns-then-n-eq0-clause-front
returns-then-n-eq0-clause-front g c =
    let l = length-drop c.loop-filled.filled c.loop-filled.into in
    let t = length-take (length c.loop-filled.into - c.loop-filled.filled) (drop c.loop-filled.filled c.loop-filled.into) in
    fill_end _ _ _ c.loop-filled.into _ c.read.new.into _ _ c.loop-filled.filled c.in_ok-n.n _ c.loop-filled.invariant.size c.loop-filled.invariant.read c.in_ok-n.ensures.moved refl c.if-n-eq0.true
    (c.in_ok-n.ensures.end c.if-n-eq0.true (let k = c.loop-filled-test.true in omega arith)) (let s = c.loop-filled.invariant.size in omega arith)

pub loop-filled-preserved : goal.loop-filled-preserved
loop-filled-preserved g c = record {
  size =
      let l = length-drop c.loop-filled.filled c.loop-filled.into in
      let t = length-take (length c.loop-filled.into - c.loop-filled.filled) (drop c.loop-filled.filled c.loop-filled.into) in
      let e = same_len_mid c.loop-filled.filled (length c.loop-filled.into - c.loop-filled.filled) c.loop-filled.into c.read.new.into c.read.auto.into in
      let n = c.in_ok-n.ensures.count in
      omega arith;
  read = fill_more _ _ _ c.loop-filled.into _ c.read.new.into _ _ c.loop-filled.filled c.in_ok-n.n c.loop-filled.invariant.size c.loop-filled.invariant.read c.in_ok-n.ensures.moved refl;
  faults = c.in_ok-n.ensures.no_fault ∙ c.loop-filled.invariant.faults;
}
