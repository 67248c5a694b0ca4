use Rattle.std.proofs.{Common.{◌≡◌, ◌+◌, ◌-◌, ◌%◌, refl, ap, ◌∙◌, arith}, Math.Nat.add-mod_right}
use Rattle.shm_report.proofs.Counting.{page_block, page_end}
use Rattle.shm_report.proofs.counts.Counts.blocks.Goals as goal

pub block-requires-clause-is : goal.block-requires-clause-is
block-requires-clause-is c = page_block c.args.geometry c.args.words.now c.args.first c.args.step c.loop-at.at c.requires.page c.loop-at.invariant.start c.loop-at-test.true c.loop-at.invariant.block

pub block-requires-clause-counted : goal.block-requires-clause-counted
block-requires-clause-counted c = let l = c.loop-at-test.true in c.loop-at.invariant.inside (omega arith)

pub loop-at-preserved : goal.loop-at-preserved
loop-at-preserved c =
    let p = c.requires.page in
    let some = p.some in
    let low = c.loop-at.invariant.start in
    let high = c.loop-at-test.true in
    let next = page_end c.args.geometry c.args.words.now c.args.first c.args.step c.loop-at.at p low high c.loop-at.invariant.block in
    let e : c.loop-at.at + c.args.step - c.args.first ≡ c.loop-at.at - c.args.first + c.args.step = omega arith in
    record {
      start = omega arith;
      end = omega arith;
      block = ap (λ n. n % c.args.step) e ∙ (add-mod_right (c.loop-at.at - c.args.first) c.args.step ∙ c.loop-at.invariant.block);
      inside = λ l. c.block.ensures (c.loop-at.at + c.args.step) (next (c.loop-at.at + c.args.step) (omega arith) (omega arith) l (λ _. refl));
      past = λ l. c.block.ensures (c.args.first + 128) (next (c.args.first + 128) (omega arith) (omega arith) (omega arith) (λ m. omega arith));
    }
