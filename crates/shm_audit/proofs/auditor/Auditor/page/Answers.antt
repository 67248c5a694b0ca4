use Rattle.std.proofs.Common.{◌≡◌, ◌+◌, ◌-◌, ◌%◌, sym, ap, subst, ◌∙◌, arith}
use Rattle.shm_audit.specs.Streams.{Seen}
use Rattle.shm_audit.proofs.{Blocks.{block_in_page, next_block}, Steps.seen_unused}
use Rattle.shm_audit.proofs.auditor.Auditor.page.Goals as goal

pub returns-in_default : goal.returns-in_default
returns-in_default c = λ ws from p s. seen_unused c.args.geometry ws (c.args.first + c.args.from) c.args.word c.args.self.now.fault c.args.self.now.tag c.args.self.now.tally c.requires.fits p (c.in_default.ensures.none) s

pub loop-k-preserved : goal.loop-k-preserved
loop-k-preserved c =
    let g = c.args.geometry in
    let k = c.loop-k.k in
    let class = c.in-Some.class in
    let is = c.in-Some.ensures.class.0 in
    let low = c.loop-k.invariant.start in
    let test = c.loop-k-test.true in
    let n = next_block (k - c.args.from) class is c.loop-k.invariant.block (omega arith) in
    let d : k + class - c.args.from ≡ k - c.args.from + class = omega arith in
    let m = n.1 in
    let r = c.requires.from in
    record {
      start = omega arith;
      end = omega arith;
      block = ap (λ x. x % class) d ∙ n.0;
      seen = λ ws from p s.
          let x : c.args.first + k + class ≡ c.args.first + (k + class) = omega arith in
          let y : (c.args.first + k - (c.args.first + c.args.from)) ≡ k - c.args.from = omega arith in
          let h = block_in_page g ws (c.args.first + c.args.from) (c.args.first + k) class p.start p.end p.page (p.class ∙ sym c.in-Some.ensures.class.1) (omega arith) (omega arith) is (ap (λ z. z % class) y ∙ c.loop-k.invariant.block) in
          subst (λ i. Seen g ws i c.block.new.self) x (c.block.ensures ws from (omega arith) h (c.loop-k.invariant.seen ws from p s));
    }
