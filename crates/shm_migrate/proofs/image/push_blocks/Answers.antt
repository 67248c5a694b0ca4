use Rattle.std.proofs.Common.{◌≡◌, ◌+◌, ◌-◌, ◌%◌, sym, ap, subst, ◌∙◌, arith}
use Rattle.shm_audit.specs.Images.{numbers}
use Rattle.shm_audit.proofs.Blocks.{block_in_page, class_in_page, next_block}
use Rattle.shm_migrate.specs.Writing.{IsWritten, WritesOn}
use Rattle.shm_migrate.proofs.Writing.{class_above}
use Rattle.shm_migrate.proofs.image.push_blocks.Goals as goal

pub loop-block-init : goal.loop-block-init
loop-block-init c = record { start = omega arith; end = omega arith; block = search arith; written = λ start w. w }

pub push_block-requires-clause-is : goal.push_block-requires-clause-is
push_block-requires-clause-is c =
    (block_in_page c.args.geometry (numbers c.args.words.now) c.args.first c.loop-block.block c.args.class c.requires.start c.requires.end c.requires.page c.requires.class c.loop-block.invariant.start c.loop-block-test.true c.requires.is_class c.loop-block.invariant.block).is

pub push_block-requires-clause-class : goal.push_block-requires-clause-class
push_block-requires-clause-class c =
    class_in_page c.args.geometry (numbers c.args.words.now) c.args.first c.loop-block.block c.args.class c.requires.start c.requires.end c.requires.page c.requires.class c.loop-block.invariant.start c.loop-block-test.true

pub loop-block-smaller : goal.loop-block-smaller
loop-block-smaller c = let e = c.from-block.ensures in let a = class_above c.args.class c.requires.is_class in let l = c.loop-block-test.true in omega arith

pub loop-block-preserved : goal.loop-block-preserved
loop-block-preserved c =
    let g = c.args.geometry in
    let b = c.loop-block.block in
    let k = c.args.class in
    let l = c.loop-block-test.true in
    let low = c.loop-block.invariant.start in
    let x : b + k ≡ b + c.from-block.result = ap (λ n. b + n) (sym c.from-block.ensures) in
    let n = next_block (b - c.args.first) k c.requires.is_class c.loop-block.invariant.block (omega arith) in
    let y : b - c.args.first + k ≡ b + c.from-block.result - c.args.first = omega arith in
    record {
      start = omega arith;
      end = omega arith;
      block = ap (λ m. m % k) (sym y) ∙ n.0;
      written = λ start w. subst (λ m. IsWritten g (numbers c.args.words.now) start c.push_block.new.image.items (m + g.clients)) x (c.in_ok-push_block.ensures start (c.loop-block.invariant.written start w));
    }

pub returns : goal.returns
returns c =
    let g = c.args.geometry in
    let e : c.loop-block.block ≡ c.args.first + 128 = omega (arith, c.loop-block-test.false, c.loop-block.invariant.end) in
    subst (λ n. WritesOn g (numbers c.args.words.now) c.args.image.now.items c.loop-block.image.items (c.args.first + g.clients) (n + g.clients)) e c.loop-block.invariant.written
