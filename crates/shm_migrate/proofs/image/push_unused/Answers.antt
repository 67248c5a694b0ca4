use Rattle.std.proofs.Common.{◌+◌, sym, subst, arith}
use Rattle.shm_migrate.specs.Writing.{IsWritten}
use Rattle.shm_migrate.proofs.Writing.{writes_more}
use Rattle.shm_migrate.proofs.image.push_unused.Goals as goal

pub loop-init : goal.loop-init
loop-init c = λ g ws from h start w. subst (IsWritten g ws start c.args.image.now.items) (omega arith) w

pub loop-preserved : goal.loop-preserved
loop-preserved c = λ g ws from h.
    writes_more g ws c.args.image.now.items c.loop.image.items c.push_word.new.image.items from (from + c.loop.counter) (from + (c.loop.counter + 1)) 0 (c.loop.invariant g ws from h) (omega arith) (sym (h c.loop.counter (omega arith))) (omega arith) c.in_ok-push_word.ensures

pub returns : goal.returns
returns c = λ g ws from h start w.
    subst (λ n. IsWritten g ws start c.loop.image.items (from + n)) (omega arith) (c.loop.invariant g ws from h start w)
