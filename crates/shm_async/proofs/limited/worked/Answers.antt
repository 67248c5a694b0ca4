use Rattle.std.proofs.Common.{ℕ, ◌+◌, ◌^◌, ◌<◌, sym, subst, arith}
use Rattle.shm_async.specs.LimitedMembers.{IsLimitedDone}
use Rattle.shm_async.proofs.Due.{due_done, due_pending}
use Rattle.shm_async.proofs.limited.worked.Goals as goal

-- polls are left, where b is the life of a recoverer
less_done : (left b : ℕ) → 0 < left + b + 1
less_done left b = omega arith

pub after_poll-requires-clause-some : goal.after_poll-requires-clause-some
after_poll-requires-clause-some g c = let (t, k, n, h) = c.requires.due in h.some

pub after_poll-requires-clause-pending : goal.after_poll-requires-clause-pending
after_poll-requires-clause-pending g c =
    let (t, k, n, h) = c.requires.due in
    (t, k, n, due_pending t c.args.pool.now k n c.args.left c.args.future c.advance.new.self h c.in-None.ensures)

pub returns-in-Some-clause-member : goal.returns-in-Some-clause-member
returns-in-Some-clause-member g c = λ t k n h. subst (IsLimitedDone t c.args.pool.now k n) (sym c.done_of.ensures) (due_done t c.args.pool.now k n c.args.left c.args.future c.advance.new.self h c.in-Some.finish c.in-Some.ensures)

pub returns-in-Some-clause-fewer : goal.returns-in-Some-clause-fewer
returns-in-Some-clause-fewer g c = less_done c.args.left (2 ^ 40)

pub returns-clause-member : goal.returns-clause-member
returns-clause-member g c = λ t k n h. c.after_poll.ensures.member t k n (due_pending t c.args.pool.now k n c.args.left c.args.future c.advance.new.self h c.in-None.ensures)
