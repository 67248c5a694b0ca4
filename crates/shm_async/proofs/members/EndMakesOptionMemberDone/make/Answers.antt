use Rattle.std.proofs.Common.{subst}
use Rattle.shm_async.specs.Members.{MemberHere}
use Rattle.shm_async.proofs.members.EndMakesOptionMemberDone.make.Goals as goal

pub unreachable-requires : goal.unreachable-requires
unreachable-requires g c = let m = c.args.self.now in let (k, h) = c.requires in subst (MemberHere m.trace.now m.pool.now k) c.in-None.is h

pub done-requires : goal.done-requires
done-requires g c = let m = c.args.self.now in let (k, h) = c.requires in (m.trace.now, m.pool.now, k, subst (MemberHere m.trace.now m.pool.now k) c.in-Some.is h)

pub returns : goal.returns
returns g c = λ k h. let m = c.args.self.now in c.done.ensures m.trace.now m.pool.now k (subst (MemberHere m.trace.now m.pool.now k) c.in-Some.is h)
