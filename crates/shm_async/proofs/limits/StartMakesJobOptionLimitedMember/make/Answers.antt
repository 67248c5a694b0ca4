use Rattle.std.proofs.Common.{ℕ, ◌*◌, sym, subst}
use Rattle.shm_team.specs.Jobs.{IsJob}
use Rattle.shm_async.specs.LimitedMembers.{IsLimitedMember}
use Rattle.shm_async.proofs.limits.StartMakesJobOptionLimitedMember.make.Goals as goal

pub of-requires-clause-turns : goal.of-requires-clause-turns
of-requires-clause-turns g c = let (k, h) = c.requires in h.turns

pub of-requires-clause-job : goal.of-requires-clause-job
of-requires-clause-job g c = let (k, h) = c.requires in subst (λ (n : ℕ). IsJob c.args.self.now.trace.now c.args.self.now.pool.now n c.args.job) (sym h.who) h.job

pub returns : goal.returns
returns g c = λ k h.
    let m = c.args.self.now in
    subst (λ (n : ℕ). IsLimitedMember m.trace.now m.pool.now n (m.q * m.limit) m.limit c.of.result) h.who (c.of.ensures m.limit h.polls h.room)
