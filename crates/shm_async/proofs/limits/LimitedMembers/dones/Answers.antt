use Rattle.std.proofs.{Common.{ℕ, ◌∙◌}, lemmas.Result.IfOk-weaker}
use Rattle.std.specs.Prelude.{Option, None, ◌≤◌}
use Rattle.shm_async.specs.{declared.limited.LimitedMember.LimitedMember, LimitedMembers.IsLimitedHere}
use Rattle.shm_async.proofs.Listed.{at_first}
use Rattle.shm_async.proofs.limits.LimitedMembers.dones.Goals as goal

pub end_all-requires : goal.end_all-requires
end_all-requires g c =
    let w = c.args.limit.now in
    let x = c.args.self in
    at_first (λ (k : ℕ) (m : Option (LimitedMember _)). (1 ≤ x.q) × IsLimitedHere w.trace.now w.pool.now k w.turns x.left m) x.members.items None (λ k l. (c.requires.quota, c.requires.here k l))

pub returns-clause-many : goal.returns-clause-many
returns-clause-many g c = IfOk-weaker c.end_all.result _ _ (λ v e. e ∙ c.requires.many) c.end_all.ensures.many
