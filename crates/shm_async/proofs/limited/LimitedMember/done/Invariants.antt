use Rattle.std.proofs.Common.{ℕ}
use Rattle.shm_script.specs.Values.{Traced}
use Rattle.shm_async.specs.LimitedMembers.{IsLimitedMember, polls_left}
use Rattle.shm_async.proofs.limited.LimitedMember.done.Given as goal

abbrev pub invariant-polls : goal.invariant-polls
invariant-polls g l = record {
  some : (t : Traced) × (c : ℕ) × (turns : ℕ) × IsLimitedMember t l.pool c turns l.left l.member;
  same : (t : Traced) (c turns : ℕ) → IsLimitedMember t l.pool c turns l.fn.left l.fn.self → IsLimitedMember t l.pool c turns l.left l.member;
}

abbrev pub decreases-polls : goal.decreases-polls
decreases-polls g l = polls_left l.left l.member
