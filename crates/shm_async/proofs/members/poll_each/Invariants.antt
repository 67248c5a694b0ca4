use Rattle.std.proofs.Common.{◌≡◌, length}
use Rattle.shm_pool.specs.Tokens.{Its}
use Rattle.shm_script.specs.Values.{Traced}
use Rattle.shm_async.specs.Members.{AreMembers}
use Rattle.shm_async.proofs.members.poll_each.Given as goal

abbrev pub invariant-loop-at : goal.invariant-loop-at
invariant-loop-at g l = record {
  many : length l.members ≡ length l.fn.members;
  here : (t : Traced) (p : Its) → AreMembers t p l.fn.members → AreMembers t p l.members;
}
