use Rattle.std.proofs.Common.{◌*◌, ℕ, refl, ◌∙◌}
use Rattle.std.specs.Prelude.{Option, None}
use Rattle.shm_async.specs.{declared.limited.LimitedMember.LimitedMember, LimitedMembers.IsLimitedHere}
use Rattle.shm_async.proofs.{Listed.first_at, Starting.limited_starts}
use Rattle.shm_async.proofs.limits.LimitedMembers.of.Goals as goal

pub start_all-requires : goal.start_all-requires
start_all-requires g c = limited_starts c.args.trace.now c.args.pool.now c.args.q c.args.limit 0 c.args.jobs.items c.requires.turns c.requires.polls c.requires.room c.requires.jobs

pub returns : goal.returns
returns g c =
    record {
      pool = refl;
      quota = c.requires.turns;
      many = c.in_ok-members.ensures.many ∙ c.requires.many;
      here = λ k l. first_at (λ (j : ℕ) (m : Option (LimitedMember _)). IsLimitedHere c.args.trace.now c.args.pool.now j (c.args.q * c.args.limit) c.args.limit m) k c.in_ok-members.members.items None c.in_ok-members.ensures.here l;
    }
