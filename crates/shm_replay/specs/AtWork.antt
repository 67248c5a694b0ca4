-- whether the agents of an identity have anything to do
use Rattle.std.specs.Prelude.{Bool, false, Option, Some, None}
use Rattle.shm_agents.specs.Agents.{Playing, is_at_work}

-- one of them acts or comes next; none does where the identity has no script
abbrev pub has_work : Option Playing → Bool
has_work None = false
has_work (Some x) = is_at_work x.standing
