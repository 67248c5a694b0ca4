use Rattle.std.proofs.Common.{◌≡◌, ◌≤◌, ◌-◌}
use Rattle.shm_agents.specs.declared.agents.Standing.TheVariants.{AtWork}
use Rattle.shm_async.proofs.Giving.{AreGiven, at}
use Rattle.shm_async.proofs.identity.give.Given as goal

abbrev pub invariant-loop-given : goal.invariant-loop-given
invariant-loop-given g l =
    AreGiven l.script (at l.initial.site-inside.agents l.initial.site-inside.post) (at l.site-inside.agents l.site-inside.post) l.given
    × (l.given ≤ l.q)
    × (l.given ≡ 0 → l.site-inside.agents.standing ≡ AtWork)

abbrev pub decreases-loop-given : goal.decreases-loop-given
decreases-loop-given g l = l.q - l.given
