use Rattle.std.proofs.Common.{◌≡◌}
use Rattle.shm_script.specs.{Logged.Logged, Values.Scripted}
use Rattle.shm_morgue.specs.Dead.{AreDead}
use Rattle.shm_morgue.proofs.rescue.recover_by.Given as goal

abbrev pub invariant-loop-agent : goal.invariant-loop-agent
invariant-loop-agent g l = record {
  of : l.last.of ≡ l.pool;
  dead : (s : Scripted) (e : Logged) → s.life ≡ l.life → AreDead l.pool s 1 e l.fn.corpse → AreDead l.pool s l.agent e l.last;
}
