use Rattle.std.proofs.Common.{◌≡◌, ◌^◌, drop}
use Rattle.shm_script.specs.Faults.{life_fit}
use Rattle.shm_script.proofs.ManyWords.{with_front}
use Rattle.shm_script.proofs.judge.fit_life.Given as goal

abbrev pub invariant-loop-number : goal.invariant-loop-number
invariant-loop-number l = with_front l.fit.items (life_fit l.left (drop l.number-index l.numbers)) ≡ life_fit (2 ^ 40) l.numbers
