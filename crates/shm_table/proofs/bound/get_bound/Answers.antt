use Rattle.std.proofs.Common.{arith}
use Rattle.shm_script.specs.declared.log.Answer.TheVariants as answer
use Rattle.shm_table.specs.Proved.Get.Bound.{found_within, missing_within}
use Rattle.shm_table.proofs.bound.get_bound.Goals as goal

pub returns-clause-missing : goal.returns-clause-missing
returns-clause-missing c me a key r0 r tr es h = missing_within me a key r0 r tr es h

pub returns-clause-found : goal.returns-clause-found
returns-clause-found c me a key r0 r tr es n v h = let f = found_within me a key n v r0 r tr es h in let b = f.2 in (f.0, f.1, omega arith)

pub returns-clause-within : goal.returns-clause-within
returns-clause-within c me a key r0 r tr es answer.Missing h = let f = missing_within me a key r0 r tr es h in let b = f.2 in (f.0, f.1, omega arith)
returns-clause-within c me a key r0 r tr es (answer.Value n v) h = let f = found_within me a key n v r0 r tr es h in let b = f.2 in (f.0, f.1, omega arith)
returns-clause-within c me a key r0 r tr es b h = absurd h
