use Rattle.std.proofs.Common.{◌≡◌, subst}
use Rattle.shm_table.proofs.recv.take_as.Goals as goal

pub returns-clause-machine : goal.returns-clause-machine
returns-clause-machine g c m e = subst (λ x. c.take.new.self ≡ g.M.Machine.control.after x c.args.seen) e c.take.ensures.machine
