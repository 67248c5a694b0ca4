use Rattle.shm_script.specs.declared.line.Line.TheVariants as line
use Rattle.std.proofs.Common.{Ok, Err}
use Rattle.lojarnek.specs.Standing.{KeepsMap}
use Rattle.lojarnek.proofs.Says.{run_refused, run_stays, send_refused, send_same, send_sent, send_took, send_was}
use Rattle.lojarnek.proofs.Tested.{tested_err, tested_ok}
use Rattle.lojarnek.proofs.client.Client.send_key.Goals as goal

pub returns-in-Ok-clause-was : goal.returns-in-Ok-clause-was
returns-in-Ok-clause-was c = rw c.was_there.ensures (send_was c.args.to c.args.key c.args.self.now c.run.new.self c.in-Ok.answer c.in-Ok.ensures.ran)

pub returns-in-Ok-clause-sent : goal.returns-in-Ok-clause-sent
returns-in-Ok-clause-sent c = rw c.was_there.ensures (send_sent c.args.to c.args.key c.args.self.now c.run.new.self c.in-Ok.answer c.in-Ok.ensures.ran)

pub returns-in-Ok-clause-same : goal.returns-in-Ok-clause-same
returns-in-Ok-clause-same c = send_same c.args.to c.args.key c.args.self.now c.run.new.self (Ok c.in-Ok.answer) c.in-Ok.ensures.ran

pub returns-in-Err-clause-same : goal.returns-in-Err-clause-same
returns-in-Err-clause-same c = send_same c.args.to c.args.key c.args.self.now c.run.new.self (Err c.in-Err.error) c.in-Err.ensures.ran

pub returns-in-Ok-clause-refused : goal.returns-in-Ok-clause-refused
returns-in-Ok-clause-refused c = rw c.was_there.ensures (send_refused (KeepsMap c.args.self.now.token.account) c.args.to c.args.key c.args.self.now c.run.new.self c.in-Ok.answer c.in-Ok.ensures.ran)

pub returns-in-Err-clause-refused : goal.returns-in-Err-clause-refused
returns-in-Err-clause-refused c = run_refused (KeepsMap c.args.self.now.token.account) (line.Send c.args.to c.args.key) c.args.self.now c.run.new.self c.in-Err.error (send_took c.args.to c.args.key c.args.self.now.token.account c.run.new.self.token.account) c.in-Err.ensures.ran

pub returns-in-Ok-clause-stays : goal.returns-in-Ok-clause-stays
returns-in-Ok-clause-stays c = run_stays (line.Send c.args.to c.args.key) c.args.self.now c.run.new.self (Ok c.in-Ok.answer) c.in-Ok.ensures.ran

pub returns-in-Err-clause-stays : goal.returns-in-Err-clause-stays
returns-in-Err-clause-stays c = run_stays (line.Send c.args.to c.args.key) c.args.self.now c.run.new.self (Err c.in-Err.error) c.in-Err.ensures.ran

pub returns-in-Ok-clause-tested : goal.returns-in-Ok-clause-tested
returns-in-Ok-clause-tested c = tested_ok _ _ _ _ _ c.in-Ok.ensures.tested

pub returns-in-Err-clause-tested : goal.returns-in-Err-clause-tested
returns-in-Err-clause-tested c = tested_err _ _ _ _ _ _ c.in-Err.ensures.tested
