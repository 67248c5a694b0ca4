use Rattle.shm_script.specs.declared.line.Line.TheVariants as line
use Rattle.std.proofs.Common.{Ok, Err, true}
use Rattle.lojarnek.specs.Queues.{WasThere}
use Rattle.lojarnek.proofs.Says.{copy_found, copy_refused, copy_stored, copy_took, run_only, run_refused, run_stays}
use Rattle.lojarnek.proofs.Tested.{tested_err, tested_ok}
use Rattle.lojarnek.proofs.client.Client.copy.Goals as goal

pub returns-in-Ok-clause-stored : goal.returns-in-Ok-clause-stored
returns-in-Ok-clause-stored c = rw c.found.ensures (copy_stored c.args.key c.args.author c.args.other c.args.self.now c.run.new.self c.in-Ok.answer c.in-Ok.ensures.ran)

pub returns-in-Ok-clause-found : goal.returns-in-Ok-clause-found
returns-in-Ok-clause-found c = λ own. rw c.found.ensures (copy_found c.args.key c.args.author c.args.other c.args.self.now c.run.new.self c.in-Ok.answer c.in-Ok.ensures.ran own)

pub returns-in-Ok-clause-others : goal.returns-in-Ok-clause-others
returns-in-Ok-clause-others c = run_only (line.Copy c.args.key c.args.author c.args.other) c.args.self.now c.run.new.self (Ok c.in-Ok.answer) c.in-Ok.ensures.ran

pub returns-in-Err-clause-others : goal.returns-in-Err-clause-others
returns-in-Err-clause-others c = run_only (line.Copy c.args.key c.args.author c.args.other) c.args.self.now c.run.new.self (Err c.in-Err.error) c.in-Err.ensures.ran

pub returns-in-Ok-clause-refused : goal.returns-in-Ok-clause-refused
returns-in-Ok-clause-refused c = rw c.found.ensures (copy_refused (WasThere c.args.key true) c.args.key c.args.author c.args.other c.args.self.now c.run.new.self c.in-Ok.answer c.in-Ok.ensures.ran)

pub returns-in-Err-clause-refused : goal.returns-in-Err-clause-refused
returns-in-Err-clause-refused c = run_refused (WasThere c.args.key true) (line.Copy c.args.key c.args.author c.args.other) c.args.self.now c.run.new.self c.in-Err.error (copy_took c.args.key c.args.author c.args.other c.args.self.now.token.account c.run.new.self.token.account) c.in-Err.ensures.ran

pub returns-in-Ok-clause-stays : goal.returns-in-Ok-clause-stays
returns-in-Ok-clause-stays c = run_stays (line.Copy c.args.key c.args.author c.args.other) c.args.self.now c.run.new.self (Ok c.in-Ok.answer) c.in-Ok.ensures.ran

pub returns-in-Err-clause-stays : goal.returns-in-Err-clause-stays
returns-in-Err-clause-stays c = run_stays (line.Copy c.args.key c.args.author c.args.other) c.args.self.now c.run.new.self (Err c.in-Err.error) c.in-Err.ensures.ran

pub returns-in-Ok-clause-tested : goal.returns-in-Ok-clause-tested
returns-in-Ok-clause-tested c = tested_ok _ _ _ _ _ c.in-Ok.ensures.tested

pub returns-in-Err-clause-tested : goal.returns-in-Err-clause-tested
returns-in-Err-clause-tested c = tested_err _ _ _ _ _ _ c.in-Err.ensures.tested
