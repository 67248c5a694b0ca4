use Rattle.shm_script.specs.declared.line.Line.TheVariants as line
use Rattle.std.proofs.Common.{Ok, Err}
use Rattle.lojarnek.specs.Standing.{KeepsMap}
use Rattle.lojarnek.proofs.Says.{get_found, get_refused, get_same, get_took, run_refused, run_stays}
use Rattle.lojarnek.proofs.Tested.{tested_err, tested_ok}
use Rattle.lojarnek.proofs.client.Client.get.Goals as goal

pub returns-in-Ok-clause-found : goal.returns-in-Ok-clause-found
returns-in-Ok-clause-found c = λ own. rw c.found.ensures (get_found c.args.author c.args.key c.args.self.now c.run.new.self c.in-Ok.answer c.in-Ok.ensures.ran own)

pub returns-in-Ok-clause-same : goal.returns-in-Ok-clause-same
returns-in-Ok-clause-same c = get_same c.args.author c.args.key c.args.self.now c.run.new.self (Ok c.in-Ok.answer) c.in-Ok.ensures.ran

pub returns-in-Err-clause-same : goal.returns-in-Err-clause-same
returns-in-Err-clause-same c = get_same c.args.author c.args.key c.args.self.now c.run.new.self (Err c.in-Err.error) c.in-Err.ensures.ran

pub returns-in-Ok-clause-refused : goal.returns-in-Ok-clause-refused
returns-in-Ok-clause-refused c = rw c.found.ensures (get_refused (KeepsMap c.args.self.now.token.account) c.args.author c.args.key c.args.self.now c.run.new.self c.in-Ok.answer c.in-Ok.ensures.ran)

pub returns-in-Err-clause-refused : goal.returns-in-Err-clause-refused
returns-in-Err-clause-refused c = run_refused (KeepsMap c.args.self.now.token.account) (line.Get c.args.author c.args.key) c.args.self.now c.run.new.self c.in-Err.error (λ o m is h same. get_took _ c.args.author c.args.key o is) c.in-Err.ensures.ran

pub returns-in-Ok-clause-stays : goal.returns-in-Ok-clause-stays
returns-in-Ok-clause-stays c = run_stays (line.Get c.args.author c.args.key) c.args.self.now c.run.new.self (Ok c.in-Ok.answer) c.in-Ok.ensures.ran

pub returns-in-Err-clause-stays : goal.returns-in-Err-clause-stays
returns-in-Err-clause-stays c = run_stays (line.Get c.args.author c.args.key) c.args.self.now c.run.new.self (Err c.in-Err.error) c.in-Err.ensures.ran

pub returns-in-Ok-clause-tested : goal.returns-in-Ok-clause-tested
returns-in-Ok-clause-tested c = tested_ok _ _ _ _ _ c.in-Ok.ensures.tested

pub returns-in-Err-clause-tested : goal.returns-in-Err-clause-tested
returns-in-Err-clause-tested c = tested_err _ _ _ _ _ _ c.in-Err.ensures.tested
