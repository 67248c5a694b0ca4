use Rattle.shm_script.specs.declared.line.Line.TheVariants as line
use Rattle.std.proofs.Common.{Ok, Err}
use Rattle.lojarnek.specs.Tables.{HasNumber}
use Rattle.lojarnek.proofs.Says.{put_refused, put_stored, put_took, run_only, run_refused, run_stays}
use Rattle.lojarnek.proofs.Tested.{tested_err, tested_ok}
use Rattle.lojarnek.proofs.client.Client.put.Goals as goal

pub returns-in-Ok-clause-stored : goal.returns-in-Ok-clause-stored
returns-in-Ok-clause-stored c = rw c.stored.ensures (put_stored c.args.key c.args.number c.args.self.now c.run.new.self c.in-Ok.answer c.in-Ok.ensures.ran)

pub returns-in-Ok-clause-others : goal.returns-in-Ok-clause-others
returns-in-Ok-clause-others c = run_only (line.Put c.args.key c.args.number) c.args.self.now c.run.new.self (Ok c.in-Ok.answer) c.in-Ok.ensures.ran

pub returns-in-Err-clause-others : goal.returns-in-Err-clause-others
returns-in-Err-clause-others c = run_only (line.Put c.args.key c.args.number) c.args.self.now c.run.new.self (Err c.in-Err.error) c.in-Err.ensures.ran

pub returns-in-Ok-clause-refused : goal.returns-in-Ok-clause-refused
returns-in-Ok-clause-refused c = rw c.stored.ensures (put_refused (HasNumber c.args.key c.args.number) c.args.key c.args.number c.args.self.now c.run.new.self c.in-Ok.answer c.in-Ok.ensures.ran)

pub returns-in-Err-clause-refused : goal.returns-in-Err-clause-refused
returns-in-Err-clause-refused c =
    run_refused (HasNumber c.args.key c.args.number) (line.Put c.args.key c.args.number) c.args.self.now c.run.new.self c.in-Err.error
    (put_took c.args.key c.args.number c.args.self.now.token.account c.run.new.self.token.account) c.in-Err.ensures.ran

pub returns-in-Ok-clause-stays : goal.returns-in-Ok-clause-stays
returns-in-Ok-clause-stays c = run_stays (line.Put c.args.key c.args.number) c.args.self.now c.run.new.self (Ok c.in-Ok.answer) c.in-Ok.ensures.ran

pub returns-in-Err-clause-stays : goal.returns-in-Err-clause-stays
returns-in-Err-clause-stays c = run_stays (line.Put c.args.key c.args.number) c.args.self.now c.run.new.self (Err c.in-Err.error) c.in-Err.ensures.ran

pub returns-in-Ok-clause-tested : goal.returns-in-Ok-clause-tested
returns-in-Ok-clause-tested c = tested_ok _ _ _ _ _ c.in-Ok.ensures.tested

pub returns-in-Err-clause-tested : goal.returns-in-Err-clause-tested
returns-in-Err-clause-tested c = tested_err _ _ _ _ _ _ c.in-Err.ensures.tested
