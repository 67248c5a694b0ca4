use Rattle.lojarnek.specs.Running.{wrong_of}
use Rattle.lojarnek.proofs.Tested.{tested_wrong}
use Rattle.lojarnek.proofs.client.Client.run.Goals as goal

pub returns-in-Some-clause-tested : goal.returns-in-Some-clause-tested
returns-in-Some-clause-tested c = tested_wrong _ (wrong_of c.args.self.now c.args.line.now) c.args.self.now c.in-Some.error c.in-Some.ensures.is
