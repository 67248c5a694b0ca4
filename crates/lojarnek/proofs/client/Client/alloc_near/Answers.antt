use Rattle.lojarnek.proofs.Tested.{tested_err, tested_ok}
use Rattle.lojarnek.proofs.client.Client.alloc_near.Goals as goal

pub returns-in-Ok-clause-tested : goal.returns-in-Ok-clause-tested
returns-in-Ok-clause-tested c = tested_ok _ _ _ _ _ c.in-Ok.ensures.tested

pub returns-in-Err-clause-tested : goal.returns-in-Err-clause-tested
returns-in-Err-clause-tested c = tested_err _ _ _ _ _ _ c.in-Err.ensures.tested
