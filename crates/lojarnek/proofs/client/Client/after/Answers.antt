use Rattle.lojarnek.proofs.Naming.{knows_tables}
use Rattle.lojarnek.proofs.client.Client.after.Goals as goal

pub invariant_of-result : goal.invariant_of-result
invariant_of-result c = (c.requires.home, c.requires.dead, c.requires.ready, knows_tables c.args.token c.none.result.named c.requires.tables)
