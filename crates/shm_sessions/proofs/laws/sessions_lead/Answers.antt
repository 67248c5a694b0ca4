use Rattle.shm_sessions.proofs.Running.{goes, leads}
use Rattle.shm_sessions.proofs.laws.sessions_lead.Goals as goal

pub returns-clause-leads : goal.returns-clause-leads
returns-clause-leads c b = leads c.S.Sits.operations c.S.Keeps.fits c.S.Keeps.gives c.S.Keeps.always c.S.Keeps.between c.met.S.Keeps.kept c.met.S.Keeps.laws

pub returns-clause-goes : goal.returns-clause-goes
returns-clause-goes c b = goes c.S.Sits.operations c.S.Keeps.fits c.S.Keeps.gives c.S.Keeps.always c.S.Keeps.between c.met.S.Keeps.kept c.met.S.Keeps.laws
