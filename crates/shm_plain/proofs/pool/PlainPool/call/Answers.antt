use Rattle.std.proofs.Common.{sym, subst}
use Rattle.shm_plain.proofs.{Calling.went_first, ManySteps.{Ended, EndedAt, ends}, OwnTurns.called_did}
use Rattle.shm_plain.proofs.pool.PlainPool.call.{Given.Over, Goals.After-answered}
use Rattle.shm_plain.proofs.pool.PlainPool.call.Goals as goal

-- how it ended
ended : (g : Over) (c : After-answered g) → Ended g.M.Machine.control g.M.Machine.fits g.M.Machine.gives c.args.who c.args.self.now c.args.m.now c.args.life.now.left c.steps.new.self c.steps.new.m c.steps.new.life.left c.answered.result
ended g c =
    let M = g.M.Machine in
    let p = c.args.self.now in
    let x = c.args.life.now.left in
    subst (λ o. Ended M.control M.fits M.gives c.args.who p c.args.m.now x c.steps.new.self c.steps.new.m c.steps.new.life.left o) (sym c.answered.ensures)
    (subst (EndedAt M.control M.fits M.gives c.args.who p c.args.m.now x) (sym c.steps.ensures.stop)
    (ends M.control M.fits M.gives c.args.who p c.args.m.now x g.met.M.Machine.laws c.requires.me c.requires.fits.0 c.requires.fits.1 x c.args.m.now p
    (c.geometry.ensures.run, went_first M.control M.fits M.gives c.args.who p c.args.m.now x c.requires.me c.requires.agent)))

pub returns-clause-gives : goal.returns-clause-gives
returns-clause-gives g c = (ended g (goal.at.returns-clause-gives g c).After-answered).gave

pub returns-clause-cut : goal.returns-clause-cut
returns-clause-cut g c = (ended g (goal.at.returns-clause-cut g c).After-answered).cut

pub returns-clause-ran : goal.returns-clause-ran
returns-clause-ran g c = (ended g (goal.at.returns-clause-ran g c).After-answered).ran

pub returns-clause-spent : goal.returns-clause-spent
returns-clause-spent g c = (ended g (goal.at.returns-clause-spent g c).After-answered).spent

pub returns-clause-took : goal.returns-clause-took
returns-clause-took g c = (ended g (goal.at.returns-clause-took g c).After-answered).took

pub returns-clause-events : goal.returns-clause-events
returns-clause-events g c some fresh does tells =
    let M = g.M.Machine in
    let h = ended g (goal.at.returns-clause-events g c).After-answered in
    called_did M.control c.args.who c.args.self.now c.steps.new.self c.args.m.now M.fits M.gives g.met.M.Machine.laws does tells c.requires.fits.0 c.geometry.ensures.run c.steps.ensures.run h.ran.start c.requires.agent c.requires.me c.requires.fits.1 fresh (h.took some)
