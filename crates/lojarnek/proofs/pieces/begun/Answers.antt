use Rattle.lojarnek.proofs.Amid.{amid_first}
use Rattle.lojarnek.proofs.pieces.begun.Goals as goal

pub returns : goal.returns
returns g c =
    let M = g.O.Machine in
    let O = g.O.Operation in
    λ left. amid_first M.control M.fits M.gives O.may O.does O.leaves O.rests g.met.O.Machine.laws g.met.O.Operation.operates c.args.operation.now c.args.token.now left c.requires.alive c.client.ensures.stood c.requires.between c.requires.me c.requires.may
