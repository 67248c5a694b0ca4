use Rattle.std.proofs.Common.{ℕ, ◌<◌, sym, ap, ◌∙◌, subst}
use Rattle.shm_graph.specs.Runs.{account_at}
use Rattle.shm_plain.specs.Pools.{Pool}
use Rattle.shm_plain.proofs.PlaceTurning.{fallen_is}
use Rattle.shm_plain.proofs.working.PlainPoolWorkplace.fall.Goals as goal

pub returns-clause-has : goal.returns-clause-has
returns-clause-has c = (c.fall.ensures.run, subst (λ (z : Pool). c.args.who < z.start.geometry.clients) (sym c.fall.ensures.fallen) c.requires.has.1)

pub returns-clause-account : goal.returns-clause-account
returns-clause-account c =
    ap (λ (z : Pool). account_at z.accounts c.args.who) c.fall.ensures.fallen
    ∙ fallen_is c.args.self.now c.args.who (subst (λ (n : ℕ). c.args.who < n) (sym c.requires.has.0.held.accounts) c.requires.has.1) c.requires.acts
