use Rattle.std.proofs.Common.{refl, sym, subst, arith, ◌+◌}
use Rattle.std.specs.List.{Contains}
use Rattle.shm_graph.specs.{declared.ask.Ask.TheVariants.Load, Asks.{Trail, pair}}
use Rattle.shm_ref.proofs.refusals.read_refusals.Goals as goal

pub returns : goal.returns
returns c me b k r0 r tr es e g =
    (g.x, subst (λ (t : Trail). Contains t (pair (Load (b + 1)) g.x)) (sym g.trail) (0, omega arith, refl), g.tag, g.plain, g.high, g.memo, g.none)
