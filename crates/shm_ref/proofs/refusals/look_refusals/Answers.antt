use Rattle.std.proofs.Common.{refl, sym, subst, arith, ◌+◌}
use Rattle.std.specs.List.{Contains}
use Rattle.shm_graph.specs.{declared.ask.Ask.TheVariants.Load, Asks.{Trail, pair}}
use Rattle.shm_ref.proofs.refusals.look_refusals.Goals as goal

pub returns-clause-none : goal.returns-clause-none
returns-clause-none c me b k n r0 r tr es g =
    (g.x, subst (λ (t : Trail). Contains t (pair (Load (b + 1)) g.x)) (sym g.trail) (0, omega arith, refl), g.tag, g.refs, g.high, g.memo, g.none)

pub returns-clause-other : goal.returns-clause-other
returns-clause-other c me b k r0 r tr es g =
    (g.x, subst (λ (t : Trail). Contains t (pair (Load (b + 1)) g.x)) (sym g.trail) (0, omega arith, refl), g.tag, g.low, g.other, g.memo, g.none)
