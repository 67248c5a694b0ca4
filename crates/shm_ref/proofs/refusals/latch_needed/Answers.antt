use Rattle.std.proofs.Common.{refl, sym, subst, arith, ◌+◌}
use Rattle.std.specs.List.{Contains}
use Rattle.shm_words.specs.Layout.{address}
use Rattle.shm_words.specs.declared.place.Place.TheVariants as place
use Rattle.shm_graph.specs.{declared.ask.Ask.TheVariants.{Load, Store}, Asks.{Trail, pair}}
use Rattle.shm_ref.proofs.refusals.latch_needed.Goals as goal

pub returns-clause-home : goal.returns-clause-home
returns-clause-home c me a b r0 r tr es g = g.held

pub returns-clause-look : goal.returns-clause-look
returns-clause-look c me b k v r0 r tr es g = (g.x, subst (λ (t : Trail). Contains t (pair (Load (b + 1)) g.x)) (sym g.trail) (0, omega arith, refl), g.low, g.held)

pub returns-clause-release : goal.returns-clause-release
returns-clause-release c me r0 r tr es g =
    (g.author, g.held, subst (λ (t : Trail). Contains t (pair (Store (address me.geometry (place.Latch g.author)) 0) 0)) (sym g.trail) (1, omega arith, refl), g.latch)
