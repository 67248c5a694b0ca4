use Rattle.std.proofs.Common.{◌≡◌, true, sym, ap, ◌∙◌, subst}
use Rattle.shm_graph.specs.Agents.{acts}
use Rattle.shm_plain.specs.Pools.{Pool, memo_of}
use Rattle.shm_watch.specs.Turns.{shown_of}
use Rattle.shm_watch.proofs.Showing.{shown_fallen}
use Rattle.shm_watch.proofs.watched.WatchedWorkplace.fall.Goals as goal

pub invariant_of-self : goal.invariant_of-self
invariant_of-self g c =
    let p : Pool = c.self.inside.pool in
    let here : acts (memo_of p c.args.who) ≡ true = subst (λ (x : Pool). acts (memo_of x c.args.who) ≡ true) (sym c.self.view_is) c.requires.acts in
    subst (g.W.Watcher.saw c.see.new.self) (sym (ap (λ (x : Pool). shown_of x.turns) c.fall.ensures.fell ∙ shown_fallen p c.args.who here)) (c.see.ensures (shown_of p.turns) c.self.invariant)
