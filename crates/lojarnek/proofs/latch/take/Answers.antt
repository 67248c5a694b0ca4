use Rattle.std.proofs.Common.{refl, ◌∙◌, subst, sym, ◌<◌}
use Rattle.shm_pool.specs.Tokens.{Its}
use Rattle.lojarnek.proofs.{Comes.same_self, Latches.{done_less, held_died, held_else, held_now}}
use Rattle.lojarnek.proofs.latch.take.Goals as goal

pub tries-init : goal.tries-init
tries-init c = record { same = same_self _; at = c.requires.at; roots = λ k. refl; known = refl }

pub hold-requires-clause-pool : goal.hold-requires-clause-pool
hold-requires-clause-pool c = c.tries.invariant.same.of ∙ c.requires.pool

pub hold-requires-clause-between : goal.hold-requires-clause-between
hold-requires-clause-between c = λ alive. c.tries.invariant.at.ready.rests.between alive

pub hold-requires-clause-author : goal.hold-requires-clause-author
hold-requires-clause-author c = λ alive. subst (λ (p : Its). c.args.author < p.start.geometry.clients) (sym c.tries.invariant.same.of) c.requires.author

pub hold-requires-clause-none : goal.hold-requires-clause-none
hold-requires-clause-none c = λ alive. c.tries.invariant.at.ready.none alive

pub returns-in-Done-Ok : goal.returns-in-Done-Ok
returns-in-Done-Ok c = held_now _ _ c.tries.token c.hold.new.self c.tries.life.left c.hold.new.life.left c.args.author c.tries.invariant (rw c.in-Done-Ok.field-0-is at c.in-Done-Ok.ensures.called)

pub tries-preserved : goal.tries-preserved
tries-preserved c = held_else _ _ c.tries.token c.hold.new.self c.tries.life.left c.hold.new.life.left c.args.author c.tries.invariant _ (rw c.in-Done-Err.field-0-is at c.in-Done-Err.ensures.called)

pub tries-smaller : goal.tries-smaller
tries-smaller c = let h = rw c.in-Done-Err.field-0-is at c.in-Done-Err.ensures.called in done_less _ c.tries.invariant.at.alive h.done

pub returns-in-Died : goal.returns-in-Died
returns-in-Died c = held_died _ _ c.tries.token c.hold.new.self c.tries.life.left c.hold.new.life.left c.args.author c.tries.invariant c.in-Died.ensures.called
