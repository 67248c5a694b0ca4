use Rattle.std.proofs.Common.{refl}
use Rattle.shm_count.specs.{Proved.ShareTask.ShareMay, UpRoot.{Control.{rooting, rooting_parts}, rooting_plan}}
use Rattle.shm_pool.proofs.Named.{called_as, called_dead, may_as, reach_small}
use Rattle.shm_pool.proofs.token.Client.share.Goals as goal

pub new-requires-clause-block : goal.new-requires-clause-block
new-requires-clause-block c = reach_small c.args.self.now c.in-Some.me c.alive.ensures.stood c.requires.between c.in-Some.ensures.alive c.args.block c.requires.reached

pub run_plan-requires-clause-may : goal.run_plan-requires-clause-may
run_plan-requires-clause-may c = λ alive. may_as ShareMay (λ x. rooting x c.args.block) c.in-Some.ensures.alive c.new.ensures (refl, c.in-Some.ensures.alive.kind, c.requires.reached alive)

pub returns : goal.returns
returns c = record { called = called_as rooting_parts rooting_plan (λ x. rooting x c.args.block) c.in-Some.ensures.alive c.new.ensures c.run_plan.ensures.called }

pub returns-in_default : goal.returns-in_default
returns-in_default c = record { called = called_dead rooting_parts rooting_plan _ c.args.self.now c.args.life.now.left c.in_default.ensures.stood (c.in_default.ensures.dead refl) }
