use Rattle.std.proofs.Common.{◌∙◌, rules}
use Rattle.shm_alloc.specs.Alloc.{AsPart.AllocLeaves, Control.{AllocInRange, alloc_control}, Events.alloc_event}
use Rattle.shm_pool.proofs.{Calling.live_here, Named.rests_by, token.Client.alloc_near.Goals.In_ok-alloc}
use Rattle.shm_pool.proofs.token.Client.alloc_near.Goals as goal

knows : (c : In_ok-alloc) → AllocInRange c.in_ok-alloc.alloc
knows c = search rules

pub run-requires-clause-me : goal.run-requires-clause-me
run-requires-clause-me c = c.in_ok-alloc.ensures.fresh.0 ∙ c.me.ensures.is

pub run-requires-clause-may : goal.run-requires-clause-may
run-requires-clause-may c = λ alive. (c.in_ok-alloc.ensures.fresh.1, (knows (goal.at.run-requires-clause-may c).In_ok-alloc).request)

pub returns-clause-called : goal.returns-clause-called
returns-clause-called c =
    let q = c.in_ok-alloc.ensures.request in
    record {
      machine = c.in_ok-alloc.alloc;
      asked = record { of = c.in_ok-alloc.ensures.fresh.0 ∙ c.me.ensures.is; point = c.in_ok-alloc.ensures.fresh.1; refs = q.0; count = q.1; plain = q.2; hint = c.in_ok-alloc.ensures.near };
      done = c.run.ensures.done;
      rests = rests_by alloc_control alloc_event AllocLeaves c.in_ok-alloc.alloc c.args.self.now c.run.new.self c.args.life.now.left c.run.new.life.left c.run.result c.run.ensures.done;
      effect = c.run.ensures.effect;
    }

pub returns-clause-rests : goal.returns-clause-rests
returns-clause-rests c = rests_by alloc_control alloc_event AllocLeaves c.in_ok-alloc.alloc c.args.self.now c.run.new.self c.args.life.now.left c.run.new.life.left c.run.result c.run.ensures.done

pub returns-in_err-alloc-clause-rests : goal.returns-in_err-alloc-clause-rests
returns-in_err-alloc-clause-rests c = record { between = c.requires.between; here = λ alive. live_here c.args.self.now.account.memo (c.requires.between alive).idle.live }
