use Rattle.std.specs.Prelude.{length}
use Rattle.shm_mapped.proofs.Running.{has_run, was_beyond}
use Rattle.shm_mapped.proofs.run.run_on.Goals as goal

pub returns-then-found-clause-ran : goal.returns-then-found-clause-ran
returns-then-found-clause-ran g c enough =
    let s = c.run-said.new.self in
    was_beyond g.S.Sits.operations (length c.args.words.now) c.args.steps c.of-life.result.left c.args.session.now.stage c.args.session.now.work
    (record { left = c.run-said.new.life.left; turned = record { said = c.run-said.result; stage = s.stage; work = s.work }; words = c.run-said.new.words }) c.of-life.ensures c.run-said.ensures.ran c.run-said.ensures.left
    c.if-found.true c.of.result c.fall.new.self.stage c.fall.new.self.work c.of.ensures c.fall.ensures.stage c.fall.ensures.work

pub returns-clause-ran : goal.returns-clause-ran
returns-clause-ran g c enough =
    let s = c.run-said.new.self in
    has_run g.S.Sits.operations (length c.args.words.now) c.args.steps c.of-life.result.left c.args.session.now.stage c.args.session.now.work
    (record { left = c.run-said.new.life.left; turned = record { said = c.run-said.result; stage = s.stage; work = s.work }; words = c.run-said.new.words }) c.of-life.ensures c.run-said.ensures.ran c.run-said.ensures.left
    c.if-found.false
