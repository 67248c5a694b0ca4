use Rattle.std.proofs.Common.{◌∙◌, Err}
use Rattle.shm_queue.specs.declared.answer.PeekFault.TheVariants as peek
use Rattle.lojarnek.specs.{Passing.WhyNotReceived, Standing.acts_of}
use Rattle.lojarnek.proofs.{Comes.died_came, Done.done_same, Learning.{learnt_roots, spent_died, spent_learnt}}
use Rattle.lojarnek.proofs.Passes.{counted_came, none_came, received_at, received_came, received_spent, rootless_came}
use Rattle.lojarnek.proofs.queues.receive.Goals as goal

pub receive-requires-clause-between : goal.receive-requires-clause-between
receive-requires-clause-between c = λ alive. c.requires.at.ready.rests.between alive

pub receive-requires-clause-untaken : goal.receive-requires-clause-untaken
receive-requires-clause-untaken c = λ alive. c.requires.at.ready.untaken alive c.args.from

pub set-requires : goal.set-requires
set-requires c = let h = rw c.in-Done-Ok.field-0-is at c.in-Done-Ok.ensures.called in h.done.left_so.look.peeked.low

pub returns-in-Done-Ok : goal.returns-in-Done-Ok
returns-in-Done-Ok c =
    received_came c.args.token.now c.receive.new.self c.args.life.now.left c.receive.new.life.left c.args.from c.requires.at c.in-Done-Ok.made c.args.roots.now.named c.set.new.self.named c.requires.knows c.set.ensures.at c.set.ensures.others
    (rw c.in-Done-Ok.field-0-is at c.in-Done-Ok.ensures.called)

pub returns-in-Died : goal.returns-in-Died
returns-in-Died c = died_came _ _ c.args.token.now c.receive.new.self c.args.life.now.left c.receive.new.life.left c.args.roots.now.named c.requires.at.alive c.in-Died.ensures.called.done c.in-Died.ensures.called.rests

pub returns-in-Done-Err-Empty : goal.returns-in-Done-Err-Empty
returns-in-Done-Err-Empty c =
    let h = rw c.in-Done-Err-Empty.field-0-is at c.in-Done-Err-Empty.ensures.called in
    none_came c.args.token.now c.receive.new.self c.args.life.now.left c.receive.new.life.left c.args.from c.requires.at c.in-Done-Err-Empty.field-0-0-0 c.args.roots.now.named c.requires.knows (rw c.in-Done-Err-Empty.field-0-0-is at h)

pub learn-requires-clause-pool : goal.learn-requires-clause-pool
learn-requires-clause-pool c = c.in-Done-Err-EraSpent.ensures.called.done.same.0 ∙ c.requires.pool

pub learn-requires-clause-at : goal.learn-requires-clause-at
learn-requires-clause-at c =
    let h = rw c.in-Done-Err-EraSpent.field-0-is at c.in-Done-Err-EraSpent.ensures.called in
    received_at c.args.token.now c.receive.new.self c.args.life.now.left c.receive.new.life.left c.args.from c.requires.at (Err (peek.EraSpent c.in-Done-Err-EraSpent.era)) (rw c.in-Done-Err-EraSpent.field-0-0-is at h)

pub returns-in-Done : goal.returns-in-Done
returns-in-Done c =
    let first = acts_of c.args.token.now c.args.life.now.left in
    let taken = acts_of c.receive.new.self c.receive.new.life.left in
    let last = acts_of c.learn.new.token c.learn.new.life.left in
    let h = rw c.in-Done-Err-EraSpent.field-0-is at c.in-Done-Err-EraSpent.ensures.called in
    let spent = received_spent c.args.token.now c.receive.new.self c.args.life.now.left c.receive.new.life.left c.args.from c.requires.at c.in-Done-Err-EraSpent.era (rw c.in-Done-Err-EraSpent.field-0-0-is at h) in
    spent_learnt _ WhyNotReceived first taken last c.learn.new.roots.named (done_same _ c.requires.at.alive c.in-Done-Err-EraSpent.ensures.called.done) c.in-Done-Err-EraSpent.era spent.0 c.in-Done.ensures
    (λ it. (it, λ k some. learnt_roots taken last c.learn.new.roots.named c.in-Done.ensures k ∙ spent.1 k some))

pub returns-in-Died-learn : goal.returns-in-Died-learn
returns-in-Died-learn c =
    spent_died _ WhyNotReceived (acts_of c.args.token.now c.args.life.now.left) (acts_of c.receive.new.self c.receive.new.life.left) (acts_of c.learn.new.token c.learn.new.life.left) c.learn.new.roots.named
    (done_same _ c.requires.at.alive c.in-Done-Err-EraSpent.ensures.called.done) c.in-Died-learn.ensures

pub returns-in-Done-Err-RootsFull : goal.returns-in-Done-Err-RootsFull
returns-in-Done-Err-RootsFull c =
    let h = rw c.in-Done-Err-RootsFull.field-0-is at c.in-Done-Err-RootsFull.ensures.called in
    rootless_came c.args.token.now c.receive.new.self c.args.life.now.left c.receive.new.life.left c.args.from c.requires.at c.args.roots.now.named c.requires.knows (rw c.in-Done-Err-RootsFull.field-0-0-is at h)

pub returns-in-Done-Err-CountFull : goal.returns-in-Done-Err-CountFull
returns-in-Done-Err-CountFull c =
    let h = rw c.in-Done-Err-CountFull.field-0-is at c.in-Done-Err-CountFull.ensures.called in
    counted_came c.args.token.now c.receive.new.self c.args.life.now.left c.receive.new.life.left c.args.from c.requires.at c.in-Done-Err-CountFull.block c.in-Done-Err-CountFull.count c.args.roots.now.named c.requires.knows
    (rw c.in-Done-Err-CountFull.field-0-0-is at h)
