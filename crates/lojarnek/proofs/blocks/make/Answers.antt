use Rattle.lojarnek.proofs.{Comes.died_came, Makes.{made_came, unmade_came}}
use Rattle.lojarnek.proofs.blocks.make.Goals as goal

pub alloc_near-requires-clause-between : goal.alloc_near-requires-clause-between
alloc_near-requires-clause-between c = λ alive. c.requires.at.ready.rests.between alive

pub set-requires : goal.set-requires
set-requires c =
    let done = rw c.in-Ok-Done-Ok.field-0-is at c.in-Ok-Done-Ok.ensures.called in
    let h = rw c.in-Ok-Done-Ok.field-0-0-is at done in
    h.done.left_so.holds.gives.root

pub returns-in-Ok-Done-Ok : goal.returns-in-Ok-Done-Ok
returns-in-Ok-Done-Ok c =
    let done = rw c.in-Ok-Done-Ok.field-0-is at c.in-Ok-Done-Ok.ensures.called in
    let h = rw c.in-Ok-Done-Ok.field-0-0-is at done in
    made_came c.args.token.now c.alloc_near.new.self c.args.life.now.left c.alloc_near.new.life.left c.args.refs c.args.plain.now c.args.near c.requires.at c.in-Ok-Done-Ok.made h
    c.args.roots.now.named c.set.new.self.named c.requires.knows c.requires.sizes.0 c.requires.sizes.1 c.set.ensures.at c.set.ensures.others

pub returns-in-Ok-Done-Err : goal.returns-in-Ok-Done-Err
returns-in-Ok-Done-Err c =
    let done = rw c.in-Ok-Done-Err.field-0-is at c.in-Ok-Done-Err.ensures.called in
    let h = rw c.in-Ok-Done-Err.field-0-0-is at done in
    rw c.alloc_error.ensures (unmade_came c.args.token.now c.alloc_near.new.self c.args.life.now.left c.alloc_near.new.life.left c.args.refs c.args.plain.now c.args.near c.requires.at c.in-Ok-Done-Err.fault
    c.args.roots.now.named c.requires.knows h)

pub returns-in-Ok-Died : goal.returns-in-Ok-Died
returns-in-Ok-Died c =
    let h = rw c.in-Ok-Died.field-0-is at c.in-Ok-Died.ensures.called in
    died_came _ _ c.args.token.now c.alloc_near.new.self c.args.life.now.left c.alloc_near.new.life.left c.args.roots.now.named c.requires.at.alive h.done h.rests
