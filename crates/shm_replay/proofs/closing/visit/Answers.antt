use Rattle.std.proofs.Common.{◌∙◌}
use Rattle.shm_plain.specs.Pools.{memo_of}
use Rattle.shm_replay.proofs.{Aside.ran_aside, Visited.{table_part, visit_of, visit_told}}
use Rattle.shm_replay.proofs.closing.visit.Goals as goal

pub returns-clause-others : goal.returns-clause-others
returns-clause-others c d n =
    ran_aside c.args.me.who _ _ c.drain.new.pool c.leave.new.pool _ _ c.drain.ensures.ran.run c.leave.ensures.ran d n
    ∙ (ran_aside c.args.me.who _ _ c.join.new.pool c.drain.new.pool _ _ c.join.ensures.ran.run c.drain.ensures.ran d n
    ∙ (ran_aside c.args.me.who _ _ c.revive.new.pool c.join.new.pool _ _ c.revive.ensures.run c.join.ensures.ran d n ∙ c.revive.ensures.others d n))

pub returns-clause-visit : goal.returns-clause-visit
returns-clause-visit c =
    visit_of c.args.me.who c.args.pool.now c.revive.new.pool c.join.new.pool c.drain.new.pool c.leave.new.pool c.join.ensures.whole c.drain.ensures.whole c.leave.ensures.whole
    c.args.dead c.requires.may c.revive.ensures.recovery c.revive.ensures.start

pub returns-clause-table : goal.returns-clause-table
returns-clause-table c =
    let who = c.args.me.who in
    let m = memo_of c.args.pool.now who in
    let r = memo_of c.revive.new.pool who in
    let j = memo_of c.join.new.pool who in
    let d = memo_of c.drain.new.pool who in
    let q = memo_of c.leave.new.pool who in
    table_part m d q (table_part m j d (table_part m r j c.revive.ensures.table c.join.ensures.part) c.drain.ensures.part) c.leave.ensures.part

pub returns-clause-told : goal.returns-clause-told
returns-clause-told c dead =
    visit_told c.args.me.who c.args.pool.now c.revive.new.pool c.join.new.pool c.drain.new.pool c.leave.new.pool c.join.ensures.whole c.drain.ensures.whole c.leave.ensures.whole
    c.revive.ensures.run (c.revive.ensures.told dead)
