use Rattle.std.proofs.Common.{◌≡◌, suc, ◌-◌, arith}
use Rattle.shm_graph.proofs.Machines.ManySteps.{answered_so, begun, next_may, none_left, not_died, one_more, tells_none, tells_some}
use Rattle.shm_graph.proofs.machine.Machine.run.Goals as goal

pub steps-init : goal.steps-init
steps-init g c =
    let s = c.args.site.now in
    begun g.Self.Machine.control (g.S.Site.may s) (g.S.Site.made s) (g.S.Site.seen s) c.args.life.now.left c.args.self.now c.args.words.now c.requires

pub act-requires-clause-runs : goal.act-requires-clause-runs
act-requires-clause-runs g c =
    let s = c.args.site.now in
    let l = c.steps in
    let e : l.life.left ≡ suc (l.life.left - 1) = omega arith in
    (next_may g.Self.Machine.control (g.S.Site.may s) (g.S.Site.made s) (g.S.Site.seen s) c.args.life.now.left c.args.self.now c.args.words.now l.life.left (l.life.left - 1) l.self l.words l.invariant e).0

pub act-requires-clause-may : goal.act-requires-clause-may
act-requires-clause-may g c =
    let s = c.args.site.now in
    let l = c.steps in
    let e : l.life.left ≡ suc (l.life.left - 1) = omega arith in
    (next_may g.Self.Machine.control (g.S.Site.may s) (g.S.Site.made s) (g.S.Site.seen s) c.args.life.now.left c.args.self.now c.args.words.now l.life.left (l.life.left - 1) l.self l.words l.invariant e).1

pub steps-preserved : goal.steps-preserved
steps-preserved g c =
    let s = c.args.site.now in
    let l = c.steps in
    let e : l.life.left ≡ suc (l.life.left - 1) = omega arith in
    one_more g.Self.Machine.control (g.S.Site.may s) (g.S.Site.made s) (g.S.Site.seen s) c.args.life.now.left c.args.self.now c.args.words.now l.life.left (l.life.left - 1) l.self l.words l.invariant e
    c.act.new.words c.act.ensures.made c.act.new.self c.act.ensures.machine (tells_none _ c.act.result c.act.ensures.turn c.in-More.is)

pub returns-in-Done : goal.returns-in-Done
returns-in-Done g c =
    let s = c.args.site.now in
    let l = c.steps in
    let e : l.life.left ≡ suc (l.life.left - 1) = omega arith in
    answered_so g.Self.Machine.control (g.S.Site.may s) (g.S.Site.made s) (g.S.Site.seen s) c.args.life.now.left c.args.self.now c.args.words.now l.life.left (l.life.left - 1) l.self l.words l.invariant e
    c.act.new.words c.act.ensures.made c.act.new.self c.act.ensures.machine c.in-Done.answer (tells_some _ c.act.result c.in-Done.answer c.act.ensures.turn c.in-Done.is)

pub returns-in-Died : goal.returns-in-Died
returns-in-Died g c = absurd (not_died _ c.act.result c.act.ensures.turn c.in-Died.is)

pub returns-then-life-eq0 : goal.returns-then-life-eq0
returns-then-life-eq0 g c =
    let s = c.args.site.now in
    let l = c.steps in
    let e : l.life.left ≡ 0 = omega arith in
    none_left g.Self.Machine.control (g.S.Site.may s) (g.S.Site.made s) (g.S.Site.seen s) c.args.life.now.left c.args.self.now c.args.words.now l.life.left l.self l.words l.invariant e
