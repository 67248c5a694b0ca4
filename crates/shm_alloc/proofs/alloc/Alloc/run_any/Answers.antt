use Rattle.std.proofs.Common.{◌≡◌, suc, ◌-◌, arith}
use Rattle.shm_graph.proofs.Machines.ManySteps.{answered_so, begun, next_may, none_left, not_died, one_more, tells_none, tells_some}
use Rattle.shm_alloc.specs.Alloc.Control.{alloc_control}
use Rattle.shm_alloc.proofs.Passed.{passed_on}
use Rattle.shm_alloc.proofs.alloc.Alloc.run_any.Goals as goal

pub steps-init : goal.steps-init
steps-init g c =
    let s = c.args.site.now in
    begun alloc_control (g.S.Site.may s) (g.S.Site.made s) (g.S.Site.seen s) c.args.life.now.left c.args.self.now c.args.words.now c.requires

pub pass_all-requires : goal.pass_all-requires
pass_all-requires g c = c.steps.invariant.may_go

pub make_at-requires : goal.make_at-requires
make_at-requires g c =
    let s = c.args.site.now in
    let l = c.steps in
    let p = c.pass_all.new in
    let e : p.life.left ≡ suc (p.life.left - 1) = omega arith in
    let r = passed_on (g.S.Site.may s) (g.S.Site.made s) (g.S.Site.seen s) c.args.life.now.left c.args.self.now c.args.words.now l.life.left l.self l.words l.invariant p.life.left p.self p.words c.pass_all.ensures.passed in
    (next_may alloc_control (g.S.Site.may s) (g.S.Site.made s) (g.S.Site.seen s) c.args.life.now.left c.args.self.now c.args.words.now p.life.left (p.life.left - 1) p.self p.words r e).1

pub steps-preserved : goal.steps-preserved
steps-preserved g c =
    let s = c.args.site.now in
    let l = c.steps in
    let p = c.pass_all.new in
    let e : p.life.left ≡ suc (p.life.left - 1) = omega arith in
    let r = passed_on (g.S.Site.may s) (g.S.Site.made s) (g.S.Site.seen s) c.args.life.now.left c.args.self.now c.args.words.now l.life.left l.self l.words l.invariant p.life.left p.self p.words c.pass_all.ensures.passed in
    one_more alloc_control (g.S.Site.may s) (g.S.Site.made s) (g.S.Site.seen s) c.args.life.now.left c.args.self.now c.args.words.now p.life.left (p.life.left - 1) p.self p.words r e
    c.make_at.new.words c.make_at.ensures.made c.make_at.new.self c.make_at.ensures.machine (tells_none _ c.make_at.result c.make_at.ensures.turn c.in-More.is)

pub returns-in-Done : goal.returns-in-Done
returns-in-Done g c =
    let s = c.args.site.now in
    let l = c.steps in
    let p = c.pass_all.new in
    let e : p.life.left ≡ suc (p.life.left - 1) = omega arith in
    let r = passed_on (g.S.Site.may s) (g.S.Site.made s) (g.S.Site.seen s) c.args.life.now.left c.args.self.now c.args.words.now l.life.left l.self l.words l.invariant p.life.left p.self p.words c.pass_all.ensures.passed in
    answered_so alloc_control (g.S.Site.may s) (g.S.Site.made s) (g.S.Site.seen s) c.args.life.now.left c.args.self.now c.args.words.now p.life.left (p.life.left - 1) p.self p.words r e
    c.make_at.new.words c.make_at.ensures.made c.make_at.new.self c.make_at.ensures.machine c.in-Done.answer (tells_some _ c.make_at.result c.in-Done.answer c.make_at.ensures.turn c.in-Done.is)

pub returns-in-Died : goal.returns-in-Died
returns-in-Died g c = absurd (not_died _ c.make_at.result c.make_at.ensures.turn c.in-Died.is)

pub returns-then-life-eq0 : goal.returns-then-life-eq0
returns-then-life-eq0 g c =
    let s = c.args.site.now in
    let l = c.steps in
    let p = c.pass_all.new in
    let e : p.life.left ≡ 0 = omega arith in
    let r = passed_on (g.S.Site.may s) (g.S.Site.made s) (g.S.Site.seen s) c.args.life.now.left c.args.self.now c.args.words.now l.life.left l.self l.words l.invariant p.life.left p.self p.words c.pass_all.ensures.passed in
    none_left alloc_control (g.S.Site.may s) (g.S.Site.made s) (g.S.Site.seen s) c.args.life.now.left c.args.self.now c.args.words.now p.life.left p.self p.words r e
