use Rattle.std.proofs.Common.{◌≡◌, suc, ◌-◌, inl, inr, refl, sym, ◌∙◌, arith}
use Rattle.std.specs.Prelude.{Some, None}
use Rattle.shm_session.proofs.Working.{goes, stops}
use Rattle.shm_session.proofs.session.Sits.run.Goals as goal

pub steps-preserved : goal.steps-preserved
steps-preserved g c =
    let l = c.steps in
    let e : l.life.left ≡ suc (l.life.left - 1) = omega arith in
    goes g.Self.Sits.operations.control (g.T.Site.made c.args.site.now) (g.T.Site.seen c.args.site.now) c.args.life.now.left c.args.work.now c.args.words.now l.life.left (l.life.left - 1) l.work l.words l.invariant e
    c.make-seen.new.words c.ask-ask.result c.ask-ask.ensures c.make-seen.ensures.made c.make-seen.result c.make-seen.ensures.seen c.take.new.work c.take.ensures.work c.take.result c.take.ensures.answer
    c.in-None.is (sym c.is_over.ensures ∙ c.if-is_over.false)

pub returns-in-Some : goal.returns-in-Some
returns-in-Some g c =
    let l = c.steps in
    let e : l.life.left ≡ suc (l.life.left - 1) = omega arith in
    stops g.Self.Sits.operations.control (g.T.Site.made c.args.site.now) (g.T.Site.seen c.args.site.now) c.args.life.now.left c.args.work.now c.args.words.now l.life.left (l.life.left - 1) l.work l.words l.invariant e
    c.make-seen.new.words c.ask-ask.result c.ask-ask.ensures c.make-seen.ensures.made c.make-seen.result c.make-seen.ensures.seen c.take.new.work c.take.ensures.work c.take.result c.take.ensures.answer
    (Some c.in-Some.answer) c.in-Some.is (inl refl)

pub returns-then-is_over : goal.returns-then-is_over
returns-then-is_over g c =
    let l = c.steps in
    let e : l.life.left ≡ suc (l.life.left - 1) = omega arith in
    stops g.Self.Sits.operations.control (g.T.Site.made c.args.site.now) (g.T.Site.seen c.args.site.now) c.args.life.now.left c.args.work.now c.args.words.now l.life.left (l.life.left - 1) l.work l.words l.invariant e
    c.make-seen.new.words c.ask-ask.result c.ask-ask.ensures c.make-seen.ensures.made c.make-seen.result c.make-seen.ensures.seen c.take.new.work c.take.ensures.work c.take.result c.take.ensures.answer
    None c.in-None.is (inr (sym c.is_over.ensures ∙ c.if-is_over.true))
