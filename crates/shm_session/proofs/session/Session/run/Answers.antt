use Rattle.std.proofs.Common.{true, false, sym, ◌∙◌}
use Rattle.shm_session.proofs.Working.{has_answered, has_gone, none_more}
use Rattle.shm_session.proofs.session.Session.run.Goals as goal

pub returns-in-Some-run-clause-left : goal.returns-in-Some-run-clause-left
returns-in-Some-run-clause-left g c =
    let s = c.args.site.now in
    let v = c.args.self.now in
    none_more g.S.Sits.operations (g.T.Site.made s) (g.T.Site.seen s) c.args.life.now.left v.stage v.work c.in-Some.machine c.args.words.now
    (record { left = c.run.new.life.left; machine = c.run.new.work; words = c.run.new.words; answer = c.run.result }) c.in-Some.is v.ready c.run.ensures

pub returns-in-Some-run-clause-ran : goal.returns-in-Some-run-clause-ran
returns-in-Some-run-clause-ran g c =
    let s = c.args.site.now in
    let v = c.args.self.now in
    has_answered g.S.Sits.operations (g.T.Site.made s) (g.T.Site.seen s) c.args.life.now.left v.stage v.work c.in-Some.machine c.args.words.now
    (record { left = c.run.new.life.left; machine = c.run.new.work; words = c.run.new.words; answer = c.run.result }) c.in-Some.is v.ready c.run.ensures
    c.in-Some-run.answer c.say.result c.say.new.self.stage c.say.new.self.work c.in-Some-run.is c.say.ensures.said c.say.ensures.stage c.say.ensures.work

pub returns-then-is_over-clause-left : goal.returns-then-is_over-clause-left
returns-then-is_over-clause-left g c =
    let s = c.args.site.now in
    let v = c.args.self.now in
    none_more g.S.Sits.operations (g.T.Site.made s) (g.T.Site.seen s) c.args.life.now.left v.stage v.work c.in-Some.machine c.args.words.now
    (record { left = c.run.new.life.left; machine = c.run.new.work; words = c.run.new.words; answer = c.run.result }) c.in-Some.is v.ready c.run.ensures

pub returns-then-is_over-clause-ran : goal.returns-then-is_over-clause-ran
returns-then-is_over-clause-ran g c =
    let s = c.args.site.now in
    let v = c.args.self.now in
    has_gone g.S.Sits.operations (g.T.Site.made s) (g.T.Site.seen s) c.args.life.now.left v.stage v.work c.in-Some.machine c.args.words.now
    (record { left = c.run.new.life.left; machine = c.run.new.work; words = c.run.new.words; answer = c.run.result }) c.in-Some.is v.ready c.run.ensures
    true c.refusal-then-is_over.result c.in-None.is (sym c.is_over.ensures ∙ c.if-is_over.true) c.refusal-then-is_over.ensures

pub returns-else-is_over-clause-left : goal.returns-else-is_over-clause-left
returns-else-is_over-clause-left g c =
    let s = c.args.site.now in
    let v = c.args.self.now in
    none_more g.S.Sits.operations (g.T.Site.made s) (g.T.Site.seen s) c.args.life.now.left v.stage v.work c.in-Some.machine c.args.words.now
    (record { left = c.run.new.life.left; machine = c.run.new.work; words = c.run.new.words; answer = c.run.result }) c.in-Some.is v.ready c.run.ensures

pub returns-else-is_over-clause-ran : goal.returns-else-is_over-clause-ran
returns-else-is_over-clause-ran g c =
    let s = c.args.site.now in
    let v = c.args.self.now in
    has_gone g.S.Sits.operations (g.T.Site.made s) (g.T.Site.seen s) c.args.life.now.left v.stage v.work c.in-Some.machine c.args.words.now
    (record { left = c.run.new.life.left; machine = c.run.new.work; words = c.run.new.words; answer = c.run.result }) c.in-Some.is v.ready c.run.ensures
    false c.next.result c.in-None.is (sym c.is_over.ensures ∙ c.if-is_over.false) c.next.ensures
