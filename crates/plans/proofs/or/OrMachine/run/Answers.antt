use Rattle.plans.proofs.ManySteps.{first_goes, first_runs, second_goes, second_runs}
use Rattle.plans.proofs.or.OrMachine.run.Goals as goal

pub run-requires : goal.run-requires
run-requires g c =
    let s = c.args.site.now in
    first_goes g.A.Machine.control g.B.Machine.control (g.S.Site.may s) (g.S.Site.made s) (g.S.Site.seen s) c.args.life.now.left c.args.self.now c.in-First.a c.args.words.now c.in-First.is c.requires

pub run-requires-in-Second : goal.run-requires-in-Second
run-requires-in-Second g c =
    let s = c.args.site.now in
    second_goes g.A.Machine.control g.B.Machine.control (g.S.Site.may s) (g.S.Site.made s) (g.S.Site.seen s) c.args.life.now.left c.args.self.now c.in-Second.b c.args.words.now c.in-Second.is c.requires

pub returns-in-First : goal.returns-in-First
returns-in-First g c =
    let s = c.args.site.now in
    first_runs g.A.Machine.control g.B.Machine.control (g.S.Site.may s) (g.S.Site.made s) (g.S.Site.seen s) c.args.life.now.left c.args.self.now c.in-First.a c.args.words.now c.in-First.is
    (record { left = c.run.new.life.left; machine = c.run.new.self; words = c.run.new.words; turn = c.run.result }) c.run.ensures c.first_told.result c.first_told.ensures

pub returns-in-Second : goal.returns-in-Second
returns-in-Second g c =
    let s = c.args.site.now in
    second_runs g.A.Machine.control g.B.Machine.control (g.S.Site.may s) (g.S.Site.made s) (g.S.Site.seen s) c.args.life.now.left c.args.self.now c.in-Second.b c.args.words.now c.in-Second.is
    (record { left = c.run-in-Second.new.life.left; machine = c.run-in-Second.new.self; words = c.run-in-Second.new.words; turn = c.run-in-Second.result }) c.run-in-Second.ensures c.second_told.result c.second_told.ensures
