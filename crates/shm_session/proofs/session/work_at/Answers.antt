use Rattle.shm_session.proofs.Working.{may_run, worked_on, worked_so}
use Rattle.shm_session.proofs.session.work_at.Goals as goal

pub run-requires : goal.run-requires
run-requires g c =
    let s = c.args.site.now in
    may_run g.M.Machine.control g.met.M.Machine.laws.steady (g.T.Site.may s) (g.T.Site.made s) (g.T.Site.seen s) c.requires.free c.args.life.now.left c.args.machine.now c.args.words.now c.requires.going

pub returns-in-Done : goal.returns-in-Done
returns-in-Done g c =
    let s = c.args.site.now in
    worked_so g.M.Machine.control g.met.M.Machine.laws.steady (g.T.Site.may s) (g.T.Site.made s) (g.T.Site.seen s) c.args.life.now.left c.args.machine.now c.args.words.now
    (record { left = c.run.new.life.left; machine = c.run.new.self; words = c.run.new.words; turn = c.run.result }) c.in-Done.answer c.in-Done.is c.requires.going c.run.ensures

pub returns-in-More : goal.returns-in-More
returns-in-More g c =
    let s = c.args.site.now in
    worked_on g.M.Machine.control g.met.M.Machine.laws.steady (g.T.Site.may s) (g.T.Site.made s) (g.T.Site.seen s) c.args.life.now.left c.args.machine.now c.args.words.now
    (record { left = c.run.new.life.left; machine = c.run.new.self; words = c.run.new.words; turn = c.run.result }) c.in-More.is c.requires.going c.run.ensures
