use Rattle.std.proofs.Common.{refl}
use Rattle.shm_graph.proofs.Machines.ManySteps.{mapped_goes, mapped_runs}
use Rattle.shm_table.specs.Command.{given}
use Rattle.shm_table.proofs.command.run_told.Goals as goal

pub run-requires : goal.run-requires
run-requires g c =
    let s = c.args.site.now in
    mapped_goes given g.M.Machine.control (g.S.Site.may s) (g.S.Site.made s) (g.S.Site.seen s) c.args.life.now.left c.args.one.now c.args.one.now c.args.words.now refl c.requires

pub returns : goal.returns
returns g c =
    let s = c.args.site.now in
    let r = c.run in
    mapped_runs given g.M.Machine.control (g.S.Site.may s) (g.S.Site.made s) (g.S.Site.seen s) c.args.life.now.left c.args.one.now c.args.one.now c.args.words.now refl
    (record { left = r.new.life.left; machine = r.new.self; words = r.new.words; turn = r.result }) r.ensures c.told.result c.told.ensures
