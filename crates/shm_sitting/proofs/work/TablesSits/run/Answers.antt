use Rattle.shm_sitting.proofs.Working.{command_ran, life_ran}
use Rattle.shm_sitting.proofs.work.TablesSits.run.Goals as goal

pub returns-in-Lives : goal.returns-in-Lives
returns-in-Lives g c =
    let s = c.args.site.now in
    life_ran (g.T.Site.made s) (g.T.Site.seen s) c.args.life.now.left c.args.work.now c.args.words.now c.of_life.result c.in-Lives.machine c.in-Lives.is
    (record { left = c.run.new.life.left; machine = c.run.new.self; words = c.run.new.words; answer = c.run.result }) c.run.ensures c.of_life.ensures

pub returns-in-Command : goal.returns-in-Command
returns-in-Command g c =
    let s = c.args.site.now in
    command_ran (g.T.Site.made s) (g.T.Site.seen s) c.args.life.now.left c.args.work.now c.args.words.now c.of_command.result c.in-Command.machine c.in-Command.is
    (record { left = c.work_at.new.life.left; machine = c.work_at.new.machine; words = c.work_at.new.words; answer = c.work_at.result }) c.work_at.ensures c.of_command.ensures
