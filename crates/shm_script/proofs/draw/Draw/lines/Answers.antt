use Rattle.shm_script.specs.Drawing.{drawn_lines}
use Rattle.shm_script.proofs.Drawn.{line_goes_on, lines_done}
use Rattle.shm_script.proofs.draw.Draw.lines.Goals as goal

pub loop-preserved : goal.loop-preserved
loop-preserved c =
    rw c.in_ok-push.ensures.items (line_goes_on c.loop.lines.items c.args.client c.args.size c.loop.counter c.loop.self c.line.new.self c.line.result (drawn_lines c.args.client c.args.size c.args.self.now) c.loop-test.true c.line.ensures c.loop.invariant)

pub returns : goal.returns
returns c = lines_done c.loop.lines.items c.args.client c.args.size c.loop.counter c.loop.self (drawn_lines c.args.client c.args.size c.args.self.now) c.loop-test.false c.loop.invariant
