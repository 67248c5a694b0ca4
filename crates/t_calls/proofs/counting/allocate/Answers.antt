use Rattle.std.proofs.Common.{ap, ◌∙◌}
use Rattle.t_calls.specs.Known.{told}
use Rattle.t_calls.proofs.{Knowing.after_ran, Answered.makes}
use Rattle.t_calls.proofs.counting.allocate.Goals as goal

pub returns-in_ok-tell-in-Ok : goal.returns-in_ok-tell-in-Ok
returns-in_ok-tell-in-Ok c =
    let said = c.in-Ok.ensures in
    after_ran c.args.client.who c.args.pool.now c.allocate.new.pool _ _ _ _ _ said.ran
    (makes c.args.client.known c.args.client.who c.args.pool.now c.allocate.new.pool _ c.requires.known _ _ _ c.in-Ok.answer (c.told.ensures ∙ ap (told c.in-Ok.answer) c.kept.ensures) said.at_work said.kind said.gives)
