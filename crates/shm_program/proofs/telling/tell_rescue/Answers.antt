use Rattle.std.proofs.Common.{refl}
use Rattle.shm_program.specs.Replays.{team_pool}
use Rattle.shm_program.proofs.Tellings.{text_told}
use Rattle.shm_program.proofs.telling.tell_rescue.Goals as goal

pub returns : goal.returns
returns g c =
    let run = c.in_ok-run.run' in
    let (turns, r) = c.in_ok-run.ensures in
    let text = text_told c.args.form (team_pool run turns) run.logs.items c.deref.result.now c.geometry.result c.words.result.now c.in_ok-text.text.items r.table c.geometry.ensures c.words.ensures.words c.deref.ensures.value r.closed r.is c.in_ok-text.ensures in
    (refl, (record { run = run; kept = refl; turns = turns; team = r }, text))
