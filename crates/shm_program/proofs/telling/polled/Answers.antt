use Rattle.std.proofs.Common.{refl}
use Rattle.shm_program.specs.{Replays.team_pool, declared.words.Form.TheVariants.Report}
use Rattle.shm_program.proofs.Tellings.{text_told}
use Rattle.shm_program.proofs.telling.polled.Goals as goal

pub returns : goal.returns
returns c =
    let run = c.args.run in
    (refl, refl, λ turns closed table is. text_told Report (team_pool run turns) run.logs.items c.deref.result.now c.geometry.result c.words.result.now c.in_ok-text.text.items table c.geometry.ensures c.words.ensures.words c.deref.ensures.value closed is c.in_ok-text.ensures)
