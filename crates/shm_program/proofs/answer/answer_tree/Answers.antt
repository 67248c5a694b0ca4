use Rattle.std.proofs.lemmas.Result.{IfOk-weaker}
use Rattle.shm_tree.specs.ScriptTexts.{SpellsScript}
use Rattle.shm_program.proofs.{JobAnswers.tree_told, SpelledScripts.read_spelled}
use Rattle.shm_program.proofs.answer.answer_tree.Goals as goal

pub tell_tree-requires : goal.tell_tree-requires
tell_tree-requires c = (read_spelled c.args.bytes.now c.in-Ok.script c.in-Ok.ensures).0

pub returns-in-Ok : goal.returns-in-Ok
returns-in-Ok c =
    let s : SpellsScript c.args.bytes.now c.in-Ok.script = read_spelled c.args.bytes.now c.in-Ok.script c.in-Ok.ensures in
    IfOk-weaker c.tell_tree.result _ _ (λ r h. tree_told c.args.bytes.now c.in-Ok.script r.status r.finished r.text.items s h) c.tell_tree.ensures
