use Rattle.shm_tree.specs.ScriptTexts.{IsScript}
use Rattle.t_texts.proofs.versions.lives.Given as goal

abbrev pub invariant-loop-steps : goal.invariant-loop-steps
invariant-loop-steps l = IsScript l.script
