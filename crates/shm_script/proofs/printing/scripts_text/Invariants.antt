use Rattle.std.proofs.Common.{◌≡◌, ◌++◌, take}
use Rattle.std.specs.List.{flat_map}
use Rattle.shm_script.specs.Text.{script_spelled}
use Rattle.shm_script.proofs.printing.scripts_text.Given as goal

abbrev pub invariant-loop-script : goal.invariant-loop-script
invariant-loop-script l = l.text.items ≡ l.fn.text.items ++ flat_map script_spelled (take l.script-index l.scripts)
