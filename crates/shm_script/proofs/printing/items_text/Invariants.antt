use Rattle.std.proofs.Common.{◌≡◌, ◌++◌, take}
use Rattle.std.specs.List.{flat_map}
use Rattle.shm_script.specs.Text.{item_spelled}
use Rattle.shm_script.proofs.printing.items_text.Given as goal

abbrev pub invariant-loop-item : goal.invariant-loop-item
invariant-loop-item l = l.text.items ≡ l.fn.text.items ++ flat_map item_spelled (take l.item-index l.items)
