use Rattle.std.proofs.Common.{◌≡◌, drop}
use Rattle.shm_script.specs.Faults.{items_fit}
use Rattle.shm_script.proofs.ManyWords.{with_front}
use Rattle.shm_script.proofs.judge.fit_items.Given as goal

abbrev pub invariant-loop-item : goal.invariant-loop-item
invariant-loop-item l = with_front l.fit.items (items_fit l.clients (drop l.item-index l.items)) ≡ items_fit l.clients l.items
