use Rattle.std.proofs.Common.{◌≡◌, ◌++◌, take}
use Rattle.shm_view.specs.Svg.{escaped}
use Rattle.shm_view.proofs.svg.push_escaped.Given as goal

abbrev pub invariant-loop-byte : goal.invariant-loop-byte
invariant-loop-byte l = l.text.items ≡ l.initial.text.items ++ escaped (take l.byte-index l.word)
