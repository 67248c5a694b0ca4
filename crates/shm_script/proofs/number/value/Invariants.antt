use Rattle.std.proofs.Common.{◌≡◌, ℕ, drop}
use Rattle.std.specs.Str.{all_ascii_digits}
use Rattle.shm_script.specs.Numbers.{small, value_after}
use Rattle.shm_script.proofs.number.value.Given as goal

abbrev pub invariant-loop-byte : goal.invariant-loop-byte
invariant-loop-byte l = (n : ℕ) × (l.value ≡ small n) × (value_after n (drop l.byte-index l.word) ≡ value_after 0 l.word) × (all_ascii_digits (drop l.byte-index l.word) ≡ all_ascii_digits l.word)
