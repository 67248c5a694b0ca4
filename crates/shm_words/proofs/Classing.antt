-- the classes of blocks
use Rattle.std.proofs.{Common.{ℕ, ◌+◌, ◌≤◌, arith}, lemmas.Bool.Decides.nat_tests}
use Rattle.shm_words.specs.Classes.{IsClass, class_for}

pub class_is : (refs plain : ℕ) → IsClass (class_for refs plain)
class_is refs plain = grind (arith, nat_tests)

-- a header, a tag and the words have room
pub class_room : (refs plain : ℕ) → refs ≤ 16 → plain ≤ 8 → 2 + refs + plain ≤ class_for refs plain
class_room refs plain r p = grind (arith, nat_tests)
