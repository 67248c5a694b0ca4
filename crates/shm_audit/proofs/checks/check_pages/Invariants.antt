use Rattle.std.proofs.Common.{◌≡◌, ℕ, ◌<◌, ◌≤◌, List, get_or, true}
use Rattle.shm_words.specs.Layout.{pages}
use Rattle.shm_audit.specs.{Faults.is_page_word, Images.numbers, Tallies.AreFrom}
use Rattle.shm_audit.proofs.checks.check_pages.Given as goal

abbrev pub invariant-loop-at : goal.invariant-loop-at
invariant-loop-at l = (ws : List ℕ) → AreFrom ws 0 (numbers l.front) → (a : ℕ) → pages l.fn.geometry ≤ a → a < l.at → is_page_word (get_or ws a 0) ≡ true
