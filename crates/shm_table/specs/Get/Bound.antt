-- how many word steps taking a latch and looking for a key take, and reading what a key has: by the number of the entries whose key was read
use Rattle.std.proofs.Common.{◌≡◌, ℕ, ◌+◌, List, ◌++◌, length}
use Rattle.shm_graph.specs.{declared.ask.Me.Me, Asks.{Trail, IsWithin}}
use Rattle.shm_script.specs.declared.log.Answer.{Answer}
use Rattle.shm_script.specs.declared.log.Answer.TheVariants as answer
use Rattle.shm_table.specs.{declared.find.Found.{Found, TheVariants.Absent}, Find.{Bound.IsWhole, Control.Passed}}
use Rattle.shm_table.specs.{Get.{found_trail, number_trail}, Unlatch.unlatch_trail}

-- ---- the latch and the search

-- tries for the latch, of which only the last one found it free, and the search
abbrev pub LocateAsked : Me → ℕ → ℕ → List Passed → Trail → Found → Type 0
LocateAsked me a key ps tr b = (before : Trail) × (after : Trail) × (tr ≡ before ++ after) × IsWithin 2 before × IsWhole me a key ps after b

-- ---- what a key has

-- besides these, the two loads where the entry was found, and the giving back of the latch
abbrev pub GetAsked : Me → ℕ → ℕ → List Passed → Trail → Answer → Type 0
GetAsked me a key ps tr answer.Missing = (before : Trail) × (walk : Trail) × (home : ℕ) × (first : ℕ) × (tr ≡ before ++ (walk ++ unlatch_trail me a)) × IsWithin 2 before × IsWhole me a key ps walk (Absent home first)
GetAsked me a key ps tr (answer.Value n v) = (before : Trail) × (home : ℕ) × (entry : ℕ) × (tr ≡ before ++ (found_trail me a key home ps entry ++ (number_trail entry v n ++ unlatch_trail me a))) × IsWithin 2 before
GetAsked me a key ps tr b = ⊥

-- how many keys were read
abbrev pub keys_got : List Passed → Answer → ℕ
keys_got ps (answer.Value n v) = length ps + 1
keys_got ps b = length ps
