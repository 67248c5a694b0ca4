-- word steps: what is asked, what is seen, and what becomes of the words
use Rattle.std.specs.Prelude.{ℕ, ◌+◌, ◌*◌, ◌≤◌, Bool, ◌==◌, if◌then◌else◌, List, [], ◌∷◌, ◌++◌, length, slice_index, slice_set}
use Rattle.shm_graph.specs.declared.{ask.Ask.{Ask, TheVariants.{Load, Store, Exchange}}, spot.Spot.Spot, memo.Seen.Seen}
use Rattle.shm_graph.specs.Spots.{upd}

-- what a machine has asked, each with what it found
abbrev pub Trail : Type 0
Trail = List Seen

abbrev pub at_of : Ask → ℕ
at_of (Load at) = at
at_of (Store at value) = at
at_of (Exchange at from to) = at

-- what the asker is given, where the word was n
abbrev pub seen_of : Ask → ℕ → ℕ
seen_of (Load at) n = n
seen_of (Store at value) n = 0
seen_of (Exchange at from to) n = n

-- the word afterwards, where it was n
abbrev pub word_after : Ask → ℕ → ℕ
word_after (Load at) n = n
word_after (Store at value) n = value
word_after (Exchange at from to) n = if n == from then to else n

-- the words after the step at a spot
abbrev pub words_after : (Spot → ℕ) → Ask → Spot → Spot → ℕ
words_after w (Load at) p = w
words_after w (Store at value) p = upd w p value
words_after w (Exchange at from to) p = if w p == from then upd w p to else w

-- the list of words after the step
abbrev pub words_set : Ask → List ℕ → List ℕ
words_set ask ws = slice_set ws (at_of ask) (word_after ask (slice_index ws (at_of ask)))

abbrev pub pair : Ask → ℕ → Seen
pair a n = record { ask = a; word = n }

-- the call so far, which the first step of a machine empties, and the call with one more pair
abbrev pub call_before : Bool → List Seen → List Seen
call_before fresh call = if fresh then [] else call

abbrev pub call_after : Bool → List Seen → Ask → ℕ → List Seen
call_after fresh call a n = call_before fresh call ++ pair a n ∷ []

-- whether an exchange found another word than it names, as a number
abbrev pub failed_by : Ask → ℕ → ℕ
failed_by (Exchange at from to) n = if n == from then 0 else 1
failed_by _ n = 0

-- how many exchanges of a trail failed
abbrev pub failed : Trail → ℕ
failed [] = 0
failed (s ∷ tr) = failed_by s.ask s.word + failed tr

-- the trail has at most n pairs, and three more for each exchange that failed: what is tried again loads a header and raises a row
abbrev pub IsWithin : ℕ → Trail → Type 0
IsWithin n tr = length tr ≤ n + 3 * failed tr
