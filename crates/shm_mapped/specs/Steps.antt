-- word steps on words that others change too
use Rattle.std.specs.Prelude.{◌≡◌, ℕ, nat_lt, not, Bool, ◌||◌}
use Rattle.shm_graph.specs.{declared.ask.Ask.Ask, Asks.{at_of, seen_of}}
use Rattle.shm_mapped.specs.declared.site.Found.{Found}

-- whether one of so many words was asked for that there isn't
abbrev pub beyond_after : ℕ → Bool → ℕ → Bool
beyond_after count before at = before || not (nat_lt at count)

-- A word step was asked for at so many words: whether any word was asked for that there isn't, and what was found, which is 0 after a store.
-- Nothing else is known of it: what others do to the words isn't
pub record IsStep (count : ℕ) (before : Found) (a : Ask) (after : Found) : Type 0 where
  pub beyond : after.beyond ≡ beyond_after count before.beyond (at_of a)
  pub found : seen_of a after.word ≡ after.word
