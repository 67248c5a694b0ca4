-- how far a command on tables has come that is made some word steps at a time
use Rattle.std.specs.Prelude.{◌≡◌, ℕ, ◌+◌}
use Rattle.lojarnek.specs.declared.pending.Progress.{Progress, TheVariants.{Pending, Done}}
use Rattle.lojarnek.specs.Pending.{HasAnswered, Started}

-- it goes on by n word steps
pub record GoesOn (n : ℕ) (s s' : Started) : Type 0 where
  pub from : s'.from ≡ s.from
  pub line : s'.line ≡ s.line
  pub steps : s'.now.left + n ≡ s.now.left

-- after n word steps at most it is still the same command, or has ended
abbrev pub Goes : ℕ → Started → Progress → Type 0
Goes n s (Pending s') = GoesOn n s s'
Goes n s (Done c r) = HasAnswered s.line s.from c r
