-- what a sink holds after a call of the program: what it held before, and a front of one text
use Rattle.std.specs.Prelude.{◌≡◌, ◌⊎◌, ℕ, ◌<◌, ◌≤◌, List, ◌++◌, length, take, Option, Some, None, MatchOption}
use Rattle.shm_program.specs.{Outcomes.{JobAnswers, Asks, Sides, usage_text}, Reads.most_of, Words.job_of}
use Rattle.shm_program.specs.declared.outcome.Finished.{Finished}

-- the text that these words and the bytes that were read give: the usage line where the words aren't accepted, and otherwise the answer to the bytes
abbrev pub IsTextOf : List (List ℕ) → List ℕ → List ℕ → Type 0
IsTextOf words bytes text = ((job_of words ≡ None) × (text ≡ usage_text)) ⊎ Asks words (λ job. (status : ℕ) × (made : Finished) × JobAnswers job bytes status made text)

-- these are the first bytes of those that the source had left, where it tells them: all, or as many as are read at most
abbrev pub AreFirst : ℕ → Option (List ℕ) → List ℕ → Type 0
AreFirst most before bytes = MatchOption before (length bytes ≤ most) (λ left. bytes ≡ take most left)

-- a call stops without a text: a read failed, or memory was wanting
abbrev pub IsStopped : ℕ → Type 0
IsStopped code = (code ≡ 4) ⊎ (code ≡ 6)

-- it was answered: done, or its words or its input were refused
abbrev pub IsAnswered : ℕ → Type 0
IsAnswered code = (code ≡ 0) ⊎ ((code ≡ 2) ⊎ (code ≡ 3))

-- a call that ended with this status wrote the first bytes of the text behind those that the sink held
pub record HoldsFront (code : ℕ) (held : List ℕ) (after : Option (List ℕ)) (text : List ℕ) : Type 0 where
  -- so many of them
  pub many : ℕ
  pub front : after ≡ Some (held ++ take many text)
  -- nothing where it stopped
  pub none : IsStopped code → many ≡ 0
  -- not all of them where a write failed
  pub cut : code ≡ 5 → many < length text
  -- all where it was answered
  pub whole : IsAnswered code → many ≡ length text

-- the same where the sink tells what it holds
abbrev pub Grows : ℕ → Option (List ℕ) → Option (List ℕ) → List ℕ → Type 0
Grows code before after text = MatchOption before (after ≡ None) (λ held. HoldsFront code held after text)

-- a call with these words wrote a front of a text, and unless it stopped that is the text that the words and the bytes that it read give
pub record WritesFrontOf (words : List (List ℕ)) (old new : Sides) (code : ℕ) : Type 0 where
  pub bytes : List ℕ
  pub read : AreFirst (most_of (job_of words)) old.left bytes
  pub text : List ℕ
  pub is : IsStopped code ⊎ IsTextOf words bytes text
  pub grown : Grows code old.held new.held text
