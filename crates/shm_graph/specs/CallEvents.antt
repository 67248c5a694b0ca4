-- the events of the word steps of one identity
use Rattle.std.specs.Prelude.{ℕ, ◌≢◌, Bool, false, ◌==◌, if◌then◌else◌, List, [], ◌∷◌}
use Rattle.shm_words.specs.declared.geometry.Geometry.{Geometry}
use Rattle.shm_graph.specs.declared.{ask.Me.Me, memo.{Memo.Memo, Step.Step}, run.Move.Move}
use Rattle.shm_graph.specs.{declared.run.Move.TheVariants.{Word, Dies, Begins}, Spots.{spot_at, classes_in}}
use Rattle.shm_graph.specs.{Asks.{Trail, at_of}, Changes.{memo_after, asked_spot}, Events.Event, Laws.event_on}
use Rattle.shm_graph.specs.Runs.{State, memos_of, moved}

-- the steps of a call, of its pairs: the first is the machine's first one where the call is fresh, and the last ends the machine where the call is whole
abbrev pub steps_of_call : Me → List ℕ → Bool → Bool → Trail → List Step
steps_of_call me line fresh whole [] = []
steps_of_call me line fresh whole (s ∷ []) = record { me = me; line = line; fresh = fresh; ends = whole; ask = s.ask; seen = s.word } ∷ []
steps_of_call me line fresh whole (s ∷ u ∷ tr) = record { me = me; line = line; fresh = fresh; ends = false; ask = s.ask; seen = s.word } ∷ steps_of_call me line false whole (u ∷ tr)

-- the events of these steps of an identity, from its memo before them: the words of the pool don't enter
abbrev pub events_of : Memo → List Step → List Event
events_of m [] = []
events_of m (t ∷ ts) = event_on m t ((asked_spot m t)) ∷ events_of (memo_after m t) ts

-- the word steps of c among these turns
abbrev pub steps_in : ℕ → List Move → List Step
steps_in c [] = []
steps_in c (Word t ∷ ms) = if t.me.who == c then t ∷ steps_in c ms else steps_in c ms
steps_in c (Dies d ∷ ms) = steps_in c ms
steps_in c (Begins d k ∷ ms) = steps_in c ms

-- the turns of c among these
abbrev pub own_turns : ℕ → List Move → List Move
own_turns c [] = []
own_turns c (Word t ∷ ms) = if t.me.who == c then Word t ∷ own_turns c ms else own_turns c ms
own_turns c (Dies d ∷ ms) = if d == c then Dies d ∷ own_turns c ms else own_turns c ms
own_turns c (Begins d k ∷ ms) = if d == c then Begins d k ∷ own_turns c ms else own_turns c ms

-- the events of c's word steps in a run from a state
abbrev pub events_in : Geometry → ℕ → State → List Move → List Event
events_in g c s [] = []
events_in g c s (Word t ∷ ms) =
    if t.me.who == c then event_on (memos_of s.accounts c) t (spot_at g (classes_in g s.words) (at_of t.ask)) ∷ events_in g c (moved s (Word t)) ms
    else events_in g c (moved s (Word t)) ms
events_in g c s (Dies d ∷ ms) = events_in g c (moved s (Dies d)) ms
events_in g c s (Begins d k ∷ ms) = events_in g c (moved s (Begins d k)) ms

-- no agent of c dies or begins in these turns
abbrev pub IsUnbroken : ℕ → List Move → Type 0
IsUnbroken c [] = Unit {0}
IsUnbroken c (Word t ∷ ms) = IsUnbroken c ms
IsUnbroken c (Dies d ∷ ms) = (c ≢ d) × IsUnbroken c ms
IsUnbroken c (Begins d k ∷ ms) = (c ≢ d) × IsUnbroken c ms
