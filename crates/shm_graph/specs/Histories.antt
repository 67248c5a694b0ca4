-- the turns on the way of a run
use Rattle.shm_words.specs.declared.geometry.Geometry.{Geometry}
use Rattle.shm_graph.specs.{declared.{memo.Step.Step, run.Move.Move}, Asks.at_of, Events.Event, Laws.event_on}
use Rattle.shm_graph.specs.{Runs.{Held, IsMove, State, Turned, memos_of}, Spots.{classes_in, spot_at}}

-- in a state that holds this turn is taken
pub record IsTaken (g : Geometry) (s : State) (m : Move) : Type 0 where
  pub held : Held g s.words s.accounts
  pub is : IsMove s m
  pub turned : Turned g s m

-- the event of a word step in a state
abbrev pub event_at : Geometry → State → Step → Event
event_at g s t = event_on (memos_of s.accounts t.me.who) t (spot_at g (classes_in g s.words) (at_of t.ask))
