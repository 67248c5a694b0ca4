-- what a count step does to the graph of references, where its slot is the spot p
use Rattle.std.specs.Prelude.{ℕ, Bool, ◌==◌, if◌then◌else◌, List, [], ◌∷◌, Result, Ok, Err}
use Rattle.shm_graph.specs.{declared.{ask.Me.Me, spot.Spot.Spot}, Events.Event}
use Rattle.shm_graph.specs.Events as event
use Rattle.shm_count.specs.declared.{answer.UpFault.UpFault, point.Aim.{Aim, TheVariants.{Up, Down, Change}}}
use Rattle.shm_count.specs.declared.point.{Half.{Half, TheVariants.{First, Second}}, StepPoint.StepPoint}
use Rattle.shm_count.specs.declared.point.StepState.{StepState}
use Rattle.shm_count.specs.declared.point.StepPoint.TheVariants as point

-- the event of the exchange of a half
abbrev pub event_of_half : Me → Aim → Spot → Half → Event
event_of_half me (Up b) p h = event.Up me.who p b
event_of_half me (Down b) p h = event.Down me.who p b
event_of_half me (Change a b) p First = event.ChangeUp me.who p a b
event_of_half me (Change a b) p Second = event.ChangeDown me.who a

-- the event of a step: that of an exchange that finds the header that it names
abbrev pub step_event_at : Me → Aim → Spot → StepPoint → ℕ → Event
step_event_at me x p (point.Exchange e h w) n = if n == w then event_of_half me x p h else event.Nothing
step_event_at me x p y n = event.Nothing

abbrev pub step_event : Spot → StepState → ℕ → Event
step_event p m n = step_event_at m.me m.aim p m.point n

-- the events before a half
abbrev pub events_before : Me → Aim → Spot → Half → List Event
events_before me x p First = []
events_before me x p Second = event_of_half me x p First ∷ []

-- the events up to a point
abbrev pub events_at : Me → Aim → Spot → StepPoint → List Event
events_at me x p (point.Load e h) = events_before me x p h
events_at me x p (point.Row e h w) = events_before me x p h
events_at me x p (point.Show e h w) = events_before me x p h
events_at me x p (point.Exchange e h w) = events_before me x p h
events_at me x p (point.Slot e z) = event_of_half me x p First ∷ []
events_at me x p (point.Close e First z) = event_of_half me x p First ∷ []
events_at me x p (point.Close e Second z) = event_of_half me x p First ∷ event_of_half me x p Second ∷ []
events_at me x p y = []

-- the events of an answer: all of the step's, or none
abbrev pub own_events : Me → Aim → Spot → Result Bool UpFault → List Event
own_events me (Change a b) p (Ok z) = event.ChangeUp me.who p a b ∷ event.ChangeDown me.who a ∷ []
own_events me x p (Ok z) = event_of_half me x p First ∷ []
own_events me x p (Err f) = []

-- a count step before its first word step
abbrev pub step_start : StepState → StepState
step_start m = record m { point = point.Era }
