-- what an allocation does to the graph of references: the exchange of the header makes the block live in the root
use Rattle.std.specs.Prelude.{ℕ, List, [], ◌∷◌, Result, Ok, Err}
use Rattle.shm_graph.specs.{declared.ask.Me.Me, Events.Event}
use Rattle.shm_graph.specs.Events as event
use Rattle.shm_count.specs.declared.answer.Made.{Made}
use Rattle.shm_alloc.specs.declared.{alloc.AllocFault.AllocFault, point.AllocPoint.AllocPoint}
use Rattle.shm_alloc.specs.declared.point.{AllocPoint.TheVariants.{Era, Commit, Slot, Close}, AllocState.AllocState}

-- the event of a step
abbrev pub alloc_event_at : Me → AllocPoint → ℕ → Event
alloc_event_at me (Commit g b) n = event.Alloc me.who g.root b
alloc_event_at me p n = event.Nothing

-- and the event of the step that an allocation is at
abbrev pub alloc_event : AllocState → ℕ → Event
alloc_event m n = alloc_event_at m.me m.point n

-- the events up to a point
abbrev pub events_at : Me → AllocPoint → List Event
events_at me (Slot g b) = event.Alloc me.who g.root b ∷ []
events_at me (Close g b) = event.Alloc me.who g.root b ∷ []
events_at me p = []

-- the events of an answer: one allocation in the root answered, or none
abbrev pub own_events : Me → Result Made AllocFault → List Event
own_events me (Ok a) = event.Alloc me.who a.root a.block ∷ []
own_events me (Err f) = []

-- an allocation before its first step
abbrev pub alloc_start : AllocState → AllocState
alloc_start m = record m { point = Era }
