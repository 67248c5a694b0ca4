-- a call of a machine in a run of a pool
use Rattle.std.specs.{Prelude.{◌≡◌, ◌<◌, List, length}, List.filter}
use Rattle.shm_graph.specs.{declared.{ask.Me.Me, run.Move.Move}, Asks.Trail}
use Rattle.shm_graph.specs.{CallEvents.{IsUnbroken, steps_in, events_in}, Events.Event, Laws.Control}
use Rattle.shm_graph.specs.{Runs.{Held, Leads, State}, Tells.{GoesOn, is_event, machine_steps}}

-- in a run from a held state one agent of the identity made the word steps of machine m with this trail, and no other ones
pub record IsCall {S A : Type 0} (k : Control S A) (m : S) (a : State) (ms : List Move) (b : State) (tr : Trail) : Type 0 where
  pub who : (k.me m).who < (k.me m).geometry.clients
  pub account : (k.me m).who < length a.accounts
  pub held : Held (k.me m).geometry a.words a.accounts
  pub run : Leads (k.me m).geometry a ms b
  pub unbroken : IsUnbroken (k.me m).who ms
  pub goes : GoesOn k m tr
  pub steps : steps_in (k.me m).who ms ≡ machine_steps k m tr

-- what the identity did to the graph of references in a run
abbrev pub happened_in : Me → State → List Move → List Event
happened_in me a ms = filter is_event (events_in me.geometry me.who a ms)
