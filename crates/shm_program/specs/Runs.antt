-- the turns of a closed pool
use Rattle.std.specs.Prelude.{List}
use Rattle.shm_graph.specs.{declared.{memo.Step.Step, run.Move.{Move, TheVariants.Word}}, Asks.at_of}
use Rattle.shm_graph.specs.{Events.{Happens, graph_of}, Laws.event_on}
use Rattle.shm_graph.specs.{Runs.{IsMove, Leads, State, first_state, memos_of, moved}, Sound.IsSound}
use Rattle.shm_graph.specs.{Spots.{classes_in, see, spot_at}, Views.view}
use Rattle.shm_plain.specs.Pools.{Pool}

-- the words of this state, and its memos, are sound
abbrev pub IsSoundState : Pool → State → Type 0
IsSoundState p s = IsSound p.start.geometry (see p.start.geometry s.words) (view (memos_of s.accounts))

-- the turns before this one led from the first state to one in which it could be taken, and the state behind it is sound
pub record IsSoundTurn (p : Pool) (before : List Move) (m : Move) : Type 0 where
  pub state : State
  pub leads : Leads p.start.geometry (first_state p.start) before state
  pub may : IsMove state m
  pub sound : IsSoundState p (moved state m)

-- the turns before this word step led from the first state to one in which it was one event of the graph of references, which the memo and the spot tell
pub record IsOneEvent (p : Pool) (before : List Move) (t : Step) : Type 0 where
  pub state : State
  pub leads : Leads p.start.geometry (first_state p.start) before state
  pub event : let g = p.start.geometry in let s = moved state (Word t) in
      Happens g (see g state.words) (event_on (memos_of state.accounts t.me.who) t (spot_at g (classes_in g state.words) (at_of t.ask))) (graph_of g (see g state.words) (view (memos_of state.accounts))) (graph_of g (see g s.words) (view (memos_of s.accounts)))
