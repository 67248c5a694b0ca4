-- what is written of a trace's replay
use Rattle.std.specs.Prelude.{◌≡◌, ℕ, List}
use Rattle.shm_plain.specs.Pools.{Pool, first_pool}
use Rattle.shm_script.specs.Values.{Traced}
use Rattle.shm_replay.specs.{Orders.IsGivenAll, Replays.start_of}
use Rattle.shm_watch.specs.{Columns.told_of, Turns.shown_of}
use Rattle.run_view.specs.{declared.window.Window.Window, Tables.steps_text}

-- the table of what the turns show that it gives
abbrev pub IsStepsText : Traced → Window → List ℕ → Type 0
IsStepsText t w text = (p : Pool) × IsGivenAll t (first_pool (start_of t)) p × (text ≡ steps_text w (told_of t (shown_of p.turns)))
