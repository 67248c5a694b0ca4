use Rattle.shm_graph.proofs.Runs.EraRises.{turn_eras}
use Rattle.shm_graph.proofs.Runs.TurnsTaken.{turn_placed, turn_others, turn_allocated, turn_authored, turn_shaped, turn_raised, turn_changed, turn_freed, turn_rows}
use Rattle.shm_graph.proofs.history.word_turns.Goals as goal

pub returns-clause-others : goal.returns-clause-others
returns-clause-others c = turn_others

pub returns-clause-allocated : goal.returns-clause-allocated
returns-clause-allocated c = turn_allocated

pub returns-clause-raised : goal.returns-clause-raised
returns-clause-raised c = turn_raised

pub returns-clause-changed : goal.returns-clause-changed
returns-clause-changed c = turn_changed

pub returns-clause-freed : goal.returns-clause-freed
returns-clause-freed c = turn_freed

pub returns-clause-rows : goal.returns-clause-rows
returns-clause-rows c = turn_rows

pub returns-clause-eras : goal.returns-clause-eras
returns-clause-eras c = turn_eras

pub returns-clause-placed : goal.returns-clause-placed
returns-clause-placed c = turn_placed

pub returns-clause-authored : goal.returns-clause-authored
returns-clause-authored c = turn_authored

pub returns-clause-shaped : goal.returns-clause-shaped
returns-clause-shaped c = turn_shaped
