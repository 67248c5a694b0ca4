-- the controls of machines that larger ones call, and a closing
use Rattle.std.specs.Prelude.{Result}
use Rattle.shm_graph.specs.Laws.{Control}
use Rattle.plans.specs.{declared.{calls.Calls.Calls, word.Word.Word}, CallsControl.calls_control, Words.word_control}
use Rattle.shm_count.specs.declared.answer.EraSpent.{EraSpent}
use Rattle.shm_ref.specs.declared.{answer.Busy.Busy, hold.HoldState.HoldState, drop_roots.RootsState.RootsState}
use Rattle.shm_ref.specs.{Hold.Control.hold_steered, DropRoots.Control.{RootsCall, drop_root, roots_steered}}

-- ---- the drop of all roots

abbrev pub drop_roots : Control (Calls RootsState RootsCall) (Result (Unit {0}) EraSpent)
drop_roots = calls_control drop_root roots_steered

-- ---- the taking of the latch of a

abbrev pub hold : Control (Calls HoldState Word) (Result (Unit {0}) Busy)
hold = calls_control word_control hold_steered
