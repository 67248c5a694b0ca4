-- the control of a drop of all roots
use Rattle.std.specs.Prelude.{◌+◌, ◌<◌, Bool, ◌==◌, if◌then◌else◌, Option, Some, None, Result, Ok, Err, []}
use Rattle.shm_words.specs.Layout.{GeometryFits}
use Rattle.shm_graph.specs.{declared.ask.Me.Me, Laws.Control}
use Rattle.plans.specs.{declared.calls.Calls.Calls, CallsControl.{calls_control, calls_of}, Steering.Steered}
use Rattle.shm_count.specs.declared.answer.EraSpent.{EraSpent}
use Rattle.shm_ref.specs.declared.{drop_root.DropState.DropState, drop_roots.RootsState.RootsState}
use Rattle.shm_ref.specs.DropRoot.Control.{DropCall, drop_parts, dropping, drop_steered}

-- its calls, each the drop of a root
abbrev pub RootsCall : Type 0
RootsCall = Calls DropState DropCall

-- their control
abbrev pub drop_root : Control RootsCall (Result Bool EraSpent)
drop_root = calls_control drop_parts drop_steered

-- before its first call
abbrev pub dropping_roots : Me → RootsState
dropping_roots me = record { me = me; root = 0 }

abbrev pub roots_call : RootsState → RootsCall
roots_call m = calls_of drop_steered (dropping m.me m.root)

abbrev pub roots_after : RootsState → Result Bool EraSpent → RootsState
roots_after m (Ok z) = if m.root == 15 then m else record m { root = m.root + 1 }
roots_after m (Err e) = m

abbrev pub roots_turns : RootsState → Result Bool EraSpent → Option (Result (Unit {0}) EraSpent)
roots_turns m (Ok z) = if m.root == 15 then Some (Ok tt) else None
roots_turns m (Err e) = Some (Err e)

-- what the control keeps in range
pub record RootsInRange (m : RootsState) : Type 0 where
  pub geometry : GeometryFits m.me.geometry
  pub who : m.me.who < m.me.geometry.clients
  pub root : m.root < 16

-- what the plan does: its identity and its line, its calls, and where it goes by their answers
abbrev pub roots_steered : Steered RootsState RootsCall (Result Bool EraSpent) (Result (Unit {0}) EraSpent)
roots_steered =
    record {
      me = λ m. m.me;
      line = λ m. [];
      first = λ m. m.root == 0;
      start = λ m. record m { root = 0 };
      call = roots_call;
      after = roots_after;
      turns = roots_turns;
    }
