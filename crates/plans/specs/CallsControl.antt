-- the control of a machine that makes the calls of a plan
use Rattle.std.specs.Prelude.{ℕ, ◌&&◌, Option, Some, None}
use Rattle.shm_graph.specs.{Events.Event, Laws.Control}
use Rattle.plans.specs.{declared.calls.Calls.Calls, Plans.Planned, Steering.Steered}

-- a plan, and its next call before its first word step
abbrev pub calls_of : {P C B A : Type 0} → Steered P C B A → P → Calls P C
calls_of q p = record { plan = p; call = q.call p }

module _ {P C B A : Type 0} (k : Control C B) (q : Steered P C B A) where
  -- where the plan goes after an answer of the call c: its next call is made, or it has answered
  abbrev pub planned : C → P → Option A → Calls P C
  planned c p None = calls_of q p
  planned c p (Some a) = record { plan = p; call = c }

  abbrev pub called_on : P → C → Option B → Calls P C
  called_on p c None = record { plan = p; call = c }
  called_on p c (Some b) = planned c (q.after p b) (q.turns p b)

  abbrev pub answered : P → Option B → Option A
  answered p None = None
  answered p (Some b) = q.turns p b

  abbrev pub calls_control : Control (Calls P C) A
  calls_control =
      record {
        me = λ m. q.me m.plan;
        line = λ m. q.line m.plan;
        fresh = λ m. q.first m.plan && k.fresh m.call;
        finished = λ m. k.finished m.call;
        asks = λ m. k.asks m.call;
        after = λ m n. called_on m.plan (k.after m.call n) (k.turns m.call n);
        turns = λ m n. answered m.plan (k.turns m.call n);
      }

  -- the machine before its first word step
  abbrev pub calls_start : Calls P C → Calls P C
  calls_start m = calls_of q (q.start m.plan)

module _ {P C B A : Type 0} (k : Control C B) (q : Planned P C B A) where
  -- it tells of the events of its calls
  abbrev pub calls_does : Calls P C → ℕ → Event
  calls_does m n = (q.part m.plan).does m.call n
