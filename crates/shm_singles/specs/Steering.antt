-- machines that come one after the other, as one control
use Rattle.std.specs.Prelude.{◌&&◌, Option, Some, None}
use Rattle.shm_graph.specs.Laws.{Control}
use Rattle.plans.specs.Steering.{Steered}
use Rattle.shm_singles.specs.declared.steering.Steering.{Steering}

-- what steers, and its next machine before its first word step
abbrev pub steering_of : {P C B A : Type 0} → Steered P C B A → P → Steering P C
steering_of q p = record { by = p; call = q.call p }

module _ {P C B A : Type 0} (k : Control C B) (q : Steered P C B A) where
  -- where it goes after an answer of the machine c: the next one is made, or it has answered
  abbrev pub steered_to : C → P → Option A → Steering P C
  steered_to c p None = steering_of q p
  steered_to c p (Some a) = record { by = p; call = c }

  -- the machine c goes on, or it has answered
  abbrev pub gone_on : P → C → Option B → Steering P C
  gone_on p c None = record { by = p; call = c }
  gone_on p c (Some b) = steered_to c (q.after p b) (q.turns p b)

  -- what is answered then
  abbrev pub answered : P → Option B → Option A
  answered p None = None
  answered p (Some b) = q.turns p b

  -- the control of what steers, with its machine
  abbrev pub steering_control : Control (Steering P C) A
  steering_control =
      record {
        me = λ m. q.me m.by;
        line = λ m. q.line m.by;
        fresh = λ m. q.first m.by && k.fresh m.call;
        finished = λ m. k.finished m.call;
        asks = λ m. k.asks m.call;
        after = λ m n. gone_on m.by (k.after m.call n) (k.turns m.call n);
        turns = λ m n. answered m.by (k.turns m.call n);
      }
