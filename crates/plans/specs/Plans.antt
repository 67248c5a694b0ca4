-- plans: what is known between the calls, and what a plan owes
use Rattle.std.specs.Prelude.{◌≡◌, ℕ, zero, suc, Bool, false, Option, Some, None, List, ◌++◌}
use Rattle.shm_graph.specs.{declared.{ask.Me.Me, memo.Memo.Memo}, Agents.recovers, Asks.Trail, Events.Event}
use Rattle.shm_graph.specs.{Laws.{Control, Outcome}, Trails.{Answers, Joined}}
use Rattle.plans.specs.{Parts.{IsHeld, Part, PartLaws}, Steering.Steered}

-- What a plan does, and what its proof knows between the calls
pub record Planned (P C B A : Type 0) : Type 1 where
  pub steered : Steered P C B A
  -- the part that the call is
  pub part : P → Part C B
  -- of the memo before the first call, the memo now, what was asked and the events: what is known before the next call, and what is known in the end, of the plan before its first call
  pub knows : P → Memo → Memo → Trail → List Event → Type 0
  pub leaves : P → Memo → Memo → Trail → List Event → A → Type 0

module _ {P C B A : Type 0} (k : Control C B) (q : Planned P C B A) where
  -- its identity and its line stay, a call has answered, and it is still the plan of what it was
  pub record PlanStays (p : P) (b : B) : Type 0 where
    pub same_me : q.steered.me (q.steered.after p b) ≡ q.steered.me p
    pub same_line : q.steered.line (q.steered.after p b) ≡ q.steered.line p
    pub same_start : q.steered.start (q.steered.after p b) ≡ q.steered.start p
    pub started : q.steered.turns p b ≡ None → q.steered.first (q.steered.after p b) ≡ false

  -- a call that is made is one of the same identity, and has something to ask
  pub record IsCall (p : P) : Type 0 where
    pub me : k.me (q.steered.call p) ≡ q.steered.me p
    pub asks : k.finished (q.steered.call p) ≡ false

  -- once a call has answered: what is known before the next one, or what is left
  abbrev pub Follows : P → B → Memo → Memo → Trail → List Event → Type 0
  Follows p b r0 r tr es = Outcome (q.steered.turns p b) (q.knows (q.steered.after p b) r0 r tr es) (q.leaves (q.steered.start p) r0 r tr es)

  -- What is owed of the plan: that the calls are parts, that what is known before a call is what it needs, and that what it leaves leads on. The memo was rs at the begin of the call and is r at its end, t is what it asked and ds are its events
  pub record PlanLaws : Type 0 where
    pub stays : (p : P) (b : B) → PlanStays p b
    pub calls : (p : P) → IsCall p
    pub parts : (p : P) → PartLaws (q.steered.first p) k (q.part p)
    pub opens : (p : P) (r0 r : Memo) (tr : Trail) (es : List Event) → q.knows p r0 r tr es → (q.part p).needs (q.steered.call p) r
    pub leads : (p : P) (r0 rs r : Memo) (tr t : Trail) (es ds : List Event) (b : B) → q.knows p r0 rs tr es → (q.part p).leaves (q.steered.call p) rs r t ds b → IsHeld (q.steered.me p) r → recovers r ≡ recovers rs → Follows p b r0 r (tr ++ t) (es ++ ds)

-- ---- trails

module _ {P C B A : Type 0} (q : Planned P C B A) where
  -- what is asked from a call on, where at most n calls come, and after a call by what follows it
  abbrev pub go_on : (P → Trail → A → Type 0) → P → Option A → Trail → A → Type 0
  go_on on p None = on p
  go_on on p (Some a) = Answers a

  abbrev pub calls_asked : ℕ → P → Trail → A → Type 0
  calls_asked zero p tr a = ⊥
  calls_asked (suc n) p tr a = Joined ((q.part p).asks (q.steered.call p)) (λ b. go_on (calls_asked n) (q.steered.after p b) (q.steered.turns p b)) tr a

  -- all that a plan asks: one call after the other, until it answers
  abbrev pub plan_trail : P → Trail → A → Type 0
  plan_trail p tr a = (n : ℕ) × calls_asked n p tr a
