-- sessions, by what the operations of their identities do
use Rattle.std.specs.Prelude.{ℕ, ◌==◌, if◌then◌else◌, Bool, true, false, Option, Some, None, Result, Ok, Err}
use Rattle.std.specs.Option.{is_some}
use Rattle.shm_graph.specs.{declared.ask.{Ask.{Ask, TheVariants.{Load, Store, Exchange}}, Me.Me}, Laws.Control}
use Rattle.shm_session.specs.declared.said.{Call.Call, Misuse.Misuse, Reply.Reply, Said.Said, Stage.Stage}
use Rattle.shm_session.specs.declared.said.Misuse.TheVariants as misuse
use Rattle.shm_session.specs.declared.said.Stage.TheVariants as stage

-- a code alone
abbrev pub code_said : ℕ → Said
code_said c = record { code = c; at = 0; first = 0; second = 0 }

-- a word step as numbers
abbrev pub step_said : Ask → Said
step_said (Load at) = record { code = 0; at = at; first = 0; second = 0 }
step_said (Store at v) = record { code = 1; at = at; first = 0; second = v }
step_said (Exchange at from to) = record { code = 2; at = at; first = from; second = to }

-- a refusal as numbers
abbrev pub refusal_said : Misuse → Said
refusal_said misuse.Range = code_said 64
refusal_said misuse.Stage = code_said 65
refusal_said misuse.Busy = code_said 66
refusal_said misuse.Idle = code_said 67

abbrev pub stage_code : Stage → ℕ
stage_code stage.Vacant = 32
stage_code stage.Live = 33
stage_code stage.Dead = 34

abbrev pub bit_of : Bool → ℕ
bit_of true = 1
bit_of false = 0

-- how an identity stands, and whether an operation is in progress, as numbers
abbrev pub standing_said : Stage → Bool → Said
standing_said t busy = record { code = stage_code t; at = 0; first = bit_of busy; second = 0 }

-- how an identity stands whose status word was found so: new or gone, or to be recovered; none where the word is no status
abbrev pub stage_found : ℕ → Option Stage
stage_found n = if n == 0 then Some stage.Vacant else if n == 3 then Some stage.Vacant else if n == 1 then Some stage.Dead else if n == 2 then Some stage.Dead else None

-- What the operations of an identity do: S are the states of their machine, A its answers
pub record Operations (S A : Type 0) : Type 0 where
  pub control : Control S A
  -- the machine that a call begins, for an identity that stands so
  pub begins : Me → Stage → Call → Result S Misuse
  -- an answer as numbers, and how the identity stands after it
  pub replies : A → Stage → Reply
  -- what the machine will answer where its agent dies now, where that is certain
  pub effects : S → Option Said

-- A session as a call leaves it, and what it says
pub record Turned (S : Type 0) : Type 0 where
  pub said : Said
  pub stage : Stage
  pub work : Option S

module _ {S A : Type 0} (o : Operations S A) where
  -- the word step that is asked for
  abbrev pub ask_of : Option S → Option Ask
  ask_of None = None
  ask_of (Some m) = Some (o.control.asks m)

  -- the same as numbers; nothing in progress is a refusal
  abbrev pub next_said : Option S → Said
  next_said None = refusal_said misuse.Idle
  next_said (Some m) = step_said (o.control.asks m)

  -- what it answers where this word was found
  abbrev pub answer_of : Option S → ℕ → Option A
  answer_of None n = None
  answer_of (Some m) n = o.control.turns m n

  -- a machine that isn't finished stays
  abbrev pub kept : Bool → S → Option S
  kept true m = None
  kept false m = Some m

  -- the machine goes on where it doesn't answer
  abbrev pub goes_on : S → Option A → Option S
  goes_on m None = kept (o.control.finished m) m
  goes_on m (Some a) = None

  -- what is in progress after that
  abbrev pub work_after : Option S → ℕ → Option S
  work_after None n = None
  work_after (Some m) n = goes_on (o.control.after m n) (o.control.turns m n)

  -- how the identity stands where that was answered, if anything was
  abbrev pub stage_by : Option A → Stage → Stage
  stage_by None t = t
  stage_by (Some a) t = (o.replies a t).stage

  -- what is said then: the answer, or else the next word step
  abbrev pub said_by : Option A → Stage → Option S → Said
  said_by None t w = next_said w
  said_by (Some a) t w = (o.replies a t).said

  -- a word is told
  abbrev pub told : Stage → Option S → ℕ → Turned S
  told t w n = record { said = said_by (answer_of w n) t (work_after w n); stage = stage_by (answer_of w n) t; work = work_after w n }

  -- a machine begins, unless it is finished as it is made
  abbrev pub starts : Stage → S → Bool → Turned S
  starts t m true = record { said = refusal_said misuse.Range; stage = t; work = None }
  starts t m false = record { said = step_said (o.control.asks m); stage = t; work = Some m }

  abbrev pub begun : Stage → Result S Misuse → Turned S
  begun t (Err e) = record { said = refusal_said e; stage = t; work = None }
  begun t (Ok m) = starts t m (o.control.finished m)

  -- an operation is to begin: refused where another one is in progress
  abbrev pub beginning : Me → Stage → Option S → Call → Turned S
  beginning me t None c = begun t (o.begins me t c)
  beginning me t (Some m) c = record { said = refusal_said misuse.Busy; stage = t; work = Some m }

  -- how an identity stands that gives up: one that has joined or is at something is dead
  abbrev pub fallen_stage : Stage → Option S → Stage
  fallen_stage stage.Vacant None = stage.Vacant
  fallen_stage stage.Vacant (Some m) = stage.Dead
  fallen_stage stage.Live w = stage.Dead
  fallen_stage stage.Dead w = stage.Dead

  abbrev pub effect_of : Option S → Option Said
  effect_of None = None
  effect_of (Some m) = o.effects m

  -- what is certain, or that nothing is
  abbrev pub effect_said : Option Said → Said
  effect_said None = code_said 35
  effect_said (Some s) = s

  -- what is in progress is given up
  abbrev pub fallen : Stage → Option S → Turned S
  fallen t w = record { said = effect_said (effect_of w); stage = fallen_stage t w; work = None }

  -- a call by its number
  abbrev pub called : Me → Stage → Option S → Call → Turned S
  called me t w c =
      if c.op == 16 then record { said = standing_said t (is_some w); stage = t; work = w }
      else if c.op == 17 then record { said = next_said w; stage = t; work = w }
      else if c.op == 18 then fallen t w
      else beginning me t w c
