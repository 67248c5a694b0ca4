-- the laws of machines
use Rattle.std.specs.Prelude.{◌≡◌, ℕ, ◌<◌, Bool, true, false, ◌==◌, if◌then◌else◌, Option, Some, None, List, [], ◌∷◌, ◌++◌, slice_index}
use Rattle.shm_words.specs.{declared.geometry.Geometry.Geometry, Layout.total_of}
use Rattle.shm_graph.specs.declared.ask.{Ask.{Ask, TheVariants.{Store, Exchange}}, Me.Me, Turn.Turn}
use Rattle.shm_graph.specs.declared.{ask.Turn.TheVariants.{More, Done, Died}, spot.Spot.Spot}
use Rattle.shm_graph.specs.declared.{spot.Spot.TheVariants.{Hold, Root, Head}, memo.First.TheVariants.Begun}
use Rattle.shm_graph.specs.declared.memo.{Second.TheVariants.Open, ChangeStage.TheVariants.{Raising, Lowering}, Op.Op}
use Rattle.shm_graph.specs.{declared.memo.{Seen.Seen, Memo.Memo, Step.Step}, Spots.spot_at, Blocks.classes}
use Rattle.shm_graph.specs.{Views.{View, view, at1}, Held.{HeldAt, Gone}}
use Rattle.shm_graph.specs.{Asks.{Trail, at_of, seen_of, words_after, pair, call_before}, Ops.IsUncommitted}
use Rattle.shm_graph.specs.{Changes.{memo_on, asked_spot}, Agents.recovers}
use Rattle.shm_graph.specs.Events.{Event, Nothing, Alloc, Up, Down, ChangeUp, ChangeDown, Free, graph_of, Happens}
use Rattle.shm_graph.specs.Controllers.{IsAllowed, IsEraRaised, IsRowShown}
use Rattle.shm_graph.specs.declared.memo.Op.TheVariants as op

-- The control of a machine with states S and answers A: its identity, its line, whether it has made no step, whether it is finished, what it asks for, where it goes, and what it then answers
pub record Control (S A : Type 0) : Type 0 where
  pub me : S → Me
  pub line : S → List ℕ
  pub fresh : S → Bool
  pub finished : S → Bool
  pub asks : S → Ask
  pub after : S → ℕ → S
  pub turns : S → ℕ → Option A

abbrev pub turn_of : {A : Type 0} → Option A → Turn A
turn_of None = More
turn_of (Some a) = Done a

abbrev pub is_died : {A : Type 0} → Turn A → Bool
is_died Died = true
is_died _ = false

abbrev pub is_done : {A : Type 0} → Turn A → Bool
is_done (Done a) = true
is_done _ = false

abbrev pub is_some : {A : Type 0} → Option A → Bool
is_some None = false
is_some (Some a) = true

-- what holds after a step: one fact where the machine goes on, and one of the answer where it is done
abbrev pub Outcome : {A : Type 0} → Option A → Type 0 → (A → Type 0) → Type 0
Outcome None P Q = P
Outcome (Some a) P Q = Q a

-- what the whole machine shows of itself in a step; a part of it shows what the whole does
pub record Frame : Type 0 where
  pub line : List ℕ
  pub fresh : Bool
  pub ends : Bool

abbrev pub framed : Me → Ask → Frame → ℕ → Step
framed me a f n = record { me = me; line = f.line; fresh = f.fresh; ends = f.ends; ask = a; seen = n }

-- the event of a successful exchange of a header by the step in progress
abbrev pub event_of : ℕ → Op → Event
event_of c (op.Alloc Begun (Root d k) b e) = Alloc c k b
event_of c (op.Up Begun p b e) = Up c p b
event_of c (op.Down Begun p b e) = Down c p b
event_of c (op.Change (Raising Begun) p a b e) = ChangeUp c p a b
event_of c (op.Change (Lowering Open) p a b e) = ChangeDown c a
event_of c _ = Nothing

abbrev pub event_by : Memo → Step → Ask → Spot → Event
event_by m t (Exchange at from to) (Head b) = if t.seen == from then event_of t.me.who m.op else Nothing
event_by m t (Store at v) (Head b) = if v == 0 then Free t.me.who b else Nothing
event_by m t _ p = Nothing

-- the event of a word step at a spot
abbrev pub event_on : Memo → Step → Spot → Event
event_on m t p = event_by m t t.ask p

-- the second list is the end of the first
abbrev pub Ends : List Seen → List Seen → Type 0
Ends call tr = (before : List Seen) × (call ≡ before ++ tr)

-- a Held state in which an identity takes a step: what the stepping part has asked is the end of its call
pub record Stands (me : Me) (w : Spot → ℕ) (r : ℕ → Memo) (f : Frame) (tr : Trail) : Type 0 where
  pub held : HeldAt me.geometry w (view r)
  pub who : me.who < me.geometry.clients
  pub call : Ends (call_before f.fresh (r me.who).call) tr

-- a step leads to a Held state, is one event, is allowed, shows the row that it needs, and lowers no era
pub record Stepped (g : Geometry) (c : ℕ) (a : Ask) (p : Spot) (x : Event) (w : Spot → ℕ) (v : View) (w' : Spot → ℕ) (v' : View) : Type 0 where
  pub held : HeldAt g w' v'
  pub event : Happens g w x (graph_of g w v) (graph_of g w' v')
  pub allowed : IsAllowed g w v c a p
  pub row : IsRowShown w c a p
  pub era : IsEraRaised w a p

-- a step at a spot, and what holds of the memo after it
pub record Kept (w : Spot → ℕ) (r : ℕ → Memo) (t : Step) (p : Spot) (after : Memo → Type 0) : Type 0 where
  pub told : (asked_spot (r t.me.who) t) ≡ p
  pub step : Stepped t.me.geometry t.me.who t.ask p (event_on (r t.me.who) t p) w (view r) (words_after w t.ask p) (view (at1 r t.me.who (memo_on (r t.me.who) t p)))
  pub fits : after (memo_on (r t.me.who) t p)

-- the step that is asked for, in a frame
abbrev pub KeptAt : Me → (Spot → ℕ) → (ℕ → Memo) → Ask → Frame → (ℕ → Memo → Type 0) → Spot → Type 0
KeptAt me w r a f after p = Kept w r (framed me a f (seen_of a (w p))) p (after (seen_of a (w p)))

-- from each Held state that fits, in any frame, the step that is asked for leads to a Held state, and then `after` holds of the word found and of the memo
abbrev pub StepKeeps : Me → Ask → Trail → (Memo → Type 0) → (ℕ → Memo → Type 0) → Type 0
StepKeeps me a tr before after = (w : Spot → ℕ) (r : ℕ → Memo) (f : Frame) → Stands me w r f tr → before (r me.who) → KeptAt me w r a f after (spot_at me.geometry (classes w) (at_of a))

-- nothing of the identity is left to finish
abbrev pub GoneNow : ℕ → Memo → Type 0
GoneNow c m = Gone c m.own m.op m.latch m.owned m.dying (λ i. slice_index m.unsent i) (λ i. slice_index m.untaken i)

-- where a recoverer reads its hold word, no step of its identity is committed
abbrev pub MayEnd : ℕ → Memo → Spot → Type 0
MayEnd c m (Hold d) = recovers m ≡ true → c ≡ d → IsUncommitted m.op
MayEnd c m _ = Unit {0}

module _ {S A : Type 0} (k : Control S A) where
  -- its identity and its line stay, it has made a step, and it is finished once it has answered
  pub record Stays (m : S) (n : ℕ) : Type 0 where
    pub same_me : k.me (k.after m n) ≡ k.me m
    pub same_line : k.line (k.after m n) ≡ k.line m
    pub started : k.fresh (k.after m n) ≡ false
    pub ends : k.finished (k.after m n) ≡ is_some (k.turns m n)

  abbrev pub Steady : Type 0
  Steady = (m : S) (n : ℕ) → k.finished m ≡ false → Stays m n

  -- what holds after the step that found n
  abbrev pub Then : (S → Memo → Memo → Trail → Type 0) → (S → Memo → Memo → Trail → A → Type 0) → S → Memo → Trail → ℕ → Memo → Type 0
  Then fits gives m r0 tr n r = Outcome (k.turns m n) (fits (k.after m n) r0 r (tr ++ pair (k.asks m) n ∷ [])) (gives m r0 r (tr ++ pair (k.asks m) n ∷ []))

  -- A machine that fits asks for a word of the pool. It speaks of no state, since a step on shared words owes it before the state is at hand
  abbrev pub Inside : (S → Memo → Memo → Trail → Type 0) → Type 0
  Inside fits = (m : S) (r0 r : Memo) (tr : Trail) → (k.me m).who < (k.me m).geometry.clients → fits m r0 r tr → k.finished m ≡ false → at_of (k.asks m) < total_of (k.me m).geometry

  -- what an answer says of the machine one step on, it says of the machine before that step
  abbrev pub Back : (S → Memo → Memo → Trail → A → Type 0) → Type 0
  Back gives = (m : S) (n : ℕ) → k.finished m ≡ false → k.turns m n ≡ None → (r0 r : Memo) (tr : Trail) (a : A) → gives (k.after m n) r0 r tr a → gives m r0 r tr a

  abbrev pub EachStepKeeps : (S → Memo → Memo → Trail → Type 0) → (S → Memo → Memo → Trail → A → Type 0) → Type 0
  EachStepKeeps fits gives = (m : S) (r0 : Memo) (tr : Trail) → k.finished m ≡ false → StepKeeps (k.me m) (k.asks m) tr (λ r. fits m r0 r tr) (Then fits gives m r0 tr)

pub record Laws {S A : Type 0} (k : Control S A) (fits : S → Memo → Memo → Trail → Type 0) (gives : S → Memo → Memo → Trail → A → Type 0) : Type 0 where
  pub steady : Steady k
  pub inside : Inside k fits
  pub back : Back k gives
  pub keeps : EachStepKeeps k fits gives

-- the frame of a machine that runs by itself
abbrev pub frame_of : {S A : Type 0} → Control S A → S → ℕ → Frame
frame_of k m n = record { line = k.line m; fresh = k.fresh m; ends = k.finished (k.after m n) }

abbrev pub step_of : {S A : Type 0} → Control S A → S → ℕ → Step
step_of k m n = framed (k.me m) (k.asks m) (frame_of k m n) n
