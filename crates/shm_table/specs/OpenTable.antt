-- a home that comes to name a directory as a plan: when it may begin, what is known before each call, and what is left
pub mod Control
use Rattle.std.specs.Prelude.{◌≡◌, ◌≢◌, ℕ, ◌+◌, ◌<◌, ◌⊎◌, false, None, Result, Ok, Err, List, [], ◌∷◌, length}
use Rattle.std.specs.List.{Contains}
use Rattle.shm_words.specs.Layout.{GeometryFits}
use Rattle.shm_graph.specs.{declared.{ask.Me.Me, memo.Memo.Memo, spot.Spot.TheVariants.Home}, Agents.recovers}
use Rattle.shm_graph.specs.{Asks.{Trail, IsWithin}, Bounds.{alloc_steps, tear_steps, up_steps, redo_steps}, Core.core}
use Rattle.shm_graph.specs.{Events.Event, Held.is_loose, Idle.IsIdle, Views.own_word}
use Rattle.shm_graph.specs.Events as event
use Rattle.kind_parts.specs.Reparting.{sight, IsBare}
use Rattle.plans.specs.{CallsPart.calls_part, Either.or_part, Parts.{IsHeld, Part}, Plans.Planned}
use Rattle.shm_count.specs.{declared.{answer.UpFault.UpFault, point.StepState.StepState}, MadeSteps.made_up_part}
use Rattle.shm_count.specs.{Roots.root_word, Slots.Parts.up_slot_part, Step.Control.IsInside}
use Rattle.shm_count.specs.Tear.Events.{Visit, frees}
use Rattle.shm_alloc.specs.{declared.alloc.AllocFault.AllocFault, Alloc.AsPart.alloc_part}
use Rattle.shm_ref.specs.{DropRoot.{Control.drop_parts, drop_plan}, HomeParts.home_part, Lefts.{RootEvents, Stopped}}
use Rattle.shm_table.specs.declared.answer.PutFault.{PutFault, TheVariants.EraSpent as Spent}
use Rattle.shm_table.specs.declared.open_table.OpenPoint.{OpenPoint, TheVariants.{Look, Make, Name, Drop}}
use Rattle.shm_table.specs.{declared.open_table.OpenState.OpenState, Answers.made_fault}
use Rattle.shm_table.specs.OpenTable.Control.{OpenAnswer, OpenCall, is_look, open_steered}
use Rattle.shm_table.specs.Staying.{Cleared, Keeps, PutCause, SameMap}

-- ---- when it may begin

-- the identity is between two calls of its client, in a pool for tables, with no latch
pub record MayOpen (me : Me) (r : Memo) : Type 0 where
  pub geometry : GeometryFits me.geometry
  pub who : me.who < me.geometry.clients
  pub idle : IsIdle me.who r
  pub client : recovers r ≡ false
  pub table : is_loose r.part ≡ false
  pub none : r.latch ≡ None

-- ---- on the way

-- the home is empty, and nothing was done yet
pub record IsUnopened (me : Me) (r0 r : Memo) (tr : Trail) (es : List Event) : Type 0 where
  pub may : MayOpen me r0
  pub empty : own_word r0.own (Home me.who) ≡ 0
  pub same : core r ≡ core r0
  pub client : recovers r ≡ false
  pub none : es ≡ []
  pub bound : IsWithin 1 tr

-- root k, which was empty, names block d, and the other roots, the latch and the zero-count blocks are as they were
pub record HasRoot (c k d : ℕ) (r0 r : Memo) : Type 0 where
  pub low : k < 16
  pub free : root_word c r0 k ≡ 0
  pub some : d ≢ 0
  pub root : root_word c r k ≡ d
  pub others : (j : ℕ) → k ≢ j → root_word c r j ≡ root_word c r0 j
  pub latch : r.latch ≡ r0.latch
  pub dying : r.dying ≡ r0.dying

-- a directory was made in root k
pub record IsMade (me : Me) (k d : ℕ) (r0 r : Memo) (tr : Trail) (es : List Event) : Type 0 where
  pub may : MayOpen me r0
  pub empty : own_word r0.own (Home me.who) ≡ 0
  pub keeps : Keeps me.who r0 r
  pub has : HasRoot me.who k d r0 r
  pub home : own_word r.own (Home me.who) ≡ 0
  pub part : r.part ≡ r0.part
  pub inside : IsInside me d
  pub bare : IsBare me.geometry.wide me.who (sight me.who r) d
  pub made : Contains r.made d
  pub holds : IsHeld me r
  pub client : recovers r ≡ false
  pub told : es ≡ event.Alloc me.who k d ∷ []
  pub bound : IsWithin (1 + alloc_steps me.geometry.wide me.geometry.segments) tr

-- the home names it
pub record IsNamed (me : Me) (k d : ℕ) (r0 r : Memo) (tr : Trail) (es : List Event) : Type 0 where
  pub may : MayOpen me r0
  pub empty : own_word r0.own (Home me.who) ≡ 0
  pub keeps : Keeps me.who r0 r
  pub has : HasRoot me.who k d r0 r
  pub home : own_word r.own (Home me.who) ≡ d
  pub map : SameMap r0 r
  pub told : es ≡ event.Alloc me.who k d ∷ event.Up me.who (Home me.who) d ∷ []
  pub bound : IsWithin (1 + alloc_steps me.geometry.wide me.geometry.segments + up_steps me.geometry.wide) tr

abbrev pub OpenKnows : OpenState → OpenPoint → Memo → Memo → Trail → List Event → Type 0
OpenKnows m Look r0 r tr es = MayOpen m.me r0 × (r ≡ r0) × (tr ≡ []) × (es ≡ [])
OpenKnows m Make r0 r tr es = IsUnopened m.me r0 r tr es
OpenKnows m Name r0 r tr es = IsMade m.me m.root m.block r0 r tr es
OpenKnows m Drop r0 r tr es = IsNamed m.me m.root m.block r0 r tr es

-- ---- what it leaves

-- no event where the home named a directory; where it named none, the making of one, its reference from the home, and the loss of that from its root
pub data OpenEvents (c : ℕ) (r0 : Memo) (es : List Event) : Type 0 where
  Named : (some : own_word r0.own (Home c) ≢ 0) (none : es ≡ []) → OpenEvents c r0 es
  Founded : (empty : own_word r0.own (Home c) ≡ 0) (k d : ℕ) (ds : List Event) (told : es ≡ event.Alloc c k d ∷ event.Up c (Home c) d ∷ ds) (drop : RootEvents c k d ds) → OpenEvents c r0 es

-- By these events a home that was `before` is `after`: it is the same, and there is none; or it was empty and names a directory, which was made in a root, came to be named, and lost that root
abbrev pub IsOpening : ℕ → ℕ → ℕ → List Event → Type 0
IsOpening c before after es = ((after ≡ before) × (es ≡ [])) ⊎ ((before ≡ 0) × (after ≢ 0) × ((k : ℕ) × (ds : List Event) × (es ≡ event.Alloc c k after ∷ event.Up c (Home c) after ∷ ds) × RootEvents c k after ds))

-- a home that was `before` is `after`: the same, or it was empty and names a directory that was made among these events
abbrev pub HomeSo : ℕ → ℕ → ℕ → List Event → Type 0
HomeSo c before after es = (after ≡ before) ⊎ ((before ≡ 0) × (after ≢ 0) × ((k : ℕ) × Contains es (event.Alloc c k after)) × Contains es (event.Up c (Home c) after))

-- the own home names a directory, the one that it named or a new one; the map, the roots and the zero-count blocks are as they were
pub record Opened (me : Me) (r0 r : Memo) (tr : Trail) (es : List Event) : Type 0 where
  pub keeps : Keeps me.who r0 r
  pub latch : r.latch ≡ r0.latch
  pub home : own_word r.own (Home me.who) ≢ 0
  pub stays : own_word r0.own (Home me.who) ≢ 0 → own_word r.own (Home me.who) ≡ own_word r0.own (Home me.who)
  pub map : SameMap r0 r
  pub cleared : Cleared me.who r0 r
  pub events : OpenEvents me.who r0 es
  pub opening : IsOpening me.who (own_word r0.own (Home me.who)) (own_word r.own (Home me.who)) es
  pub bound : IsWithin (1 + alloc_steps me.geometry.wide me.geometry.segments + up_steps me.geometry.wide + (8 + redo_steps me.geometry.wide) + tear_steps me.geometry.wide (frees es)) tr

-- What a refusal leaves, with these zero-count blocks that it left on the way: no directory was made; or root k keeps one that the home doesn't name; or the home names it, and the step down at that root, or one of a tear-down after it, was refused
pub data OpenLeft (me : Me) (r0 r : Memo) (es : List Event) (vs : List Visit) (f : PutFault) : Type 0 where
  Unmade : (a : AllocFault) (is : f ≡ made_fault a) (cleared : Cleared me.who r0 r) (home : own_word r.own (Home me.who) ≡ 0) (none : es ≡ []) (all : vs ≡ []) → OpenLeft me r0 r es vs f
  Unnamed : (e : ℕ) (is : f ≡ Spent e) (k d : ℕ) (has : HasRoot me.who k d r0 r) (home : own_word r.own (Home me.who) ≡ 0) (told : es ≡ event.Alloc me.who k d ∷ []) (all : vs ≡ []) → OpenLeft me r0 r es vs f
  Undropped : (e : ℕ) (is : f ≡ Spent e) (k d : ℕ) (free : root_word me.who r0 k ≡ 0) (some : d ≢ 0) (home : own_word r.own (Home me.who) ≡ d) (others : (j : ℕ) → k ≢ j → root_word me.who r j ≡ root_word me.who r0 j) (stopped : Stopped me r0 r e vs) (ds : List Event) (told : es ≡ event.Alloc me.who k d ∷ event.Up me.who (Home me.who) d ∷ ds) → OpenLeft me r0 r es vs f

-- the home was empty, and it was refused
pub record OpenRefused (me : Me) (r0 r : Memo) (tr : Trail) (es : List Event) (f : PutFault) : Type 0 where
  pub empty : own_word r0.own (Home me.who) ≡ 0
  pub keeps : Keeps me.who r0 r
  pub latch : r.latch ≡ r0.latch
  pub map : SameMap r0 r
  pub cause : PutCause me r0 r f
  pub visits : List Visit
  pub left : OpenLeft me r0 r es visits f
  pub bound : IsWithin (1 + alloc_steps me.geometry.wide me.geometry.segments + up_steps me.geometry.wide + (8 + redo_steps me.geometry.wide) + tear_steps me.geometry.wide (frees es + length visits)) tr

abbrev pub OpenLeaves : OpenState → Memo → Memo → Trail → List Event → Result (Unit {0}) PutFault → Type 0
OpenLeaves m r0 r tr es (Ok done) = Opened m.me r0 r tr es
OpenLeaves m r0 r tr es (Err f) = OpenRefused m.me r0 r tr es f

-- ---- the plan

-- the step up at the home: there its block is one that the call made
abbrev pub name_part : OpenState → OpenPoint → Part StepState (Result (Unit {0}) UpFault)
name_part m Name = made_up_part (Home m.me.who)
name_part m y = up_slot_part (Home m.me.who) false

abbrev pub open_plan : Planned OpenState OpenCall OpenAnswer (Result (Unit {0}) PutFault)
open_plan =
    record {
      steered = open_steered;
      part = λ m. or_part (home_part m.me (is_look m.point)) (or_part alloc_part (or_part (name_part m m.point) (calls_part drop_parts drop_plan)));
      knows = λ m. OpenKnows m m.point;
      leaves = OpenLeaves;
    }
