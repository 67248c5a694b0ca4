-- taking a latch and looking for a key as a plan: when it may begin, what is known before each call, and what is left
pub mod Control
use Rattle.std.specs.Prelude.{◌≡◌, ℕ, ◌<◌, false, None, List, [], ◌++◌}
use Rattle.shm_words.specs.Layout.{GeometryFits}
use Rattle.shm_graph.specs.{declared.{ask.Me.Me, memo.Memo.Memo, spot.Spot.Spot}, Asks.{Trail, IsWithin}, Core.core}
use Rattle.shm_graph.specs.{Events.Event, Held.is_loose, Idle.IsIdle, Views.own_word}
use Rattle.plans.specs.{CallsPart.calls_part, Either.or_part, Parts.Part, Plans.Planned, Words.word_control}
use Rattle.shm_ref.specs.Hold.{hold_plan}
use Rattle.shm_table.specs.declared.{find.Found.Found, locate.LocatePoint.{LocatePoint, TheVariants.Search}}
use Rattle.shm_table.specs.{declared.locate.LocateState.LocateState, Find.{Control.finding, FindLeaves, find_plan}}
use Rattle.shm_table.specs.{Locate.Control.{LocateCall, LocateAnswer, locate_steered}, Staying.Latched}

-- ---- when it may begin

-- between two calls, in a pool for tables, with no latch
pub record MayLocate (me : Me) (a : ℕ) (r : Memo) : Type 0 where
  pub geometry : GeometryFits me.geometry
  pub who : me.who < me.geometry.clients
  pub author : a < me.geometry.clients
  pub idle : IsIdle me.who r
  pub none : r.latch ≡ None
  pub table : is_loose r.part ≡ false

-- ---- on the way

-- each try so far found the latch held: no own word is another, and nothing else changed. A try is three word steps with an exchange that failed
pub record IsTrying (me : Me) (a : ℕ) (r0 r : Memo) (tr : Trail) (es : List Event) : Type 0 where
  pub may : MayLocate me a r0
  pub memo : core r ≡ core (record r0 { own = r.own })
  pub own : (p : Spot) → own_word r.own p ≡ own_word r0.own p
  pub none : es ≡ []
  pub bound : IsWithin 0 tr

-- the latch is held
pub record IsHolding (me : Me) (a : ℕ) (r0 r : Memo) (tr : Trail) (es : List Event) : Type 0 where
  pub may : MayLocate me a r0
  pub took : Latched me.who a r0 r
  pub none : es ≡ []
  pub bound : IsWithin 2 tr

abbrev pub LocateKnows : LocateState → LocatePoint → Memo → Memo → Trail → List Event → Type 0
LocateKnows m Search r0 r tr es = IsHolding m.me m.author r0 r tr es
LocateKnows m y r0 r tr es = IsTrying m.me m.author r0 r tr es

-- ---- what it leaves

-- the latch was taken, in as many tries as it needed, and then the search answered
pub record Located (me : Me) (a key : ℕ) (m r : Memo) (tr : Trail) (es : List Event) (b : Found) : Type 0 where
  pub latched : Memo
  pub took : Latched me.who a m latched
  pub before : Trail
  pub after : Trail
  pub trail : tr ≡ before ++ after
  pub bound : IsWithin 2 before
  pub none : es ≡ []
  pub found : FindLeaves (finding me a key) latched r after es b
  pub idle : IsIdle me.who r

-- ---- the plan

abbrev pub locate_part : Part LocateCall LocateAnswer
locate_part = or_part (calls_part word_control hold_plan) (calls_part word_control find_plan)

abbrev pub locate_plan : Planned LocateState LocateCall LocateAnswer Found
locate_plan =
    record {
      steered = locate_steered;
      part = λ m. locate_part;
      knows = λ m. LocateKnows m m.point;
      leaves = λ m. Located m.me m.author m.key;
    }
