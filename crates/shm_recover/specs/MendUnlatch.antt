-- giving back a latch by a recoverer as a plan: what is known before each word step, and what is left
pub mod Control
use Rattle.std.specs.Prelude.{◌≡◌, ℕ, ◌<◌, true, false, None, Some, List, []}
use Rattle.shm_words.specs.Layout.{GeometryFits}
use Rattle.shm_graph.specs.declared.{ask.Me.Me, spot.Spot.{Spot, TheVariants.Hold}, memo.Memo.Memo}
use Rattle.shm_graph.specs.{declared.memo.Op.TheVariants.Nothing, Agents.recovers, Asks.{Trail, IsWithin}, Core.core}
use Rattle.shm_graph.specs.{Events.Event, Ops.IsUncommitted, Views.own_word}
use Rattle.kind_parts.specs.{Conditions.IsHere, WordParts.{HoldLoaded, HoldStored, LatchGiven, LatchLoaded}}
use Rattle.plans.specs.{declared.word.Word.Word, Parts.Part, Plans.Planned, Words.word_part}
use Rattle.shm_recover.specs.declared.mend_unlatch.MendUnlatchPoint.{MendUnlatchPoint}
use Rattle.shm_recover.specs.declared.mend_unlatch.MendUnlatchPoint.TheVariants.{Whose, Look, Give, Back}
use Rattle.shm_recover.specs.{declared.mend_unlatch.MendUnlatchState.MendUnlatchState, MendRest.{bare, is_hold}}
use Rattle.shm_recover.specs.MendUnlatch.Control.{is_whose, unlatching_ask, unlatching_steered}

-- a recoverer's step in progress, if there is one, isn't committed
pub record MayUnlatchDead (me : Me) (r : Memo) : Type 0 where
  pub geometry : GeometryFits me.geometry
  pub who : me.who < me.geometry.clients
  pub recoverer : recovers r ≡ true
  pub here : IsHere r
  pub ended : IsUncommitted r.op

-- ---- on the way

-- the step is over, and the hold word names the latch of a: no other is held
pub record NamesLatch (me : Me) (a : ℕ) (r0 r : Memo) (es : List Event) : Type 0 where
  pub may : MayUnlatchDead me r0
  pub author : a < me.geometry.clients
  pub same : core r ≡ core (record r0 { op = Nothing })
  pub only : (b : ℕ) → r.latch ≡ Some b → b ≡ a
  pub none : es ≡ []

-- the step is over and no latch is held
pub record HasUnlatched (me : Me) (r0 r : Memo) (es : List Event) : Type 0 where
  pub may : MayUnlatchDead me r0
  pub op : r.op ≡ Nothing
  pub latch : r.latch ≡ None
  pub rest : bare r ≡ bare r0
  pub dying : r.dying ≡ r0.dying
  pub own : r.own ≡ r0.own
  pub none : es ≡ []

abbrev pub UnlatchingKnows : MendUnlatchState → MendUnlatchPoint → Memo → Memo → Trail → List Event → Type 0
UnlatchingKnows m Whose r0 r tr es = MayUnlatchDead m.me r0 × (r ≡ r0) × (tr ≡ []) × (es ≡ [])
UnlatchingKnows m Look r0 r tr es = NamesLatch m.me m.author r0 r es × IsWithin 1 tr
UnlatchingKnows m Give r0 r tr es = NamesLatch m.me m.author r0 r es × (r.latch ≡ Some m.author) × IsWithin 2 tr
UnlatchingKnows m Back r0 r tr es = HasUnlatched m.me r0 r es × IsWithin 3 tr

-- ---- what it leaves

-- no step is in progress, no latch is held, the hold word is 0, and all else is as it was but for looks and what is known
pub record Unlatched (me : Me) (r0 r : Memo) (tr : Trail) (es : List Event) : Type 0 where
  pub op : r.op ≡ Nothing
  pub latch : r.latch ≡ None
  pub hold : own_word r.own (Hold me.who) ≡ 0
  pub rest : bare r ≡ bare r0
  pub dying : r.dying ≡ r0.dying
  pub own : (p : Spot) → is_hold p ≡ false → own_word r.own p ≡ own_word r0.own p
  pub none : es ≡ []
  pub bound : IsWithin 4 tr

-- ---- the plan

-- what holds after the word step at a point, by the memo before, the word found and the memo
abbrev pub UnlatchingFound : MendUnlatchState → MendUnlatchPoint → Memo → ℕ → Memo → Type 0
UnlatchingFound m Whose = HoldLoaded m.me.who
UnlatchingFound m Look = LatchLoaded m.me.who m.author
UnlatchingFound m Give = LatchGiven m.me.geometry.wide m.me.who
UnlatchingFound m Back = HoldStored m.me.who 0

abbrev pub unlatching_part : MendUnlatchState → MendUnlatchPoint → Part Word ℕ
unlatching_part m y = word_part (is_whose y) m.me (unlatching_ask m.me m.author y) (UnlatchingFound m y)

abbrev pub unlatching_plan : Planned MendUnlatchState Word ℕ (Unit {0})
unlatching_plan =
    record {
      steered = unlatching_steered;
      part = λ m. unlatching_part m m.point;
      knows = λ m. UnlatchingKnows m m.point;
      leaves = λ m r0 r tr es done. Unlatched m.me r0 r tr es;
    }
