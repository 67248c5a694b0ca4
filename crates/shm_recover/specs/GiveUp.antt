-- segments that are given up before the status gone, as a plan: what is known before each word step, and what is left
pub mod Control
use Rattle.std.specs.{Prelude.{◌≡◌, ℕ, ◌+◌, ◌*◌, ◌<◌, ◌≤◌, List, [], slice_index, None}, List.Contains}
use Rattle.shm_graph.specs.declared.{ask.Me.Me, spot.Spot.TheVariants.Hold, memo.{Memo.Memo, Status.TheVariants.Gone}}
use Rattle.shm_graph.specs.{Asks.{Trail, IsWithin}, Core.core, Events.Event, Laws.GoneNow, Views.own_word}
use Rattle.kind_parts.specs.WordParts.{GoneStored, SegmentGiven, SegmentLoaded}
use Rattle.plans.specs.{declared.word.Word.Word, Parts.Part, Plans.Planned, Words.word_part}
use Rattle.shm_count.specs.Roots.{root_word}
use Rattle.shm_ref.specs.Lefts.{MayDrop}
use Rattle.shm_recover.specs.declared.give_up.GivePoint.{GivePoint, TheVariants.{Look, Give, Status}}
use Rattle.shm_recover.specs.{declared.give_up.GiveState.GiveState, GiveUp.Control.{give_ask, is_first, give_steered}}

-- ---- when it may begin

-- but for its segments nothing of the identity is left to finish
pub record MayGiveUp (me : Me) (m : Memo) : Type 0 where
  pub may : MayDrop me m
  pub roots : (k : ℕ) → root_word me.who m k ≡ 0
  pub hold : own_word m.own (Hold me.who) ≡ 0
  pub latch : m.latch ≡ None
  pub making : m.making ≡ None
  pub dying : m.dying ≡ []
  pub sends : (i : ℕ) → slice_index m.unsent i ≡ 0
  pub takes : (i : ℕ) → slice_index m.untaken i ≡ 0

-- ---- on the way

-- nothing of the memo changed but its segments, and these are the word steps
pub record IsGiving (me : Me) (k : ℕ) (r0 r : Memo) (tr : Trail) (es : List Event) : Type 0 where
  pub may : MayGiveUp me r0
  pub rest : core (record r { owned = [] }) ≡ core (record r0 { owned = [] })
  pub none : es ≡ []
  pub bound : IsWithin k tr

-- it owns no segment before s
abbrev pub OwnsFrom : ℕ → Memo → Type 0
OwnsFrom s m = (i : ℕ) → Contains m.owned i → s ≤ i

abbrev pub GiveKnows : GiveState → GivePoint → Memo → Memo → Trail → List Event → Type 0
GiveKnows m Look r0 r tr es = IsGiving m.me (2 * m.segment) r0 r tr es × OwnsFrom m.segment r × (m.segment < m.me.geometry.segments)
GiveKnows m Give r0 r tr es = IsGiving m.me (2 * m.segment + 1) r0 r tr es × OwnsFrom m.segment r × (m.segment < m.me.geometry.segments) × Contains r.owned m.segment
GiveKnows m Status r0 r tr es = IsGiving m.me (2 * m.me.geometry.segments) r0 r tr es × (r.owned ≡ [])

-- ---- what it leaves

-- the status is gone, nothing is left to finish, and nothing else changed but that the segments are nobody's
pub record GivenUp (me : Me) (r0 r : Memo) (tr : Trail) (es : List Event) : Type 0 where
  pub rest : core r ≡ core (record r0 { status = Gone; owned = [] })
  pub left : GoneNow me.who r
  pub none : es ≡ []
  pub bound : IsWithin (2 * me.geometry.segments + 1) tr

-- ---- the plan

-- what holds of a memo after the word step at a point, by the word found and the memo before
abbrev pub GiveFound : GiveState → GivePoint → Memo → ℕ → Memo → Type 0
GiveFound m Look = SegmentLoaded m.me.who m.segment
GiveFound m Give = SegmentGiven m.segment
GiveFound m Status = GoneStored m.me.who

abbrev pub give_part : GiveState → GivePoint → Part Word ℕ
give_part m y = word_part (is_first (record m { point = y })) m.me (give_ask m y) (GiveFound m y)

abbrev pub give_plan : Planned GiveState Word ℕ (Unit {0})
give_plan =
    record {
      steered = give_steered;
      part = λ m. give_part m m.point;
      knows = λ m. GiveKnows m m.point;
      leaves = λ m r0 r tr es u. GivenUp m.me r0 r tr es;
    }
