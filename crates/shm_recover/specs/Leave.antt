-- a leaving as a plan: what is known before each call, and what is left
pub mod Control
use Rattle.std.specs.{Prelude.{◌≡◌, ℕ, ◌+◌, ◌*◌, ◌<◌, ◌≤◌, Result, Ok, Err, List, [], slice_index, None}, List.Contains}
use Rattle.shm_graph.specs.{Bounds.{redo_steps, tear_steps}, declared.{ask.Me.Me, spot.Spot.TheVariants.Hold}}
use Rattle.shm_graph.specs.{declared.memo.Memo.Memo, Asks.{Trail, IsWithin}, Events.Event, Laws.GoneNow, Views.own_word}
use Rattle.shm_graph.specs.declared.memo.Status.TheVariants as status
use Rattle.kind_parts.specs.WordParts.{GoneStored, SegmentGiven, SegmentLoaded}
use Rattle.plans.specs.{CallsPart.calls_part, Either.or_part, Plans.Planned, Words.word_part}
use Rattle.shm_count.specs.{declared.answer.EraSpent.EraSpent, Roots.root_word, Tear.Events.{Visit, frees}}
use Rattle.shm_recover.specs.declared.leave.LeavePoint.{LeavePoint, TheVariants.{Roots, Look, Give, Status}}
use Rattle.shm_recover.specs.declared.leave.LeaveState.{LeaveState}
use Rattle.shm_recover.specs.Leave.Control.{LeaveCall, LeaveAnswer, leave_ask, is_roots, leave_steered}
use Rattle.shm_ref.specs.{Lefts.{MayDrop, RootsEvents}, DropRoots.{Control.drop_root, RootsStopped, roots_plan}}

-- ---- when it may begin

-- roots may be dropped, and but for roots and segments nothing of the identity is left to finish
pub record MayLeave (me : Me) (m : Memo) : Type 0 where
  pub may : MayDrop me m
  pub hold : own_word m.own (Hold me.who) ≡ 0
  pub latch : m.latch ≡ None
  pub making : m.making ≡ None
  pub dying : m.dying ≡ []
  pub sends : (i : ℕ) → slice_index m.unsent i ≡ 0
  pub takes : (i : ℕ) → slice_index m.untaken i ≡ 0

-- ---- on the way

-- all roots are gone, and so are the segments before s
pub record IsLeaving (me : Me) (s : ℕ) (m : Memo) : Type 0 where
  pub may : MayLeave me m
  pub roots : (k : ℕ) → root_word me.who m k ≡ 0
  pub owned : (i : ℕ) → Contains m.owned i → (s ≤ i) × (i < me.geometry.segments)

-- the partition is as before, the events are those of the roots, and there are two word steps for each segment at most
pub record HasLeft (me : Me) (n : ℕ) (r0 r : Memo) (tr : Trail) (es : List Event) : Type 0 where
  pub part : r.part ≡ r0.part
  pub events : RootsEvents me.who r0 16 es
  pub bound : IsWithin ((8 + redo_steps me.geometry.wide) * 16 + n + tear_steps me.geometry.wide (frees es)) tr

abbrev pub LeaveKnows : LeaveState → LeavePoint → Memo → Memo → Trail → List Event → Type 0
LeaveKnows m Roots r0 r tr es = MayLeave m.me r0 × (r ≡ r0) × (tr ≡ []) × (es ≡ []) × (m.segment ≡ 0)
LeaveKnows m Look r0 r tr es = IsLeaving m.me m.segment r × (m.segment < m.me.geometry.segments) × HasLeft m.me (2 * m.segment) r0 r tr es
LeaveKnows m Give r0 r tr es = IsLeaving m.me m.segment r × (m.segment < m.me.geometry.segments) × Contains r.owned m.segment × HasLeft m.me (2 * m.segment + 1) r0 r tr es
LeaveKnows m Status r0 r tr es = IsLeaving m.me m.me.geometry.segments r × HasLeft m.me (2 * m.me.geometry.segments) r0 r tr es

-- ---- what it leaves

-- nothing is left to finish and the status is gone; the partition is as before; the events are those of the roots, and each segment took two word steps at most
pub record HasGone (me : Me) (r0 r : Memo) (tr : Trail) (es : List Event) : Type 0 where
  pub status : r.status ≡ status.Gone
  pub left : GoneNow me.who r
  pub part : r.part ≡ r0.part
  pub events : RootsEvents me.who r0 16 es
  pub bound : IsWithin (2 * me.geometry.segments + tear_steps me.geometry.wide (frees es) + 129 + 16 * redo_steps me.geometry.wide) tr

-- the identity is gone, or the own era left no room for a step down of a root
abbrev pub LeaveLeaves : LeaveState → Memo → Memo → Trail → List Event → Result (Unit {0}) EraSpent → Type 0
LeaveLeaves m r0 r tr es (Ok done) = HasGone m.me r0 r tr es
LeaveLeaves m r0 r tr es (Err e) = (vs : List Visit) × RootsStopped (record { me = m.me; root = 0 }) r0 r tr es e.era vs

-- ---- the plan

-- what holds of a memo after the word step at a point, by the word found and the memo before
abbrev pub LeaveFound : LeaveState → LeavePoint → Memo → ℕ → Memo → Type 0
LeaveFound m Look = SegmentLoaded m.me.who m.segment
LeaveFound m Give = SegmentGiven m.segment
LeaveFound m Status = GoneStored m.me.who
LeaveFound m Roots = λ r n x. ⊥

abbrev pub leave_plan : Planned LeaveState LeaveCall LeaveAnswer (Result (Unit {0}) EraSpent)
leave_plan =
    record {
      steered = leave_steered;
      part = λ m. or_part (calls_part drop_root roots_plan) (word_part (is_roots m.point) m.me (leave_ask m m.point) (LeaveFound m m.point));
      knows = λ m. LeaveKnows m m.point;
      leaves = LeaveLeaves;
    }
