-- a drop of all roots as a plan: what is known before each root, and what is left
pub mod Control
use Rattle.std.specs.Prelude.{◌≡◌, ℕ, ◌+◌, ◌*◌, ◌<◌, ◌≤◌, nat_lt, Bool, Result, Ok, Err, List, ◌++◌, length}
use Rattle.shm_graph.specs.{Bounds.{redo_steps, tear_steps}, declared.{ask.Me.Me, memo.Memo.Memo}}
use Rattle.shm_graph.specs.{declared.spot.Spot.TheVariants.Era, Asks.{Trail, IsWithin}, Events.Event, Views.own_word}
use Rattle.plans.specs.{CallsPart.calls_part, Plans.Planned}
use Rattle.shm_count.specs.{declared.answer.EraSpent.EraSpent, Roots.root_word, Tear.Events.{Visit, frees}}
use Rattle.shm_ref.specs.{declared.drop_roots.RootsState.RootsState, DropRoot.Control.{drop_parts, dropping}}
use Rattle.shm_ref.specs.{DropRoot.{DropStopped, drop_plan}, Lefts.{Left, MayDrop, RootsEvents, Stopped}}
use Rattle.shm_ref.specs.DropRoots.Control.{RootsCall, roots_steered}

-- the first n roots are empty, and the zero-count blocks are those before
pub record AreGone (me : Me) (n : ℕ) (r0 r : Memo) (tr : Trail) (es : List Event) : Type 0 where
  pub left : Left me.who (λ j. nat_lt j n) r0 r
  pub gone : (j : ℕ) → j < n → root_word me.who r j ≡ 0
  pub dying : r.dying ≡ r0.dying
  pub events : RootsEvents me.who r0 n es
  pub bound : IsWithin ((8 + redo_steps me.geometry.wide) * n + tear_steps me.geometry.wide (frees es)) tr

-- the roots before the next one are
pub record RootsKnows (m : RootsState) (r0 r : Memo) (tr : Trail) (es : List Event) : Type 0 where
  pub may : MayDrop m.me r0
  pub low : m.root < 16
  pub gone : AreGone m.me m.root r0 r tr es

-- the roots before this one are empty, which left q, and the drop of this one was refused, which left r
pub record RefusedAt (me : Me) (r0 r : Memo) (tr : Trail) (es : List Event) (era : ℕ) (vs : List Visit) : Type 0 where
  pub root : ℕ
  pub low : root < 16
  pub q : Memo
  pub first : Trail
  pub next : Trail
  pub asked : tr ≡ first ++ next
  pub before : List Event
  pub after : List Event
  pub split : es ≡ before ++ after
  pub gone : AreGone me root r0 q first before
  pub drop : DropStopped (dropping me root) q r next after era vs

-- the own era left no room for a step down, and is at least the one that was read
pub record RootsStopped (m : RootsState) (r0 r : Memo) (tr : Trail) (es : List Event) (era : ℕ) (vs : List Visit) : Type 0 where
  pub at : RefusedAt m.me r0 r tr es era vs
  pub left : Left m.me.who (λ j. nat_lt j 16) r0 r
  pub stopped : Stopped m.me r0 r era vs
  pub most : era ≤ own_word r.own (Era m.me.who m.me.who)
  pub bound : IsWithin ((8 + redo_steps m.me.geometry.wide) * 16 + tear_steps m.me.geometry.wide (frees es + length vs)) tr

abbrev pub RootsLeaves : RootsState → Memo → Memo → Trail → List Event → Result (Unit {0}) EraSpent → Type 0
RootsLeaves m r0 r tr es (Ok done) = AreGone m.me 16 r0 r tr es
RootsLeaves m r0 r tr es (Err e) = (vs : List Visit) × RootsStopped m r0 r tr es e.era vs

abbrev pub roots_plan : Planned RootsState RootsCall (Result Bool EraSpent) (Result (Unit {0}) EraSpent)
roots_plan =
    record {
      steered = roots_steered;
      part = λ m. calls_part drop_parts drop_plan;
      knows = RootsKnows;
      leaves = RootsLeaves;
    }
