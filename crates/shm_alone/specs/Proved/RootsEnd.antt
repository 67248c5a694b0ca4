-- drops of roots that work alone end: a step down and a tear-down pay for themselves, and a root for its load: what is proved of it
use Rattle.std.proofs.Common.{◌≡◌, ◌≢◌, ℕ, ◌+◌, ◌%◌, ◌<◌, ◌≤◌, arith, Bool, true, false, refl, List}
use Rattle.std.proofs.lemmas.Bool.{eqb-false}
use Rattle.std.specs.Prelude.{◌==◌, if◌then◌else◌, Some, None, Result, Ok, Err}
use Rattle.shm_words.specs.Layout.{address_limit}
use Rattle.shm_graph.specs.{declared.{ask.Me.Me, spot.Spot.{Spot, TheVariants.Root}, memo.Memo.Memo}, Asks.Trail}
use Rattle.shm_graph.specs.{Events.Event, Laws.Outcome}
use Rattle.plans.specs.{declared.or.Or.TheVariants.{First, Second}, CallsControl.{calls_control, calls_does, calls_of}}
use Rattle.plans.specs.{CallsFit.CallsFits, Either.{OrFits, or_control, or_does}}
use Rattle.plans.specs.Words.{WordFits, word_control, word_does}
use Rattle.shm_count.specs.{declared.answer.EraSpent.EraSpent, Step.{Events.step_event, Machines.down_control}}
use Rattle.shm_count.specs.{StepsAt.DownFitsAt, Tear.{Control.tear_control, Events.tear_event, TearFits}}
use Rattle.shm_ref.specs.declared.drop_root.DropPoint.{DropPoint, TheVariants.{Load, Lower, Tear}}
use Rattle.shm_ref.specs.declared.{drop_root.DropState.DropState, drop_roots.RootsState.RootsState}
use Rattle.shm_ref.specs.DropRoot.{Control.{DropAnswer, drop_call_at, drop_parts, is_load}, DropKnows, drop_plan}
use Rattle.shm_ref.specs.Proved.{DropRoot.Laws.drop_laws, DropRoots.Laws.roots_laws}
use Rattle.shm_ref.specs.DropRoots.{Control.{drop_root, dropping_roots, roots_call, roots_steered}, roots_plan}
use Rattle.shm_alone.specs.{Alone.EndsAlone, Lifting.{anything, or_alone, or_left, or_saved, word_left, word_saved}}
use Rattle.shm_alone.specs.Proved.Lifting.{Pays, or_ends, plain_calls_end, word_ends}
use Rattle.shm_alone.specs.Proved.{StepEnds.{down_ends_at, redo_few}, TearEnds.tear_ends}
use Rattle.shm_alone.specs.{StepEnds.{step_alone, step_left, step_saved}, TearEnds.{tear_alone, tear_left, tear_saved}}
use Rattle.shm_alone.specs.RootsEnd.{part_alone, part_left, part_saved, drop_plan_rest, drop_saved, drop_alone, drop_left, roots_rest, roots_saved, roots_alone, roots_left}

-- ---- a word, a step down or a tear-down

-- each of the three ends alone: a word step that may come first, and a step down at p
pub part_ends : (first : Bool) (p : Spot) → EndsAlone drop_parts (or_does word_does (or_does (step_event p) tear_event)) part_alone part_left part_saved (OrFits (WordFits first) (OrFits (DownFitsAt p) TearFits))
part_ends first p =
    or_ends word_control (or_control down_control tear_control) (WordFits first) (OrFits (DownFitsAt p) TearFits) word_does (or_does (step_event p) tear_event) anything (or_alone step_alone tear_alone) word_left (or_left step_left tear_left) word_saved (or_saved step_saved tear_saved)
    (word_ends first)
    (or_ends down_control tear_control (DownFitsAt p) TearFits (step_event p) tear_event step_alone tear_alone step_left tear_left step_saved tear_saved (down_ends_at p) tear_ends)

-- by a test: what comes next, or the answer
pub by_test : {A : Type 0} (q : Bool) (a : A) (P : Type 0) (Q : A → Type 0) → P → Q a → Outcome (if q then Some a else None) P Q
by_test true a P Q h i = i
by_test false a P Q h i = h

-- ---- a drop of a root

-- what the answers of its calls have over pays for what comes next
drop_pays : (m : DropState) (y : DropPoint) (r0 rs r : Memo) (tr t : Trail) (es ds : List Event) (a : DropAnswer) → DropKnows (record m { point = y }) y r0 rs tr es → (drop_plan.part (record m { point = y })).leaves (drop_call_at m y) rs r t ds a
    → Pays drop_parts drop_plan part_alone part_left part_saved anything drop_plan_rest drop_saved (record m { point = y }) a
drop_pays m Load r0 rs r tr t es ds (First n) h g = by_test (n % address_limit == 0) (Ok false) _ _ (let few = redo_few m.me.geometry.wide in omega arith) (omega arith)
drop_pays m Lower r0 rs r tr t es ds (Second (First (Ok true))) h g = omega arith
drop_pays m Lower r0 rs r tr t es ds (Second (First (Ok false))) h g = omega arith
drop_pays m Lower r0 rs r tr t es ds (Second (First (Err e))) h g = omega arith
drop_pays m Tear r0 rs r tr t es ds (Second (Second (Ok done))) h g = omega arith
drop_pays m Tear r0 rs r tr t es ds (Second (Second (Err e))) h g = omega arith
drop_pays m Load r0 rs r tr t es ds (Second a) h g = absurd g
drop_pays m Lower r0 rs r tr t es ds (First n) h g = absurd g
drop_pays m Lower r0 rs r tr t es ds (Second (Second a)) h g = absurd g
drop_pays m Tear r0 rs r tr t es ds (First n) h g = absurd g
drop_pays m Tear r0 rs r tr t es ds (Second (First a)) h g = absurd g

-- a call begins with nothing known of the words
drop_begins : (m : DropState) (y : DropPoint) (w : Spot → ℕ) → part_alone (drop_call_at m y) w
drop_begins m Load w = tt
drop_begins m Lower w = tt
drop_begins m Tear w = tt

-- a drop of a root that works alone ends
pub drop_ends : EndsAlone drop_root (calls_does drop_parts drop_plan) drop_alone drop_left drop_saved (CallsFits drop_parts drop_plan)
drop_ends =
    plain_calls_end drop_parts drop_plan part_alone part_left part_saved drop_plan_rest drop_saved drop_laws
    (record {
      parts = λ m. part_ends (is_load m.point) (Root m.me.who m.root);
      begins = λ m w. drop_begins m m.point w;
      pays = λ m r0 rs r tr t es ds a h g held agent. drop_pays m m.point r0 rs r tr t es ds a h g;
    })

-- ---- a drop of all roots

-- what is left before the drop of the next root
abbrev roots_due : RootsState → ℕ
roots_due m = drop_left (roots_call m) + roots_rest m

-- by whether the root was the last one
root_pays : (m : RootsState) (s : ℕ) → m.root < 16 → (q : Bool) → (q ≡ false → m.root ≢ 15) → Outcome {A = Result (Unit {0}) EraSpent} (if q then Some (Ok tt) else None) (roots_due (if q then m else record m { root = m.root + 1 }) ≤ roots_rest m + s) (λ x. roots_saved x ≤ roots_rest m + s)
root_pays m s low true other = omega arith
root_pays m s low false other = let o = other refl in omega arith

-- what the drop of a root has over pays for what comes next
roots_pays : (m : RootsState) (a : Result Bool EraSpent) → m.root < 16 → Pays drop_root roots_plan drop_alone drop_left drop_saved anything roots_rest roots_saved m a
roots_pays m (Ok z) low = root_pays m (drop_saved (Ok z)) low (m.root == 15) (eqb-false m.root 15)
roots_pays m (Err e) low = omega arith

-- a drop of all roots that works alone ends
pub roots_end : EndsAlone (calls_control drop_root roots_steered) (calls_does drop_root roots_plan) roots_alone roots_left roots_saved (CallsFits drop_root roots_plan)
roots_end =
    plain_calls_end drop_root roots_plan drop_alone drop_left drop_saved roots_rest roots_saved roots_laws
    (record {
      parts = λ m. drop_ends;
      begins = λ m w. (tt, tt);
      pays = λ m r0 rs r tr t es ds a h g held agent. roots_pays m a h.low;
    })

-- before its first word step it has this many left, and knows what it has to
pub roots_begin : (me : Me) → roots_left (calls_of roots_steered (dropping_roots me)) ≡ 176
roots_begin me = omega arith
