-- when a tear-down may begin, what its memo shows on the way, and what it leaves
pub mod Memos
pub mod Control
pub mod Asks
pub mod Events
use Rattle.std.specs.Prelude.{false, ◌≡◌, ◌≢◌, ℕ, ◌+◌, ◌-◌, ◌*◌, ◌^◌, ◌<◌, ◌≤◌, Bool, true, not, ◌==◌, List, [], ◌∷◌, ◌++◌, length, Result, Ok, Err}
use Rattle.std.specs.List.{All, Contains, filter, list_any}
use Rattle.shm_words.specs.{declared.tag.Tag.Tag as ATag, Layout.{GeometryFits, total_of}}
use Rattle.shm_graph.specs.declared.{ask.Me.Me, spot.Spot.TheVariants.{Era, Body}, memo.Memo.Memo}
use Rattle.shm_graph.specs.{Asks.{Trail, failed, IsWithin}, Bounds.{tear_steps, redo_steps}, Agents.recovers}
use Rattle.shm_graph.specs.{Events.Event, MemoAfterStore.not_block, Tells.{after_all, happens_along}, Views.own_word}
use Rattle.shm_graph.specs.declared.memo.Op.TheVariants as op
use Rattle.kind_parts.specs.Conditions.{IsHere}
use Rattle.shm_count.specs.declared.{answer.EraSpent.EraSpent, point.StepPoint.StepPoint}
use Rattle.shm_count.specs.declared.tear_point.{TearPoint.TearPoint, TearState.TearState, TearNext.TearNext}
use Rattle.shm_count.specs.{declared.tear_point.TearNext.TheVariants.{Go, Answer}, Step.Control.IsInside}
use Rattle.shm_count.specs.Step.{Events.events_at, CanStep, PointHolds}
use Rattle.shm_count.specs.Tear.Control.{word_address, tear_control, TearInRange}
use Rattle.shm_count.specs.Tear.Events.{tear_event, tear_start, Visit, Walks, frees}
use Rattle.shm_count.specs.Tear.{Memos.{TearStays, Retains, Knows, IsTagged, IsFound}, Asks.{tear_trail, point_trail}}
use Rattle.shm_count.specs.declared.point.Aim.TheVariants as aims
use Rattle.shm_count.specs.declared.point.StepPoint.TheVariants as step
use Rattle.shm_count.specs.declared.tear_point.TearPoint.TheVariants as point
use Rattle.plans.specs.Grown.{Grows}

-- ---- when it may begin

-- no step of the identity is in progress, and the block is one of its zero-count blocks
pub record CanTear (me : Me) (b : ℕ) (m : Memo) : Type 0 where
  pub geometry : GeometryFits me.geometry
  pub who : me.who < me.geometry.clients
  pub here : IsHere m
  pub idle : m.op ≡ op.Nothing
  pub inside : IsInside me b
  pub room : b + 2 ≤ total_of me.geometry
  pub dying : Contains m.dying b

-- ---- the blocks that are being torn down

-- a zero-count block of the pool whose first words are known to be 0
pub record IsVisited (me : Me) (m : Memo) (v : Visit) : Type 0 where
  pub inside : IsInside me v.block
  pub room : v.block + 2 ≤ total_of me.geometry
  pub dying : Contains m.dying v.block
  pub most : v.cleared ≤ 16
  pub zeros : (i : ℕ) → i < v.cleared → Knows m (Body v.block i) 0

-- from a link on, the known tags lead through these blocks, and then to none
abbrev pub Linked : Me → Memo → ℕ → List Visit → Type 0
Linked me m l [] = l ≡ 0
Linked me m l (v ∷ vs) = (l ≡ v.block) × IsVisited me m v × ((g : ATag) × IsTagged me m v.block g × Linked me m g.link vs)

-- none of these blocks, and no block twice
abbrev pub is_visit_of : ℕ → Visit → Bool
is_visit_of b v = v.block == b

abbrev pub is_outside : List Visit → ℕ → Bool
is_outside vs b = not (list_any (is_visit_of b) vs)

abbrev pub IsApart : List Visit → Type 0
IsApart [] = Unit {0}
IsApart (v ∷ vs) = (is_outside vs v.block ≡ true) × IsApart vs

-- ---- what the memo shows at a point

-- of the memo, which was so when no step was in progress last, where the block is b, k of its first words are done with, and vs are the blocks that its link leads to
abbrev pub PointShows : Me → ℕ → ℕ → List Visit → Memo → TearPoint → Type 0
PointShows me b k vs m point.Begin = (k ≡ 0) × Linked me m 0 vs
PointShows me b k vs m (point.Enter l) = (k ≡ 0) × Linked me m l vs
PointShows me b k vs m (point.Link g) = (k ≡ 0) × Linked me m g.link vs × ((h : ATag) × IsTagged me m b h × (g ≡ record h { link = g.link }))
PointShows me b k vs m (point.Word g i) = IsTagged me m b g × Linked me m g.link vs × (i < g.refs) × (i ≤ k)
PointShows me b k vs m (point.Down g i t y) = IsTagged me m b g × Linked me m g.link vs × (i < g.refs) × (i ≡ k) × IsFound me m b i t
PointShows me b k vs m (point.Free g) = IsTagged me m b g × Linked me m g.link vs × (g.refs ≤ k)
PointShows me b k vs m point.Return = (g : ATag) × IsTagged me m b g × Linked me m g.link vs
PointShows me b k vs m point.Over = ⊥

-- ---- how many word steps there were

-- what a reference word costs at most: it is loaded, and there is a step down
abbrev pub word_cost : Bool → ℕ
word_cost false = 9
word_cost true = 10

-- what is left to be done at most with these blocks: so much for each reference word, one word step to free a block, and 17 to go through the words of the block that named it again
abbrev pub left_for : Bool → List Visit → ℕ
left_for wide [] = 0
left_for wide (v ∷ vs) = word_cost wide * (16 - v.cleared) + 18 + left_for wide vs

-- what comes before the next word that isn't done with
abbrev pub due_at : ℕ → TearPoint → ℕ
due_at k point.Begin = 2
due_at k (point.Enter l) = 2
due_at k (point.Link g) = 1
due_at k (point.Word g i) = k - i
due_at k point.Return = k + 1
due_at k y = 0

-- how many steps of a step down come before a point, but for what is tried again
abbrev pub steps_before : Bool → StepPoint → ℕ
steps_before wide step.Era = 0
steps_before wide (step.More e) = redo_steps wide - 1
steps_before wide (step.Redo e) = redo_steps wide
steps_before wide (step.Load e h) = 1 + redo_steps wide
steps_before wide (step.Row e h w) = 2 + redo_steps wide
steps_before wide (step.Show e h w) = 3 + redo_steps wide
steps_before wide (step.Exchange e h w) = 4 + redo_steps wide
steps_before wide (step.Slot e z) = 5 + redo_steps wide
steps_before wide (step.Close e h z) = 6 + redo_steps wide
steps_before wide step.Over = 7 + redo_steps wide

-- the load of a word, and what was done of its step down
abbrev pub done_at : Bool → TearPoint → ℕ
done_at wide (point.Down g i t y) = 1 + steps_before wide y
done_at wide y = 0

-- what was asked, what is due and what is left are within 164 word steps for each block, in format 2 180, and three more for each exchange that failed
abbrev pub IsPaid : Bool → List Visit → ℕ → TearPoint → List Event → Trail → Type 0
IsPaid wide vs k y es tr = length tr + left_for wide vs + due_at k y ≤ tear_steps wide (frees es + length vs) + 3 * failed tr + done_at wide y

-- ---- on the way

-- of the memo m, which was r0 at the beginning: nothing of zero-count blocks changed but for those that are being torn down, the innermost first with k words done with, and these were the events
pub record Settled (me : Me) (first b k : ℕ) (vs : List Visit) (r0 m : Memo) (es : List Event) : Type 0 where
  pub agent : recovers m ≡ recovers r0
  pub stays : TearStays me.who r0 m
  pub retains : Retains me.who r0 m
  pub visited : IsVisited me m (record { block = b; cleared = k })
  pub apart : IsApart (record { block = b; cleared = k } ∷ vs)
  pub others : filter (is_outside (record { block = b; cleared = k } ∷ vs)) m.dying ≡ filter (not_block first) r0.dying
  pub walks : Walks me.who first es (record { block = b; cleared = k } ∷ vs)

-- and it shows what the point needs; es are the events before the word that the point is at
pub record TearAt (me : Me) (first b k : ℕ) (vs : List Visit) (y : TearPoint) (r0 m : Memo) (es : List Event) (tr : Trail) : Type 0 where
  pub settled : Settled me first b k vs r0 m es
  pub shows : PointShows me b k vs m y
  pub paid : IsPaid me.geometry.wide (record { block = b; cleared = k } ∷ vs) k y es tr

-- at a step down the memo m was so before it
abbrev pub TearHolds : Me → ℕ → Memo → ℕ → TearPoint → Memo → List Event → Trail → Type 0
TearHolds me first r0 b (point.Down g i t y) r es tr =
    (k : ℕ) × (vs : List Visit) × (m : Memo) × (before : List Event) × TearAt me first b k vs (point.Down g i t y) r0 m before tr
    × (es ≡ before ++ events_at me (aims.Down t) (Body b i) y)
    × CanStep me (word_address b i) (aims.Down t) (Body b i) m
    × PointHolds me (word_address b i) (aims.Down t) (Body b i) m r y
TearHolds me first r0 b y r es tr = (k : ℕ) × (vs : List Visit) × TearAt me first b k vs y r0 r es tr

-- it could begin, the memo shows what the point needs, and what was asked is the first part of a trail that goes on from the point, and leads there
pub record TearFits (m : TearState) (r0 r : Memo) (tr : Trail) : Type 0 where
  pub can : CanTear m.me m.first r0
  pub knows : TearInRange m
  pub begun : m.point ≢ point.Begin → tr ≢ []
  pub trail : (rest : Trail) (a : Result (Unit {0}) EraSpent) → point_trail m.me m.block m.point rest a → tear_trail m.me m.first (tr ++ rest) a
  pub course : after_all tear_control (tear_start m) tr ≡ m
  pub grows : Grows true r0 r
  pub holds : TearHolds m.me m.first r0 m.block m.point r (happens_along tear_control tear_event (tear_start m) tr) tr

-- ---- what it leaves

-- the block is freed, and so is each block whose count came to 0 on the way; the events are those of one walk, with at most 164 word steps for each block, in format 2 180
pub record Torn (me : Me) (first : ℕ) (r0 r : Memo) (es : List Event) (tr : Trail) : Type 0 where
  pub agent : recovers r ≡ recovers r0
  pub stays : TearStays me.who r0 r
  pub retains : Retains me.who r0 r
  pub others : r.dying ≡ filter (not_block first) r0.dying
  pub walks : Walks me.who first es []
  pub bound : IsWithin (tear_steps me.geometry.wide (frees es)) tr

-- the own era left no room for a step down, and these blocks, the innermost first, are still zero-count blocks: the events are those of a walk that has to go on with them
pub record TornPartly (me : Me) (first : ℕ) (r0 r : Memo) (es : List Event) (tr : Trail) (era : ℕ) (vs : List Visit) : Type 0 where
  pub agent : recovers r ≡ recovers r0
  pub stays : TearStays me.who r0 r
  pub retains : Retains me.who r0 r
  pub some : vs ≢ []
  pub left : All (λ v. Contains r.dying v.block) vs
  pub others : filter (is_outside vs) r.dying ≡ filter (not_block first) r0.dying
  pub walks : Walks me.who first es vs
  pub bound : IsWithin (tear_steps me.geometry.wide (frees es + length vs)) tr
  pub spent : era ≡ own_word r.own (Era me.who me.who)
  pub last : 2 ^ 47 - 3 < era

abbrev pub TearLeaves : Me → ℕ → Memo → Memo → List Event → Trail → Result (Unit {0}) EraSpent → Type 0
TearLeaves me first r0 r es tr (Ok done) = Torn me first r0 r es tr
TearLeaves me first r0 r es tr (Err e) = (vs : List Visit) × TornPartly me first r0 r es tr e.era vs

-- what holds of the memo after a step
abbrev pub NextHolds : Me → ℕ → Memo → ℕ → TearNext → Memo → List Event → Trail → Type 0
NextHolds me first r0 b (Go d y) r es tr = TearHolds me first r0 d y r es tr
NextHolds me first r0 b (Answer a) r es tr = TearLeaves me first r0 r es tr a

-- the tear-down is done, or part of it is; the agent is what it was, and what was read of tails and heads stays; the trail is whole
pub record TearGives (m : TearState) (r0 r : Memo) (tr : Trail) (a : Result (Unit {0}) EraSpent) : Type 0 where
  pub leaves : TearLeaves m.me m.first r0 r (happens_along tear_control tear_event (tear_start m) tr) tr a
  pub grows : Grows true r0 r
  pub trail : tear_trail m.me m.first tr a
