-- when a count step may begin, what its memo shows on the way, and what it leaves
pub mod Control
pub mod Asks
pub mod Events
pub mod Machines
pub mod ExchangeMade
pub mod Parts
use Rattle.std.specs.Prelude.{◌≡◌, ◌≢◌, ℕ, ◌+◌, ◌<◌, ◌≤◌, Bool, true, false, ◌&&◌, not, ◌==◌, ◌⊎◌, Result, Ok, Err, [], ◌∷◌, ◌++◌, if◌then◌else◌}
use Rattle.std.specs.List.{Contains}
use Rattle.shm_words.specs.{Layout.{GeometryFits, total_of}, Headers.header_of, Redos.{first_word, second_word}}
use Rattle.shm_graph.specs.declared.{ask.Me.Me, spot.Spot.Spot, memo.Fact.TheVariants.{Header as HeaderRead, Counter}}
use Rattle.shm_graph.specs.declared.memo.{Memo.Memo, First.TheVariants.Begun, Second.TheVariants.Open}
use Rattle.shm_graph.specs.{declared.memo.{ChangeStage.TheVariants.{Raising, Lowering}, Op.Op}, Core.core}
use Rattle.shm_graph.specs.{Spots.spot_address, Asks.Trail, Agents.recovers, Views.own_word, Held.{is_loose, is_slot}}
use Rattle.shm_graph.specs.{Reach.is_reached, MemoAfterExchange.committed, MemoAfterStore.{stored_on, with_own}}
use Rattle.shm_graph.specs.Tells.{after_all, happens_along}
use Rattle.shm_graph.specs.declared.spot.Spot.TheVariants as spot
use Rattle.shm_graph.specs.declared.memo.Op.TheVariants as op
use Rattle.kind_parts.specs.{Conditions.IsHere, OwnWords.{MayAdd, MayRemove}}
use Rattle.kind_parts.specs.Beginning.{MayReplaceRoot, MaySet, MayPut, MayTake, MayTakeBack, MayFill, MayClear, MayReplace}
use Rattle.kind_parts.specs.{Raising.is_read, Reparting.{sight, TableStep}}
use Rattle.shm_count.specs.declared.{answer.UpFault.{UpFault, TheVariants.{EraSpent, CountFull}}, point.Aim.Aim}
use Rattle.shm_count.specs.declared.point.{Aim.TheVariants.{Up, Down, Change}, Half.{Half, TheVariants.{First, Second}}}
use Rattle.shm_count.specs.declared.point.{StepPoint.StepPoint, StepState.StepState, StepNext.StepNext}
use Rattle.shm_count.specs.declared.point.StepNext.TheVariants.{Point, Answer}
use Rattle.shm_count.specs.Step.Control.{last_era, block_at, raises, value_before, value_after, redo_at, header_after, step_control, AimFits, StepInRange}
use Rattle.shm_count.specs.Step.{Asks.{step_trail, point_trail}, Events.{step_event, step_start, events_at, own_events}}
use Rattle.shm_count.specs.declared.point.StepPoint.TheVariants as point
use Rattle.plans.specs.Grown.{Grows}

-- ---- when it may begin

-- the memo shows that the slot is c's to change so, where the own era leaves room
abbrev pub CanUp : Bool → ℕ → ℕ → Memo → ℕ → Spot → Type 0
CanUp wide n c m b (spot.Root d k) = (d ≡ c) × MayAdd c m k b
CanUp wide n c m b (spot.Home d) = (d ≡ c) × MaySet c m b
CanUp wide n c m b (spot.Slot s r k) = (s ≡ c) × MayPut n c m r k b
CanUp wide n c m b (spot.Body d i) = MayFill wide c m d i b
CanUp wide n c m b p = ⊥

abbrev pub CanDown : Bool → ℕ → ℕ → Memo → ℕ → Spot → Type 0
CanDown wide n c m b (spot.Root d k) = (d ≡ c) × MayRemove c m k b
CanDown wide n c m b (spot.Slot s r k) = ((r ≡ c) × MayTake c m s k b) ⊎ ((s ≡ c) × MayTakeBack n c m r k b)
CanDown wide n c m b (spot.Body d i) = MayClear wide c m d i b
CanDown wide n c m b p = ⊥

abbrev pub CanChange : Bool → ℕ → Memo → ℕ → ℕ → Spot → Type 0
CanChange wide c m a b (spot.Root d k) = (d ≡ c) × MayReplaceRoot c m k a b
CanChange wide c m a b (spot.Body d i) = MayReplace wide c m d i a b
CanChange wide c m a b p = ⊥

abbrev pub CanAim : Bool → ℕ → ℕ → Memo → Aim → Spot → Type 0
CanAim wide n c m (Up b) p = CanUp wide n c m b p
CanAim wide n c m (Down b) p = CanDown wide n c m b p
CanAim wide n c m (Change a b) p = CanChange wide c m a b p

-- of a slot of a queue that is to have a block the memo has read a head that leaves room
abbrev pub HasPut : ℕ → Aim → Spot → Memo → Type 0
HasPut c (Up b) (spot.Slot s i k) m = (y : ℕ) × Contains m.facts (Counter (spot.QueueHead c i) y) × (own_word m.own (spot.Tail c i) < y + 8)
HasPut c x p m = Unit {0}

-- a step down may take a reference out of a zero-count block, from which no partition is read
abbrev pub IsDyingWord : Bool → Memo → Aim → Spot → Type 0
IsDyingWord wide r (Down b) (spot.Body d i) = Contains r.dying d
IsDyingWord wide r x p = ⊥

-- what the partition of a memo needs of a step: none is read from the slot, or the slot is a word of a zero-count block in a step down, or the step is one that tables make
abbrev pub KeepsPart : Bool → ℕ → Memo → Aim → Spot → Type 0
KeepsPart wide c r x p = (is_read r.part p ≡ false) ⊎ (IsDyingWord wide r x p ⊎ TableStep wide c (sight c r) p (value_before x) (value_after x))

-- no step of the identity is in progress, the slot is the spot p and is c's to change so, and a block that is to be raised is in reach; in a pool for tables the partition is the one of the memo's change, and only a value block is sent
pub record CanStep (me : Me) (slot : ℕ) (x : Aim) (p : Spot) (r : Memo) : Type 0 where
  pub geometry : GeometryFits me.geometry
  pub who : me.who < me.geometry.clients
  pub here : IsHere r
  pub idle : r.op ≡ op.Nothing
  pub client : raises x First ≡ true → recovers r ≡ false
  pub at : slot ≡ spot_address me.geometry p
  pub inside : (0 < slot) × (slot < total_of me.geometry)
  pub blocks : AimFits me x
  pub can : own_word r.own (spot.Era me.who me.who) ≤ last_era x → CanAim me.geometry.wide me.geometry.clients me.who r x p
  pub put : HasPut me.who x p r
  pub reach : raises x First ≡ true → is_reached me.who r (block_at x First) ≡ true
  pub part : KeepsPart me.geometry.wide me.who r x p
  pub queued : is_loose r.part ≡ false → is_slot p ≡ true → raises x First ≡ true → Contains r.values (block_at x First)

-- ---- what the memo shows on the way

-- the step that the redo record begins, and the one that is in progress in the second half of a change
abbrev pub begun_op : Aim → Spot → ℕ → Op
begun_op (Up b) p e = op.Up Begun p b e
begun_op (Down b) p e = op.Down Begun p b e
begun_op (Change a b) p e = op.Change (Raising Begun) p a b e

abbrev pub open_op : Aim → Spot → ℕ → Op
open_op (Change a b) p e = op.Change (Lowering Open) p a b e
open_op x p e = op.Nothing

abbrev pub op_of : Aim → Spot → ℕ → Half → Op
op_of x p e First = begun_op x p e
op_of x p e Second = open_op x p e

-- a word of the row of c for another identity, or in format 2 the second word of its redo record
abbrev pub is_row : ℕ → Spot → Bool
is_row c (spot.Era i j) = (i == c) && not (j == c)
is_row c (spot.RedoMore d) = d == c
is_row c p = false

-- rows were raised, in format 2 the second word of the redo record may have been stored, and nothing else of the memo changed
pub record Rows (c : ℕ) (m m' : Memo) : Type 0 where
  pub rest : core m' ≡ core (record m { own = m'.own })
  pub own : (p : Spot) → is_row c p ≡ false → own_word m'.own p ≡ own_word m.own p
  pub more : (j : ℕ) → own_word m.own (spot.Era c j) ≤ own_word m'.own (spot.Era c j)

-- the memo where the redo record is to be stored: in format 2 its second word is
abbrev pub readied : Me → ℕ → Aim → ℕ → Memo → Memo
readied me slot x e m = if me.geometry.wide then with_own m (spot.RedoMore me.who) (second_word me.geometry.wide (redo_at x slot e)) else m

-- the memo once the redo record is stored
abbrev pub begun : Me → ℕ → Aim → Spot → ℕ → Memo → Memo
begun me slot x p e m = record m { own = record { spot = spot.Redo me.who; value = first_word me.geometry.wide (redo_at x slot e) } ∷ m.own; op = begun_op x p e }

-- the memo q at the exchange of the first half, whose era is the own era before
abbrev pub AtFirst : Me → ℕ → Aim → Spot → Memo → Memo → ℕ → Type 0
AtFirst me slot x p r0 q e = (e ≡ own_word r0.own (spot.Era me.who me.who)) × Rows me.who (begun me slot x p e r0) q

-- what the exchange of a half makes of q, and the store of the slot after it
abbrev pub set_memo : Me → Aim → Spot → ℕ → Half → Memo → ℕ → Memo
set_memo me x p e h q w = committed me.geometry.wide me.who q (op_of x p e h) (header_after me x e h w)

abbrev pub slot_memo : Me → Aim → Spot → ℕ → Memo → ℕ → Memo
slot_memo me x p e q w = stored_on me.geometry me.who (set_memo me x p e First q w) p (value_after x)

-- what the store of the own era makes of a memo
abbrev pub closed_memo : Me → ℕ → Memo → Memo
closed_memo me e m = stored_on me.geometry me.who m (spot.Era me.who me.who) (e + 1)

-- the header w was read, of a counted live block; its era is shown by the own row once it is to be overwritten
pub record HasRead (c n : ℕ) (r : Memo) (w : ℕ) : Type 0 where
  pub fact : Contains r.facts (HeaderRead w)
  pub live : (header_of w).live ≡ true
  pub counted : (header_of w).count ≢ 0
  pub client : (header_of w).client < n

abbrev pub IsShown : ℕ → Memo → ℕ → Type 0
IsShown c r w = c ≢ (header_of w).client → (header_of w).era ≤ own_word r.own (spot.Era c (header_of w).client)

-- the memo is q, or what q came to in the first half of a change: its own era is e, and what q was at the beginning of the half
abbrev pub InHalf : Me → ℕ → Aim → Spot → Memo → Memo → ℕ → Half → Type 0
InHalf me slot x p r0 r e First = AtFirst me slot x p r0 r e
InHalf me slot x p r0 r e Second = (d : ℕ) × (e ≡ d + 1) × ((q : Memo) × (w : ℕ) × AtFirst me slot x p r0 q d × Rows me.who (closed_memo me d (slot_memo me x p d q w)) r)

-- what the memo shows at a point; the header that was exchanged is one of a counted block
abbrev pub PointHas : Me → ℕ → Aim → Spot → Memo → Memo → StepPoint → Type 0
PointHas me slot x p r0 r point.Era = (core r ≡ core r0) × HasPut me.who x p r
PointHas me slot x p r0 r (point.More e) = (core r ≡ core r0) × (e ≡ own_word r0.own (spot.Era me.who me.who)) × HasPut me.who x p r × (me.geometry.wide ≡ true)
PointHas me slot x p r0 r (point.Redo e) = (core r ≡ core (readied me slot x e r0)) × (e ≡ own_word r0.own (spot.Era me.who me.who)) × HasPut me.who x p r
PointHas me slot x p r0 r (point.Load e h) = InHalf me slot x p r0 r e h
PointHas me slot x p r0 r (point.Row e h w) = InHalf me slot x p r0 r e h × HasRead me.who me.geometry.clients r w × (me.who ≢ (header_of w).client)
PointHas me slot x p r0 r (point.Show e h w) = InHalf me slot x p r0 r e h × HasRead me.who me.geometry.clients r w × (me.who ≢ (header_of w).client) × (own_word r.own (spot.Era me.who (header_of w).client) ≤ (header_of w).era)
PointHas me slot x p r0 r (point.Exchange e h w) = InHalf me slot x p r0 r e h × HasRead me.who me.geometry.clients r w × IsShown me.who r w
PointHas me slot x p r0 r (point.Slot e z) = (q : Memo) × (w : ℕ) × AtFirst me slot x p r0 q e × ((header_of w).count ≢ 0) × (core r ≡ core (set_memo me x p e First q w)) × (z ≡ (not (raises x First) && ((header_of w).count == 1)))
PointHas me slot x p r0 r (point.Close e First z) = (q : Memo) × (w : ℕ) × AtFirst me slot x p r0 q e × ((header_of w).count ≢ 0) × (core r ≡ core (slot_memo me x p e q w)) × (z ≡ (not (raises x First) && ((header_of w).count == 1)))
PointHas me slot x p r0 r (point.Close e Second z) = (q : Memo) × (w : ℕ) × InHalf me slot x p r0 q e Second × ((header_of w).count ≢ 0) × (core r ≡ core (set_memo me x p e Second q w)) × (z ≡ ((header_of w).count == 1))
PointHas me slot x p r0 r point.Over = Unit {0}

-- ---- what it leaves

-- the step is done: the memo is what the exchanges, of headers of counted blocks, the store of the slot and those of the own era made of the memo before; z says whether the block that was lowered came to 0
abbrev pub Done : Me → ℕ → Aim → Spot → Memo → Memo → Bool → Type 0
Done me slot (Change a b) p r0 r z = (e : ℕ) × (q : Memo) × (w : ℕ) × InHalf me slot (Change a b) p r0 q e Second × ((header_of w).count ≢ 0) × (core r ≡ core (closed_memo me e (set_memo me (Change a b) p e Second q w))) × (z ≡ ((header_of w).count == 1))
Done me slot x p r0 r z = (e : ℕ) × (q : Memo) × (w : ℕ) × AtFirst me slot x p r0 q e × ((header_of w).count ≢ 0) × (core r ≡ core (closed_memo me e (slot_memo me x p e q w))) × (z ≡ (not (raises x First) && ((header_of w).count == 1)))

-- nothing was done: a redo record may stand that names no step in progress, and rows may have been raised
abbrev pub Refused : Me → Aim → Memo → Memo → UpFault → Type 0
Refused me x r0 r (EraSpent e) = (core r ≡ core r0) × (e ≡ own_word r0.own (spot.Era me.who me.who)) × (last_era x < e)
Refused me x r0 r (CountFull b n) = (n ≡ 1023) × (b ≡ block_at x First) × (raises x First ≡ true) × ((v : ℕ) × Rows me.who (record r0 { own = record { spot = spot.Redo me.who; value = v } ∷ r0.own }) r)

abbrev pub Gives : Me → ℕ → Aim → Spot → Memo → Memo → Result Bool UpFault → Type 0
Gives me slot x p r0 r (Ok z) = Done me slot x p r0 r z
Gives me slot x p r0 r (Err f) = Refused me x r0 r f

-- ---- a count step at the spot p

-- what holds of the memo at a point: its agent is what it was
pub record PointHolds (me : Me) (slot : ℕ) (x : Aim) (p : Spot) (r0 r : Memo) (y : StepPoint) : Type 0 where
  pub agent : recovers r ≡ recovers r0
  pub has : PointHas me slot x p r0 r y

-- what holds of the memo after a step
abbrev pub NextHolds : Me → ℕ → Aim → Spot → Memo → Memo → StepNext → Type 0
NextHolds me slot x p r0 r (Point y) = PointHolds me slot x p r0 r y
NextHolds me slot x p r0 r (Answer a) = Gives me slot x p r0 r a

-- it could begin, the memo shows what the point needs, and what was asked is the first part of a trail that goes on from the point, leads there, and tells of the events up to it
pub record StepFits (p : Spot) (m : StepState) (r0 r : Memo) (tr : Trail) : Type 0 where
  pub can : CanStep m.me m.slot m.aim p r0
  pub knows : StepInRange m
  pub begun : m.point ≢ point.Era → tr ≢ []
  pub grows : Grows true r0 r
  pub holds : PointHolds m.me m.slot m.aim p r0 r m.point
  pub trail : (rest : Trail) (a : Result Bool UpFault) → point_trail m.me m.slot m.aim m.point rest a → step_trail m.me m.slot m.aim (tr ++ rest) a
  pub course : after_all step_control (step_start m) tr ≡ m
  pub events : happens_along step_control (step_event p) (step_start m) tr ≡ events_at m.me m.aim p m.point

-- it could begin; the agent and the status are what they were, and what was read of tails and heads stays; the step is done, or nothing is; the trail is whole, and the own events are those of the answer
pub record StepGives (p : Spot) (m : StepState) (r0 r : Memo) (tr : Trail) (a : Result Bool UpFault) : Type 0 where
  pub can : CanStep m.me m.slot m.aim p r0
  pub grows : Grows true r0 r
  pub status : r.status ≡ r0.status
  pub gives : Gives m.me m.slot m.aim p r0 r a
  pub trail : step_trail m.me m.slot m.aim tr a
  pub events : happens_along step_control (step_event p) (step_start m) tr ≡ own_events m.me m.aim p a
