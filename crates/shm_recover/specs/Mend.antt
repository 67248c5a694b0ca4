-- mending as a plan: what is known before each call, and what is left
pub mod Control
pub mod Machines
use Rattle.std.specs.Prelude.{◌≡◌, ◌≢◌, ℕ, ◌+◌, ◌^◌, ◌<◌, ◌≤◌, ◌⊎◌, Bool, true, false, None, Some, List, [], ◌∷◌, ◌++◌}
use Rattle.shm_words.specs.{declared.redo.Redo.Redo as ARedo, Layout.{GeometryFits, total_of}}
use Rattle.shm_words.specs.declared.redo.Redo.TheVariants as redos
use Rattle.shm_graph.specs.declared.{ask.Me.Me, spot.Spot.Spot}
use Rattle.shm_graph.specs.declared.spot.Spot.TheVariants.{Body, Era as OwnEra, Hold, Home, QueueHead, Redo as RedoWord, RedoMore, Root, Tail}
use Rattle.shm_graph.specs.declared.memo.{Memo.Memo, Op.TheVariants.{Change, Nothing}, ChangeStage.TheVariants.Raising}
use Rattle.shm_graph.specs.{declared.memo.First.TheVariants.Written, Agents.recovers, Asks.{Trail, IsWithin}}
use Rattle.shm_graph.specs.{Bounds.redo_steps, Core.core, Events.{ChangeDown, Event}, Held.is_loose}
use Rattle.shm_graph.specs.{Ops.{IsUncommitted, held_over_of, slot_of}, Reach.{learnt, shown}, Spots.spot_address}
use Rattle.shm_graph.specs.{MemoAfterStore.{op_closed, op_written, with_own, written}, Views.{own_word, owner_is}}
use Rattle.shm_graph.specs.declared.memo.Status.TheVariants as status
use Rattle.kind_laws.specs.{OwnWords.Closes, Slotting.Writes}
use Rattle.kind_parts.specs.{Reparting.map_in, WordParts.{CountLoaded, DeadStored, EraStored, Makes, OwnLoaded}}
use Rattle.plans.specs.{CallsPart.calls_part, Either.or_part, Parts.{IsHeld, Part}, Plans.Planned}
use Rattle.plans.specs.Words.{word_control, word_part}
use Rattle.shm_count.specs.CommitTest.{record_in, testing_plan}
use Rattle.shm_recover.specs.declared.mend.MendPoint.{MendPoint}
use Rattle.shm_recover.specs.declared.mend.MendPoint.TheVariants.{Dead, Era, Redo, More, Test, Slot, Close, Lower, Unlatch}
use Rattle.shm_recover.specs.{declared.mend.MendState.MendState, MendLower.{MayLowerDead, lowering_plan}, MendRest.bare}
use Rattle.shm_recover.specs.MendUnlatch.{unlatching_plan}
use Rattle.shm_recover.specs.Mend.Control.{MendAnswer, MendCall, before_of, block_of, is_dead, is_first, is_second, mend_ask, slot_at, value_at, mend_steered}

-- ---- when it may begin

-- the agent is a recoverer; nothing else is asked, so that the recoverer after one that died begins as that one did
pub record MayMend (me : Me) (r : Memo) : Type 0 where
  pub geometry : GeometryFits me.geometry
  pub who : me.who < me.geometry.clients
  pub recoverer : recovers r ≡ true

-- ---- on the way

-- the memo of a dead identity, of which nothing is prepared and known
abbrev pub dead : Memo → Memo
dead r = record r { status = status.Dead; making = None; known = []; values = [] }

-- the status is stored
pub record IsDead (me : Me) (r0 r : Memo) (es : List Event) : Type 0 where
  pub may : MayMend me r0
  pub recoverer : recovers r ≡ true
  pub same : core r ≡ core (dead r0)
  pub none : es ≡ []

-- own words that name a block, and those that a mending doesn't store
abbrev pub is_name : Spot → Bool
is_name (Home c) = true
is_name (Root c k) = true
is_name p = false

abbrev pub is_apart : Spot → Bool
is_apart (RedoWord c) = true
is_apart (RedoMore c) = true
is_apart (Tail s r) = true
is_apart (QueueHead s r) = true
is_apart p = false

-- the dead identity's memo, of which what each own root and the home name is as it was; rows don't fall
pub record IsMending (me : Me) (r0 r : Memo) : Type 0 where
  pub may : MayMend me r0
  pub recoverer : recovers r ≡ true
  pub rest : bare r ≡ bare (dead r0)
  pub names : (p : Spot) → is_name p ≡ true → owner_is me.who p ≡ true → shown r p ≡ shown r0 p
  pub apart : (p : Spot) → is_apart p ≡ true → own_word r.own p ≡ own_word r0.own p
  pub rows : (j : ℕ) → own_word r0.own (OwnEra me.who j) ≤ own_word r.own (OwnEra me.who j)

-- The reference that a change held over is still held over, with no event; or its loss is the one event, after which the block may have no reference
abbrev pub HeldOver : ℕ → Memo → Memo → List Event → Type 0
HeldOver c r0 r es =
    ((es ≡ []) × (r.dying ≡ r0.dying) × (held_over_of r.op ≡ held_over_of r0.op))
    ⊎ ((es ≡ ChangeDown c (held_over_of r0.op) ∷ []) × (held_over_of r0.op ≢ 0) × (held_over_of r.op ≡ 0) × ((r.dying ≡ r0.dying) ⊎ (r.dying ≡ r0.dying ++ held_over_of r0.op ∷ [])))

-- the redo record that was found spells a step at the own era, whose block lies in the pool; it is 0 where a client of format 2 died between the two stores of a redo record
pub record IsSpelled (me : Me) (e : ℕ) (redo : ARedo) (r : Memo) : Type 0 where
  pub era : own_word r.own (OwnEra me.who me.who) ≡ e
  pub spelled : record_in me r ≡ Some redo
  pub some : redo ≢ redos.Idle
  pub inside : block_of redo e < total_of me.geometry

-- the step is committed, and its slot is to be stored, again perhaps
pub record IsSlotted (me : Me) (e : ℕ) (redo : ARedo) (r : Memo) : Type 0 where
  pub era : own_word r.own (OwnEra me.who me.who) ≡ e
  pub held : IsHeld me r
  pub spelled : record_in me r ≡ Some redo
  pub small : value_at redo < 2 ^ 64
  pub writes : Writes r.op (op_written r.op) (value_at redo)
  pub at : slot_at redo ≡ spot_address me.geometry (slot_of r.op)
  pub half : is_second redo e ≡ false

-- the step, or the half of a change, has done all but its own era
pub record IsClosing (me : Me) (e : ℕ) (redo : ARedo) (r : Memo) : Type 0 where
  pub era : own_word r.own (OwnEra me.who me.who) ≡ e
  pub held : IsHeld me r
  pub closes : Closes r.op (op_closed r.op (e + 1))
  pub first : is_first redo e ≡ true → (p : Spot) × (b : ℕ) × (r.op ≡ Change (Raising Written) p (before_of redo) b e)
  pub other : is_first redo e ≡ false → op_closed r.op (e + 1) ≡ Nothing

abbrev pub MendKnows : MendState → MendPoint → Memo → Memo → Trail → List Event → Type 0
MendKnows m Dead r0 r tr es = MayMend m.me r0 × (r ≡ r0) × (tr ≡ []) × (es ≡ [])
MendKnows m Era r0 r tr es = IsDead m.me r0 r es × IsWithin 1 tr
MendKnows m Redo r0 r tr es = IsDead m.me r0 r es × (own_word r.own (OwnEra m.me.who m.me.who) ≡ m.era) × IsWithin 2 tr
MendKnows m More r0 r tr es = IsDead m.me r0 r es × (own_word r.own (OwnEra m.me.who m.me.who) ≡ m.era) × (own_word r.own (RedoWord m.me.who) ≡ m.first) × (m.me.geometry.wide ≡ true) × IsWithin 3 tr
MendKnows m Test r0 r tr es = IsDead m.me r0 r es × IsSpelled m.me m.era m.redo r × IsWithin (2 + redo_steps m.me.geometry.wide) tr
MendKnows m Slot r0 r tr es = IsMending m.me r0 r × HeldOver m.me.who r0 r es × IsSlotted m.me m.era m.redo r × IsWithin (m.me.geometry.clients + 2 + redo_steps m.me.geometry.wide) tr
MendKnows m Close r0 r tr es = IsMending m.me r0 r × HeldOver m.me.who r0 r es × IsClosing m.me m.era m.redo r × IsWithin (m.me.geometry.clients + 3 + redo_steps m.me.geometry.wide) tr
MendKnows m Lower r0 r tr es = IsMending m.me r0 r × HeldOver m.me.who r0 r es × MayLowerDead m.me (before_of m.redo) m.era r × IsWithin (m.me.geometry.clients + 4 + redo_steps m.me.geometry.wide) tr
MendKnows m Unlatch r0 r tr es = IsMending m.me r0 r × HeldOver m.me.who r0 r es × IsUncommitted r.op × IsWithin (m.me.geometry.clients + 9 + redo_steps m.me.geometry.wide) tr

-- ---- what it leaves

-- what became of the reference that a change held over: none was, and there is no event; or its loss is the event
abbrev pub WasLost : ℕ → Memo → Memo → List Event → Type 0
WasLost c r0 r es =
    ((held_over_of r0.op ≡ 0) × (es ≡ []) × (r.dying ≡ r0.dying))
    ⊎ ((held_over_of r0.op ≢ 0) × (es ≡ ChangeDown c (held_over_of r0.op) ∷ []) × ((r.dying ≡ r0.dying) ⊎ (r.dying ≡ r0.dying ++ held_over_of r0.op ∷ [])))

-- The identity is dead, with no step in progress, no latch, and nothing prepared. What its roots and its home name is as it was, counting what was committed; so are segments, queues and the partition
pub record IsMended (me : Me) (r0 r : Memo) (tr : Trail) (es : List Event) : Type 0 where
  pub status : r.status ≡ status.Dead
  pub op : r.op ≡ Nothing
  pub latch : r.latch ≡ None
  pub hold : own_word r.own (Hold me.who) ≡ 0
  pub making : r.making ≡ None
  pub recoverer : recovers r ≡ true
  pub sent : r.sent ≡ r0.sent
  pub received : r.received ≡ r0.received
  pub unsent : r.unsent ≡ r0.unsent
  pub untaken : r.untaken ≡ r0.untaken
  pub owned : r.owned ≡ r0.owned
  pub loose : is_loose r.part ≡ is_loose r0.part
  pub map : map_in r.part ≡ map_in r0.part
  pub names : (p : Spot) → is_name p ≡ true → owner_is me.who p ≡ true → own_word r.own p ≡ shown r0 p
  pub apart : (p : Spot) → is_apart p ≡ true → own_word r.own p ≡ own_word r0.own p
  pub rows : (j : ℕ) → own_word r0.own (OwnEra me.who j) ≤ own_word r.own (OwnEra me.who j)
  pub lost : WasLost me.who r0 r es
  pub events : (es ≡ []) ⊎ ((a : ℕ) × (es ≡ ChangeDown me.who a ∷ []))
  pub bound : IsWithin (me.geometry.clients + 13 + redo_steps me.geometry.wide) tr

-- ---- the plan

-- the memo with the new value stored in the slot
abbrev pub slotted : Memo → Spot → ℕ → Memo
slotted m (Root c k) v = written (with_own m (Root c k) v)
slotted m (Home c) v = written (with_own m (Home c) v)
slotted m (Body b i) v = record (written m) { known = learnt (Body b i) v m.known }
slotted m p v = written m

-- what holds after the word step at a point, by the memo before, the word found and the memo
abbrev pub MendFound : MendState → MendPoint → Memo → ℕ → Memo → Type 0
MendFound m Dead = DeadStored
MendFound m Era = CountLoaded m.me.who (OwnEra m.me.who m.me.who)
MendFound m Redo = OwnLoaded (RedoWord m.me.who)
MendFound m More = OwnLoaded (RedoMore m.me.who)
MendFound m Slot = Makes (λ r. slotted r (slot_of r.op) (value_at m.redo))
MendFound m Close = EraStored m.me.who
MendFound m y = λ r n x. ⊥

abbrev pub mend_part : MendState → MendPoint → Part MendCall MendAnswer
mend_part m y =
    or_part (word_part (is_dead y) m.me (mend_ask m.me m.era m.redo y) (MendFound m y))
    (or_part (calls_part word_control testing_plan) (or_part (calls_part word_control lowering_plan) (calls_part word_control unlatching_plan)))

abbrev pub mend_plan : Planned MendState MendCall MendAnswer (Unit {0})
mend_plan =
    record {
      steered = mend_steered;
      part = λ m. mend_part m m.point;
      knows = λ m. MendKnows m m.point;
      leaves = λ m r0 r tr es done. IsMended m.me r0 r tr es;
    }
