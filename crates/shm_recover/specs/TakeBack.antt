-- blocks that are taken back, as a plan: what is known before each call, and what is left
pub mod Control
pub mod Words
use Rattle.std.specs.Prelude.{◌≡◌, ◌≢◌, ℕ, zero, suc, ◌+◌, ◌*◌, ◌-◌, ◌%◌, ◌<◌, ◌≤◌, ◌⊎◌, true, false, Result, Ok, Err, List, [], ◌∷◌, ◌++◌, length, slice_index}
use Rattle.std.specs.List.{Contains}
use Rattle.shm_graph.specs.{Bounds.{redo_steps, tear_steps}, declared.{ask.Me.Me, spot.Spot.Spot, memo.Memo.Memo}}
use Rattle.shm_graph.specs.{declared.memo.Op.TheVariants.Nothing, Asks.{Trail, IsWithin}, Events.Event, Views.own_word}
use Rattle.shm_graph.specs.declared.spot.Spot.TheVariants as spot
use Rattle.shm_graph.specs.Events as event
use Rattle.kind_parts.specs.WordParts.{CountLoaded, IsTailSlot, TailSlotLoaded}
use Rattle.plans.specs.{Either.or_part, Parts.{IsHeld, Part}, Plans.Planned, Words.word_part}
use Rattle.shm_count.specs.{declared.answer.EraSpent.EraSpent, CountParts.tear_part, Lowering.StoppedAt, Roots.rest}
use Rattle.shm_count.specs.{Slots.{Lost, Parts.down_slot_part}, Tear.{Events.{Visit, Walks, frees}, CanTear}}
use Rattle.shm_count.specs.Lasting.{is_lasting}
use Rattle.shm_recover.specs.declared.take_back.BackPoint.{BackPoint, TheVariants.{Tail, Head, Slot, Lower, Tear}}
use Rattle.shm_recover.specs.{declared.take_back.BackState.BackState, Others.{MayServe, other_at}}
use Rattle.shm_recover.specs.TakeBack.Control.{BackAnswer, BackCall, back_ask, is_first, to_of, back_steered}
use Rattle.shm_recover.specs.TakeBack.Words.{HeadShown, MayBackAt}

-- ---- what is left of the memo

-- Blocks that waited in queues for their tails were taken out, no step is in progress, and nothing else of the identity changed but its zero-count blocks, what it knows and has read, its redo record and its row, which grew
pub record Back (c : ℕ) (m r : Memo) : Type 0 where
  pub rest : rest r ≡ rest (record m { unsent = r.unsent })
  pub op : r.op ≡ Nothing
  pub own : (p : Spot) → is_lasting c p ≡ true → own_word r.own p ≡ own_word m.own p
  pub rows : (j : ℕ) → own_word m.own (spot.Era c j) ≤ own_word r.own (spot.Era c j)
  pub unsent : (j : ℕ) → (slice_index r.unsent j ≡ 0) ⊎ (slice_index r.unsent j ≡ slice_index m.unsent j)

-- nothing waits in the queues to those before n, and the others are as they were
pub record TakenBack (c n : ℕ) (m r : Memo) : Type 0 where
  pub back : Back c m r
  pub before : (j : ℕ) → j < n → j ≢ c → slice_index r.unsent j ≡ 0
  pub after : (j : ℕ) → (n ≤ j) ⊎ (j ≡ c) → slice_index r.unsent j ≡ slice_index m.unsent j

-- ---- events

-- those of slot k of the queue to i, in which block x waited: none where none did, and otherwise the loss of the reference, and where the count came to 0 the walk over the block
abbrev pub BackEvents : ℕ → ℕ → ℕ → ℕ → List Event → Type 0
BackEvents c i k zero es = es ≡ []
BackEvents c i k x es = (ds : List Event) × (es ≡ event.Down c (spot.Slot c i k) x ∷ ds) × ((ds ≡ []) ⊎ Walks c x ds [])

-- those of the queues to the first p others, one after the other, which were as the memo says
abbrev pub BacksEvents : ℕ → Memo → ℕ → List Event → Type 0
BacksEvents c m zero es = es ≡ []
BacksEvents c m (suc p) es = (before after : List Event) × (es ≡ before ++ after) × BacksEvents c m p before × BackEvents c (other_at c p) (own_word m.own (spot.Tail c (other_at c p)) % 8) (slice_index m.unsent (other_at c p)) after

-- ---- on the way

-- so many queues are done, and k word steps of the next one
pub record IsBacking (me : Me) (p k : ℕ) (r0 r : Memo) (tr : Trail) (es : List Event) : Type 0 where
  pub may : MayServe me r0
  pub low : p + 1 < me.geometry.clients
  pub taken : TakenBack me.who (other_at me.who p) r0 r
  pub dying : r.dying ≡ r0.dying
  pub events : BacksEvents me.who r0 p es
  pub bound : IsWithin ((10 + redo_steps me.geometry.wide) * p + k + tear_steps me.geometry.wide (frees es)) tr

-- the own tail was read
abbrev pub IsAt : BackState → Memo → Type 0
IsAt m r = m.at ≡ own_word r.own (spot.Tail m.me.who (to_of m))

-- The slot of the queue to i is empty, and the count of its block came to 0; the memo was q before, and `before` were the events
pub record IsOut (me : Me) (p at b : ℕ) (r0 r : Memo) (tr : Trail) (es : List Event) : Type 0 where
  pub q : Memo
  pub before : List Event
  pub may : MayServe me r0
  pub low : p + 1 < me.geometry.clients
  pub taken : TakenBack me.who (other_at me.who p) r0 q
  pub dying : q.dying ≡ r0.dying
  pub events : BacksEvents me.who r0 p before
  pub place : at ≡ own_word r0.own (spot.Tail me.who (other_at me.who p))
  pub names : slice_index r0.unsent (other_at me.who p) ≡ b
  pub some : b ≢ 0
  pub counted : Contains q.dying b → ⊥
  pub lost : Lost me.who (spot.Slot me.who (other_at me.who p) (at % 8)) false b 0 true q r
  pub held : IsHeld me r
  pub can : CanTear me b r
  pub told : es ≡ before ++ event.Down me.who (spot.Slot me.who (other_at me.who p) (at % 8)) b ∷ []
  pub bound : IsWithin ((10 + redo_steps me.geometry.wide) * p + (10 + redo_steps me.geometry.wide) + tear_steps me.geometry.wide (frees before)) tr

abbrev pub BackKnows : BackState → BackPoint → Memo → Memo → Trail → List Event → Type 0
BackKnows m Tail r0 r tr es = IsBacking m.me m.passed 0 r0 r tr es
BackKnows m Head r0 r tr es = IsBacking m.me m.passed 1 r0 r tr es × IsAt m r
BackKnows m Slot r0 r tr es = IsBacking m.me m.passed 2 r0 r tr es × IsAt m r × IsTailSlot m.me.geometry.clients m.me.who r (to_of m) (m.at % 8)
BackKnows m Lower r0 r tr es = IsBacking m.me m.passed 3 r0 r tr es × IsAt m r × MayBackAt m.me (to_of m) (m.at % 8) m.block r
BackKnows m Tear r0 r tr es = IsOut m.me m.passed m.at m.block r0 r tr es

-- ---- what it leaves

-- nothing waits in any queue for its tail, with the events of each queue, and the zero-count blocks are those before
pub record BackDone (me : Me) (r0 r : Memo) (tr : Trail) (es : List Event) : Type 0 where
  pub back : Back me.who r0 r
  pub none : (j : ℕ) → slice_index r.unsent j ≡ 0
  pub dying : r.dying ≡ r0.dying
  pub events : BacksEvents me.who r0 (me.geometry.clients - 1) es
  pub bound : IsWithin ((10 + redo_steps me.geometry.wide) * (me.geometry.clients - 1) + tear_steps me.geometry.wide (frees es)) tr

-- the own era left no room for a step down: each queue is done or as it was, and these blocks joined the zero-count blocks
pub record BackStopped (me : Me) (r0 r : Memo) (tr : Trail) (es : List Event) (era : ℕ) (vs : List Visit) : Type 0 where
  pub back : Back me.who r0 r
  pub stopped : StoppedAt me r0 r era vs
  pub most : era ≤ own_word r.own (spot.Era me.who me.who)
  pub bound : IsWithin ((10 + redo_steps me.geometry.wide) * (me.geometry.clients - 1) + tear_steps me.geometry.wide (frees es + length vs)) tr

abbrev pub BackLeaves : BackState → Memo → Memo → Trail → List Event → Result (Unit {0}) EraSpent → Type 0
BackLeaves m r0 r tr es (Ok done) = BackDone m.me r0 r tr es
BackLeaves m r0 r tr es (Err e) = (vs : List Visit) × BackStopped m.me r0 r tr es e.era vs

-- ---- the plan

-- what holds of a memo after the word step at a point, by the word found and the memo before
abbrev pub BackFound : BackState → BackPoint → Memo → ℕ → Memo → Type 0
BackFound m Head = HeadShown m.me.who (to_of m)
BackFound m Slot = TailSlotLoaded (to_of m)
BackFound m y = CountLoaded m.me.who (spot.Tail m.me.who (to_of m))

abbrev pub back_part : BackState → BackPoint → Part BackCall BackAnswer
back_part m y = or_part (word_part (is_first (record m { point = y })) m.me (back_ask m y) (BackFound m y)) (or_part (down_slot_part (spot.Slot m.me.who (to_of m) (m.at % 8)) false) tear_part)

abbrev pub back_plan : Planned BackState BackCall BackAnswer (Result (Unit {0}) EraSpent)
back_plan =
    record {
      steered = back_steered;
      part = λ m. back_part m m.point;
      knows = λ m. BackKnows m m.point;
      leaves = BackLeaves;
    }
