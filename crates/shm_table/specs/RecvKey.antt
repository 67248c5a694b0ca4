-- a receive into a table as a plan: when it may begin, what is known before each call, and what is left
pub mod Control
use Rattle.std.specs.Prelude.{◌≡◌, ◌≢◌, ℕ, ◌+◌, ◌*◌, ◌%◌, ◌<◌, ◌⊎◌, false, Option, Some, None, List, [], ◌∷◌, length, slice_index, Bool}
use Rattle.std.specs.List.{All, Contains}
use Rattle.shm_graph.specs.{declared.{ask.Me.Me, memo.Memo.Memo}, Asks.{Trail, IsWithin}}
use Rattle.shm_graph.specs.{Bounds.{tear_steps, redo_steps}, Events.Event, MemoAfterStore.lane_with, Views.own_word}
use Rattle.shm_graph.specs.declared.spot.Spot.TheVariants as spot
use Rattle.shm_graph.specs.Events as event
use Rattle.plans.specs.{CallsPart.calls_part, Either.or_part, Parts.{IsHeld, Part}, Plans.Planned}
use Rattle.kind_parts.specs.Reparting.{map_in}
use Rattle.shm_count.specs.{Roots.root_word, Tear.{Events.{Visit, frees}, Memos.Knows}}
use Rattle.shm_queue.specs.Take.{TakeEmpty}
use Rattle.shm_ref.specs.DropRoot.{Control.drop_parts, drop_plan}
use Rattle.shm_script.specs.declared.log.Answer.{Answer}
use Rattle.shm_script.specs.declared.line.Line.TheVariants as line
use Rattle.shm_script.specs.declared.log.Answer.TheVariants as answer
use Rattle.shm_table.specs.declared.answer.PutFault.{PutFault, TheVariants.{EraSpent, RootsFull, Full, CountFull}}
use Rattle.shm_table.specs.declared.recv.RecvPoint.{RecvPoint, TheVariants.{Fetch, Put, Take, Drop}}
use Rattle.shm_table.specs.{declared.recv.RecvState.RecvState, Commands.{CommandCause, MayCommand, RestSo, ValueSo}}
use Rattle.shm_table.specs.FetchHead.Control.{fetch_head_parts}
use Rattle.shm_table.specs.FetchHead.{IsAtHead, IsHeadRooted, IsWaited, fetch_head_plan, fetch_head_steps}
use Rattle.shm_table.specs.PutRoot.Control.{put_root_parts}
use Rattle.shm_table.specs.PutRoot.{HasSearch, IsDecided, IsEraSpent, put_root_plan, put_root_steps}
use Rattle.shm_table.specs.RecvKey.Control.{RecvAnswer, RecvCall, recv_steered}
use Rattle.shm_table.specs.{Staying.{Cleared, Ended, IsSpent, Keeps, MapSet, SameMap}, TakeHead.Control.take_head_parts}
use Rattle.shm_table.specs.TakeHead.{passed_memo, take_head_plan, take_head_steps}
use Rattle.shm_table.specs.Undoing.{BlockUndone, CommandUndone}

-- ---- when it may begin

-- as any command, with another identity of the pool, no item of whose queue waits for its head
pub record MayRecv (me : Me) (s key : ℕ) (r : Memo) : Type 0 where
  pub command : MayCommand me key r
  pub from : s < me.geometry.clients
  pub other : s ≢ me.who
  pub none : slice_index r.untaken s ≡ 0

-- ---- on the way

-- The key has the value block b with the number v, which is item n of the queue from s, or f is why not; but for root k, which was empty, the roots are as before, or the own era was spent
pub record IsPutIn (me : Me) (s key n b v k steps : ℕ) (f : Option PutFault) (r0 r : Memo) (tr : Trail) (es : List Event) : Type 0 where
  pub may : MayRecv me s key r0
  pub latch : r.latch ≡ None
  pub low : k < 16
  pub empty : root_word me.who r0 k ≡ 0
  pub rest : RestSo me.who k r0 r f
  pub value : ValueSo me key v b r0 r es f
  pub undone : BlockUndone me.who (λ j x. event.Up me.who (spot.Root me.who j) x) k b r0 r es f
  pub made : (ds : List Event) × (es ≡ event.Up me.who (spot.Root me.who k) b ∷ ds)
  pub q : Memo
  pub source : IsAtHead me s n b v r0 q
  pub keys : ℕ
  pub search : (keys ≡ 0) ⊎ HasSearch me me.who key keys tr
  pub left : List Visit
  pub dying : All (λ (x : Visit). Contains r.dying x.block) left
  pub bound : IsWithin (steps + 2 * keys + tear_steps me.geometry.wide (frees es + length left)) tr

-- the item waits at the head of its queue still, where it is known, and root k names it
pub record IsWaiting (me : Me) (s n b k : ℕ) (r0 r : Memo) : Type 0 where
  pub keeps : Keeps me.who r0 r
  pub holds : IsHeld me r
  pub root : root_word me.who r k ≡ b
  pub some : b ≢ 0
  pub known : Knows r (spot.Slot s me.who (n % 8)) b

-- item n of the queue from s is received, by the loss of its reference there, and all else is kept
pub record IsPassed (me : Me) (s n b : ℕ) (r0 r : Memo) (es : List Event) : Type 0 where
  pub keeps : Keeps me.who (passed_memo me.who s n b r0) r
  pub event : Contains es (event.Down me.who (spot.Slot s me.who (n % 8)) b)

-- where the key has the value block the item is received, or the own era was spent before that and the queue is as before; otherwise it is as before
abbrev pub ItemSo : Me → ℕ → ℕ → ℕ → Memo → Memo → List Event → Option PutFault → Type 0
ItemSo me s n b r0 r es None = IsPassed me s n b r0 r es ⊎ (Keeps me.who r0 r × ((e : ℕ) × IsSpent me.who e r))
ItemSo me s n b r0 r es (Some f) = Keeps me.who r0 r

-- the reading of the head and the root with the rest of a put, and the taking of the head
abbrev pub put_in_steps : Bool → ℕ → ℕ
put_in_steps wide g = fetch_head_steps wide + put_root_steps wide g

abbrev pub RecvKnows : RecvState → RecvPoint → Memo → Memo → Trail → List Event → Type 0
RecvKnows m Fetch r0 r tr es = MayRecv m.me m.from m.key r0 × (r ≡ r0) × (tr ≡ []) × (es ≡ [])
RecvKnows m Put r0 r tr es = MayRecv m.me m.from m.key r0 × IsHeadRooted m.me m.from m.root m.block m.number m.at r0 r tr es
RecvKnows m Take r0 r tr es = (m.refused ≡ None) × IsPutIn m.me m.from m.key m.at m.block m.number m.root (put_in_steps m.me.geometry.wide m.me.geometry.segments) None r0 r tr es × IsWaiting m.me m.from m.at m.block m.root r0 r × (m.decided ≡ false → SameMap r0 r)
RecvKnows m Drop r0 r tr es = IsPutIn m.me m.from m.key m.at m.block m.number m.root (put_in_steps m.me.geometry.wide m.me.geometry.segments + take_head_steps m.me.geometry.wide) m.refused r0 r tr es × ItemSo m.me m.from m.at m.block r0 r es m.refused × (m.decided ≡ false → SameMap r0 r)

-- ---- what it leaves

-- and the drop of the root
abbrev pub recv_steps : Bool → ℕ → ℕ
recv_steps wide g = put_in_steps wide g + take_head_steps wide + (8 + redo_steps wide)

-- What was received from s is that before with item b, which was at place n, at its end, and the head is the next one; no item waits for a head that didn't, and all else is kept
pub record ItemTaken (me : Me) (s n b : ℕ) (r0 r : Memo) (es : List Event) : Type 0 where
  pub passed : IsPassed me s n b r0 r es
  pub received : r.received ≡ lane_with r0.received s b
  pub head : own_word r.own (spot.QueueHead s me.who) ≡ n + 1
  pub untaken : (j : ℕ) → slice_index r.untaken j ≡ slice_index r0.untaken j

-- The key has the value block b with its number v, which waited at the head of the queue from s, and no other key changed; and the item was taken, or the own era was spent before it could be, and the queue is as before
pub record ReceivedIn (me : Me) (s key v b : ℕ) (r0 r : Memo) (tr : Trail) (es : List Event) : Type 0 where
  pub place : ℕ
  pub item : ItemTaken me s place b r0 r es ⊎ (Keeps me.who r0 r × ((e : ℕ) × IsSpent me.who e r))
  pub latch : r.latch ≡ None
  pub home : own_word r.own (spot.Home me.who) ≢ 0
  pub map : MapSet key v b r0 r
  pub made : (k : ℕ) × (ds : List Event) × (es ≡ event.Up me.who (spot.Root me.who k) b ∷ ds)
  pub q : Memo
  pub source : IsAtHead me s place b v r0 q
  pub decided : IsDecided me.who key (own_word r.own (spot.Home me.who)) b es ⊎ ((i : ℕ) × (map_in r0.part key ≡ Some (i, b)))
  pub ended : Ended me.who r0 r
  pub keys : ℕ
  pub search : (keys ≡ 0) ⊎ HasSearch me me.who key keys tr
  pub left : List Visit
  pub dying : All (λ (x : Visit). Contains r.dying x.block) left
  pub bound : IsWithin (recv_steps me.geometry.wide me.geometry.segments + 2 * keys + tear_steps me.geometry.wide (frees es + length left)) tr

-- it was refused: the map, the latches and the queues are as before, and so are roots and zero-count blocks, unless the own era was spent; and the home, unless a directory was made, which it names
pub record NotReceivedIn (me : Me) (s key : ℕ) (r0 r : Memo) (tr : Trail) (es : List Event) (f : PutFault) : Type 0 where
  pub keeps : Keeps me.who r0 r
  pub latch : r.latch ≡ None
  pub map : SameMap r0 r
  pub cause : CommandCause me r0 r f
  pub cleared : Cleared me.who r0 r ⊎ IsEraSpent f
  pub undone : CommandUndone me (λ j x. event.Up me.who (spot.Root me.who j) x) r0 r es f
  pub waits : IsWaited me s r0
  pub keys : ℕ
  pub search : (keys ≡ 0) ⊎ HasSearch me me.who key keys tr
  pub left : List Visit
  pub dying : All (λ (x : Visit). Contains r.dying x.block) left
  pub bound : IsWithin (recv_steps me.geometry.wide me.geometry.segments + 2 * keys + tear_steps me.geometry.wide (frees es + length left)) tr

abbrev pub RecvLeaves : RecvState → Memo → Memo → Trail → List Event → Answer → Type 0
RecvLeaves m r0 r tr es (answer.Value v b) = ReceivedIn m.me m.from m.key v b r0 r tr es
RecvLeaves m r0 r tr es (answer.Empty n) = TakeEmpty m.me m.from n r0 r tr es
RecvLeaves m r0 r tr es (answer.EraSpent e) = NotReceivedIn m.me m.from m.key r0 r tr es (EraSpent e)
RecvLeaves m r0 r tr es answer.RootsFull = NotReceivedIn m.me m.from m.key r0 r tr es RootsFull
RecvLeaves m r0 r tr es (answer.Full s b) = NotReceivedIn m.me m.from m.key r0 r tr es (Full s b)
RecvLeaves m r0 r tr es (answer.CountFull b n) = NotReceivedIn m.me m.from m.key r0 r tr es (CountFull b n)
RecvLeaves m r0 r tr es a = ⊥

-- ---- the plan

abbrev pub recv_part : Part RecvCall RecvAnswer
recv_part = or_part (or_part (calls_part fetch_head_parts fetch_head_plan) (calls_part take_head_parts take_head_plan)) (or_part (calls_part put_root_parts put_root_plan) (calls_part drop_parts drop_plan))

abbrev pub recv_plan : Planned RecvState RecvCall RecvAnswer Answer
recv_plan =
    record {
      steered = recv_steered;
      part = λ m. recv_part;
      knows = λ m. RecvKnows m m.point;
      leaves = RecvLeaves;
    }
