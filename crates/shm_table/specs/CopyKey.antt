-- a copy as a plan: when it may begin, what is known before each call, and what is left
pub mod Control
pub mod Bound
use Rattle.std.specs.Prelude.{◌≡◌, ◌≢◌, ℕ, ◌+◌, ◌*◌, ◌<◌, ◌⊎◌, false, Option, Some, None, List, [], ◌∷◌, length, Bool}
use Rattle.std.specs.List.{All, Contains}
use Rattle.shm_graph.specs.declared.{ask.Me.Me, memo.Memo.Memo, spot.Spot.TheVariants.{Home, Root}}
use Rattle.shm_graph.specs.{Asks.{Trail, IsWithin}, Bounds.{tear_steps, redo_steps}, Events.Event, Views.own_word}
use Rattle.shm_graph.specs.Events as event
use Rattle.plans.specs.{CallsPart.calls_part, Either.or_part, Parts.Part, Plans.Planned}
use Rattle.kind_parts.specs.Reparting.{map_in}
use Rattle.shm_count.specs.{Roots.root_word, Tear.Events.{Visit, frees}}
use Rattle.shm_ref.specs.DropRoot.{Control.drop_parts, drop_plan}
use Rattle.shm_script.specs.declared.log.Answer.{Answer}
use Rattle.shm_script.specs.declared.line.Line.TheVariants as line
use Rattle.shm_script.specs.declared.log.Answer.TheVariants as answer
use Rattle.shm_table.specs.declared.answer.PutFault.{PutFault, TheVariants.{EraSpent, RootsFull, Full, CountFull}}
use Rattle.shm_table.specs.declared.copy.{CopyPoint.{CopyPoint, TheVariants.{Fetch, Put, Drop}}, CopyState.CopyState}
use Rattle.shm_table.specs.{CopyKey.Control.{CopyAnswer, CopyCall, copy_steered}, Fetch.Control.fetch_parts}
use Rattle.shm_table.specs.{Fetch.{IsRooted, fetch_plan, fetch_steps}, Get.{GotNone, IsReading, IsTold}}
use Rattle.shm_table.specs.{Commands.{CommandCause, MayCommand, RestSo, ValueSo}, PutRoot.Control.put_root_parts}
use Rattle.shm_table.specs.PutRoot.{HasSearch, IsDecided, IsEraSpent, put_root_plan, put_root_steps}
use Rattle.shm_table.specs.{Staying.{Cleared, Ended, Keeps, MapSet, SameMap}, Undoing.{BlockUndone, CommandUndone}}

-- ---- when it may begin

-- as any command, with an author of the pool
pub record MayCopy (me : Me) (key a : ℕ) (r : Memo) : Type 0 where
  pub command : MayCommand me key r
  pub author : a < me.geometry.clients

-- ---- on the way

-- Under the latch of a the entry of the other key was read, with its value block and that block's number: q is the memo after it. In the own table the map had them at the key. The search read so many keys
pub record IsSource (me : Me) (a other n v : ℕ) (r0 : Memo) (tr : Trail) : Type 0 where
  pub entry : ℕ
  pub q : Memo
  pub reading : IsReading me a r0 q
  pub told : IsTold a other entry n v q
  pub has : a ≡ me.who → map_in r0.part other ≡ Some (n, v)
  pub read : ℕ
  pub searched : HasSearch me a other read tr

-- it is settled whether the key has the value block, and root k names that still; f is why not
pub record IsCopied (me : Me) (key a other n k b : ℕ) (f : Option PutFault) (r0 r : Memo) (tr : Trail) (es : List Event) : Type 0 where
  pub may : MayCopy me key a r0
  pub keeps : Keeps me.who r0 r
  pub latch : r.latch ≡ None
  pub low : k < 16
  pub empty : root_word me.who r0 k ≡ 0
  pub rest : RestSo me.who k r0 r f
  pub value : ValueSo me key n b r0 r es f
  pub undone : BlockUndone me.who (λ j v. event.Up me.who (Root me.who j) v) k b r0 r es f
  pub made : (ds : List Event) × (es ≡ event.Up me.who (Root me.who k) b ∷ ds)
  pub source : IsSource me a other n b r0 tr
  pub keys : ℕ
  pub search : (keys ≡ 0) ⊎ HasSearch me me.who key keys tr
  pub left : List Visit
  pub dying : All (λ (x : Visit). Contains r.dying x.block) left
  pub bound : IsWithin (fetch_steps me.geometry.wide + 2 * source.read + put_root_steps me.geometry.wide me.geometry.segments + 2 * keys + tear_steps me.geometry.wide (frees es + length left)) tr

abbrev pub CopyKnows : CopyState → CopyPoint → Memo → Memo → Trail → List Event → Type 0
CopyKnows m Fetch r0 r tr es = MayCopy m.me m.key m.author r0 × (r ≡ r0) × (tr ≡ []) × (es ≡ [])
CopyKnows m Put r0 r tr es = MayCopy m.me m.key m.author r0 × IsRooted m.me m.author m.other m.root m.block m.number None (fetch_steps m.me.geometry.wide) r0 r tr es
CopyKnows m Drop r0 r tr es = IsCopied m.me m.key m.author m.other m.number m.root m.block m.refused r0 r tr es × (m.decided ≡ false → SameMap r0 r)

-- ---- what it leaves

-- the reading of the other key and the root, the rest of a put, and the drop of the root
abbrev pub copy_steps : Bool → ℕ → ℕ
copy_steps wide g = fetch_steps wide + put_root_steps wide g + (8 + redo_steps wide)

-- the key has the value block b that the other key has, with its number n, and no other key changed
pub record Copied (me : Me) (key a other n b : ℕ) (r0 r : Memo) (tr : Trail) (es : List Event) : Type 0 where
  pub keeps : Keeps me.who r0 r
  pub latch : r.latch ≡ None
  pub home : own_word r.own (Home me.who) ≢ 0
  pub map : MapSet key n b r0 r
  pub made : (k : ℕ) × (ds : List Event) × (es ≡ event.Up me.who (Root me.who k) b ∷ ds)
  pub source : IsSource me a other n b r0 tr
  pub decided : IsDecided me.who key (own_word r.own (Home me.who)) b es ⊎ ((i : ℕ) × (map_in r0.part key ≡ Some (i, b)))
  pub ended : Ended me.who r0 r
  pub keys : ℕ
  pub search : (keys ≡ 0) ⊎ HasSearch me me.who key keys tr
  pub left : List Visit
  pub dying : All (λ (x : Visit). Contains r.dying x.block) left
  pub bound : IsWithin (copy_steps me.geometry.wide me.geometry.segments + 2 * source.read + 2 * keys + tear_steps me.geometry.wide (frees es + length left)) tr

-- it was refused: the map, the latches and the queues are as before, and so are roots and zero-count blocks, unless the own era was spent; and the home, unless a directory was made, which it names
pub record NotCopied (me : Me) (key a other : ℕ) (r0 r : Memo) (tr : Trail) (es : List Event) (f : PutFault) : Type 0 where
  pub keeps : Keeps me.who r0 r
  pub latch : r.latch ≡ None
  pub map : SameMap r0 r
  pub cause : CommandCause me r0 r f
  pub cleared : Cleared me.who r0 r ⊎ IsEraSpent f
  pub undone : CommandUndone me (λ j v. event.Up me.who (Root me.who j) v) r0 r es f
  pub has : a ≡ me.who → (n : ℕ) × (v : ℕ) × (map_in r0.part other ≡ Some (n, v))
  pub read : ℕ
  pub searched : HasSearch me a other read tr
  pub keys : ℕ
  pub search : (keys ≡ 0) ⊎ HasSearch me me.who key keys tr
  pub left : List Visit
  pub dying : All (λ (x : Visit). Contains r.dying x.block) left
  pub bound : IsWithin (copy_steps me.geometry.wide me.geometry.segments + 2 * read + 2 * keys + tear_steps me.geometry.wide (frees es + length left)) tr

abbrev pub CopyLeaves : CopyState → Memo → Memo → Trail → List Event → Answer → Type 0
CopyLeaves m r0 r tr es (answer.Value n b) = Copied m.me m.key m.author m.other n b r0 r tr es
CopyLeaves m r0 r tr es answer.Missing = GotNone m.me m.author m.other r0 r tr es
CopyLeaves m r0 r tr es (answer.EraSpent e) = NotCopied m.me m.key m.author m.other r0 r tr es (EraSpent e)
CopyLeaves m r0 r tr es answer.RootsFull = NotCopied m.me m.key m.author m.other r0 r tr es RootsFull
CopyLeaves m r0 r tr es (answer.Full s b) = NotCopied m.me m.key m.author m.other r0 r tr es (Full s b)
CopyLeaves m r0 r tr es (answer.CountFull b n) = NotCopied m.me m.key m.author m.other r0 r tr es (CountFull b n)
CopyLeaves m r0 r tr es a = ⊥

-- ---- the plan

abbrev pub copy_part : Part CopyCall CopyAnswer
copy_part = or_part (calls_part fetch_parts fetch_plan) (or_part (calls_part put_root_parts put_root_plan) (calls_part drop_parts drop_plan))

abbrev pub copy_plan : Planned CopyState CopyCall CopyAnswer Answer
copy_plan =
    record {
      steered = copy_steered;
      part = λ m. copy_part;
      knows = λ m. CopyKnows m m.point;
      leaves = CopyLeaves;
    }
