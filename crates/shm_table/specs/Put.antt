-- a put as a plan: when it may begin, what is known before each call, and what is left
pub mod Control
use Rattle.std.specs.Prelude.{◌≡◌, ◌≢◌, ℕ, ◌+◌, ◌*◌, ◌^◌, ◌<◌, ◌⊎◌, false, Option, Some, None, List, [], ◌∷◌, length, Bool}
use Rattle.std.specs.List.{All, Contains}
use Rattle.shm_graph.specs.{declared.{ask.Me.Me, memo.Memo.Memo, spot.Spot.TheVariants.Home}, Agents.recovers}
use Rattle.shm_graph.specs.{Asks.{Trail, IsWithin}, Bounds.{alloc_steps, tear_steps, redo_steps}, Events.Event}
use Rattle.shm_graph.specs.Views.{own_word}
use Rattle.shm_graph.specs.Events as event
use Rattle.plans.specs.{CallsPart.calls_part, Either.or_part, Parts.Part, Plans.Planned}
use Rattle.kind_parts.specs.Reparting.{sight, map_in, IsValue}
use Rattle.shm_alloc.specs.Alloc.AsPart.{alloc_part}
use Rattle.shm_count.specs.{Roots.root_word, Tear.Events.{Visit, frees}}
use Rattle.shm_ref.specs.DropRoot.{Control.drop_parts, drop_plan}
use Rattle.shm_script.specs.declared.log.Answer.{Answer}
use Rattle.shm_script.specs.declared.line.Line.TheVariants as line
use Rattle.shm_script.specs.declared.log.Answer.TheVariants as answer
use Rattle.shm_table.specs.declared.answer.PutFault.{PutFault, TheVariants.{EraSpent, RootsFull, Full, CountFull}}
use Rattle.shm_table.specs.declared.put.{PutPoint.{PutPoint, TheVariants.{Make, Put, Drop}}, PutState.PutState}
use Rattle.shm_table.specs.Commands.{CommandCause, MayCommand, RestSo, ValueSo}
use Rattle.shm_table.specs.{Put.Control.{PutAnswer, PutCall, put_steered}, PutRoot.Control.put_root_parts}
use Rattle.shm_table.specs.PutRoot.{HasSearch, IsDecided, IsEraSpent, put_root_plan, put_root_steps}
use Rattle.shm_table.specs.{Staying.{Cleared, Ended, Keeps, MapSet, SameMap}, Undoing.{BlockUndone, CommandUndone}}

-- ---- on the way

-- root k, which was empty, names a value block b with this number, which the key didn't have, and nothing else changed
pub record HasValue (me : Me) (key n k b : ℕ) (r0 r : Memo) (tr : Trail) (es : List Event) : Type 0 where
  pub may : MayCommand me key r0
  pub keeps : Keeps me.who r0 r
  pub client : recovers r ≡ false
  pub latch : r.latch ≡ None
  pub low : k < 16
  pub empty : root_word me.who r0 k ≡ 0
  pub root : root_word me.who r k ≡ b
  pub some : b ≢ 0
  pub others : (j : ℕ) → k ≢ j → root_word me.who r j ≡ root_word me.who r0 j
  pub dying : r.dying ≡ r0.dying
  pub home : own_word r.own (Home me.who) ≡ own_word r0.own (Home me.who)
  pub map : SameMap r0 r
  pub value : IsValue (sight me.who r) b n
  pub fresh : (i : ℕ) → map_in r0.part key ≡ Some (i, b) → ⊥
  pub told : es ≡ event.Alloc me.who k b ∷ []
  pub bound : IsWithin (alloc_steps me.geometry.wide me.geometry.segments) tr

-- it is settled whether the key has it, and root k names it still; f is why not
pub record IsPut (me : Me) (key n k b : ℕ) (f : Option PutFault) (r0 r : Memo) (tr : Trail) (es : List Event) : Type 0 where
  pub may : MayCommand me key r0
  pub keeps : Keeps me.who r0 r
  pub latch : r.latch ≡ None
  pub low : k < 16
  pub empty : root_word me.who r0 k ≡ 0
  pub rest : RestSo me.who k r0 r f
  pub value : ValueSo me key n b r0 r es f
  pub undone : BlockUndone me.who (λ j v. event.Alloc me.who j v) k b r0 r es f
  pub fresh : (i : ℕ) → map_in r0.part key ≡ Some (i, b) → ⊥
  pub made : (ds : List Event) × (es ≡ event.Alloc me.who k b ∷ ds)
  pub keys : ℕ
  pub search : (keys ≡ 0) ⊎ HasSearch me me.who key keys tr
  pub left : List Visit
  pub dying : All (λ (x : Visit). Contains r.dying x.block) left
  pub bound : IsWithin (alloc_steps me.geometry.wide me.geometry.segments + put_root_steps me.geometry.wide me.geometry.segments + 2 * keys + tear_steps me.geometry.wide (frees es + length left)) tr

abbrev pub PutKnows : PutState → PutPoint → Memo → Memo → Trail → List Event → Type 0
PutKnows m Make r0 r tr es = MayCommand m.me m.key r0 × (m.number < 2 ^ 64) × (r ≡ r0) × (tr ≡ []) × (es ≡ [])
PutKnows m Put r0 r tr es = HasValue m.me m.key m.number m.root m.block r0 r tr es
PutKnows m Drop r0 r tr es = IsPut m.me m.key m.number m.root m.block m.refused r0 r tr es × (m.decided ≡ false → SameMap r0 r)

-- ---- what it leaves

-- an allocation, the rest of a put, and the drop of a root
abbrev pub put_steps : Bool → ℕ → ℕ
put_steps wide g = alloc_steps wide g + put_root_steps wide g + (8 + redo_steps wide)

-- the key has the number in value block b, which this call made, and no other key changed
pub record PutStored (me : Me) (key n b : ℕ) (r0 r : Memo) (tr : Trail) (es : List Event) : Type 0 where
  pub keeps : Keeps me.who r0 r
  pub latch : r.latch ≡ None
  pub home : own_word r.own (Home me.who) ≢ 0
  pub map : MapSet key n b r0 r
  pub made : (k : ℕ) × (ds : List Event) × (es ≡ event.Alloc me.who k b ∷ ds)
  pub decided : IsDecided me.who key (own_word r.own (Home me.who)) b es
  pub ended : Ended me.who r0 r
  pub keys : ℕ
  pub search : (keys ≡ 0) ⊎ HasSearch me me.who key keys tr
  pub left : List Visit
  pub dying : All (λ (x : Visit). Contains r.dying x.block) left
  pub bound : IsWithin (put_steps me.geometry.wide me.geometry.segments + 2 * keys + tear_steps me.geometry.wide (frees es + length left)) tr

-- it was refused: the map, the latches and the queues are as before, and so are roots and zero-count blocks, unless the own era was spent; and the home, unless a directory was made, which it names
pub record NotStored (me : Me) (key : ℕ) (r0 r : Memo) (tr : Trail) (es : List Event) (f : PutFault) : Type 0 where
  pub keeps : Keeps me.who r0 r
  pub latch : r.latch ≡ None
  pub map : SameMap r0 r
  pub cause : CommandCause me r0 r f
  pub cleared : Cleared me.who r0 r ⊎ IsEraSpent f
  pub undone : CommandUndone me (λ j v. event.Alloc me.who j v) r0 r es f
  pub keys : ℕ
  pub search : (keys ≡ 0) ⊎ HasSearch me me.who key keys tr
  pub left : List Visit
  pub dying : All (λ (x : Visit). Contains r.dying x.block) left
  pub bound : IsWithin (put_steps me.geometry.wide me.geometry.segments + 2 * keys + tear_steps me.geometry.wide (frees es + length left)) tr

abbrev pub PutLeaves : PutState → Memo → Memo → Trail → List Event → Answer → Type 0
PutLeaves m r0 r tr es (answer.Stored b) = PutStored m.me m.key m.number b r0 r tr es
PutLeaves m r0 r tr es (answer.EraSpent e) = NotStored m.me m.key r0 r tr es (EraSpent e)
PutLeaves m r0 r tr es answer.RootsFull = NotStored m.me m.key r0 r tr es RootsFull
PutLeaves m r0 r tr es (answer.Full s b) = NotStored m.me m.key r0 r tr es (Full s b)
PutLeaves m r0 r tr es (answer.CountFull b n) = NotStored m.me m.key r0 r tr es (CountFull b n)
PutLeaves m r0 r tr es a = ⊥

-- ---- the plan

abbrev pub put_part : Part PutCall PutAnswer
put_part = or_part alloc_part (or_part (calls_part put_root_parts put_root_plan) (calls_part drop_parts drop_plan))

abbrev pub put_plan : Planned PutState PutCall PutAnswer Answer
put_plan =
    record {
      steered = put_steered;
      part = λ m. put_part;
      knows = λ m. PutKnows m m.point;
      leaves = PutLeaves;
    }
