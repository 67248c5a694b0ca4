-- putting a value block into the own table as a plan: when it may begin, what is known before each call, and what is left
pub mod Control
pub mod Bound
use Rattle.std.specs.Prelude.{◌≡◌, ◌≢◌, Bool, ℕ, ◌+◌, ◌*◌, ◌%◌, ◌^◌, ◌<◌, ◌⊎◌, false, Option, Some, None, IfSome, Result, Ok, Err, List, [], ◌∷◌, ◌++◌, length}
use Rattle.std.specs.List.{All, Contains}
use Rattle.shm_words.specs.Layout.{GeometryFits}
use Rattle.shm_graph.specs.{declared.{ask.Me.Me, memo.Memo.Memo, spot.Spot.TheVariants.{Body, Home}}, Agents.recovers}
use Rattle.shm_graph.specs.Asks.{Trail, IsWithin}
use Rattle.shm_graph.specs.{Bounds.{alloc_steps, change_steps, tear_steps, up_steps, redo_steps}, Events.Event}
use Rattle.shm_graph.specs.{Held.is_loose, Idle.IsIdle, Views.own_word}
use Rattle.shm_graph.specs.Events as event
use Rattle.plans.specs.{CallsPart.calls_part, Either.or_part, Parts.{IsHeld, Part}, Plans.Planned, Words.word_control}
use Rattle.kind_parts.specs.Reparting.{sight, map_in, IsValue}
use Rattle.shm_count.specs.{Roots.root_word, Tear.Events.{Visit, frees}}
use Rattle.shm_ref.specs.{DropRoot.{Control.drop_parts, drop_plan}, Lefts.RootEvents}
use Rattle.shm_table.specs.declared.answer.PutFault.{PutFault, TheVariants.EraSpent}
use Rattle.shm_table.specs.declared.put_root.PutRootPoint.{PutRootPoint}
use Rattle.shm_table.specs.declared.put_root.PutRootPoint.TheVariants.{Open, Locate, Replace, Enter, Unlatch, Drop}
use Rattle.shm_table.specs.{declared.{put_root.PutRootState.PutRootState, find.Found.Found}, Enter.Control.enter_parts}
use Rattle.shm_table.specs.{Enter.{IsHalfMade, MayEnter, enter_plan, enter_steps}, Find.Bound.{IsWhole, keys_read}}
use Rattle.shm_table.specs.{Find.Control.Passed, Locate.{Control.locate_parts, locate_plan}}
use Rattle.shm_table.specs.OpenTable.{Control.open_parts, HomeSo, IsOpening, open_plan}
use Rattle.shm_table.specs.PutRoot.Control.{PutRootAnswer, PutRootCall, put_root_steered}
use Rattle.shm_table.specs.Replace.{Control.replace_parts, MayReplace, replace_plan}
use Rattle.shm_table.specs.{Staying.{Cleared, Ended, Keeps, MapSet, PutCause, SameMap, Still}, Unlatch.unlatch_plan}

-- ---- when it may begin

-- between two calls of a client, in a pool for tables, with no latch: root k names the value block v, whose number is known to be n
pub record MayPutRoot (me : Me) (key v n k : ℕ) (r : Memo) : Type 0 where
  pub geometry : GeometryFits me.geometry
  pub who : me.who < me.geometry.clients
  pub idle : IsIdle me.who r
  pub client : recovers r ≡ false
  pub none : r.latch ≡ None
  pub table : is_loose r.part ≡ false
  pub small : key < 2 ^ 32
  pub value : IsValue (sight me.who r) v n
  pub low : k < 16
  pub root : root_word me.who r k ≡ v
  pub some : v ≢ 0

-- so for some number and some root
abbrev pub MayPut : Me → ℕ → ℕ → Memo → Type 0
MayPut me key v r = (n : ℕ) × (k : ℕ) × MayPutRoot me key v n k r

-- ---- its events, and its word steps

-- the event by which a key comes to have a value block: a new entry begins the chain of its bucket, or an entry has another value
pub data DecidesMap (c key home v : ℕ) : Event → Type 0 where
  Begins : (e : ℕ) → DecidesMap c key home v (event.Up c (Body home (key % 16)) e)
  Leads : (first e : ℕ) → DecidesMap c key home v (event.ChangeUp c (Body home (key % 16)) first e)
  Replaces : (e old : ℕ) → DecidesMap c key home v (event.ChangeUp c (Body e 1) old v)

-- one of the events is such a one
abbrev pub IsDecided : ℕ → ℕ → ℕ → ℕ → List Event → Type 0
IsDecided c key home v es = (before : List Event) × (d : Event) × (after : List Event) × (es ≡ before ++ d ∷ after) × DecidesMap c key home v d

-- an entry of v was made in a root, it was not linked, and it lost that root
abbrev pub IsUnlinking : ℕ → ℕ → List Event → Type 0
IsUnlinking c v es = (k : ℕ) × (e : ℕ) × (first : ℕ) × (hs : List Event) × (ds : List Event) × (es ≡ hs ++ ds) × (e ≢ 0) × IsHalfMade c k e v first hs × RootEvents c k e ds

-- by these events a home that was `before` is `after`, and then an entry of v was made and given up, or none was made
abbrev pub IsUnlisted : ℕ → ℕ → ℕ → ℕ → List Event → Type 0
IsUnlisted c v before after es = (os : List Event) × (hs : List Event) × (es ≡ os ++ hs) × IsOpening c before after os × ((hs ≡ []) ⊎ IsUnlinking c v hs)

-- a part of the trail is that of a search for the key in the table of a, which read so many keys
abbrev pub HasSearch : Me → ℕ → ℕ → ℕ → Trail → Type 0
HasSearch me a key n tr = (before : Trail) × (middle : Trail) × (after : Trail) × (tr ≡ before ++ (middle ++ after)) × ((ps : List Passed) × (b : Found) × IsWhole me a key ps middle b × (n ≡ keys_read ps b))

-- the directory, the latch, the search, a new entry or another value, the latch again, and the root of the entry
abbrev pub put_root_steps : Bool → ℕ → ℕ
put_root_steps wide g = (1 + alloc_steps wide g + up_steps wide + (8 + redo_steps wide)) + 2 + 2 + (enter_steps wide g + 1 + change_steps wide) + 2 + (8 + redo_steps wide)

-- ---- on the way

-- so far the map, the roots and the zero-count blocks are as they were, and this latch is held or none
pub record IsPutting (me : Me) (key v : ℕ) (latch : Option ℕ) (r0 r : Memo) : Type 0 where
  pub may : MayPut me key v r0
  pub keeps : Keeps me.who r0 r
  pub client : recovers r ≡ false
  pub latched : r.latch ≡ latch
  pub home : own_word r.own (Home me.who) ≢ 0
  pub map : SameMap r0 r
  pub cleared : Cleared me.who r0 r

-- the events of the own home
abbrev pub OpenedSo : ℕ → Memo → Memo → List Event → Type 0
OpenedSo c r0 r es = IsOpening c (own_word r0.own (Home c)) (own_word r.own (Home c)) es

-- the search was made, and so many word steps at most besides
pub record IsSearched (me : Me) (key steps : ℕ) (tr : Trail) (es : List Event) : Type 0 where
  pub keys : ℕ
  pub search : HasSearch me me.who key keys tr
  pub bound : IsWithin (steps + 2 * keys + tear_steps me.geometry.wide (frees es)) tr

-- before the latch is taken, and under it
abbrev pub opened_steps : Bool → ℕ → ℕ
opened_steps wide g = 1 + alloc_steps wide g + up_steps wide + (8 + redo_steps wide)

abbrev pub searched_steps : Bool → ℕ → ℕ
searched_steps wide g = opened_steps wide g + 2 + 2

abbrev pub settled_steps : Bool → ℕ → ℕ
settled_steps wide g = searched_steps wide g + (enter_steps wide g + 1 + change_steps wide)

-- the roots and zero-count blocks: where a new entry was made only its root is another
abbrev pub RootsSo : ℕ → Memo → Memo → Option ℕ → Type 0
RootsSo c r0 r None = Ended c r0 r
RootsSo c r0 r (Some k) = (k < 16) × (root_word c r0 k ≡ 0) × ((j : ℕ) → k ≢ j → root_word c r j ≡ root_word c r0 j) × (r.dying ≡ r0.dying)

-- the key has the value block, by such an event or none; or it was refused for this reason, and where no root is left all is cleared
abbrev pub MapSo : Me → ℕ → ℕ → Memo → Memo → List Event → Option ℕ → Option PutFault → Type 0
MapSo me key v r0 r es root None = ((n : ℕ) → IsValue (sight me.who r0) v n → MapSet key n v r0 r) × (IsDecided me.who key (own_word r.own (Home me.who)) v es ⊎ ((n : ℕ) × (map_in r0.part key ≡ Some (n, v))))
MapSo me key v r0 r es None (Some f) = SameMap r0 r × PutCause me r0 r f × Cleared me.who r0 r
MapSo me key v r0 r es (Some k) (Some f) = SameMap r0 r × PutCause me r0 r f

-- the events where it was refused: of the home, and of the block that was to be the entry, where root k still names it
abbrev pub UnlistedSo : ℕ → ℕ → Memo → Memo → List Event → Option ℕ → Option PutFault → Type 0
UnlistedSo c v r0 r es root None = Unit {0}
UnlistedSo c v r0 r es None (Some f) = OpenedSo c r0 r es
UnlistedSo c v r0 r es (Some k) (Some f) = (os : List Event) × (hs : List Event) × (es ≡ os ++ hs) × OpenedSo c r0 r os × (root_word c r k ≢ 0) × ((first : ℕ) × IsHalfMade c k (root_word c r k) v first hs)

-- it is settled whether the key has the block, and no key changed where it didn't come to have it; these are the zero-count blocks that a tear-down left
pub record IsSettled (m : PutRootState) (latch : Option ℕ) (steps : ℕ) (r0 r : Memo) (tr : Trail) (es : List Event) : Type 0 where
  pub may : MayPut m.me m.key m.value r0
  pub keeps : Keeps m.me.who r0 r
  pub holds : IsHeld m.me r
  pub latched : r.latch ≡ latch
  pub home : own_word r.own (Home m.me.who) ≢ 0
  pub roots : RootsSo m.me.who r0 r m.root
  pub map : MapSo m.me m.key m.value r0 r es m.root m.refused
  pub undone : UnlistedSo m.me.who m.value r0 r es m.root m.refused
  pub still : m.decided ≡ false → SameMap r0 r
  pub keys : ℕ
  pub search : HasSearch m.me m.me.who m.key keys tr
  pub left : List Visit
  pub dying : All (λ (x : Visit). Contains r.dying x.block) left
  pub alone : IfSome m.root (λ k. left ≡ [])
  pub bound : IsWithin (steps + 2 * keys + tear_steps m.me.geometry.wide (frees es + length left)) tr

abbrev pub PutRootKnows : PutRootState → PutRootPoint → Memo → Memo → Trail → List Event → Type 0
PutRootKnows m Open r0 r tr es = MayPut m.me m.key m.value r0 × (r ≡ r0) × (tr ≡ []) × (es ≡ []) × (m.root ≡ None) × (m.refused ≡ None)
PutRootKnows m Locate r0 r tr es = IsPutting m.me m.key m.value None r0 r × (m.root ≡ None) × (m.refused ≡ None) × IsWithin (opened_steps m.me.geometry.wide m.me.geometry.segments + tear_steps m.me.geometry.wide (frees es)) tr × OpenedSo m.me.who r0 r es
PutRootKnows m Replace r0 r tr es = IsPutting m.me m.key m.value (Some m.me.who) r0 r × (m.root ≡ None) × IsSearched m.me m.key (searched_steps m.me.geometry.wide m.me.geometry.segments) tr es
    × ((n : ℕ) × (before : ℕ) × (word : ℕ) × MayReplace m.me m.key m.value n m.entry before word r) × OpenedSo m.me.who r0 r es
PutRootKnows m Enter r0 r tr es = IsPutting m.me m.key m.value (Some m.me.who) r0 r × (m.root ≡ None) × (m.refused ≡ None) × IsSearched m.me m.key (searched_steps m.me.geometry.wide m.me.geometry.segments) tr es
    × ((n : ℕ) × MayEnter m.me m.key m.value n m.home m.first r) × OpenedSo m.me.who r0 r es
PutRootKnows m Unlatch r0 r tr es = IsSettled m (Some m.me.who) (settled_steps m.me.geometry.wide m.me.geometry.segments) r0 r tr es
PutRootKnows m Drop r0 r tr es = (k : ℕ) × (m.root ≡ Some k) × IsSettled m None (settled_steps m.me.geometry.wide m.me.geometry.segments + 2) r0 r tr es

-- ---- what it leaves

-- The key has the value block and its number, by one event or because it had it, and no other key changed; no latch is held
pub record PutRootDone (me : Me) (key v : ℕ) (r0 r : Memo) (tr : Trail) (es : List Event) : Type 0 where
  pub keeps : Keeps me.who r0 r
  pub latch : r.latch ≡ None
  pub home : own_word r.own (Home me.who) ≢ 0
  pub map : (n : ℕ) → IsValue (sight me.who r0) v n → MapSet key n v r0 r
  pub decided : IsDecided me.who key (own_word r.own (Home me.who)) v es ⊎ ((n : ℕ) × (map_in r0.part key ≡ Some (n, v)))
  pub ended : Ended me.who r0 r
  pub keys : ℕ
  pub search : HasSearch me me.who key keys tr
  pub left : List Visit
  pub dying : All (λ (x : Visit). Contains r.dying x.block) left
  pub bound : IsWithin (put_root_steps me.geometry.wide me.geometry.segments + 2 * keys + tear_steps me.geometry.wide (frees es + length left)) tr

-- the own era was spent
abbrev pub IsEraSpent : PutFault → Type 0
IsEraSpent (EraSpent e) = Unit {0}
IsEraSpent f = ⊥

-- it was refused: the map and the latches are as before; the home too, or it names a directory that was made; the zero-count blocks are there still; unless the own era was spent roots and zero-count blocks are as before, and an entry that was made was given up
pub record PutRootRefused (me : Me) (key v : ℕ) (r0 r : Memo) (tr : Trail) (es : List Event) (f : PutFault) : Type 0 where
  pub keeps : Keeps me.who r0 r
  pub latch : r.latch ≡ None
  pub map : SameMap r0 r
  pub cause : PutCause me r0 r f
  pub cleared : Cleared me.who r0 r ⊎ IsEraSpent f
  pub home : HomeSo me.who (own_word r0.own (Home me.who)) (own_word r.own (Home me.who)) es
  pub still : Still r0 r
  pub events : IsUnlisted me.who v (own_word r0.own (Home me.who)) (own_word r.own (Home me.who)) es ⊎ IsEraSpent f
  pub keys : ℕ
  pub search : (keys ≡ 0) ⊎ HasSearch me me.who key keys tr
  pub left : List Visit
  pub dying : All (λ (x : Visit). Contains r.dying x.block) left
  pub bound : IsWithin (put_root_steps me.geometry.wide me.geometry.segments + 2 * keys + tear_steps me.geometry.wide (frees es + length left)) tr

-- where it answers that the key had the value block already, no key changed
abbrev pub PutRootLeaves : PutRootState → Memo → Memo → Trail → List Event → Result Bool PutFault → Type 0
PutRootLeaves m r0 r tr es (Ok done) = PutRootDone m.me m.key m.value r0 r tr es × (done ≡ false → SameMap r0 r)
PutRootLeaves m r0 r tr es (Err f) = PutRootRefused m.me m.key m.value r0 r tr es f

-- ---- the plan

abbrev pub put_root_part : Part PutRootCall PutRootAnswer
put_root_part =
    or_part (or_part (calls_part open_parts open_plan) (calls_part locate_parts locate_plan))
    (or_part (or_part (calls_part replace_parts replace_plan) (calls_part enter_parts enter_plan)) (or_part (calls_part word_control unlatch_plan) (calls_part drop_parts drop_plan)))

abbrev pub put_root_plan : Planned PutRootState PutRootCall PutRootAnswer (Result Bool PutFault)
put_root_plan =
    record {
      steered = put_root_steered;
      part = λ m. put_root_part;
      knows = λ m. PutRootKnows m m.point;
      leaves = PutRootLeaves;
    }
