-- a new entry as a plan: when it may begin, what is known before each call, and what is left
pub mod Control
use Rattle.std.specs.Prelude.{◌≡◌, ◌≢◌, ℕ, zero, suc, ◌+◌, ◌*◌, ◌%◌, ◌^◌, ◌<◌, ◌⊎◌, false, List, [], ◌∷◌, Bool}
use Rattle.shm_words.specs.Layout.{GeometryFits}
use Rattle.shm_graph.specs.{declared.{ask.Me.Me, memo.Memo.Memo}, Agents.recovers, Asks.{Trail, IsWithin}}
use Rattle.shm_graph.specs.{Bounds.{alloc_steps, change_steps, up_steps}, Events.Event, Idle.IsIdle, Views.own_word}
use Rattle.shm_graph.specs.declared.spot.Spot.TheVariants as spot
use Rattle.shm_graph.specs.Events as event
use Rattle.plans.specs.{Either.or_part, Parts.{IsHeld, Part}, Plans.Planned}
use Rattle.kind_parts.specs.{Reparting.{sight, IsValue}, Walking.{IsComing, IsVacant}}
use Rattle.shm_count.specs.{Roots.root_word, Slots.Parts.{change_slot_part, up_slot_part}}
use Rattle.shm_alloc.specs.Alloc.AsPart.{alloc_part}
use Rattle.shm_table.specs.declared.{answer.PutFault.PutFault, enter.Entered.Entered}
use Rattle.shm_table.specs.declared.enter.{Entered.TheVariants.{Linked, Unlinked, Unmade}, EnterPoint.EnterPoint}
use Rattle.shm_table.specs.declared.enter.EnterPoint.TheVariants.{Make, Value, Next, Link, Change}
use Rattle.shm_table.specs.declared.enter.EnterState.{EnterState}
use Rattle.shm_table.specs.Enter.Control.{EnterCall, EnterAnswer, enter_spot, enter_steered}
use Rattle.shm_table.specs.Staying.{Cleared, Keeps, MapSet, PutCause, SameMap}

-- ---- when it may begin

-- between two calls, under the own latch, in a pool for tables: the own table has no entry of the key, whose bucket in the directory `home` names `first`; a root names the value block v, whose number is known to be n
pub record MayEnter (me : Me) (key v n home first : ℕ) (r : Memo) : Type 0 where
  pub geometry : GeometryFits me.geometry
  pub who : me.who < me.geometry.clients
  pub idle : IsIdle me.who r
  pub client : recovers r ≡ false
  pub vacant : IsVacant me.who r key first
  pub directory : own_word r.own (spot.Home me.who) ≡ home
  pub small : key < 2 ^ 32
  pub some : v ≢ 0
  pub named : (k : ℕ) × (k < 16) × (root_word me.who r k ≡ v)
  pub value : IsValue (sight me.who r) v n

-- ---- its events, and its word steps

-- an entry was made in root k, and its value word came to name v
abbrev pub made_events : ℕ → ℕ → ℕ → List Event
made_events c k b = event.Alloc c k b ∷ []

abbrev pub valued_events : ℕ → ℕ → ℕ → ℕ → List Event
valued_events c k b v = event.Alloc c k b ∷ event.Up c (spot.Body b 1) v ∷ []

-- and its next word the first entry before
abbrev pub followed_events : ℕ → ℕ → ℕ → ℕ → ℕ → List Event
followed_events c k b v first = event.Alloc c k b ∷ event.Up c (spot.Body b 1) v ∷ event.Up c (spot.Body b 0) first ∷ []

-- it was linked: into an empty bucket, or before the first entry
abbrev pub link_events : ℕ → ℕ → ℕ → ℕ → ℕ → List Event
link_events c b home key zero = event.Up c (spot.Body home (key % 16)) b ∷ []
link_events c b home key (suc x) = event.Up c (spot.Body b 0) (suc x) ∷ event.ChangeUp c (spot.Body home (key % 16)) (suc x) b ∷ event.ChangeDown c (suc x) ∷ []

abbrev pub linked_events : ℕ → ℕ → ℕ → ℕ → ℕ → ℕ → ℕ → List Event
linked_events c k b v home key first = event.Alloc c k b ∷ event.Up c (spot.Body b 1) v ∷ link_events c b home key first

-- an allocation of at most so many segments, two steps up and a change
abbrev pub enter_steps : Bool → ℕ → ℕ
enter_steps wide g = alloc_steps wide g + 2 * up_steps wide + change_steps wide

-- ---- on the way

-- root k, which was empty, names the block that is to be the entry; its next word and its value word are known
pub record IsMade (me : Me) (key v n home first k b next value : ℕ) (r0 r : Memo) : Type 0 where
  pub may : MayEnter me key v n home first r0
  pub holds : IsHeld me r
  pub client : recovers r ≡ false
  pub keeps : Keeps me.who r0 r
  pub latch : r.latch ≡ r0.latch
  pub directory : own_word r.own (spot.Home me.who) ≡ home
  pub empty : root_word me.who r0 k ≡ 0
  pub others : (j : ℕ) → j ≢ k → root_word me.who r j ≡ root_word me.who r0 j
  pub dying : r.dying ≡ r0.dying
  pub map : SameMap r0 r
  pub vacant : IsVacant me.who r key first
  pub coming : IsComing me.geometry.wide me.who r k b key next value

-- for the number of the value block
abbrev pub IsOnTheWay : EnterState → ℕ → ℕ → Memo → Memo → Type 0
IsOnTheWay m next value r0 r = (n : ℕ) × IsMade m.me m.key m.value n m.home m.first m.root m.entry next value r0 r

abbrev pub EnterKnows : EnterState → EnterPoint → Memo → Memo → Trail → List Event → Type 0
EnterKnows m Make r0 r tr es = ((n : ℕ) × MayEnter m.me m.key m.value n m.home m.first r0) × (r ≡ r0) × (tr ≡ []) × (es ≡ [])
EnterKnows m Value r0 r tr es = IsOnTheWay m 0 0 r0 r × (es ≡ made_events m.me.who m.root m.entry) × IsWithin (alloc_steps m.me.geometry.wide m.me.geometry.segments) tr
EnterKnows m Next r0 r tr es = (m.first ≢ 0) × IsOnTheWay m 0 m.value r0 r × (es ≡ valued_events m.me.who m.root m.entry m.value) × IsWithin (alloc_steps m.me.geometry.wide m.me.geometry.segments + up_steps m.me.geometry.wide) tr
EnterKnows m Link r0 r tr es = (m.first ≡ 0) × IsOnTheWay m 0 m.value r0 r × (es ≡ valued_events m.me.who m.root m.entry m.value) × IsWithin (alloc_steps m.me.geometry.wide m.me.geometry.segments + up_steps m.me.geometry.wide) tr
EnterKnows m Change r0 r tr es = (m.first ≢ 0) × IsOnTheWay m m.first m.value r0 r × (es ≡ followed_events m.me.who m.root m.entry m.value m.first) × IsWithin (alloc_steps m.me.geometry.wide m.me.geometry.segments + 2 * up_steps m.me.geometry.wide) tr

-- ---- what it leaves

-- the entry begins the chain of its bucket, and root k, which was empty, names it too; the key has the value block and its number now
pub record IsLinked (me : Me) (key v home first k : ℕ) (m r : Memo) (tr : Trail) (es : List Event) : Type 0 where
  pub entry : ℕ
  pub some : entry ≢ 0
  pub keeps : Keeps me.who m r
  pub latch : r.latch ≡ m.latch
  pub directory : own_word r.own (spot.Home me.who) ≡ home
  pub low : k < 16
  pub empty : root_word me.who m k ≡ 0
  pub root : root_word me.who r k ≡ entry
  pub others : (j : ℕ) → j ≢ k → root_word me.who r j ≡ root_word me.who m j
  pub dying : r.dying ≡ m.dying
  pub map : (n : ℕ) → IsValue (sight me.who m) v n → MapSet key n v m r
  pub events : es ≡ linked_events me.who k entry v home key first
  pub bound : IsWithin (enter_steps me.geometry.wide me.geometry.segments) tr

-- of the steps up at an entry that isn't linked these were done: none, the one of the value word, or both
abbrev pub IsHalfMade : ℕ → ℕ → ℕ → ℕ → ℕ → List Event → Type 0
IsHalfMade c k b v first es = (es ≡ made_events c k b) ⊎ ((es ≡ valued_events c k b v) ⊎ ((first ≢ 0) × (es ≡ followed_events c k b v first)))

-- only root k, which was empty, names the block that was to be the entry, and a count step was refused
pub record IsUnlinked (me : Me) (key v home first k : ℕ) (m r : Memo) (tr : Trail) (es : List Event) (f : PutFault) : Type 0 where
  pub entry : ℕ
  pub some : entry ≢ 0
  pub keeps : Keeps me.who m r
  pub latch : r.latch ≡ m.latch
  pub directory : own_word r.own (spot.Home me.who) ≡ home
  pub low : k < 16
  pub empty : root_word me.who m k ≡ 0
  pub root : root_word me.who r k ≡ entry
  pub others : (j : ℕ) → j ≢ k → root_word me.who r j ≡ root_word me.who m j
  pub dying : r.dying ≡ m.dying
  pub map : SameMap m r
  pub cause : PutCause me m r f
  pub events : IsHalfMade me.who k entry v first es
  pub bound : IsWithin (enter_steps me.geometry.wide me.geometry.segments) tr

-- no block was made
pub record IsUnmade (me : Me) (home : ℕ) (m r : Memo) (tr : Trail) (es : List Event) (f : PutFault) : Type 0 where
  pub keeps : Keeps me.who m r
  pub latch : r.latch ≡ m.latch
  pub directory : own_word r.own (spot.Home me.who) ≡ home
  pub cleared : Cleared me.who m r
  pub map : SameMap m r
  pub cause : PutCause me m r f
  pub none : es ≡ []
  pub bound : IsWithin (alloc_steps me.geometry.wide me.geometry.segments) tr

abbrev pub EnterLeaves : EnterState → Memo → Memo → Trail → List Event → Entered → Type 0
EnterLeaves m r0 r tr es (Linked k) = IsLinked m.me m.key m.value m.home m.first k r0 r tr es
EnterLeaves m r0 r tr es (Unlinked k f) = IsUnlinked m.me m.key m.value m.home m.first k r0 r tr es f
EnterLeaves m r0 r tr es (Unmade f) = IsUnmade m.me m.home r0 r tr es f

-- ---- the plan

abbrev pub enter_part : EnterState → EnterPoint → Part EnterCall EnterAnswer
enter_part m y = or_part alloc_part (or_part (up_slot_part (enter_spot m y) false) (change_slot_part (enter_spot m y) false))

abbrev pub enter_plan : Planned EnterState EnterCall EnterAnswer Entered
enter_plan =
    record {
      steered = enter_steered;
      part = λ m. enter_part m m.point;
      knows = λ m. EnterKnows m m.point;
      leaves = EnterLeaves;
    }
