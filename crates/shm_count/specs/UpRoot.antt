-- an up at the least empty root as a plan: what is known before each call, and what is left
pub mod Control
pub mod AsPart
use Rattle.std.specs.Prelude.{◌≡◌, ◌≢◌, ℕ, ◌+◌, ◌-◌, ◌^◌, ◌<◌, ◌≤◌, true, false, Result, Ok, Err, List, [], ◌∷◌}
use Rattle.shm_words.specs.Layout.{GeometryFits}
use Rattle.shm_graph.specs.{Bounds.{redo_steps, up_steps}, declared.{ask.Me.Me, spot.Spot.Spot, memo.Memo.Memo}}
use Rattle.shm_graph.specs.{declared.memo.Op.TheVariants.Nothing, Agents.recovers, Asks.{Trail, IsWithin}, Core.core}
use Rattle.shm_graph.specs.{Events.Event, Reach.is_reached, Views.own_word}
use Rattle.shm_graph.specs.declared.spot.Spot.TheVariants as spot
use Rattle.shm_graph.specs.Events as event
use Rattle.shm_count.specs.Step.{Control.{first_point, IsInside}, Machines.up_answer}
use Rattle.shm_count.specs.declared.answer.{ShareFault.ShareFault, UpFault.{UpFault, TheVariants.{EraSpent, CountFull}}}
use Rattle.shm_count.specs.declared.{point.StepState.StepState, up_root.RootingPoint.RootingPoint}
use Rattle.shm_count.specs.declared.up_root.{RootingPoint.TheVariants.{Era, Look, Step}, RootingState.RootingState}
use Rattle.shm_count.specs.{CountParts.up_part, Refusing.ReadsCount, Roots.root_word, Slots.{Filled, Untouched}}
use Rattle.shm_count.specs.StepsFrom.{from_part}
use Rattle.shm_count.specs.UpRoot.Control.{RootingAnswer, RootingCall, is_era, rooting_ask, taken_up, rooting_steered}
use Rattle.shm_count.specs.declared.answer.ShareFault.TheVariants as share
use Rattle.kind_parts.specs.{Conditions.IsHere, WordParts.OwnLoaded}
use Rattle.plans.specs.{declared.word.Word.Word, Either.or_part, MappedParts.mapped_part, Parts.{Part, weaker}}
use Rattle.plans.specs.{Plans.Planned, Words.word_part}

-- no step of a client is in progress, and the block is in reach
pub record MayUpRoot (me : Me) (b : ℕ) (r : Memo) : Type 0 where
  pub geometry : GeometryFits me.geometry
  pub who : me.who < me.geometry.clients
  pub here : IsHere r
  pub idle : r.op ≡ Nothing
  pub client : recovers r ≡ false
  pub reach : is_reached me.who r b ≡ true

-- ---- the step, taken up at a root

-- the step up is taken up at root k, which is empty, with the own era e, which leaves room
pub record MayTakeUp (me : Me) (k b e : ℕ) (m : StepState) (r : Memo) : Type 0 where
  pub made : m ≡ taken_up me k b e
  pub may : MayUpRoot me b r
  pub inside : IsInside me b
  pub low : k < 16
  pub empty : root_word me.who r k ≡ 0
  pub era : e ≡ own_word r.own (spot.Era me.who me.who)
  pub room : e + 3 ≤ 2 ^ 47

-- the root names the block, with that event; or a header of the block that was read shows the greatest count, and nothing was done
abbrev pub TookUp : ℕ → ℕ → ℕ → Memo → Memo → Trail → List Event → Result (Unit {0}) UpFault → Type 0
TookUp c k b rs r t es (Ok done) = Filled c (spot.Root c k) b rs r × (es ≡ event.Up c (spot.Root c k) b ∷ [])
TookUp c k b rs r t es (Err (EraSpent e)) = ⊥
TookUp c k b rs r t es (Err (CountFull d n)) = (d ≡ b) × (n ≡ 1023) × ReadsCount d n t × Untouched c rs r × (es ≡ [])

abbrev pub taken_part : Me → ℕ → ℕ → ℕ → Part StepState (Result (Unit {0}) UpFault)
taken_part me k b e = weaker (mapped_part up_answer (from_part (spot.Root me.who k) (first_point me e))) (MayTakeUp me k b e) (λ m rs r t es a. TookUp me.who k b rs r t es a × IsWithin (6 + redo_steps me.geometry.wide) t)

-- ---- on the way

-- the own era was found to leave room, and the roots before the next one to name blocks; so many word steps were made
pub record IsLooking (m : RootingState) (steps : ℕ) (r0 r : Memo) (tr : Trail) (es : List Event) : Type 0 where
  pub may : MayUpRoot m.me m.block r0
  pub inside : IsInside m.me m.block
  pub low : m.root < 16
  pub same : core r ≡ core r0
  pub agent : recovers r ≡ recovers r0
  pub era : m.era ≡ own_word r0.own (spot.Era m.me.who m.me.who)
  pub room : m.era + 3 ≤ 2 ^ 47
  pub before : (j : ℕ) → j < m.root → root_word m.me.who r0 j ≢ 0
  pub none : es ≡ []
  pub bound : IsWithin steps tr

abbrev pub RootingKnows : RootingState → RootingPoint → Memo → Memo → Trail → List Event → Type 0
RootingKnows m Era r0 r tr es = MayUpRoot m.me m.block r0 × (m.root ≡ 0) × (r ≡ r0) × (tr ≡ []) × (es ≡ [])
RootingKnows m Look r0 r tr es = IsLooking m (m.root + 1) r0 r tr es
RootingKnows m Step r0 r tr es = IsLooking m (m.root + 2) r0 r tr es × (root_word m.me.who r0 m.root ≡ 0)

-- ---- what it leaves

-- root k was the least empty one and names the block, one step up and nothing else was done
pub record Rooted (me : Me) (b k : ℕ) (r0 r : Memo) (tr : Trail) (es : List Event) : Type 0 where
  pub inside : IsInside me b
  pub low : k < 16
  pub empty : root_word me.who r0 k ≡ 0
  pub before : (j : ℕ) → j < k → root_word me.who r0 j ≢ 0
  pub room : own_word r0.own (spot.Era me.who me.who) + 3 ≤ 2 ^ 47
  pub filled : Filled me.who (spot.Root me.who k) b r0 r
  pub events : es ≡ event.Up me.who (spot.Root me.who k) b ∷ []
  pub bound : IsWithin (up_steps me.geometry.wide + 1 + k) tr

-- the own era left no room, and nothing was done
pub record EraRefused (me : Me) (e : ℕ) (r0 r : Memo) (tr : Trail) (es : List Event) : Type 0 where
  pub same : core r ≡ core r0
  pub era : e ≡ own_word r0.own (spot.Era me.who me.who)
  pub spent : 2 ^ 47 - 3 < e
  pub events : es ≡ []
  pub bound : IsWithin 1 tr

-- it left room, each root named a block, and nothing was done
pub record RootsRefused (me : Me) (r0 r : Memo) (tr : Trail) (es : List Event) : Type 0 where
  pub same : core r ≡ core r0
  pub room : own_word r0.own (spot.Era me.who me.who) + 3 ≤ 2 ^ 47
  pub all : (j : ℕ) → j < 16 → root_word me.who r0 j ≢ 0
  pub events : es ≡ []
  pub bound : IsWithin 17 tr

-- it left room and a root was empty, a header of the block that was read shows the greatest count, and nothing was done
pub record CountRefused (me : Me) (b d n : ℕ) (r0 r : Memo) (tr : Trail) (es : List Event) : Type 0 where
  pub room : own_word r0.own (spot.Era me.who me.who) + 3 ≤ 2 ^ 47
  pub empty : (k : ℕ) × (k < 16) × (root_word me.who r0 k ≡ 0)
  pub block : d ≡ b
  pub full : n ≡ 1023
  pub read : ReadsCount d n tr
  pub untouched : Untouched me.who r0 r
  pub events : es ≡ []
  pub bound : IsWithin (up_steps me.geometry.wide + 16) tr

abbrev pub UpRootLeaves : Me → ℕ → Memo → Memo → Trail → List Event → Result ℕ ShareFault → Type 0
UpRootLeaves me b r0 r tr es (Ok k) = Rooted me b k r0 r tr es
UpRootLeaves me b r0 r tr es (Err (share.EraSpent e)) = EraRefused me e r0 r tr es
UpRootLeaves me b r0 r tr es (Err share.RootsFull) = RootsRefused me r0 r tr es
UpRootLeaves me b r0 r tr es (Err (share.CountFull d n)) = CountRefused me b d n r0 r tr es

-- ---- the plan

-- what a word step finds: an own word
abbrev pub rooting_spot : ℕ → ℕ → RootingPoint → Spot
rooting_spot c k Era = spot.Era c c
rooting_spot c k y = spot.Root c k

abbrev pub look_part : Me → ℕ → RootingPoint → Part Word ℕ
look_part me k y = word_part (is_era y) me (rooting_ask me k y) (OwnLoaded (rooting_spot me.who k y))

-- the part that a call at a point is; the first one is no step
abbrev pub rooting_part : RootingState → RootingPoint → Part RootingCall RootingAnswer
rooting_part m Era = or_part (look_part m.me m.root Era) (up_part (spot.Root m.me.who m.root))
rooting_part m y = or_part (look_part m.me m.root y) (taken_part m.me m.root m.block m.era)

abbrev pub rooting_plan : Planned RootingState RootingCall RootingAnswer (Result ℕ ShareFault)
rooting_plan =
    record {
      steered = rooting_steered;
      part = λ m. rooting_part m m.point;
      knows = λ m. RootingKnows m m.point;
      leaves = λ m. UpRootLeaves m.me m.block;
    }
