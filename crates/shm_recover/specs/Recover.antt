-- a recovery as a plan: what is known before each call, and what is left
pub mod Control
pub mod Losses
use Rattle.std.specs.Prelude.{◌≡◌, ℕ, ◌+◌, ◌*◌, ◌-◌, ◌^◌, ◌<◌, ◌≤◌, ◌⊎◌, Bool, true, false, Result, Ok, Err, List, [], ◌∷◌, ◌++◌, length, slice_index, None}
use Rattle.std.specs.List.{All, Contains}
use Rattle.shm_graph.specs.{Bounds.{recovery_steps, redo_steps, tear_steps}, declared.{ask.Me.Me, spot.Spot.Spot}}
use Rattle.shm_graph.specs.declared.{spot.Spot.TheVariants.{Era, Home, QueueHead, Root, Tail}, memo.Memo.Memo}
use Rattle.shm_graph.specs.{declared.memo.Op.TheVariants.Nothing, Asks.{Trail, IsWithin}, Events.Event, Held.is_loose}
use Rattle.shm_graph.specs.{Laws.GoneNow, Reach.shown, Views.own_word}
use Rattle.shm_graph.specs.declared.memo.Status.TheVariants as status
use Rattle.shm_graph.specs.Events as event
use Rattle.kind_parts.specs.Reparting.{map_in}
use Rattle.plans.specs.{CallsPart.calls_part, Either.or_part, Parts.Part, Plans.Planned, Words.word_control}
use Rattle.shm_count.specs.{declared.answer.EraSpent.EraSpent, Roots.{rest, root_word}, Tear.Events.{Visit, frees}}
use Rattle.shm_count.specs.Lasting.{is_lasting}
use Rattle.shm_ref.specs.DropRoots.{Control.drop_root, roots_plan}
use Rattle.shm_recover.specs.declared.recover.RecoverPoint.{RecoverPoint}
use Rattle.shm_recover.specs.declared.recover.RecoverPoint.TheVariants.{Mend, Roots, Back, Takes, Scan, Give}
use Rattle.shm_recover.specs.declared.recover.RecoverState.{RecoverState}
use Rattle.shm_recover.specs.{FinishTakes.{QueueDone, QueueSame, finish_plan}, GiveUp.give_plan, Join.IsMember}
use Rattle.shm_recover.specs.Mend.{Control.mend_parts, IsMended, MayMend, mend_plan}
use Rattle.shm_recover.specs.Recover.{Control.{RecoverAnswer, RecoverCall, recover_steered}, Losses.AreLosses}
use Rattle.shm_recover.specs.{Scan.{Control.scan_parts, scan_plan}, TakeBack.{Control.back_parts, back_plan}}

-- ---- events

-- at most the second half of a change comes first; then references are lost and blocks are freed, and nothing else
pub record OnlyLoses (c : ℕ) (es : List Event) : Type 0 where
  pub half : List Event
  pub losses : List Event
  pub split : es ≡ half ++ losses
  pub first : (half ≡ []) ⊎ ((a : ℕ) × (half ≡ event.ChangeDown c a ∷ []))
  pub others : AreLosses c losses

-- ---- on the way

-- the memo but its own words, its step in progress, its queues, its zero-count blocks, and what it knows and has read
abbrev pub lasting : Memo → Memo
lasting m = rest (record m { received = []; unsent = []; untaken = [] })

-- own words that no call of a recovery changes: not the roots, the heads of queues, the redo record and the own row
abbrev pub is_kept : ℕ → Spot → Bool
is_kept c (Root d k) = false
is_kept c (QueueHead s d) = false
is_kept c p = is_lasting c p

-- Once mended the memo was q, of which the status, the latch, the segments, what was sent, the partition and own words are left; no step is in progress, and the own row grew
pub record Mended (me : Me) (r0 q r : Memo) : Type 0 where
  pub first : Trail
  pub half : List Event
  pub mended : IsMended me r0 q first half
  pub same : lasting r ≡ lasting q
  pub idle : r.op ≡ Nothing
  pub own : (p : Spot) → is_kept me.who p ≡ true → own_word r.own p ≡ own_word q.own p
  pub rows : (j : ℕ) → own_word q.own (Era me.who j) ≤ own_word r.own (Era me.who j)

-- so far the events lose references and free blocks, and there were k word steps, and those of the blocks that were freed
pub record IsRecovering (me : Me) (k : ℕ) (r0 r : Memo) (tr : Trail) (es : List Event) : Type 0 where
  pub member : IsMember me
  pub q : Memo
  pub mended : Mended me r0 q r
  pub events : OnlyLoses me.who es
  pub bound : IsWithin (k + tear_steps me.geometry.wide (frees es)) tr

-- all roots are empty
abbrev pub AreRootless : ℕ → Memo → Type 0
AreRootless c r = (k : ℕ) → root_word c r k ≡ 0

-- each queue to the identity is as it was
abbrev pub SameTakes : ℕ → Memo → Memo → Type 0
SameTakes c r0 r = (s : ℕ) → QueueSame c s r0 r

-- nothing waits for its tail
abbrev pub AreSent : Memo → Type 0
AreSent r = (j : ℕ) → slice_index r.unsent j ≡ 0

-- of each queue to it the item that waited for its head is received
abbrev pub AreTaken : ℕ → Memo → Memo → Type 0
AreTaken c r0 r = (s : ℕ) → QueueDone c s r0 r

-- the word steps before a point
abbrev pub steps_to : Bool → ℕ → ℕ → RecoverPoint → ℕ
steps_to wide n g Mend = 0
steps_to wide n g Roots = n + 13 + redo_steps wide
steps_to wide n g Back = n + 141 + 17 * redo_steps wide
steps_to wide n g Takes = n + 141 + 17 * redo_steps wide + (10 + redo_steps wide) * (n - 1)
steps_to wide n g Scan = n + 141 + 17 * redo_steps wide + (10 + redo_steps wide) * (n - 1) + 4 * (n - 1)
steps_to wide n g Give = n + 141 + 17 * redo_steps wide + (10 + redo_steps wide) * (n - 1) + 4 * (n - 1) + 528 * g

abbrev pub IsAtPoint : Me → RecoverPoint → Memo → Memo → Trail → List Event → Type 0
IsAtPoint me y r0 r tr es = IsRecovering me (steps_to me.geometry.wide me.geometry.clients me.geometry.segments y) r0 r tr es

abbrev pub RecoverKnows : RecoverState → RecoverPoint → Memo → Memo → Trail → List Event → Type 0
RecoverKnows m Mend r0 r tr es = MayMend m.me r0 × (r ≡ r0) × (tr ≡ []) × (es ≡ [])
RecoverKnows m Roots r0 r tr es = IsAtPoint m.me Roots r0 r tr es × SameTakes m.me.who r0 r × (r.unsent ≡ r0.unsent)
RecoverKnows m Back r0 r tr es = IsAtPoint m.me Back r0 r tr es × SameTakes m.me.who r0 r × (r.unsent ≡ r0.unsent) × AreRootless m.me.who r × (1 < m.me.geometry.clients)
RecoverKnows m Takes r0 r tr es = IsAtPoint m.me Takes r0 r tr es × SameTakes m.me.who r0 r × AreRootless m.me.who r × AreSent r × (1 < m.me.geometry.clients)
RecoverKnows m Scan r0 r tr es = IsAtPoint m.me Scan r0 r tr es × AreRootless m.me.who r × AreSent r × AreTaken m.me.who r0 r
RecoverKnows m Give r0 r tr es = IsAtPoint m.me Give r0 r tr es × AreRootless m.me.who r × AreSent r × AreTaken m.me.who r0 r × (r.dying ≡ [])

-- ---- what it leaves

-- The status is gone and nothing is left to finish. What was sent, the tails, the map and what the home names are what they were, counting what was committed, and eras don't fall; of each queue to the identity the item that waited for its head is received
pub record Recovered (me : Me) (r0 r : Memo) (tr : Trail) (es : List Event) : Type 0 where
  pub status : r.status ≡ status.Gone
  pub left : GoneNow me.who r
  pub sent : r.sent ≡ r0.sent
  pub tails : (i : ℕ) → own_word r.own (Tail me.who i) ≡ own_word r0.own (Tail me.who i)
  pub taken : AreTaken me.who r0 r
  pub home : own_word r.own (Home me.who) ≡ shown r0 (Home me.who)
  pub rows : (j : ℕ) → own_word r0.own (Era me.who j) ≤ own_word r.own (Era me.who j)
  pub loose : is_loose r.part ≡ is_loose r0.part
  pub map : map_in r.part ≡ map_in r0.part
  pub events : OnlyLoses me.who es
  pub bound : IsWithin (recovery_steps me.geometry.wide me.geometry.segments (frees es)) tr

-- how far it came: to the roots; to blocks that were not sent, with no root left; or to the scan, with no queue waiting either
abbrev pub HasCome : ℕ → Memo → Memo → Type 0
HasCome c r0 r = SameTakes c r0 r ⊎ ((AreRootless c r × SameTakes c r0 r) ⊎ (AreRootless c r × AreSent r × AreTaken c r0 r))

-- The own era left no room for a step down: the identity is dead still, with no step in progress and no latch held; its segments, what was sent, the tails, the map and what the home names are what they were, counting what was committed
pub record RecoverStopped (me : Me) (r0 r : Memo) (tr : Trail) (es : List Event) (era : ℕ) : Type 0 where
  pub status : r.status ≡ status.Dead
  pub op : r.op ≡ Nothing
  pub latch : r.latch ≡ None
  pub owned : r.owned ≡ r0.owned
  pub sent : r.sent ≡ r0.sent
  pub tails : (i : ℕ) → own_word r.own (Tail me.who i) ≡ own_word r0.own (Tail me.who i)
  pub home : own_word r.own (Home me.who) ≡ shown r0 (Home me.who)
  pub loose : is_loose r.part ≡ is_loose r0.part
  pub map : map_in r.part ≡ map_in r0.part
  pub come : HasCome me.who r0 r
  pub vs : List Visit
  pub stays : All (λ (v : Visit). Contains r.dying v.block) vs
  pub spent : 2 ^ 47 - 3 < era
  pub most : era ≤ own_word r.own (Era me.who me.who)
  pub bound : IsWithin (recovery_steps me.geometry.wide me.geometry.segments (frees es + length vs)) tr

abbrev pub RecoverLeaves : RecoverState → Memo → Memo → Trail → List Event → Result (Unit {0}) EraSpent → Type 0
RecoverLeaves m r0 r tr es (Ok done) = Recovered m.me r0 r tr es
RecoverLeaves m r0 r tr es (Err e) = RecoverStopped m.me r0 r tr es e.era

-- ---- the plan

abbrev pub recover_part : Part RecoverCall RecoverAnswer
recover_part = or_part (calls_part mend_parts mend_plan) (or_part (calls_part drop_root roots_plan) (or_part (calls_part back_parts back_plan) (or_part (calls_part word_control finish_plan) (or_part (calls_part scan_parts scan_plan) (calls_part word_control give_plan)))))

abbrev pub recover_plan : Planned RecoverState RecoverCall RecoverAnswer (Result (Unit {0}) EraSpent)
recover_plan =
    record {
      steered = recover_steered;
      part = λ m. recover_part;
      knows = λ m. RecoverKnows m m.point;
      leaves = RecoverLeaves;
    }
