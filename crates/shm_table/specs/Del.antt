-- removing a key of the own table as a plan: when it may begin, what is known before each call, and what is left
pub mod Control
pub mod Bound
use Rattle.std.specs.{Prelude.{◌≡◌, ℕ, ◌+◌, ◌*◌, ◌<◌, false, Some, None, List, [], ◌++◌, length}, List.{All, Contains}}
use Rattle.shm_words.specs.Layout.{GeometryFits}
use Rattle.shm_graph.specs.{declared.{ask.Me.Me, memo.Memo.Memo, spot.Spot.TheVariants.Home}, Agents.recovers}
use Rattle.shm_graph.specs.{Asks.{Trail, IsWithin}, Bounds.{tear_steps, redo_steps}, Events.Event, Held.is_loose}
use Rattle.shm_graph.specs.{Idle.IsIdle, Views.own_word}
use Rattle.plans.specs.{CallsPart.calls_part, Either.or_part, Parts.{IsHeld, Part}, Plans.Planned, Words.word_control}
use Rattle.kind_parts.specs.Reparting.{map_in}
use Rattle.shm_count.specs.{declared.answer.UpFault.{UpFault, TheVariants.{CountFull, EraSpent}}, Roots.root_word}
use Rattle.shm_count.specs.Tear.Events.{Visit, frees}
use Rattle.shm_script.specs.declared.log.Answer.{Answer}
use Rattle.shm_script.specs.declared.line.Line.TheVariants as line
use Rattle.shm_script.specs.declared.log.Answer.TheVariants as answer
use Rattle.shm_table.specs.declared.del.{DelPoint.{DelPoint, TheVariants.{Search, Cut, Back}}, DelState.DelState}
use Rattle.shm_table.specs.declared.find.Found.{Found, TheVariants.{Absent, At}}
use Rattle.shm_table.specs.{Del.Control.{DelCall, DelCallAnswer, del_steered}, Find.Bound.{IsWhole, keys_read}}
use Rattle.shm_table.specs.{Find.{Control.Passed, EndsNowhere}, Locate.{Control.locate_parts, Located, locate_plan}}
use Rattle.shm_table.specs.{Staying.{Cleared, Ended, Keeps, MapCut, SameMap}, Unlatch.unlatch_plan}
use Rattle.shm_table.specs.Unlink.{Control.unlink_parts, UnlinkCause, UnlinkEvents, UnlinkRefusal, unlink_plan}

-- ---- when it may begin

-- between two calls of a client, in a pool for tables, with no latch
pub record MayDel (me : Me) (r : Memo) : Type 0 where
  pub geometry : GeometryFits me.geometry
  pub who : me.who < me.geometry.clients
  pub idle : IsIdle me.who r
  pub none : r.latch ≡ None
  pub table : is_loose r.part ≡ false
  pub client : recovers r ≡ false

-- ---- what it says by its answer

-- the latch was taken, and then the search asked so much and read these entries
pub record IsSearched (me : Me) (key : ℕ) (b : Found) (tr : Trail) : Type 0 where
  pub tries : Trail
  pub search : Trail
  pub rest : Trail
  pub trail : tr ≡ tries ++ (search ++ rest)
  pub read : List Passed
  pub whole : IsWhole me me.who key read search b

-- The key is gone, and no other key changed. Its entry is torn down where nothing else names it; where that was stopped, `left` are the blocks that are zero-count blocks still
pub record Deleted (me : Me) (key steps : ℕ) (m r : Memo) (tr : Trail) (es : List Event) : Type 0 where
  pub entry : ℕ
  pub before : ℕ
  pub word : ℕ
  pub searched : IsSearched me key (At entry before word) tr
  pub keeps : Keeps me.who m r
  pub home : own_word r.own (Home me.who) ≡ own_word m.own (Home me.who)
  pub roots : (j : ℕ) → root_word me.who r j ≡ root_word me.who m j
  pub was : (n : ℕ) × (v : ℕ) × (map_in m.part key ≡ Some (n, v))
  pub map : MapCut key m r
  pub left : List Visit
  pub dying : All (λ (x : Visit). Contains r.dying x.block) left
  pub ended : Ended me.who m r
  pub events : UnlinkEvents me entry before word es left
  pub bound : IsWithin (steps + 2 * keys_read searched.read (At entry before word) + tear_steps me.geometry.wide (frees es + length left)) tr

-- no entry has the key, as the words show that were read, and the partition
pub record WasMissing (me : Me) (key steps : ℕ) (m r : Memo) (tr : Trail) (es : List Event) : Type 0 where
  pub directory : ℕ
  pub first : ℕ
  pub searched : IsSearched me key (Absent directory first) tr
  pub ends : EndsNowhere me me.who key directory first searched.search
  pub absent : map_in m.part key ≡ None
  pub keeps : Keeps me.who m r
  pub home : own_word r.own (Home me.who) ≡ own_word m.own (Home me.who)
  pub cleared : Cleared me.who m r
  pub map : SameMap m r
  pub none : es ≡ []
  pub bound : IsWithin (steps + 2 * keys_read searched.read (Absent directory first)) tr

-- the count step was refused, and nothing was done
pub record NotDeleted (me : Me) (key steps : ℕ) (m r : Memo) (tr : Trail) (es : List Event) (f : UpFault) : Type 0 where
  pub entry : ℕ
  pub before : ℕ
  pub word : ℕ
  pub searched : IsSearched me key (At entry before word) tr
  pub keeps : Keeps me.who m r
  pub home : own_word r.own (Home me.who) ≡ own_word m.own (Home me.who)
  pub was : (n : ℕ) × (v : ℕ) × (map_in m.part key ≡ Some (n, v))
  pub cleared : Cleared me.who m r
  pub map : SameMap m r
  pub cause : UnlinkCause me r f
  pub refusal : UnlinkRefusal me entry m f
  pub none : es ≡ []
  pub bound : IsWithin (steps + 2 * keys_read searched.read (At entry before word)) tr

-- the number says how many word steps there were at most, besides those for keys that were read and blocks that were torn down
abbrev pub DelSays : Me → ℕ → ℕ → Memo → Memo → Trail → List Event → Answer → Type 0
DelSays me key steps m r tr es answer.Ok = Deleted me key steps m r tr es
DelSays me key steps m r tr es answer.Missing = WasMissing me key steps m r tr es
DelSays me key steps m r tr es (answer.EraSpent e) = NotDeleted me key steps m r tr es (EraSpent e)
DelSays me key steps m r tr es (answer.CountFull b n) = NotDeleted me key steps m r tr es (CountFull b n)
DelSays me key steps m r tr es a = ⊥

-- ---- on the way

-- the latch is held, and the entry was found
pub record IsLocated (me : Me) (key entry before word : ℕ) (r0 r : Memo) (tr : Trail) (es : List Event) : Type 0 where
  pub may : MayDel me r0
  pub located : Located me me.who key r0 r tr es (At entry before word)
  pub client : recovers r ≡ false

-- the latch is held, and the rest is done
pub record IsSettled (me : Me) (key : ℕ) (r0 r : Memo) (tr : Trail) (es : List Event) (a : Answer) : Type 0 where
  pub may : MayDel me r0
  pub idle : IsIdle me.who r
  pub latch : r.latch ≡ Some me.who
  pub holds : IsHeld me r
  pub says : DelSays me key (17 + redo_steps me.geometry.wide) r0 r tr es a

abbrev pub DelKnows : DelState → DelPoint → Memo → Memo → Trail → List Event → Type 0
DelKnows m Search r0 r tr es = MayDel m.me r0 × (m.answer ≡ answer.Missing) × (r ≡ r0) × (tr ≡ []) × (es ≡ [])
DelKnows m Cut r0 r tr es = IsLocated m.me m.key m.entry m.before m.word r0 r tr es
DelKnows m Back r0 r tr es = IsSettled m.me m.key r0 r tr es m.answer

-- ---- what it leaves

-- no latch is held
abbrev pub DelLeaves : DelState → Memo → Memo → Trail → List Event → Answer → Type 0
DelLeaves m r0 r tr es a = (r.latch ≡ None) × DelSays m.me m.key (19 + redo_steps m.me.geometry.wide) r0 r tr es a

-- ---- the plan

abbrev pub del_part : Part DelCall DelCallAnswer
del_part = or_part (calls_part locate_parts locate_plan) (or_part (calls_part unlink_parts unlink_plan) (calls_part word_control unlatch_plan))

abbrev pub del_plan : Planned DelState DelCall DelCallAnswer Answer
del_plan =
    record {
      steered = del_steered;
      part = λ m. del_part;
      knows = λ m. DelKnows m m.point;
      leaves = DelLeaves;
    }
