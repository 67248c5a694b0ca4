-- an operation on single blocks: which machine comes next, and where it goes by what that one answered
use Rattle.std.specs.Prelude.{ℕ, ◌+◌, ◌-◌, ◌<◌, ◌≤◌, Bool, true, false, ◌==◌, nat_lt, if◌then◌else◌, Option, Some, None, Result, Ok, Err, [], replicate}
use Rattle.shm_words.specs.{Layout.{GeometryFits, total_of}, Tags.tag_author}
use Rattle.shm_graph.specs.declared.ask.{Me.Me, Ask.TheVariants.Load}
use Rattle.plans.specs.{declared.or.Or.TheVariants.{First, Second}, CallsControl.calls_of, Steering.Steered}
use Rattle.shm_count.specs.{declared.answer.ShareFault.ShareFault, UpRoot.Control.{rooting, rooting_steered}}
use Rattle.shm_alloc.specs.declared.{point.AllocPoint.TheVariants.Era, request.Request.Request}
use Rattle.shm_ref.specs.{declared.answer.{Busy.Busy, LookFault.LookFault}, DropRoot.Control.{dropping, drop_steered}}
use Rattle.shm_ref.specs.{Hold.Control.{holding, hold_steered}, Look.{looking, look_steered}}
use Rattle.shm_ref.specs.{Read.{reading, read_steered}, Release.{releasing, release_steered}}
use Rattle.shm_ref.specs.{SetRef.Control.{setting, set_steered}, RootOf.{naming as root_naming, naming_steered}}
use Rattle.shm_queue.specs.{Drain.Control.{draining, drain_steered}, Receive.Control.{receiving, receive_steered}}
use Rattle.shm_queue.specs.Send.Control.{sending, send_steered}
use Rattle.shm_recover.specs.{Join.join_fresh, Leave.Control.{leaving, leave_steered}}
use Rattle.shm_recover.specs.Recover.Control.{recovering, recover_steered}
use Rattle.shm_session.specs.{declared.said.Said.Said, Sessions.code_said}
use Rattle.shm_singles.specs.declared.script.{Deed.Deed, Outcome.Outcome, Point.Point, ScriptState.ScriptState}
use Rattle.shm_singles.specs.declared.part.{Part.Part, PartAnswer.PartAnswer}
use Rattle.shm_singles.specs.Numbers.{dropped, ended, lived, made, not_looked, queued, rooted, word_read, word_set}
use Rattle.shm_singles.specs.Steps.{LatchesAnswer, RootsAnswer, WordsAnswer}
use Rattle.shm_singles.specs.declared.script.Deed.TheVariants as deed
use Rattle.shm_singles.specs.declared.script.Point.TheVariants as point
use Rattle.shm_singles.specs.declared.part.Part.TheVariants as group
use Rattle.shm_singles.specs.declared.part.PartAnswer.TheVariants as answer

-- what the control keeps in range
pub record ScriptInRange (m : ScriptState) : Type 0 where
  pub geometry : GeometryFits m.me.geometry
  pub who : m.me.who < m.me.geometry.clients
  pub refs : m.request.refs < 17
  pub count : m.request.count < 9
  pub root : m.root < 16
  pub other : m.other < 16
  pub peer : m.peer < m.me.geometry.clients
  pub author : m.author < m.me.geometry.clients
  pub block : m.block + 2 ≤ total_of m.me.geometry
  pub to : m.to + 2 ≤ total_of m.me.geometry

-- nothing is asked of an allocation
abbrev pub no_request : Request
no_request = record { refs = 0; count = 0; plain = replicate 8 0; near = record { segment = 0; page = 0; index = 0 } }

-- an operation that has no numbers, or none yet
abbrev pub begun : Me → Deed → Point → ScriptState
begun me d y = record { me = me; deed = d; request = no_request; root = 0; other = 0; index = 0; peer = me.who; author = me.who; block = 0; to = 0; point = y; said = code_said 16 }

-- ---- its machines

-- block b gets another root
abbrev pub sharing : Me → ℕ → Part
sharing me b = group.Roots (Second (First (calls_of rooting_steered (rooting me b))))

-- what root k names is loaded
abbrev pub naming : Me → ℕ → Part
naming me k = group.Roots (First (calls_of naming_steered (root_naming me k)))

-- a reference word of the block comes to name the other block
abbrev pub setting_word : ScriptState → Part
setting_word m = group.Words (Second (Second (calls_of set_steered (setting m.me m.block m.index m.to))))

-- what the operation is for
abbrev pub act_at : ScriptState → Deed → Part
act_at m deed.Join = group.Lives (First (join_fresh m.me))
act_at m deed.Recover = group.Lives (Second (First (calls_of recover_steered (recovering m.me))))
act_at m deed.Leave = group.Lives (Second (Second (calls_of leave_steered (leaving m.me))))
act_at m deed.Alloc = group.Alloc (record { me = m.me; request = m.request; point = Era })
act_at m deed.Share = sharing m.me m.block
act_at m deed.Drop = group.Roots (Second (Second (calls_of drop_steered (dropping m.me m.root))))
act_at m deed.Read = group.Words (First (Second (calls_of read_steered (reading m.me m.block m.index))))
act_at m deed.Follow = group.Words (Second (First (calls_of look_steered (looking m.me m.block m.index))))
act_at m deed.Set = setting_word m
act_at m deed.Clear = setting_word m
act_at m deed.Send = group.Queues (First (calls_of send_steered (sending m.me m.peer m.block)))
act_at m deed.Receive = group.Queues (Second (First (calls_of receive_steered (receiving m.me m.peer))))
act_at m deed.Drain = group.Queues (Second (Second (calls_of drain_steered (draining m.me))))

-- the same of an operation as it stands
abbrev pub act : ScriptState → Part
act m = act_at m m.deed

-- the machine at a point
abbrev pub part : ScriptState → Point → Part
part m point.Only = act m
part m point.Named = naming m.me m.root
part m point.Other = naming m.me m.other
part m point.Tagged = group.Words (First (First (record { me = m.me; ask = Load (m.block + 1); over = false })))
part m point.Held = group.Latches (First (calls_of hold_steered (holding m.me m.author)))
part m point.Act = act m
part m point.Rooted = sharing m.me m.to
part m point.Released = group.Latches (Second (calls_of release_steered (releasing m.me)))

-- whether a machine is the first one
abbrev pub is_first : Point → Bool
is_first point.Only = true
is_first point.Named = true
is_first y = false

-- the first one of an operation
abbrev pub first_of : Deed → Point
first_of deed.Share = point.Named
first_of deed.Read = point.Named
first_of deed.Set = point.Named
first_of deed.Clear = point.Named
first_of deed.Send = point.Named
first_of deed.Follow = point.Named
first_of d = point.Only

-- the operation before its first word step
abbrev pub started : ScriptState → ScriptState
started m = record (begun m.me m.deed (first_of m.deed)) { request = m.request; root = m.root; other = m.other; index = m.index; peer = m.peer }

-- ---- where it goes

-- which machine comes once the block of the first root is known
abbrev pub behind_root : Deed → Point
behind_root deed.Set = point.Other
behind_root deed.Clear = point.Held
behind_root deed.Follow = point.Tagged
behind_root d = point.Act

-- a number that a block of the pool can have
abbrev pub is_block : Me → ℕ → Bool
is_block me b = if b == 0 then false else nat_lt b (total_of me.geometry - 1)

-- the block that was found is the other one, or the one of the first root
abbrev pub placed : ScriptState → Point → ℕ → ScriptState
placed m point.Other b = record m { to = b; point = point.Held }
placed m y b = record m { block = b; point = behind_root m.deed }

-- a root was found to name this
abbrev pub named_after : ScriptState → ℕ → ScriptState
named_after m b = if is_block m.me b then placed m m.point b else m

-- it answers at once where that is no block
abbrev pub named_turns : ScriptState → ℕ → Option Outcome
named_turns m b = if is_block m.me b then None else Some (ended (code_said 27))

-- the tag of the block was loaded
abbrev pub tagged_after : ScriptState → ℕ → ScriptState
tagged_after m n = if nat_lt (tag_author m.me.geometry.wide n) m.me.geometry.clients then record m { author = tag_author m.me.geometry.wide n; point = point.Held } else m

-- it answers at once where the tag shows no author of the pool
abbrev pub tagged_turns : ScriptState → ℕ → Option Outcome
tagged_turns m n = if nat_lt (tag_author m.me.geometry.wide n) m.me.geometry.clients then None else Some (ended (code_said 27))

-- the latch was taken; or it is another's, and is tried again
abbrev pub held_after : ScriptState → Result (Unit {0}) Busy → ScriptState
held_after m (Ok u) = record m { point = point.Act }
held_after m (Err e) = record m { point = point.Held }

-- the latch is to be given back, and then s is said
abbrev pub given_back : ScriptState → Said → ScriptState
given_back m s = record m { said = s; point = point.Released }

-- what a reference word names is to get a root, where it names a block
abbrev pub found_after : ScriptState → ℕ → Bool → ScriptState
found_after m b true = record m { to = b; point = point.Rooted }
found_after m b false = given_back m (code_said 27)

-- a reference word was looked at
abbrev pub looked_after : ScriptState → Result ℕ LookFault → ScriptState
looked_after m (Ok b) = found_after m b (is_block m.me b)
looked_after m (Err e) = given_back m (not_looked e)

-- a root came to name a block, or none did
abbrev pub shared_at : ScriptState → Point → Result ℕ ShareFault → ScriptState
shared_at m point.Rooted r = given_back m (rooted m.to r)
shared_at m y r = m

-- the same at its point
abbrev pub shared_after : ScriptState → Result ℕ ShareFault → ScriptState
shared_after m = shared_at m m.point

-- what it answers then: under a latch nothing yet
abbrev pub shared_answer : ScriptState → Point → Result ℕ ShareFault → Option Outcome
shared_answer m point.Rooted r = None
shared_answer m y r = Some (ended (rooted m.block r))

-- the same at its point
abbrev pub shared_turns : ScriptState → Result ℕ ShareFault → Option Outcome
shared_turns m = shared_answer m m.point

-- ---- where it goes by what a machine of each group answered, and what it answers then
abbrev pub roots_after : ScriptState → RootsAnswer → ScriptState
roots_after m (First b) = named_after m b
roots_after m (Second (First r)) = shared_after m r
roots_after m (Second (Second r)) = m

abbrev pub roots_turns : ScriptState → RootsAnswer → Option Outcome
roots_turns m (First b) = named_turns m b
roots_turns m (Second (First r)) = shared_turns m r
roots_turns m (Second (Second r)) = Some (ended (dropped r))

abbrev pub words_after : ScriptState → WordsAnswer → ScriptState
words_after m (First (First n)) = tagged_after m n
words_after m (First (Second r)) = m
words_after m (Second (First r)) = looked_after m r
words_after m (Second (Second r)) = given_back m (word_set r)

abbrev pub words_turns : ScriptState → WordsAnswer → Option Outcome
words_turns m (First (First n)) = tagged_turns m n
words_turns m (First (Second r)) = Some (ended (word_read m.block r))
words_turns m (Second r) = None

abbrev pub latches_after : ScriptState → LatchesAnswer → ScriptState
latches_after m (First r) = held_after m r
latches_after m (Second u) = m

abbrev pub latches_turns : ScriptState → LatchesAnswer → Option Outcome
latches_turns m (First r) = None
latches_turns m (Second u) = Some (ended m.said)

-- the same of whichever machine it was
abbrev pub script_after : ScriptState → PartAnswer → ScriptState
script_after m (answer.Lives r) = m
script_after m (answer.Alloc r) = m
script_after m (answer.Roots r) = roots_after m r
script_after m (answer.Words r) = words_after m r
script_after m (answer.Latches r) = latches_after m r
script_after m (answer.Queues r) = m

abbrev pub script_turns : ScriptState → PartAnswer → Option Outcome
script_turns m (answer.Lives r) = Some (lived r)
script_turns m (answer.Alloc r) = Some (ended (made r))
script_turns m (answer.Roots r) = roots_turns m r
script_turns m (answer.Words r) = words_turns m r
script_turns m (answer.Latches r) = latches_turns m r
script_turns m (answer.Queues r) = Some (ended (queued r))

-- the operation, which says which of its machines comes next
abbrev pub script_steered : Steered ScriptState Part PartAnswer Outcome
script_steered =
    record {
      me = λ m. m.me;
      line = λ m. [];
      first = λ m. is_first m.point;
      start = started;
      call = λ m. part m m.point;
      after = script_after;
      turns = script_turns;
    }
