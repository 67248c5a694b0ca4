-- what the operations of an identity in a pool for single blocks do, by their numbers
use Rattle.std.specs.Prelude.{ℕ, ◌/◌, ◌%◌, Bool, ◌==◌, nat_lt, if◌then◌else◌, Option, Some, None, Result, Ok, Err}
use Rattle.shm_graph.specs.declared.ask.Me.{Me}
use Rattle.shm_alloc.specs.declared.request.{Near.Near, Request.Request}
use Rattle.shm_session.specs.{declared.said.{Call.Call, Misuse.Misuse, Reply.Reply, Stage.Stage}, Sessions.Operations}
use Rattle.shm_session.specs.declared.said.Misuse.TheVariants as misuse
use Rattle.shm_session.specs.declared.said.Stage.TheVariants as stage
use Rattle.shm_singles.specs.declared.{part.Part.Part, script.{Deed.Deed, Outcome.Outcome, ScriptState.ScriptState}}
use Rattle.shm_singles.specs.declared.{script.Point.TheVariants.{Named, Only}, steering.Steering.Steering}
use Rattle.shm_singles.specs.{Parts.part_control, Scripts.{begun, script_steered}}
use Rattle.shm_singles.specs.Steering.{steering_control, steering_of}
use Rattle.shm_singles.specs.declared.script.Deed.TheVariants as deed

-- a number that is below a bound, a word's index, and another identity of the pool; none where it isn't one
abbrev pub below : ℕ → ℕ → Option ℕ
below n m = if nat_lt n m then Some n else None

abbrev pub word : ℕ → Option ℕ
word n = if nat_lt n 256 then Some n else None

abbrev pub other_than : ℕ → Option ℕ → Option ℕ
other_than c None = None
other_than c (Some n) = if n == c then None else Some n

abbrev pub another : Me → ℕ → Option ℕ
another me n = other_than me.who (below n me.geometry.clients)

-- where an allocation begins to search: by 16, 8 and 8 bits of a number
abbrev pub near_of : ℕ → Near
near_of n = record { segment = n % 65536; page = n / 65536 % 256; index = n / 16777216 }

-- what an allocation is asked for: at most 16 reference words and 8 plain words
abbrev pub requested : Call → Option ℕ → Option ℕ → Bool → Option Request
requested c None n b = None
requested c (Some r) None b = None
requested c (Some r) (Some n) b = if b then Some (record { refs = r; count = n; plain = c.words; near = near_of c.third }) else None

abbrev pub request : Call → Option Request
request c = requested c (below c.first 17) (below c.second 9) (nat_lt c.third 4294967296)

-- an allocation of what is asked for
abbrev pub allocating : Me → Option Request → Option ScriptState
allocating me None = None
allocating me (Some q) = Some (record (begun me deed.Alloc Only) { request = q })

-- an operation at the block that a root names, at one of its words, with the block that another root names
abbrev pub rooted_at : Me → Deed → Option ℕ → Option ℕ → Option ℕ → Option ScriptState
rooted_at me d None i o = None
rooted_at me d (Some k) None o = None
rooted_at me d (Some k) (Some i) None = None
rooted_at me d (Some k) (Some i) (Some o) = Some (record (begun me d Named) { root = k; index = i; other = o })

abbrev pub at_root : Me → Deed → ℕ → ℕ → ℕ → Option ScriptState
at_root me d k i o = rooted_at me d (below k 16) (word i) (below o 16)

-- a root is made empty
abbrev pub dropping : Me → Option ℕ → Option ScriptState
dropping me None = None
dropping me (Some k) = Some (record (begun me deed.Drop Only) { root = k })

-- an operation with another identity
abbrev pub with_peer : Option ℕ → Option ScriptState → Option ScriptState
with_peer None m = None
with_peer (Some n) None = None
with_peer (Some n) (Some m) = Some (record m { peer = n })

-- the operation of a number: 20 is an allocation, 21 a share, 22 a read, 23 a set, 24 a clear, 25 a drop, 26 a send, 27 a receive, 28 a drain, 29 a follow
abbrev pub script_of : Me → Call → Option ScriptState
script_of me c =
    if c.op == 20 then allocating me (request c)
    else if c.op == 21 then at_root me deed.Share c.first 0 0
    else if c.op == 22 then at_root me deed.Read c.first c.second 0
    else if c.op == 23 then at_root me deed.Set c.first c.second c.third
    else if c.op == 24 then at_root me deed.Clear c.first c.second 0
    else if c.op == 25 then dropping me (below c.first 16)
    else if c.op == 26 then with_peer (another me c.first) (at_root me deed.Send c.second 0 0)
    else if c.op == 27 then with_peer (another me c.first) (Some (begun me deed.Receive Only))
    else if c.op == 28 then Some (begun me deed.Drain Only)
    else if c.op == 29 then at_root me deed.Follow c.first c.second 0
    else None

-- an operation, as what a session is at
abbrev pub Work : Type 0
Work = Steering ScriptState Part

-- a join, a leaving or a recovery
abbrev pub alone : Me → Deed → Work
alone me d = steering_of script_steered (begun me d Only)

-- a join is for an identity that is new or gone, a leaving for one that has joined, a recovery for one that is dead
abbrev pub joins : Me → Stage → Result Work Misuse
joins me stage.Vacant = Ok (alone me deed.Join)
joins me stage.Live = Err misuse.Stage
joins me stage.Dead = Err misuse.Stage

abbrev pub leaves : Me → Stage → Result Work Misuse
leaves me stage.Vacant = Err misuse.Stage
leaves me stage.Live = Ok (alone me deed.Leave)
leaves me stage.Dead = Err misuse.Stage

abbrev pub recovers : Me → Stage → Result Work Misuse
recovers me stage.Vacant = Err misuse.Stage
recovers me stage.Live = Err misuse.Stage
recovers me stage.Dead = Ok (alone me deed.Recover)

-- every other operation is for one that has joined; numbers out of range are refused first
abbrev pub runs : Stage → Option ScriptState → Result Work Misuse
runs t None = Err misuse.Range
runs stage.Vacant (Some m) = Err misuse.Stage
runs stage.Live (Some m) = Ok (steering_of script_steered m)
runs stage.Dead (Some m) = Err misuse.Stage

-- what a call begins: 1 is a join, 2 a leaving, 3 a recovery, and every other number an operation on single blocks
abbrev pub begins : Me → Stage → Call → Result Work Misuse
begins me t c = if c.op == 1 then joins me t else if c.op == 2 then leaves me t else if c.op == 3 then recovers me t else runs t (script_of me c)

-- how the identity stands after an answer
abbrev pub stands_after : Option Stage → Stage → Stage
stands_after None t = t
stands_after (Some u) t = u

-- an answer, and how the identity stands after it
abbrev pub replies : Outcome → Stage → Reply
replies a t = record { said = a.said; stage = stands_after a.stands t }

-- the operations of such a pool: nothing is certain of one that is given up
abbrev pub singles : Operations Work Outcome
singles = record { control = steering_control part_control script_steered; begins = begins; replies = replies; effects = λ m. None }
