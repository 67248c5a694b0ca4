-- refusals of commands: which answers they are, and what a command of a line leaves
use Rattle.std.specs.Prelude.{ℕ, Bool, true, false, not, ◌==◌, if◌then◌else◌, List, [], ◌∷◌}
use Rattle.shm_graph.specs.declared.{ask.Me.Me, memo.Memo.Memo, spot.Spot.{Spot, TheVariants.{Body, Home, Root}}}
use Rattle.shm_graph.specs.{Asks.Trail, Events.Event, Spots.same_spot}
use Rattle.shm_graph.specs.Events as event
use Rattle.shm_script.specs.declared.{line.Line.Line, log.Answer.Answer}
use Rattle.shm_script.specs.declared.line.Line.TheVariants as line
use Rattle.shm_script.specs.declared.log.Answer.TheVariants as answer
use Rattle.shm_table.specs.{CopyKey.{Control.copying, CopyLeaves}, Del.{Control.deleting, DelLeaves}}
use Rattle.shm_table.specs.{Get.{Control.getting, GetLeaves}, Put.{Control.putting, PutLeaves}}
use Rattle.shm_table.specs.{RecvKey.{Control.receiving_key, RecvLeaves}, SendKey.{Control.sending_key, SendKeyLeaves}}

-- the answer says that nothing was stored, read, removed or sent
abbrev pub is_refusal : Answer → Bool
is_refusal answer.Ok = false
is_refusal (answer.Stored b) = false
is_refusal (answer.Value n b) = false
is_refusal a = true

-- the answer says that the own era was spent
abbrev pub is_spent : Answer → Bool
is_spent (answer.EraSpent e) = true
is_spent a = false

-- the event by which a command of c brings block b into root k: a put makes it, a copy or a receive gives it a reference
abbrev pub taken_by : ℕ → Line → ℕ → ℕ → Event
taken_by c (line.Put key n) k b = event.Alloc c k b
taken_by c l k b = event.Up c (Root c k) b

-- what spot p names after these events, where it named x before them
abbrev pub named_after : Spot → List Event → ℕ → ℕ
named_after p [] x = x
named_after p (event.Alloc c k b ∷ es) x = named_after p es (if same_spot (Root c k) p then b else x)
named_after p (event.Up c q b ∷ es) x = named_after p es (if same_spot q p then b else x)
named_after p (event.Down c q b ∷ es) x = named_after p es (if same_spot q p then 0 else x)
named_after p (event.ChangeUp c q a b ∷ es) x = named_after p es (if same_spot q p then b else x)
named_after p (e ∷ es) x = named_after p es x

-- neither a root or the home of c nor a word of a block
abbrev pub is_apart : ℕ → Spot → Bool
is_apart c (Root d k) = not (c == d)
is_apart c (Home d) = not (c == d)
is_apart c (Body b i) = false
is_apart c p = true

-- what the command of a line leaves of the memo r0, by its answer
abbrev pub CommandLeaves : Me → Line → Memo → Memo → Trail → List Event → Answer → Type 0
CommandLeaves me (line.Put key n) = PutLeaves (putting me key n)
CommandLeaves me (line.Copy key a other) = CopyLeaves (copying me key a other)
CommandLeaves me (line.Del key) = DelLeaves (deleting me key)
CommandLeaves me (line.Get a key) = GetLeaves (getting me a key)
CommandLeaves me (line.Send to key) = SendKeyLeaves (sending_key me to key)
CommandLeaves me (line.Recv from key) = RecvLeaves (receiving_key me from key)
