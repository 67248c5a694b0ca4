-- what an identity has sent while a command of it runs
use Rattle.std.specs.Prelude.{◌≡◌, ℕ, ◌==◌, if◌then◌else◌, slice_index_or, Option, Some, List, [], ◌∷◌, ◌++◌}
use Rattle.shm_graph.specs.declared.memo.Memo.{Memo}
use Rattle.kind_parts.specs.Reparting.{map_in}
use Rattle.shm_script.specs.declared.{line.Line.Line, log.Answer.Answer}
use Rattle.shm_script.specs.declared.line.Line.TheVariants as line
use Rattle.shm_script.specs.declared.log.Answer.TheVariants as answer

-- the blocks that the identity of a memo has sent to i, in their order
abbrev pub sent_to : Memo → ℕ → List ℕ
sent_to m i = slice_index_or m.sent i []

-- nothing was sent, to no identity
abbrev pub SameSent : Memo → Memo → Type 0
SameSent m r = (j : ℕ) → sent_to r j ≡ sent_to m j

-- block b was sent to i, behind all that was sent to it before, and nothing was sent to any other identity
abbrev pub SentOne : ℕ → ℕ → Memo → Memo → Type 0
SentOne i b m r = (j : ℕ) → sent_to r j ≡ (if i == j then sent_to m j ++ b ∷ [] else sent_to m j)

-- where a send shows Ok, the value block that its key had was sent to the identity of its line; where no answer is shown, and for any other line, nothing was sent
abbrev pub SentSoFar : Line → Option Answer → Memo → Memo → Type 0
SentSoFar (line.Send i key) (Some answer.Ok) r0 r = (n : ℕ) × (b : ℕ) × (map_in r0.part key ≡ Some (n, b)) × SentOne i b r0 r
SentSoFar l a r0 r = SameSent r0 r
