-- what an answer of a command leaves of a map, and with it what the own map is while a command runs
use Rattle.std.specs.Prelude.{◌≡◌, ℕ, ◌==◌, if◌then◌else◌, Option, Some, None}
use Rattle.shm_graph.specs.declared.memo.Memo.{Memo}
use Rattle.kind_parts.specs.Reparting.{map_in}
use Rattle.shm_script.specs.declared.{line.Line.Line, log.Answer.Answer}
use Rattle.shm_script.specs.declared.line.Line.TheVariants as line
use Rattle.shm_script.specs.declared.log.Answer.TheVariants as answer

-- the map that an answer of a command leaves of a map: a put that stored, a copy or a receive that answered a value set their key, a removal that answered Ok takes it out; otherwise it stays
abbrev pub answered_map : Line → Answer → (ℕ → Option (ℕ × ℕ)) → ℕ → Option (ℕ × ℕ)
answered_map (line.Put key n) (answer.Stored b) f k = if key == k then Some (n, b) else f k
answered_map (line.Copy key a other) (answer.Value n b) f k = if key == k then Some (n, b) else f k
answered_map (line.Recv from key) (answer.Value n b) f k = if key == k then Some (n, b) else f k
answered_map (line.Del key) answer.Ok f k = if key == k then None else f k
answered_map l a f k = f k

-- where no answer is shown the map is what it was, and otherwise the one that the answer shown leaves of that
abbrev pub MapSoFar : Line → Option Answer → Memo → Memo → Type 0
MapSoFar l None r0 r = (key : ℕ) → map_in r.part key ≡ map_in r0.part key
MapSoFar l (Some a) r0 r = (key : ℕ) → map_in r.part key ≡ answered_map l a (map_in r0.part) key
