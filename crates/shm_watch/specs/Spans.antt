-- the turns in which a piece of work begins and up to which it has come
use Rattle.std.specs.Prelude.{ℕ, Option, Some, None}
use Rattle.shm_watch.specs.declared.span.{Fate.{Fate, TheVariants.{Goes, Ends, Dies}}, Point.Point, Span.Span}

-- that of its agent's death, or of its agent's last word step
abbrev pub turn_by : Fate → Point → ℕ
turn_by Goes last = last.turn
turn_by Ends last = last.turn
turn_by (Dies turn) last = turn

abbrev pub last_turn : Span → ℕ
last_turn s = turn_by s.fate s.last

-- that of its first word step; where it has made none, that up to which it has come
abbrev pub begun_by : Option Point → ℕ → ℕ
begun_by None last = last
begun_by (Some first) last = first.turn

abbrev pub first_turn : Span → ℕ
first_turn s = begun_by s.begins (last_turn s)
