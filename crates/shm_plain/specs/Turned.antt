-- a pool in a vector as a place of work
use Rattle.std.specs.Prelude.{◌≡◌, slice_index}
use Rattle.shm_graph.specs.{declared.memo.Step.Step, Asks.{at_of, seen_of}}
use Rattle.shm_plain.specs.Pools.{Pool, readied, turned}

-- q is p after the word step t, before which an agent has begun where none acted; what t found is the word that stands there
abbrev pub IsTurned : Pool → Step → Pool → Type 0
IsTurned p t q = (q ≡ turned (readied p t.me.who) t) × (t.seen ≡ seen_of t.ask (slice_index p.words (at_of t.ask)))
