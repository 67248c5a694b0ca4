-- how many segments of others, and how many blocks in use, a trail shows
use Rattle.std.specs.Prelude.{ℕ, ◌+◌, ◌==◌, if◌then◌else◌, [], ◌∷◌}
use Rattle.shm_words.specs.{declared.place.Place.Place, Layout.place_at}
use Rattle.shm_words.specs.declared.place.Place.TheVariants as place
use Rattle.shm_graph.specs.{declared.ask.{Ask.{Ask, TheVariants.{Load, Exchange}}, Me.Me}, Asks.Trail}

-- 1 where a load of the word of a segment found another's number, neither 0 nor that of c
abbrev pub load_taken : ℕ → Place → ℕ → ℕ
load_taken c (place.Segment s) n = if n == 0 then 0 else if n == c + 1 then 0 else 1
load_taken c _ n = 0

-- 1 where an exchange of the word of a segment found that it was somebody's
abbrev pub claim_taken : Place → ℕ → ℕ
claim_taken (place.Segment s) n = if n == 0 then 0 else 1
claim_taken _ n = 0

-- 1 where a load of a word of a page's body found that it isn't 0
abbrev pub load_used : Place → ℕ → ℕ
load_used (place.Body s p k) n = if n == 0 then 0 else 1
load_used _ n = 0

-- 1 where a pair of a trail shows a segment that is another's
abbrev pub taken_by : Me → Ask → ℕ → ℕ
taken_by me (Load at) n = load_taken me.who (place_at me.geometry at) n
taken_by me (Exchange at from to) n = claim_taken (place_at me.geometry at) n
taken_by me _ n = 0

-- 1 where a pair of a trail shows a block that isn't free
abbrev pub used_by : Me → Ask → ℕ → ℕ
used_by me (Load at) n = load_used (place_at me.geometry at) n
used_by me _ n = 0

-- how many pairs of a trail show a segment that is another's
abbrev pub taken_in : Me → Trail → ℕ
taken_in me [] = 0
taken_in me (s ∷ tr) = taken_by me s.ask s.word + taken_in me tr

-- how many pairs of a trail show a block that isn't free
abbrev pub used_in : Me → Trail → ℕ
used_in me [] = 0
used_in me (s ∷ tr) = used_by me s.ask s.word + used_in me tr
