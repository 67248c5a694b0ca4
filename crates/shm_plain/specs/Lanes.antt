-- what went through the queues of a pool
use Rattle.std.specs.Prelude.{◌≡◌, ℕ, List, [], ◌∷◌, ◌++◌, slice_index_or}
use Rattle.shm_plain.specs.Pools.{Pool, memo_of}

-- what s sent to c, the first item first
abbrev pub sent_of : Pool → ℕ → ℕ → List ℕ
sent_of p s c = slice_index_or (memo_of p s).sent c []

-- what c received from s
abbrev pub received_of : Pool → ℕ → ℕ → List ℕ
received_of p s c = slice_index_or (memo_of p c).received s []

-- these items of the queue from s to c wait: they were sent after those that were received
abbrev pub Wait : Pool → ℕ → ℕ → List ℕ → Type 0
Wait p s c items = sent_of p s c ≡ received_of p s c ++ items

-- b is the first item of the queue from s to c that waits
abbrev pub IsFirst : Pool → ℕ → ℕ → ℕ → Type 0
IsFirst p s c b = (items : List ℕ) × Wait p s c (b ∷ items)
