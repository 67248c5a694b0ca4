-- what the words of each kind hold
use Rattle.std.proofs.Common.{ℕ}
use Rattle.shm_graph.specs.declared.spot.Spot.{Spot}
use Rattle.shm_graph.specs.declared.spot.Spot.TheVariants.{RedoMore, Hold, Latch, Era, Tail, QueueHead, Slot, Segment, Head, Tag, Body}

abbrev pub seconds : (Spot → ℕ) → ℕ → ℕ
seconds w c = w (RedoMore c)

abbrev pub holds : (Spot → ℕ) → ℕ → ℕ
holds w c = w (Hold c)

abbrev pub latches : (Spot → ℕ) → ℕ → ℕ
latches w a = w (Latch a)

abbrev pub eras : (Spot → ℕ) → ℕ → ℕ → ℕ
eras w i j = w (Era i j)

abbrev pub tails : (Spot → ℕ) → ℕ → ℕ → ℕ
tails w s r = w (Tail s r)

abbrev pub queue_heads : (Spot → ℕ) → ℕ → ℕ → ℕ
queue_heads w s r = w (QueueHead s r)

abbrev pub slot_words : (Spot → ℕ) → ℕ → ℕ → ℕ → ℕ
slot_words w s r k = w (Slot s r k)

abbrev pub segments : (Spot → ℕ) → ℕ → ℕ
segments w s = w (Segment s)

abbrev pub head_words : (Spot → ℕ) → ℕ → ℕ
head_words w b = w (Head b)

abbrev pub tags : (Spot → ℕ) → ℕ → ℕ
tags w b = w (Tag b)

abbrev pub bodies : (Spot → ℕ) → ℕ → ℕ → ℕ
bodies w b i = w (Body b i)
