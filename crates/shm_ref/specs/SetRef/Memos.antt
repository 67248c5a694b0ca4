-- the memo of an identity once a tag and a reference word of an own block were read under the own latch
use Rattle.std.proofs.Common.{ℕ, []}
use Rattle.shm_graph.specs.{declared.{memo.Memo.Memo, spot.Spot.TheVariants.Tag}, Reach.learnt}
use Rattle.shm_graph.specs.MemoAfterRead.{reference_read}

-- the tag of a block was read
abbrev pub tag_seen : ℕ → ℕ → Memo → Memo
tag_seen b t m = record m { known = learnt (Tag b) t m.known }

-- and word k of it, which names x: a block is a look then
abbrev pub word_seen : ℕ → ℕ → ℕ → ℕ → Memo → Memo
word_seen b k t x m = reference_read (tag_seen b t m) b k x
