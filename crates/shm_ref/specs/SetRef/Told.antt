-- what is said where a reference word of an own block wasn't set
use Rattle.std.specs.Prelude.{◌≡◌, ◌≢◌, ℕ, ◌^◌, ◌-◌, ◌<◌, ◌≤◌, Bool, true, Some}
use Rattle.shm_words.specs.Tags.{tag_author, tag_refs}
use Rattle.shm_graph.specs.{declared.{memo.Memo.Memo, spot.Spot.TheVariants.Tag}, Reach.is_reached}
use Rattle.shm_count.specs.Tear.Memos.{Knows}
use Rattle.shm_ref.specs.declared.answer.SetFault.{SetFault}
use Rattle.shm_ref.specs.declared.answer.SetFault.TheVariants.{CountFull, EraSpent, NoSuchRef, NotAuthor, NotHeld}

-- what was in reach of c is so still
abbrev pub Reaches : ℕ → Memo → Memo → Type 0
Reaches c m r = (b : ℕ) → is_reached c m b ≡ true → is_reached c r b ≡ true

-- Why word k of block b isn't `to` in a pool of format 2 (`true`) or of format 1: the tag, which is known now, says that the block is another's, or has no such word; the own latch wasn't held; the own era leaves no room; or the block that the word was to name has the greatest count
abbrev pub SetTold : Bool → ℕ → ℕ → ℕ → ℕ → Memo → Memo → SetFault → Type 0
SetTold wide c b k to m r (NotAuthor a) = (t : ℕ) × Knows r (Tag b) t × (a ≡ tag_author wide t) × (a ≢ c) × Reaches c m r
SetTold wide c b k to m r (NoSuchRef n) = (t : ℕ) × Knows r (Tag b) t × (tag_author wide t ≡ c) × (n ≡ tag_refs wide t) × (n ≤ k) × Reaches c m r
SetTold wide c b k to m r NotHeld = (t : ℕ) × Knows r (Tag b) t × (tag_author wide t ≡ c) × (k < tag_refs wide t) × (m.latch ≢ Some c) × Reaches c m r
SetTold wide c b k to m r (EraSpent e) = 2 ^ 47 - 4 < e
SetTold wide c b k to m r (CountFull d n) = (d ≡ to) × (to ≢ 0) × (n ≡ 1023)
