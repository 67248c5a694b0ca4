-- the words of a block that was allocated
use Rattle.std.specs.{Prelude.{ℕ, ◌+◌, ◌<◌, List, length, slice_index}, List.Contains}
use Rattle.shm_graph.specs.declared.{ask.Me.Me, memo.Memo.Memo, spot.Spot.TheVariants.{Body, Tag}}
use Rattle.shm_words.specs.Tags.{tag_word}

-- the identity knows of the words of the block b: its tag, of n reference words and of the plain words xs, whose author it is; then n words that are 0, and behind them xs
pub record IsWritten (me : Me) (n : ℕ) (xs : List ℕ) (b : ℕ) (m : Memo) : Type 0 where
  pub tag : Contains m.known (record { spot = Tag b; value = tag_word me.geometry.wide (record { refs = n; plain = length xs; author = me.who; link = 0 }) })
  pub references : (i : ℕ) → i < n → Contains m.known (record { spot = Body b i; value = 0 })
  pub words : (i : ℕ) → i < length xs → Contains m.known (record { spot = Body b (n + i); value = slice_index xs i })
