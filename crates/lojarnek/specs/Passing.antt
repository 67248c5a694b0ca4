-- what went through the queues of clients as blocks
use Rattle.std.specs.Prelude.{◌≡◌, ◌≢◌, ℕ, List, [], ◌++◌, length, slice_index_or, Option, Some, None}
use Rattle.shm_graph.specs.MemoAfterStore.{lane_with}
use Rattle.shm_queue.specs.Drain.{TakenItem, blocks_from}
use Rattle.lojarnek.specs.declared.error.Error.{Error, TheVariants.{CountFull, QueueFull, RootsFull}}
use Rattle.lojarnek.specs.Blocks.{IsRooted, KeepsNamed, KeepsRoots, Spent, first_of, names, queue_wrong, root_wrong}
use Rattle.lojarnek.specs.Standing.{Acts}

-- the block b comes after all that was sent to client a before
abbrev pub SendsBlock : ℕ → ℕ → Acts → Acts → Type 0
SendsBlock a b c c' = c'.token.account.memo.sent ≡ lane_with c.token.account.memo.sent a b

-- root k, the least one that was empty, names the next block that client a has sent, which joined what was received from it
pub record TakesBlock (a k : ℕ) (c c' : Acts) : Type 0 where
  pub rooted : IsRooted k (names c' k) c c'
  pub some : names c' k ≢ 0
  pub received : c'.token.account.memo.received ≡ lane_with c.token.account.memo.received a (names c' k)

-- none waited: nothing was received
pub record TakesNone (c c' : Acts) : Type 0 where
  pub roots : KeepsRoots c c'
  pub received : c'.token.account.memo.received ≡ c.token.account.memo.received

abbrev pub Takes : ℕ → Option ℕ → Acts → Acts → Type 0
Takes a (Some k) c c' = TakesBlock a k c c'
Takes a None c c' = TakesNone c c'

-- n blocks joined what was received, each from its sender and in order
pub record TakesAll (n : ℕ) (c c' : Acts) : Type 0 where
  pub items : List TakenItem
  pub count : n ≡ length items
  pub received : (a : ℕ) → slice_index_or c'.token.account.memo.received a [] ≡ slice_index_or c.token.account.memo.received a [] ++ blocks_from a items

-- what is wrong with sending the block that root k names to client a
abbrev pub send_wrong : Acts → ℕ → ℕ → Option Error
send_wrong c a k = first_of (queue_wrong c a) (root_wrong c k)

-- why the block b isn't sent to client a: for want of eras, or the queue is full, or the count of the block is as great as it can be
abbrev pub WhyNotSent : ℕ → ℕ → Error → Acts → Acts → Type 0
WhyNotSent a b (QueueFull to) c c' = to ≡ a
WhyNotSent a b (CountFull d n) c c' = d ≡ b
WhyNotSent a b e c c' = Spent KeepsRoots e c c'

-- why no block is received: for want of eras, or all roots name blocks, or the count of the block that waits is as great as it can be
abbrev pub WhyNotReceived : Error → Acts → Acts → Type 0
WhyNotReceived RootsFull c c' = Unit {0}
WhyNotReceived (CountFull b n) c c' = Unit {0}
WhyNotReceived e c c' = Spent KeepsNamed e c c'
