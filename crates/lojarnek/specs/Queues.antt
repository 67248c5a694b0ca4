-- what went through the queues of clients
use Rattle.std.specs.Prelude.{◌≡◌, ℕ, ◌⊎◌, Bool, true, false, Option, Some, None}
use Rattle.shm_graph.specs.{declared.run.Account.Account, MemoAfterStore.lane_with}
use Rattle.shm_table.specs.Staying.{IsSpent}
use Rattle.lojarnek.specs.{Standing.account_map, Tables.{HasNone, HasNumber}}

-- whether the key was there
abbrev pub WasThere : ℕ → Bool → Account → Type 0
WasThere key true e = (n : ℕ) × HasNumber key n e
WasThere key false e = HasNone key e

-- where a value was sent it is the key's, and comes after all that was sent to this client before; otherwise none was
abbrev pub HasSent : ℕ → ℕ → Bool → Account → Account → Type 0
HasSent to key true e e' = (n : ℕ) × (b : ℕ) × (account_map e key ≡ Some (n, b)) × (e'.memo.sent ≡ lane_with e.memo.sent to b)
HasSent to key false e e' = e'.memo.sent ≡ e.memo.sent

-- where a number was received its value block is the key's, and it joined what was received from that client, unless the identity is used up; otherwise nothing was received
abbrev pub HasReceived : ℕ → ℕ → Option ℕ → Account → Account → Type 0
HasReceived from key (Some n) e e' = (b : ℕ) × (account_map e' key ≡ Some (n, b)) × ((e'.memo.received ≡ lane_with e.memo.received from b) ⊎ ((e'.memo.received ≡ e.memo.received) × ((x : ℕ) × IsSpent e.who x e'.memo)))
HasReceived from key None e e' = e'.memo.received ≡ e.memo.received
