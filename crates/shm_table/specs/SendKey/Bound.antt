-- how many word steps it takes to send what an own key has: by the keys that were read
use Rattle.std.proofs.Common.{ℕ, ◌+◌, ◌*◌, Bool}
use Rattle.shm_graph.specs.{declared.ask.Me.Me, Asks.{Trail, IsWithin}}
use Rattle.shm_table.specs.{PutRoot.HasSearch, SendKey.send_key_steps}

-- so many keys were read by the search, and so many word steps were made at most
abbrev pub IsSendShort : Me → ℕ → (ℕ → ℕ) → Trail → Type 0
IsSendShort me key steps tr = (keys : ℕ) × HasSearch me me.who key keys tr × IsWithin (steps keys) tr

-- besides those for keys that were read
abbrev pub own_steps : Bool → ℕ → ℕ
own_steps wide k = send_key_steps wide + 2 * k
