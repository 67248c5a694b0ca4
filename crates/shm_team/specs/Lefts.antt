-- tokens that are given back
use Rattle.std.specs.Prelude.{◌≡◌, Bool, true, false, []}
use Rattle.shm_graph.specs.{declared.run.Account.Account, Agents.acts, Runs.account_died}
use Rattle.shm_pool.specs.Tokens.{Its, Token}
use Rattle.shm_team.specs.declared.left.Left.{Left, TheVariants.{Vacant, Corpse}}

-- the identity with what is accounted for of it: a death is noted before the next agent begins
abbrev pub token_in : Left → Token
token_in (Vacant t) = t
token_in (Corpse t) = record t { account = account_died t.account }

abbrev pub account_in : Left → Account
account_in k = (token_in k).account

abbrev pub is_corpse : Left → Bool
is_corpse (Vacant t) = false
is_corpse (Corpse t) = true

-- it is of this pool; nothing is left to tell of a vacant one's last agent, and the agent of a corpse has begun
abbrev pub IsGivenBack : Its → Left → Type 0
IsGivenBack p (Vacant t) = (t.of ≡ p) × (t.account.running ≡ [])
IsGivenBack p (Corpse t) = (t.of ≡ p) × (acts t.account.memo ≡ true)
