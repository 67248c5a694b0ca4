-- an account of which an agent acts
use Rattle.std.proofs.Common.{◌≡◌, Bool, true, false, cond, refl}
use Rattle.shm_graph.specs.{declared.{memo.Kind.TheVariants.Client, run.Account.Account}, Agents.acts}
use Rattle.shm_graph.specs.Runs.{account_entered}
use Rattle.shm_pool.specs.Tokens.{begun_account}

pub begun_who : (e : Account) → (begun_account e).who ≡ e.who
begun_who e = by (acts e.memo)
  where
    by : (b : Bool) → (cond b e (account_entered Client e)).who ≡ e.who
    by true = refl
    by false = refl
