use Rattle.std.proofs.Common.{◌≡◌, ℕ, Bool, true, false, cond, refl, ap}
use Rattle.shm_graph.specs.{declared.{memo.Memo.Memo, run.Account.Account}, Agents.{acts, steps_made}}
use Rattle.shm_graph.specs.Runs.{account_at, account_died, changed, memos_of}
use Rattle.shm_graph.proofs.{Memos.MemoSteps.steps_died, Runs.Lists.account_part, States.FirstHeld.memos_start}
use Rattle.shm_plain.specs.Pools.{Pool, memo_of}
use Rattle.shm_plain.proofs.laws.steps_of_pools.Goals as goal

falls : (p : Pool) (c d : ℕ) (b : Bool) → steps_made (memos_of (cond b (changed account_died p.accounts c) p.accounts) d) ≡ steps_made (memo_of p d)
falls p c d true = account_part (λ (e : Account). steps_made e.memo) p.accounts c (account_died (account_at p.accounts c)) d (steps_died (memo_of p c))
falls p c d false = refl

pub returns-clause-first : goal.returns-clause-first
returns-clause-first c s d = ap (λ (r : ℕ → Memo). steps_made (r d)) (memos_start s)

pub returns-clause-falls : goal.returns-clause-falls
returns-clause-falls c p d e = falls p d e (acts (memo_of p d))
