-- an identity that joins a pool that it hadn't joined before
use Rattle.std.proofs.Common.{◌≡◌, ℕ, ◌<◌, ap, ◌∙◌, cond, length}
use Rattle.shm_graph.specs.declared.{memo.{Kind.TheVariants.Client, Memo.Memo}, run.Start.Start}
use Rattle.shm_graph.specs.{Agents.{acts, entered}, Runs.first_memo}
use Rattle.shm_plain.specs.{Pools.{Pool, memo_of, readied}, Tracks.kind_next}
use Rattle.shm_plain.proofs.Turning.{ready_memo}

pub ready_new : (s : Start) (c : ℕ) (p : Pool) → c < length p.accounts → memo_of p c ≡ first_memo s c → memo_of (readied p c) c ≡ entered Client (first_memo s c)
ready_new s c p l e = ready_memo p c l ∙ ap (λ (m : Memo). cond (acts m) m (entered (kind_next m) m)) e
