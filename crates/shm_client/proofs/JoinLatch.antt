-- the latch of an identity that has just joined
use Rattle.std.proofs.Common.{◌≡◌, ℕ, ◌<◌, false, ap, ◌∙◌}
use Rattle.std.specs.Prelude.{None}
use Rattle.shm_words.specs.declared.geometry.Geometry.{Geometry}
use Rattle.shm_graph.specs.{declared.{ask.Me.Me, memo.Memo.Memo, run.Start.Start}, Asks.Trail, Runs.first_memo}
use Rattle.shm_plain.specs.Pools.{Pool, IsRun, memo_of, readied}
use Rattle.shm_recover.specs.Join.{JoinGives, join_fresh}
use Rattle.shm_count.specs.Roots.{member}
use Rattle.shm_client.specs.Clear.{IsClear}
use Rattle.shm_client.proofs.{Passing.ready_new, QueueReady.clear_join}

-- and nothing waits, in a pool for single calls
pub clear_joining : (g : Geometry) (s : Start) (c : ℕ) (p : Pool) (m : Memo) (tr : Trail) → IsRun p → c < p.start.geometry.clients → s.tables ≡ false → memo_of p c ≡ first_memo s c → JoinGives (join_fresh (member g c)) (memo_of (readied p c) c) m tr tt → IsClear m
clear_joining g s c p m tr run l single e h = clear_join s g c (memo_of (readied p c) c) m tr single (ready_new s c p (rw run.held.accounts l) e) h
