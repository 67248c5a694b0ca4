-- clients with nothing to finish: how they come to be so, and stay so
use Rattle.std.proofs.Common.{◌≡◌, ℕ, refl, ◌∙◌}
use Rattle.std.specs.Prelude.{None, Some, slice_index}
use Rattle.shm_graph.specs.{declared.memo.Memo.Memo, Agents.recovers, Held.is_loose}
use Rattle.shm_plain.specs.{Calls.IsAtWork, Pools.{IsRun, Pool, memo_of}}
use Rattle.shm_count.specs.Waiting.{LeavesQueues, LeavesWaiting}
use Rattle.shm_client.specs.Clear.{IsClear}
use Rattle.t_uses.specs.Blocks.{HasRun, IsFree, IsHolding}

-- whether the pool is for tables, the zero-count blocks, and what waits in queues are as they were
pub record KeepsLists (m r : Memo) : Type 0 where
  pub loose : is_loose r.part ≡ is_loose m.part
  pub dying : r.dying ≡ m.dying
  pub unsent : (j : ℕ) → slice_index r.unsent j ≡ slice_index m.unsent j
  pub untaken : (j : ℕ) → slice_index r.untaken j ≡ slice_index m.untaken j

pub rests_then : (m q r : Memo) → KeepsLists m q → KeepsLists q r → KeepsLists m r
rests_then m q r a b = record { loose = b.loose ∙ a.loose; dying = b.dying ∙ a.dying; unsent = λ j. b.unsent j ∙ a.unsent j; untaken = λ j. b.untaken j ∙ a.untaken j }

-- after a call that says what waits
pub waiting_rests : (m r : Memo) → is_loose r.part ≡ is_loose m.part → LeavesWaiting m r → KeepsLists m r
waiting_rests m r loose w = record { loose = loose; dying = w.dying; unsent = w.unsent; untaken = w.untaken }

pub queues_rests : (m r : Memo) → LeavesQueues m r → r.dying ≡ m.dying → KeepsLists m r
queues_rests m r q dying = record { loose = q.loose; dying = dying; unsent = q.unsent; untaken = q.untaken }

-- it is so again, with no latch
pub free_again : (c : ℕ) (p q : Pool) → IsFree c p → IsAtWork c q → IsRun q → recovers (memo_of q c) ≡ recovers (memo_of p c) → KeepsLists (memo_of p c) (memo_of q c) → (memo_of q c).latch ≡ None → IsFree c q
free_again c p q h work run kind rests latch =
    record {
      work = work;
      run = run;
      client = kind ∙ h.client;
      clear = record {
        loose = rests.loose ∙ h.clear.loose;
        latch = latch;
        dying = rests.dying ∙ h.clear.dying;
        unsent = λ j. rests.unsent j ∙ h.clear.unsent j;
        untaken = λ j. rests.untaken j ∙ h.clear.untaken j;
      };
    }

-- ---- the own latch

-- but for the latch nothing is to finish, as before
still : (m r : Memo) → IsClear (record m { latch = None }) → KeepsLists m r → IsClear (record r { latch = None })
still m r h rests = record { loose = rests.loose ∙ h.loose; latch = refl; dying = rests.dying ∙ h.dying; unsent = λ j. rests.unsent j ∙ h.unsent j; untaken = λ j. rests.untaken j ∙ h.untaken j }

-- it was taken
pub holds_now : (c : ℕ) (p q : Pool) → IsFree c p → IsAtWork c q → IsRun q → recovers (memo_of q c) ≡ recovers (memo_of p c) → KeepsLists (memo_of p c) (memo_of q c) → (memo_of q c).latch ≡ Some c → IsHolding c q
holds_now c p q h work run kind rests latch =
    let x = h.clear in
    let clear : IsClear (record (memo_of p c) { latch = None }) = record { loose = x.loose; latch = refl; dying = x.dying; unsent = x.unsent; untaken = x.untaken } in
    record { work = work; run = run; client = kind ∙ h.client; latch = latch; clear = still (memo_of p c) (memo_of q c) clear rests }

-- it is held still
pub holds_still : (c : ℕ) (p q : Pool) → IsHolding c p → IsAtWork c q → IsRun q → recovers (memo_of q c) ≡ recovers (memo_of p c) → KeepsLists (memo_of p c) (memo_of q c) → (memo_of q c).latch ≡ (memo_of p c).latch → IsHolding c q
holds_still c p q h work run kind rests latch =
    record { work = work; run = run; client = kind ∙ h.client; latch = latch ∙ h.latch; clear = still (memo_of p c) (memo_of q c) h.clear rests }

-- it was given back
pub holds_no_more : (c : ℕ) (p q : Pool) → IsHolding c p → IsAtWork c q → IsRun q → recovers (memo_of q c) ≡ recovers (memo_of p c) → KeepsLists (memo_of p c) (memo_of q c) → (memo_of q c).latch ≡ None → IsFree c q
holds_no_more c p q h work run kind rests latch =
    let x = still (memo_of p c) (memo_of q c) h.clear rests in
    record { work = work; run = run; client = kind ∙ h.client; clear = record { loose = x.loose; latch = latch; dying = x.dying; unsent = x.unsent; untaken = x.untaken } }

-- ---- turns of c alone

pub run_then : (c : ℕ) (p q r : Pool) → HasRun c p q → HasRun c q r → HasRun c p r
run_then c p q r a b = record { start = b.start ∙ a.start; others = λ d n. b.others d n ∙ a.others d n; run = b.run }
