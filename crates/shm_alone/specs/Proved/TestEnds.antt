-- a commit test that works alone ends: it loads the header, and at most one word of each row: what is proved of it
use Rattle.std.proofs.Common.{◌≡◌, ℕ, ◌+◌, ◌-◌, ◌<◌, ◌≤◌, arith, Bool, true, false, cond, eqb, refl}
use Rattle.std.proofs.lemmas.Bool.{ltb-true}
use Rattle.std.specs.Prelude.{nat_lt, Some, None}
use Rattle.shm_graph.specs.{Laws.Outcome, MemoAfterRead.next_row}
use Rattle.plans.specs.{CallsControl.calls_does, CallsFit.CallsFits, Words.word_control}
use Rattle.shm_count.specs.declared.commit_test.Commit.TheVariants.{Committed, NotCommitted}
use Rattle.shm_count.specs.declared.commit_test.TestingPoint.{TestingPoint, TheVariants.{Header, Row}}
use Rattle.shm_count.specs.declared.commit_test.TestingState.{TestingState}
use Rattle.shm_count.specs.CommitTest.Control.{is_header, is_shown, test_after, test_next, test_step, test_turns}
use Rattle.shm_count.specs.CommitTest.{Machines.commit_test, testing_plan}
use Rattle.shm_count.specs.declared.commit_test.Proof.TheVariants as proof
use Rattle.shm_alone.specs.{Alone.EndsAlone, Lifting.{anything, calls_alone, calls_left, word_left, word_saved}}
use Rattle.shm_alone.specs.{Proved.Lifting.{bare_calls_end, word_ends}, TestEnds.{rows_left, test_rest, test_saved}}

-- ---- where it goes

-- the next row of another client is no row before this one
row_least : (c k : ℕ) → k ≤ next_row c k
row_least c k = go (eqb k c)
  where
    go : (q : Bool) → k ≤ cond q (k + 1) k
    go true = omega arith
    go false = omega arith

-- on to the next row there are fewer left, and an answer has nothing over
next_pays : (m : TestingState) (k n : ℕ) → (next_row m.me.who k < m.me.geometry.clients → 1 + (m.me.geometry.clients - next_row m.me.who k) ≤ n + 0) → Outcome (test_step m k) (1 + test_rest (test_next m k) ≤ n + 0) (λ a. 0 ≤ n + 0)
next_pays m k n h = go (nat_lt (next_row m.me.who k) m.me.geometry.clients) (ltb-true (next_row m.me.who k) m.me.geometry.clients)
  where
    go : (q : Bool) → (q ≡ true → next_row m.me.who k < m.me.geometry.clients) → Outcome (cond q None (Some NotCommitted)) (1 + test_rest (cond q (record m { row = next_row m.me.who k; point = Row }) m) ≤ n + 0) (λ a. 0 ≤ n + 0)
    go true is = h (is refl)
    go false is = omega arith

-- by the word found at a point
test_pays : (m : TestingState) (y : TestingPoint) (n : ℕ) → Outcome (test_turns m y n) (1 + test_rest (test_after m y n) ≤ rows_left m.me m.row y + 0) (λ a. 0 ≤ rows_left m.me m.row y + 0)
test_pays m Header n = go (is_shown m.me.who m.era n)
  where
    go : (q : Bool) → Outcome (cond q (Some (Committed proof.Header)) (test_step m 0)) (1 + test_rest (cond q m (test_next m 0)) ≤ m.me.geometry.clients + 1 + 0) (λ a. 0 ≤ m.me.geometry.clients + 1 + 0)
    go true = omega arith
    go false = next_pays m 0 (m.me.geometry.clients + 1) (λ l. omega arith)
test_pays m Row n = go (nat_lt n m.era)
  where
    go : (q : Bool) → Outcome (cond q (test_step m (m.row + 1)) (Some (Committed (proof.Row m.row)))) (1 + test_rest (cond q (test_next m (m.row + 1)) m) ≤ m.me.geometry.clients - m.row + 0) (λ a. 0 ≤ m.me.geometry.clients - m.row + 0)
    go true = next_pays m (m.row + 1) (m.me.geometry.clients - m.row) (λ l. let u = row_least m.me.who (m.row + 1) in omega arith)
    go false = omega arith

-- a commit test that works alone ends
pub test_ends : EndsAlone commit_test (calls_does word_control testing_plan) (calls_alone anything anything) (calls_left word_left test_rest) test_saved (CallsFits word_control testing_plan)
test_ends =
    bare_calls_end word_control testing_plan anything word_left word_saved test_rest test_saved
    (record {
      parts = λ m. word_ends (is_header m.point);
      begins = λ m w. tt;
      pays = λ m n. test_pays m m.point n;
    })
