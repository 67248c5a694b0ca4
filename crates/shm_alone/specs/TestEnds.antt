-- a commit test that works alone ends: it loads the header, and at most one word of each row
use Rattle.std.proofs.Common.{ℕ, ◌+◌, ◌-◌}
use Rattle.shm_graph.specs.declared.ask.Me.{Me}
use Rattle.shm_count.specs.declared.commit_test.{Commit.Commit, TestingPoint.{TestingPoint, TheVariants.{Header, Row}}}
use Rattle.shm_count.specs.declared.commit_test.TestingState.{TestingState}

-- ---- what is left

-- how many loads may come after the one at a point: those of the rows from there on
abbrev pub rows_left : Me → ℕ → TestingPoint → ℕ
rows_left me k Header = me.geometry.clients + 1
rows_left me k Row = me.geometry.clients - k

abbrev pub test_rest : TestingState → ℕ
test_rest m = rows_left m.me m.row m.point

-- a test that has answered has nothing over
abbrev pub test_saved : Commit → ℕ
test_saved a = 0
