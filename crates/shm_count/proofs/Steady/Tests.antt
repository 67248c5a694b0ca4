-- a commit test leaves the map of the table as it was, at each point on its way
use Rattle.std.proofs.Common.{ap, List}
use Rattle.shm_graph.specs.{declared.memo.Memo.Memo, Asks.Trail, Events.Event}
use Rattle.plans.specs.{CallsControl.calls_control, CallsPart.calls_part, Words.word_control}
use Rattle.shm_count.specs.declared.commit_test.TestingPoint.{TestingPoint, TheVariants.{Header, Row}}
use Rattle.shm_count.specs.declared.commit_test.TestingState.{TestingState}
use Rattle.shm_count.specs.CommitTest.Control.{is_header, test_ask, testing_steered}
use Rattle.shm_count.specs.{CommitTest.{TestFound, TestKnows, testing_plan}, Steady.{IsSteady, SameMap}}
use Rattle.shm_count.proofs.Steady.{calls_steady, table_of, word_steady}

known : (m : TestingState) (y : TestingPoint) (r0 r : Memo) (tr : Trail) (es : List Event) → TestKnows m y r0 r tr es → SameMap r0 r
known m Header r0 r tr es (may, same, none, quiet) = table_of r0 r (ap (λ (x : Memo). x.part) same)
known m Row r0 r tr es h = table_of r0 r (ap (λ (x : Memo). x.part) h.same)

pub test_steady : IsSteady (calls_control word_control testing_steered) (calls_part word_control testing_plan)
test_steady = calls_steady word_control testing_plan (λ m. known m m.point) (λ m. word_steady (is_header m.point) m.me (test_ask m.me m.block m.row m.point) (TestFound m m.point))
