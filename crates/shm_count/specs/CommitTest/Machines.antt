-- the control of a commit test
use Rattle.shm_graph.specs.Laws.{Control}
use Rattle.plans.specs.{declared.{calls.Calls.Calls, word.Word.Word}, CallsControl.calls_control, Words.word_control}
use Rattle.shm_count.specs.declared.commit_test.{Commit.Commit, TestingState.TestingState}
use Rattle.shm_count.specs.CommitTest.Control.{testing_steered}

abbrev pub commit_test : Control (Calls TestingState Word) Commit
commit_test = calls_control word_control testing_steered
