-- takes that are finished, working alone: how many word steps come behind one, and that they are paid for
use Rattle.std.proofs.Common.{ℕ, ◌*◌, ◌-◌}
use Rattle.shm_graph.specs.declared.spot.Spot.{Spot}
use Rattle.plans.specs.declared.{calls.Calls.Calls, word.Word.Word}
use Rattle.shm_recover.specs.declared.finish_takes.FinishPoint.{FinishPoint, TheVariants.{Head, Tail, Slot, Store}}
use Rattle.shm_recover.specs.{declared.finish_takes.FinishState.FinishState, FinishTakes.Control.passed}
use Rattle.shm_alone.specs.Lifting.{anything, calls_alone, calls_left, word_left}

-- how many word steps come behind the one at a point at most: four for each queue
abbrev pub finish_rest_at : FinishState → FinishPoint → ℕ
finish_rest_at m Head = 4 * (m.me.geometry.clients - m.passed)
finish_rest_at m Tail = 4 * (m.me.geometry.clients - m.passed) - 1
finish_rest_at m Slot = 4 * (m.me.geometry.clients - m.passed) - 2
finish_rest_at m Store = 4 * (m.me.geometry.clients - m.passed) - 3

abbrev pub finish_rest : FinishState → ℕ
finish_rest m = finish_rest_at m m.point

-- what it knows of the words, and how many word steps it has left
abbrev pub finish_alone : Calls FinishState Word → (Spot → ℕ) → Type 0
finish_alone = calls_alone anything anything

abbrev pub finish_left : Calls FinishState Word → ℕ
finish_left = calls_left word_left finish_rest
