-- segments that are given up, working alone: how many word steps come behind one, and that each is paid for
use Rattle.std.proofs.Common.{ℕ, ◌*◌, ◌-◌}
use Rattle.shm_graph.specs.declared.spot.Spot.{Spot}
use Rattle.plans.specs.declared.{calls.Calls.Calls, word.Word.Word}
use Rattle.shm_recover.specs.declared.give_up.GivePoint.{GivePoint, TheVariants.{Look, Give, Status}}
use Rattle.shm_recover.specs.declared.give_up.GiveState.{GiveState}
use Rattle.shm_alone.specs.Lifting.{anything, calls_alone, calls_left, word_left}

-- an answer has no word step over
abbrev pub none_over : {A : Type 0} → A → ℕ
none_over a = 0

-- how many word steps come behind the one at a point at most: two for each segment
abbrev pub give_rest_at : GiveState → GivePoint → ℕ
give_rest_at m Look = 2 * (m.me.geometry.segments - m.segment)
give_rest_at m Give = 2 * (m.me.geometry.segments - m.segment) - 1
give_rest_at m Status = 0

abbrev pub give_rest : GiveState → ℕ
give_rest m = give_rest_at m m.point

-- what it knows of the words, and how many word steps it has left
abbrev pub give_alone : Calls GiveState Word → (Spot → ℕ) → Type 0
give_alone = calls_alone anything anything

abbrev pub give_left : Calls GiveState Word → ℕ
give_left = calls_left word_left give_rest
