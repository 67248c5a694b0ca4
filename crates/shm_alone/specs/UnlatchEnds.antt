-- giving a latch back, as a recoverer that works alone does, ends: how many word steps come behind one, and that each is paid for
use Rattle.std.proofs.Common.{ℕ}
use Rattle.shm_graph.specs.declared.spot.Spot.{Spot}
use Rattle.plans.specs.declared.{calls.Calls.Calls, word.Word.Word}
use Rattle.shm_recover.specs.declared.mend_unlatch.MendUnlatchPoint.{MendUnlatchPoint}
use Rattle.shm_recover.specs.declared.mend_unlatch.MendUnlatchPoint.TheVariants.{Whose, Look, Give, Back}
use Rattle.shm_recover.specs.declared.mend_unlatch.MendUnlatchState.{MendUnlatchState}
use Rattle.shm_alone.specs.Lifting.{anything, calls_alone, calls_left, word_left}

-- how many word steps come behind the one at a point at most
abbrev pub unlatch_rest_at : MendUnlatchPoint → ℕ
unlatch_rest_at Whose = 3
unlatch_rest_at Look = 2
unlatch_rest_at Give = 1
unlatch_rest_at Back = 0

abbrev pub unlatch_rest : MendUnlatchState → ℕ
unlatch_rest m = unlatch_rest_at m.point

-- what it knows of the words, and how many word steps it has left
abbrev pub unlatch_alone : Calls MendUnlatchState Word → (Spot → ℕ) → Type 0
unlatch_alone = calls_alone anything anything

abbrev pub unlatch_left : Calls MendUnlatchState Word → ℕ
unlatch_left = calls_left word_left unlatch_rest
