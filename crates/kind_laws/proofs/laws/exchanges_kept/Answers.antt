use Rattle.kind_laws.proofs.{Latches.latch_kept, AllocBlock.alloc_kept, UpBlock.up_kept, LowerBlock.lower_kept}
use Rattle.kind_laws.proofs.{ChangeFirst.change_kept, SecondHalf.second_kept}
use Rattle.kind_laws.proofs.laws.exchanges_kept.Goals as goal

pub returns-clause-latch : goal.returns-clause-latch
returns-clause-latch c = latch_kept

pub returns-clause-alloc : goal.returns-clause-alloc
returns-clause-alloc c = alloc_kept

pub returns-clause-up : goal.returns-clause-up
returns-clause-up c = up_kept

pub returns-clause-down : goal.returns-clause-down
returns-clause-down c = lower_kept

pub returns-clause-first : goal.returns-clause-first
returns-clause-first c = change_kept

pub returns-clause-second : goal.returns-clause-second
returns-clause-second c = second_kept
