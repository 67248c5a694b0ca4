use Rattle.kind_laws.proofs.{RootStore.root_kept, BodyStore.body_kept, PageClass.class_kept, Latches.back_kept}
use Rattle.kind_laws.proofs.FreeBlock.{free_kept}
use Rattle.kind_laws.proofs.laws.shared_stores_kept.Goals as goal

pub returns-clause-root : goal.returns-clause-root
returns-clause-root c = root_kept

pub returns-clause-body : goal.returns-clause-body
returns-clause-body c = body_kept

pub returns-clause-class : goal.returns-clause-class
returns-clause-class c = class_kept

pub returns-clause-latch : goal.returns-clause-latch
returns-clause-latch c = back_kept

pub returns-clause-free : goal.returns-clause-free
returns-clause-free c = free_kept
