use Rattle.kind_laws.proofs.{PrepareStore.{prepare_kept, prepare_quiet}, LinkStore.{link_kept, link_quiet}}
use Rattle.kind_laws.proofs.laws.block_stores_kept.Goals as goal

pub returns-clause-prepare : goal.returns-clause-prepare
returns-clause-prepare c = prepare_kept

pub returns-clause-link : goal.returns-clause-link
returns-clause-link c = link_kept

pub returns-clause-prepare_quiet : goal.returns-clause-prepare_quiet
returns-clause-prepare_quiet c = prepare_quiet

pub returns-clause-link_quiet : goal.returns-clause-link_quiet
returns-clause-link_quiet c = link_quiet
