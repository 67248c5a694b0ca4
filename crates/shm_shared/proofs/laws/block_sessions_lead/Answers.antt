use Rattle.std.proofs.Common.{true}
use Rattle.shm_singles.specs.Singles.{singles}
use Rattle.shm_sessions.proofs.Running.{goes, leads}
use Rattle.shm_shared.proofs.{Between.IsBetween, BlockWays.IsBlocked}
use Rattle.shm_shared.proofs.BlocksKept.{BlocksFit, BlocksGive, block_laws, blocks_kept, first_blocked}
use Rattle.shm_shared.proofs.laws.block_sessions_lead.Goals as goal

pub returns-clause-leads : goal.returns-clause-leads
returns-clause-leads c s fit era made = leads singles BlocksFit BlocksGive IsBlocked (IsBetween true) blocks_kept block_laws s fit era (first_blocked s made)

pub returns-clause-goes : goal.returns-clause-goes
returns-clause-goes c s fit era made = goes singles BlocksFit BlocksGive IsBlocked (IsBetween true) blocks_kept block_laws s fit era (first_blocked s made)
