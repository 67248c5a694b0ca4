use Rattle.kind_laws.proofs.{Loads.{header_kept, row_kept, header_quiet, row_quiet}, LookLoad.{look_kept, look_quiet}}
use Rattle.kind_laws.proofs.laws.loads_kept.Goals as goal

pub returns-clause-header : goal.returns-clause-header
returns-clause-header c = header_kept

pub returns-clause-row : goal.returns-clause-row
returns-clause-row c = row_kept

pub returns-clause-look : goal.returns-clause-look
returns-clause-look c = look_kept

pub returns-clause-header_quiet : goal.returns-clause-header_quiet
returns-clause-header_quiet c = header_quiet

pub returns-clause-row_quiet : goal.returns-clause-row_quiet
returns-clause-row_quiet c = row_quiet

pub returns-clause-look_quiet : goal.returns-clause-look_quiet
returns-clause-look_quiet c = look_quiet
