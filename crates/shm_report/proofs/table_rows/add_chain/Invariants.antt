use Rattle.std.proofs.Common.{List}
use Rattle.shm_graph.specs.declared.table.Entry.{Entry}
use Rattle.shm_report.specs.{PoolWords.IsCleanPool, TableRows.IsChainAt}
use Rattle.shm_report.proofs.ChainReading.{Walks}
use Rattle.shm_report.proofs.table_rows.add_chain.Given as goal

abbrev pub invariant-loop : goal.invariant-loop
invariant-loop l = (es : List Entry) (pool : IsCleanPool l.geometry l.words) (chain : IsChainAt l.geometry l.words l.first es) → Walks l.geometry l.words chain.client chain.bucket es l.at l.counter l.initial.entries.entries l.entries.entries
