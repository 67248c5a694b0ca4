use Rattle.shm_ref.specs.{Proved.OnlyRead.read_reads, Read.reading}
use Rattle.shm_ref.proofs.ReadKeeps.{read_loose, read_stays}
use Rattle.shm_ref.proofs.keeping.read_keeps.Goals as goal

pub returns-clause-reads : goal.returns-clause-reads
returns-clause-reads c me b k r0 r tr es a h = read_reads (reading me b k) r0 r tr es a h

pub returns-clause-stays : goal.returns-clause-stays
returns-clause-stays c me b k r0 r tr es a h d reach = read_stays (reading me b k) r0 r tr es a h d reach

pub returns-clause-loose : goal.returns-clause-loose
returns-clause-loose c me b k r0 r tr es a h = read_loose (reading me b k) r0 r tr es a h
