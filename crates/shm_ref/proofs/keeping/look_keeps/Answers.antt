use Rattle.shm_ref.specs.{Look.looking, Proved.OnlyRead.look_reads}
use Rattle.shm_ref.proofs.ReadKeeps.{look_loose, look_reached, look_stays}
use Rattle.shm_ref.proofs.keeping.look_keeps.Goals as goal

pub returns-clause-reached : goal.returns-clause-reached
returns-clause-reached c me b k r0 r tr es a h = look_reached (looking me b k) r0 r tr es a h

pub returns-clause-reads : goal.returns-clause-reads
returns-clause-reads c me b k r0 r tr es a h = look_reads (looking me b k) r0 r tr es a h

pub returns-clause-stays : goal.returns-clause-stays
returns-clause-stays c me b k r0 r tr es a h d reach = look_stays (looking me b k) r0 r tr es a h d reach

pub returns-clause-loose : goal.returns-clause-loose
returns-clause-loose c me b k r0 r tr es a h = look_loose (looking me b k) r0 r tr es a h
