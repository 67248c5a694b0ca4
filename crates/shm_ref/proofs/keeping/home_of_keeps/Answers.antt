use Rattle.shm_ref.specs.{HomeOf.finding, Proved.OnlyRead.home_reads}
use Rattle.shm_ref.proofs.ReadKeeps.{home_of_loose, home_of_other, home_of_reached, home_of_stays}
use Rattle.shm_ref.proofs.keeping.home_of_keeps.Goals as goal

pub returns-clause-reached : goal.returns-clause-reached
returns-clause-reached c me a r0 r tr es b h = home_of_reached (finding me a) r0 r tr es b h

pub returns-clause-other : goal.returns-clause-other
returns-clause-other c me a r0 r tr es b h idle = home_of_other (finding me a) r0 r tr es b h idle

pub returns-clause-reads : goal.returns-clause-reads
returns-clause-reads c me a r0 r tr es b h = home_reads (finding me a) r0 r tr es b h

pub returns-clause-stays : goal.returns-clause-stays
returns-clause-stays c me a r0 r tr es b h d reach = home_of_stays (finding me a) r0 r tr es b h d reach

pub returns-clause-loose : goal.returns-clause-loose
returns-clause-loose c me a r0 r tr es b h = home_of_loose (finding me a) r0 r tr es b h
