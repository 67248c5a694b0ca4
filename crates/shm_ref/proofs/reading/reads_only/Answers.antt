use Rattle.shm_ref.specs.{HomeOf.finding, Look.looking, Proved.OnlyRead.{home_reads, look_reads, read_reads}}
use Rattle.shm_ref.specs.Read.{reading}
use Rattle.shm_ref.proofs.reading.reads_only.Goals as goal

pub returns-clause-home : goal.returns-clause-home
returns-clause-home c me a r0 r ts es b h = home_reads (finding me a) r0 r ts es b h

pub returns-clause-look : goal.returns-clause-look
returns-clause-look c me b k r0 r ts es a h = look_reads (looking me b k) r0 r ts es a h

pub returns-clause-read : goal.returns-clause-read
returns-clause-read c me b k r0 r ts es a h = read_reads (reading me b k) r0 r ts es a h
