use Rattle.shm_table.specs.Proved.Get.Tells.{located_absent, located_found, located_read}
use Rattle.shm_table.proofs.reading.locate_tells.Goals as goal

pub returns-clause-absent : goal.returns-clause-absent
returns-clause-absent c me a key r0 r tr es home first q h = located_absent me a key home first r0 r tr es q h

pub returns-clause-found : goal.returns-clause-found
returns-clause-found c me a key r0 r tr es entry before word q h = located_found me a key entry before word r0 r tr es q h

pub returns-clause-read : goal.returns-clause-read
returns-clause-read c me a key r0 r tr es entry before word h = located_read me a key entry before word r0 r tr es h
