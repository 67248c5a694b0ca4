use Rattle.shm_table.specs.Proved.Find.Tells.{absent_tells, found_tells, has_read}
use Rattle.shm_table.proofs.reading.find_tells.Goals as goal

pub returns-clause-absent : goal.returns-clause-absent
returns-clause-absent c me a key r0 r tr es home first q h = absent_tells me a key home first r0 r tr es h q

pub returns-clause-found : goal.returns-clause-found
returns-clause-found c me a key r0 r tr es entry before word q h = found_tells me a key entry before word r0 r tr es h q

pub returns-clause-read : goal.returns-clause-read
returns-clause-read c me a key r0 r tr es entry before word h = has_read me a key entry before word r0 r tr es h
