use Rattle.shm_table.specs.Proved.Get.Tells.{named_maps, ready_maps, ready_told}
use Rattle.shm_table.proofs.reading.get_tells.Goals as goal

pub returns-clause-missing : goal.returns-clause-missing
returns-clause-missing c me a key r0 r tr es q h = h.absent q

pub returns-clause-found : goal.returns-clause-found
returns-clause-found c me a key r0 r tr es n v q h = h.has q

pub returns-clause-named : goal.returns-clause-named
returns-clause-named c m r0 r tr fit named w rs held same = named_maps m r0 r tr fit named w rs held same

pub returns-clause-told : goal.returns-clause-told
returns-clause-told c m r0 r tr fit ready = (ready_told m r0 r tr fit ready).1

pub returns-clause-map : goal.returns-clause-map
returns-clause-map c m r0 r tr fit ready w rs held same = ready_maps m r0 r tr fit ready w rs held same
