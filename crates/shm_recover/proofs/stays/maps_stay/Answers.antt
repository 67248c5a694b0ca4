use Rattle.shm_recover.proofs.Steady.{leave_steady, recover_steady}
use Rattle.shm_recover.proofs.stays.maps_stay.Goals as goal

pub returns-clause-recover : goal.returns-clause-recover
returns-clause-recover c m r0 r tr going fit = recover_steady m r0 r tr going fit

pub returns-clause-leave : goal.returns-clause-leave
returns-clause-leave c m r0 r tr going fit = leave_steady m r0 r tr going fit
