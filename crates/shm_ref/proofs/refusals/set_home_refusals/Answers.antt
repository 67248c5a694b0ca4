use Rattle.shm_ref.specs.SetHome.{homing}
use Rattle.shm_ref.proofs.FullCounts.{home_reads_count}
use Rattle.shm_ref.proofs.refusals.set_home_refusals.Goals as goal

pub returns-clause-set : goal.returns-clause-set
returns-clause-set c me b x r0 r tr es g = let s = g.stays in (s.0, s.1, s.2, g.none)

pub returns-clause-spent : goal.returns-clause-spent
returns-clause-spent c me b e r0 r tr es g = let s = g.stays in (s.0, s.2.0, s.2.1, s.1, g.none)

pub returns-clause-full : goal.returns-clause-full
returns-clause-full c me b d n r0 r tr es g = let s = g.stays in (s.0, s.2.1, s.2.0, s.1, g.none)

pub returns-clause-read : goal.returns-clause-read
returns-clause-read c me b d n tr h = home_reads_count (homing me b) d n tr h
