-- a join that works alone ends: it is one word step: what is proved of it
use Rattle.std.proofs.Common.{arith}
use Rattle.shm_recover.specs.Join.{AsPart.join_does, JoinFits, join_control}
use Rattle.shm_alone.specs.{Alone.EndsAlone, GiveEnds.none_over, JoinEnds.{join_alone, join_left}}

-- a join that works alone ends
pub join_ends : EndsAlone join_control join_does join_alone join_left none_over JoinFits
join_ends m r0 tr w r f going s fit knows = record { loss = tt; alone = tt; paid = omega arith }
