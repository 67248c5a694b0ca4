use Rattle.shm_ref.specs.Proved.ReadParts.{reached_room}
use Rattle.shm_ref.proofs.reading.reach_lies.Goals as goal

pub returns : goal.returns
returns c me b r l held reach = reached_room me b r l held reach
