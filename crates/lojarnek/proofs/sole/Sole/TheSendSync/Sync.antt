use denote.RattleType.{RattleType}
use denote.Param.Send.{IsSend, IsSync, part_keyless}
use Rattle.lojarnek.proofs.Alone.{sole_send}
use Rattle.lojarnek.specs.contracts.sole.Sole.{the_row}

pub sync : (T : RattleType) → IsSend T → IsSync (the_row T)
sync T s = record { shared = λ d b o ν q. part_keyless (the_row T) (sole_send T s) q d b o }
