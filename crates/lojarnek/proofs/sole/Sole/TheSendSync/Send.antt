use denote.RattleType.{RattleType}
use denote.Param.Send.{IsSend}
use Rattle.lojarnek.proofs.Alone.{sole_send}
use Rattle.lojarnek.specs.contracts.sole.Sole.{the_row}

pub send : (T : RattleType) → IsSend T → IsSend (the_row T)
send = sole_send
