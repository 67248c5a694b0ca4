use Rattle.kind_parts.proofs.LatchBack.{latch_back}
use Rattle.kind_parts.proofs.unlatching.latch_given_back.Goals as goal

pub returns : goal.returns
returns c = record { back = latch_back }
