use Rattle.kind_parts.proofs.{RaiseBlock.block_raised, LowerBlock.block_lowered, ChangeRaised.change_raised}
use Rattle.kind_parts.proofs.ChangeLowered.{change_lowered}
use Rattle.kind_parts.proofs.exchanging.header_exchanges.Goals as goal

pub returns : goal.returns
returns c = record {
  up = λ me w r f tr at b e from to p s going i found a q. block_raised me w r f tr at b e from to p s found a q going i;
  down = λ me w r f tr at b e n from to p s going i found a q. block_lowered me w r f tr at b e n from to p s found a q going i;
  first = λ me w r f tr at x b e from to p s going i found a q. change_raised me w r f tr at x b e from to p s found a q going i;
  second = λ me w r f tr at x b e n from to p s going i found a. change_lowered me w r f tr at x b e n from to p s found a going i;
}
