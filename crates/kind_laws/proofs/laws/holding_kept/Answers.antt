use Rattle.kind_laws.proofs.{HoldStore.{hold_kept, hold_quiet}, SegmentClaim.{claim_kept, claim_quiet}}
use Rattle.kind_laws.proofs.SegmentBack.{segment_back_kept, segment_back_quiet}
use Rattle.kind_laws.proofs.laws.holding_kept.Goals as goal

pub returns-clause-hold : goal.returns-clause-hold
returns-clause-hold c = hold_kept

pub returns-clause-claim : goal.returns-clause-claim
returns-clause-claim c = claim_kept

pub returns-clause-give : goal.returns-clause-give
returns-clause-give c = segment_back_kept

pub returns-clause-hold_quiet : goal.returns-clause-hold_quiet
returns-clause-hold_quiet c = hold_quiet

pub returns-clause-claim_quiet : goal.returns-clause-claim_quiet
returns-clause-claim_quiet c = claim_quiet

pub returns-clause-give_quiet : goal.returns-clause-give_quiet
returns-clause-give_quiet c = segment_back_quiet
