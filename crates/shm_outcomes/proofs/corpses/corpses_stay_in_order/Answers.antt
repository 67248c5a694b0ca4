use Rattle.shm_outcomes.proofs.Ordering.{left_behind, left_in_order, taken_in_order}
use Rattle.shm_outcomes.proofs.corpses.corpses_stay_in_order.Goals as goal

pub returns-clause-taken : goal.returns-clause-taken
returns-clause-taken c = λ porters medics left h m at before between after x y is. taken_in_order porters medics left h m at before between after x y is

pub returns-clause-behind : goal.returns-clause-behind
returns-clause-behind c = λ porters medics left h m at x y here there. left_behind porters medics left h m at x y here there

pub returns-clause-left : goal.returns-clause-left
returns-clause-left c = λ porters medics left h m at before between after x y is. left_in_order porters medics left h m at before between after x y is
