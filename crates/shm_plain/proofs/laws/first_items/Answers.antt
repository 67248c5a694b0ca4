use Rattle.shm_plain.proofs.Lanes.{known_first, one_first, taken_first}
use Rattle.shm_plain.proofs.laws.first_items.Goals as goal

pub returns-clause-known : goal.returns-clause-known
returns-clause-known c p run s d k b ls ld other known = known_first p s d run ls ld other k b known

pub returns-clause-received : goal.returns-clause-received
returns-clause-received c p q run s d b ls ld other same taken = taken_first p q s d b run ls ld other same taken

pub returns-clause-one : goal.returns-clause-one
returns-clause-one c p s d b e x y = one_first p s d b e x y
