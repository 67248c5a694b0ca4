use Rattle.std.proofs.Common.{ℕ, ◌+◌, ◌<◌, ◌≤◌}
use Rattle.shm_graph.specs.{declared.spot.Spot.TheVariants.Era, Agents.steps_made, Views.own_word}
use Rattle.shm_graph.proofs.Runs.EraRises.{first_was_held, memo_bounds}
use Rattle.shm_plain.specs.{Calls.state_of, Pools.{Pool, IsRun, memo_of}}
use Rattle.shm_plain.proofs.laws.own_eras_of_runs.Goals as goal

bounds : (p : Pool) → IsRun p → (c : ℕ) → c < p.start.geometry.clients → let n = own_word (memo_of p c).own (Era c c) in (p.start.first_era ≤ n) × (n ≤ p.start.first_era + steps_made (memo_of p c))
bounds p run = memo_bounds p.start p.turns (state_of p) (first_was_held p.start p.turns (state_of p) run.held run.leads) run.leads

pub returns-clause-least : goal.returns-clause-least
returns-clause-least c p run d l = (bounds p run d l).0

pub returns-clause-most : goal.returns-clause-most
returns-clause-most c p run d l = (bounds p run d l).1
