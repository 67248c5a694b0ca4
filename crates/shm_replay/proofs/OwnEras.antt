-- the own era of an identity
use Rattle.std.proofs.Common.{◌≡◌, ℕ, ◌+◌, ◌-◌, ◌^◌, ◌<◌, ◌≤◌, arith}
use Rattle.shm_graph.specs.{declared.spot.Spot.TheVariants.Era, Agents.steps_made, Views.own_word}
use Rattle.shm_graph.proofs.Runs.EraRises.{first_was_held, memo_bounds}
use Rattle.shm_plain.specs.{Calls.state_of, Pools.{IsRun, Pool, memo_of}}

-- it is at most the first era and the word steps of its agents
pub own_most : (p : Pool) → IsRun p → (c : ℕ) → c < p.start.geometry.clients → own_word (memo_of p c).own (Era c c) ≤ p.start.first_era + steps_made (memo_of p c)
own_most p run c l = (memo_bounds p.start p.turns (state_of p) (first_was_held p.start p.turns (state_of p) run.held run.leads) run.leads c l).1

-- so it never comes to where no step has room
pub never_spent : (p : Pool) (c e : ℕ) → IsRun p → c < p.start.geometry.clients → p.start.first_era ≡ 1 → steps_made (memo_of p c) ≤ 2 ^ 43 → 2 ^ 47 - 4 < e → e ≤ own_word (memo_of p c).own (Era c c) → ⊥
never_spent p c e run l era few spent most = let h = own_most p run c l in omega arith
