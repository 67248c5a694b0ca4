-- the own era of an identity
use Rattle.std.proofs.Common.{ℕ, ◌+◌, ◌<◌, ◌≤◌, subst}
use Rattle.shm_graph.specs.{declared.{run.{Account.Account, Start.Start}, spot.Spot.TheVariants.Era}, Agents.steps_made}
use Rattle.shm_graph.specs.{Runs.{Stood, state}, Views.own_word}
use Rattle.shm_graph.proofs.Runs.EraRises.{first_was_held, memo_bounds}

-- it is at most the first era and the word steps of its agents
pub own_most : (s : Start) (e : Account) → Stood s e → own_word e.memo.own (Era e.who e.who) ≤ s.first_era + steps_made e.memo
own_most s e x =
    let l : e.who < s.geometry.clients = subst (λ (n : ℕ). e.who < n) x.held.accounts x.here.0 in
    subst (λ (a : Account). own_word a.memo.own (Era e.who e.who) ≤ s.first_era + steps_made a.memo) x.here.1
    (memo_bounds s x.turns (state x.words x.accounts) (first_was_held s x.turns (state x.words x.accounts) x.held x.leads) x.leads e.who l).1
