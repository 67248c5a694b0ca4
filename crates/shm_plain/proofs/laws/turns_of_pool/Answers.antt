use Rattle.std.proofs.Common.{◌≡◌, List, ◌∷◌, ◌++◌, subst}
use Rattle.shm_graph.specs.declared.run.Move.{Move, TheVariants.Word}
use Rattle.shm_graph.specs.Runs.{IsMove, Leads, State, Turned, first_state, moved}
use Rattle.shm_graph.proofs.{States.HeldSound.held_state_sound, Runs.Running.Leads-split}
use Rattle.shm_plain.specs.{Calls.state_of, Pools.{Pool, IsRun}}
use Rattle.shm_plain.proofs.laws.turns_of_pool.Goals as goal

-- where a turn was taken
at_turn : (p : Pool) (before after : List Move) (m : Move) → IsRun p → p.turns ≡ before ++ m ∷ after → (s : State) × Leads p.start.geometry (first_state p.start) before s × IsMove s m × Turned p.start.geometry s m
at_turn p before after m run e =
    let g = p.start.geometry in
    let x = Leads-split g (first_state p.start) before (m ∷ after) (state_of p) (subst (λ (ms : List Move). Leads g (first_state p.start) ms (state_of p)) e run.leads) in
    (x.0, x.1, x.2.0, x.2.1)

pub returns-clause-now : goal.returns-clause-now
returns-clause-now c = let p = c.args.pool.now in held_state_sound p.start.geometry p.words p.accounts c.geometry.ensures.run.held

pub returns-clause-states : goal.returns-clause-states
returns-clause-states c before after m e =
    let p = c.args.pool.now in
    let x = at_turn p before after m c.geometry.ensures.run e in
    (x.0, x.1, x.2, held_state_sound p.start.geometry (moved x.0 m).words (moved x.0 m).accounts x.3.held)

pub returns-clause-events : goal.returns-clause-events
returns-clause-events c before after t e =
    let p = c.args.pool.now in
    let x = at_turn p before after (Word t) c.geometry.ensures.run e in
    (x.0, x.1, x.3.event.one_event.event)
