-- the turns that lead to a pool
use Rattle.std.proofs.Common.{◌≡◌, List, ◌∷◌, ◌++◌, subst}
use Rattle.shm_graph.specs.declared.{memo.Step.Step, run.Move.{Move, TheVariants.Word}}
use Rattle.shm_graph.specs.Runs.{IsMove, Leads, State, Turned, first_state, moved}
use Rattle.shm_graph.proofs.{States.HeldSound.held_state_sound, Runs.{EraRises.first_was_held, Running.Leads-split}}
use Rattle.shm_plain.specs.{Calls.state_of, Pools.{Pool, IsRun}}
use Rattle.shm_program.specs.Runs.{IsOneEvent, IsSoundState, IsSoundTurn}

module _ (p : Pool) (run : IsRun p) where
  -- where a turn was taken
  at_turn : (before after : List Move) (m : Move) → p.turns ≡ before ++ m ∷ after → (s : State) × Leads p.start.geometry (first_state p.start) before s × IsMove s m × Turned p.start.geometry s m
  at_turn before after m e =
      let g = p.start.geometry in
      let x = Leads-split g (first_state p.start) before (m ∷ after) (state_of p) (subst (λ (ms : List Move). Leads g (first_state p.start) ms (state_of p)) e run.leads) in
      (x.0, x.1, x.2.0, x.2.1)

  pub first_sound : IsSoundState p (first_state p.start)
  first_sound = let s = first_state p.start in held_state_sound p.start.geometry s.words s.accounts (first_was_held p.start p.turns (state_of p) run.held run.leads)

  pub turn_sound : (before after : List Move) (m : Move) → p.turns ≡ before ++ m ∷ after → IsSoundTurn p before m
  turn_sound before after m e =
      let x = at_turn before after m e in
      record { state = x.0; leads = x.1; may = x.2; sound = held_state_sound p.start.geometry (moved x.0 m).words (moved x.0 m).accounts x.3.held }

  pub word_event : (before after : List Move) (t : Step) → p.turns ≡ before ++ Word t ∷ after → IsOneEvent p before t
  word_event before after t e =
      let x = at_turn before after (Word t) e in
      record { state = x.0; leads = x.1; event = x.3.event.one_event.event }
