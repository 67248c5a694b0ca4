use Rattle.shm_graph.specs.Runs.{first_state}
use Rattle.shm_graph.proofs.States.{FirstHeld.first_held, HeldSound.held_state_sound}
use Rattle.shm_graph.proofs.Runs.Running.{Leads-held, Leads-split}
use Rattle.shm_graph.proofs.history.runs_are_sound.Goals as goal
use Rattle.std.proofs.Common.{◌∷◌}

pub returns-clause-sound : goal.returns-clause-sound
returns-clause-sound c s ms b f e run = held_state_sound s.geometry b.words b.accounts (Leads-held s.geometry (first_state s) ms b (first_held s f e) run)

pub returns-clause-taken : goal.returns-clause-taken
returns-clause-taken c g a ms m ns z h run =
    let x = Leads-split g a ms (m ∷ ns) z run in
    (x.0, x.1, record { held = Leads-held g a ms x.0 h x.1; is = x.2.0; turned = x.2.1 }, x.2.2)
