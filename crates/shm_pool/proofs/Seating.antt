-- a seat that answers for one identity after a call
use Rattle.std.proofs.Common.{◌≡◌, ℕ, List, sym, ◌∙◌}
use Rattle.atomic_table.specs.declared.shared.Seat.{Seat}
use Rattle.shm_graph.specs.{declared.run.{Account.Account, Start.Start}, Runs.Stood}
use Rattle.shm_pool.specs.{Rules.{IsAlone, alone}, Tokens.IsSeated}

-- it is still the seat of that identity
pub seated_on : (start : Start) (c : ℕ) (s s' : Seat (Unit {0}) (List Account)) → IsSeated start c s → IsAlone s' → (alone s').who ≡ (alone s).who → Stood start (alone s') → IsSeated start c s'
seated_on start c s s' i one same stood = record { is_alone = one; who = i.who ∙ sym same; below = i.below; fits = i.fits; stood = stood }
