use Rattle.lojarnek.proofs.{Parts.has_recovered, Stops.still_there}
use Rattle.lojarnek.proofs.corpse.Corpse.recover_within.Goals as goal

pub returns-in-Ok-clause-ok : goal.returns-in-Ok-clause-ok
returns-in-Ok-clause-ok c = rw (c.at.ensures, ← c.self.view_is) (has_recovered c.self.inside.token c.in-Ok.vacant _ _ c.in-Ok.ensures.recovered)

pub returns-in-Err-clause-err : goal.returns-in-Err-clause-err
returns-in-Err-clause-err c =
    let h = still_there c.self.inside.token c.client.ensures.stood _ _ c.in-Err.stopped.cause c.in-Err.stopped.corpse c.in-Err.ensures.stopped (λ none. (c.in-Err.ensures.unbegun none).1.1) in
    rw (c.at-in-Err.ensures, ← c.self.view_is) (record { of = h.0; who = h.1; map = h.2; why = c.stop_error.ensures })
