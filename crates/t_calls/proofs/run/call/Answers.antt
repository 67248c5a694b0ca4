use Rattle.std.proofs.Common.{subst}
use Rattle.t_calls.specs.Known.{After}
use Rattle.t_calls.proofs.Stands.{stand_after}
use Rattle.t_calls.proofs.run.call.Goals as goal

pub returns : goal.returns
returns c =
    let r = c.args.run.now in
    let q = c.call.new.pool in
    let who = c.in_ok-who.who in
    let known = c.in_ok-known.known in
    let after : After who r.pool q known = subst (λ w. After w r.pool q known) c.in_ok-client.ensures.0 c.in_ok-known.ensures in
    rw c.place.ensures.first (rw c.place.ensures.second (rw c.stood.ensures (stand_after r.first r.second who r.pool q known c.requires.stand after)))
