use Rattle.std.proofs.Common.{ap, arith}
use Rattle.shm_words.specs.declared.geometry.Geometry.{Geometry}
use Rattle.shm_client.proofs.QueueReady.{one_not_zero}
use Rattle.t_calls.proofs.tables.closed.Goals as goal

pub goes-requires-then-clients-eq2 : goal.goes-requires-then-clients-eq2
goes-requires-then-clients-eq2 c =
    let same = ap (λ (z : Geometry). z.clients) c.geometry-geometry.ensures.is in
    record { one = c.in_ok-goes.ensures.others 1 one_not_zero (c.requires.all 1 (omega (arith, same))) }
