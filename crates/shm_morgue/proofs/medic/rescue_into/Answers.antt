use Rattle.std.proofs.Common.{◌<◌, length, ap, arith}
use Rattle.std.specs.Prelude.{Some, slice_set}
use Rattle.shm_pool.specs.Tokens.{Its}
use Rattle.shm_morgue.proofs.Slotting.{rescued_more}
use Rattle.shm_morgue.proofs.medic.rescue_into.Goals as goal

pub returns-clause-rescued : goal.returns-clause-rescued
returns-clause-rescued g c = λ xs h.
    let below = c.client-client.ensures.below in
    let who = c.client-client.ensures.is in
    let of = ap (λ (p : Its). p.start.geometry.clients) c.requires.of in
    let many = c.requires.many in
    let inside : c.args.taken.corpse.account.who < length c.args.slots.now = omega arith in
    rescued_more c.args.trace.now c.args.pool.now xs c.args.taken c.rescue.result c.args.slots.now _ inside (λ i. slice_set c.args.slots.now (who i) (Some c.rescue.result)) c.rescue.ensures h
