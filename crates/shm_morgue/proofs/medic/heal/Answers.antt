use Rattle.std.proofs.Common.{List, length, sym, ap, ◌∙◌, subst}
use Rattle.std.specs.List.{Contains}
use Rattle.shm_pool.specs.Tokens.{Its}
use Rattle.shm_morgue.specs.{declared.rule.Taken.Taken, Slots.AreRescued}
use Rattle.shm_morgue.proofs.{Loops.take_front, Slotting.single}
use Rattle.shm_morgue.proofs.medic.heal.Goals as goal

pub rescue_into-requires-clause-of : goal.rescue_into-requires-clause-of
rescue_into-requires-clause-of g c =
    let x = c.in-Some-take.taken in
    single c.args.pool.now x.corpse.of (subst (λ (ps : List Its). Contains ps x.corpse.of) c.requires.pools c.in-Some-take.ensures.taken.1)

pub rescue_into-requires-clause-many : goal.rescue_into-requires-clause-many
rescue_into-requires-clause-many g c = ap length c.deref_mut.ensures.value ∙ c.loop-look.invariant.1.many

pub loop-look-preserved-in-Some-take : goal.loop-look-preserved-in-Some-take
loop-look-preserved-in-Some-take g c =
    let i = c.loop-look.invariant in
    let x = c.in-Some-take.taken in
    let t = c.args.trace.now in
    let p = c.args.pool.now in
    let e = c.rescue_into.ensures in
    let lent = c.deref_mut.ensures.value in
    let more = e.rescued c.loop-look.medic.entries (subst (AreRescued t p c.loop-look.medic.entries) (sym lent) i.1) in (
      c.in-Some-take.ensures.same ∙ i.0,
      subst (AreRescued t p c.take.new.self.entries) (sym (take_front c.rescue_into.new.slots _ c.loop-look.slots.len (c.loop-look.slots.ok.0 ∙ (ap length (sym lent) ∙ sym e.many))))
          (subst (λ (xs : List Taken). AreRescued t p xs c.rescue_into.new.slots) (sym c.in-Some-take.ensures.taken.0) more),
    )
