use Rattle.std.proofs.Common.{Ok}
use Rattle.shm_alloc.specs.Alloc.{AsPart.AllocLeaves, Control.alloc_control, Events.alloc_event}
use Rattle.t_uses.proofs.Quiet.{alive_before, quiet_after}
use Rattle.t_uses.proofs.threads.make.Goals as goal

pub returns-in-Ok-Done-Ok-clause-root : goal.returns-in-Ok-Done-Ok-clause-root
returns-in-Ok-Done-Ok-clause-root c =
    let t = c.args.client.now in
    let u = c.alloc.new.self in
    let made = c.in-Ok-Done-Ok.made in
    let done = rw c.in-Ok-Done-Ok.field-0-is at c.in-Ok-Done-Ok.ensures.called in
    let h = rw c.in-Ok-Done-Ok.field-0-0-is at done in (
      c.alloc_gives.ensures.made 0 c.args.life.now.left c.alloc.new.life.left _ t u made h,
      quiet_after t u c.requires.quiet (alive_before alloc_control alloc_event AllocLeaves (λ m b. Unit {0}) h.machine t u _ _ (Ok made) h.done) h.rests
          (c.alloc_keeps.ensures.left h.machine t.account.memo u.account.memo _ _ (Ok made) h.done.left_so),
    )
