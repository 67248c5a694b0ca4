use Rattle.std.proofs.Common.{◌≡◌, Option, Some, sym, ap, ◌∙◌, subst}
use Rattle.shm_async.specs.{declared.recovery.Over.Over, Rescued.{HasMade, HasRescued, Rescue, rescue_of}}
use Rattle.shm_async.proofs.Recovering.{rescued_over}
use Rattle.shm_async.proofs.recovery.RecoveryFuture.advance.Goals as goal

pub returns-in-Some : goal.returns-in-Some
returns-in-Some c =
    let p = c.self.inside.pool.now in
    let q = c.self.inside.q in
    let u = c.in_ok-rescuer.rescuer in
    let v = c.step_some.new.rescuer in
    let before = c.self.inside.life in
    let left = c.step_some.new.life in
    let rescuer : c.self.inside.rescuer ≡ Some u = (let a = c.take.ensures.value in let b = c.in_ok-rescuer.was in cc) in
    let made : HasMade q p u before (Some c.in-Some.over) v left = subst (λ (o : Option Over). HasMade q p u before o v left) c.in-Some.is c.step_some.ensures in
    subst (λ (f : Rescue). HasRescued f (Some c.end.result) (rescue_of p q left c.take.new.self)) (ap (rescue_of p q before) (sym rescuer) ∙ c.self.view_is)
    (rescued_over p q u v before left c.in-Some.over c.end.result c.take.new.self made c.end.ensures c.take.ensures.after)
