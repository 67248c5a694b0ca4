use Rattle.std.proofs.Common.{◌≡◌, Option, Some, sym, ap, ◌∙◌, subst}
use Rattle.shm_async.specs.Polled.{AtPost, Course, IsPolled, course_of}
use Rattle.shm_async.proofs.Giving.{ready}
use Rattle.shm_async.proofs.identity.CourseFuture.advance.Goals as goal

pub returns : goal.returns
returns g c =
    let s = c.self.inside.script.now in
    let q = c.self.inside.q in
    let site : c.self.inside.site ≡ Some c.in_ok-site.site = (let a = c.take.ensures.value in let b = c.in_ok-site.was in cc) in
    subst (λ (f : Course). IsPolled f (Some c.finish_at.result) (course_of s q c.take.new.self)) (ap (λ (o : Option AtPost). course_of s q o) (sym site) ∙ c.self.view_is)
    (ready q s c.in_ok-site.site c.give.new.site c.take.new.self c.finish_at.result c.give.ensures (c.finish_at.ensures.finished s c.give.ensures.stand) c.finish_at.ensures.account c.take.ensures.after)
