use Rattle.std.proofs.Common.{sym, subst}
use Rattle.shm_team.specs.Dones.{IsDone}
use Rattle.shm_async.proofs.{Gathering.{given_done, still_working}, Giving.may_give}
use Rattle.shm_async.proofs.members.turned.Goals as goal

pub returns-in-None : goal.returns-in-None
returns-in-None g c = λ t p k h. still_working t p k c.args.future c.advance.new.self h c.in-None.ensures

pub returns : goal.returns
returns g c = λ t p k h.
    let gave = may_give c.args.future c.advance.new.self c.in-Some.finish c.in-Some.ensures in
    subst (IsDone t p k) (sym c.done_of.ensures) (given_done t p k c.args.future c.in-Some.finish h gave)
