use Rattle.std.proofs.Common.{sym, subst}
use Rattle.shm_team.specs.Dones.{IsDone}
use Rattle.shm_async.specs.Members.{MemberAtWork, IsMember}
use Rattle.shm_async.proofs.Gathering.{given_done, site_left}
use Rattle.shm_async.proofs.members.Member.done.Goals as goal

pub returns-in-Finished : goal.returns-in-Finished
returns-in-Finished g c = λ t p k h. subst (IsMember t p k) c.in-Finished.is h

pub run_out-requires : goal.run_out-requires
run_out-requires g c =
    let (t, p, k, h) = c.requires in
    let w : MemberAtWork t p k c.in-Works.future = subst (IsMember t p k) c.in-Works.is h in
    site_left c.in-Works.future.site w.site w.is

pub returns-in-Works : goal.returns-in-Works
returns-in-Works g c = λ t p k h.
    let w : MemberAtWork t p k c.in-Works.future = subst (IsMember t p k) c.in-Works.is h in
    subst (IsDone t p k) (sym c.done_of.ensures) (given_done t p k c.in-Works.future c.run_out.result w c.run_out.ensures)
