use Rattle.std.proofs.{Common.{◌≡◌, length, sym, ap, ◌∙◌, subst}, lemmas.List.with_items_is}
use Rattle.std.specs.Vec.{with_items}
use Rattle.shm_async.specs.Members.{AreMembers}
use Rattle.shm_async.proofs.polls.MembersRounds.round.Goals as goal

pub returns : goal.returns
returns g c = λ w fit.
    let v = c.args.self.now.members in
    let polled = c.poll_each.new.members in
    let many : length polled ≡ v.len = c.poll_each.auto.members ∙ (ap length c.deref_mut.ensures.value ∙ sym v.ok.0) in
    let is : (with_items v polled).items ≡ polled = with_items_is v polled many in
    subst (AreMembers w.trace.now w.pool.now) (sym is)
    (c.poll_each.ensures w.trace.now w.pool.now (subst (AreMembers w.trace.now w.pool.now) (sym c.deref_mut.ensures.value) fit))
