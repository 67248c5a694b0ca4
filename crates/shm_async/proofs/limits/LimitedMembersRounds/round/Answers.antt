use Rattle.std.proofs.{Common.{◌≡◌, ℕ, ◌-◌, length, sym, ap, ◌∙◌, subst}, lemmas.List.with_items_is}
use Rattle.std.specs.Vec.{with_items}
use Rattle.shm_pool.specs.Tokens.{Its}
use Rattle.shm_async.specs.LimitedMembers.{AreLimitedHere}
use Rattle.shm_async.proofs.limits.LimitedMembersRounds.round.Goals as goal

pub poll_each-more-requires-clause-turns : goal.poll_each-more-requires-clause-turns
poll_each-more-requires-clause-turns g c = let (w, h) = c.requires in h.quota

pub poll_each-more-requires-clause-here : goal.poll_each-more-requires-clause-here
poll_each-more-requires-clause-here g c =
    let (w, h) = c.requires in
    let t = w.trace.now in
    let x = c.args.self.now in
    (t, w.turns, subst (AreLimitedHere t x.pool.now w.turns x.left) (sym c.deref_mut.ensures.value) (subst (λ (z : Its). AreLimitedHere t z w.turns x.left x.members.items) (sym h.pool) h.here))

pub returns : goal.returns
returns g c = λ w h.
    let t = w.trace.now in
    let p = w.pool.now in
    let n = w.turns in
    let x = c.args.self.now in
    let polled = c.poll_each-more.new.members in
    let many : length polled ≡ x.members.len = c.poll_each-more.auto.members ∙ (ap length c.deref_mut.ensures.value ∙ sym x.members.ok.0) in
    let is : (with_items x.members polled).items ≡ polled = with_items_is x.members polled many in
    let here : AreLimitedHere t x.pool.now n x.left x.members.items = subst (λ (z : Its). AreLimitedHere t z n x.left x.members.items) (sym h.pool) h.here in
    let next : AreLimitedHere t x.pool.now n (x.left - 1) polled = c.poll_each-more.ensures t n (subst (AreLimitedHere t x.pool.now n x.left) (sym c.deref_mut.ensures.value) here) in
    record {
      pool = h.pool;
      quota = h.quota;
      many = ap length is ∙ (c.poll_each-more.auto.members ∙ (ap length c.deref_mut.ensures.value ∙ h.many));
      here =
          subst (AreLimitedHere t p n c.saturating_sub-self.result) (sym is)
          (subst (λ (z : ℕ). AreLimitedHere t p n z polled) (sym c.saturating_sub-self.ensures)
          (subst (λ (z : Its). AreLimitedHere t z n (x.left - 1) polled) h.pool next));
    }
