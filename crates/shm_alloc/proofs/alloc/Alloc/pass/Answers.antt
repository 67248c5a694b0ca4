use Rattle.std.proofs.Common.{arith, subst}
use Rattle.shm_words.proofs.Placing.{total_most_wide}
use Rattle.shm_alloc.specs.{declared.point.AllocPoint.AllocPoint, Alloc.{Control.PointFits, Passing.AtHeader}}
use Rattle.shm_alloc.specs.Proved.BlockPlaces.{block_of_next, block_of_within}
use Rattle.shm_alloc.proofs.alloc.Alloc.pass.Goals as goal

pub overflow_add-self : goal.overflow_add-self
overflow_add-self c =
    let f = c.self.inside in
    let me = f.state.me in
    let q = f.state.request in
    let h = c.in-Header in
    let k = subst (PointFits me q) h.is c.self.invariant.0.point in
    let a = (subst (λ (y : AllocPoint). AtHeader me q y f.header f.left) h.is c.self.invariant.1.header).0 in
    let b = (block_of_within me q h.search h.page h.index k.1.segment k.2 k.3).0 in
    let t = total_most_wide me.geometry c.self.invariant.0.geometry in
    let e = c.self.invariant.1.class in
    omega arith

pub invariant_of-self : goal.invariant_of-self
invariant_of-self c =
    let f = c.self.inside in
    let me = f.state.me in
    let q = f.state.request in
    let h = c.in-Header in
    let k = subst (PointFits me q) h.is c.self.invariant.0.point in
    let a = subst (λ (y : AllocPoint). AtHeader me q y f.header f.left) h.is c.self.invariant.1.header in
    let at = a.0 in
    let last = a.1 in
    let behind = a.2 in
    let some = c.if-self-eq0.false in
    let n = block_of_next me q h.search h.page h.index (omega arith) in
    let index = n.0 in
    let next = n.1 in
    let e = c.self.invariant.1.class in
    let u = k.1.used in (
      record {
        geometry = c.self.invariant.0.geometry;
        who = c.self.invariant.0.who;
        request = c.self.invariant.0.request;
        point = (k.0, record { segment = k.1.segment; taken = k.1.taken; used = omega arith }, k.2, omega arith);
      },
      record { class = e; header = (omega arith, omega arith, omega arith) },
    )
