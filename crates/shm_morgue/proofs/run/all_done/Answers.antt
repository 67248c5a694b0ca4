use Rattle.std.proofs.Common.{◌≡◌, ◌+◌, ◌<◌, ℕ, suc, List, ◌∷◌, ◌++◌, length, sym, ap, ◌∙◌, subst, arith}
use Rattle.std.proofs.lemmas.List.{get_or_default, length-set}
use Rattle.std.specs.{Prelude.{None, slice_index_or, slice_set}, Vec.Iter.into_iter_items}
use Rattle.shm_team.specs.Dones.{AreDones, IsDone}
use Rattle.shm_team.proofs.Gathering.{all_yielded}
use Rattle.shm_morgue.specs.{declared.worker.Outcome.Outcome, Slots.{AreEnough, IsEnough}}
use Rattle.shm_morgue.proofs.{Loops.{one_more, pushed, seam_inside, seam_next}, Slotting.{dones_more, enough_past}}
use Rattle.shm_morgue.proofs.run.all_done.Goals as goal

pub loop-outcome-init : goal.loop-outcome-init
loop-outcome-init c =
    let (items, len, small, runs) = c.into_iter-outcome-iterator.ensures.into_iter_gives in
    let t = c.args.trace.now in
    let p = c.args.pool.now in
    let none = ap length c.new-dones.ensures.items in
    record {
      items = items;
      len = (let whole = c.args.outcomes.ok.0 in let same = ap length items in omega (arith, len));
      many = none;
      room = c.requires.many;
      dones = subst (AreDones t p 0) (sym c.new-dones.ensures.items) tt;
      enough = subst (λ (n : ℕ). AreEnough t p n (into_iter_items c.into_iter-outcome-iterator.result) c.args.slots.now) (sym none) (subst (λ (os : List Outcome). AreEnough t p 0 os c.args.slots.now) (sym items) c.requires.enough);
    }

pub done-requires : goal.done-requires
done-requires c =
    let at = c.loop-outcome in
    let t = c.args.trace.now in
    let p = c.args.pool.now in
    let x = c.in-Some.outcome in
    let n = c.len-at.result in
    let is : n ≡ length at.dones.items = (let e = c.len-at.ensures in let whole = at.dones.ok.0 in omega arith) in
    let steps : into_iter_items at.outcome-iterator ≡ x ∷ into_iter_items c.next.new.self = c.in-Some.ensures.steps.0 in
    let h = subst (λ (os : List Outcome). AreEnough t p (length at.dones.items) os at.slots) steps at.invariant.enough in
    let whole = subst (λ (zs : List Outcome). at.yielded ++ zs ≡ c.args.outcomes.items) steps at.invariant.items in
    let inside : n < length at.slots = (let l = seam_inside at.yielded (into_iter_items c.next.new.self) c.args.outcomes.items x whole in let many = at.invariant.many in let room = at.invariant.room in omega arith) in
    (t, p, n, subst (IsEnough t p n x) (get_or_default at.slots n None c.index-slots-at.result inside) (subst (λ (k : ℕ). IsEnough t p k x (slice_index_or at.slots k None)) (sym is) h.0))

pub loop-outcome-preserved : goal.loop-outcome-preserved
loop-outcome-preserved c =
    let t = c.args.trace.now in
    let p = c.args.pool.now in
    let at = c.loop-outcome in
    let i = at.invariant in
    let x = c.in-Some.outcome in
    let n = c.len-at.result in
    let is : n ≡ length at.dones.items = (let e = c.len-at.ensures in let whole = at.dones.ok.0 in omega arith) in
    let rest = into_iter_items c.next.new.self in
    let steps : into_iter_items at.outcome-iterator ≡ x ∷ rest = c.in-Some.ensures.steps.0 in
    let whole = subst (λ (zs : List Outcome). at.yielded ++ zs ≡ c.args.outcomes.items) steps i.items in
    let h = subst (λ (os : List Outcome). AreEnough t p (length at.dones.items) os at.slots) steps i.enough in
    let inside : n < length at.slots = (let l = seam_inside at.yielded rest c.args.outcomes.items x whole in let many = i.many in let room = i.room in omega arith) in
    let done = c.done.ensures t p n (subst (IsEnough t p n x) (get_or_default at.slots n None c.index-slots-at.result inside) (subst (λ (k : ℕ). IsEnough t p k x (slice_index_or at.slots k None)) (sym is) h.0)) in
    let from : n ≡ 0 + length at.dones.items = omega arith in
    let longer = pushed at.dones.items c.push.new.self.items c.done.result c.in_ok-push.ensures.items in
    let next : suc (length at.dones.items) ≡ length c.push.new.self.items = omega arith in
    record {
      items = seam_next at.yielded rest c.args.outcomes.items x whole;
      len =
          let was = i.len in
          let gone = c.in-Some.ensures.steps.1 in
          let short = ap length steps in
          omega arith;
      many =
          let was = i.many in
          let d = one_more at.yielded x in
          omega arith;
      room = (let was = i.room in let same = length-set at.slots n c.done.new.slot in omega arith);
      dones = subst (AreDones t p 0) (sym c.in_ok-push.ensures.items) (dones_more t p 0 at.dones.items c.done.result i.dones (subst (λ (k : ℕ). IsDone t p k c.done.result) from done));
      enough = subst (λ (k : ℕ). AreEnough t p k rest (slice_set at.slots n c.done.new.slot)) next (enough_past t p n (suc (length at.dones.items)) rest at.slots c.done.new.slot (omega arith) h.1);
    }

pub returns-clause-many : goal.returns-clause-many
returns-clause-many c =
    let at = c.loop-outcome in
    let all = all_yielded at.yielded _ _ _ at.invariant.items at.invariant.len c.in-None.ensures.steps.0 in
    at.invariant.many ∙ ap length all
