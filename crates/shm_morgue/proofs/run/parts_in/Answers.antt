use Rattle.std.proofs.Common.{◌≡◌, ◌+◌, ◌≤◌, ℕ, List, [], ◌∷◌, ◌++◌, length, sym, ap, ◌∙◌, subst, arith}
use Rattle.std.specs.Vec.Iter.{into_iter_items}
use Rattle.shm_team.proofs.Gathering.{all_yielded}
use Rattle.shm_morgue.specs.{declared.worker.Outcome.Outcome, Crew.{HasWorked, HaveWorked}, Entries.Puts}
use Rattle.shm_morgue.proofs.{Loops.{one_more, seam_at, seam_inside, seam_next}, Slotting.worked_more}
use Rattle.shm_morgue.proofs.run.parts_in.Goals as goal

pub loop-worked-init : goal.loop-worked-init
loop-worked-init g c =
    let (items, len, small, runs) = c.into_iter-worked-iterator.ensures.into_iter_gives in
    record {
      items = items;
      len = (let whole = c.args.works.ok.0 in let same = ap length items in omega (arith, len));
      many = ap length c.requires.none.0;
      porters_room = c.requires.room.0;
      outcomes_room = c.requires.room.1;
      outcomes_many = ap length c.requires.none.1;
      worked = subst (λ (os : List Outcome). HaveWorked c.args.trace.now c.args.pool.now c.args.morgue.now 0 c.args.porters.items os) (sym c.requires.none.1)
          (subst (λ (qs : List Puts). HaveWorked c.args.trace.now c.args.pool.now c.args.morgue.now 0 qs []) (sym c.requires.none.0) tt);
    }

pub push_reserved-requires : goal.push_reserved-requires
push_reserved-requires g c =
    let at = c.loop-worked in
    let i = at.invariant in
    let x = c.in-Some.worked in
    let steps : into_iter_items at.worked-iterator ≡ x ∷ into_iter_items c.next.new.self = c.in-Some.ensures.steps.0 in
    let whole = subst (λ zs. at.yielded ++ zs ≡ c.args.works.items) steps i.items in
    let inside = seam_inside at.yielded (into_iter_items c.next.new.self) c.args.works.items x whole in
    let many = i.many in
    let room = i.porters_room in
    let len = at.porters.ok.0 in
    omega arith

pub push_reserved-requires-in-loop-worked : goal.push_reserved-requires-in-loop-worked
push_reserved-requires-in-loop-worked g c =
    let at = c.loop-worked in
    let i = at.invariant in
    let x = c.in-Some.worked in
    let steps : into_iter_items at.worked-iterator ≡ x ∷ into_iter_items c.next.new.self = c.in-Some.ensures.steps.0 in
    let whole = subst (λ zs. at.yielded ++ zs ≡ c.args.works.items) steps i.items in
    let inside = seam_inside at.yielded (into_iter_items c.next.new.self) c.args.works.items x whole in
    let many = i.outcomes_many in
    let room = i.outcomes_room in
    let len = at.outcomes.ok.0 in
    omega arith

pub loop-worked-preserved : goal.loop-worked-preserved
loop-worked-preserved g c =
    let at = c.loop-worked in
    let i = at.invariant in
    let x = c.in-Some.worked in
    let steps : into_iter_items at.worked-iterator ≡ x ∷ into_iter_items c.next.new.self = c.in-Some.ensures.steps.0 in
    let whole = subst (λ zs. at.yielded ++ zs ≡ c.args.works.items) steps i.items in
    let many = i.many in
    let inside = seam_inside at.yielded (into_iter_items c.next.new.self) c.args.works.items x whole in
    let here = seam_at at.yielded (into_iter_items c.next.new.self) c.args.works.items x x whole in
    let count : length at.yielded ≡ 0 + length at.porters.items = omega arith in
    let one = subst (λ (n : ℕ). HasWorked c.args.trace.now c.args.pool.now c.args.morgue.now n x.porter x.outcome) count (subst (λ y. HasWorked c.args.trace.now c.args.pool.now c.args.morgue.now (length at.yielded) y.porter y.outcome) here (c.requires.works (length at.yielded) x inside)) in
    record {
      items = seam_next at.yielded (into_iter_items c.next.new.self) c.args.works.items x whole;
      len =
          let was = i.len in
          let gone = c.in-Some.ensures.steps.1 in
          let short = ap length steps in
          omega arith;
      many =
          let a = ap length c.push_reserved.ensures.items in
          let b = one_more at.porters.items x.porter in
          let d = one_more at.yielded x in
          omega arith;
      porters_room = subst (λ (k : ℕ). length c.args.works.items ≤ k) (sym c.push_reserved.ensures.capacity) i.porters_room;
      outcomes_room = subst (λ (k : ℕ). length c.args.works.items ≤ k) (sym c.push_reserved-in-loop-worked.ensures.capacity) i.outcomes_room;
      outcomes_many =
          let was = i.outcomes_many in
          let a = ap length c.push_reserved-in-loop-worked.ensures.items in
          let b = one_more at.outcomes.items x.outcome in
          let d = one_more at.yielded x in
          omega arith;
      worked =
          subst (λ (os : List Outcome). HaveWorked c.args.trace.now c.args.pool.now c.args.morgue.now 0 c.push_reserved.new.self.items os) (sym c.push_reserved-in-loop-worked.ensures.items)
          (subst (λ (qs : List Puts). HaveWorked c.args.trace.now c.args.pool.now c.args.morgue.now 0 qs (at.outcomes.items ++ x.outcome ∷ [])) (sym c.push_reserved.ensures.items)
          (worked_more c.args.trace.now c.args.pool.now c.args.morgue.now 0 at.porters.items at.outcomes.items x.porter x.outcome i.worked one));
    }

pub returns-clause-many : goal.returns-clause-many
returns-clause-many g c =
    let at = c.loop-worked in
    let all = all_yielded at.yielded _ _ _ at.invariant.items at.invariant.len c.in-None.ensures.steps.0 in
    at.invariant.many ∙ ap length all
