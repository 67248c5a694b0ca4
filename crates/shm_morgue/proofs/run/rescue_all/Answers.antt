use Rattle.std.proofs.Common.{◌≡◌, List, [], ◌∷◌, ◌++◌, append-nil, append_assoc, length, sym, ap, ◌∙◌, subst, arith}
use Rattle.std.specs.Vec.Iter.{into_iter_items}
use Rattle.shm_team.proofs.Gathering.{all_yielded}
use Rattle.shm_morgue.specs.{declared.rule.Taken.Taken, Slots.AreRescued}
use Rattle.shm_morgue.proofs.Loops.{seam_at, seam_inside, seam_next}
use Rattle.shm_morgue.proofs.run.rescue_all.Goals as goal

pub loop-taken-init : goal.loop-taken-init
loop-taken-init g c =
    let (items, len, small, runs) = c.into_iter-taken-iterator.ensures.into_iter_gives in
    record {
      items = items;
      len = (let whole = c.args.left.ok.0 in let same = ap length items in omega (arith, len));
      many = c.requires.many;
      rescued = λ xs h. subst (λ ys. AreRescued c.args.trace.now c.args.pool.now ys c.args.slots.now) (sym (append-nil xs)) h;
    }

pub rescue_into-requires-clause-of : goal.rescue_into-requires-clause-of
rescue_into-requires-clause-of g c =
    let at = c.loop-taken in
    let i = at.invariant in
    let x = c.in-Some.taken in
    let steps : into_iter_items at.taken-iterator ≡ x ∷ into_iter_items c.next.new.self = c.in-Some.ensures.steps.0 in
    let whole = subst (λ (zs : List Taken). at.yielded ++ zs ≡ c.args.left.items) steps i.items in
    subst (λ (y : Taken). y.corpse.of ≡ c.args.pool.now) (seam_at at.yielded (into_iter_items c.next.new.self) c.args.left.items x x whole) (c.requires.of (length at.yielded) x (seam_inside at.yielded (into_iter_items c.next.new.self) c.args.left.items x whole))

pub loop-taken-preserved : goal.loop-taken-preserved
loop-taken-preserved g c =
    let at = c.loop-taken in
    let i = at.invariant in
    let x = c.in-Some.taken in
    let steps : into_iter_items at.taken-iterator ≡ x ∷ into_iter_items c.next.new.self = c.in-Some.ensures.steps.0 in
    let whole = subst (λ (zs : List Taken). at.yielded ++ zs ≡ c.args.left.items) steps i.items in
    record {
      items = seam_next at.yielded (into_iter_items c.next.new.self) c.args.left.items x whole;
      len =
          let was = i.len in
          let gone = c.in-Some.ensures.steps.1 in
          let short = ap length steps in
          omega arith;
      many = c.rescue_into.ensures.many ∙ i.many;
      rescued = λ xs h. subst (λ ys. AreRescued c.args.trace.now c.args.pool.now ys c.rescue_into.new.slots) (append_assoc xs at.yielded (x ∷ [])) (c.rescue_into.ensures.rescued (xs ++ at.yielded) (i.rescued xs h));
    }

pub returns : goal.returns
returns g c = λ xs h.
    let at = c.loop-taken in
    let all = all_yielded at.yielded _ _ _ at.invariant.items at.invariant.len c.in-None.ensures.steps.0 in
    subst (λ (ys : List Taken). AreRescued c.args.trace.now c.args.pool.now (xs ++ ys) at.slots) all (at.invariant.rescued xs h)
