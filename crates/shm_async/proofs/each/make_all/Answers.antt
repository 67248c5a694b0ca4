use Rattle.std.proofs.Common.{◌≡◌, ℕ, suc, ◌+◌, [], ◌∷◌, append_assoc, length, sym, ap, ◌∙◌, subst, arith}
use Rattle.std.specs.Vec.Iter.{into_iter_items}
use Rattle.shm_team.proofs.Gathering.{all_yielded}
use Rattle.shm_async.specs.Each.{EachFrom}
use Rattle.shm_async.proofs.Listed.{each_more, one_more}
use Rattle.shm_async.proofs.each.make_all.Goals as goal

pub loop-item-init : goal.loop-item-init
loop-item-init g c =
    let (items, len, small, runs) = c.into_iter-item-iterator.ensures.into_iter_gives in
    record {
      items = items;
      len = (let whole = c.args.items.ok.0 in let same = ap length items in omega (arith, len));
      left = subst (EachFrom (g.M.Makes.takes c.args.maker.now) 0) (sym items) c.requires;
      made = subst (EachFrom (g.M.Makes.gives c.args.maker.now) 0) (sym c.new-made.ensures.items) tt;
      many = ap length c.new-made.ensures.items;
    }

pub make-requires : goal.make-requires
make-requires g c =
    let at = c.loop-item in
    (length at.yielded, (subst (EachFrom (g.M.Makes.takes c.args.maker.now) (length at.yielded)) c.in-Some.ensures.steps.0 at.invariant.left).0)

pub loop-item-preserved : goal.loop-item-preserved
loop-item-preserved g c =
    let at = c.loop-item in
    let i = at.invariant in
    let x = c.in-Some.item in
    let steps : into_iter_items at.item-iterator ≡ x ∷ into_iter_items c.next.new.self = c.in-Some.ensures.steps.0 in
    let h = subst (EachFrom (g.M.Makes.takes c.args.maker.now) (length at.yielded)) steps i.left in
    let many : length at.made.items ≡ length at.yielded = i.many in
    let who : length at.yielded ≡ 0 + length at.made.items = omega arith in
    record {
      items = append_assoc at.yielded (x ∷ []) _ ∙ rw (← steps) i.items;
      len =
          let was = i.len in
          let gone = c.in-Some.ensures.steps.1 in
          let short = ap length steps in
          omega arith;
      left = subst (λ (n : ℕ). EachFrom (g.M.Makes.takes c.args.maker.now) n (into_iter_items c.next.new.self)) (sym (one_more at.yielded x)) h.1;
      made = subst (EachFrom (g.M.Makes.gives c.args.maker.now) 0) (sym c.in_ok-push.ensures.items)
          (each_more (g.M.Makes.gives c.args.maker.now) 0 at.made.items c.make.result i.made
          (subst (λ (n : ℕ). g.M.Makes.gives c.args.maker.now n c.make.result) who (c.make.ensures (length at.yielded) h.0)));
      many = ap length c.in_ok-push.ensures.items ∙ (one_more at.made.items _ ∙ (ap suc i.many ∙ sym (one_more at.yielded x)));
    }

pub returns-clause-many : goal.returns-clause-many
returns-clause-many g c =
    let at = c.loop-item in
    let all = all_yielded at.yielded _ _ _ at.invariant.items at.invariant.len c.in-None.ensures.steps.0 in
    at.invariant.many ∙ ap length all
