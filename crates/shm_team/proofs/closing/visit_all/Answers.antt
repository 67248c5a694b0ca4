use Rattle.std.proofs.Common.{◌≡◌, List, [], ◌∷◌, ◌++◌, append_assoc, length, refl, sym, ap, ◌∙◌, subst, arith}
use Rattle.std.specs.{List.AllByRecursion, Prelude.Option, Vec.Iter.into_iter_items}
use Rattle.shm_pool.specs.Tokens.{Its, Token}
use Rattle.shm_script.specs.Logged.{Logged}
use Rattle.shm_team.specs.{declared.done.Done.Done, Lefts.IsGivenBack, Visits.AreVisits}
use Rattle.shm_team.proofs.Gathering.{all_yielded, visits_more}
use Rattle.shm_team.proofs.closing.visit_all.Goals as goal

-- lists of the same items
visits_same : (p : Its) (ds : List Done) (xs ys : List (Option Logged)) (ts us : List Token) → ys ≡ xs → us ≡ ts → AreVisits p ds xs ts → AreVisits p ds ys us
visits_same p ds xs ys ts us e f h = subst (λ (zs : List (Option Logged)). AreVisits p ds zs us) (sym e) (subst (AreVisits p ds xs) (sym f) h)

pub loop-done-init : goal.loop-done-init
loop-done-init g c =
    let (items, len, small, runs) = c.into_iter-done-iterator.ensures.into_iter_gives in
    let p = c.args.pool.now in
    record {
      items = items;
      len = (let whole = c.args.dones.ok.0 in let same = ap length items in omega (arith, len));
      left = subst (AllByRecursion (λ (d : Done). IsGivenBack p d.left)) (sym items) c.requires.left;
      visits = visits_same p [] [] _ [] _ c.new-logs.ensures.items c.new-tokens.ensures.items tt;
    }

pub visit-token-requires : goal.visit-token-requires
visit-token-requires g c = record { left = (subst (AllByRecursion (λ (d : Done). IsGivenBack c.args.pool.now d.left)) c.in-Some.ensures.steps.0 c.loop-done.invariant.left).0 }

pub loop-done-preserved : goal.loop-done-preserved
loop-done-preserved g c =
    let at = c.loop-done in
    let i = at.invariant in
    let p = c.args.pool.now in
    let x = c.in-Some.done in
    let steps : into_iter_items at.done-iterator ≡ x ∷ into_iter_items c.next.new.self = c.in-Some.ensures.steps.0 in
    let v = c.visit-token.ensures in
    record {
      items = append_assoc at.yielded (x ∷ []) _ ∙ rw (← steps) i.items;
      len =
          let was = i.len in
          let gone = c.in-Some.ensures.steps.1 in
          let short = ap length steps in
          omega arith;
      left = (subst (AllByRecursion (λ (d : Done). IsGivenBack p d.left)) steps i.left).1;
      visits = visits_same p (at.yielded ++ x ∷ []) _ _ _ _ c.in_ok-push.ensures.items c.in_ok-push-2.ensures.items
          (visits_more p at.yielded at.logs.items at.tokens.items x x.log c.visit-token.result i.visits (refl, v.of, v.visited, tt));
    }

pub returns : goal.returns
returns g c =
    let at = c.loop-done in
    let all = all_yielded at.yielded _ _ _ at.invariant.items at.invariant.len c.in-None.ensures.steps.0 in
    record { visits = subst (λ (ds : List Done). AreVisits c.args.pool.now ds at.logs.items at.tokens.items) all at.invariant.visits }
