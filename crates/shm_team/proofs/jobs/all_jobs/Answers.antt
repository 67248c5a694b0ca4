use Rattle.std.proofs.Common.{◌≡◌, ◌<◌, List, [], ◌∷◌, ◌++◌, append_assoc, length, refl, sym, ap, ◌∙◌, subst, arith}
use Rattle.std.specs.{List.AllByRecursion, Vec.Iter.into_iter_items}
use Rattle.shm_pool.specs.Tokens.{Token}
use Rattle.shm_team.specs.declared.jobs.Job.{Job}
use Rattle.shm_team.proofs.Gathering.{JobsOf, all_yielded, jobs_first, jobs_long, jobs_more}
use Rattle.shm_team.proofs.jobs.all_jobs.Goals as goal

pub loop-token-init : goal.loop-token-init
loop-token-init g c =
    let (items, len, small, runs) = c.into_iter-token-iterator.ensures.into_iter_gives in
    record {
      items = items;
      len = (let whole = c.args.tokens.ok.0 in let same = ap length items in omega (arith, len));
      who = subst (AllByRecursion (λ (k : Token). k.account.who < c.args.trace.now.clients)) (sym items) c.requires.who;
      jobs = subst (JobsOf c.args.trace.now []) (sym c.new-jobs.ensures.items) tt;
    }

pub agents_of-requires-clause-who : goal.agents_of-requires-clause-who
agents_of-requires-clause-who g c =
    let steps = c.in-Some.ensures.steps.0 in
    let few = (subst (AllByRecursion (λ (k : Token). k.account.who < c.args.trace.now.clients)) steps c.loop-token.invariant.who).0 in
    let is = c.client.ensures.is in
    omega arith

pub loop-token-preserved : goal.loop-token-preserved
loop-token-preserved g c =
    let at = c.loop-token in
    let i = at.invariant in
    let t = c.args.trace.now in
    let x = c.in-Some.token in
    let steps : into_iter_items at.token-iterator ≡ x ∷ into_iter_items c.next.new.self = c.in-Some.ensures.steps.0 in
    let j : Job _ = record { agents = c.in_ok-agents.agents; token = x } in
    record {
      items = append_assoc at.yielded (x ∷ []) _ ∙ rw (← steps) i.items;
      len =
          let was = i.len in
          let gone = c.in-Some.ensures.steps.1 in
          let short = ap length steps in
          omega arith;
      who = (subst (AllByRecursion (λ (k : Token). k.account.who < t.clients)) steps i.who).1;
      jobs = subst (JobsOf t (at.yielded ++ x ∷ [])) (sym c.in_ok-push.ensures.items) (jobs_more t at.yielded at.jobs.items x j i.jobs refl (rw c.client.ensures.is at c.in_ok-agents.ensures));
    }

pub returns-clause-many : goal.returns-clause-many
returns-clause-many g c =
    let at = c.loop-token in
    let all = all_yielded at.yielded _ _ _ at.invariant.items at.invariant.len c.in-None.ensures.steps.0 in
    jobs_long c.args.trace.now at.yielded at.jobs.items at.invariant.jobs ∙ ap length all

pub returns-clause-jobs : goal.returns-clause-jobs
returns-clause-jobs g c = λ p are start.
    let t = c.args.trace.now in
    let at = c.loop-token in
    let all = all_yielded at.yielded _ _ _ at.invariant.items at.invariant.len c.in-None.ensures.steps.0 in
    jobs_first t p start 0 t.clients at.jobs.items (omega arith) (subst (λ (ks : List Token). JobsOf t ks at.jobs.items) (all ∙ are) at.invariant.jobs)
