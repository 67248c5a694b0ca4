use Rattle.std.proofs.Common.{◌≡◌, ◌≤◌, ℕ, suc, List, [], ◌∷◌, ◌++◌, length, sym, ap, ◌∙◌, subst, arith}
use Rattle.std.specs.Vec.Iter.{into_iter_items}
use Rattle.shm_team.proofs.Gathering.{all_yielded}
use Rattle.shm_team.specs.{declared.jobs.Job.Job, Jobs.{AreJobs, IsJob}}
use Rattle.shm_morgue.specs.{Crew.IsTask, Entries.first_porters}
use Rattle.shm_morgue.proofs.Loops.{each_more, first_next, one_more, pushed, seam_inside, seam_next}
use Rattle.shm_morgue.proofs.run.tasks_in.Goals as goal

pub loop-job-init : goal.loop-job-init
loop-job-init g c =
    let (items, len, small, runs) = c.into_iter-job-iterator.ensures.into_iter_gives in
    let t = c.args.trace.now in
    let p = c.args.pool.now in
    let none : length c.args.tasks.items ≡ 0 = ap length c.requires.none in
    let puts = c.into_iter-rest.ensures.rest in
    let many = c.into_iter-rest.ensures.len in
    record {
      items = items;
      len = (let whole = c.args.jobs.ok.0 in let same = ap length items in omega (arith, len));
      many = none;
      jobs = subst (λ (n : ℕ). AreJobs t p n (into_iter_items c.into_iter-job-iterator.result)) (sym none) (subst (AreJobs t p 0) (sym items) c.requires.jobs);
      porters = puts ∙ (c.requires.porters ∙ (λ i. first_porters c.args.morgue.now (sym none i) (length (sym items i))));
      whole = (let whole = c.args.porters.ok.0 in let same = ap length puts in omega (arith, many));
      room = c.requires.room;
      tasks = λ i d l. absurd (omega arith);
    }

pub push_reserved-requires : goal.push_reserved-requires
push_reserved-requires g c =
    let at = c.loop-job in
    let i = at.invariant in
    let x = c.in-Some.job in
    let rest = into_iter_items c.next.new.self in
    let steps : into_iter_items at.job-iterator ≡ x ∷ rest = c.in-Some.ensures.steps.0 in
    let whole = subst (λ (zs : List (Job _)). at.yielded ++ zs ≡ c.args.jobs.items) steps i.items in
    let inside = seam_inside at.yielded rest c.args.jobs.items x whole in
    let many = i.many in
    let room = i.room in
    let len = at.tasks.ok.0 in
    omega arith

pub loop-job-preserved : goal.loop-job-preserved
loop-job-preserved g c =
    let t = c.args.trace.now in
    let p = c.args.pool.now in
    let w = c.args.morgue.now in
    let at = c.loop-job in
    let i = at.invariant in
    let n = length at.tasks.items in
    let x = c.in-Some.job in
    let y = c.in-Some-next.porter in
    let rest = into_iter_items c.next.new.self in
    let steps : into_iter_items at.job-iterator ≡ x ∷ rest = c.in-Some.ensures.steps.0 in
    let whole = subst (λ (zs : List (Job _)). at.yielded ++ zs ≡ c.args.jobs.items) steps i.items in
    let jobs : AreJobs t p n (x ∷ rest) = subst (AreJobs t p n) steps i.jobs in
    let porter = first_next w n (length rest) y (into_iter_items c.next-in-loop-job.new.self) (into_iter_items at.rest) c.in-Some-next.ensures.items (i.porters ∙ ap (λ (zs : List (Job _)). first_porters w n (length zs)) steps) in
    let task : IsTask t p w x y = (subst (λ (k : ℕ). IsJob t p k x) (sym jobs.0) jobs.1, porter.0 ∙ ap (λ (k : ℕ). record { of = w; client = k; entries = [] }) (sym jobs.0)) in
    let longer = pushed at.tasks.items c.push_reserved.new.self.items (record { job = x; porter = y; shift = c.of.result }) c.push_reserved.ensures.items in
    let next : suc n ≡ length c.push_reserved.new.self.items = omega arith in
    record {
      items = seam_next at.yielded rest c.args.jobs.items x whole;
      len =
          let was = i.len in
          let gone = c.in-Some.ensures.steps.1 in
          let short = ap length steps in
          omega arith;
      many =
          let was = i.many in
          let d = one_more at.yielded x in
          omega arith;
      jobs = subst (λ (k : ℕ). AreJobs t p k rest) next jobs.2;
      porters = porter.1 ∙ ap (λ (k : ℕ). first_porters w k (length rest)) next;
      whole =
          let was = i.whole in
          let gone = c.in-Some-next.ensures.len in
          let short = ap length c.in-Some-next.ensures.items in
          omega arith;
      room = subst (λ (k : ℕ). length c.args.jobs.items ≤ k) (sym c.push_reserved.ensures.capacity) i.room;
      tasks = each_more at.tasks.items c.push_reserved.new.self.items (record { job = x; porter = y; shift = c.of.result }) (λ k z. (z.job.token.account.who ≡ k) × IsTask t p w z.job z.porter) c.push_reserved.ensures.items i.tasks (jobs.0, task);
    }

pub returns-clause-many : goal.returns-clause-many
returns-clause-many g c =
    let at = c.loop-job in
    let all = all_yielded at.yielded _ _ _ at.invariant.items at.invariant.len c.in-None.ensures.steps.0 in
    at.invariant.many ∙ ap length all
