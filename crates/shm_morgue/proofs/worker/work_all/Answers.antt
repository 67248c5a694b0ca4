use mir.Syntax.{of_param}
use denote.Exit.{unseen}
use denote.Param.Send.{Quiet-if}
use Rattle.std.proofs.{Common.{ℕ, sym, ap, subst, slice_index_or, ◌∙◌}, lemmas.Result.IfOk-weaker}
use Rattle.shm_morgue.specs.{Crew.{HasWorked, IsTask}, declared.worker.Task.Task}
use Rattle.shm_morgue.proofs.worker.work_all.Goals as goal

pub map_vec-requires-after_bounds : goal.map_vec-requires-after_bounds
map_vec-requires-after_bounds g c κs within = λ i x l is. (
  (subst (λ (k : Task _ _). IsTask c.args.trace.now c.args.pool.now c.args.morgue.now k.job k.porter) (sym is) (c.requires.tasks i x l).1, c.requires.pool),
  (
    record { owned = c.type_bounds.send-J.owned; leaving = λ k. Quiet-if (k (of_param 0)) _ unseen (λ x w. tt) (λ x w. tt) },
    record { owned = c.type_bounds.send-A.owned; leaving = λ k. Quiet-if (k (of_param 1)) _ unseen (λ x w. tt) (λ x w. tt) },
    record { shared = c.type_bounds.sync-J.shared },
    record { shared = c.type_bounds.sync-R.shared },
    record { shared = c.type_bounds.sync-G.shared },
  ),
)

pub returns-clause-worked : goal.returns-clause-worked
returns-clause-worked g c =
    IfOk-weaker c.map_vec.result _ _
    (λ v given i d l.
    let k = (given i d l).1 in
    subst (λ (n : ℕ). HasWorked c.args.trace.now c.args.pool.now c.args.morgue.now n (slice_index_or v.items i d).porter (slice_index_or v.items i d).outcome)
    (ap (λ (x : Task _ _). x.job.token.account.who) k.job_read ∙ (c.requires.tasks i k.job l).0)
    k.call.met)
    c.map_vec.ensures.each
