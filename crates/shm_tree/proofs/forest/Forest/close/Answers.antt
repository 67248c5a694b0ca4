use Rattle.std.proofs.Common.{◌≡◌, ℕ, ◌≤◌, ◌^◌, ◌++◌, Bool, false, List, sym, subst, Result, Ok, Err}
use Rattle.std.specs.Prelude.{IfErr, IfOk}
use Rattle.shm_graph.specs.{declared.run.Move.Move, Agents.steps_made}
use Rattle.shm_plain.specs.{Closings.IsClosedRun, Pools.{Pool, memo_of}}
use Rattle.shm_count.specs.declared.answer.EraSpent.{EraSpent}
use Rattle.shm_tree.specs.{Ending.{HasEnded, IsYoung}, Falling.AreFalling, ForestCalls.IsClosedForest, Forests.Forested}
use Rattle.shm_tree.specs.Keeping.{is_live}
use Rattle.shm_tree.proofs.forest.Forest.close.Goals as goal

-- what the end of a pool leaves
record IsFinished (died : Bool) (p : Pool) (o : Result Pool EraSpent) : Type 0 where
  start : IfOk o (λ q. q.start ≡ p.start)
  run : IfOk o IsClosedRun
  ended : IfOk o (λ q. HasEnded died p q (Ok tt))
  turns : IfOk o (λ q. (ms : List Move) × (q.turns ≡ p.turns ++ ms))
  empty : IfOk o (λ q. AreFalling p → (b : ℕ) → is_live q b ≡ false)

closed : (f : Forested) (o : Result Pool EraSpent) → AreFalling f.registers.pool → IsFinished f.died f.registers.pool o → IfOk o (IsClosedForest f)
closed f (Ok q) falling h = record { start = h.start; closed = h.run; turns = h.turns.0; grew = h.turns.1; ended = h.ended; empty = h.empty falling }
closed f (Err e) falling h = tt

pub returns-clause-closed : goal.returns-clause-closed
returns-clause-closed c =
    let e = c.finish.ensures in
    subst (λ (f : Forested). IfOk c.finish.result (IsClosedForest f)) c.self.view_is
    (closed (record { registers = c.self.inside.registers; hints = c.self.inside.hints; died = c.self.inside.died }) c.finish.result c.self.invariant.falling
    (subst (λ (p : Pool). IsFinished c.self.inside.died p c.finish.result) c.into_pool.ensures (record { start = e.start; run = e.closed; ended = e.ended; turns = e.turns; empty = e.empty })))

pub returns-clause-spent : goal.returns-clause-spent
returns-clause-spent c =
    subst (λ (f : Forested). IfErr c.finish.result (λ e. (q : Pool) × HasEnded f.died f.registers.pool q (Err e))) c.self.view_is
    (subst (λ (p : Pool). IfErr c.finish.result (λ e. (q : Pool) × HasEnded c.self.inside.died p q (Err e))) c.into_pool.ensures c.finish.ensures.spent)

pub returns-clause-roomy : goal.returns-clause-roomy
returns-clause-roomy c few = c.finish.ensures.roomy (subst IsYoung (sym c.into_pool.ensures) (record { first = c.self.invariant.first; few = subst (λ (f : Forested). steps_made (memo_of f.registers.pool 0) ≤ 2 ^ 46) (sym c.self.view_is) few }))
