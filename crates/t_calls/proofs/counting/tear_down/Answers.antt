use Rattle.std.proofs.Common.{refl, sym, ap, ◌∙◌, subst, rules}
use Rattle.std.specs.List.{Contains}
use Rattle.shm_graph.specs.declared.ask.Me.{Me}
use Rattle.shm_plain.specs.Pools.{memo_of}
use Rattle.shm_count.specs.{declared.tear_point.TearState.TearState, Operating.{TearMay, tearing}}
use Rattle.t_calls.proofs.Knowing.{after_ran}
use Rattle.t_calls.proofs.counting.tear_down.Goals as goal

pub run-answer-requires-clause-may : goal.run-answer-requires-clause-may
run-answer-requires-clause-may c =
    let m = memo_of c.args.pool.now c.args.client.who in
    let dying : Contains m.dying c.in_ok-block.block = search rules in
    subst (λ (z : TearState). TearMay z m) (sym (c.new-tearing.ensures ∙ ap (λ (x : Me). tearing x c.in_ok-block.block) c.me.ensures.is)) (refl, dying)

pub returns : goal.returns
returns c = after_ran c.args.client.who c.args.pool.now c.run-answer.new.self _ _ _ _ _ c.run-answer.ensures.ran tt
