use Rattle.std.proofs.Common.{ap, ◌∙◌}
use Rattle.shm_graph.specs.declared.ask.Me.{Me}
use Rattle.shm_plain.specs.Pools.{memo_of}
use Rattle.plans.specs.Words.{word_control}
use Rattle.shm_count.specs.Roots.{member}
use Rattle.shm_ref.specs.{RootOf.{naming, naming_plan}, Proved.LatchTasks.NamingMay}
use Rattle.t_calls.proofs.{Plans.{has_left, may_begin}, Answered.tells}
use Rattle.t_calls.proofs.latches.root_of.Goals as goal
use Rattle.t_calls.specs.Known.{told}

pub run_told-requires-clause-may : goal.run_told-requires-clause-may
run_told-requires-clause-may c =
    let p = c.args.pool.now in
    let who = c.args.client.who in
    let me = member p.start.geometry who in
    may_begin (λ (x : Me). naming x c.in_ok-root.root) me _ _ c.me.ensures.is c.new-naming.ensures
    NamingMay (memo_of p who) c.in_ok-root.ensures

pub returns : goal.returns
returns c =
    let p = c.args.pool.now in
    let q = c.run_told.new.pool in
    let who = c.args.client.who in
    let me = member p.start.geometry who in
    let m = memo_of p who in
    let n = memo_of q who in
    let said = has_left (λ (x : Me). naming x c.in_ok-root.root) me _ _ c.me.ensures.is c.new-naming.ensures naming_plan who p q _ _ c.in_ok-answer.answer c.in_ok-answer.ensures in
    tells c.args.client.known who p q _ _ _ c.requires.known _ c.in_ok-answer.answer said (c.told.ensures ∙ ap (told c.in_ok-answer.answer) c.kept.ensures)
    (λ b z. c.root_of_keeps.ensures.same me c.in_ok-root.root b m n n.call z.0 z.2)
