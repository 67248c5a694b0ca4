use Rattle.std.proofs.Common.{refl, ap, ◌∙◌}
use Rattle.shm_plain.specs.Pools.{memo_of}
use Rattle.plans.specs.Words.{word_control}
use Rattle.shm_count.specs.Roots.{member}
use Rattle.shm_ref.specs.{Release.{release_plan, releasing}, Proved.LatchTasks.ReleaseMay}
use Rattle.t_calls.proofs.{Plans.{has_left, may_begin}, Answered.{releases, some_held}}
use Rattle.t_calls.proofs.latches.release.Goals as goal
use Rattle.t_calls.specs.Known.{told}

pub run_told-requires-clause-may : goal.run_told-requires-clause-may
run_told-requires-clause-may c =
    let p = c.args.pool.now in
    let who = c.args.client.who in
    let me = member p.start.geometry who in
    may_begin releasing me _ _ c.me.ensures.is c.new-releasing.ensures
    ReleaseMay (memo_of p who) (refl, some_held (memo_of p who).latch (c.requires.known.held c.in_ok-check.ensures))

pub returns : goal.returns
returns c =
    let p = c.args.pool.now in
    let q = c.run_told.new.pool in
    let who = c.args.client.who in
    let me = member p.start.geometry who in
    let m = memo_of p who in
    let n = memo_of q who in
    let said = has_left releasing me _ _ c.me.ensures.is c.new-releasing.ensures release_plan who p q _ _ c.in_ok-answer.answer c.in_ok-answer.ensures in
    releases c.args.client.known who p q _ _ _ c.requires.known _ c.in_ok-answer.answer said (c.told.ensures ∙ ap (told c.in_ok-answer.answer) c.released.ensures)
    (λ u z. c.release_keeps.ensures.loose me m n n.call z.0 z.2) (λ u z. c.release_keeps.ensures.waiting me m n n.call z.0 z.2) (λ u z. z.2.latch)
