use Rattle.std.proofs.Common.{◌≡◌, ◌<◌, false, [], sym, ap, ◌∙◌, subst}
use Rattle.shm_graph.specs.{declared.{memo.Memo.Memo, run.Start.Start}, Asks.call_before}
use Rattle.shm_recover.specs.{declared.join.JoinState.JoinState, Join.{JoinFits, is_start, join_fresh}}
use Rattle.shm_plain.specs.Pools.{Pool, memo_of, readied, MayStep}
use Rattle.shm_client.proofs.{FirstJoin.{may_first, join_fits}, joining.step_join.Goals.After-of-life}
use Rattle.shm_client.proofs.joining.step_join.Goals as goal

pub step-turn-requires-clause-agent : goal.step-turn-requires-clause-agent
step-turn-requires-clause-agent c =
    let s : Start = record { geometry = c.args.geometry; first_era = c.args.first_era; tables = false } in
    subst (λ (p : Pool). MayStep p c.args.who) (sym c.in_ok-pool.ensures.first) (may_first s c.args.who c.requires.who)

fit : (c : After-of-life) → let r : Memo = memo_of (readied c.in_ok-pool.pool c.args.who) c.args.who in JoinFits c.new-join.result r r (call_before (is_start c.new-join.result.point) r.call)
fit c =
    let s : Start = record { geometry = c.args.geometry; first_era = c.args.first_era; tables = false } in
    let me : c.new.result ≡ record { geometry = s.geometry; who = c.args.who } = (λ i. record { geometry = c.new.ensures.geometry i; who = c.new.ensures.who i }) in
    let m : c.new-join.result ≡ join_fresh (record { geometry = s.geometry; who = c.args.who }) = c.new-join.ensures.state ∙ ap join_fresh me in
    subst (λ (x : JoinState). let r : Memo = memo_of (readied c.in_ok-pool.pool c.args.who) c.args.who in JoinFits x r r (call_before (is_start x.point) r.call)) (sym m)
    (subst (λ (p : Pool). let r : Memo = memo_of (readied p c.args.who) c.args.who in JoinFits (join_fresh (record { geometry = s.geometry; who = c.args.who })) r r []) (sym c.in_ok-pool.ensures.first)
    (join_fits s c.args.who c.requires.geometry c.requires.who))

pub step-turn-requires-clause-fits : goal.step-turn-requires-clause-fits
step-turn-requires-clause-fits c = (memo_of (readied c.in_ok-pool.pool c.args.who) c.args.who, fit (goal.at.step-turn-requires-clause-fits c).After-of-life)

pub returns-clause-live : goal.returns-clause-live
returns-clause-live c some =
    let r : Memo = memo_of (readied c.in_ok-pool.pool c.args.who) c.args.who in
    (c.step-turn.ensures.fits (subst (λ n. 0 < n) (sym c.of-life.ensures) some) r (fit (goal.at.returns-clause-live c).After-of-life)).idle.live
