use Rattle.std.proofs.Common.{length, refl, ap, inl}
use Rattle.shm_graph.specs.{declared.memo.{Fate.TheVariants.Acts, Kind.TheVariants.Client, Memo.Memo}, Agents.is_gone}
use Rattle.shm_graph.specs.{Asks.Trail, Runs.account_entered}
use Rattle.shm_recover.specs.Join.{join_control, join_fresh}
use Rattle.shm_pool.specs.{Calls.shown, Tokens.me_of}
use Rattle.shm_team.proofs.Staying.{same_once, stayed_begins, stayed_call, stayed_then}
use Rattle.shm_team.proofs.Visiting.{acts_still, run_first, same_part}
use Rattle.shm_team.proofs.closing.join.Goals as goal

pub returns-in-Ok-clause-ran : goal.returns-in-Ok-clause-ran
returns-in-Ok-clause-ran g c =
    let e = c.args.token.account in
    let f = c.in-Ok.client.account in
    let h = c.in-Ok.ensures in
    run_first Client (shown join_control (join_fresh (me_of c.args.token.of e))) e f _ _ Acts (inl refl) h.call h.told
    (acts_still f.memo.status (ap (λ (x : Memo). is_gone x.status) h.keeps))
    (same_part e.memo f.memo (ap (λ (x : Memo). x.part) h.keeps))

pub returns-in-Ok-clause-stayed : goal.returns-in-Ok-clause-stayed
returns-in-Ok-clause-stayed g c =
    let e = c.args.token.account in
    let f = c.in-Ok.client.account in
    let h = c.in-Ok.ensures in
    let s = shown join_control (join_fresh (me_of c.args.token.of e)) in
    let same = same_part e.memo f.memo (ap (λ (x : Memo). x.part) h.keeps) in
    stayed_then e (account_entered Client e) f (stayed_begins Client e)
    (stayed_call s (account_entered Client e) f _ _ _ h.call (same_once s (account_entered Client e) f _ _ refl h.call (ap (λ (tr : Trail). length tr) h.gives.trail) (record { map = same.map; loose = same.loose })))
