use Rattle.std.proofs.Common.{◌≡◌, ◌≢◌, ◌≤◌, subst, arith, rules}
use Rattle.shm_agents.specs.declared.agents.Standing.TheVariants.{AtWork}
use Rattle.shm_async.specs.Polled.{AtPost, HasGiven}
use Rattle.shm_async.proofs.Giving.{at, given_all, given_rest, one_given}
use Rattle.shm_async.proofs.identity.give.Goals as goal

pub loop-given-preserved : goal.loop-given-preserved
loop-given-preserved g c =
    let i = c.loop-given.invariant in
    let u = c.turn.ensures in
    let w = at c.site.inside.agents c.site.inside.post in
    let v = at c.loop-given.site-inside.agents c.loop-given.site-inside.post in
    let less = c.loop-given-test.true in (
      one_given c.args.script.now w v (at c.turn.new.self c.turn.new.pool) c.loop-given.given i.0 u.stepped u.fell u.has u.me u.stands u.given u.turns,
      omega arith,
      λ none. absurd (omega arith),
    )

pub returns-else-eq : goal.returns-else-eq
returns-else-eq g c =
    let i = c.loop-given.invariant in
    let w = at c.site.inside.agents c.site.inside.post in
    let v = at c.loop-given.site-inside.agents c.loop-given.site-inside.post in
    let rest : c.loop-given.site-inside.agents.standing ≢ AtWork = search rules in
    subst (λ (z : AtPost). HasGiven c.args.q c.args.script.now z v) c.site.view_is (given_rest c.args.q c.loop-given.given c.args.script.now w v i.0 i.1 i.2 rest)

pub returns-after-loop-given : goal.returns-after-loop-given
returns-after-loop-given g c =
    let i = c.loop-given.invariant in
    let w = at c.site.inside.agents c.site.inside.post in
    let v = at c.loop-given.site-inside.agents c.loop-given.site-inside.post in
    let few : c.loop-given.given ≤ c.args.q = i.1 in
    let more : c.args.q ≤ c.loop-given.given = c.loop-given-test.false in
    let all : c.loop-given.given ≡ c.args.q = omega arith in
    subst (λ (z : AtPost). HasGiven c.args.q c.args.script.now z v) c.site.view_is (given_all c.args.q c.loop-given.given c.args.script.now w v i.0 c.requires.turns all)
