use Rattle.std.proofs.{Common.{◌≡◌, List, sym, ap, ◌∙◌, subst, length, arith}, lemmas.Option.slice_get_within}
use Rattle.std.specs.Prelude.{Some, slice_get}
use Rattle.shm_graph.specs.{declared.{ask.Me.Me, run.Account.Account}, Runs.first_account}
use Rattle.shm_agents.specs.Agents.{AgentsStand}
use Rattle.shm_pool.specs.Tokens.{Its}
use Rattle.shm_replay.proofs.{Gathering.same_some, Seating.script_read}
use Rattle.shm_script.specs.Values.{Scripted, Traced}
use Rattle.shm_team.specs.Jobs.{AreAgentsOf}
use Rattle.shm_team.proofs.Gathering.{agents_in, none_in}
use Rattle.shm_async.proofs.{Gathering.new_working, Making.first_here, members.Member.of.Given.Over}
use Rattle.shm_async.proofs.members.Member.of.Goals.{After-index}
use Rattle.shm_async.proofs.members.Member.of.Goals as goal

pub returns-in-None : goal.returns-in-None
returns-in-None g c = none_in c.args.trace.now c.args.pool.now c.args.job c.requires.job c.in-None.is

module _ (g : Over) (c : After-index g) where
  its : AreAgentsOf c.args.trace.now c.args.pool.now.start c.args.job.token.account.who c.args.job.token.account c.in-Some.agents
  its = agents_in c.args.trace.now c.args.pool.now c.args.job c.in-Some.agents c.requires.job c.in-Some.is

  -- the script that is read is theirs
  read : c.index.result.now ≡ its.script
  read =
      let scripts : c.args.trace.now.scripts ≡ c.trace.inside.scripts.items = sym (ap (λ (t : Traced). t.scripts) c.trace.view_is) in
      let k = c.in-Some.agents.script in
      let here : slice_get c.args.trace.now.scripts k ≡ Some c.index.result.now =
      ap (λ (ss : List Scripted). slice_get ss k) scripts
      ∙ script_read c.trace.inside.scripts.items k c.script-at.result its.script c.index.result.now (sym (ap (λ (ss : List Scripted). slice_get ss k) scripts) ∙ its.at) c.script-at.ensures c.index.ensures in
      same_some c.index.result.now its.script (sym here ∙ its.at)

pub index-requires : goal.index-requires
index-requires g c =
    let own = agents_in c.args.trace.now c.args.pool.now c.args.job c.in-Some.agents c.requires.job c.in-Some.is in
    let low = slice_get_within c.args.trace.now.scripts c.in-Some.agents.script own.script own.at in
    let is = c.script-at.ensures in
    let same = ap (λ (t : Traced). length t.scripts) c.trace.view_is in
    let whole = c.trace.inside.scripts.ok.0 in
    omega arith

pub of-requires-clause-first : goal.of-requires-clause-first
of-requires-clause-first g c = c.requires.job.first ∙ ap (λ (p : Its). first_account p.start c.args.job.token.account.who) (sym c.requires.job.of)

pub of-requires-clause-me : goal.of-requires-clause-me
of-requires-clause-me g c = ap (λ (m : Me). m.who) (its g (goal.at.of-requires-clause-me g c).After-index).me

pub of-requires-clause-stands : goal.of-requires-clause-stands
of-requires-clause-stands g c =
    let at = (goal.at.of-requires-clause-stands g c).After-index in
    let e = c.args.job.token.account in
    subst (λ (p : Its). AgentsStand p.start c.index.result.now c.in-Some.agents e) (sym c.requires.job.of)
    (subst (λ (s : Scripted). AgentsStand c.args.pool.now.start s c.in-Some.agents e) (sym (read g at)) (its g at).stands)

pub of-requires-clause-here : goal.of-requires-clause-here
of-requires-clause-here g c =
    let at = (goal.at.of-requires-clause-here g c).After-index in
    first_here c.args.pool.now.start (its g at).script c.in-Some.agents c.args.job.token.account (its g at).stands (ap (λ (e : Account). e.memo.agents) c.requires.job.first)

pub returns-in-Some : goal.returns-in-Some
returns-in-Some g c =
    let at = (goal.at.returns-in-Some g c).After-index in
    let k = c.args.job.token in
    new_working c.args.trace.now c.args.pool.now k.account.who k c.index.result.now c.args.q c.of.result c.of.ensures ((its g at).is ∙ ap (λ (s : Scripted). Some s) (sym (read g at))) c.requires.job.of
