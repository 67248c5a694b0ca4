use Rattle.std.proofs.Common.{◌≡◌, List, sym, ap, ◌∙◌}
use Rattle.std.specs.Prelude.{Some, slice_get}
use Rattle.shm_graph.specs.Runs.{first_account}
use Rattle.shm_pool.specs.Tokens.{Its}
use Rattle.shm_replay.proofs.Seating.{script_read}
use Rattle.shm_script.specs.Values.{Scripted, Traced}
use Rattle.shm_team.specs.Jobs.{AreAgentsOf}
use Rattle.shm_team.proofs.Gathering.{agents_in, none_in}
use Rattle.shm_morgue.specs.Entries.{Puts}
use Rattle.shm_morgue.proofs.worker.work_at.{Given.Over, Goals.After-index}
use Rattle.shm_morgue.proofs.worker.work_at.Goals as goal

pub returns-in-None : goal.returns-in-None
returns-in-None g c =
    let is = c.requires.task.1 in
    (ap (λ (q : Puts). q.of) is, (ap (λ (q : Puts). q.entries) is, none_in c.args.trace.now c.args.pool.now c.args.task.job c.requires.task.0 c.in-None.is))

its : (g : Over) (c : After-index g) → AreAgentsOf c.args.trace.now c.args.pool.now.start c.args.task.job.token.account.who c.args.task.job.token.account c.in-Some.agents
its g c = agents_in c.args.trace.now c.args.pool.now c.args.task.job c.in-Some.agents c.requires.task.0 c.in-Some.is

-- the script that is read is theirs
script_at : (g : Over) (c : After-index g) → slice_get c.args.trace.now.scripts c.in-Some.agents.script ≡ Some c.index.result.now
script_at g c =
    let scripts : c.args.trace.now.scripts ≡ c.trace.inside.scripts.items = sym (ap (λ (t : Traced). t.scripts) c.trace.view_is) in
    let k = c.in-Some.agents.script in
    ap (λ (ss : List Scripted). slice_get ss k) scripts
    ∙ script_read c.trace.inside.scripts.items k c.script-at.result (its g c).script c.index.result.now (sym (ap (λ (ss : List Scripted). slice_get ss k) scripts) ∙ (its g c).at) c.script-at.ensures c.index.ensures

pub serve-outcome-requires-clause-porter : goal.serve-outcome-requires-clause-porter
serve-outcome-requires-clause-porter g c = λ κs within.
    let is = c.requires.task.1 in
    (ap (λ (q : Puts). q.of) is, ap (λ (q : Puts). q.client) is, ap (λ (q : Puts). q.entries) is)

pub serve-outcome-requires-clause-token : goal.serve-outcome-requires-clause-token
serve-outcome-requires-clause-token g c = λ κs within.
    let j = c.requires.task.0 in
    (j.of, j.first ∙ ap (λ (p : Its). first_account p.start c.args.task.job.token.account.who) (sym j.of))

pub serve-outcome-requires-clause-agents : goal.serve-outcome-requires-clause-agents
serve-outcome-requires-clause-agents g c = λ κs within. its g (goal.at.serve-outcome-requires-clause-agents g c).After-index

pub serve-outcome-requires-clause-script : goal.serve-outcome-requires-clause-script
serve-outcome-requires-clause-script g c = λ κs within. script_at g (goal.at.serve-outcome-requires-clause-script g c).After-index

pub returns : goal.returns
returns g c = (c.serve-outcome.ensures.of ∙ ap (λ (q : Puts). q.of) c.requires.task.1, c.serve-outcome.ensures.left)
