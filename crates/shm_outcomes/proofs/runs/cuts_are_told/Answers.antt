use Rattle.std.specs.Prelude.{Option}
use Rattle.std.proofs.Common.{sym, ◌∙◌, subst}
use Rattle.shm_agents.specs.Turns.{lives_of}
use Rattle.shm_graph.specs.Runs.{account_at}
use Rattle.shm_script.specs.Values.{Scripted}
use Rattle.shm_team.specs.Rans.{HasAgents}
use Rattle.shm_outcomes.proofs.{Crewing.died_at, Cutting.{cut_at, cut_in}, Dying.{agents_lived, given_at, script_fits}}
use Rattle.shm_outcomes.proofs.runs.cuts_are_told.Goals as goal

pub returns-clause-clients : goal.returns-clause-clients
returns-clause-clients c = λ t turns p ls h who s steps below is began less.
    let (r, at, cut) = cut_in turns p.accounts who s t.scripts h.scripts h.limited is in
    let e = account_at p.accounts who in
    let own = subst (λ (x : Option Scripted). HasAgents x e) at (h.run.agents who below) in
    cut_at turns steps s r cut (died_at r e own steps began) less

pub returns-clause-agents : goal.returns-clause-agents
returns-clause-agents c = λ t turns p ls trace h who s before behind a below is agents died less.
    let (r, at, cut) = cut_in turns p.accounts who s t.scripts h.scripts h.limited is in
    let e = account_at p.accounts who in
    let own = subst (λ (x : Option Scripted). HasAgents x e) at (h.run.agents who below) in
    let fits = script_fits t.clients t.scripts who s trace.scripts is in
    let lived = agents_lived own.others own.lines own.dead own.closers a behind died r.lines (lives_of r.life) own.first own.before own.own before (sym own.agents ∙ agents) in
    given_at turns s r before a fits.life cut lived less
