use Rattle.std.proofs.Common.{◌<◌, length, sym, ap, ◌∙◌, subst, arith}
use Rattle.std.specs.Prelude.{slice_index_or}
use Rattle.shm_graph.specs.declared.run.Account.{Account}
use Rattle.shm_pool.specs.Tokens.{token_first}
use Rattle.shm_team.specs.{Dones.logs_in, Lefts.{account_in, is_corpse}, Visits.IsVisited}
use Rattle.shm_team.proofs.Gathering.{as_many, back_all, tokens_of, visited_at, visits_logs}
use Rattle.shm_team.proofs.settling.settle.Goals as goal

pub visit_all-requires : goal.visit_all-requires
visit_all-requires g c = record { left = back_all c.args.pool 0 c.args.dones.items c.requires.back }

pub take_logs-requires-clause-many : goal.take_logs-requires-clause-many
take_logs-requires-clause-many g c = ap length c.deref_mut.ensures.value ∙ ((as_many c.args.pool c.args.dones.items c.in_ok-logs.logs.items c.in_ok-logs.tokens.items c.in_ok-logs.ensures.visits).0 ∙ c.requires.many)

pub close-requires : goal.close-requires
close-requires g c = tokens_of c.args.pool c.args.dones.items c.in_ok-logs.logs.items c.in_ok-logs.tokens.items (c.requires.many ∙ sym c.requires.clients) c.requires.back c.in_ok-logs.ensures.visits

pub returns : goal.returns
returns g c =
    let p = c.args.pool in
    let ds = c.args.dones.items in
    let ts = c.in_ok-logs.tokens.items in
    let closed = c.in_ok-closed.ensures in
    let v = c.in_ok-logs.ensures.visits in
    record {
      start = closed.start;
      run = closed.run;
      visited = λ k d l.
          let many = c.requires.many in
          let clients = c.requires.clients in
          let here : k < p.start.geometry.clients = omega arith in
          let x = slice_index_or ds k d in
          subst (λ (e : Account). IsVisited (is_corpse x.left) (account_in x.left) e) (sym (closed.account k (token_first p 0) here)) (visited_at p k ds c.in_ok-logs.logs.items ts d (token_first p 0) v l);
      logs = c.in_ok-take_logs.ensures ∙ (ap (logs_in c.args.trace.now.scripts) c.deref_mut.ensures.value ∙ ap (logs_in c.args.trace.now.scripts) (visits_logs p ds c.in_ok-logs.logs.items ts v));
    }
