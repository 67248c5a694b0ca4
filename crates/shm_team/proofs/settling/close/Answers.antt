use Rattle.std.proofs.Common.{List, ap, ◌∙◌}
use Rattle.shm_graph.specs.{declared.run.Account.Account, Runs.account_at}
use Rattle.shm_team.proofs.Tokens.{account_in, all_of, none_missing}
use Rattle.shm_team.proofs.settling.close.Goals as goal

pub close-requires : goal.close-requires
close-requires c = all_of c.args.pool c.args.tokens.items c.requires.of

pub returns-in-Ok : goal.returns-in-Ok
returns-in-Ok c = record {
  start = c.in-Ok.ensures.ok.0;
  run = c.words.ensures.end;
  account = λ k t l. ap (λ (es : List Account). account_at es k) c.in-Ok.ensures.ok.1 ∙ account_in c.args.pool c.args.tokens.items c.requires k t l;
}

pub unreachable-requires : goal.unreachable-requires
unreachable-requires c =
    let k = c.in-Missing.client in
    let missing = rw c.in-Missing.is at c.in-Err.ensures.missing in
    none_missing c.args.pool c.args.tokens.items c.requires k missing.0 missing.1
