use Rattle.std.proofs.Common.{◌≡◌, Bool, sym, ap, ◌∙◌, subst}
use Rattle.shm_graph.specs.{declared.memo.{Kind.TheVariants.Client, Memo.Memo}, Agents.entered, Held.is_loose}
use Rattle.shm_graph.specs.Runs.{account_entered, first_memo}
use Rattle.shm_recover.specs.Join.{JoinGives, join_fresh}
use Rattle.shm_pool.specs.{Called.Rests, Tokens.{Token, me_of}}
use Rattle.shm_pool.proofs.Keeping.{rests_joined}
use Rattle.t_uses.proofs.single.enter.Goals as goal

pub returns-in-Ok-clause-rests : goal.returns-in-Ok-clause-rests
returns-in-Ok-clause-rests c =
    let e = c.in-Ok.ensures in
    let t = c.in-Ok.client in
    let k = c.args.token in
    let s = c.args.pool.now.start in
    let rests : Rests t = rests_joined (me_of k.of k.account) _ t t.account.memo.call (sym e.same.1) e.gives e.leaves.1 in
    let first : (account_entered Client k.account).memo ≡ entered Client (first_memo s k.account.who) = ap (λ (y : Token). (account_entered Client y.account).memo) c.requires.first.0 in
    let x = subst (λ (z : Memo). JoinGives (join_fresh (me_of k.of k.account)) z t.account.memo t.account.memo.call tt) first e.gives in
    record {
      alive = e.same.2;
      rests = rests;
      single = ap (λ (z : Memo). is_loose z.part) x.rest ∙ ap (λ (b : Bool). is_loose (first_memo (record s { tables = b }) k.account.who).part) c.requires.first.1;
      latch = e.leaves.0.latch;
    }
