use Rattle.std.proofs.Common.{subst, sym}
use Rattle.shm_pool.specs.Tokens.{AllOf}
use Rattle.lojarnek.specs.Pools.{AreDesks}
use Rattle.lojarnek.proofs.Lists.{all_front, all_last, desks_pushed}
use Rattle.lojarnek.proofs.pool.Pool.open.Goals as goal

pub desk-desk-requires : goal.desk-desk-requires
desk-desk-requires c = all_last _ c.pop.new.self.items c.in-Some.token (subst (λ ts. AllOf c.args.shared ts) c.in-Some.ensures.items c.loop-token.invariant.0)

pub loop-token-preserved : goal.loop-token-preserved
loop-token-preserved c =
    let all = c.loop-token.invariant.0 in
    let desks = c.loop-token.invariant.1 in (
      all_front _ c.pop.new.self.items c.in-Some.token (subst (λ ts. AllOf c.args.shared ts) c.in-Some.ensures.items all),
      subst (λ ds. AreDesks c.args.shared ds) (sym c.push.ensures.items) (desks_pushed c.args.shared c.loop-token.desks.items c.desk-desk.result _ desks c.desk-desk.ensures),
    )
