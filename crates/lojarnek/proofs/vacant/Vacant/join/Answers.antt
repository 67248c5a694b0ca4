use Rattle.std.proofs.Common.{refl, sym}
use Rattle.shm_pool.specs.Tokens.{me_of}
use Rattle.lojarnek.proofs.{Parts.joined_map, Ready.ready_joined, Naming.joined_empty}
use Rattle.lojarnek.proofs.vacant.Vacant.join.Goals as goal

pub joined-requires-clause-ready : goal.joined-requires-clause-ready
joined-requires-clause-ready c = let t = c.self.inside.token in let e = c.in-Ok.ensures in ready_joined (me_of t.of t.account) _ c.in-Ok.client (sym e.same.1) e.gives e.leaves

pub joined-requires-clause-empty : goal.joined-requires-clause-empty
joined-requires-clause-empty c = let t = c.self.inside.token in let e = c.in-Ok.ensures in joined_empty t.of.start t.account c.in-Ok.client.account c.client.ensures.stood c.client.ensures.out e.same.1 e.keeps

pub returns : goal.returns
returns c =
    let t = c.self.inside.token in
    let e = c.in-Ok.ensures in
    rw (c.joined.ensures, ← c.self.view_is) (record { same = (e.same.0, e.same.1); alive = e.same.2; budget = refl; map = joined_map t.account c.in-Ok.client.account e.keeps })
