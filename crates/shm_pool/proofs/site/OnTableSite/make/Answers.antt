use Rattle.std.proofs.Common.{sym, subst}
use Rattle.shm_graph.specs.declared.ask.Ask.{Ask}
use Rattle.shm_pool.specs.Sites.{MayMake}
use Rattle.shm_pool.proofs.site.OnTableSite.make.Goals as goal

pub load-requires : goal.load-requires
load-requires g c = let h = subst (λ (a : Ask). MayMake c.args.self.now.top.now.key c.args.self.now.top.now.table_id g.U.Say.then c.args.place.now a) c.in-Load.is c.requires in (h.table, h.here, h.allowed)

pub store-requires : goal.store-requires
store-requires g c = let h = subst (λ (a : Ask). MayMake c.args.self.now.top.now.key c.args.self.now.top.now.table_id g.U.Say.then c.args.place.now a) c.in-Store.is c.requires in (h.table, h.here, h.allowed)

pub compare_exchange-requires : goal.compare_exchange-requires
compare_exchange-requires g c = let h = subst (λ (a : Ask). MayMake c.args.self.now.top.now.key c.args.self.now.top.now.table_id g.U.Say.then c.args.place.now a) c.in-Exchange.is c.requires in (h.table, h.here, h.allowed)

pub returns-in-Load-clause-seen : goal.returns-in-Load-clause-seen
returns-in-Load-clause-seen g c =
    let h = subst (λ (a : Ask). MayMake c.args.self.now.top.now.key c.args.self.now.top.now.table_id g.U.Say.then c.args.place.now a) c.in-Load.is c.requires in
    sym (h.given c.load.result c.load.new.seat.me.0 c.load.ensures.2.0)

pub returns-in-Store-clause-seen : goal.returns-in-Store-clause-seen
returns-in-Store-clause-seen g c =
    let h = subst (λ (a : Ask). MayMake c.args.self.now.top.now.key c.args.self.now.top.now.table_id g.U.Say.then c.args.place.now a) c.in-Store.is c.requires in
    sym (h.given 0 c.store.new.seat.me.0 c.store.ensures.2.0)

pub returns-in-Exchange-clause-seen : goal.returns-in-Exchange-clause-seen
returns-in-Exchange-clause-seen g c =
    let h = subst (λ (a : Ask). MayMake c.args.self.now.top.now.key c.args.self.now.top.now.table_id g.U.Say.then c.args.place.now a) c.in-Exchange.is c.requires in
    sym (h.given c.compare_exchange.result c.compare_exchange.new.seat.me.0 c.compare_exchange.ensures.2.0)
