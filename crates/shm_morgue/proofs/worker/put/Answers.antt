use Rattle.std.proofs.Common.{◌∷◌, ◌++◌, [], List, length, ap, sym, ◌∙◌, subst, arith}
use Rattle.std.specs.List.{Contains}
use Rattle.shm_pool.specs.Tokens.{Token}
use Rattle.shm_morgue.specs.{declared.rule.Taken.Taken, Dead.IsRescue, Entries.{Puts, entry}}
use Rattle.shm_morgue.proofs.worker.put.Goals as goal

pub put-requires-clause-few : goal.put-requires-clause-few
put-requires-clause-few g c = let none = ap (λ (xs : List Taken). length xs) c.requires.porter.1 in omega arith

pub put-requires-clause-pool : goal.put-requires-clause-pool
put-requires-clause-pool g c = subst (Contains g.J.Pools.pools) (sym c.requires.corpse.0) c.requires.pool

pub returns-in-Ok-clause-put : goal.returns-in-Ok-clause-put
returns-in-Ok-clause-put g c =
    let p = c.in-Ok.ensures.put in
    let none = c.requires.porter.1 in
    let first = p.0 ∙ ap (λ (xs : List Taken). length xs) none in
    p.1 ∙ (λ i. none i ++ entry c.args.corpse (first i) ∷ [])

pub returns-in-Err-clause-put : goal.returns-in-Err-clause-put
returns-in-Err-clause-put g c =
    let full = c.in-Err.ensures.full in
    (ap (λ (q : Puts). q.entries) full.1 ∙ c.requires.porter.1, subst (λ (t : Token). IsRescue c.args.trace.now c.args.pool.now t c.rescue.result) full.0 c.rescue.ensures)
