use Rattle.std.proofs.Common.{◌≡◌, rules, Ok, Some, arith}
use Rattle.t_uses.proofs.machine.shared_root.Goals as goal

pub share-requires-clause-at_work : goal.share-requires-clause-at_work
share-requires-clause-at_work c =
    let e : c.allocate.result ≡ Ok (Some (Ok c.in_ok-made.made)) = search rules in
    rw e at c.allocate.ensures.at_work

pub share-requires-clause-reached : goal.share-requires-clause-reached
share-requires-clause-reached c =
    let e : c.allocate.result ≡ Ok (Some (Ok c.in_ok-made.made)) = search rules in
    let inside = rw e at c.allocate.ensures.inside in
    (rw e at c.allocate.ensures.reached) c.in_ok-made.made.root c.in_ok-made.made.block (rw e at c.allocate.ensures.number) (λ z. let a = inside.0 in omega arith) (rw e at c.allocate.ensures.root)
