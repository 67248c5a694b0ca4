use Rattle.std.proofs.Common.{refl}
use Rattle.shm_plain.specs.Pools.{memo_of}
use Rattle.shm_alloc.specs.Alloc.{AllocGives}
use Rattle.shm_tree.proofs.Asking.{asked_by, asks_answered, asks_refused}
use Rattle.shm_tree.proofs.ground.allocate_by.Goals as goal

pub returns-in_err-made : goal.returns-in_err-made
returns-in_err-made c = asks_refused _ c.from_residual.result c.from_residual.ensures.1 (c.in_err-made.ensures.refused.0 refl)

pub returns : goal.returns
returns c =
    let p = c.args.pool.now in
    let q = c.allocate_near.new.pool in
    let a = c.in_ok-made.ensures in
    record {
      refused = a.refused;
      gives = asks_answered c.args.hints p.start.geometry c.args.plain.now c.begins-near.result (λ m b. AllocGives m (memo_of p 0) (memo_of q 0) (memo_of q 0).call b) c.in_ok-made.made c.begins-near.ensures a.gives;
      number = a.number;
      root = a.root;
      roots = a.roots;
      at_work = a.at_work;
      ran = a.ran;
      events = a.events;
      told =
          λ some.
          (let (m, asked, did) = a.told some in
          (m, asked_by c.args.hints p.start.geometry c.args.plain.now m c.begins-near.result c.begins-near.ensures asked, did));
    }
