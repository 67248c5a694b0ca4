use Rattle.std.proofs.{Common.{◌≤◌, ◌*◌, ℕ, ap, arith}, Math.Nat.mul-le-mul_left}
use Rattle.shm_graph.specs.declared.run.Start.{Start}
use Rattle.shm_async.proofs.runs.poll_limit.Goals as goal

most : (q n : ℕ) → q ≤ 1000000 → n ≤ 1000000 → q * n ≤ 1000000000000
most q n few less = let h = mul-le-mul_left q less in omega (arith, h)

pub overflow_mul-turns : goal.overflow_mul-turns
overflow_mul-turns g c = let h = most c.args.q c.args.limit c.requires.turns.1 c.requires.polls.1 in omega (arith, h)

pub of-requires-clause-room : goal.of-requires-clause-room
of-requires-clause-room g c =
    let h = most c.args.q c.args.limit c.requires.turns.1 c.requires.polls.1 in
    let era = ap (λ (s : Start). s.first_era) c.requires.start in
    omega (arith, h, era)

pub poll_out-requires : goal.poll_out-requires
poll_out-requires g c = c.in_ok-members.ensures
