use Rattle.std.proofs.Common.{◌≤◌, refl, length, arith}
use Rattle.shm_report.proofs.ChainReading.{walk_step, walk_end, walk_all, chain_length}
use Rattle.shm_report.proofs.table_rows.add_chain.Goals as goal

pub loop-init : goal.loop-init
loop-init c = λ es pool chain. record { rest = chain.is; added = refl }

pub loop-preserved : goal.loop-preserved
loop-preserved c = λ es pool chain. walk_step c.args.geometry c.args.words.now chain.client chain.bucket es c.loop.at c.loop.counter _ _ _ c.entry_at-entry.result (c.loop.invariant es pool chain) c.if-at-eq0.false (λ e is. c.entry_at-entry.ensures e pool is) c.in_ok-insert.ensures.entries

pub returns-after-loop : goal.returns-after-loop
returns-after-loop c = λ es pool chain.
    let l : length es ≤ c.loop.counter = omega (arith, chain_length c.args.geometry c.args.words.now c.args.first es chain, pool.whole) in
    walk_all c.args.geometry c.args.words.now chain.client chain.bucket es c.loop.at c.loop.counter _ _ (c.loop.invariant es pool chain) l

pub returns-then-at-eq0 : goal.returns-then-at-eq0
returns-then-at-eq0 c = λ es pool chain.
    let w = c.loop.invariant es pool chain in
    walk_end c.args.geometry c.args.words.now chain.client chain.bucket es c.loop.counter _ _ (rw c.if-at-eq0.true at w)
