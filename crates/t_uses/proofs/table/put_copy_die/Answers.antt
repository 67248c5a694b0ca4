use Rattle.std.proofs.Common.{sym, ap, ◌∙◌, subst, arith}
use Rattle.shm_graph.specs.{declared.memo.Memo.Memo, Agents.recovers, Held.is_loose}
use Rattle.shm_plain.specs.Pools.{Pool, memo_of}
use Rattle.shm_client.proofs.QueueReady.{one_not_zero, zero_not_one}
use Rattle.shm_client.specs.Running.{MapSo}
use Rattle.shm_script.specs.declared.line.Line.TheVariants as line
use Rattle.shm_table.specs.Command.Maps.{MapSoFar}
use Rattle.t_uses.proofs.Attempts.{fall_other, so_after, work_other}
use Rattle.t_uses.proofs.table.put_copy_die.Goals as goal

pub attempt-second-requires-clause-at_work : goal.attempt-second-requires-clause-at_work
attempt-second-requires-clause-at_work c = work_other 0 1 c.command.new.pool c.command-2.new.pool _ _ _ _ c.in_ok-first.ensures.at_work zero_not_one c.command-2.ensures.ran

pub attempt-second-requires-clause-may : goal.attempt-second-requires-clause-may
attempt-second-requires-clause-may c =
    let work = work_other 0 1 c.command.new.pool c.command-2.new.pool _ _ _ _ c.in_ok-first.ensures.at_work zero_not_one c.command-2.ensures.ran in
    let same = c.command-2.ensures.others 0 zero_not_one in (
      record {
        geometry = work.geometry;
        who = work.who;
        idle = work.idle;
        client = ap recovers same ∙ (c.in_ok-first.ensures.kind ∙ c.requires.first.client);
        none = ap (λ (m : Memo). m.latch) same ∙ c.in_ok-first.ensures.rests.latch;
        table = ap (λ (m : Memo). is_loose m.part) same ∙ (c.in_ok-first.ensures.rests.loose ∙ c.requires.first.table);
        small = omega arith;
      },
      omega arith,
    )

pub returns-clause-own : goal.returns-clause-own
returns-clause-own c =
    let m : Memo = memo_of c.command.new.pool 0 in
    let so = subst (λ (x : Memo). MapSoFar (line.Put 5 78) c.attempt-second.result x (memo_of c.attempt-second.new.pool 0)) (c.command-2.ensures.others 0 zero_not_one) c.attempt-second.ensures.map in
    (m, c.in_ok-first.ensures.map, so_after (line.Put 5 78) c.attempt-second.result m (memo_of c.attempt-second.new.pool 0) (memo_of c.recover-recovery.new.pool 0) (c.recover-recovery.ensures.map ∙ c.die.ensures.map) so)

pub returns-clause-copy : goal.returns-clause-copy
returns-clause-copy c =
    let before = c.command.ensures.others 1 one_not_zero in
    let after =
    c.recover-recovery.ensures.ran.others 1 one_not_zero
    ∙ (ap (λ (q : Pool). memo_of q 1) c.die.ensures.fallen
    ∙ (fall_other c.attempt-second.new.pool 0 1 one_not_zero ∙ c.attempt-second.ensures.others 1 one_not_zero)) in
    subst (λ (r : Memo). MapSo (line.Copy 9 0 5) c.in_ok-copy.copy (memo_of c.args.pool.now 1) r) (sym after)
    (subst (λ (m : Memo). MapSo (line.Copy 9 0 5) c.in_ok-copy.copy m (memo_of c.command-2.new.pool 1)) before c.in_ok-copy.ensures.map)
