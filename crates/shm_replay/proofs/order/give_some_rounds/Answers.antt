use Rattle.std.proofs.Common.{◌≡◌, zero, suc, true, refl, ◌∙◌, arith, rules}
use Rattle.shm_replay.proofs.Giving.{rounds_more}
use Rattle.shm_replay.proofs.order.give_some_rounds.Goals as goal

pub loop-round-init : goal.loop-round-init
loop-round-init g c = record { seated = c.requires.seated; turns = (zero, refl); life = omega arith; start = refl }

pub loop-round-preserved : goal.loop-round-preserved
loop-round-preserved g c =
    let h = c.loop-round.invariant in
    let got = c.give_round.ensures in
    let (n, is) = h.turns in
    let went : c.give_round.result ≡ true = search rules in
    let fell = got.some went in
    let life = h.life in
    record {
      seated = got.seated;
      turns = (suc n, rounds_more c.args.trace.now c.args.pool.now c.loop-round.pool c.give_round.new.pool n is got.given);
      life = omega arith;
      start = got.start ∙ h.start;
    }

pub returns-then-not-give_round-clause-given : goal.returns-then-not-give_round-clause-given
returns-then-not-give_round-clause-given g c =
    let (n, is) = c.loop-round.invariant.turns in
    (suc n, rounds_more c.args.trace.now c.args.pool.now c.loop-round.pool c.give_round.new.pool n is c.give_round.ensures.given)

pub returns-clause-some : goal.returns-clause-some
returns-clause-some g c e = let life = c.loop-round.invariant.life in omega arith
