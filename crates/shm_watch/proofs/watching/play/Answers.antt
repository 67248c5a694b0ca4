use Rattle.std.proofs.Common.{sym, ap, ◌∙◌}
use Rattle.shm_plain.specs.Pools.{Pool}
use Rattle.shm_replay.specs.{Orders.rounds_of, Turns.given}
use Rattle.shm_watch.proofs.Giving.{given-append}
use Rattle.shm_watch.proofs.watching.play.Goals as goal

pub returns : goal.returns
returns g c =
    let t = c.args.trace.now in
    let (cs, ordered, first) = c.give_items.ensures.given in
    let (n, then) = c.give_rounds.ensures.given in
    record {
      items = cs;
      ordered = ordered;
      rounds = n;
      turns = then ∙ (ap (λ (x : Pool). given t x (rounds_of t.clients n)) first ∙ sym (given-append t c.args.pool.now cs (rounds_of t.clients n)));
      done = c.give_rounds.ensures.done;
    }
