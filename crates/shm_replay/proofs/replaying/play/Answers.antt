use Rattle.std.proofs.Common.{◌≡◌, ◌<◌, ℕ, sym, ap, ◌∙◌, subst}
use Rattle.std.specs.Prelude.{None, slice_index_or}
use Rattle.shm_plain.specs.Pools.{Pool}
use Rattle.shm_replay.specs.{Closings.AreVisits, Orders.{IsGivenAll, rounds_of}, Turns.given}
use Rattle.shm_replay.proofs.{Ending.seat_may, Giving.given-append, replaying.play.{Given.Over, Goals.After-visit_all}}
use Rattle.shm_replay.proofs.replaying.play.Goals as goal

pub visit_all-requires-clause-may : goal.visit_all-requires-clause-may
visit_all-requires-clause-may g c k l =
    let h = c.give_rounds.ensures.seated in
    seat_may c.args.trace.now c.give_rounds.new.pool k (slice_index_or c.give_rounds.new.agents k None) (h.seats k (subst (λ n. k < n) h.clients l)) (c.give_rounds.ensures.done k)

-- the turns of the trace were given
all : (g : Over) (c : After-visit_all g) → IsGivenAll c.args.trace.now c.args.pool.now c.give_rounds.new.pool
all g c =
    let t = c.args.trace.now in
    let (cs, ordered, first) = c.give_items.ensures.given in
    let (n, then) = c.give_rounds.ensures.given in
    record {
      items = cs;
      ordered = ordered;
      rounds = n;
      turns = then ∙ (ap (λ (x : Pool). given t x (rounds_of t.clients n)) first ∙ sym (given-append t c.args.pool.now cs (rounds_of t.clients n)));
      done = c.give_rounds.ensures.done;
    }

pub returns-clause-played : goal.returns-clause-played
returns-clause-played g c =
    let t = c.args.trace.now in
    let q = c.give_rounds.new.pool in
    let xs = c.give_rounds.new.agents in
    let p = c.visit_all.new.pool in
    let clients : q.start.geometry.clients ≡ t.clients = c.give_rounds.ensures.seated.clients in
    let few : (k : ℕ) → k < t.clients → k < q.start.geometry.clients = (λ k l. subst (λ n. k < n) (sym clients) l) in (
      q,
      all g (goal.at.returns-clause-played g c).After-visit_all,
      c.give_rounds.ensures.seated,
      subst (λ (n : ℕ). AreVisits 0 n q p) clients c.visit_all.ensures.visits,
      c.geometry.ensures.run,
      λ k l. c.visit_all.ensures.table k (few k l),
      λ k l. c.visit_all.ensures.told k (few k l),
    )
