use Rattle.std.proofs.Common.{◌≡◌, ◌≢◌, ◌<◌, ℕ, length, sym, ap, ◌∙◌, subst, arith, rules}
use Rattle.std.specs.Prelude.{None, Some, slice_index_or}
use Rattle.shm_graph.specs.declared.ask.Me.{Me}
use Rattle.shm_agents.specs.{declared.agents.Standing.TheVariants.AtWork, Agents.{Playing, is_at_work}}
use Rattle.shm_replay.specs.{Seats.{IsSeat, Seat, turns_in}, Turns.in_a_row}
use Rattle.shm_replay.proofs.Seating.{any_or, seat_busy, seats_set, turns_set}
use Rattle.shm_watch.proofs.order.give_one.Given.{Over}
use Rattle.shm_watch.proofs.order.give_one.Goals.{In-Some}
use Rattle.shm_watch.proofs.order.give_one.Goals as goal

few : (g : Over) (c : In-Some g) → c.args.who < length c.args.agents.now
few g c = subst (λ (n : ℕ). c.args.who < n) (sym c.requires.seated.many) c.requires.who

is : (g : Over) (c : In-Some g) → slice_index_or c.args.agents.now c.args.who None ≡ Some c.in-Some.own
is g c = any_or c.args.agents.now c.args.who None c.index-agents-who.result (few g c) ∙ c.in-Some.is

seat : (g : Over) (c : In-Some g) → IsSeat c.args.trace.now c.args.pool.now c.args.who c.in-Some.own
seat g c = subst (Seat c.args.trace.now c.args.pool.now c.args.who) (is g c) (c.requires.seated.seats c.args.who c.requires.who)

same : (g : Over) (c : In-Some g) → c.in-Some.own.me.who ≡ c.args.who
same g c = ap (λ (m : Me). m.who) (seat g c).me

pub give_turn-requires : goal.give_turn-requires
give_turn-requires g c =
    let at = (goal.at.give_turn-requires g c).In-Some in
    record { seat = subst (λ (n : ℕ). IsSeat c.args.trace.now c.args.pool.now n c.in-Some.own) (sym (same g at)) (seat g at) }

pub returns-in-Some-clause-seated : goal.returns-in-Some-clause-seated
returns-in-Some-clause-seated g c =
    let at = (goal.at.returns-in-Some-clause-seated g c).In-Some in
    let got = c.give_turn.ensures in
    seats_set c.args.trace.now c.args.pool.now c.give_turn.new.pool c.args.agents.now c.args.who c.give_turn.new.agents c.requires.seated c.requires.who got.start
    (λ d o. got.others d (λ f. o (f ∙ same g at))) (subst (λ (n : ℕ). IsSeat c.args.trace.now c.give_turn.new.pool n c.give_turn.new.agents) (same g at) got.seat)

pub returns-in-Some-clause-given : goal.returns-in-Some-clause-given
returns-in-Some-clause-given g c =
    let at = (goal.at.returns-in-Some-clause-given g c).In-Some in
    subst (λ (n : ℕ). c.give_turn.new.pool ≡ in_a_row c.args.trace.now c.args.pool.now n 1) (same g at) c.give_turn.ensures.given

pub returns-in-Some-clause-busy : goal.returns-in-Some-clause-busy
returns-in-Some-clause-busy g c =
    let at = (goal.at.returns-in-Some-clause-busy g c).In-Some in
    let flag : c.eq-busy.result ≡ is_at_work c.in-Some.own.standing = search rules in
    flag ∙ sym (seat_busy c.args.trace.now c.args.pool.now c.args.who c.in-Some.own (seat g at))

pub returns-in-Some-clause-some : goal.returns-in-Some-clause-some
returns-in-Some-clause-some g c busy =
    let at = (goal.at.returns-in-Some-clause-some g c).In-Some in
    let here : c.in-Some.own.standing ≡ AtWork = search rules in
    let fell = c.give_turn.ensures.turns here in
    let sums = turns_set c.args.trace.now.scripts c.args.agents.now c.args.who c.in-Some.own c.give_turn.new.agents (few g at) (is g at) in
    omega arith

pub returns-in-Some-clause-none : goal.returns-in-Some-clause-none
returns-in-Some-clause-none g c idle =
    let at = (goal.at.returns-in-Some-clause-none g c).In-Some in
    let rest : c.in-Some.own.standing ≢ AtWork = search rules in
    let left = ap (λ (x : Playing). turns_in c.args.trace.now.scripts (Some x)) (c.give_turn.ensures.still rest) in
    let sums = turns_set c.args.trace.now.scripts c.args.agents.now c.args.who c.in-Some.own c.give_turn.new.agents (few g at) (is g at) in
    omega arith
