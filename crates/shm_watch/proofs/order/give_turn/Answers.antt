use Rattle.std.proofs.Common.{◌≡◌, ◌≢◌, List, sym, ap, ◌∙◌, arith, rules}
use Rattle.std.specs.Prelude.{Some, slice_get}
use Rattle.shm_graph.specs.{declared.ask.Me.Me, Runs.account_at}
use Rattle.shm_plain.specs.Pools.{Pool}
use Rattle.shm_script.specs.Values.{Scripted, Traced}
use Rattle.shm_agents.specs.{declared.agents.Standing.TheVariants.AtWork, Agents.Playing, TurnsLeft.turns_by}
use Rattle.shm_replay.specs.{Seats.IsSeat, Turns.worked}
use Rattle.shm_watch.proofs.Answering.{turn_grows}
use Rattle.shm_replay.proofs.Seating.{client_here, script_read, seat_after, seat_of, seat_stands, seat_still, seat_turn}
use Rattle.shm_watch.proofs.{Worked.{worked_by, worked_others}, order.give_turn.Given.Over}
use Rattle.shm_watch.proofs.order.give_turn.Goals.{After-index, After-turn}
use Rattle.shm_watch.proofs.order.give_turn.Goals as goal

-- the script that is read
read : (g : Over) (c : After-index g) → slice_get c.args.trace.now.scripts c.args.agents.now.script ≡ Some c.index.result.now
read g c =
    let scripts : c.args.trace.now.scripts ≡ c.trace.inside.scripts.items = sym (ap (λ (t : Traced). t.scripts) c.trace.view_is) in
    let k = c.args.agents.now.script in
    ap (λ (ss : List Scripted). slice_get ss k) scripts
    ∙ script_read c.trace.inside.scripts.items k c.script.result c.requires.seat.script c.index.result.now (sym (ap (λ (ss : List Scripted). slice_get ss k) scripts) ∙ c.requires.seat.at) c.script.ensures c.index.ensures

seat : (g : Over) (c : After-turn g) → slice_get c.args.trace.now.scripts c.args.agents.now.script ≡ Some c.index.result.now → IsSeat c.args.trace.now c.turn.new.pool c.args.agents.now.me.who c.turn.new.self
seat g c at =
    let got = c.turn.ensures in
    seat_after c.args.trace.now c.args.pool.now c.turn.new.pool c.args.agents.now.me.who c.args.agents.now c.turn.new.self c.index.result.now c.requires.seat at got.start got.me got.script got.stands

pub turn-requires-clause-stands : goal.turn-requires-clause-stands
turn-requires-clause-stands g c = seat_stands c.args.trace.now c.args.pool.now c.args.agents.now.me.who c.args.agents.now c.index.result.now c.requires.seat (read g (goal.at.turn-requires-clause-stands g c).After-index)

pub turn-requires-clause-has : goal.turn-requires-clause-has
turn-requires-clause-has g c = (c.geometry.ensures.run, c.requires.seat.stands.may.who)

-- the turn that it is
took : (g : Over) (c : After-turn g) → c.args.agents.now.standing ≡ AtWork → c.turn.new.pool ≡ worked (Some c.args.agents.now.work) c.args.agents.now.life.left c.args.agents.now.me.who c.args.pool.now
took g c here =
    let p : Pool = c.args.pool.now in
    let x : Playing = c.args.agents.now in
    worked_by p c.turn.new.pool x.me.who x.life.left x.work (ap (λ (m : Me). m.who) (seat_of c.args.trace.now p x.me.who x c.requires.seat here).0) c.turn.ensures.stepped c.turn.ensures.fell

pub returns-then-eq-clause-seat : goal.returns-then-eq-clause-seat
returns-then-eq-clause-seat g c = seat g c (read g (goal.at.returns-then-eq-clause-seat g c).After-index)

pub returns-then-eq-clause-given : goal.returns-then-eq-clause-given
returns-then-eq-clause-given g c =
    let here : c.args.agents.now.standing ≡ AtWork = search rules in
    seat_turn c.args.trace.now c.args.pool.now c.args.agents.now.me.who c.args.agents.now c.requires.seat c.turn.new.pool here (took g c here)

pub returns-then-eq-clause-others : goal.returns-then-eq-clause-others
returns-then-eq-clause-others g c d other =
    let here : c.args.agents.now.standing ≡ AtWork = search rules in
    let p : Pool = c.args.pool.now in
    let x : Playing = c.args.agents.now in
    ap (λ (z : Pool). account_at z.accounts d) (took g c here) ∙ worked_others p x.me.who d x.life.left x.work (seat_of c.args.trace.now p x.me.who x c.requires.seat here) other

pub returns-then-eq-clause-start : goal.returns-then-eq-clause-start
returns-then-eq-clause-start g c = c.turn.ensures.start

pub returns-then-eq-clause-turns : goal.returns-then-eq-clause-turns
returns-then-eq-clause-turns g c here =
    let got = c.turn.ensures in
    let at = read g (goal.at.returns-then-eq-clause-turns g c).After-index in
    let ss = c.args.trace.now.scripts in
    let old = ap (turns_by c.args.agents.now) at in
    let new = ap (turns_by c.turn.new.self) (ap (slice_get ss) got.script ∙ at) in
    let fell = got.turns in
    omega arith

pub returns-then-eq-clause-grows : goal.returns-then-eq-clause-grows
returns-then-eq-clause-grows g c old new =
    let got = c.turn.ensures in
    turn_grows c.args.trace.now c.args.pool.now c.turn.new.pool c.args.agents.now.me.who c.args.agents.now c.turn.new.self c.requires.seat (seat g c (read g (goal.at.returns-then-eq-clause-grows g c).After-index)) old new got.start (took g c (client_here c.args.agents.now old).0) got.has.0

pub returns-else-eq-clause-given : goal.returns-else-eq-clause-given
returns-else-eq-clause-given g c =
    let rest : c.args.agents.now.standing ≢ AtWork = search rules in
    seat_still c.args.trace.now c.args.pool.now c.args.agents.now.me.who c.args.agents.now c.requires.seat rest
