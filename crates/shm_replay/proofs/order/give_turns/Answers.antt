use Rattle.std.proofs.Common.{◌≡◌, List, refl, sym, ap, ◌∙◌, arith}
use Rattle.std.specs.Prelude.{Some, slice_get}
use Rattle.shm_script.specs.Values.{Scripted, Traced}
use Rattle.shm_agents.specs.TurnsLeft.{turns_by}
use Rattle.shm_replay.proofs.{Rows.{Rounds, rounds}, Seating.{script_read, seat_stands}, order.give_turns.Given.Over}
use Rattle.shm_replay.proofs.order.give_turns.Goals.{After-index, After-turns}
use Rattle.shm_replay.proofs.order.give_turns.Goals as goal

-- the script that is read
read : (g : Over) (c : After-index g) → slice_get c.args.trace.now.scripts c.args.agents.now.script ≡ Some c.index.result.now
read g c =
    let scripts : c.args.trace.now.scripts ≡ c.trace.inside.scripts.items = sym (ap (λ (t : Traced). t.scripts) c.trace.view_is) in
    let k = c.args.agents.now.script in
    ap (λ (ss : List Scripted). slice_get ss k) scripts
    ∙ script_read c.trace.inside.scripts.items k c.script.result c.requires.seat.script c.index.result.now (sym (ap (λ (ss : List Scripted). slice_get ss k) scripts) ∙ c.requires.seat.at) c.script.ensures c.index.ensures

pub turns-requires-clause-run : goal.turns-requires-clause-run
turns-requires-clause-run g c = c.geometry.ensures.run

pub turns-requires-clause-who : goal.turns-requires-clause-who
turns-requires-clause-who g c = c.requires.seat.stands.may.who

pub turns-requires-clause-stands : goal.turns-requires-clause-stands
turns-requires-clause-stands g c = seat_stands c.args.trace.now c.args.pool.now c.args.agents.now.me.who c.args.agents.now c.index.result.now c.requires.seat (read g (goal.at.turns-requires-clause-stands g c).After-index)

-- the rounds
ran : (g : Over) (c : After-turns g) → Rounds c.args.trace.now c.args.agents.now.me.who c.requires.who c.index.result.now c.args.pool.now c.args.agents.now c.turns.new.pool c.turns.new.self
ran g c =
    let row = c.turns.ensures.row in
    rounds c.args.trace.now c.args.agents.now.me.who c.requires.who c.index.result.now row.0 c.args.pool.now c.args.agents.now c.turns.new.pool c.turns.new.self
    (record { seat = c.requires.seat; at = read g (goal.at.After-turns g c).After-index; who = refl; idle = c.requires.lone }) row.1

pub returns-clause-seat : goal.returns-clause-seat
returns-clause-seat g c = (ran g (goal.at.returns-clause-seat g c).After-turns).lone.seat

pub returns-clause-given : goal.returns-clause-given
returns-clause-given g c = let r = ran g (goal.at.returns-clause-given g c).After-turns in (r.many, r.turns)

pub returns-clause-lone : goal.returns-clause-lone
returns-clause-lone g c = (ran g (goal.at.returns-clause-lone g c).After-turns).lone.idle

pub returns-clause-me : goal.returns-clause-me
returns-clause-me g c = (ran g (goal.at.returns-clause-me g c).After-turns).me

pub returns-clause-others : goal.returns-clause-others
returns-clause-others g c = (ran g (goal.at.returns-clause-others g c).After-turns).others

pub returns-clause-start : goal.returns-clause-start
returns-clause-start g c = (ran g (goal.at.returns-clause-start g c).After-turns).start

pub returns-clause-turns : goal.returns-clause-turns
returns-clause-turns g c =
    let at = goal.at.returns-clause-turns g c in
    let read_is = read g at.After-index in
    let ss = c.args.trace.now.scripts in
    let old = ap (turns_by c.args.agents.now) read_is in
    let new = ap (turns_by c.turns.new.self) (ap (slice_get ss) (ran g at.After-turns).script ∙ read_is) in
    let fell = c.turns.ensures.turns in
    omega arith
