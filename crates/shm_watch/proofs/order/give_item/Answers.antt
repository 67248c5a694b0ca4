use Rattle.std.proofs.{Common.{◌≡◌, ◌<◌, ℕ, refl, sym, ap, ◌∙◌, subst}, lemmas.List.set-get_or}
use Rattle.std.specs.Prelude.{None}
use Rattle.shm_graph.specs.declared.ask.Me.{Me}
use Rattle.shm_replay.specs.{Orders.IsUntilAnswered, Seats.{AreSeated, IsSeat, Seat}, Turns.in_a_row}
use Rattle.shm_replay.proofs.Seating.{any_or, none_given, seats_set}
use Rattle.shm_watch.proofs.order.give_item.{Given.Over, Goals.In-Some}
use Rattle.shm_watch.proofs.order.give_item.Goals as goal

seat : (g : Over) (c : In-Some g) → IsSeat c.args.trace.now c.args.pool.now c.args.item.client c.in-Some.own
seat g c =
    let few = subst (λ (n : ℕ). c.args.item.client < n) (sym c.requires.seated.many) c.requires.item in
    subst (Seat c.args.trace.now c.args.pool.now c.args.item.client) (any_or c.args.agents.now c.args.item.client None c.index-agents-item.result few ∙ c.in-Some.is) (c.requires.seated.seats c.args.item.client c.requires.item)

who : (g : Over) (c : In-Some g) → c.in-Some.own.me.who ≡ c.args.item.client
who g c = ap (λ (m : Me). m.who) (seat g c).me

pub give_until_answered-requires : goal.give_until_answered-requires
give_until_answered-requires g c =
    let at = (goal.at.give_until_answered-requires g c).In-Some in
    record { seat = subst (λ (n : ℕ). IsSeat c.args.trace.now c.args.pool.now n c.in-Some.own) (sym (who g at)) (seat g at) }

pub give_row-requires : goal.give_row-requires
give_row-requires g c =
    let at = (goal.at.give_row-requires g c).In-Some in
    record { seat = subst (λ (n : ℕ). IsSeat c.args.trace.now c.args.pool.now n c.in-Some.own) (sym (who g at)) (seat g at) }

pub returns-then-item-eq0-clause-seated : goal.returns-then-item-eq0-clause-seated
returns-then-item-eq0-clause-seated g c =
    let at = (goal.at.returns-then-item-eq0-clause-seated g c).In-Some in
    let got = c.give_until_answered.ensures in
    seats_set c.args.trace.now c.args.pool.now c.give_until_answered.new.pool c.args.agents.now c.args.item.client c.give_until_answered.new.agents c.requires.seated c.requires.item got.start
    (λ d o. got.others d (λ f. o (f ∙ who g at))) (subst (λ (n : ℕ). IsSeat c.args.trace.now c.give_until_answered.new.pool n c.give_until_answered.new.agents) (who g at) got.seat)

pub returns-else-item-eq0-clause-seated : goal.returns-else-item-eq0-clause-seated
returns-else-item-eq0-clause-seated g c =
    let at = (goal.at.returns-else-item-eq0-clause-seated g c).In-Some in
    let got = c.give_row.ensures in
    seats_set c.args.trace.now c.args.pool.now c.give_row.new.pool c.args.agents.now c.args.item.client c.give_row.new.agents c.requires.seated c.requires.item got.start
    (λ d o. got.others d (λ f. o (f ∙ who g at))) (subst (λ (n : ℕ). IsSeat c.args.trace.now c.give_row.new.pool n c.give_row.new.agents) (who g at) got.seat)

pub returns-in_default-clause-seated : goal.returns-in_default-clause-seated
returns-in_default-clause-seated g c = subst (AreSeated c.args.trace.now c.args.pool.now) (sym (set-get_or c.args.agents.now c.args.item.client c.index-agents-item.result)) c.requires.seated

pub returns-in_default-clause-given : goal.returns-in_default-clause-given
returns-in_default-clause-given g c =
    let few = subst (λ (n : ℕ). c.args.item.client < n) (sym c.requires.seated.many) c.requires.item in
    none_given c.args.trace.now c.args.pool.now c.args.item (subst (Seat c.args.trace.now c.args.pool.now c.args.item.client) (any_or c.args.agents.now c.args.item.client None c.index-agents-item.result few ∙ c.in_default.is) (c.requires.seated.seats c.args.item.client c.requires.item))

pub returns-then-item-eq0-clause-given : goal.returns-then-item-eq0-clause-given
returns-then-item-eq0-clause-given g c =
    let at = (goal.at.returns-then-item-eq0-clause-given g c).In-Some in
    let t = c.args.trace.now in
    let p = c.args.pool.now in
    let q = c.give_until_answered.new.pool in
    let x = subst (λ (k : ℕ). (n : ℕ) × IsUntilAnswered t p k n × (q ≡ in_a_row t p k n)) (who g at) c.give_until_answered.ensures.given in
    (x.0, record { counted = λ o. absurd (o c.if-item-eq0.true); bare = λ z. x.1 }, x.2)

pub returns-else-item-eq0-clause-given : goal.returns-else-item-eq0-clause-given
returns-else-item-eq0-clause-given g c =
    let at = (goal.at.returns-else-item-eq0-clause-given g c).In-Some in
    let t = c.args.trace.now in
    let p = c.args.pool.now in
    let q = c.give_row.new.pool in
    let i = c.args.item in
    (i.turns, record { counted = λ o. refl; bare = λ z. absurd (c.if-item-eq0.false z) }, subst (λ (k : ℕ). q ≡ in_a_row t p k i.turns) (who g at) c.give_row.ensures.given)
