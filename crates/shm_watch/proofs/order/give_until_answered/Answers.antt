use Rattle.std.proofs.Common.{◌≡◌, ℕ, ◌+◌, ◌≤◌, false, true, length, refl, sym, ap, ◌∙◌, subst, arith, inl, inr, rules}
use Rattle.shm_graph.specs.declared.ask.Me.{Me}
use Rattle.shm_agents.specs.Agents.{is_client}
use Rattle.shm_replay.specs.{Seats.IsSeat, Turns.{answered, in_a_row}}
use Rattle.shm_watch.proofs.Giving.{row_more}
use Rattle.shm_replay.proofs.Seating.{Goes, goes_more, seat_answered, until_left, until_many, until_more}
use Rattle.shm_watch.proofs.order.give_until_answered.Goals as goal

pub loop-turn-init : goal.loop-turn-init
loop-turn-init g c =
    record {
      me = refl;
      seat = c.requires.seat;
      given = refl;
      others = λ d o. refl;
      start = refl;
      before = λ here. c.answered-answered.ensures ∙ sym (seat_answered c.args.trace.now c.args.pool.now c.args.agents.now.me.who c.args.agents.now c.requires.seat here);
      near = λ here. inl (sym c.answered-answered.ensures);
      going = λ m l. absurd (omega arith);
    }

pub give_turn-requires : goal.give_turn-requires
give_turn-requires g c =
    let h = c.loop-turn.invariant in
    record { seat = subst (λ (n : ℕ). IsSeat c.args.trace.now c.loop-turn.pool n c.loop-turn.agents) (sym (ap (λ (m : Me). m.who) h.me)) h.seat }

pub loop-turn-preserved : goal.loop-turn-preserved
loop-turn-preserved g c =
    let l = c.loop-turn in
    let h = l.invariant in
    let t = c.args.trace.now in
    let e : l.agents.me.who ≡ c.args.agents.now.me.who = ap (λ (m : Me). m.who) h.me in
    let got = c.give_turn.ensures in
    let here : is_client l.agents ≡ true = sym c.is_client.ensures ∙ (let yes : c.is_client.result ≡ true = search rules in yes) in
    let same : length l.agents.entries ≡ c.answered-answered.result = sym c.answered-now.ensures ∙ c.if-now-answered.false in
    record {
      me = got.me ∙ h.me;
      seat = subst (λ (n : ℕ). IsSeat t c.give_turn.new.pool n c.give_turn.new.agents) e got.seat;
      given = row_more t c.args.pool.now l.pool c.give_turn.new.pool c.args.agents.now.me.who l._turn h.given (subst (λ (n : ℕ). c.give_turn.new.pool ≡ in_a_row t l.pool n 1) e got.given);
      others = λ d o. got.others d (λ f. o (f ∙ e)) ∙ h.others d o;
      start = got.start ∙ h.start;
      before = λ then. h.before here;
      near = λ then. elim (got.grows here then) [ inl f ↦ inl (f ∙ same) | inr f ↦ inr (f ∙ ap (λ (n : ℕ). n + 1) same) ];
      going = goes_more t c.args.pool.now c.args.agents.now.me.who l._turn l.pool l.agents h.going h.given h.seat here (same ∙ h.before here);
    }

pub returns-then-not-is_client-clause-given : goal.returns-then-not-is_client-clause-given
returns-then-not-is_client-clause-given g c =
    let l = c.loop-turn in
    let h = l.invariant in
    let few : l._turn ≤ 100000 = omega arith in
    (l._turn, until_left c.args.trace.now c.args.pool.now c.args.agents.now.me.who l._turn l.pool l.agents few h.going h.given h.seat (sym c.is_client.ensures ∙ (let no : c.is_client.result ≡ false = search rules in no)), h.given)

pub returns-then-now-answered-clause-given : goal.returns-then-now-answered-clause-given
returns-then-now-answered-clause-given g c =
    let l = c.loop-turn in
    let h = l.invariant in
    let few : l._turn ≤ 100000 = omega arith in
    let here : is_client l.agents ≡ true = sym c.is_client.ensures ∙ (let yes : c.is_client.result ≡ true = search rules in yes) in
    let more : length l.agents.entries ≡ answered c.args.trace.now c.args.pool.now c.args.agents.now.me.who + 1 = elim (h.near here) [ inl f ↦ absurd (c.if-now-answered.true (c.answered-now.ensures ∙ f)) | inr f ↦ f ∙ ap (λ (n : ℕ). n + 1) (h.before here) ] in
    (l._turn, until_more c.args.trace.now c.args.pool.now c.args.agents.now.me.who l._turn l.pool l.agents few h.going h.given h.seat here more, h.given)

pub returns-clause-given : goal.returns-clause-given
returns-clause-given g c =
    let l = c.loop-turn in
    let h = l.invariant in
    let t = c.args.trace.now in
    let who : ℕ = c.args.agents.now.me.who in
    let all : l._turn ≡ 100000 = omega arith in
    (100000, until_many t c.args.pool.now who (subst (Goes t c.args.pool.now who) all h.going), subst (λ (n : ℕ). l.pool ≡ in_a_row t c.args.pool.now who n) all h.given)
