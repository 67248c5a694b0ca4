use Rattle.std.proofs.Common.{◌≡◌, ◌≢◌, ℕ, ◌+◌, ◌-◌, false, sym, ap, ◌∙◌, subst, arith, inl, inr, rules}
use Rattle.shm_graph.specs.declared.ask.Me.{Me}
use Rattle.shm_replay.specs.{Seats.IsSeat, Turns.{in_a_row, is_busy}}
use Rattle.shm_replay.proofs.Seating.{seat_busy, standing_cases}
use Rattle.shm_watch.proofs.Giving.{row_idle, row_more}
use Rattle.shm_watch.proofs.order.give_row.Goals as goal
use Rattle.shm_agents.specs.declared.agents.Standing.TheVariants.{AtWork}

pub give_turn-requires : goal.give_turn-requires
give_turn-requires g c =
    let h = c.loop-turn.invariant in
    record { seat = subst (λ (n : ℕ). IsSeat c.args.trace.now c.loop-turn.pool n c.loop-turn.agents) (sym (ap (λ (m : Me). m.who) h.me)) h.seat }

pub loop-turn-preserved : goal.loop-turn-preserved
loop-turn-preserved g c =
    let l = c.loop-turn in
    let h = l.invariant in
    let t = c.args.trace.now in
    let e : l.agents.me.who ≡ c.args.agents.now.me.who = ap (λ (m : Me). m.who) h.me in
    let got = c.give_turn.ensures in
    record {
      me = got.me ∙ h.me;
      seat = subst (λ (n : ℕ). IsSeat t c.give_turn.new.pool n c.give_turn.new.agents) e got.seat;
      given = row_more t c.args.pool.now l.pool c.give_turn.new.pool c.args.agents.now.me.who l._turn h.given (subst (λ (n : ℕ). c.give_turn.new.pool ≡ in_a_row t l.pool n 1) e got.given);
      others = λ d o. got.others d (λ f. o (f ∙ e)) ∙ h.others d o;
      start = got.start ∙ h.start;
    }

pub returns-then-ne-clause-given : goal.returns-then-ne-clause-given
returns-then-ne-clause-given g c =
    let l = c.loop-turn in
    let h = l.invariant in
    let t = c.args.trace.now in
    let who : ℕ = c.args.agents.now.me.who in
    let rest : l.agents.standing ≢ AtWork = search rules in
    let idle : is_busy t l.pool who ≡ false = seat_busy t l.pool who l.agents h.seat ∙ elim (standing_cases l.agents.standing) [ inl e ↦ absurd (rest e) | inr n ↦ n.0 ] in
    subst (λ (n : ℕ). l.pool ≡ in_a_row t c.args.pool.now who n) (let e : l._turn + (c.args.turns - l._turn) ≡ c.args.turns = omega arith in e)
    (row_idle t c.args.pool.now l.pool who l._turn (c.args.turns - l._turn) h.given idle)
