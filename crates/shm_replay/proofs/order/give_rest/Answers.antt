use Rattle.std.proofs.Common.{◌≡◌, ℕ, zero, ◌+◌, ◌<◌, false, refl, sym, ap, ◌∙◌, subst, inl, inr, rules}
use Rattle.std.proofs.lemmas.Bool.{cases_eq}
use Rattle.shm_graph.specs.declared.ask.Me.{Me}
use Rattle.shm_replay.specs.{Seats.IsSeat, Turns.is_busy}
use Rattle.shm_replay.proofs.{Lone.rounds_on, Seating.seat_busy}
use Rattle.shm_replay.proofs.order.give_rest.Goals as goal

pub loop-agents-init : goal.loop-agents-init
loop-agents-init g c =
    record {
      me = refl;
      seat = c.requires.seat;
      turns = (zero, refl);
      idle = c.requires.lone;
      others = λ d o. refl;
      start = refl;
    }

pub give_turns-requires-clause-seat : goal.give_turns-requires-clause-seat
give_turns-requires-clause-seat g c =
    let h = c.loop-agents.invariant in
    subst (λ (n : ℕ). IsSeat c.args.trace.now c.loop-agents.pool n c.loop-agents.agents) (sym (ap (λ (m : Me). m.who) h.me)) h.seat

pub give_turns-requires-clause-who : goal.give_turns-requires-clause-who
give_turns-requires-clause-who g c = subst (λ (n : ℕ). n < c.args.trace.now.clients) (sym (ap (λ (m : Me). m.who) c.loop-agents.invariant.me)) c.requires.who

pub give_turns-requires-clause-lone : goal.give_turns-requires-clause-lone
give_turns-requires-clause-lone g c d o =
    let h = c.loop-agents.invariant in
    h.idle d (λ f. o (f ∙ sym (ap (λ (m : Me). m.who) h.me)))

pub loop-agents-preserved : goal.loop-agents-preserved
loop-agents-preserved g c =
    let l = c.loop-agents in
    let h = l.invariant in
    let t = c.args.trace.now in
    let p = c.args.pool.now in
    let q = c.give_turns.new.pool in
    let who : ℕ = c.args.agents.now.me.who in
    let e : l.agents.me.who ≡ who = ap (λ (m : Me). m.who) h.me in
    let got = c.give_turns.ensures in
    let (n, is) = h.turns in
    let (k, more) = got.given in
    record {
      me = got.me ∙ h.me;
      seat = subst (λ (i : ℕ). IsSeat t q i c.give_turns.new.agents) e got.seat;
      turns = (n + k, rounds_on t p l.pool q n k is more);
      idle = λ d o. got.lone d (λ f. o (f ∙ e));
      others = λ d o. got.others d (λ f. o (f ∙ e)) ∙ h.others d o;
      start = got.start ∙ h.start;
    }

pub returns-clause-done : goal.returns-clause-done
returns-clause-done g c k =
    let l = c.loop-agents in
    let h = l.invariant in
    let t = c.args.trace.now in
    let who : ℕ = c.args.agents.now.me.who in
    elim (cases_eq k who) [
      | inl e ↦ subst (λ (n : ℕ). is_busy t l.pool n ≡ false) (sym e) (seat_busy t l.pool who l.agents h.seat ∙ (search rules))
      | inr o ↦ h.idle k o
    ]
