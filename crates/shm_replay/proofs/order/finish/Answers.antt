use Rattle.std.proofs.{Common.{◌≡◌, ◌<◌, ℕ, zero, refl, sym, ap, ◌∙◌, subst, inl, inr}, lemmas.Bool.cases_eq}
use Rattle.std.proofs.lemmas.List.{set-get_or}
use Rattle.std.specs.Prelude.{None, slice_index_or}
use Rattle.shm_graph.specs.declared.ask.Me.{Me}
use Rattle.shm_replay.specs.{AtWork.has_work, Seats.{AreSeated, IsSeat, Seat}}
use Rattle.shm_replay.proofs.{Lone.work_idle, Seating.{any_or, seats_set}, order.finish.{Given.Over, Goals.In-Some}}
use Rattle.shm_replay.proofs.order.finish.Goals as goal

within : (g : Over) (c : In-Some g) → c.args.who < c.args.trace.now.clients
within g c = subst (λ (n : ℕ). c.args.who < n) c.requires.seated.many c.requires.who

seat : (g : Over) (c : In-Some g) → IsSeat c.args.trace.now c.args.pool.now c.args.who c.in-Some.own
seat g c =
    subst (Seat c.args.trace.now c.args.pool.now c.args.who) (any_or c.args.agents.now c.args.who None c.index-agents-who.result c.requires.who ∙ c.in-Some.is)
    (c.requires.seated.seats c.args.who (within g c))

same : (g : Over) (c : In-Some g) → c.in-Some.own.me.who ≡ c.args.who
same g c = ap (λ (m : Me). m.who) (seat g c).me

pub give_rest-requires : goal.give_rest-requires
give_rest-requires g c =
    let at = (goal.at.give_rest-requires g c).In-Some in
    let t = c.args.trace.now in
    let p = c.args.pool.now in
    let xs = c.args.agents.now in
    record {
      seat = subst (λ (n : ℕ). IsSeat t p n c.in-Some.own) (sym (same g at)) (seat g at);
      who = subst (λ (n : ℕ). n < t.clients) (sym (same g at)) (within g at);
      lone = λ d o. work_idle t p xs c.requires.seated c.in_grammar.ensures.scripts d (c.requires.lone d (λ e. o (e ∙ sym (same g at))));
    }

pub returns-in-Some-clause-seated : goal.returns-in-Some-clause-seated
returns-in-Some-clause-seated g c =
    let at = (goal.at.returns-in-Some-clause-seated g c).In-Some in
    let got = c.give_rest.ensures in
    seats_set c.args.trace.now c.args.pool.now c.give_rest.new.pool c.args.agents.now c.args.who c.give_rest.new.agents c.requires.seated (within g at) got.start
    (λ d o. got.others d (λ f. o (f ∙ same g at))) (subst (λ (n : ℕ). IsSeat c.args.trace.now c.give_rest.new.pool n c.give_rest.new.agents) (same g at) got.seat)

pub returns-in_default-clause-seated : goal.returns-in_default-clause-seated
returns-in_default-clause-seated g c = subst (AreSeated c.args.trace.now c.args.pool.now) (sym (set-get_or c.args.agents.now c.args.who c.index-agents-who.result)) c.requires.seated

pub returns-in_default-clause-given : goal.returns-in_default-clause-given
returns-in_default-clause-given g c = (zero, refl)

pub returns-in_default-clause-done : goal.returns-in_default-clause-done
returns-in_default-clause-done g c k =
    let xs = c.args.agents.now in
    let i : ℕ = c.args.who in
    let none = any_or xs i None c.index-agents-who.result c.requires.who ∙ c.in_default.is in
    work_idle c.args.trace.now c.args.pool.now xs c.requires.seated c.in_grammar.ensures.scripts k
    (elim (cases_eq k i) [
      | inl e ↦ ap (λ (n : ℕ). has_work (slice_index_or xs n None)) e ∙ ap has_work none
      | inr o ↦ c.requires.lone k o
    ])
