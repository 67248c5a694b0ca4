use Rattle.std.proofs.{Common.{◌≡◌, true, false, cond, rules, refl, sym, ap, ◌∙◌, subst}, lemmas.Bool.true≢false}
use Rattle.shm_graph.specs.{declared.{ask.Turn.TheVariants.{More, Done}, run.Account.Account}, Agents.acts}
use Rattle.shm_graph.specs.Whole.{fits_now, gives_now}
use Rattle.shm_pool.specs.{Rules.alone, Tokens.{Acting, has_left}, Calls.ClientStepped}
use Rattle.shm_pool.proofs.token.Client.step.Goals as goal

pub invariant_of-self : goal.invariant_of-self
invariant_of-self g c =
    (search rules, record { kind = c.in-More.ensures.kind ∙ c.self.invariant.1.kind; acts = c.in-More.ensures.serves refl; there = λ d. absurd (true≢false (sym d ∙ c.if-self.false)) }, c.self.invariant.2)

pub invariant_of-self-in-Done : goal.invariant_of-self-in-Done
invariant_of-self-in-Done g c =
    (search rules, record { kind = c.in-Done.ensures.kind ∙ c.self.invariant.1.kind; acts = c.in-Done.ensures.serves refl; there = λ d. absurd (true≢false (sym d ∙ c.if-self.false)) }, c.self.invariant.2)

pub invariant_of-self-in-Died : goal.invariant_of-self-in-Died
invariant_of-self-in-Died g c =
    let same : alone c.step_place.new.place ≡ alone c.self.inside.place = (c.in-Died.ensures.stays refl).0 in
    let alive : c.args.self.now.dead ≡ false = sym (ap (λ (t : Acting). t.dead) c.self.view_is) ∙ c.if-self.false in
    let here : has_left (alone c.self.inside.place).memo ≡ false = ap (λ (t : Acting). has_left t.account.memo) c.self.view_is ∙ (c.requires.machine alive).3 in (
      search rules,
      record {
        kind = c.in-Died.ensures.kind ∙ c.self.invariant.1.kind;
        acts = subst (λ (e : Account). acts e.memo ≡ cond (has_left e.memo) false true) (sym same) c.self.invariant.1.acts;
        there = λ d. ap (λ (e : Account). has_left e.memo) same ∙ here;
      },
      λ d. absurd (true≢false d),
    )

pub returns-in-More-clause-turn : goal.returns-in-More-clause-turn
returns-in-More-clause-turn g c = λ lt alive.
    let k = c.in-More.ensures.turn lt in
    let M = g.M.Machine in
    (k.0, c.if-self.false, subst (λ (e : Account). ClientStepped M.control (fits_now M.control M.fits) (gives_now M.gives) c.args.m.now e (alone c.step_place.new.place) More c.step_place.new.m) (ap (λ (t : Acting). t.account) c.self.view_is) k.1)

pub returns-in-Done-clause-turn : goal.returns-in-Done-clause-turn
returns-in-Done-clause-turn g c = λ lt alive.
    let k = c.in-Done.ensures.turn lt in
    let M = g.M.Machine in
    (k.0, c.if-self.false, subst (λ (e : Account). ClientStepped M.control (fits_now M.control M.fits) (gives_now M.gives) c.args.m.now e (alone c.step_place.new.place) (Done c.in-Done.answer) c.step_place.new.m) (ap (λ (t : Acting). t.account) c.self.view_is) k.1)
