use Rattle.std.proofs.{Common.{◌≡◌, false, rules, refl, sym, ap, ◌∙◌}, lemmas.Bool.true≢false}
use Rattle.shm_pool.specs.{Rules.alone, Tokens.{Acting, has_left}}
use Rattle.shm_pool.proofs.token.Client.drive.Goals.{After-run_place}
use Rattle.shm_pool.proofs.token.Client.drive.Goals as goal

-- the client hadn't left
here : (g : _) (c : After-run_place g) → has_left (alone c.self.inside.place).memo ≡ false
here g c =
    let alive : c.args.self.now.dead ≡ false = sym (ap (λ (t : Acting). t.dead) c.self.view_is) ∙ c.if-self.false in
    ap (λ (t : Acting). has_left t.account.memo) c.self.view_is ∙ (c.requires.machine alive).3

pub invariant_of-self : goal.invariant_of-self
invariant_of-self g c =
    let e = c.in-Some.ensures in
    let h = here g (goal.at.invariant_of-self g c).After-run_place in
    (search rules, record { kind = e.kind ∙ c.self.invariant.1.kind; acts = e.serves h; there = λ d. absurd (true≢false (sym d ∙ c.if-self.false)) }, c.self.invariant.2)

pub invariant_of-self-in-None : goal.invariant_of-self-in-None
invariant_of-self-in-None g c =
    let e = c.in-None.ensures in
    let h = here g (goal.at.invariant_of-self-in-None g c).After-run_place in
    (search rules, record { kind = e.kind ∙ c.self.invariant.1.kind; acts = e.serves h; there = λ d. e.there h refl }, λ d. absurd (true≢false d))
