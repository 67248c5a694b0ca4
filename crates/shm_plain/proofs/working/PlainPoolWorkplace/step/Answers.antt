use Rattle.std.proofs.{Common.{◌≡◌, ℕ, ◌<◌, refl, sym, ap, ◌∙◌, subst, inl, inr, arith}, lemmas.Bool.cases_lt}
use Rattle.shm_graph.specs.{declared.{ask.Me.Me, run.{Account.Account, Start.Start}}, Laws.Outcome, Runs.account_at}
use Rattle.shm_graph.specs.Whole.{fits_now, gives_now}
use Rattle.shm_plain.specs.Pools.{Pool, readied, turn_on, turned}
use Rattle.shm_plain.proofs.{PlaceTurning.{may_step, ready_is, turned_is}, working.PlainPoolWorkplace.step.Given.Over}
use Rattle.shm_plain.proofs.working.PlainPoolWorkplace.step.Goals.{After-step}
use Rattle.shm_plain.proofs.working.PlainPoolWorkplace.step.Goals as goal

pub step-requires-clause-agent : goal.step-requires-clause-agent
step-requires-clause-agent g c = may_step c.args.self.now c.args.who c.requires.agent

pub step-requires-clause-fits : goal.step-requires-clause-fits
step-requires-clause-fits g c =
    let p : Pool = c.args.self.now in
    let long = subst (λ (n : ℕ). c.args.who < n) (sym c.requires.has.0.held.accounts) c.requires.has.1 in
    (c.requires.fits.0, subst (λ (z : Account). fits_now g.M.Machine.control g.M.Machine.fits c.args.m.now c.requires.fits.0 z.memo) (sym (ready_is p c.args.who long)) c.requires.fits.1)

start_is : (g : Over) (c : After-step g) → c.step.new.self.start ≡ c.args.self.now.start
start_is g c =
    elim (cases_lt 0 c.args.life.now.left) [
      | inl some ↦ ap (λ (z : Pool). z.start) (c.step.ensures.turn some).1
      | inr none ↦ ap (λ (z : Pool). z.start) (c.step.ensures.stays (c.step.ensures.died.1 (omega arith))).0
    ]

pub returns-clause-has : goal.returns-clause-has
returns-clause-has g c = (c.step.ensures.run, subst (λ (z : Start). c.args.who < z.geometry.clients) (sym (start_is g c)) c.requires.has.1)

pub returns-clause-turn : goal.returns-clause-turn
returns-clause-turn g c = λ some.
    let p : Pool = c.args.self.now in
    let who : ℕ = c.args.who in
    let M = g.M.Machine in
    let long = subst (λ (n : ℕ). who < n) (sym c.requires.has.0.held.accounts) c.requires.has.1 in
    let t = turn_on (readied p who) M.control c.args.m.now in
    let s = c.step.ensures.turn some in
    let w : t.me.who ≡ who = ap (λ (z : Me). z.who) c.requires.machine.0 in (
      s.0,
      record {
        seen = t.seen;
        account = ap (λ (z : Pool). account_at z.accounts who) s.1 ∙ turned_is p who long t w;
        next = s.2;
        turn = s.3;
        learns = λ r0 f.
            subst (λ z. Outcome (M.control.turns c.args.m.now t.seen) (fits_now M.control M.fits z r0 (account_at c.step.new.self.accounts who).memo) (gives_now M.gives c.args.m.now r0 (account_at c.step.new.self.accounts who).memo)) s.2
            (c.step.ensures.fits some r0 (subst (λ (z : Account). fits_now M.control M.fits c.args.m.now r0 z.memo) (sym (ready_is p who long)) f));
      },
      (s.1 ∙ ap (λ (n : ℕ). turned (readied p n) t) (sym w), refl),
    )
