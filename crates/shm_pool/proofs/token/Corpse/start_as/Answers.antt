use Rattle.std.proofs.Common.{◌≡◌, ◌<◌, ℕ, refl, sym, ap, ◌∙◌, subst, true≢false}
use Rattle.plans.specs.{CallsControl.{calls_control, calls_of}, CallsFit.{CallsFits, CallsGives}}
use Rattle.shm_graph.specs.declared.{ask.Me.Me, memo.{Kind.TheVariants.Recoverer, Memo.Memo}, run.Account.Account}
use Rattle.shm_graph.specs.{Runs.account_died, Whole.{fits_now, gives_now}}
use Rattle.shm_graph.proofs.Memos.MemoSteps.{recovers-entered}
use Rattle.shm_pool.specs.{Endings.LeavesGone, Rules.alone}
use Rattle.shm_pool.specs.Tokens.{Token, begun_account, its, me_of, recovering_account}
use Rattle.shm_pool.proofs.{Lasting.{fits_first, is_mine}, token.Corpse.start_as.{Given.Over, Goals.After-new-machine}}
use Rattle.shm_pool.proofs.token.Corpse.start_as.Goals as goal

-- the identity
abbrev who : (g : Over) (c : After-new-machine g) → Me
who g c = me_of (its c.self.inside.place.table_id c.self.inside.start) (alone c.self.inside.place)

-- the machine is that of its plan
state : (g : Over) (c : After-new-machine g) → c.new-machine.result ≡ calls_of g.P.Plan.plan.steered (g.P.Last.made (who g c))
state g c =
    let me : c.new-me.result ≡ who g c = (λ j. record { geometry = c.new-me.ensures.geometry j; who = (c.new-me.ensures.who ∙ c.self.invariant.0.who) j }) in
    c.new-machine.ensures ∙ ap (λ x. calls_of g.P.Plan.plan.steered x) (c.of.ensures ∙ ap (λ (x : Me). g.P.Last.made x) me)

-- the plan may begin once a recoverer has begun
may : (g : Over) (c : After-new-machine g) → g.P.Last.may (who g c) (recovering_account (alone c.self.inside.place)).memo
may g c =
    let i = c.self.invariant.0 in
    let a : Account = alone c.self.inside.place in
    c.requires.may (who g c) (recovering_account a).memo i.fits (subst (λ (n : ℕ). n < c.self.inside.start.geometry.clients) i.who i.below) (recovers-entered Recoverer (account_died (begun_account a)).memo)

fitting : (g : Over) (c : After-new-machine g) → let r = (recovering_account (alone c.self.inside.place)).memo in fits_now (calls_control g.P.Call.Machine.control g.P.Plan.plan.steered) (CallsFits g.P.Call.Machine.control g.P.Plan.plan) c.new-machine.result r r
fitting g c =
    let r : Memo = (recovering_account (alone c.self.inside.place)).memo in
    let k = g.P.Call.Machine.control in
    let q = g.P.Plan.plan in
    subst (λ m. fits_now (calls_control k q.steered) (CallsFits k q) m r r) (sym (state g c)) (fits_first k q g.met.P.Plan.laws g.P.Last.made g.P.Last.may g.met.P.Last.lasts (who g c) r (may g c))

pub returns-clause-rescues : goal.returns-clause-rescues
returns-clause-rescues g c =
    let x = (goal.at.returns-clause-rescues g c).After-new-machine in
    let r : Memo = (recovering_account (alone c.self.inside.place)).memo in
    let k = g.P.Call.Machine.control in
    let q = g.P.Plan.plan in
    let last = g.met.P.Last.lasts in
    let leaves = subst (λ m. LeavesGone (gives_now (CallsGives k q)) m r) (sym (state g x)) (last.leaves (who g x) r (may g x)) in (
      c.self.invariant.0,
      record {
        waits = λ f. (c.self.invariant.1, refl);
        acts = λ f. absurd (true≢false (sym f));
        gone = λ f. absurd (true≢false (sym f));
        me = ap (calls_control k q.steered).me (state g x) ∙ is_mine k q g.met.P.Plan.laws g.P.Last.made g.P.Last.may last (who g x);
        fits = λ f. (refl, r, fitting g x, leaves);
      },
    )

pub returns-clause-machine : goal.returns-clause-machine
returns-clause-machine g c =
    let x = (goal.at.returns-clause-machine g c).After-new-machine in
    state g x ∙ ap (λ (t : Token). calls_of g.P.Plan.plan.steered (g.P.Last.made (me_of t.of t.account))) c.self.view_is

pub returns-clause-fits : goal.returns-clause-fits
returns-clause-fits g c =
    let x = (goal.at.returns-clause-fits g c).After-new-machine in
    let k = g.P.Call.Machine.control in
    let q = g.P.Plan.plan in
    subst (λ (t : Token). let r = (recovering_account t.account).memo in fits_now (calls_control k q.steered) (CallsFits k q) c.new-machine.result r r) c.self.view_is (fitting g x)
