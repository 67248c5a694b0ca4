use Rattle.std.proofs.Common.{◌≡◌, ◌+◌, ℕ, List, ◌∷◌, [], ◌++◌, slice_index, sym, ap, ◌∙◌, subst}
use Rattle.shm_graph.specs.declared.{ask.{Ask.Ask, Me.Me}, memo.Step.Step}
use Rattle.shm_graph.specs.{Asks.{at_of, seen_of}, Laws.step_of, Runs.account_at, Whole.{fits_now, gives_now}}
use Rattle.shm_plain.specs.{Pools.Pool, Turned.IsTurned, Working.Worked}
use Rattle.shm_watch.specs.declared.shown.Shown.{Shown}
use Rattle.shm_watch.specs.declared.shown.Shown.TheVariants as shown
use Rattle.shm_watch.specs.Turns.{shown_of, word_shown}
use Rattle.shm_watch.proofs.Showing.{shown_turned}
use Rattle.shm_watch.proofs.watched.WatchedWorkplace.step.Goals as goal

pub invariant_of-self : goal.invariant_of-self
invariant_of-self g c =
    let M = g.M.Machine in
    let p : Pool = c.self.inside.pool in
    let (less, w, turned) = c.step-turn.ensures.turn c.if-lives.true in
    let t : Step = step_of M.control c.args.m.now w.seen in
    let who_is : c.args.who ≡ t.me.who = sym (ap (λ (z : Me). z.who) c.requires.machine.0) in
    let ask_is : c.ask-ask.result ≡ t.ask = c.ask-ask.ensures in
    let found_is : c.found_by-found.result ≡ t.seen =
    c.found_by-found.ensures ∙ (ap (λ (ws : List ℕ). seen_of c.ask-ask.result (slice_index ws (at_of c.ask-ask.result))) c.words.ensures ∙ (ap (λ (a : Ask). seen_of a (slice_index p.words (at_of a))) ask_is ∙ sym turned.1)) in
    let ends_is : c.finished-ends.result ≡ t.ends = c.finished-ends.ensures ∙ ap M.control.finished w.next in
    let same : ◌≡◌ {A = Shown} (shown.Word c.args.who c.ask-ask.result c.found_by-found.result c.finished-ends.result) (word_shown t) = (λ i. shown.Word (who_is i) (ask_is i) (found_is i) (ends_is i)) in
    let all : shown_of c.step-turn.new.self.turns ≡ shown_of p.turns ++ shown.Word c.args.who c.ask-ask.result c.found_by-found.result c.finished-ends.result ∷ [] =
    ap (λ (x : Pool). shown_of x.turns) turned.0 ∙ (shown_turned p t.me.who t ∙ ap (λ (x : Shown). shown_of p.turns ++ x ∷ []) (sym same)) in
    subst (g.W.Watcher.saw c.see.new.self) (sym all) (c.see.ensures (shown_of p.turns) c.self.invariant)

pub returns-then-lives-clause-turn : goal.returns-then-lives-clause-turn
returns-then-lives-clause-turn g c some =
    let M = g.M.Machine in
    subst
    (λ (x : Pool). (c.step-turn.new.life.left + 1 ≡ c.args.life.now.left) × (w : Worked M.control (fits_now M.control M.fits) (gives_now M.gives) c.args.m.now (account_at x.accounts c.args.who) (account_at c.step-turn.new.self.accounts c.args.who) c.step-turn.result c.step-turn.new.m) × IsTurned x (step_of M.control c.args.m.now w.seen) c.step-turn.new.self)
    c.self.view_is (c.step-turn.ensures.turn some)
