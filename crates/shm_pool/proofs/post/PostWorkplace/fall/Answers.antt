use Rattle.std.proofs.Common.{◌≡◌, ℕ, ◌<◌, true, sym, ap, ◌∙◌, subst}
use Rattle.shm_graph.specs.{declared.run.Account.Account, Agents.acts, Runs.account_died}
use Rattle.shm_pool.specs.{Posts.account_seen, Rules.alone, Tokens.Token}
use Rattle.shm_pool.proofs.{Posting.seen_same, Stepping.stood_dies}
use Rattle.shm_pool.proofs.post.PostWorkplace.fall.Goals as goal

pub invariant_of-self : goal.invariant_of-self
invariant_of-self c =
    let a : Account = alone c.self.inside.place in
    let acting : acts (account_seen c.self.inside.fallen a).memo ≡ true = ap (λ (t : Token). acts t.account.memo) c.self.view_is ∙ c.requires.acts in
    let k = c.self.invariant.1 in (
      c.self.invariant.0,
      record { some = k.some; whole = k.whole; acting = λ z. ap (λ (e : Account). acts e.memo) (sym (seen_same c.self.inside.fallen a acting)) ∙ acting },
      c.self.invariant.2,
    )

pub returns-clause-has : goal.returns-clause-has
returns-clause-has c =
    let a : Account = alone c.self.inside.place in
    let acting : acts (account_seen c.self.inside.fallen a).memo ≡ true = ap (λ (t : Token). acts t.account.memo) c.self.view_is ∙ c.requires.acts in
    let same : a ≡ c.args.self.now.account = sym (seen_same c.self.inside.fallen a acting) ∙ ap (λ (t : Token). t.account) c.self.view_is in
    let acts_a : acts a.memo ≡ true = ap (λ (e : Account). acts e.memo) same ∙ c.requires.acts in
    let seat = c.self.invariant.0 in
    let w : a.who ≡ c.args.who = ap (λ (e : Account). e.who) same ∙ c.requires.has.named in record {
      named = w;
      below = subst (λ (n : ℕ). n < c.self.inside.start.geometry.clients) (seat.who ∙ w) seat.below;
      stood = stood_dies c.self.inside.start a (subst (λ (n : ℕ). n < c.self.inside.start.geometry.clients) seat.who seat.below) acts_a seat.stood;
    }

pub returns-clause-account : goal.returns-clause-account
returns-clause-account c =
    let a : Account = alone c.self.inside.place in
    let acting : acts (account_seen c.self.inside.fallen a).memo ≡ true = ap (λ (t : Token). acts t.account.memo) c.self.view_is ∙ c.requires.acts in
    ap account_died (sym (seen_same c.self.inside.fallen a acting) ∙ ap (λ (t : Token). t.account) c.self.view_is)
