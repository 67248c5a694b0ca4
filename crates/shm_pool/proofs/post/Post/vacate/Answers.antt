use Rattle.std.proofs.Common.{◌≡◌, false, sym, ap, ◌∙◌, subst}
use Rattle.shm_graph.specs.{declared.run.Account.Account, Agents.{acts, last_agent}, Runs.fell_by}
use Rattle.shm_pool.specs.{Posts.account_seen, Rules.alone, Tokens.{IsOut, Token, its}}
use Rattle.shm_pool.proofs.Posting.{seen_whole}
use Rattle.shm_pool.proofs.post.Post.vacate.Goals as goal

pub invariant_of-result : goal.invariant_of-result
invariant_of-result c =
    let a : Account = alone c.self.inside.place in
    let is : account_seen c.self.inside.fallen a ≡ c.args.self.account = ap (λ (t : Token). t.account) c.self.view_is in
    let same : account_seen c.self.inside.fallen a ≡ a = seen_whole c.self.inside.fallen a c.self.invariant.1.acting (ap (λ (e : Account). fell_by (last_agent e.memo.agents)) is ∙ c.requires.whole) in
    let to : c.args.self.account ≡ a = sym is ∙ same in
    (c.self.invariant.0, (subst (λ (e : Account). IsOut e.memo) to c.requires.out, subst (λ (e : Account). acts e.memo ≡ false) to c.requires.rests))

pub returns : goal.returns
returns c =
    let a : Account = alone c.self.inside.place in
    let is : account_seen c.self.inside.fallen a ≡ c.args.self.account = ap (λ (t : Token). t.account) c.self.view_is in
    let same : account_seen c.self.inside.fallen a ≡ a = seen_whole c.self.inside.fallen a c.self.invariant.1.acting (ap (λ (e : Account). fell_by (last_agent e.memo.agents)) is ∙ c.requires.whole) in
    let f = c.self.inside in
    (λ i. record { of = its f.place.table_id f.start; account = sym same i }) ∙ c.self.view_is
