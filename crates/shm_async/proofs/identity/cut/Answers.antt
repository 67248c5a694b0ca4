use Rattle.std.proofs.Common.{◌≡◌, Bool, false, [], sym, ap, ◌∙◌, subst}
use Rattle.shm_graph.specs.Agents.{acts}
use Rattle.shm_agents.specs.{declared.agents.Standing.TheVariants.AtWork, Cuts.IsCut}
use Rattle.shm_pool.specs.Tokens.{Token}
use Rattle.shm_team.specs.{declared.done.Finish.Finish, Lefts.{IsGivenBack, account_in, is_corpse}}
use Rattle.shm_async.specs.{Cancelled.HasCancelled, Polled.{AtPost, StandAt}}
use Rattle.shm_async.proofs.{Cancelling.{by_acting, cancelled, cut_quiet}, identity.cut.Goals.{then-cut, else-cut}}
use Rattle.shm_async.proofs.identity.cut.Goals as goal

pub returns : goal.returns
returns g c =
    let s = c.args.script.now in
    let w : AtPost = record { agents = c.site.inside.agents; post = c.site.inside.post } in
    let v : AtPost = record { agents = c.cut.new.self; post = c.cut.new.pool } in
    let x : Finish = record { log = c.log.result; token = c.if-cut.token } in
    let h : StandAt s w = subst (StandAt s) (sym c.site.view_is) c.requires.stand in
    let of : v.post.of ≡ w.post.of = by_acting (acts w.post.account.memo) (v.post.of ≡ w.post.of) c.cut.ensures.fell (λ quiet. ap (λ (t : Token). t.of) (c.cut.ensures.still quiet)) in
    let here : w.agents.standing ≡ AtWork = subst (λ (z : AtPost). z.agents.standing ≡ AtWork) (sym c.site.view_is) c.requires.left in
    let quiet : c.cut.result ≡ false → v.post.account.running ≡ [] = (λ none. cut_quiet s w v h here c.cut.ensures.same.0 c.cut.ensures.account (subst (λ (b : Bool). IsCut b s v.agents v.post.account) none c.cut.ensures.cut)) in
    subst (λ (z : AtPost). HasCancelled z.post.of s z.post.account x) c.site.view_is
    (elim c.if-cut.branch [
      | then-cut b ↦ cancelled s w v h here c.cut.ensures.same.0 c.cut.ensures.account c.cut.result c.cut.ensures.cut x c.log.ensures
          (subst (IsGivenBack w.post.of) (sym b.token-is) (b.corpse.ensures.same.0 ∙ of, b.corpse.ensures.acts)) (ap account_in b.token-is ∙ b.corpse.ensures.same.1) (ap is_corpse b.token-is ∙ sym b.if-cut.true)
      | else-cut b ↦ cancelled s w v h here c.cut.ensures.same.0 c.cut.ensures.account c.cut.result c.cut.ensures.cut x c.log.ensures
          (subst (IsGivenBack w.post.of) (sym b.token-is) (ap (λ (t : Token). t.of) b.vacate.ensures ∙ of, ap (λ (t : Token). t.account.running) b.vacate.ensures ∙ quiet b.if-cut.false)) (ap account_in b.token-is ∙ ap (λ (t : Token). t.account) b.vacate.ensures) (ap is_corpse b.token-is ∙ sym b.if-cut.false)
    ])
