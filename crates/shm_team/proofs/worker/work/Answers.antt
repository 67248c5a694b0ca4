use Rattle.std.proofs.Common.{◌≡◌, refl, sym, ap, ◌∙◌, subst}
use Rattle.shm_graph.specs.declared.ask.Me.{Me}
use Rattle.shm_agents.specs.Agents.{AgentsStand}
use Rattle.shm_pool.specs.{Posts.IsPosted, Tokens.{Its, Token}}
use Rattle.shm_team.specs.Dones.{IsFinished}
use Rattle.shm_team.proofs.worker.work.Goals as goal

pub loop-agents-init : goal.loop-agents-init
loop-agents-init g c = let p = c.new-post.ensures in record {
  of = refl;
  posted = subst (IsPosted c.new-post.result) (sym c.requires.me) p.posted;
  me = refl;
  script = refl;
  stands = subst (λ (t : Token). AgentsStand t.of.start c.args.script.now c.args.agents t.account) (sym p.same) c.requires.stands;
}

pub turn-requires-clause-has : goal.turn-requires-clause-has
turn-requires-clause-has g c = let i = c.loop-agents.invariant in
    subst (λ (m : Me). IsPosted c.loop-agents.post m.who) (sym i.me) i.posted

pub turn-requires-clause-stands : goal.turn-requires-clause-stands
turn-requires-clause-stands g c = let i = c.loop-agents.invariant in
    subst (λ (p : Its). AgentsStand p.start c.args.script.now c.loop-agents.agents c.loop-agents.post.account) (sym i.of) i.stands

pub hand_back-requires-clause-posted : goal.hand_back-requires-clause-posted
hand_back-requires-clause-posted g c = let i = c.loop-agents.invariant in
    subst (λ (m : Me). IsPosted c.loop-agents.post m.who) (sym i.me) i.posted

pub hand_back-requires-clause-stands : goal.hand_back-requires-clause-stands
hand_back-requires-clause-stands g c =
    let i = c.loop-agents.invariant in
    (c.args.script.now, subst (λ (p : Its). AgentsStand p.start c.args.script.now c.loop-agents.agents c.loop-agents.post.account) (sym i.of) i.stands)

pub returns : goal.returns
returns g c =
    let i = c.loop-agents.invariant in
    let of : c.loop-agents.post.of ≡ c.args.token.of = i.of ∙ ap (λ (t : Token). t.of) c.new-post.ensures.same in
    subst (λ (p : Its). IsFinished p c.args.script.now c.hand_back.result.log c.hand_back.result.token) of
    (c.hand_back.ensures.finished c.args.script.now (subst (λ (p : Its). AgentsStand p.start c.args.script.now c.loop-agents.agents c.loop-agents.post.account) (sym i.of) i.stands))
