use Rattle.std.proofs.Common.{◌≡◌, sym, ap, ◌∙◌, subst, rules}
use Rattle.std.specs.Prelude.{Some}
use Rattle.shm_graph.specs.declared.{ask.Me.Me, run.Account.Account}
use Rattle.shm_agents.specs.{Agents.{AgentsStand, logged}, declared.agents.Standing.TheVariants.AtWork}
use Rattle.shm_pool.specs.{Posts.IsPosted, Tokens.{Its, Token}}
use Rattle.shm_replay.proofs.Gathering.{same_some}
use Rattle.shm_script.specs.{Values.Scripted, Logged.Logged}
use Rattle.shm_team.specs.Dones.{IsFinished}
use Rattle.shm_morgue.specs.Dead.{AreDead}
use Rattle.shm_morgue.proofs.Leaving.{begins_client, left_dead, left_done, posted_now, stands_now}
use Rattle.shm_morgue.proofs.{Parting.{dead_client, died_by}, worker.serve.{Given.Over, Goals.Then-eq}}
use Rattle.shm_morgue.proofs.worker.serve.Goals as goal

-- where the test says so, none of them has left and none comes next
still_here : (g : Over) (c : Then-eq g) → c.work.new.agents.standing ≡ AtWork
still_here g c = search rules

pub work-requires-clause-posted : goal.work-requires-clause-posted
work-requires-clause-posted g c = λ κs within. subst (IsPosted c.new-post.result) (sym (ap (λ (m : Me). m.who) c.requires.agents.me)) c.new-post.ensures.posted

pub work-requires-clause-stands : goal.work-requires-clause-stands
work-requires-clause-stands g c = λ κs within.
    let a = c.requires.agents in
    let token = c.args.token in
    let same : c.args.script.now ≡ a.script = same_some c.args.script.now a.script (sym c.requires.script ∙ a.at) in
    subst (λ (k : Token). AgentsStand k.of.start c.args.script.now c.args.agents k.account) (sym c.new-post.ensures.same)
    (subst (λ (p : Its). AgentsStand p.start c.args.script.now c.args.agents token.account) (sym c.requires.token.0)
    (subst (λ (s : Scripted). AgentsStand c.args.pool.now.start s c.args.agents token.account) (sym same) a.stands))

pub work-requires-clause-client : goal.work-requires-clause-client
work-requires-clause-client g c = λ κs within. let a = c.requires.agents in begins_client c.args.pool.now.start a.script c.args.agents c.args.token.account a.stands (ap (λ (e : Account). e.memo.agents) c.requires.token.1)

pub corpse-corpse-requires : goal.corpse-corpse-requires
corpse-corpse-requires g c =
    let here = still_here g c in
    let (first, fallen, settled) = died_by c.args.script.now c.work.new.agents c.work.new.post.account c.work.ensures.parted here in
    fallen.fell

pub put-requires-clause-porter : goal.put-requires-clause-porter
put-requires-clause-porter g c = (c.requires.porter.0, c.requires.porter.2)

pub put-requires-clause-corpse : goal.put-requires-clause-corpse
put-requires-clause-corpse g c =
    let w = c.work.ensures.work in
    let k = c.corpse-corpse.ensures.same in (
      k.0 ∙ (w.of ∙ (ap (λ (x : Token). x.of) c.new-post.ensures.same ∙ c.requires.token.0)),
      ap (λ (a : Account). a.who) k.1 ∙ (w.posted.named ∙ (ap (λ (m : Me). m.who) c.requires.agents.me ∙ sym c.requires.porter.1)),
    )

pub returns-then-eq-clause-left : goal.returns-then-eq-clause-left
returns-then-eq-clause-left g c =
    let a = c.requires.agents in
    let s = c.args.script.now in
    let u = c.work.new.post in
    let x = c.work.new.agents in
    let p = c.args.pool.now in
    let w = c.work.ensures.work in
    let here = still_here g (goal.at.returns-then-eq-clause-left g c).Then-eq in
    let same : s ≡ a.script = same_some s a.script (sym c.requires.script ∙ a.at) in
    let of : u.of ≡ p = w.of ∙ (ap (λ (k : Token). k.of) c.new-post.ensures.same ∙ c.requires.token.0) in
    let dead = dead_client s x u c.corpse-corpse.result (stands_now s c.new-post.result u c.args.agents x w) c.work.ensures.parted here (posted_now s c.new-post.result u c.args.agents x w).named c.corpse-corpse.ensures.same c.corpse-corpse.ensures.acts in
    left_dead c.args.trace.now p c.args.token.account.who s c.log.result (a.is ∙ ap (λ (z : Scripted). Some z) (sym same)) c.put.new.porter.entries c.corpse-corpse.result c.put.result
    (subst (λ (l : Logged). AreDead p s 1 l c.corpse-corpse.result) (sym c.log.ensures) (subst (λ (q : Its). AreDead q s 1 (logged x) c.corpse-corpse.result) of dead)) c.put.ensures.put

pub hand_back-log-requires-clause-posted : goal.hand_back-log-requires-clause-posted
hand_back-log-requires-clause-posted g c = posted_now c.args.script.now c.new-post.result c.work.new.post c.args.agents c.work.new.agents c.work.ensures.work

pub hand_back-log-requires-clause-stands : goal.hand_back-log-requires-clause-stands
hand_back-log-requires-clause-stands g c = (c.args.script.now, stands_now c.args.script.now c.new-post.result c.work.new.post c.args.agents c.work.new.agents c.work.ensures.work)

pub returns-clause-left : goal.returns-clause-left
returns-clause-left g c =
    let a = c.requires.agents in
    let s = c.args.script.now in
    let p = c.args.pool.now in
    let w = c.work.ensures.work in
    let same : s ≡ a.script = same_some s a.script (sym c.requires.script ∙ a.at) in
    let of : c.work.new.post.of ≡ p = w.of ∙ (ap (λ (k : Token). k.of) c.new-post.ensures.same ∙ c.requires.token.0) in
    left_done c.args.trace.now p c.args.token.account.who s c.hand_back-log.result.log (a.is ∙ ap (λ (z : Scripted). Some z) (sym same)) c.args.porter.now.entries c.hand_back-log.result.token c.requires.porter.2
    (subst (λ (q : Its). IsFinished q s c.hand_back-log.result.log c.hand_back-log.result.token) of (c.hand_back-log.ensures.finished s (stands_now s c.new-post.result c.work.new.post c.args.agents c.work.new.agents w)))
