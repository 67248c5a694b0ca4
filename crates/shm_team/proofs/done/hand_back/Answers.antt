use Rattle.std.proofs.Common.{◌≢◌, sym, ap, ◌∙◌, subst, rules}
use Rattle.shm_agents.specs.{declared.agents.Standing.TheVariants.{AtWork, Dead, Gone}, Agents.is_standing_dead}
use Rattle.shm_pool.specs.Tokens.{Token}
use Rattle.shm_team.specs.Lefts.{IsGivenBack, account_in, is_corpse}
use Rattle.shm_team.proofs.Finishing.{alive_is, dead_is, finished, rests_fell, rests_out, rests_quiet, rests_still, rests_whole}
use Rattle.shm_team.proofs.done.hand_back.Goals.{then-eq, else-eq}
use Rattle.shm_team.proofs.done.hand_back.Goals as goal

pub corpse-requires : goal.corpse-requires
corpse-requires g c =
    let rests : c.args.agents.standing ≢ AtWork = c.requires.rests in
    let left : c.args.agents.standing ≢ Gone = search rules in
    rests_fell c.requires.stands.0 c.args.agents c.args.post c.requires.posted c.requires.stands.1 rests (dead_is c.args.agents.standing rests left)

pub vacate-requires-clause-out : goal.vacate-requires-clause-out
vacate-requires-clause-out g c =
    let alive : c.args.agents.standing ≢ Dead = search rules in
    rests_out c.requires.stands.0 c.args.agents c.args.post c.requires.posted c.requires.stands.1 c.requires.rests alive

pub vacate-requires-clause-rests : goal.vacate-requires-clause-rests
vacate-requires-clause-rests g c =
    let alive : c.args.agents.standing ≢ Dead = search rules in
    rests_still c.requires.stands.0 c.args.agents c.args.post c.requires.posted c.requires.stands.1 c.requires.rests alive

pub vacate-requires-clause-whole : goal.vacate-requires-clause-whole
vacate-requires-clause-whole g c =
    let alive : c.args.agents.standing ≢ Dead = search rules in
    rests_whole c.requires.stands.0 c.args.agents c.args.post c.requires.posted c.requires.stands.1 c.requires.rests alive

pub returns-clause-finished : goal.returns-clause-finished
returns-clause-finished g c s stands =
    let rests : c.args.agents.standing ≢ AtWork = c.requires.rests in
    elim c.if-eq.branch [
      | then-eq b ↦
          let left : c.args.agents.standing ≢ Gone = search rules in
          let dead = dead_is c.args.agents.standing rests left in
          finished s c.args.agents c.args.post c.requires.posted stands rests c.log.result c.log.ensures c.if-eq.token
          (subst (IsGivenBack c.args.post.of) (sym b.token-is) (b.corpse.ensures.same.0, b.corpse.ensures.acts)) (ap account_in b.token-is ∙ b.corpse.ensures.same.1) (ap is_corpse b.token-is ∙ ap is_standing_dead (sym dead))
      | else-eq b ↦
          let alive : c.args.agents.standing ≢ Dead = search rules in
          finished s c.args.agents c.args.post c.requires.posted stands rests c.log.result c.log.ensures c.if-eq.token
          (subst (IsGivenBack c.args.post.of) (sym b.token-is) (ap (λ (t : Token). t.of) b.vacate.ensures, ap (λ (t : Token). t.account.running) b.vacate.ensures ∙ rests_quiet s c.args.agents c.args.post c.requires.posted stands rests alive))
          (ap account_in b.token-is ∙ ap (λ (t : Token). t.account) b.vacate.ensures) (ap is_corpse b.token-is ∙ sym (alive_is c.args.agents.standing alive))
    ]
