use Rattle.std.proofs.Common.{◌≡◌, ℕ, ◌+◌, ◌<◌, false, ap, sym, subst, ◌∙◌}
use Rattle.std.specs.Prelude.{vec_capacity}
use Rattle.shm_graph.specs.{declared.run.{Account.Account, Start.Start}, Laws.{is_died, step_of}}
use Rattle.shm_script.specs.Values.{Scripted}
use Rattle.shm_agents.specs.{Agents.{Playing, AgentsStand}, TurnsLeft.turns_given, Work.work_control}
use Rattle.shm_agents.proofs.agents.Agents.turn.{Given.Over, Goals.{After-go_on, After-step, In-Done}}
use Rattle.shm_agents.proofs.Turns as turns
use Rattle.shm_agents.proofs.agents.Agents.turn.Goals as goal

-- ---- the word step, and what stands before it and after it

module _ (g : Over) (c : After-step g) where
  -- its fields before the word step
  abbrev x : Playing
  x = record { me = c.self.inside.me; script = c.self.inside.script; agent = c.self.inside.agent; work = c.self.inside.work; life = c.self.inside.life; entries = c.self.inside.entries.items; room = vec_capacity c.self.inside.entries; end = c.self.inside.end; standing = c.self.inside.standing }

  abbrev start : Start
  start = g.W.Workplace.start c.args.pool.now

  -- what is accounted for before it and after it
  abbrev e : Account
  e = g.W.Workplace.account c.args.pool.now x.me.who

  abbrev e2 : Account
  e2 = g.W.Workplace.account c.step.new.self x.me.who

  before : turns.Before start c.args.script.now c.args.self.now x e
  before = turns.before (λ k. g.W.Workplace.account c.args.pool.now k) (g.met.W.Workplace.stood c.args.pool.now c.args.self.now.me.who c.requires.has) (g.met.W.Workplace.named c.args.pool.now c.args.self.now.me.who c.requires.has) c.self.view_is c.requires.stands c.requires.here

  after : turns.After start x e e2 c.step.new.m c.step.new.life c.step.result
  after =
      turns.after before (λ k. g.W.Workplace.account c.step.new.self k) c.step.ensures.died (λ d. let z = c.step.ensures.stays d in (ap (λ p. g.W.Workplace.account p x.me.who) z.0, z.1, z.2)) (λ some. let z = c.step.ensures.turn some in (z.0, z.1)) c.step.ensures.start
      (g.met.W.Workplace.stood c.step.new.self x.me.who c.step.ensures.has) (g.met.W.Workplace.named c.step.new.self x.me.who c.step.ensures.has)

  finally : {y : Playing} → AgentsStand start c.args.script.now y e2 → AgentsStand (g.W.Workplace.start c.step.new.self) c.args.script.now y (g.W.Workplace.account c.step.new.self c.args.self.now.me.who)
  finally = turns.finally (λ k. g.W.Workplace.account c.step.new.self k) c.step.ensures.start c.self.view_is

  stepped : 0 < c.args.self.now.life.left → (n : ℕ) × g.W.Workplace.stepped c.args.pool.now (step_of work_control c.args.self.now.work n) c.step.new.self
  stepped = turns.stepped_on c.self.view_is (λ t. g.W.Workplace.stepped c.args.pool.now t c.step.new.self) (λ some. let z = c.step.ensures.turn some in (z.1.seen, z.2))

  given : is_died c.step.result ≡ false → turns_given (g.W.Workplace.account c.step.new.self c.args.self.now.me.who) ≡ turns_given (g.W.Workplace.account c.args.pool.now c.args.self.now.me.who) + 1
  given acts = turns.given_on c.self.view_is (λ k. g.W.Workplace.account c.args.pool.now k) (λ k. g.W.Workplace.account c.step.new.self k) (turns.given before after acts)

-- ---- what the calls need

pub step-requires-clause-agent : goal.step-requires-clause-agent
step-requires-clause-agent g c =
    turns.step_may
    (turns.before (λ k. g.W.Workplace.account c.args.pool.now k) (g.met.W.Workplace.stood c.args.pool.now c.args.self.now.me.who c.requires.has) (g.met.W.Workplace.named c.args.pool.now c.args.self.now.me.who c.requires.has) c.self.view_is c.requires.stands c.requires.here)

pub step-requires-clause-fits : goal.step-requires-clause-fits
step-requires-clause-fits g c =
    turns.step_fits
    (turns.before (λ k. g.W.Workplace.account c.args.pool.now k) (g.met.W.Workplace.stood c.args.pool.now c.args.self.now.me.who c.requires.has) (g.met.W.Workplace.named c.args.pool.now c.args.self.now.me.who c.requires.has) c.self.view_is c.requires.stands c.requires.here)

pub die-requires-clause-stands : goal.die-requires-clause-stands
die-requires-clause-stands g c =
    let at = (goal.at.die-requires-clause-stands g c).After-step in
    let b = before g at in
    let a = after g at in
    subst (λ (z : Playing). AgentsStand (g.W.Workplace.start c.step.new.self) c.args.script.now z (g.W.Workplace.account c.step.new.self z.me.who)) (sym (turns.same b a (ap is_died c.in-Died.is))) (finally g at (turns.dead_stands b a (ap is_died c.in-Died.is)))

-- what the work has answered

module _ (g : Over) (c : In-Done g) where
  abbrev at : After-step g
  at = (goal.at.In-Done g c).After-step

  abbrev b : turns.Before (start g at) c.args.script.now c.args.self.now (x g at) (e g at)
  b = before g at

  abbrev a : turns.After (start g at) (x g at) (e g at) (e2 g at) c.step.new.m c.step.new.life c.step.result
  a = after g at

  abbrev acts : is_died c.step.result ≡ false
  acts = ap is_died c.in-Done.is

pub go_on-requires-clause-geometry : goal.go_on-requires-clause-geometry
go_on-requires-clause-geometry g c = turns.geometry (b g (goal.at.go_on-requires-clause-geometry g c).In-Done)

pub go_on-requires-clause-who : goal.go_on-requires-clause-who
go_on-requires-clause-who g c = turns.who (b g (goal.at.go_on-requires-clause-who g c).In-Done)

pub go_on-requires-clause-told : goal.go_on-requires-clause-told
go_on-requires-clause-told g c =
    let d = (goal.at.go_on-requires-clause-told g c).In-Done in
    turns.may_go_on (b g d) (a g d) (acts g d) c.in-Done.told c.in-Done.is c.as_slice.result.now (c.as_slice.ensures.value ∙ ap (λ (z : Scripted). z.lines) c.script.view_is)

pub go_on-requires-clause-line : goal.go_on-requires-clause-line
go_on-requires-clause-line g c = turns.may_begin_in (b g (goal.at.go_on-requires-clause-line g c).In-Done) c.as_slice.result.now (c.as_slice.ensures.value ∙ ap (λ (z : Scripted). z.lines) c.script.view_is)

gone : (g : Over) (c : After-go_on g) → let d = (goal.at.After-go_on g c).In-Done in turns.GoneOn (b g d) (a g d) (acts g d) c.go_on.new.self
gone g c =
    let d = (goal.at.After-go_on g c).In-Done in
    turns.gone_on (b g d) (a g d) (acts g d) c.in-Done.told c.in-Done.is c.as_slice.result.now (c.as_slice.ensures.value ∙ ap (λ (z : Scripted). z.lines) c.script.view_is) c.go_on.new.self c.go_on.ensures

-- ---- what is left

pub returns-in-More-clause-stands : goal.returns-in-More-clause-stands
returns-in-More-clause-stands g c =
    let at = (goal.at.returns-in-More-clause-stands g c).After-step in
    let b = before g at in
    let a = after g at in
    finally g at (turns.more b a (ap is_died c.in-More.is) c.in-More.is)

pub returns-in-Done-clause-stands : goal.returns-in-Done-clause-stands
returns-in-Done-clause-stands g c =
    let at = (goal.at.returns-in-Done-clause-stands g c).After-go_on in
    finally g (goal.at.returns-in-Done-clause-stands g c).After-step (gone g at).stands

pub returns-in-Done-clause-me : goal.returns-in-Done-clause-me
returns-in-Done-clause-me g c = (gone g (goal.at.returns-in-Done-clause-me g c).After-go_on).me ∙ ap (λ (z : Playing). z.me) c.self.view_is

pub returns-in-Done-clause-script : goal.returns-in-Done-clause-script
returns-in-Done-clause-script g c = (gone g (goal.at.returns-in-Done-clause-script g c).After-go_on).script ∙ ap (λ (z : Playing). z.script) c.self.view_is

pub returns-in-Done-clause-turns : goal.returns-in-Done-clause-turns
returns-in-Done-clause-turns g c =
    let at = (goal.at.returns-in-Done-clause-turns g c).After-go_on in
    let d = (goal.at.returns-in-Done-clause-turns g c).In-Done in
    turns.turns (b g d) (a g d) (acts g d) c.go_on.new.self (gone g at).agent (gone g at).lives

pub returns-in-More-clause-stepped : goal.returns-in-More-clause-stepped
returns-in-More-clause-stepped g c = stepped g (goal.at.returns-in-More-clause-stepped g c).After-step

pub returns-in-Done-clause-stepped : goal.returns-in-Done-clause-stepped
returns-in-Done-clause-stepped g c = stepped g (goal.at.returns-in-Done-clause-stepped g c).After-step

pub returns-in-More-clause-given : goal.returns-in-More-clause-given
returns-in-More-clause-given g c = given g (goal.at.returns-in-More-clause-given g c).After-step (ap is_died c.in-More.is)

pub returns-in-Done-clause-given : goal.returns-in-Done-clause-given
returns-in-Done-clause-given g c = given g (goal.at.returns-in-Done-clause-given g c).After-step (ap is_died c.in-Done.is)

pub returns-in-Died-clause-given : goal.returns-in-Died-clause-given
returns-in-Died-clause-given g c =
    let at = (goal.at.returns-in-Died-clause-given g c).After-step in
    let b = before g at in
    let a = after g at in
    let died = ap is_died c.in-Died.is in
    let same : g.W.Workplace.account c.step.new.self c.args.self.now.me.who ≡ g.W.Workplace.account c.args.pool.now c.args.self.now.me.who = subst (λ (z : Playing). g.W.Workplace.account c.step.new.self z.me.who ≡ g.W.Workplace.account c.args.pool.now z.me.who) c.self.view_is (turns.same_account b a died) in
    subst (λ (z : Playing). turns_given (g.W.Workplace.account c.die.new.pool z.me.who) ≡ turns_given (g.W.Workplace.account c.step.new.self z.me.who) + 1) (turns.same b a died) c.die.ensures.given
    ∙ ap (λ (e : Account). turns_given e + 1) same
