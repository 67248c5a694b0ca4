use Rattle.std.proofs.Common.{◌≡◌, ℕ, suc, ◌-◌, ◌<◌, refl, ap, sym, subst, ◌∙◌, arith}
use Rattle.std.specs.Prelude.{Some, None, vec_capacity}
use Rattle.shm_graph.specs.{declared.ask.Turn.{Turn, TheVariants.{Done, Died, More}}, Runs.account_at}
use Rattle.shm_plain.specs.ManySteps.{answer_in}
use Rattle.shm_plain.proofs.PlaceTurning.{may_step}
use Rattle.shm_script.specs.Values.{Scripted}
use Rattle.shm_agents.specs.{declared.agents.Standing.TheVariants.AtWork, Agents.{Playing, AgentsStand}, Rows.AreTurns}
use Rattle.shm_agents.specs.{TurnsLeft.turns_by, Work.WorkAnswer}
use Rattle.shm_agents.proofs.agents.Agents.turns.{Given.Over, Goals.{After-go_on, After-steps, In-Done, Else-self-eq0}}
use Rattle.shm_agents.proofs.Rows.{AreAt, HasAnswered, RowEnds, RowEndsAt, are_more, fits, of_them, row_ends, was, with_left}
use Rattle.shm_agents.proofs.Turns as turns
use Rattle.shm_agents.proofs.agents.Agents.turns.Goals as goal

-- ---- the death of an agent

pub turn-requires-clause-has : goal.turn-requires-clause-has
turn-requires-clause-has g c = (c.requires.run, c.requires.who)

pub returns-then-self-eq0-clause-row : goal.returns-then-self-eq0-clause-row
returns-then-self-eq0-clause-row g c =
    let t = c.turn.ensures in
    (1, (c.turn.new.pool, c.turn.new.self, record { here = c.requires.here; start = t.start; run = t.has.0; stepped = t.stepped; fell = t.fell; me = t.me; script = t.script; stands = t.stands }, (refl, refl)))

-- ---- the word steps

module _ (g : Over) (c : Else-self-eq0 g) where
  -- its fields before them
  abbrev x : Playing
  x = record { me = c.self.inside.me; script = c.self.inside.script; agent = c.self.inside.agent; work = c.self.inside.work; life = c.self.inside.life; entries = c.self.inside.entries.items; room = vec_capacity c.self.inside.entries; end = c.self.inside.end; standing = c.self.inside.standing }

  here : x.standing ≡ AtWork
  here = ap (λ (z : Playing). z.standing) c.self.view_is ∙ c.requires.here

  abbrev n : ℕ
  n = x.life.left - 1

  some : x.life.left ≡ suc n
  some = omega (arith, c.if-self-eq0.false)

  at : AreAt c.args.script.now x here c.args.pool.now x.work x.life.left
  at = record {
    run = c.requires.run;
    who = subst (λ (z : Playing). z.me.who < c.args.pool.now.start.geometry.clients) (sym c.self.view_is) c.requires.who;
    stands = subst (λ (z : Playing). AgentsStand c.args.pool.now.start c.args.script.now z (account_at c.args.pool.now.accounts z.me.who)) (sym c.self.view_is) c.requires.stands;
  }

  at_some : AreAt c.args.script.now x here c.args.pool.now x.work (suc n)
  at_some = subst (AreAt c.args.script.now x here c.args.pool.now x.work) some at

pub steps-requires-clause-me : goal.steps-requires-clause-me
steps-requires-clause-me g c =
    let d = (goal.at.steps-requires-clause-me g c).Else-self-eq0 in
    of_them c.args.script.now (x g d) (here g d) c.args.pool.now (x g d).work (n g d) (at_some g d)

pub steps-requires-clause-agent : goal.steps-requires-clause-agent
steps-requires-clause-agent g c =
    let d = (goal.at.steps-requires-clause-agent g c).Else-self-eq0 in
    may_step c.args.pool.now (x g d).me.who (turns.step_may (was c.args.script.now (x g d) (here g d) c.args.pool.now (x g d).work (n g d) (at_some g d)))

pub steps-requires-clause-fits : goal.steps-requires-clause-fits
steps-requires-clause-fits g c =
    let d = (goal.at.steps-requires-clause-fits g c).Else-self-eq0 in
    fits c.args.script.now (x g d) (here g d) c.args.pool.now (x g d).work (n g d) (at_some g d)

-- how they end
ends : (g : Over) (c : After-steps g) (u : Turn WorkAnswer) → c.steps.result ≡ u → let d = (goal.at.After-steps g c).Else-self-eq0 in RowEnds c.args.script.now (x g d) (here g d) c.args.pool.now (x g d).work (x g d).life.left c.steps.new.self c.steps.new.m c.steps.new.life.left (answer_in u)
ends g c u is =
    let d = (goal.at.After-steps g c).Else-self-eq0 in
    subst (λ (v : Turn WorkAnswer). RowEnds c.args.script.now (x g d) (here g d) c.args.pool.now (x g d).work (x g d).life.left c.steps.new.self c.steps.new.m c.steps.new.life.left (answer_in v)) is
    (subst (RowEndsAt c.args.script.now (x g d) (here g d) c.args.pool.now (x g d).work (x g d).life.left) (sym c.steps.ensures.stop)
    (row_ends c.args.script.now (x g d) (here g d) (x g d).life.left (x g d).work c.args.pool.now (at g d)))

-- they go on, and no word step is left
module _ (g : Over) (c : After-steps g) where
  abbrev y : Playing
  y = with_left c.args.script.now (x g (goal.at.After-steps g c).Else-self-eq0) (here g (goal.at.After-steps g c).Else-self-eq0) c.steps.new.m c.steps.new.life.left

  row_of : (u : Turn WorkAnswer) → c.steps.result ≡ u → answer_in u ≡ None → (k : ℕ) × AreTurns c.args.script.now k c.args.pool.now c.args.self.now c.steps.new.self y
  row_of u is none =
      let d = (goal.at.After-steps g c).Else-self-eq0 in
      let r = subst (RowEnds c.args.script.now (x g d) (here g d) c.args.pool.now (x g d).work (x g d).life.left c.steps.new.self c.steps.new.m c.steps.new.life.left) none (ends g c u is) in
      (r.0, subst (λ (z : Playing). AreTurns c.args.script.now r.0 c.args.pool.now z c.steps.new.self y) c.self.view_is r.1)

  turns_of : (u : Turn WorkAnswer) → c.steps.result ≡ u → answer_in u ≡ None → turns_by y (Some c.args.script.now) < turns_by c.args.self.now (Some c.args.script.now)
  turns_of u is none =
      let d = (goal.at.After-steps g c).Else-self-eq0 in
      let r = subst (RowEnds c.args.script.now (x g d) (here g d) c.args.pool.now (x g d).work (x g d).life.left c.steps.new.self c.steps.new.m c.steps.new.life.left) none (ends g c u is) in
      let zero_left = r.2 in
      let some_left = some g d in
      subst (λ (z : Playing). turns_by y (Some c.args.script.now) < turns_by z (Some c.args.script.now)) c.self.view_is (turns.fewer c.args.script.now (x g d) y (here g d) refl (omega arith))

pub returns-in-More-clause-row : goal.returns-in-More-clause-row
returns-in-More-clause-row g c = row_of g (goal.at.returns-in-More-clause-row g c).After-steps More c.in-More.is refl

pub returns-in-More-clause-turns : goal.returns-in-More-clause-turns
returns-in-More-clause-turns g c = turns_of g (goal.at.returns-in-More-clause-turns g c).After-steps More c.in-More.is refl

pub returns-in-Died-clause-row : goal.returns-in-Died-clause-row
returns-in-Died-clause-row g c = row_of g (goal.at.returns-in-Died-clause-row g c).After-steps Died c.in-Died.is refl

pub returns-in-Died-clause-turns : goal.returns-in-Died-clause-turns
returns-in-Died-clause-turns g c = turns_of g (goal.at.returns-in-Died-clause-turns g c).After-steps Died c.in-Died.is refl

-- the work has answered
module _ (g : Over) (c : In-Done g) where
  abbrev d : Else-self-eq0 g
  d = (goal.at.In-Done g c).Else-self-eq0

  told : HasAnswered c.args.script.now (x g d) (here g d) c.args.pool.now (x g d).work (x g d).life.left c.steps.new.self c.steps.new.m c.steps.new.life.left c.in-Done.told
  told = ends g (goal.at.In-Done g c).After-steps (Done c.in-Done.told) c.in-Done.is

  before : turns.Before told.last.start c.args.script.now (with_left c.args.script.now (x g d) (here g d) told.work (suc c.steps.new.life.left)) (with_left c.args.script.now (x g d) (here g d) told.work (suc c.steps.new.life.left)) (account_at told.last.accounts (x g d).me.who)
  before = was c.args.script.now (x g d) (here g d) told.last told.work c.steps.new.life.left told.at

pub go_on-requires-clause-geometry : goal.go_on-requires-clause-geometry
go_on-requires-clause-geometry g c = turns.geometry (before g (goal.at.go_on-requires-clause-geometry g c).In-Done)

pub go_on-requires-clause-who : goal.go_on-requires-clause-who
go_on-requires-clause-who g c = turns.who (before g (goal.at.go_on-requires-clause-who g c).In-Done)

pub go_on-requires-clause-told : goal.go_on-requires-clause-told
go_on-requires-clause-told g c =
    let i = (goal.at.go_on-requires-clause-told g c).In-Done in
    turns.may_go_on (before g i) (told g i).after refl c.in-Done.told refl c.as_slice.result.now (c.as_slice.ensures.value ∙ ap (λ (z : Scripted). z.lines) c.script.view_is)

pub go_on-requires-clause-line : goal.go_on-requires-clause-line
go_on-requires-clause-line g c = turns.may_begin_in (before g (goal.at.go_on-requires-clause-line g c).In-Done) c.as_slice.result.now (c.as_slice.ensures.value ∙ ap (λ (z : Scripted). z.lines) c.script.view_is)

gone : (g : Over) (c : After-go_on g) → let i = (goal.at.After-go_on g c).In-Done in turns.GoneOn (before g i) (told g i).after refl c.go_on.new.self
gone g c =
    let i = (goal.at.After-go_on g c).In-Done in
    turns.gone_on (before g i) (told g i).after refl c.in-Done.told refl c.as_slice.result.now (c.as_slice.ensures.value ∙ ap (λ (z : Scripted). z.lines) c.script.view_is) c.go_on.new.self c.go_on.ensures

pub returns-in-Done-clause-row : goal.returns-in-Done-clause-row
returns-in-Done-clause-row g c =
    let at = goal.at.returns-in-Done-clause-row g c in
    let i = at.In-Done in
    let t = told g i in
    let z = gone g at.After-go_on in (
      suc t.many,
      subst (λ (u : Playing). AreTurns c.args.script.now (suc t.many) c.args.pool.now u c.steps.new.self c.go_on.new.self) c.self.view_is
          (are_more c.args.script.now t.many c.args.pool.now (x g (d g i)) t.last (with_left c.args.script.now (x g (d g i)) (here g (d g i)) t.work (suc c.steps.new.life.left)) c.steps.new.self c.go_on.new.self t.row (t.turn c.go_on.new.self z.me z.script z.stands)),
    )

pub returns-in-Done-clause-turns : goal.returns-in-Done-clause-turns
returns-in-Done-clause-turns g c =
    let at = goal.at.returns-in-Done-clause-turns g c in
    let i = at.In-Done in
    let t = told g i in
    let z = gone g at.After-go_on in
    let less = t.less in
    let left = ap (λ l. l.left) z.lives in
    subst (λ (u : Playing). turns_by c.go_on.new.self (Some c.args.script.now) < turns_by u (Some c.args.script.now)) c.self.view_is (turns.fewer c.args.script.now (x g (d g i)) c.go_on.new.self (here g (d g i)) z.agent (omega arith))
