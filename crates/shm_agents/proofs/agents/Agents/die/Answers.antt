use Rattle.std.proofs.Common.{◌≡◌, ℕ, ◌+◌, ◌<◌, Bool, true, false, List, length, refl, sym, ap, ◌∙◌, subst, inl, inr}
use Rattle.std.specs.{Prelude.{not, Option, Some, None, slice_get}, Option.is_some}
use Rattle.shm_words.specs.Layout.{GeometryFits}
use Rattle.shm_graph.specs.{declared.{ask.Me.Me, run.{Account.Account, Start.Start}}, Agents.acts, Runs.account_died}
use Rattle.shm_script.specs.{declared.{line.Line.Line, log.End.End}, Values.Scripted}
use Rattle.shm_agents.specs.{Agents.{Playing, AgentsStand, follows}, Turns.lives_of, TurnsLeft.turns_given}
use Rattle.shm_agents.proofs.{Dying.settles, Given.given_died, agents.Agents.die.Given.Over}
use Rattle.shm_agents.proofs.agents.Agents.die.Goals.{After-as_slice-2, After-follow, else-is_none, then-is_none}
use Rattle.shm_agents.proofs.Deaths as deaths
use Rattle.shm_agents.proofs.agents.Agents.die.Goals as goal

-- whether it has ended
none_by : (o : Option End) (b : Bool) → is_some o ≡ not b → b ≡ true → o ≡ None
none_by None b e is = refl
none_by (Some y) b e is = absurd (let z : true ≡ false = e ∙ ap not is in cc)

pub fall-requires-clause-acts : goal.fall-requires-clause-acts
fall-requires-clause-acts g c =
    let p = c.args.pool.now in
    let x : Playing = c.args.self.now in
    subst (λ (z : Playing). acts (g.W.Workplace.account p z.me.who).memo ≡ true) (sym c.self.view_is)
    (deaths.acting (g.W.Workplace.start p) c.args.script.now x (g.W.Workplace.account p x.me.who) (record { stood = g.met.W.Workplace.stood p x.me.who c.requires.has; stands = c.requires.stands; here = c.requires.here; spent = c.requires.spent }))

pub settle-requires-clause-command : goal.settle-requires-clause-command
settle-requires-clause-command g c shown =
    let p = c.args.pool.now in
    let x : Playing = c.args.self.now in
    let none : x.end ≡ None = none_by x.end c.is_none.result (ap (λ (z : Playing). is_some z.end) (sym c.self.view_is) ∙ c.is_none.ensures) c.if-is_none.true in
    subst (λ (ls : List Line). length x.entries < length ls) (sym (c.as_slice.ensures.value ∙ ap (λ (z : Scripted). z.lines) c.script.view_is))
    (deaths.below (g.W.Workplace.start p) c.args.script.now x (g.W.Workplace.account p x.me.who) (record { stood = g.met.W.Workplace.stood p x.me.who c.requires.has; stands = c.requires.stands; here = c.requires.here; spent = c.requires.spent }) none shown)

module _ (g : Over) (c : After-as_slice-2 g) where
  abbrev x : Playing
  x = c.args.self.now

  abbrev s : Scripted
  s = c.args.script.now

  abbrev start : Start
  start = g.W.Workplace.start c.args.pool.now

  abbrev e : Account
  e = g.W.Workplace.account c.args.pool.now c.args.self.now.me.who

  is_spent : deaths.IsSpent start s x e
  is_spent = record { stood = g.met.W.Workplace.stood c.args.pool.now c.args.self.now.me.who c.requires.has; stands = c.requires.stands; here = c.requires.here; spent = c.requires.spent }

  ending : is_some x.end ≡ not c.is_none.result
  ending = ap (λ (z : Playing). is_some z.end) (sym c.self.view_is) ∙ c.is_none.ensures

  abbrev line : Line
  line = deaths.line start s x e is_spent

  noted : deaths.Noted start s x e is_spent c.if-is_none.self
  noted =
      elim c.if-is_none.branch [
        | then-is_none w ↦ (let none : x.end ≡ None = none_by x.end c.is_none.result ending w.if-is_none.true in
            let lines : w.as_slice.result.now ≡ s.lines = w.as_slice.ensures.value ∙ ap (λ (z : Scripted). z.lines) c.script.view_is in
            let settled : w.settle.new.self ≡ settles line x = w.settle.ensures line (λ shown. ap (λ (ls : List Line). slice_get ls (length x.entries)) lines ∙ deaths.line_at start s x e is_spent none shown) in
            inl (none, w.self-is ∙ settled))
        | else-is_none w ↦ inr (ending ∙ ap not w.if-is_none.false, w.self-is)
      ]

  noted_me : c.if-is_none.self.me ≡ x.me
  noted_me = deaths.noted_me start s x e is_spent c.command_maps.ensures.runs c.if-is_none.self noted

pub follow-requires-clause-geometry : goal.follow-requires-clause-geometry
follow-requires-clause-geometry g c =
    subst (λ (m : Me). GeometryFits m.geometry) (sym (noted_me g c))
    (deaths.geometry (start g c) c.args.script.now c.args.self.now (e g c) (is_spent g c))

pub follow-requires-clause-who : goal.follow-requires-clause-who
follow-requires-clause-who g c =
    subst (λ (m : Me). m.who < m.geometry.clients) (sym (noted_me g c))
    (deaths.who (start g c) c.args.script.now c.args.self.now (e g c) (is_spent g c))

pub follow-requires-clause-few : goal.follow-requires-clause-few
follow-requires-clause-few g c =
    let same = deaths.noted_agent (start g c) c.args.script.now c.args.self.now (e g c) (is_spent g c) c.command_maps.ensures.runs c.if-is_none.self (noted g c) in
    subst (λ (n : ℕ). n + 1 < 18446744073709551616) (sym same) (deaths.agent_fits (start g c) c.args.script.now c.args.self.now (e g c) (is_spent g c))

module _ (g : Over) (c : After-follow g) where
  abbrev at : After-as_slice-2 g
  at = (goal.at.After-follow g c).After-as_slice-2

  -- the account once the agent is dead, by its number
  to : g.W.Workplace.account c.fall.new.self c.args.self.now.me.who ≡ account_died (e g at)
  to =
      subst (λ (k : ℕ). g.W.Workplace.account c.fall.new.self k ≡ account_died (g.W.Workplace.account c.args.pool.now k)) (ap (λ (z : Playing). z.me.who) c.self.view_is) c.fall.ensures.account

  is : c.follow.new.self ≡ follows (slice_get (lives_of c.args.script.now.life) (c.if-is_none.self.agent + 1)) c.if-is_none.self
  is =
      c.follow.ensures
      ∙ ap (λ (l : List ℕ). follows (slice_get (lives_of l) (c.if-is_none.self.agent + 1)) c.if-is_none.self) (c.as_slice-2.ensures.value ∙ ap (λ (z : Scripted). z.life) c.script.view_is)

pub returns-clause-me : goal.returns-clause-me
returns-clause-me g c =
    deaths.last_me (start g (at g c)) c.args.script.now c.args.self.now (e g (at g c)) (is_spent g (at g c)) c.command_maps.ensures.runs c.if-is_none.self (noted g (at g c)) _ (to g c) c.follow.new.self (is g c)

pub returns-clause-script : goal.returns-clause-script
returns-clause-script g c =
    deaths.last_script (start g (at g c)) c.args.script.now c.args.self.now (e g (at g c)) (is_spent g (at g c)) c.command_maps.ensures.runs c.if-is_none.self (noted g (at g c)) _ (to g c) c.follow.new.self (is g c)

pub returns-clause-stands : goal.returns-clause-stands
returns-clause-stands g c =
    subst (λ (z : Start). AgentsStand z c.args.script.now c.follow.new.self (g.W.Workplace.account c.fall.new.self c.args.self.now.me.who)) (sym c.fall.ensures.start)
    (deaths.last_stands (start g (at g c)) c.args.script.now c.args.self.now (e g (at g c)) (is_spent g (at g c)) c.command_maps.ensures.runs c.if-is_none.self (noted g (at g c)) _ (to g c) c.follow.new.self (is g c))

pub returns-clause-turns : goal.returns-clause-turns
returns-clause-turns g c =
    deaths.last_fewer (start g (at g c)) c.args.script.now c.args.self.now (e g (at g c)) (is_spent g (at g c)) c.command_maps.ensures.runs c.if-is_none.self (noted g (at g c)) _ (to g c) c.follow.new.self (is g c)

pub returns-clause-given : goal.returns-clause-given
returns-clause-given g c =
    ap turns_given (to g c) ∙ given_died (e g (at g c)) (deaths.acting (start g (at g c)) c.args.script.now c.args.self.now (e g (at g c)) (is_spent g (at g c)))
