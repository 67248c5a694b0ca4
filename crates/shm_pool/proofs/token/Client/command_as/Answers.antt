use Rattle.std.proofs.Common.{◌≡◌, refl, sym, ap, ◌∙◌, subst}
use Rattle.shm_graph.specs.declared.ask.Me.{Me}
use Rattle.shm_table.specs.Command.{LineMayStand}
use Rattle.shm_pool.specs.{declared.reply.Reply.TheVariants.Died, Called.HasRun, Tokens.{Acting, me_of}}
use Rattle.shm_pool.proofs.Commanded.{commanded_dead, commanded_died, commanded_done, stands}
use Rattle.shm_pool.proofs.token.Client.command_as.{Given.Over, Goals.After-of-command}
use Rattle.shm_pool.proofs.token.Client.command_as.Goals as goal

pub of-command-requires-clause-line : goal.of-command-requires-clause-line
of-command-requires-clause-line g c = let x = c.in-Some.ensures.alive in subst (λ (z : Me). LineMayStand z c.args.line.now) (sym x.is) (stands (me_of c.args.self.now.of c.args.self.now.account) c.args.line.now c.args.self.now.account.memo (c.requires.line x.alive))

-- the machine is that of the client's identity
planned : (g : Over) (c : After-of-command g) → c.of-command.result ≡ g.C.Shows.made (me_of c.args.self.now.of c.args.self.now.account) c.args.line.now
planned g c = c.of-command.ensures ∙ ap (λ (x : Me). g.C.Shows.made x c.args.line.now) c.in-Some.ensures.alive.is

pub run_on-requires-clause-me : goal.run_on-requires-clause-me
run_on-requires-clause-me g c =
    let x = (goal.at.run_on-requires-clause-me g c).After-of-command in
    ap (λ m. g.C.Machine.control.me m) (planned g x) ∙ g.met.C.Shows.shows.me (me_of c.args.self.now.of c.args.self.now.account) c.args.line.now

pub run_on-requires-clause-may : goal.run_on-requires-clause-may
run_on-requires-clause-may g c = λ alive.
    let x = (goal.at.run_on-requires-clause-may g c).After-of-command in
    subst (λ m. g.C.Operation.may m c.args.self.now.account.memo) (sym (planned g x)) (g.met.C.Shows.shows.begins (me_of c.args.self.now.of c.args.self.now.account) c.args.line.now c.args.self.now.account.memo (c.requires.line alive))

pub returns-in-Done : goal.returns-in-Done
returns-in-Done g c =
    let M = g.C.Machine in
    let O = g.C.Operation in
    let S = g.C.Shows in
    let x = (goal.at.returns-in-Done g c).After-of-command in
    record { called = commanded_done M.control M.fits O.may O.does O.leaves O.rests S.effect S.made g.met.C.Shows.shows c.requires.maps c.requires.sends c.args.line.now c.args.self.now c.run_on.new.self c.args.life.now.left c.run_on.new.life.left c.of-command.result c.in-Done.answer (planned g x) c.in-Done.ensures.done c.in-Done.ensures.effect }

pub returns : goal.returns
returns g c =
    let M = g.C.Machine in
    let O = g.C.Operation in
    let S = g.C.Shows in
    let t = c.args.self.now in
    let alive = c.in-Some.ensures.alive.alive in
    let d = c.in-Died.ensures in
    let x = (goal.at.returns g c).After-of-command in
    record {
      called = subst (λ (z : Acting). HasRun M.control S.effect S.made O.leaves c.args.line.now t z c.args.life.now.left c.run_on.new.life.left Died) (sym c.keep_effect.ensures)
          (commanded_died M.control M.fits O.may O.does O.leaves O.rests S.effect S.made g.met.C.Shows.shows c.requires.maps c.requires.sends c.args.line.now t c.run_on.new.self c.args.life.now.left c.run_on.new.life.left c.of-command.result c.run_on.new.operation c.effect.result alive (planned g x) d.done (d.driven alive) (d.cut alive tt) c.effect.ensures);
    }

pub returns-in_default : goal.returns-in_default
returns-in_default g c =
    let M = g.C.Machine in
    let O = g.C.Operation in
    let S = g.C.Shows in
    record { called = commanded_dead M.control M.fits O.may O.does O.leaves O.rests S.effect S.made g.met.C.Shows.shows c.requires.maps c.requires.sends c.args.line.now c.args.self.now c.args.life.now.left c.in_default.ensures.stood (c.in_default.ensures.dead refl) }
