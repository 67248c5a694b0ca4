use Rattle.std.proofs.Common.{◌∙◌, ap, sym, subst}
use Rattle.shm_graph.specs.declared.run.Start.{Start}
use Rattle.shm_tree.specs.{ForestCalls.RanLine, Forests.{Forested, is_died}}
use Rattle.shm_tree.proofs.{Falls.still_falling, Outcomes.{outcome_forest, outcome_lost, outcome_ran, outcome_swept}}
use Rattle.shm_tree.proofs.forest.Forest.run.Goals as goal

pub invariant_of-self : goal.invariant_of-self
invariant_of-self c =
    let m = c.run.ensures.moves in
    record {
      single = ap (λ (s : Start). s.tables) m.went.start ∙ c.self.invariant.single;
      forest = λ alive. outcome_forest c.run.result m.forest (sym (ap is_died c.turn_by-turn.ensures) ∙ (sym c.is_died-self-inside.ensures ∙ alive));
      swept = λ alive. outcome_swept c.self.inside.registers c.run.new.self c.run.result (c.self.invariant.swept c.if-self.false) c.run.ensures.swept (sym (ap is_died c.turn_by-turn.ensures) ∙ (sym c.is_died-self-inside.ensures ∙ alive));
      first = ap (λ (s : Start). s.first_era) m.went.start ∙ c.self.invariant.first;
      falling = still_falling m.went.falls c.self.invariant.falling;
      lost = λ dead. outcome_lost c.self.inside.registers c.run.new.self (c.self.invariant.forest c.if-self.false) m.went;
    }

pub returns-clause-ran : goal.returns-clause-ran
returns-clause-ran c alive =
    let r = c.run.ensures in
    let i = c.self.invariant in
    subst (λ (f : Forested). RanLine c.args.line.now f (record { registers = c.run.new.self; hints = c.self.inside.hints; died = c.is_died-self-inside.result }) c.args.life.now.left c.run.new.life.left c.turn_by-turn.result) c.self.view_is
    (outcome_ran c.args.line.now c.self.inside.registers c.run.new.self c.self.inside.died c.is_died-self-inside.result c.run.result c.turn_by-turn.result (i.forest c.if-self.false) (i.swept c.if-self.false) i.falling (still_falling r.moves.went.falls i.falling) c.requires.line c.turn_by-turn.ensures c.is_died-self-inside.ensures r.moves r.swept r.does r.reading r.costs r.few r.refused r.own r.same r.late r.off r.idle)
