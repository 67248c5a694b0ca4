use Rattle.std.proofs.Common.{◌∙◌, sym, refl, true, true≢false}
use Rattle.shm_tree.proofs.{Building.looked_none, Costing.costs_none, Forests.{forest_over, registers_over}}
use Rattle.shm_tree.proofs.{Moving.{moves_done, moves_from, moves_stop}, Refusals.handed, Lasts.late_from}
use Rattle.shm_tree.proofs.registers.Registers.sweep.Goals as goal

pub returns-in_err-swept-clause-moves : goal.returns-in_err-swept-clause-moves
returns-in_err-swept-clause-moves c =
    moves_from c.from_residual.result c.from_residual.ensures.1
    (moves_stop (Unit {0}) c.args.self.now c.swept.new.pool c.args.self.now.tidy _ c.requires.forest (λ e. absurd (true≢false (sym e ∙ c.if-self.false))) c.in_err-swept.ensures.calls)

pub returns : goal.returns
returns c =
    let f = c.args.self.now in
    let s = c.in_ok-swept.ensures in
    record {
      idle = λ e. absurd (true≢false (sym e ∙ c.if-self.false));
      moves = moves_done _ s.calls.went (forest_over f c.swept.new.pool true c.requires.forest s.calls.working (s.calls.latch ∙ c.requires.forest.latch) s.calls.kept (λ e. s.empty));
      same = registers_over f c.swept.new.pool true s.calls.kept;
      roots = refl;
      tidy = s.empty;
      costs = s.costs;
      told = refl;
      refused = tt;
      late = tt;
      spent = tt;
    }

-- they were tidy
pub returns-then-self-clause-moves : goal.returns-then-self-clause-moves
returns-then-self-clause-moves c = moves_done _ (looked_none c.args.self.now.pool c.args.life.now.left c.requires.forest.working).went c.requires.forest

pub returns-then-self-clause-costs : goal.returns-then-self-clause-costs
returns-then-self-clause-costs c = costs_none _ c.args.self.now.pool c.args.life.now.left c.requires.forest.working

pub returns-in_err-swept-clause-refused : goal.returns-in_err-swept-clause-refused
returns-in_err-swept-clause-refused c = handed (Unit {0}) _ _ c.from_residual.result c.from_residual.ensures.1 (λ s. s) c.in_err-swept.ensures.refused

pub returns-in_err-swept-clause-spent : goal.returns-in_err-swept-clause-spent
returns-in_err-swept-clause-spent c = handed (Unit {0}) _ _ c.from_residual.result c.from_residual.ensures.1 (λ s. s) c.in_err-swept.ensures.spent

pub returns-in_err-swept-clause-late : goal.returns-in_err-swept-clause-late
returns-in_err-swept-clause-late c = late_from c.from_residual.result c.from_residual.ensures.1 c.in_err-swept.ensures.late
