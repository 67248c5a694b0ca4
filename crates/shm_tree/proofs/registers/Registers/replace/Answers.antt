use Rattle.std.proofs.Common.{◌≡◌, ◌∙◌, refl, sym, true≢false}
use Rattle.shm_tree.specs.{declared.stop.Stop.Stop, Working.DiedBegun}
use Rattle.shm_tree.proofs.CutShort.{handed_err}
use Rattle.shm_tree.proofs.Moving.{moves_done, moves_from, moves_still, replaced_forest, replaced_left, replaced_put}
use Rattle.shm_tree.proofs.{Refusals.handed, Lasts.late_from}
use Rattle.shm_tree.proofs.registers.Registers.replace.Goals as goal

pub emptied-requires : goal.emptied-requires
emptied-requires c = record { working = c.requires.forest.working; root = c.requires.forest.low c.args.at c.requires.at }

pub returns-in_err-emptied-clause-moves : goal.returns-in_err-emptied-clause-moves
returns-in_err-emptied-clause-moves c =
    let e = c.in_err-emptied.ensures in
    moves_from c.from_residual.result c.from_residual.ensures.1 (moves_still (Unit {0}) c.args.self.now c.emptied.new.pool _ c.requires.forest e.calls e.still)

pub returns-in_err-emptied-clause-refused : goal.returns-in_err-emptied-clause-refused
returns-in_err-emptied-clause-refused c = handed (Unit {0}) _ _ c.from_residual.result c.from_residual.ensures.1 (λ r. r) c.in_err-emptied.ensures.refused

pub returns-in_err-emptied-clause-begun : goal.returns-in_err-emptied-clause-begun
returns-in_err-emptied-clause-begun c = handed_err (λ (e : Stop). DiedBegun e c.args.self.now.pool c.emptied.new.pool c.args.life.now.left) c.from_residual.result c.from_residual.ensures.1 c.in_err-emptied.ensures.begun

pub returns-in_err-emptied-clause-kept : goal.returns-in_err-emptied-clause-kept
returns-in_err-emptied-clause-kept c = handed_err (λ (e : Stop). c.args.self.now.roots ≡ c.args.self.now.roots) c.from_residual.result c.from_residual.ensures.1 refl

pub returns-in_err-emptied-clause-idle : goal.returns-in_err-emptied-clause-idle
returns-in_err-emptied-clause-idle c = λ e. absurd (true≢false (sym (c.in_err-emptied.ensures.idle e)))

pub returns-in_err-emptied-clause-late : goal.returns-in_err-emptied-clause-late
returns-in_err-emptied-clause-late c = late_from c.from_residual.result c.from_residual.ensures.1 c.in_err-emptied.ensures.late

pub returns : goal.returns
returns c =
    let f = c.args.self.now in
    let q = c.emptied.new.pool in
    let x = c.requires.forest in
    let h = c.in_ok-emptied.ensures in
    let l = h.calls.latch ∙ x.latch in
    record {
      begun = tt;
      kept = tt;
      idle = λ e. refl;
      moves = moves_done _ h.calls.went (replaced_forest f q c.args.at c.args.root x c.requires.at c.requires.root h.calls.working l h.calls.kept h.others h.empty c.requires.tree.0 c.requires.tree.1);
      put = replaced_put f q c.args.at c.args.root x c.requires.at c.requires.root h.calls.working l h.calls.kept h.others h.empty;
      left = replaced_left f q c.args.at c.args.root x c.requires.at c.requires.root h.calls.working l h.calls.kept h.others h.empty;
      costs = h.costs;
      told = refl;
      refused = tt;
      late = tt;
    }
