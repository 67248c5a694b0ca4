use Rattle.std.proofs.Common.{◌≡◌, ◌∙◌, refl, true, inl, inr}
use Rattle.shm_tree.specs.{declared.stop.Stop.Stop, Working.DiedBegun}
use Rattle.shm_tree.proofs.{CutShort.handed_err, Forests.{told, told_versions}, Moving.{moves_done, moves_from}}
use Rattle.shm_tree.proofs.{Refusals.handed, Lasts.late_from}
use Rattle.shm_tree.proofs.registers.Registers.put.Goals as goal

pub replace-requires : goal.replace-requires
replace-requires c = record { forest = c.requires.forest; at = c.requires.at; root = c.requires.root; tree = c.requires.tree }

pub returns-in_err-replace-clause-moves : goal.returns-in_err-replace-clause-moves
returns-in_err-replace-clause-moves c = moves_from c.from_residual.result c.from_residual.ensures.1 c.in_err-replace.ensures.moves

pub returns-in_err-replace-clause-refused : goal.returns-in_err-replace-clause-refused
returns-in_err-replace-clause-refused c = handed (Unit {0}) _ _ c.from_residual.result c.from_residual.ensures.1 (λ r. r) c.in_err-replace.ensures.refused

pub returns-in_err-replace-clause-begun : goal.returns-in_err-replace-clause-begun
returns-in_err-replace-clause-begun c = handed_err (λ (e : Stop). DiedBegun e c.args.self.now.pool c.replace.new.self.pool c.args.life.now.left) c.from_residual.result c.from_residual.ensures.1 c.in_err-replace.ensures.begun

pub returns-in_err-replace-clause-kept : goal.returns-in_err-replace-clause-kept
returns-in_err-replace-clause-kept c = handed_err (λ (e : Stop). c.replace.new.self.roots ≡ c.args.self.now.roots) c.from_residual.result c.from_residual.ensures.1 c.in_err-replace.ensures.kept

pub returns-in_err-replace-clause-late : goal.returns-in_err-replace-clause-late
returns-in_err-replace-clause-late c = late_from c.from_residual.result c.from_residual.ensures.1 c.in_err-replace.ensures.late

pub returns : goal.returns
returns c =
    let g = c.replace.new.self in
    let r = c.in_ok-replace.ensures in
    record {
      begun = tt;
      kept = tt;
      moves =
          moves_done _ r.moves.went (told g true r.moves.forest (λ e k lt free.
          (let h = r.left k lt free in
          elim h.1 [
            | inl none ↦ none
            | inr was ↦ was.1 ∙ c.requires.alone k lt h.0 was.0
          ])));
      put = λ ts t v s. told_versions g true _ (r.put ts t v s);
      costs = r.costs;
      told = refl;
      refused = tt;
      late = tt;
    }
