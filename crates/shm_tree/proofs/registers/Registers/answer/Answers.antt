use Rattle.std.proofs.Common.{ℕ, Bool, sym, subst, true≢false}
use Rattle.std.specs.Prelude.{Option}
use Rattle.shm_tree.specs.{declared.line.TreeLine.TreeLine, Costing.{CostsLine, DiesLine, FewSet, StopsLine}}
use Rattle.shm_tree.specs.{CutShort.{DiesHalfDone, IsWordless}, Forests.IsInRange, Working.IfRefused}
use Rattle.shm_tree.specs.declared.line.TreeLine.TheVariants as lines
use Rattle.shm_tree.proofs.{CutShort.{empty_root, off_from}, Moving.{moves_by, moves_from, moves_to}}
use Rattle.shm_tree.proofs.{Refusals.{handed, handed_over}, Lasts.late_from}
use Rattle.shm_tree.proofs.registers.Registers.answer.Goals as goal

pub returns-in_ok-set-in-Set-clause-few : goal.returns-in_ok-set-in-Set-clause-few
returns-in_ok-set-in-Set-clause-few c = subst (λ (l : TreeLine). FewSet l c.args.self.now c.set.new.self) (sym c.in-Set.is) c.in_ok-set-in-Set.ensures.few

pub returns-then-was-clause-costs : goal.returns-then-was-clause-costs
returns-then-was-clause-costs c = subst (λ (l : TreeLine). CostsLine l c.args.self.now c.del.new.self c.args.life.now.left c.del.new.life.left) (sym c.in-Del.is) c.in_ok-was-in-Del.ensures.costs

pub returns-else-was-clause-costs : goal.returns-else-was-clause-costs
returns-else-was-clause-costs c = subst (λ (l : TreeLine). CostsLine l c.args.self.now c.del.new.self c.args.life.now.left c.del.new.life.left) (sym c.in-Del.is) c.in_ok-was-in-Del.ensures.costs

pub returns-in_err-set-in-Set-clause-refused : goal.returns-in_err-set-in-Set-clause-refused
returns-in_err-set-in-Set-clause-refused c =
    subst (λ (l : TreeLine). IfRefused c.from_residual.result (StopsLine l c.args.self.now c.set.new.self c.args.life.now.left c.set.new.life.left)) (sym c.in-Set.is)
    (handed (Unit {0}) (StopsLine (lines.Set c.in-Set.to c.in-Set.from c.in-Set.key c.in-Set.number) c.args.self.now c.set.new.self c.args.life.now.left c.set.new.life.left) _ c.from_residual.result c.from_residual.ensures.1 (λ r. r) c.in_err-set-in-Set.ensures.refused)

pub returns-in_err-was-in-Del-clause-refused : goal.returns-in_err-was-in-Del-clause-refused
returns-in_err-was-in-Del-clause-refused c =
    subst (λ (l : TreeLine). IfRefused c.from_residual-in_err-was-in-Del.result (StopsLine l c.args.self.now c.del.new.self c.args.life.now.left c.del.new.life.left)) (sym c.in-Del.is)
    (handed Bool (StopsLine (lines.Del c.in-Del.to c.in-Del.from c.in-Del.key) c.args.self.now c.del.new.self c.args.life.now.left c.del.new.life.left) _ c.from_residual-in_err-was-in-Del.result c.from_residual-in_err-was-in-Del.ensures.1 (λ r. r) c.in_err-was-in-Del.ensures.refused)

pub returns-in_err-copy-in-Copy-clause-refused : goal.returns-in_err-copy-in-Copy-clause-refused
returns-in_err-copy-in-Copy-clause-refused c =
    subst (λ (l : TreeLine). IfRefused c.from_residual-in_err-copy-in-Copy.result (StopsLine l c.args.self.now c.copy.new.self c.args.life.now.left c.copy.new.life.left)) (sym c.in-Copy.is)
    (handed (Unit {0}) (StopsLine (lines.Copy c.in-Copy.to c.in-Copy.from) c.args.self.now c.copy.new.self c.args.life.now.left c.copy.new.life.left) _ c.from_residual-in_err-copy-in-Copy.result c.from_residual-in_err-copy-in-Copy.ensures.1 (λ r ts v. r) c.in_err-copy-in-Copy.ensures.refused)

pub returns-in_err-clear-in-Clear-clause-refused : goal.returns-in_err-clear-in-Clear-clause-refused
returns-in_err-clear-in-Clear-clause-refused c =
    subst (λ (l : TreeLine). IfRefused c.from_residual-in_err-clear-in-Clear.result (StopsLine l c.args.self.now c.clear.new.self c.args.life.now.left c.clear.new.life.left)) (sym c.in-Clear.is)
    (handed (Unit {0}) (StopsLine (lines.Clear c.in-Clear.at) c.args.self.now c.clear.new.self c.args.life.now.left c.clear.new.life.left) _ c.from_residual-in_err-clear-in-Clear.result c.from_residual-in_err-clear-in-Clear.ensures.1 (λ r ts v. r) c.in_err-clear-in-Clear.ensures.refused)

pub returns-in_err-number-in-Get-clause-refused : goal.returns-in_err-number-in-Get-clause-refused
returns-in_err-number-in-Get-clause-refused c = handed_over _ c.from_residual-in_err-number-in-Get.result c.from_residual-in_err-number-in-Get.ensures.1 c.in_err-number-in-Get.ensures.died

pub returns-in_err-set-in-Set-clause-moves : goal.returns-in_err-set-in-Set-clause-moves
returns-in_err-set-in-Set-clause-moves c = moves_from c.from_residual.result c.from_residual.ensures.1 (moves_to (Unit {0}) _ c.in_err-set-in-Set.ensures.moves)

pub returns-in_err-was-in-Del-clause-moves : goal.returns-in_err-was-in-Del-clause-moves
returns-in_err-was-in-Del-clause-moves c = moves_from c.from_residual-in_err-was-in-Del.result c.from_residual-in_err-was-in-Del.ensures.1 (moves_to Bool _ c.in_err-was-in-Del.ensures.moves)

pub returns-in_err-number-in-Get-clause-moves : goal.returns-in_err-number-in-Get-clause-moves
returns-in_err-number-in-Get-clause-moves c = moves_from c.from_residual-in_err-number-in-Get.result c.from_residual-in_err-number-in-Get.ensures.1 (moves_to (Option ℕ) _ (moves_by _ c.in_err-number-in-Get.ensures.moves))

pub returns-in_err-copy-in-Copy-clause-moves : goal.returns-in_err-copy-in-Copy-clause-moves
returns-in_err-copy-in-Copy-clause-moves c = moves_from c.from_residual-in_err-copy-in-Copy.result c.from_residual-in_err-copy-in-Copy.ensures.1 (moves_to (Unit {0}) _ (moves_by _ c.in_err-copy-in-Copy.ensures.moves))

pub returns-in_err-clear-in-Clear-clause-moves : goal.returns-in_err-clear-in-Clear-clause-moves
returns-in_err-clear-in-Clear-clause-moves c = moves_from c.from_residual-in_err-clear-in-Clear.result c.from_residual-in_err-clear-in-Clear.ensures.1 (moves_to (Unit {0}) _ (moves_by _ c.in_err-clear-in-Clear.ensures.moves))

pub returns-in_ok-set-in-Set-clause-costs : goal.returns-in_ok-set-in-Set-clause-costs
returns-in_ok-set-in-Set-clause-costs c = subst (λ (l : TreeLine). CostsLine l c.args.self.now c.set.new.self c.args.life.now.left c.set.new.life.left) (sym c.in-Set.is) c.in_ok-set-in-Set.ensures.costs

-- no word step was left
pub returns-in_err-set-in-Set-clause-off : goal.returns-in_err-set-in-Set-clause-off
returns-in_err-set-in-Set-clause-off c =
    subst (λ (l : TreeLine). DiesHalfDone l c.from_residual.result c.args.self.now c.set.new.self c.args.life.now.left) (sym c.in-Set.is)
    (off_from (lines.Set c.in-Set.to c.in-Set.from c.in-Set.key c.in-Set.number) c.args.self.now c.set.new.self c.args.life.now.left c.from_residual.result c.from_residual.ensures.1 c.in_err-set-in-Set.ensures.off)

pub returns-in_err-was-in-Del-clause-off : goal.returns-in_err-was-in-Del-clause-off
returns-in_err-was-in-Del-clause-off c =
    subst (λ (l : TreeLine). DiesHalfDone l c.from_residual-in_err-was-in-Del.result c.args.self.now c.del.new.self c.args.life.now.left) (sym c.in-Del.is)
    (off_from (lines.Del c.in-Del.to c.in-Del.from c.in-Del.key) c.args.self.now c.del.new.self c.args.life.now.left c.from_residual-in_err-was-in-Del.result c.from_residual-in_err-was-in-Del.ensures.1 c.in_err-was-in-Del.ensures.off)

pub returns-in_err-number-in-Get-clause-off : goal.returns-in_err-number-in-Get-clause-off
returns-in_err-number-in-Get-clause-off c =
    subst (λ (l : TreeLine). DiesHalfDone l c.from_residual-in_err-number-in-Get.result c.args.self.now c.get.new.self c.args.life.now.left) (sym c.in-Get.is)
    (off_from (lines.Get c.in-Get.at c.in-Get.key) c.args.self.now c.get.new.self c.args.life.now.left c.from_residual-in_err-number-in-Get.result c.from_residual-in_err-number-in-Get.ensures.1 c.in_err-number-in-Get.ensures.off)

pub returns-in_err-copy-in-Copy-clause-off : goal.returns-in_err-copy-in-Copy-clause-off
returns-in_err-copy-in-Copy-clause-off c =
    subst (λ (l : TreeLine). DiesHalfDone l c.from_residual-in_err-copy-in-Copy.result c.args.self.now c.copy.new.self c.args.life.now.left) (sym c.in-Copy.is)
    (off_from (lines.Copy c.in-Copy.to c.in-Copy.from) c.args.self.now c.copy.new.self c.args.life.now.left c.from_residual-in_err-copy-in-Copy.result c.from_residual-in_err-copy-in-Copy.ensures.1 c.in_err-copy-in-Copy.ensures.off)

pub returns-in_err-clear-in-Clear-clause-off : goal.returns-in_err-clear-in-Clear-clause-off
returns-in_err-clear-in-Clear-clause-off c =
    subst (λ (l : TreeLine). DiesHalfDone l c.from_residual-in_err-clear-in-Clear.result c.args.self.now c.clear.new.self c.args.life.now.left) (sym c.in-Clear.is)
    (off_from (lines.Clear c.in-Clear.at) c.args.self.now c.clear.new.self c.args.life.now.left c.from_residual-in_err-clear-in-Clear.result c.from_residual-in_err-clear-in-Clear.ensures.1 c.in_err-clear-in-Clear.ensures.off)

-- which takes one
pub returns-in_err-set-in-Set-clause-idle : goal.returns-in_err-set-in-Set-clause-idle
returns-in_err-set-in-Set-clause-idle c = λ tidy ts v none. absurd (subst (λ (l : TreeLine). IsWordless l ts) c.in-Set.is none)

pub returns-in_err-was-in-Del-clause-idle : goal.returns-in_err-was-in-Del-clause-idle
returns-in_err-was-in-Del-clause-idle c = λ tidy ts v none. absurd (subst (λ (l : TreeLine). IsWordless l ts) c.in-Del.is none)

pub returns-in_err-number-in-Get-clause-idle : goal.returns-in_err-number-in-Get-clause-idle
returns-in_err-number-in-Get-clause-idle c = λ tidy ts v none. absurd (subst (λ (l : TreeLine). IsWordless l ts) c.in-Get.is none)

pub returns-in_err-copy-in-Copy-clause-idle : goal.returns-in_err-copy-in-Copy-clause-idle
returns-in_err-copy-in-Copy-clause-idle c =
    let f = c.args.self.now in
    let x = c.requires.forest in
    let low = subst IsInRange c.in-Copy.is c.requires.line in
    λ tidy ts v none.
    let both = subst (λ (l : TreeLine). IsWordless l ts) c.in-Copy.is none in
    absurd (true≢false (sym (c.in_err-copy-in-Copy.ensures.idle tidy (empty_root f c.in-Copy.to ts x low.0 v both.0) (empty_root f c.in-Copy.from ts x low.1 v both.1))))

pub returns-in_err-clear-in-Clear-clause-idle : goal.returns-in_err-clear-in-Clear-clause-idle
returns-in_err-clear-in-Clear-clause-idle c =
    let low = subst IsInRange c.in-Clear.is c.requires.line in
    λ tidy ts v none.
    let empty = subst (λ (l : TreeLine). IsWordless l ts) c.in-Clear.is none in
    absurd (true≢false (sym (c.in_err-clear-in-Clear.ensures.idle (empty_root c.args.self.now c.in-Clear.at ts c.requires.forest low v empty))))

-- how late that was
pub returns-in_err-set-in-Set-clause-late : goal.returns-in_err-set-in-Set-clause-late
returns-in_err-set-in-Set-clause-late c =
    subst (λ (l : TreeLine). DiesLine l c.from_residual.result c.args.self.now c.set.new.self c.args.life.now.left) (sym c.in-Set.is)
    (λ ts v. late_from c.from_residual.result c.from_residual.ensures.1 (c.in_err-set-in-Set.ensures.late ts v))

pub returns-in_err-was-in-Del-clause-late : goal.returns-in_err-was-in-Del-clause-late
returns-in_err-was-in-Del-clause-late c =
    subst (λ (l : TreeLine). DiesLine l c.from_residual-in_err-was-in-Del.result c.args.self.now c.del.new.self c.args.life.now.left) (sym c.in-Del.is)
    (λ ts v. late_from c.from_residual-in_err-was-in-Del.result c.from_residual-in_err-was-in-Del.ensures.1 (c.in_err-was-in-Del.ensures.late ts v))

pub returns-in_err-number-in-Get-clause-late : goal.returns-in_err-number-in-Get-clause-late
returns-in_err-number-in-Get-clause-late c =
    subst (λ (l : TreeLine). DiesLine l c.from_residual-in_err-number-in-Get.result c.args.self.now c.get.new.self c.args.life.now.left) (sym c.in-Get.is)
    (λ ts v. late_from c.from_residual-in_err-number-in-Get.result c.from_residual-in_err-number-in-Get.ensures.1 (c.in_err-number-in-Get.ensures.late ts v))

pub returns-in_err-copy-in-Copy-clause-late : goal.returns-in_err-copy-in-Copy-clause-late
returns-in_err-copy-in-Copy-clause-late c =
    subst (λ (l : TreeLine). DiesLine l c.from_residual-in_err-copy-in-Copy.result c.args.self.now c.copy.new.self c.args.life.now.left) (sym c.in-Copy.is)
    (λ ts v. late_from c.from_residual-in_err-copy-in-Copy.result c.from_residual-in_err-copy-in-Copy.ensures.1 (c.in_err-copy-in-Copy.ensures.late ts v))

pub returns-in_err-clear-in-Clear-clause-late : goal.returns-in_err-clear-in-Clear-clause-late
returns-in_err-clear-in-Clear-clause-late c =
    subst (λ (l : TreeLine). DiesLine l c.from_residual-in_err-clear-in-Clear.result c.args.self.now c.clear.new.self c.args.life.now.left) (sym c.in-Clear.is)
    (λ ts v. late_from c.from_residual-in_err-clear-in-Clear.result c.from_residual-in_err-clear-in-Clear.ensures.1 (c.in_err-clear-in-Clear.ensures.late ts v))
