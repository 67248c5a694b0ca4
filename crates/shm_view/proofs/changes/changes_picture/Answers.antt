use Rattle.std.proofs.lemmas.Result.{err_from_is_err_and}
use Rattle.shm_audit.specs.Faults.{image_fault_of}
use Rattle.shm_view.proofs.changes.changes_picture.Goals as goal

pub returns-in_err-old-clause-err : goal.returns-in_err-old-clause-err
returns-in_err-old-clause-err c =
    let p = err_from_is_err_and c.from_residual.result c.from_residual.ensures.1 in
    rw (p.1, p.2) (c.in_err-old.ensures.err (image_fault_of c.args.after.now))

pub returns-in_err-new-clause-err : goal.returns-in_err-new-clause-err
returns-in_err-new-clause-err c =
    let p = err_from_is_err_and c.from_residual-in_err-new.result c.from_residual-in_err-new.ensures.1 in
    rw (p.1, p.2) (c.in_err-new.ensures.err (image_fault_of c.args.before.now) c.in_ok-old.ensures.none)
