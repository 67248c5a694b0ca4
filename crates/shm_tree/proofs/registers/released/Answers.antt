use Rattle.std.proofs.Common.{refl, sym, ◌∙◌, inr}
use Rattle.std.specs.Prelude.{Err}
use Rattle.shm_tree.proofs.{Answering.alive_died, Building.alive_any, CutShort.cut_under}
use Rattle.shm_tree.proofs.{Moving.{alive_is, is_over_is, is_over_not}, Releasing.{ended_err, ended_ok, releases_held}}
use Rattle.shm_tree.proofs.registers.released.Goals as goal

pub release-requires : goal.release-requires
release-requires g c = record { working = rw c.in-Ok.is at c.requires.working; latch = rw c.in-Ok.is at c.requires.latch }

pub release-requires-in-Err : goal.release-requires-in-Err
release-requires-in-Err g c =
    let ne = is_over_not c.in-Err.why (sym c.is_over.ensures ∙ c.if-is_over.false) in
    record { working = alive_is g.row.T.Denot c.in-Err.why ne (rw c.in-Err.is at c.requires.working); latch = alive_is g.row.T.Denot c.in-Err.why ne (rw c.in-Err.is at c.requires.latch) }

pub returns-in_err-release-in-Ok : goal.returns-in_err-release-in-Ok
returns-in_err-release-in-Ok g c =
    let e = c.in_err-release-in-Ok.ensures in
    releases_held c.from_residual.result c.from_residual.ensures.1 e.died.0 (ended_ok c.args.answer c.in-Ok.is) (record { went = e.went; over = e.died.1; off = cut_under c.args.pool.now c.release.new.pool (rw c.in-Ok.is at c.requires.latch) e.died.2; late = e.late e.died.0 })

pub returns-in_ok-release-in-Ok : goal.returns-in_ok-release-in-Ok
returns-in_ok-release-in-Ok g c =
    let e = c.in_ok-release-in-Ok.ensures in
    record { given = (record { went = e.went; working = e.working; latch = e.latch; still = e.still; steps = e.steps }, sym c.in-Ok.is); died = tt }

pub returns-then-is_over : goal.returns-then-is_over
returns-then-is_over g c =
    record { given = alive_died g.row.T.Denot _ c.in-Err.why (is_over_is c.in-Err.why (sym c.is_over.ensures ∙ c.if-is_over.true)); died = λ d. inr (sym c.in-Err.is, refl, refl) }

pub returns-in_err-release-in-Err : goal.returns-in_err-release-in-Err
returns-in_err-release-in-Err g c =
    let ne = is_over_not c.in-Err.why (sym c.is_over.ensures ∙ c.if-is_over.false) in
    let e = c.in_err-release-in-Err.ensures in
    releases_held c.from_residual-in_err-release-in-Err.result c.from_residual-in_err-release-in-Err.ensures.1 e.died.0 (ended_err c.args.answer c.in-Err.is ne) (record { went = e.went; over = e.died.1; off = cut_under c.args.pool.now c.release-in-Err.new.pool (alive_is g.row.T.Denot c.in-Err.why ne (rw c.in-Err.is at c.requires.latch)) e.died.2; late = e.late e.died.0 })

pub returns-in_ok-release-in-Err : goal.returns-in_ok-release-in-Err
returns-in_ok-release-in-Err g c =
    let ne = is_over_not c.in-Err.why (sym c.is_over.ensures ∙ c.if-is_over.false) in
    let e = c.in_ok-release-in-Err.ensures in
    record { given = alive_any {T = g.row.T.Denot} (Err c.in-Err.why) (record { went = e.went; working = e.working; latch = e.latch; still = e.still; steps = e.steps }, sym c.in-Err.is); died = λ d. absurd (ne d) }
