use Rattle.std.proofs.Common.{inl, inr}
use Rattle.shm_versions.proofs.Told.{told_all}
use Rattle.shm_versions.proofs.telling.push_lines.Goals as goal

pub returns : goal.returns
returns c =
    told_all _ _ _ _ c.loop-line.invariant
    (elim c.in-None.ensures.steps [ inl w ↦ inl w.1.0 | inr w ↦ inr w.1.0 ])
