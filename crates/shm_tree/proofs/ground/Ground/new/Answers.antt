use Rattle.std.proofs.Common.{sym, subst}
use Rattle.shm_words.specs.Layout.{GeometryFits}
use Rattle.shm_tree.proofs.ground.Ground.new.Goals as goal

pub new-hint-requires-clause-geometry : goal.new-hint-requires-clause-geometry
new-hint-requires-clause-geometry c = subst GeometryFits (sym c.geometry.ensures.is) c.geometry.ensures.run.held.at.fits
