use Rattle.std.proofs.Common.{sym, ap, ◌∙◌}
use Rattle.shm_words.specs.Layout.{address}
use Rattle.shm_graph.proofs.Spots.WordsAt.{body_after}
use Rattle.shm_audit.proofs.words.spot_of.Goals as goal

pub block_spot-requires : goal.block_spot-requires
block_spot-requires c = body_after c.args.geometry c.in-Body.g c.in-Body.p c.in-Body.k c.args.at (ap (address c.args.geometry) (sym c.in-Body.is) ∙ c.requires.address)
