use Rattle.std.proofs.Common.{subst}
use Rattle.shm_graph.specs.{declared.spot.Spot.TheVariants.Home, Held.PartTie, References.references, Spots.see}
use Rattle.shm_graph.specs.Tables.{contents_of}
use Rattle.shm_plain.proofs.StillTable.{still_part}
use Rattle.shm_plain.proofs.laws.table_of_closed.Goals as goal

pub returns : goal.returns
returns c d l chains is =
    let p = c.args.closed.now in
    let w = see p.start.geometry p.words in
    let end = c.geometry.ensures.end in
    subst (PartTie (contents_of p.start.geometry.wide w (references p.start.geometry.wide w)) d (w (Home d))) is (still_part p end.run end.still d l)
