use Rattle.shm_table.specs.Proved.Find.Tells.{author_has, author_maps, author_names, read_kept}
use Rattle.shm_table.proofs.reading.read_tells.Goals as goal

pub returns : goal.returns
returns c = record { stays = read_kept; has = author_has; names = author_names; map = author_maps }
