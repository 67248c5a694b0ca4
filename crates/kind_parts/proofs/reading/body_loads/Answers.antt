use Rattle.kind_parts.proofs.BodyLoads.{header_loaded, tag_loaded, word_loaded, header_lost}
use Rattle.kind_parts.proofs.reading.body_loads.Goals as goal

pub returns : goal.returns
returns c = record { header = header_loaded; tag = tag_loaded; word = word_loaded; lost = header_lost }
