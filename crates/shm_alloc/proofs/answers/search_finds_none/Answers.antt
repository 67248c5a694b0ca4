use Rattle.shm_alloc.proofs.Searched.{search_seen}
use Rattle.shm_alloc.proofs.answers.search_finds_none.Goals as goal

pub returns : goal.returns
returns c m r0 r trail taken used s gives l = search_seen m.me m.request trail taken used gives.trail s l
