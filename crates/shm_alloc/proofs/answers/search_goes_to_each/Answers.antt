use Rattle.shm_alloc.specs.Proved.Turning.{turned_all, turned_first, turned_none}
use Rattle.shm_alloc.proofs.answers.search_goes_to_each.Goals as goal

pub returns-clause-plain : goal.returns-clause-plain
returns-clause-plain c n j = turned_none n j

pub returns-clause-first : goal.returns-clause-first
returns-clause-first c n d l = turned_first n d l

pub returns-clause-each : goal.returns-clause-each
returns-clause-each c n d k l = turned_all n d k l
