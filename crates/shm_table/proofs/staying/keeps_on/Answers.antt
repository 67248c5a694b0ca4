use Rattle.shm_table.specs.Proved.Staying.Laws.{keeps_more, keeps_self}
use Rattle.shm_table.proofs.staying.keeps_on.Goals as goal

pub returns-clause-none : goal.returns-clause-none
returns-clause-none c who m idle = keeps_self who m idle

pub returns-clause-more : goal.returns-clause-more
returns-clause-more c who m x r a b = keeps_more who m x r a b
