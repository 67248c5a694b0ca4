-- what machines over tables answer where a call of theirs was refused, and what commands do
use Rattle.shm_alloc.specs.declared.alloc.AllocFault.{AllocFault}
use Rattle.shm_alloc.specs.declared.alloc.AllocFault.TheVariants as alloc
use Rattle.shm_count.specs.declared.answer.{EraSpent.EraSpent, UpFault.UpFault}
use Rattle.shm_count.specs.declared.answer.UpFault.TheVariants as up
use Rattle.shm_script.specs.declared.log.Answer.{Answer}
use Rattle.shm_script.specs.declared.log.Answer.TheVariants as answer
use Rattle.shm_table.specs.declared.answer.PutFault.{PutFault}
use Rattle.shm_table.specs.declared.answer.PutFault.TheVariants.{EraSpent as Spent, RootsFull, Full, CountFull}

abbrev pub made_fault : AllocFault → PutFault
made_fault (alloc.EraSpent e) = Spent e
made_fault alloc.RootsFull = RootsFull
made_fault (alloc.Full s b) = Full s b

abbrev pub raised_fault : UpFault → PutFault
raised_fault (up.EraSpent e) = Spent e
raised_fault (up.CountFull b n) = CountFull b n

abbrev pub spent_fault : EraSpent → PutFault
spent_fault e = Spent e.era

-- what a command answers that was refused so
abbrev pub fault_answer : PutFault → Answer
fault_answer (Spent e) = answer.EraSpent e
fault_answer RootsFull = answer.RootsFull
fault_answer (Full s b) = answer.Full s b
fault_answer (CountFull b n) = answer.CountFull b n
