-- what machines over queues answer where a count step was refused
use Rattle.shm_count.specs.declared.answer.{EraSpent.EraSpent, ShareFault.ShareFault, UpFault.UpFault}
use Rattle.shm_count.specs.declared.answer.ShareFault.TheVariants as share
use Rattle.shm_count.specs.declared.answer.UpFault.TheVariants as up
use Rattle.shm_queue.specs.declared.answer.{PeekFault.PeekFault, SendFault.SendFault, TakeFault.TakeFault}
use Rattle.shm_queue.specs.declared.answer.PeekFault.TheVariants as peek
use Rattle.shm_queue.specs.declared.answer.SendFault.TheVariants as send
use Rattle.shm_queue.specs.declared.answer.TakeFault.TheVariants as take

abbrev pub send_fault : UpFault → SendFault
send_fault (up.EraSpent e) = send.EraSpent e
send_fault (up.CountFull b n) = send.CountFull b n

abbrev pub take_fault : EraSpent → TakeFault
take_fault e = take.EraSpent e.era

abbrev pub peek_fault : ShareFault → PeekFault
peek_fault (share.EraSpent e) = peek.EraSpent e
peek_fault share.RootsFull = peek.RootsFull
peek_fault (share.CountFull b n) = peek.CountFull b n
