-- what operations on blocks are refused for, as errors
use Rattle.std.specs.Prelude.{ℕ, Bool, true, false, Result, Err}
use Rattle.shm_alloc.specs.declared.alloc.AllocFault.{AllocFault}
use Rattle.shm_alloc.specs.declared.alloc.AllocFault.TheVariants as alloc
use Rattle.shm_count.specs.declared.answer.ShareFault.{ShareFault}
use Rattle.shm_count.specs.declared.answer.ShareFault.TheVariants as share
use Rattle.shm_ref.specs.declared.answer.SetFault.{SetFault}
use Rattle.shm_ref.specs.declared.answer.SetFault.TheVariants as set
use Rattle.shm_queue.specs.declared.answer.SendFault.{SendFault}
use Rattle.shm_queue.specs.declared.answer.SendFault.TheVariants as send
use Rattle.lojarnek.specs.declared.error.Error.{Error}
use Rattle.lojarnek.specs.declared.error.Error.TheVariants.{CountFull, Died, EraSpent, Full, NoSuchWord, NotAuthor, QueueFull, RootsFull, WrongKind}

-- whether the client died in the call
abbrev pub is_death : {T : Type 0} → Result T Error → Bool
is_death (Err (Died d)) = true
is_death r = false

abbrev pub alloc_error : AllocFault → Error
alloc_error (alloc.EraSpent e) = EraSpent e
alloc_error alloc.RootsFull = RootsFull
alloc_error (alloc.Full s b) = Full s b

abbrev pub share_error : ShareFault → Error
share_error (share.EraSpent e) = EraSpent e
share_error share.RootsFull = RootsFull
share_error (share.CountFull b n) = CountFull b n

-- of a send to this client
abbrev pub send_error : SendFault → ℕ → Error
send_error (send.QueueFull h t) to = QueueFull to
send_error (send.EraSpent e) to = EraSpent e
send_error (send.CountFull b n) to = CountFull b n

-- of this reference word; the own latch is held
abbrev pub set_error : SetFault → ℕ → Error
set_error (set.NotAuthor a) j = NotAuthor a
set_error (set.NoSuchRef n) j = NoSuchWord j n
set_error set.NotHeld j = WrongKind
set_error (set.EraSpent e) j = EraSpent e
set_error (set.CountFull b n) j = CountFull b n
