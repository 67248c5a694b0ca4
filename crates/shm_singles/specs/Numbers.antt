-- what is said of an answer, by its code and numbers, and how the identity stands from then on
use Rattle.std.specs.Prelude.{ℕ, Bool, true, false, ◌==◌, if◌then◌else◌, Some, None, Result, Ok, Err}
use Rattle.plans.specs.declared.or.Or.TheVariants.{First, Second}
use Rattle.shm_count.specs.declared.answer.{EraSpent.EraSpent, Made.Made, ShareFault.ShareFault}
use Rattle.shm_count.specs.declared.answer.ShareFault.TheVariants as share
use Rattle.shm_alloc.specs.declared.alloc.AllocFault.{AllocFault}
use Rattle.shm_alloc.specs.declared.alloc.AllocFault.TheVariants as alloc
use Rattle.shm_ref.specs.declared.answer.{LookFault.LookFault, NoSuchWord.NoSuchWord, SetFault.SetFault}
use Rattle.shm_ref.specs.declared.answer.LookFault.TheVariants as look
use Rattle.shm_ref.specs.declared.answer.SetFault.TheVariants as set
use Rattle.shm_queue.specs.declared.answer.{PeekFault.PeekFault, SendFault.SendFault}
use Rattle.shm_queue.specs.declared.answer.PeekFault.TheVariants as peek
use Rattle.shm_queue.specs.declared.answer.SendFault.TheVariants as send
use Rattle.shm_session.specs.{declared.said.{Said.Said, Stage.Stage}, Sessions.code_said}
use Rattle.shm_session.specs.declared.said.Stage.TheVariants as stage
use Rattle.shm_singles.specs.{declared.script.Outcome.Outcome, Steps.{LivesAnswer, QueuesAnswer}}

-- this is said, and the identity stands so
abbrev pub stands : Said → Stage → Outcome
stands s t = record { said = s; stands = Some t }

-- this is said at the end of an operation: an identity whose era is spent is dead, any other stands as before
abbrev pub ended : Said → Outcome
ended s = record { said = s; stands = if s.code == 25 then Some stage.Dead else None }

-- the era is spent
abbrev pub spent : ℕ → Said
spent e = record { code = 25; at = 0; first = e; second = 0 }

-- the block has as many references as one can have
abbrev pub count_full : ℕ → ℕ → Said
count_full b n = record { code = 21; at = b; first = n; second = 0 }

-- root k names block b
abbrev pub root_named : ℕ → ℕ → Said
root_named k b = record { code = 26; at = b; first = k; second = 0 }

-- the block has n words of the kind, and none of that index
abbrev pub no_such : ℕ → Said
no_such n = record { code = 28; at = 0; first = n; second = 0 }

-- the block is of the identity c
abbrev pub not_own : ℕ → Said
not_own c = record { code = 29; at = 0; first = c; second = 0 }

-- how many there were
abbrev pub counted : ℕ → Said
counted n = record { code = 31; at = 0; first = n; second = 0 }

-- a recovery or a leaving
abbrev pub departed : Result (Unit {0}) EraSpent → Outcome
departed (Ok u) = stands (code_said 16) stage.Vacant
departed (Err e) = ended (spent e.era)

-- a join, a recovery or a leaving
abbrev pub lived : LivesAnswer → Outcome
lived (First u) = stands (code_said 16) stage.Live
lived (Second (First r)) = departed r
lived (Second (Second r)) = departed r

-- an allocation
abbrev pub made : Result Made AllocFault → Said
made (Ok m) = root_named m.root m.block
made (Err (alloc.EraSpent e)) = spent e
made (Err alloc.RootsFull) = code_said 24
made (Err (alloc.Full s b)) = record { code = 20; at = 0; first = s; second = b }

-- another root for block b
abbrev pub rooted : ℕ → Result ℕ ShareFault → Said
rooted b (Ok k) = root_named k b
rooted b (Err (share.EraSpent e)) = spent e
rooted b (Err share.RootsFull) = code_said 24
rooted b (Err (share.CountFull c n)) = count_full c n

-- a root made empty: 27 where it was
abbrev pub dropped : Result Bool EraSpent → Said
dropped (Ok true) = code_said 16
dropped (Ok false) = code_said 27
dropped (Err e) = spent e.era

-- a plain word of block b
abbrev pub word_read : ℕ → Result ℕ NoSuchWord → Said
word_read b (Ok n) = record { code = 18; at = b; first = n; second = 0 }
word_read b (Err e) = no_such e.plain

-- why a reference word wasn't looked at
abbrev pub not_looked : LookFault → Said
not_looked (look.NoSuchRef n) = no_such n
not_looked look.NotHeld = code_said 30

-- a reference word set
abbrev pub word_set : Result (Unit {0}) SetFault → Said
word_set (Ok u) = code_said 16
word_set (Err (set.NotAuthor c)) = not_own c
word_set (Err (set.NoSuchRef n)) = no_such n
word_set (Err set.NotHeld) = code_said 30
word_set (Err (set.EraSpent e)) = spent e
word_set (Err (set.CountFull b n)) = count_full b n

-- a send: how many were sent before
abbrev pub sent : Result ℕ SendFault → Said
sent (Ok n) = counted n
sent (Err (send.QueueFull h t)) = record { code = 22; at = 0; first = h; second = t }
sent (Err (send.EraSpent e)) = spent e
sent (Err (send.CountFull b n)) = count_full b n

-- a receive: which root came to name the block
abbrev pub received : Result Made PeekFault → Said
received (Ok m) = root_named m.root m.block
received (Err (peek.Empty n)) = record { code = 23; at = 0; first = n; second = 0 }
received (Err (peek.EraSpent e)) = spent e
received (Err peek.RootsFull) = code_said 24
received (Err (peek.CountFull b n)) = count_full b n

-- a drain: how many were taken
abbrev pub drained : Result ℕ EraSpent → Said
drained (Ok n) = counted n
drained (Err e) = spent e.era

-- a send, a receive or a drain
abbrev pub queued : QueuesAnswer → Said
queued (First r) = sent r
queued (Second (First r)) = received r
queued (Second (Second r)) = drained r
