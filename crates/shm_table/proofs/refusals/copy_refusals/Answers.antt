use Rattle.std.proofs.{Common.{◌≡◌, ◌≢◌, refl, true, List, None}, lemmas.Bool.false≢true}
use Rattle.shm_graph.specs.{declared.memo.Memo.Memo, Asks.Trail, Events.Event}
use Rattle.kind_parts.specs.Reparting.{map_in}
use Rattle.shm_script.specs.declared.log.Answer.{Answer}
use Rattle.shm_script.specs.declared.log.Answer.TheVariants as answer
use Rattle.shm_table.specs.{declared.{answer.PutFault.PutFault, copy.CopyState.CopyState}, Answers.fault_answer}
use Rattle.shm_table.specs.{Commands.CommandCause, CopyKey.CopyLeaves, Refusals.is_refusal, Unlatch.unlatch_trail}
use Rattle.shm_table.specs.declared.answer.PutFault.TheVariants as fault
use Rattle.shm_table.proofs.RefusedCommands.{some_not}
use Rattle.shm_table.proofs.refusals.copy_refusals.Goals as goal

-- the answers of a refusal
by_fault : (m : CopyState) (r0 r : Memo) (tr : Trail) (es : List Event) (a : Answer) → is_refusal a ≡ true → a ≢ answer.Missing → CopyLeaves m r0 r tr es a → (f : PutFault) × (a ≡ fault_answer f)
by_fault m r0 r tr es (answer.EraSpent e) is n h = (fault.EraSpent e, refl)
by_fault m r0 r tr es answer.RootsFull is n h = (fault.RootsFull, refl)
by_fault m r0 r tr es (answer.Full s b) is n h = (fault.Full s b, refl)
by_fault m r0 r tr es (answer.CountFull b x) is n h = (fault.CountFull b x, refl)
by_fault m r0 r tr es answer.Missing is n h = absurd (n refl)
by_fault m r0 r tr es (answer.Empty x) is n h = absurd h
by_fault m r0 r tr es (answer.QueueFull x y) is n h = absurd h
by_fault m r0 r tr es _ is n h = absurd (false≢true is)

-- and their cause
caused : (m : CopyState) (r0 r : Memo) (tr : Trail) (es : List Event) (f : PutFault) → CopyLeaves m r0 r tr es (fault_answer f) → CommandCause m.me r0 r f
caused m r0 r tr es (fault.EraSpent e) h = h.cause
caused m r0 r tr es _ h = h.cause

-- with any other answer the own map has the other key
has : (m : CopyState) (r0 r : Memo) (tr : Trail) (es : List Event) (a : Answer) → a ≢ answer.Missing → CopyLeaves m r0 r tr es a → m.author ≡ m.me.who → map_in r0.part m.other ≢ None
has m r0 r tr es (answer.Value n b) other h own = some_not (map_in r0.part m.other) (n, b) (h.source.has own)
has m r0 r tr es answer.Missing other h own = absurd (other refl)
has m r0 r tr es (answer.Empty x) other h own = absurd h
has m r0 r tr es (answer.QueueFull x y) other h own = absurd h
has m r0 r tr es answer.Ok other h own = absurd h
has m r0 r tr es (answer.Stored b) other h own = absurd h
has m r0 r tr es _ other h own = let y = h.has own in some_not (map_in r0.part m.other) (y.0, y.1) y.2

pub returns-clause-answers : goal.returns-clause-answers
returns-clause-answers c m r0 r tr es a is n h = by_fault m r0 r tr es a is n h

pub returns-clause-cause : goal.returns-clause-cause
returns-clause-cause c m r0 r tr es f h = caused m r0 r tr es f h

pub returns-clause-missing : goal.returns-clause-missing
returns-clause-missing c m r0 r tr es h = (h.absent, h.none)

pub returns-clause-ends : goal.returns-clause-ends
returns-clause-ends c m r0 r tr es h = (h.before, h.walk, unlatch_trail m.me m.author, h.home, h.first, h.trail, h.ends)

pub returns-clause-has : goal.returns-clause-has
returns-clause-has c m r0 r tr es a other h own = has m r0 r tr es a other h own
