use Rattle.std.proofs.{Common.{◌≡◌, refl, true, List}, lemmas.Bool.false≢true}
use Rattle.shm_graph.specs.{declared.memo.Memo.Memo, Asks.Trail, Events.Event}
use Rattle.shm_script.specs.declared.log.Answer.{Answer}
use Rattle.shm_script.specs.declared.log.Answer.TheVariants as answer
use Rattle.shm_table.specs.{declared.{answer.PutFault.PutFault, put.PutState.PutState}, Answers.fault_answer}
use Rattle.shm_table.specs.{Commands.CommandCause, Put.PutLeaves, Refusals.is_refusal}
use Rattle.shm_table.specs.declared.answer.PutFault.TheVariants as fault
use Rattle.shm_table.proofs.refusals.put_refusals.Goals as goal

-- the answers of a refusal
by_fault : (m : PutState) (r0 r : Memo) (tr : Trail) (es : List Event) (a : Answer) → is_refusal a ≡ true → PutLeaves m r0 r tr es a → (f : PutFault) × (a ≡ fault_answer f)
by_fault m r0 r tr es (answer.EraSpent e) is h = (fault.EraSpent e, refl)
by_fault m r0 r tr es answer.RootsFull is h = (fault.RootsFull, refl)
by_fault m r0 r tr es (answer.Full s b) is h = (fault.Full s b, refl)
by_fault m r0 r tr es (answer.CountFull b x) is h = (fault.CountFull b x, refl)
by_fault m r0 r tr es answer.Ok is h = absurd (false≢true is)
by_fault m r0 r tr es (answer.Stored b) is h = absurd (false≢true is)
by_fault m r0 r tr es (answer.Value x b) is h = absurd (false≢true is)
by_fault m r0 r tr es _ is h = absurd h

-- and their cause
caused : (m : PutState) (r0 r : Memo) (tr : Trail) (es : List Event) (f : PutFault) → PutLeaves m r0 r tr es (fault_answer f) → CommandCause m.me r0 r f
caused m r0 r tr es (fault.EraSpent e) h = h.cause
caused m r0 r tr es _ h = h.cause

pub returns-clause-answers : goal.returns-clause-answers
returns-clause-answers c m r0 r tr es a is h = by_fault m r0 r tr es a is h

pub returns-clause-cause : goal.returns-clause-cause
returns-clause-cause c m r0 r tr es f h = caused m r0 r tr es f h
