use Rattle.std.proofs.{Common.{◌≡◌, ◌≢◌, ℕ, ◌<◌, refl, subst, true, List}, lemmas.Bool.false≢true}
use Rattle.std.specs.List.{Contains}
use Rattle.shm_graph.specs.declared.memo.{Fact.TheVariants.Counter, Memo.Memo}
use Rattle.shm_graph.specs.{declared.spot.Spot.TheVariants.{QueueHead, Tail}, Asks.Trail, Events.Event, Views.own_word}
use Rattle.shm_script.specs.declared.log.Answer.{Answer}
use Rattle.shm_script.specs.declared.log.Answer.TheVariants as answer
use Rattle.shm_table.specs.{declared.{answer.PutFault.PutFault, recv.RecvState.RecvState}, Answers.fault_answer}
use Rattle.shm_table.specs.{Commands.CommandCause, FetchHead.IsWaited, RecvKey.RecvLeaves, Refusals.is_refusal}
use Rattle.shm_table.specs.declared.answer.PutFault.TheVariants as fault
use Rattle.shm_table.proofs.refusals.recv_refusals.Goals as goal

-- the answers of a refusal
by_fault : (m : RecvState) (r0 r : Memo) (tr : Trail) (es : List Event) (a : Answer) → is_refusal a ≡ true → ((x : ℕ) → a ≢ answer.Empty x) → RecvLeaves m r0 r tr es a → (f : PutFault) × (a ≡ fault_answer f)
by_fault m r0 r tr es (answer.EraSpent e) is n h = (fault.EraSpent e, refl)
by_fault m r0 r tr es answer.RootsFull is n h = (fault.RootsFull, refl)
by_fault m r0 r tr es (answer.Full s b) is n h = (fault.Full s b, refl)
by_fault m r0 r tr es (answer.CountFull b x) is n h = (fault.CountFull b x, refl)
by_fault m r0 r tr es answer.Missing is n h = absurd h
by_fault m r0 r tr es (answer.Empty x) is n h = absurd (n x refl)
by_fault m r0 r tr es (answer.QueueFull x y) is n h = absurd h
by_fault m r0 r tr es _ is n h = absurd (false≢true is)

-- and their cause
caused : (m : RecvState) (r0 r : Memo) (tr : Trail) (es : List Event) (f : PutFault) → RecvLeaves m r0 r tr es (fault_answer f) → CommandCause m.me r0 r f
caused m r0 r tr es (fault.EraSpent e) h = h.cause
caused m r0 r tr es _ h = h.cause

-- with any other answer an item waits
above : (m : RecvState) (r0 : Memo) → IsWaited m.me m.from r0 → (y : ℕ) × (q : Memo) × Contains q.facts (Counter (Tail m.from m.me.who) y) × (own_word r0.own (QueueHead m.from m.me.who) < y)
above m r0 (n, b, v, q, at) = (at.above.0, q, at.above.1, subst (λ x. x < at.above.0) at.place at.above.2)

waits : (m : RecvState) (r0 r : Memo) (tr : Trail) (es : List Event) (a : Answer) → ((x : ℕ) → a ≢ answer.Empty x) → RecvLeaves m r0 r tr es a → IsWaited m.me m.from r0
waits m r0 r tr es (answer.Value n b) other h = (h.place, b, n, h.q, h.source)
waits m r0 r tr es (answer.Empty x) other h = absurd (other x refl)
waits m r0 r tr es answer.Missing other h = absurd h
waits m r0 r tr es (answer.QueueFull x y) other h = absurd h
waits m r0 r tr es answer.Ok other h = absurd h
waits m r0 r tr es (answer.Stored b) other h = absurd h
waits m r0 r tr es _ other h = h.waits

pub returns-clause-answers : goal.returns-clause-answers
returns-clause-answers c m r0 r tr es a is n h = by_fault m r0 r tr es a is n h

pub returns-clause-cause : goal.returns-clause-cause
returns-clause-cause c m r0 r tr es f h = caused m r0 r tr es f h

pub returns-clause-empty : goal.returns-clause-empty
returns-clause-empty c m r0 r tr es n h = (h.head, h.read, h.none)

pub returns-clause-waits : goal.returns-clause-waits
returns-clause-waits c m r0 r tr es a other h = above m r0 (waits m r0 r tr es a other h)
