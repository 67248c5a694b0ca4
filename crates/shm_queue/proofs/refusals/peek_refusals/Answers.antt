use Rattle.std.proofs.Common.{ℕ, ◌<◌, ap, subst, List, inl, inr}
use Rattle.std.specs.List.{Contains}
use Rattle.shm_graph.specs.declared.{ask.Me.Me, memo.{Fact.TheVariants.Counter, Memo.Memo}}
use Rattle.shm_graph.specs.{declared.spot.Spot.TheVariants.{QueueHead, Tail}, Asks.Trail, Events.Event, Views.own_word}
use Rattle.shm_count.specs.Slots.{Untouched}
use Rattle.shm_queue.specs.declared.answer.PeekFault.TheVariants.{CountFull, Empty, EraSpent, RootsFull}
use Rattle.shm_queue.specs.{Peek.{Control.peeking, NotPeeked}, Take.slot_memo}
use Rattle.shm_queue.proofs.Causes.{peek_reads}
use Rattle.shm_queue.proofs.refusals.peek_refusals.Goals as goal

pub returns-clause-empty : goal.returns-clause-empty
returns-clause-empty c me s n r0 r tr es g = g

-- a tail above the head was read
above : (me : Me) (s n b : ℕ) (r0 r : Memo) (tr : Trail) (es : List Event) → NotPeeked me s n b r0 r tr es → (y : ℕ) × Contains r.facts (Counter (Tail s me.who) y) × (own_word r0.own (QueueHead s me.who) < y)
above me s n b r0 r tr es h = (h.some.0, h.some.1, subst (λ j. j < h.some.0) h.at h.some.2)

pub returns-clause-waits : goal.returns-clause-waits
returns-clause-waits c me s r0 r tr es (Empty n) g = inl (ap (λ x. Empty x) g.head)
returns-clause-waits c me s r0 r tr es (EraSpent e) g = inr (above me s g.0 g.1 r0 r tr es g.2)
returns-clause-waits c me s r0 r tr es RootsFull g = inr (above me s g.0 g.1 r0 r tr es g.2)
returns-clause-waits c me s r0 r tr es (CountFull b k) g = inr (above me s g.0 b r0 r tr es g.1)

pub returns-clause-spent : goal.returns-clause-spent
returns-clause-spent c me s e r0 r tr es g = (g.3, g.4, (g.1, subst (λ j. Untouched me.who (slot_memo me.who s j g.1 r0) r) g.2.at g.2.untouched), g.2.none)

pub returns-clause-roots : goal.returns-clause-roots
returns-clause-roots c me s r0 r tr es g = (g.3.0, g.3.1, (g.1, subst (λ j. Untouched me.who (slot_memo me.who s j g.1 r0) r) g.2.at g.2.untouched), g.2.none)

pub returns-clause-full : goal.returns-clause-full
returns-clause-full c me s d n r0 r tr es g = (g.2.0, g.2.1, subst (λ j. Untouched me.who (slot_memo me.who s j d r0) r) g.1.at g.1.untouched, g.1.none)

pub returns-clause-read : goal.returns-clause-read
returns-clause-read c me s d n tr k = peek_reads (peeking me s) d n tr k
