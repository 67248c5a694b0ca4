-- count steps at slots of queues: when they may begin, and what their slots leave of partitions and of lists
use Rattle.std.proofs.Common.{◌≡◌, ◌≢◌, ℕ, ◌+◌, ◌%◌, ◌^◌, ◌<◌, true, false}
use Rattle.std.specs.{Prelude.slice_index, List.Contains}
use Rattle.shm_words.specs.Layout.{GeometryFits}
use Rattle.shm_graph.specs.declared.{ask.Me.Me, spot.Spot.TheVariants.{Era, QueueHead, Slot, Tail}}
use Rattle.shm_graph.specs.declared.memo.{Fact.TheVariants.Counter, Memo.Memo, Op.TheVariants.Nothing}
use Rattle.shm_graph.specs.{Agents.recovers, Held.is_loose, Reach.is_reached, Views.own_word}
use Rattle.kind_parts.specs.Conditions.{IsHere}
use Rattle.shm_count.specs.Step.Control.{IsInside}

-- ---- a step up at the next slot of a queue to another

-- no step is in progress, block b of the pool is in reach, and slot k is the next one of the queue to another, where a head that was read leaves room and nothing waits for its tail
pub record MayPutAt (me : Me) (i k b : ℕ) (r : Memo) : Type 0 where
  pub geometry : GeometryFits me.geometry
  pub who : me.who < me.geometry.clients
  pub here : IsHere r
  pub idle : r.op ≡ Nothing
  pub client : recovers r ≡ false
  pub to : i < me.geometry.clients
  pub other : me.who ≢ i
  pub next : k ≡ own_word r.own (Tail me.who i) % 8
  pub none : slice_index r.unsent i ≡ 0
  pub read : (y : ℕ) × Contains r.facts (Counter (QueueHead me.who i) y) × (own_word r.own (Tail me.who i) < y + 8)
  pub reach : is_reached me.who r b ≡ true
  pub inside : IsInside me b
  pub value : is_loose r.part ≡ false → Contains r.values b
  pub era : own_word r.own (Era me.who me.who) + 1 < 2 ^ 47

-- ---- a step down at the first slot of a queue from another

-- no step is in progress, and block b of the pool is known in slot k of the queue from another
pub record MayTakeAt (me : Me) (s k b : ℕ) (r : Memo) : Type 0 where
  pub geometry : GeometryFits me.geometry
  pub who : me.who < me.geometry.clients
  pub here : IsHere r
  pub idle : r.op ≡ Nothing
  pub from : s < me.geometry.clients
  pub other : s ≢ me.who
  pub low : k < 8
  pub known : Contains r.known (record { spot = Slot s me.who k; value = b })
  pub inside : IsInside me b
  pub era : own_word r.own (Era me.who me.who) + 1 < 2 ^ 47
