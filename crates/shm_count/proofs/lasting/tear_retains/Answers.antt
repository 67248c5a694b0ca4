use Rattle.std.specs.Prelude.{Result, Ok, Err}
use Rattle.shm_graph.specs.{declared.memo.Memo.Memo, Asks.Trail}
use Rattle.shm_count.specs.declared.{answer.EraSpent.EraSpent, tear_point.TearState.TearState}
use Rattle.shm_count.specs.{Proved.{Retaining.{named_stays, slot_known}, Tear.Laws.tear_retains}, Tear.TearGives}
use Rattle.shm_count.specs.Tear.Memos.{TearStays}
use Rattle.shm_count.proofs.lasting.tear_retains.Goals as goal

stays : (m : TearState) (r0 r : Memo) (tr : Trail) (a : Result (Unit {0}) EraSpent) → TearGives m r0 r tr a → TearStays m.me.who r0 r
stays m r0 r tr (Ok u) g = g.leaves.stays
stays m r0 r tr (Err e) g = g.leaves.1.stays

pub returns-clause-named : goal.returns-clause-named
returns-clause-named c m r0 r tr a g b = named_stays m.me.who r0 r b (stays m r0 r tr a g) (tear_retains m r0 r tr a g).slots

pub returns-clause-words : goal.returns-clause-words
returns-clause-words c m r0 r tr a g = (tear_retains m r0 r tr a g).words

pub returns-clause-values : goal.returns-clause-values
returns-clause-values c m r0 r tr a g = (tear_retains m r0 r tr a g).values

pub returns-clause-slots : goal.returns-clause-slots
returns-clause-slots c m r0 r tr a g p x = slot_known r0 r p x (tear_retains m r0 r tr a g).slots

pub returns-clause-looks : goal.returns-clause-looks
returns-clause-looks c m r0 r tr a g = (tear_retains m r0 r tr a g).looks
