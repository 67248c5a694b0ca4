use Rattle.std.specs.Prelude.{false}
use Rattle.std.proofs.Common.{refl}
use Rattle.kind_parts.proofs.Words.{Blocks.reference_load, Own.root_load, Queues.{head_slot_load, tail_store}}
use Rattle.kind_parts.proofs.Words.Shared.{latch_give, latch_take}
use Rattle.kind_parts.proofs.parts.word_parts.Goals as goal

pub returns : goal.returns
returns c = record {
  root = λ first me m k l low. root_load first me m l k low;
  take = λ me m a l la may. latch_take false me m l a la refl may;
  give = λ me m a l la may. latch_give false me m l a la refl may;
  head = λ first me m s k l is. head_slot_load first me m l s k is;
  send = λ me m i l may. tail_store false me m l refl i may;
  reference = λ first me m b i l inside is settled. reference_load first me m l b i inside is settled;
}
