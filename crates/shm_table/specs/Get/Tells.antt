-- what a latch that was taken and a search say of maps, and reading what a key has: of the own map, and in a held state of that of the author
use Rattle.std.proofs.Common.{◌≡◌, false}
use Rattle.plans.specs.{declared.or.Or.TheVariants.{First, Second}, CallsControl.calls_of}
use Rattle.shm_table.specs.{declared.get.GetPoint.TheVariants.{Known, Number}, Find.Control.word_ask}
use Rattle.shm_table.specs.{Get.Control.GetCalls, Unlatch.Control.{unlatching, unlatch_steered}}

-- ---- what a key has

-- the value word of the entry was loaded, and the number of the block that it names is loaded next
pub record HasNamed (m : GetCalls) : Type 0 where
  pub point : m.plan.point ≡ Number
  pub call : m.call ≡ Second (First (record { me = m.plan.me; ask = word_ask m.plan.block 0; over = false }))

-- the machine is about to give back the latch, once the number is known
pub record IsReady (m : GetCalls) : Type 0 where
  pub point : m.plan.point ≡ Known
  pub call : m.call ≡ Second (Second (calls_of unlatch_steered (unlatching m.plan.me m.plan.author)))
