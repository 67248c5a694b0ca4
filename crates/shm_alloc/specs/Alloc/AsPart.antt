-- an allocation as a part of larger machines
use Rattle.std.proofs.Common.{◌≡◌, Bool, true, List}
use Rattle.std.specs.Prelude.{Result}
use Rattle.shm_graph.specs.{declared.memo.Memo.Memo, Asks.Trail, Events.Event}
use Rattle.plans.specs.{Grown.Grows, MadeStays.making_part, Parts.Part}
use Rattle.shm_count.specs.declared.answer.Made.{Made}
use Rattle.shm_alloc.specs.declared.{alloc.AllocFault.AllocFault, point.AllocPoint.TheVariants.Era}
use Rattle.shm_alloc.specs.{declared.point.AllocState.AllocState, Alloc.Control.{AllocInRange, alloc_control}}
use Rattle.shm_alloc.specs.Alloc.Events.{alloc_event, alloc_start, own_events}
use Rattle.shm_alloc.specs.Alloc.{AllocFits, AllocGives, AnswerHolds, CanAlloc, Asks.alloc_trail}

-- it is made, and may begin
pub record IsAlloc (m : AllocState) (r : Memo) : Type 0 where
  pub made : m.point ≡ Era
  pub knows : AllocInRange m
  pub can : CanAlloc m.me r

-- what its answer says of the memos before and after, with the events of that answer
pub record AllocLeaves (m : AllocState) (rs r : Memo) (t : Trail) (es : List Event) (a : Result Made AllocFault) : Type 0 where
  pub holds : AnswerHolds m.me m.request rs r a
  pub grows : Grows true rs r
  pub events : es ≡ own_events m.me a
  pub trail : alloc_trail m.me m.request t a

abbrev pub alloc_part : Part AllocState (Result Made AllocFault)
alloc_part = record { fits = AllocFits; gives = AllocGives; does = alloc_event; needs = IsAlloc; leaves = AllocLeaves; asks = λ m. alloc_trail m.me m.request }

-- and with what stays of the blocks that the call had made
abbrev pub alloc_making : Bool → Part AllocState (Result Made AllocFault)
alloc_making first = making_part alloc_start first alloc_control alloc_part
