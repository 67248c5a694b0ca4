use Rattle.std.specs.{Prelude.{Result, Ok, Err, IfOk}, List.Contains}
use Rattle.shm_graph.specs.{declared.memo.Memo.Memo, Asks.Trail}
use Rattle.shm_count.specs.declared.answer.Made.{Made}
use Rattle.shm_alloc.specs.{declared.{alloc.AllocFault.AllocFault, point.AllocState.AllocState}, Alloc.AllocGives}
use Rattle.shm_alloc.proofs.lasting.alloc_lasts.Goals as goal

-- a block of which it answers is one that the call made
made : (m : AllocState) (r0 r : Memo) (tr : Trail) (a : Result Made AllocFault) → AllocGives m r0 r tr a → IfOk a (λ x. Contains r.made x.block)
made m r0 r tr (Ok x) g = g.holds.gives.made
made m r0 r tr (Err f) g = tt

pub returns : goal.returns
returns c m r0 r tr a g = (g.holds.stays.status, g.grows, made m r0 r tr a g)
