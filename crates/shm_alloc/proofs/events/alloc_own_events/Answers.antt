use Rattle.std.proofs.Common.{ap, ◌∙◌}
use Rattle.shm_graph.specs.{Tells.happens_along, Runs.memos_of}
use Rattle.shm_count.proofs.CallEvents.{call_tells}
use Rattle.shm_alloc.specs.{declared.point.AllocPoint.AllocPoint, Alloc.Control.{alloc_control, is_first}}
use Rattle.shm_alloc.specs.{Alloc.{Events.alloc_event, AllocFits, AllocGives}, Proved.Alloc.Going.begins}
use Rattle.shm_alloc.specs.Proved.Alloc.{Laws.alloc_laws, Tells.alloc_tells}
use Rattle.shm_alloc.proofs.events.alloc_own_events.Goals as goal

pub returns : goal.returns
returns c m a ms b r tr x first knows can call gives =
    call_tells alloc_control AllocFits AllocGives alloc_laws alloc_event alloc_tells m a ms b tr (ap is_first first) (begins m (memos_of a.accounts m.me.who) first knows can) call
    ∙ (ap (λ (y : AllocPoint). happens_along alloc_control alloc_event (record m { point = y }) tr) first ∙ gives.events)
