use Rattle.std.proofs.Common.{ap, ◌∙◌, sym, subst, List, true}
use Rattle.shm_graph.specs.{Events.Event, Runs.memos_of, Tells.happens_along}
use Rattle.shm_count.proofs.CallEvents.{call_tells}
use Rattle.shm_count.proofs.events.tear_own_events.Goals as goal
use Rattle.shm_count.specs.Proved.{CountParts.tear_part_laws, Tear.{Keeps.tear_laws, Tells.tear_tells}}
use Rattle.shm_count.specs.{declared.tear_point.TearState.TearState, Tear.Control.{tear_control, is_begin}}
use Rattle.shm_count.specs.Tear.{Events.tear_event, TearFits, TearGives, TearLeaves}

pub returns : goal.returns
returns c m a ms b r tr x n call g =
    subst (λ (es : List Event). TearLeaves m.me m.first (memos_of a.accounts m.me.who) r es tr x)
    (ap (λ (y : TearState). happens_along tear_control tear_event y tr) (sym n.made)
    ∙ sym (call_tells tear_control TearFits TearGives tear_laws tear_event tear_tells m a ms b tr (ap (λ (y : TearState). is_begin y.point) n.made) ((tear_part_laws true).begins m (memos_of a.accounts m.me.who) n) call))
    g.leaves
