use Rattle.std.proofs.Common.{ap, ◌∙◌}
use Rattle.shm_graph.specs.Runs.{memos_of}
use Rattle.shm_count.proofs.CallEvents.{call_tells}
use Rattle.shm_count.proofs.events.step_own_events.Goals as goal
use Rattle.shm_count.specs.{CountParts.step_left, Step.{Control.{step_control, is_first}, Events.step_event}}
use Rattle.shm_count.specs.Step.Machines.{up_answer, up_control, up_told, down_answer, down_control, down_told}
use Rattle.shm_count.specs.StepsAt.{UpFitsAt, UpGivesAt, up_laws_at, up_tells_at, up_gave, DownFitsAt, DownGivesAt, down_laws_at, down_tells_at, down_gave, ChangeFitsAt, ChangeGivesAt, change_laws_at, change_tells_at}
use Rattle.shm_count.specs.Proved.Step.Going as steps
use Rattle.plans.specs.Proved.CallTells.{mapped_events}

pub returns-clause-up : goal.returns-clause-up
returns-clause-up c p m a ms b r tr x up n call g =
    call_tells up_control (UpFitsAt p) (UpGivesAt p) (up_laws_at p) (step_event p) (up_tells_at p) m a ms b tr (ap is_first n.made) (up, steps.begins p m (memos_of a.accounts m.me.who) n.made n.knows n.can) call
    ∙ (mapped_events up_answer step_control (step_event p) m tr ∙ (step_left p m (memos_of a.accounts m.me.who) r tr (up_told x) n.made (up_gave p m (memos_of a.accounts m.me.who) r tr x g)).events)

pub returns-clause-down : goal.returns-clause-down
returns-clause-down c p m a ms b r tr x down n call g =
    call_tells down_control (DownFitsAt p) (DownGivesAt p) (down_laws_at p) (step_event p) (down_tells_at p) m a ms b tr (ap is_first n.made) (down, steps.begins p m (memos_of a.accounts m.me.who) n.made n.knows n.can) call
    ∙ (mapped_events down_answer step_control (step_event p) m tr ∙ (step_left p m (memos_of a.accounts m.me.who) r tr (down_told x) n.made (down_gave p m (memos_of a.accounts m.me.who) r tr x g)).events)

pub returns-clause-change : goal.returns-clause-change
returns-clause-change c p m a ms b r tr x change n call g =
    call_tells step_control (ChangeFitsAt p) (ChangeGivesAt p) (change_laws_at p) (step_event p) (change_tells_at p) m a ms b tr (ap is_first n.made) (change, steps.begins p m (memos_of a.accounts m.me.who) n.made n.knows n.can) call
    ∙ (step_left p m (memos_of a.accounts m.me.who) r tr x n.made g.1).events
