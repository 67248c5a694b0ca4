use Rattle.std.proofs.Common.{ap, ◌≡◌, ◌∙◌, subst, sym, List}
use Rattle.std.specs.Prelude.{IfSome}
use Rattle.shm_graph.specs.{declared.{ask.Me.Me, memo.Memo.Memo}, Events.Event, Tells.happens_along}
use Rattle.shm_plain.specs.{Calls.{Did, IsAtWork}, Pools.memo_of}
use Rattle.shm_plain.proofs.Answering.{some_map}
use Rattle.shm_client.proofs.{Running.run_kind, RunBegins.{run_latch, run_may, run_me, run_stands}}
use Rattle.shm_client.proofs.{RunEvents.{run_leaves, run_left}, RunKeeps.{RunKeeps, run_keeps}, RunMaps.run_maps}
use Rattle.shm_client.proofs.commands.command.Goals.{After-new-machine, After-run}
use Rattle.shm_client.proofs.commands.command.Goals as goal
use Rattle.shm_client.specs.Running.{LeavesOpen, MapSo, RunLeaves}
use Rattle.shm_count.specs.Roots.{member}
use Rattle.shm_script.specs.declared.log.Answer.{Answer}
use Rattle.shm_table.specs.Command.{CommandCall, CommandGives, LineMayStand, command_control, command_does, command_of}
use Rattle.shm_table.specs.{Command.Operates.{CommandLeaves, CommandMay}, Proved.Command.Operates.command_may}
use Rattle.shm_table.specs.Staying.{Ended}

-- ---- the machine

pub new-machine-requires-clause-line : goal.new-machine-requires-clause-line
new-machine-requires-clause-line c =
    subst (λ (x : Me). LineMayStand x c.args.line.now) (sym c.me.ensures.is) (run_stands _ c.args.line.now (memo_of c.args.pool.now c.args.who) c.requires.may)

-- it is the command of the line
abbrev machine : (c : After-new-machine) → CommandCall
machine c = command_of (member c.args.pool.now.start.geometry c.args.who) c.args.line.now

state : (c : After-new-machine) → c.new-machine.result ≡ machine c
state c = c.new-machine.ensures.command ∙ ap (λ (x : Me). command_of x c.args.line.now) c.me.ensures.is

pub run-requires-clause-me : goal.run-requires-clause-me
run-requires-clause-me c =
    let at = (goal.at.run-requires-clause-me c).After-new-machine in
    ap (λ (m : CommandCall). command_control.me m) (state at) ∙ run_me (member c.args.pool.now.start.geometry c.args.who) c.args.line.now

pub run-requires-clause-may : goal.run-requires-clause-may
run-requires-clause-may c =
    let at = (goal.at.run-requires-clause-may c).After-new-machine in
    let me : Me = member c.args.pool.now.start.geometry c.args.who in
    let r : Memo = memo_of c.args.pool.now c.args.who in
    subst (λ (m : CommandCall). CommandMay m r) (sym (state at)) (command_may me c.args.line.now r (run_may me c.args.line.now r c.requires.may))

-- ---- what the run leaves

abbrev me : (c : After-run) → Me
me c = member c.args.pool.now.start.geometry c.args.who

-- the memos of the identity, before and after
abbrev before : (c : After-run) → Memo
before c = memo_of c.args.pool.now c.args.who

abbrev after : (c : After-run) → Memo
after c = memo_of c.run.new.self c.args.who

-- what it gives, by the line
abbrev Gives : (c : After-run) → Answer → Type 0
Gives c a = CommandGives (command_of (me c) c.args.line.now) (before c) (after c) (after c).call a

gave : (c : After-run) → IfSome c.run.result (Gives c)
gave c = subst (λ (m : CommandCall). IfSome c.run.result (λ a. CommandGives m (before c) (after c) (after c).call a)) (state (goal.at.After-run c).After-new-machine) c.run.ensures.gives

-- what follows of it
follows : (c : After-run) (P : Answer → Type 0) → ((a : Answer) → Gives c a → P a) → IfSome c.run.result P
follows c P f = some_map (Gives c) P c.run.result f (gave c)

keeps : (c : After-run) (a : Answer) → Gives c a → RunKeeps c.args.who (before c) (after c)
keeps c a g =
    run_keeps (me c) (before c) (after c) (after c).call _ c.args.line.now a c.requires.at_work.idle (run_latch (me c) c.args.line.now (before c) c.requires.may) (run_leaves (me c) c.args.line.now (before c) (after c) (after c).call a g)

pub returns-clause-gives : goal.returns-clause-gives
returns-clause-gives c = gave (goal.at.returns-clause-gives c).After-run

pub returns-clause-ran : goal.returns-clause-ran
returns-clause-ran c = c.run.ensures.ran

pub returns-clause-kind : goal.returns-clause-kind
returns-clause-kind c = run_kind c.args.who c.args.pool.now c.run.new.self _ _ c.run.result c.requires.at_work.acts c.run.ensures.ran

pub returns-clause-rests : goal.returns-clause-rests
returns-clause-rests c =
    let at = (goal.at.returns-clause-rests c).After-run in
    follows at (λ a. LeavesOpen (before at) (after at)) (λ a g. (keeps at a g).rests)

pub returns-clause-ended : goal.returns-clause-ended
returns-clause-ended c =
    let at = (goal.at.returns-clause-ended c).After-run in
    follows at (λ a. Ended c.args.who (before at) (after at)) (λ a g. (keeps at a g).ended)

pub returns-clause-at_work : goal.returns-clause-at_work
returns-clause-at_work c = some_map (λ a. Unit {0} → IsAtWork c.args.who c.run.new.self) (λ a. IsAtWork c.args.who c.run.new.self) c.run.result (λ a work. work tt) c.run.ensures.at_work

-- what its page says, with the events that it tells of
abbrev Left : (c : After-run) → CommandCall → Answer → Type 0
Left c m a = let es = happens_along command_control command_does m (after c).call in Did c.args.who c.args.pool.now c.run.new.self es × CommandLeaves m (before c) (after c) (after c).call es a

pub returns-clause-leaves : goal.returns-clause-leaves
returns-clause-leaves c =
    let at = (goal.at.returns-clause-leaves c).After-run in
    let m : CommandCall = command_of (me at) c.args.line.now in
    let left = subst (λ (z : CommandCall). IfSome c.run.result (Left at z)) (state (goal.at.After-run at).After-new-machine) c.run.ensures.leaves in
    some_map (Left at m) (λ a. (es : List Event) × Did c.args.who c.args.pool.now c.run.new.self es × RunLeaves (me at) c.args.line.now (before at) (after at) (after at).call es a) c.run.result
    (λ a h. (_, h.0, run_left (me at) c.args.line.now (before at) (after at) (after at).call _ a h.1)) left

pub returns-clause-map : goal.returns-clause-map
returns-clause-map c =
    let at = (goal.at.returns-clause-map c).After-run in
    follows at (λ a. MapSo c.args.line.now a (before at) (after at))
    (λ a g. run_maps (me at) (before at) (after at) (after at).call _ c.args.line.now a (run_leaves (me at) c.args.line.now (before at) (after at) (after at).call a g))

pub returns-clause-others : goal.returns-clause-others
returns-clause-others c = c.run.ensures.ran.others
