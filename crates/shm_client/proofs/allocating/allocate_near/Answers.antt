use Rattle.std.proofs.Common.{◌≡◌, ◌≢◌, ℕ, ◌<◌, ap, ◌∙◌, subst, rules, Result}
use Rattle.std.specs.Prelude.{IfOk, IfErr, IfSome}
use Rattle.shm_count.specs.{declared.answer.Made.Made, Step.Control.IsInside}
use Rattle.shm_count.specs.Roots.{AreRootsReached, member, root_word}
use Rattle.shm_count.proofs.RootSpots.{roots_reached}
use Rattle.shm_graph.specs.{declared.{ask.Me.Me, memo.Memo.Memo}, Held.is_loose, Idle.IsIdle, Tells.happens_along}
use Rattle.shm_plain.specs.{Calls.{Did, IsAtWork}, Pools.memo_of}
use Rattle.shm_plain.proofs.Answering.{some_map}
use Rattle.shm_alloc.specs.Alloc.{AsPart.AllocLeaves, Events.{alloc_event, own_events}}
use Rattle.shm_alloc.specs.Alloc.{Control.{AllocInRange, alloc_control}, AllocGives}
use Rattle.shm_alloc.specs.declared.{alloc.AllocFault.AllocFault, point.AllocState.AllocState}
use Rattle.shm_client.specs.Allocating.{IsAskedNear}
use Rattle.shm_client.proofs.Running.{run_kind}
use Rattle.shm_client.proofs.AllocRoots.{alloc_inside, alloc_number, alloc_others, alloc_refused, alloc_root}
use Rattle.shm_client.proofs.allocating.allocate_near.Goals.{In_ok-alloc, After-run}
use Rattle.shm_client.proofs.allocating.allocate_near.Goals as goal

knows : (c : In_ok-alloc) → AllocInRange c.in_ok-alloc.alloc
knows c = search rules

asked : (c : In_ok-alloc) → IsAskedNear c.args.pool.now.start.geometry c.args.who c.args.refs c.args.plain.now c.args.near c.in_ok-alloc.alloc
asked c =
    let q = c.in_ok-alloc.ensures.request in
    record { me = c.in_ok-alloc.ensures.fresh.0 ∙ c.me.ensures.is; point = c.in_ok-alloc.ensures.fresh.1; refs = q.0; count = q.1; plain = q.2; fits = (knows c).request; hint = c.in_ok-alloc.ensures.near }

pub run-requires-clause-me : goal.run-requires-clause-me
run-requires-clause-me c = (asked (goal.at.run-requires-clause-me c).In_ok-alloc).me

pub run-requires-clause-may : goal.run-requires-clause-may
run-requires-clause-may c =
    let at = (goal.at.run-requires-clause-may c).In_ok-alloc in
    ((asked at).point, (knows at).request)

-- ---- what the run leaves

abbrev alloc : (c : After-run) → AllocState
alloc c = c.in_ok-alloc.alloc

-- the memos of the identity, before and after
abbrev before : (c : After-run) → Memo
before c = memo_of c.args.pool.now c.args.who

abbrev after : (c : After-run) → Memo
after c = memo_of c.run.new.self c.args.who

is : (c : After-run) → IsAskedNear c.args.pool.now.start.geometry c.args.who c.args.refs c.args.plain.now c.args.near (alloc c)
is c = asked (goal.at.After-run c).In_ok-alloc

-- what follows of what it gives
follows : (c : After-run) (P : Result Made AllocFault → Type 0) → ((a : Result Made AllocFault) → AllocGives (alloc c) (before c) (after c) (after c).call a → P a) → IfSome c.run.result P
follows c P f = some_map (AllocGives (alloc c) (before c) (after c) (after c).call) P c.run.result f c.run.ensures.gives

pub returns-clause-gives : goal.returns-clause-gives
returns-clause-gives c =
    let at = (goal.at.returns-clause-gives c).After-run in
    follows at (λ (a : Result Made AllocFault). (x : AllocState) × IsAskedNear c.args.pool.now.start.geometry c.args.who c.args.refs c.args.plain.now c.args.near x × AllocGives x (before at) (after at) (after at).call a)
    (λ a g. (alloc at, is at, g))

pub returns-clause-number : goal.returns-clause-number
returns-clause-number c =
    let at = (goal.at.returns-clause-number c).After-run in
    follows at (λ (a : Result Made AllocFault). IfOk a (λ m. m.root < 16))
    (alloc_number c.args.pool.now.start.geometry c.args.who (alloc at) (is at).me (before at) (after at) (after at).call)

pub returns-clause-root : goal.returns-clause-root
returns-clause-root c =
    let at = (goal.at.returns-clause-root c).After-run in
    follows at (λ (a : Result Made AllocFault). IfOk a (λ m. root_word c.args.who (after at) m.root ≡ m.block))
    (alloc_root c.args.pool.now.start.geometry c.args.who (alloc at) (is at).me (before at) (after at) (after at).call)

pub returns-clause-roots : goal.returns-clause-roots
returns-clause-roots c =
    let at = (goal.at.returns-clause-roots c).After-run in
    follows at (λ (a : Result Made AllocFault). IfOk a (λ m. (k : ℕ) → k ≢ m.root → root_word c.args.who (after at) k ≡ root_word c.args.who (before at) k))
    (alloc_others c.args.pool.now.start.geometry c.args.who (alloc at) (is at).me (before at) (after at) (after at).call)

pub returns-clause-none_made : goal.returns-clause-none_made
returns-clause-none_made c =
    let at = (goal.at.returns-clause-none_made c).After-run in
    follows at (λ (a : Result Made AllocFault). IfErr a (λ e. (k : ℕ) → root_word c.args.who (after at) k ≡ root_word c.args.who (before at) k))
    (alloc_refused c.args.pool.now.start.geometry c.args.who (alloc at) (is at).me (before at) (after at) (after at).call)

pub returns-clause-inside : goal.returns-clause-inside
returns-clause-inside c =
    let at = (goal.at.returns-clause-inside c).After-run in
    follows at (λ (a : Result Made AllocFault). IfOk a (λ m. IsInside (member c.args.pool.now.start.geometry c.args.who) m.block))
    (alloc_inside c.run.new.self c.args.pool.now.start c.args.who (alloc at) (before at) (after at).call c.run.ensures.ran.run c.run.ensures.ran.start c.requires.at_work.who (is at).me)

pub returns-clause-loose : goal.returns-clause-loose
returns-clause-loose c =
    let at = (goal.at.returns-clause-loose c).After-run in
    follows at (λ (a : Result Made AllocFault). is_loose (after at).part ≡ is_loose (before at).part)
    (λ a g. ap is_loose g.holds.stays.part)

pub returns-clause-reached : goal.returns-clause-reached
returns-clause-reached c =
    let at = (goal.at.returns-clause-reached c).After-run in
    follows at (λ (a : Result Made AllocFault). AreRootsReached c.args.who (after at))
    (λ a g. roots_reached c.args.who (after at) (subst (λ (n : ℕ). IsIdle n (after at)) (ap (λ (x : Me). x.who) (is at).me) g.holds.idle).op)

pub returns-clause-at_work : goal.returns-clause-at_work
returns-clause-at_work c = some_map (λ a. Unit {0} → IsAtWork c.args.who c.run.new.self) (λ a. IsAtWork c.args.who c.run.new.self) c.run.result (λ a work. work tt) c.run.ensures.at_work

pub returns-clause-kind : goal.returns-clause-kind
returns-clause-kind c = run_kind c.args.who c.args.pool.now c.run.new.self _ _ c.run.result c.requires.at_work.acts c.run.ensures.ran

pub returns-clause-ran : goal.returns-clause-ran
returns-clause-ran c = c.run.ensures.ran

-- what its page says, with the events that it tells of
abbrev Left : (c : After-run) → Result Made AllocFault → Type 0
Left c a = let es = happens_along alloc_control alloc_event (alloc c) (after c).call in Did c.args.who c.args.pool.now c.run.new.self es × AllocLeaves (alloc c) (before c) (after c) (after c).call es a

pub returns-clause-events : goal.returns-clause-events
returns-clause-events c =
    let at = (goal.at.returns-clause-events c).After-run in
    some_map (Left at) (λ a. Did c.args.who c.args.pool.now c.run.new.self (own_events (member c.args.pool.now.start.geometry c.args.who) a)) c.run.result
    (λ a h. subst (Did c.args.who c.args.pool.now c.run.new.self) (h.1.events ∙ ap (λ (x : Me). own_events x a) (is at).me) h.0) c.run.ensures.leaves

pub returns-clause-told : goal.returns-clause-told
returns-clause-told c =
    let at = (goal.at.returns-clause-told c).After-run in
    λ some. (alloc at, is at, at.run.ensures.told some)
