use Rattle.std.proofs.Common.{◌≡◌, ◌<◌, true, sym, ap, ◌∙◌, subst}
use Rattle.shm_words.specs.Layout.{GeometryFits}
use Rattle.shm_graph.specs.{declared.{ask.Me.Me, memo.Memo.Memo}, Agents.acts, Laws.is_died}
use Rattle.shm_plain.specs.{Calls.Ran, Pools.{Pool, memo_of}}
use Rattle.shm_plain.proofs.Calling.{answered_is, lives, still_working, went_gives, went_on, went_ran}
use Rattle.shm_count.specs.Roots.{member}
use Rattle.shm_table.specs.Command.{CommandCall, CommandFits, CommandGives, LineMayStand, command_control, command_effect, command_of}
use Rattle.shm_table.specs.Command.Maps.{MapSoFar}
use Rattle.shm_client.proofs.{RunBegins.{run_fresh, run_latch, run_stands}, RunEvents.run_leaves, RunKeeps.run_keeps}
use Rattle.shm_client.proofs.RunMaps.{run_maps}
use Rattle.t_uses.proofs.Attempts.{acts_still, answered_so, attempts_first, cut_so, first_is, first_of, fits_begun, laws}
use Rattle.t_uses.proofs.table.attempt.Goals.{In-Died, In-Done}
use Rattle.t_uses.proofs.table.attempt.Goals as goal

-- ---- the machine

pub new-machine-requires-clause-geometry : goal.new-machine-requires-clause-geometry
new-machine-requires-clause-geometry c =
    let g = c.new.ensures.geometry ∙ c.geometry-geometry.ensures.is in
    subst GeometryFits (sym g) c.requires.at_work.geometry

pub new-machine-requires-clause-line : goal.new-machine-requires-clause-line
new-machine-requires-clause-line c =
    let g = c.new.ensures.geometry ∙ c.geometry-geometry.ensures.is in
    let me : c.new.result ≡ member c.args.pool.now.start.geometry c.args.who = (λ i. record { geometry = g i; who = c.new.ensures.who i }) in
    subst (λ (x : Me). LineMayStand x c.args.line.now) (sym me) (run_stands _ c.args.line.now (memo_of c.args.pool.now c.args.who) c.requires.may)

pub loop-answer-init : goal.loop-answer-init
loop-answer-init c =
    let g = c.new.ensures.geometry ∙ c.geometry-geometry.ensures.is in
    let me : c.new.result ≡ member c.args.pool.now.start.geometry c.args.who = (λ i. record { geometry = g i; who = c.new.ensures.who i }) in
    (c.geometry-geometry.ensures.run, attempts_first c.args.pool.now c.args.who c.args.line.now c.args.life.now.left c.new-machine.result (c.new-machine.ensures.command ∙ ap (λ (x : Me). command_of x c.args.line.now) me) c.requires.at_work)

-- ---- a word step

pub step-requires-clause-fits : goal.step-requires-clause-fits
step-requires-clause-fits c = (memo_of c.args.pool.now c.args.who, c.loop-answer.invariant.1.forth (memo_of c.args.pool.now c.args.who) (fits_begun c.args.who c.args.line.now c.args.pool.now c.requires.at_work c.requires.may))

pub loop-answer-preserved : goal.loop-answer-preserved
loop-answer-preserved c =
    let p = c.args.pool.now in
    let l = c.loop-answer in
    let some : 0 < l.life.left = lives c.step.result l.life.left (ap is_died c.in-More.is) c.step.ensures.died.1 in
    let turn = c.step.ensures.turn some in (
      c.step.ensures.run,
      went_on command_control CommandFits CommandGives c.args.who p (first_of p c.args.who c.args.line.now) c.args.life.now.left l.pool l.machine l.life.left l.invariant.1 c.step.new.self turn.1 c.step.ensures.run
          c.step.new.m (c.step.ensures.fits some) laws.steady laws.back turn.2 c.step.result turn.3 c.in-More.is c.step.new.life.left turn.0,
    )

-- ---- it has answered

gives : (c : In-Done) → let r : Memo = memo_of c.step.new.self c.args.who in CommandGives (first_of c.args.pool.now c.args.who c.args.line.now) (memo_of c.args.pool.now c.args.who) r r.call c.in-Done.answer
gives c =
    let p = c.args.pool.now in
    let l = c.loop-answer in
    let some : 0 < l.life.left = lives c.step.result l.life.left (ap is_died c.in-Done.is) c.step.ensures.died.1 in
    let turn = c.step.ensures.turn some in
    went_gives command_control CommandFits CommandGives c.args.who p (first_of p c.args.who c.args.line.now) c.args.life.now.left l.pool l.machine l.life.left l.invariant.1 c.step.new.self turn.1 c.step.ensures.run c.step.new.m (c.step.ensures.fits some) c.in-Done.answer
    (answered_is _ c.step.result c.in-Done.answer turn.3 c.in-Done.is) (memo_of p c.args.who) (fits_begun c.args.who c.args.line.now p c.requires.at_work c.requires.may)

ran : (c : In-Done) → Ran c.args.who true true c.args.pool.now c.step.new.self c.args.life.now.left c.step.new.life.left
ran c =
    let p = c.args.pool.now in
    let l = c.loop-answer in
    let some : 0 < l.life.left = lives c.step.result l.life.left (ap is_died c.in-Done.is) c.step.ensures.died.1 in
    let turn = c.step.ensures.turn some in
    let first : CommandCall = first_of p c.args.who c.args.line.now in
    subst (λ b. Ran c.args.who b true p c.step.new.self c.args.life.now.left c.step.new.life.left) (run_fresh (member p.start.geometry c.args.who) c.args.line.now)
    (went_ran command_control CommandFits CommandGives c.args.who p first c.args.life.now.left l.pool l.machine l.life.left l.invariant.1 c.step.new.self turn.1 c.step.ensures.run laws.steady (first_is p c.args.who c.args.line.now c.requires.at_work.who) (answered_is _ c.step.result c.in-Done.answer turn.3 c.in-Done.is) c.step.new.life.left turn.0)

pub returns-in-Done-clause-map : goal.returns-in-Done-clause-map
returns-in-Done-clause-map c =
    let at = (goal.at.returns-in-Done-clause-map c).In-Done in
    let me : Me = member c.args.pool.now.start.geometry c.args.who in
    let r0 : Memo = memo_of c.args.pool.now c.args.who in
    let r : Memo = memo_of c.step.new.self c.args.who in
    answered_so c.args.line.now c.in-Done.answer r0 r (run_maps me r0 r r.call _ c.args.line.now c.in-Done.answer (run_leaves me c.args.line.now r0 r r.call c.in-Done.answer (gives at)))

pub returns-in-Done-clause-others : goal.returns-in-Done-clause-others
returns-in-Done-clause-others c = (ran (goal.at.returns-in-Done-clause-others c).In-Done).others

pub returns-in-Done-clause-start : goal.returns-in-Done-clause-start
returns-in-Done-clause-start c = (ran (goal.at.returns-in-Done-clause-start c).In-Done).start

pub returns-in-Done-clause-acts : goal.returns-in-Done-clause-acts
returns-in-Done-clause-acts c =
    let at = (goal.at.returns-in-Done-clause-acts c).In-Done in
    let me : Me = member c.args.pool.now.start.geometry c.args.who in
    let r0 : Memo = memo_of c.args.pool.now c.args.who in
    let r : Memo = memo_of c.step.new.self c.args.who in
    let idle = (run_keeps me r0 r r.call _ c.args.line.now c.in-Done.answer c.requires.at_work.idle (run_latch me c.args.line.now r0 c.requires.may) (run_leaves me c.args.line.now r0 r r.call c.in-Done.answer (gives at))).idle in
    (still_working c.args.who true c.args.pool.now c.step.new.self _ _ c.requires.at_work.geometry c.requires.at_work.who (ran at) idle).acts

-- ---- it was cut off

pub returns-in-Died-clause-map : goal.returns-in-Died-clause-map
returns-in-Died-clause-map c =
    let p = c.args.pool.now in
    let l = c.loop-answer in
    let same = c.step.ensures.stays (ap is_died c.in-Died.is) in
    let so = cut_so c.args.who c.args.line.now p c.requires.at_work c.requires.may c.args.life.now.left l.pool l.machine l.life.left l.invariant.1 c.command_maps.ensures.going in
    rw (c.effect.ensures ∙ ap command_effect same.1) (subst (λ (q : Pool). MapSoFar c.args.line.now (command_effect l.machine) (memo_of p c.args.who) (memo_of q c.args.who)) (sym same.0) so)

pub returns-in-Died-clause-acts : goal.returns-in-Died-clause-acts
returns-in-Died-clause-acts c =
    let l = c.loop-answer in
    let same = c.step.ensures.stays (ap is_died c.in-Died.is) in
    ap (λ (q : Pool). acts (memo_of q c.args.who)) same.0 ∙ acts_still c.args.who c.args.line.now c.args.pool.now c.requires.at_work c.requires.may c.args.life.now.left l.pool l.machine l.life.left l.invariant.1

pub returns-in-Died-clause-others : goal.returns-in-Died-clause-others
returns-in-Died-clause-others c = λ d n. let same = c.step.ensures.stays (ap is_died c.in-Died.is) in ap (λ (q : Pool). memo_of q d) same.0 ∙ c.loop-answer.invariant.1.others d n

pub returns-in-Died-clause-start : goal.returns-in-Died-clause-start
returns-in-Died-clause-start c = let same = c.step.ensures.stays (ap is_died c.in-Died.is) in ap (λ (q : Pool). q.start) same.0 ∙ c.loop-answer.invariant.1.start
