use Rattle.std.proofs.Common.{◌+◌, ◌∙◌, sym, inl, inr, true≢false}
use Rattle.shm_tree.specs.{declared.line.TreeAnswer.TreeAnswer, Costing.{call_steps, made_most, sweep_steps}}
use Rattle.shm_tree.proofs.{Answering.{alive_died, refused_died}, Eras.spent_stays, Forests.stopped_on}
use Rattle.shm_tree.proofs.Moving.{alive_is, alive_when, is_over_is, is_over_not, refused_is, refused_when, undone_moves}
use Rattle.shm_tree.proofs.Refusals.{added_none, all_of, first_of, spends_more, spends_then}
use Rattle.shm_tree.proofs.Lasts.{last_more, last_then}
use Rattle.shm_tree.proofs.registers.Registers.run.Goals as goal

pub undone-requires : goal.undone-requires
undone-requires c =
    let ne = is_over_not c.in-Err.why (sym c.is_over.ensures ∙ c.if-is_over.false) in
    record { forest = alive_is TreeAnswer c.in-Err.why ne c.in-Err.ensures.moves.forest; alive = ne }

pub returns-else-is_over-clause-moves : goal.returns-else-is_over-clause-moves
returns-else-is_over-clause-moves c =
    let ne = is_over_not c.in-Err.why (sym c.is_over.ensures ∙ c.if-is_over.false) in
    let u = c.undone.ensures in
    undone_moves {T = TreeAnswer} c.in-Err.why c.undone.result c.requires.forest ne c.in-Err.ensures.moves u.went u.kept u.why u.died

pub returns-else-is_over-clause-swept : goal.returns-else-is_over-clause-swept
returns-else-is_over-clause-swept c = alive_when TreeAnswer c.undone.result (λ alive old. c.undone.ensures.swept alive)

pub returns-else-is_over-clause-refused : goal.returns-else-is_over-clause-refused
returns-else-is_over-clause-refused c =
    let ne = is_over_not c.in-Err.why (sym c.is_over.ensures ∙ c.if-is_over.false) in
    let u = c.undone.ensures in
    let e = c.in-Err.ensures in
    refused_when TreeAnswer c.undone.result (λ alive ts v.
    let n = made_most c.args.line.now ts in
    let geo = c.args.self.now.pool.start.geometry in
    spends_more n (call_steps c.args.line.now ts geo + sweep_steps geo) (added_none n) (all_of (call_steps c.args.line.now ts geo + sweep_steps geo))
    (spends_then sweep_steps c.requires.forest.working e.moves.went u.went (refused_is TreeAnswer c.in-Err.why ne e.refused ts v) (u.spends alive)))

pub returns-then-is_over-clause-swept : goal.returns-then-is_over-clause-swept
returns-then-is_over-clause-swept c = alive_died TreeAnswer _ c.in-Err.why (is_over_is c.in-Err.why (sym c.is_over.ensures ∙ c.if-is_over.true))

pub returns-then-is_over-clause-refused : goal.returns-then-is_over-clause-refused
returns-then-is_over-clause-refused c = refused_died TreeAnswer _ c.in-Err.why (is_over_is c.in-Err.why (sym c.is_over.ensures ∙ c.if-is_over.true))

pub returns-in-Ok-clause-swept : goal.returns-in-Ok-clause-swept
returns-in-Ok-clause-swept c =
    let a = c.in-Ok.ensures in
    λ old calm. a.told (old (λ e. calm (spent_stays c.args.self.now.pool c.answer.new.self.pool c.requires.forest.working a.moves.forest.working a.moves.went e)))

-- no word step was left for it
pub returns-then-is_over-clause-off : goal.returns-then-is_over-clause-off
returns-then-is_over-clause-off c = λ d tidy some calm. inl (c.in-Err.ensures.off d tidy some calm)

pub returns-then-is_over-clause-idle : goal.returns-then-is_over-clause-idle
returns-then-is_over-clause-idle c = λ tidy ts v none. absurd (true≢false (sym (c.in-Err.ensures.idle tidy ts v none)))

-- or for what follows a refusal
pub returns-else-is_over-clause-off : goal.returns-else-is_over-clause-off
returns-else-is_over-clause-off c =
    let ne = is_over_not c.in-Err.why (sym c.is_over.ensures ∙ c.if-is_over.false) in
    let m = c.in-Err.ensures.moves in
    λ d tidy some calm. inr (record { why = c.in-Err.why; other = ne; stopped = stopped_on c.in-Err.why m.cause m.went.run m.went.start c.undone.ensures.went.did })

pub returns-else-is_over-clause-idle : goal.returns-else-is_over-clause-idle
returns-else-is_over-clause-idle c = λ tidy ts v none. absurd (true≢false (sym (c.in-Err.ensures.idle tidy ts v none)))

-- how late that was
pub returns-then-is_over-clause-late : goal.returns-then-is_over-clause-late
returns-then-is_over-clause-late c =
    let geo = c.args.self.now.pool.start.geometry in
    λ ts v d. last_more (call_steps c.args.line.now ts geo + sweep_steps geo) (first_of (call_steps c.args.line.now ts geo) (sweep_steps geo)) (c.in-Err.ensures.late ts v d)

pub returns-else-is_over-clause-late : goal.returns-else-is_over-clause-late
returns-else-is_over-clause-late c =
    let ne = is_over_not c.in-Err.why (sym c.is_over.ensures ∙ c.if-is_over.false) in
    let e = c.in-Err.ensures in
    λ ts v d. last_then sweep_steps c.requires.forest.working e.moves.went (refused_is TreeAnswer c.in-Err.why ne e.refused ts v).spent (c.undone.ensures.late d)
