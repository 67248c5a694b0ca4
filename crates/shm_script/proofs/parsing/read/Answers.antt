use Rattle.std.proofs.{Common.{◌∙◌, sym, arith, Ok, ap}, lemmas.Result.err_from_is_err_and}
use Rattle.std.specs.{Prelude.◌==◌, List.slice_split}
use Rattle.shm_script.specs.Drafts.{draft_none, reading, trace_of, traced}
use Rattle.shm_script.proofs.{Whole.trace_sound, ReadLoop.{take_stops, take_goes, end_stops, end_goes, short_trace}}
use Rattle.shm_script.proofs.parsing.read.Goals as goal

pub returns-in_err-take : goal.returns-in_err-take
returns-in_err-take c =
    let p = err_from_is_err_and c.from_residual.result c.from_residual.ensures.1 in
    let whole = short_trace c.args.bytes.now c.if-bytes-gt-MOST_BYTES.false in
    rw (p.1, p.2) (take_stops c.loop-line.draft c.loop-line.at c.in-Some.line.now c.loop-line.rest.now c.in-Some.others.now (trace_of c.args.bytes.now) c.in-Some.ensures.lines (c.loop-line.invariant.read ∙ sym whole) c.in_err-take.field-0.0 c.in_err-take.ensures.err)

pub loop-line-preserved : goal.loop-line-preserved
loop-line-preserved c = record {
  read = c.in_ok-at.ensures.read ∙ take_goes c.loop-line.draft c.loop-line.at c.in-Some.line.now c.loop-line.rest.now c.in-Some.others.now (reading draft_none 1 (slice_split (λ b. b == 10) c.args.bytes.now)) c.in-Some.ensures.lines c.loop-line.invariant.read c.take.new.self c.in_ok-take.ensures.ok;
  small = omega (arith, c.in_ok-at.ensures.small.0, c.in-Some.ensures.less, c.loop-line.invariant.small);
}

pub returns-then-not-may_end : goal.returns-then-not-may_end
returns-then-not-may_end c =
    let whole = short_trace c.args.bytes.now c.if-bytes-gt-MOST_BYTES.false in
    rw c.fault.ensures (end_stops c.loop-line.draft c.loop-line.at c.loop-line.rest.now (trace_of c.args.bytes.now) c.in_default.ensures.lines (c.loop-line.invariant.read ∙ sym whole) (sym c.may_end.ensures ∙ c.if-not-may_end.true))

pub finish-requires : goal.finish-requires
finish-requires c =
    let whole = short_trace c.args.bytes.now c.if-bytes-gt-MOST_BYTES.false in
    let is = end_goes c.loop-line.draft c.loop-line.at c.loop-line.rest.now (trace_of c.args.bytes.now) c.in_default.ensures.lines (c.loop-line.invariant.read ∙ sym whole) (sym c.may_end.ensures ∙ c.if-not-may_end.false) in
    (trace_sound c.args.bytes.now (traced c.loop-line.draft) is).0

pub returns : goal.returns
returns c =
    let whole = short_trace c.args.bytes.now c.if-bytes-gt-MOST_BYTES.false in
    let is = end_goes c.loop-line.draft c.loop-line.at c.loop-line.rest.now (trace_of c.args.bytes.now) c.in_default.ensures.lines (c.loop-line.invariant.read ∙ sym whole) (sym c.may_end.ensures ∙ c.if-not-may_end.false) in
    is ∙ ap Ok (sym c.in_ok-finish.ensures)
