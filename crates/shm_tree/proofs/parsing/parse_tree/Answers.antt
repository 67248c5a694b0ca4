use Rattle.std.proofs.{Common.{◌∙◌, sym, arith, Ok, ap}, lemmas.Result.err_from_is_err_and}
use Rattle.std.specs.{Prelude.◌==◌, List.slice_split}
use Rattle.shm_tree.specs.Scripts.{draft_none, reading, script_of}
use Rattle.shm_tree.proofs.ReadLoop.{take_stops, take_goes, end_stops, end_goes, short_script}
use Rattle.shm_tree.proofs.parsing.parse_tree.Goals as goal

pub returns-in_err-take : goal.returns-in_err-take
returns-in_err-take c =
    let p = err_from_is_err_and c.from_residual.result c.from_residual.ensures.1 in
    let whole = short_script c.args.bytes.now c.if-bytes-gt-MOST_BYTES.false in
    rw (p.1, p.2) (take_stops c.loop-line.draft c.loop-line.at c.in-Some.line.now c.loop-line.rest.now c.in-Some.others.now (script_of c.args.bytes.now) c.in-Some.ensures.lines (c.loop-line.invariant.read ∙ sym whole) c.in_err-take.field-0.0 c.in_err-take.ensures.err)

pub loop-line-preserved : goal.loop-line-preserved
loop-line-preserved c = record {
  read = take_goes c.loop-line.draft c.loop-line.at c.in-Some.line.now c.loop-line.rest.now c.in-Some.others.now (reading draft_none 1 (slice_split (λ b. b == 10) c.args.bytes.now)) c.in-Some.ensures.lines c.loop-line.invariant.read c.take.new.self c.in_ok-take.ensures.ok;
  small = omega (arith, c.in-Some.ensures.less, c.loop-line.invariant.small);
}

pub returns-then-not-may_end : goal.returns-then-not-may_end
returns-then-not-may_end c =
    let whole = short_script c.args.bytes.now c.if-bytes-gt-MOST_BYTES.false in
    end_stops c.loop-line.draft c.loop-line.at c.loop-line.rest.now (script_of c.args.bytes.now) c.in_default.ensures.lines (c.loop-line.invariant.read ∙ sym whole) (sym c.may_end.ensures ∙ c.if-not-may_end.true)

pub returns : goal.returns
returns c =
    let whole = short_script c.args.bytes.now c.if-bytes-gt-MOST_BYTES.false in
    end_goes c.loop-line.draft c.loop-line.at c.loop-line.rest.now (script_of c.args.bytes.now) c.in_default.ensures.lines (c.loop-line.invariant.read ∙ sym whole) (sym c.may_end.ensures ∙ c.if-not-may_end.false) ∙ ap Ok (sym c.finish.ensures)
