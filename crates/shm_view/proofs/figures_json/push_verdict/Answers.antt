use Rattle.std.proofs.Common.{take, sym, ap, ◌∙◌, subst}
use Rattle.std.specs.Str.{IsUtf8}
use Rattle.shm_view.proofs.VerdictWords.{IsUtf8-verdict_front}
use Rattle.shm_view.proofs.figures_json.push_verdict.Goals as goal

pub unreachable-requires : goal.unreachable-requires
unreachable-requires c =
    let words = c.as_slice.ensures.value ∙ c.pop-end.ensures.rest ∙ ap (take _) c.in_ok-line.ensures in
    c.in-Err.ensures.cases.0 (subst IsUtf8 (sym words) (IsUtf8-verdict_front c.args.verdict.now _))
