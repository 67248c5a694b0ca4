use Rattle.std.proofs.Common.{◌≡◌, ◌++◌, ap, ◌∙◌, arith}
use Rattle.json.specs.{Json.document, Tree.json_tokens}
use Rattle.shm_view.specs.FiguresJson.{figures_json, json_line}
use Rattle.shm_view.proofs.JsonLines.{line_reads, on_a_line}
use Rattle.shm_view.proofs.JsonLists.{depth-figures_json}
use Rattle.shm_view.proofs.figures_json.stats_json.Goals as goal

pub returns-clause-text : goal.returns-clause-text
returns-clause-text c =
    let before = c.in_ok-push_figures.ensures.before ∙ c.new-writer.ensures.before ∙ c.new.ensures.items in
    let tokens = c.in_ok-push_figures.ensures.tokens ∙ ap (λ ts. ts ++ json_tokens (figures_json c.args.stats.now)) c.new-writer.ensures.tokens in
    on_a_line (figures_json c.args.stats.now) _ _ _ _ before tokens c.into_inner-text.ensures.items c.in_ok-push.ensures.items

pub returns-clause-parses : goal.returns-clause-parses
returns-clause-parses c =
    let line : c.push.new.self.items ≡ json_line (figures_json c.args.stats.now) = returns-clause-text c in
    let tokens = c.in_ok-push_figures.ensures.tokens ∙ ap (λ ts. ts ++ json_tokens (figures_json c.args.stats.now)) c.new-writer.ensures.tokens in
    ap document line ∙ line_reads (figures_json c.args.stats.now) _ tokens c.into_inner-text.ensures.reads_back (omega (arith, depth-figures_json c.args.stats.now))
