use Rattle.std.proofs.Common.{map, ap, ◌∙◌}
use Rattle.shm_view.specs.Tables.{grid_of}
use Rattle.shm_view.proofs.JsonLists.{tokens_of_figures}
use Rattle.shm_view.proofs.figures_json.push_figures.Goals as goal

pub returns-clause-tokens : goal.returns-clause-tokens
returns-clause-tokens c =
    tokens_of_figures c.args.stats.now (map grid_of c.as_slice.result.now) _ _ _ _ _ (ap (map grid_of) c.as_slice.ensures.value ∙ c.in_ok-tables.ensures) c.in_ok-begin_object.ensures.ok c.in_ok-push_tables.ensures.tokens
    c.in_ok-push_verdict.ensures.tokens c.in_ok-end_object.ensures.ok
