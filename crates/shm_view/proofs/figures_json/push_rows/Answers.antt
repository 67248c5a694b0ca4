use Rattle.shm_view.proofs.JsonLists.{tokens_of_items, wrapped}
use Rattle.shm_view.proofs.figures_json.push_rows.Goals as goal

pub returns-clause-tokens : goal.returns-clause-tokens
returns-clause-tokens c = wrapped _ _ _ _ _ _ _ _ c.in_ok-begin_array.ensures.ok c.in_ok-push_items.ensures.tokens c.in_ok-end_array.ensures.ok (tokens_of_items _)
