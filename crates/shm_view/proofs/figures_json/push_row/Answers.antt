use Rattle.shm_view.proofs.JsonLists.{tokens_of_members, wrapped}
use Rattle.shm_view.proofs.figures_json.push_row.Goals as goal

pub returns-clause-tokens : goal.returns-clause-tokens
returns-clause-tokens c = wrapped _ _ _ _ _ _ _ _ c.in_ok-begin_object.ensures.ok c.in_ok-push_members.ensures.tokens c.in_ok-end_object.ensures.ok (tokens_of_members _)
