-- what a whole call left, by the events that happened
use Rattle.std.specs.{Prelude.{◌≡◌, List}, List.filter}
use Rattle.shm_graph.specs.{declared.{memo.{Memo.Memo, Step.Step}, run.Account.Account}, Asks.Trail}
use Rattle.shm_graph.specs.{CallEvents.events_of, Events.Event, Tells.is_event}
use Rattle.shm_pool.specs.{Calls.{accounts_by, pairs}, Endings.Answer}

-- The account e became e' by the steps of one call, which answered so: of the memos before and after, of what the steps asked for and found, and of those of their events that change the graph, this is so
pub record HasMadeSo (leaves : Memo → Memo → Trail → List Event → Answer → Type 0) (e e' : Account) (a : Answer) : Type 0 where
  pub steps : List Step
  pub account : e' ≡ accounts_by e steps
  pub call : e'.memo.call ≡ pairs steps
  pub left : leaves e.memo e'.memo (pairs steps) (filter is_event (events_of e.memo steps)) a
