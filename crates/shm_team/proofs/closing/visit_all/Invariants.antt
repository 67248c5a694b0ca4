use Rattle.std.proofs.Common.{◌≡◌, ◌++◌, length}
use Rattle.std.specs.{List.AllByRecursion, Vec.Iter.{into_iter_items, into_iter_len}}
use Rattle.shm_team.specs.{declared.done.Done.Done, Lefts.IsGivenBack, Visits.AreVisits}
use Rattle.shm_team.proofs.closing.visit_all.Given as goal

abbrev pub invariant-loop-done : goal.invariant-loop-done
invariant-loop-done g l = record {
  items : l.yielded ++ into_iter_items l.done-iterator ≡ l.fn.dones.items;
  len : into_iter_len l.done-iterator ≡ length (into_iter_items l.done-iterator);
  left : AllByRecursion (λ (d : Done). IsGivenBack l.pool d.left) (into_iter_items l.done-iterator);
  visits : AreVisits l.pool l.yielded l.logs.items l.tokens.items;
}
