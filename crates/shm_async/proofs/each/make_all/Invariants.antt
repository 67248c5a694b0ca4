use Rattle.std.proofs.Common.{◌≡◌, ◌++◌, length}
use Rattle.std.specs.Vec.Iter.{into_iter_items, into_iter_len}
use Rattle.shm_async.specs.Each.{EachFrom}
use Rattle.shm_async.proofs.each.make_all.Given as goal

abbrev pub invariant-loop-item : goal.invariant-loop-item
invariant-loop-item g l = record {
  items : l.yielded ++ into_iter_items l.item-iterator ≡ l.fn.items.items;
  len : into_iter_len l.item-iterator ≡ length (into_iter_items l.item-iterator);
  left : EachFrom (g.M.Makes.takes l.maker) (length l.yielded) (into_iter_items l.item-iterator);
  made : EachFrom (g.M.Makes.gives l.maker) 0 l.made.items;
  many : length l.made.items ≡ length l.yielded;
}
