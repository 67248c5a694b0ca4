use Rattle.std.proofs.Common.{◌<◌, ◌^◌}
use Rattle.shm_view.proofs.arrows.draw_chain.Given as goal

abbrev pub invariant-loop : goal.invariant-loop
invariant-loop l = l.behind < 2 ^ 24
