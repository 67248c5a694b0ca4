use Rattle.std.proofs.Common.{◌≡◌, ◌≤◌, length, map, take, vec_capacity, vec_len}
use Rattle.shm_watch.specs.Columns.{lane_of}
use Rattle.shm_watch.proofs.course.Course.new.Given as goal

abbrev pub invariant-loop-script : goal.invariant-loop-script
invariant-loop-script g l = record {
  lanes : l.lanes.items ≡ map (lane_of l.trace) (take l.script-index l.trace.scripts);
  few : vec_len l.lanes ≤ l.script-index;
  room : length l.trace.scripts ≤ vec_capacity l.lanes;
}
