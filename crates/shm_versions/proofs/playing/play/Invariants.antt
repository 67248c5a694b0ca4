use Rattle.std.proofs.Common.{◌≡◌, false, take}
use Rattle.shm_versions.specs.TreeRuns.{Lines}
use Rattle.shm_versions.proofs.playing.play.Given as goal

abbrev pub invariant-loop-line : goal.invariant-loop-line
invariant-loop-line l = record {
  ran : Lines (take l.line-index l.lines) l.answers.items l.fn.forest l.fn.life.left l.forest l.life.left;
  alive : l.forest.died ≡ false;
}
