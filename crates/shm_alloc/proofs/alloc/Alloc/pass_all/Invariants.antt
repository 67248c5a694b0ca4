use Rattle.std.proofs.Common.{◌≡◌, ◌-◌, ◌≤◌}
use Rattle.shm_alloc.specs.{declared.point.AllocPoint.TheVariants.Header, Alloc.Control.{AllocInRange, class_asked}}
use Rattle.shm_alloc.proofs.Passed.{IsBehind}
use Rattle.shm_alloc.proofs.alloc.Alloc.pass_all.Given as goal

abbrev pub invariant-headers : goal.invariant-headers
invariant-headers g l = record {
  range : AllocInRange l.self-inside.state;
  class : l.self-inside.class ≡ class_asked l.self-inside.state.request;
  point : l.self-inside.state.point ≡ Header l.goal l.search l.page l.index;
  same : l.class ≡ class_asked l.self-inside.state.request;
  life : l.life.left ≡ l.fn.life.left;
  most : l.most ≤ l.fn.life.left;
  hand : l.most ≤ l.self-inside.left;
  passed : l.passed ≤ l.most;
  behind : IsBehind l.self-inside.state l.goal l.search l.page l.index (g.S.Site.may l.site) (g.S.Site.made l.site) (g.S.Site.seen l.site) l.fn.life.left l.fn.self l.fn.words l.self-inside.left l.at l.passed l.words;
}

abbrev pub decreases-headers : goal.decreases-headers
decreases-headers g l = l.most - l.passed
