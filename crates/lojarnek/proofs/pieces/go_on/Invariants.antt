use Rattle.std.proofs.Common.{◌≡◌, ◌+◌}
use Rattle.lojarnek.specs.{Amid.IsAmid, Standing.{Acts, acts_of}}
use Rattle.lojarnek.proofs.pieces.go_on.Given as goal

abbrev pub invariant-goes : goal.invariant-goes
invariant-goes g l = record {
  same : l.token.of ≡ l.initial.token.of;
  some : (n : _) × (c : Acts) × IsAmid g.O.Machine.control g.O.Machine.fits g.O.Machine.gives g.O.Operation.may n l.operation c (acts_of l.token l.life.left);
  amid : (n : _) (c : Acts) → IsAmid g.O.Machine.control g.O.Machine.fits g.O.Machine.gives g.O.Operation.may n l.initial.operation c (acts_of l.initial.token l.initial.life.left) → IsAmid g.O.Machine.control g.O.Machine.fits g.O.Machine.gives g.O.Operation.may n l.operation c (acts_of l.token l.life.left);
  down : l.life.left + l.steps ≡ l.initial.life.left + l.rest;
}

abbrev pub decreases-goes : goal.decreases-goes
decreases-goes g l = l.rest
