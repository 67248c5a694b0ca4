use Rattle.std.proofs.Common.{refl, sym}
use Rattle.run_view.proofs.Piping.{from_nothing}
use Rattle.run_view.proofs.page.steps_by.Goals as goal

pub tell-requires : goal.tell-requires
tell-requires g c = record {
  same = sym c.requires.window;
  many = refl;
  text = from_nothing g.K.Sink.held g.K.Sink.faults g.B.Begun.sink c.args.writer.sink _ c.requires.sink c.new.ensures;
}
