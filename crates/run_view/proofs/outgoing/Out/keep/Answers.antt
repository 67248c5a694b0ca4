use Rattle.std.proofs.Common.{refl, ap, ◌∙◌, List, ℕ}
use Rattle.run_view.specs.Piped.{Sending}
use Rattle.run_view.proofs.Piping.{adds_written, keeps, some_more}
use Rattle.run_view.proofs.outgoing.Out.keep.Goals as goal

pub invariant_of-self : goal.invariant_of-self
invariant_of-self g c = some_more g.B.Begun.sink c.self.invariant (keeps _ _ c.args.bytes.now refl refl c.in-Ok.ensures.items)

pub invariant_of-self-in-Err-2 : goal.invariant_of-self-in-Err-2
invariant_of-self-in-Err-2 g c =
    let none = ap (λ (s : Sending g.row.K.Denot). s.kept) c.self-in-Err.view_is ∙ c.flush.ensures.empty in
    some_more g.B.Begun.sink c.self-in-Err.invariant (adds_written _ _ c.args.bytes.now none none c.write.ensures)
