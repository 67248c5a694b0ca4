use Rattle.std.proofs.Common.{◌≡◌, ap, ◌∙◌, Option, Some, None}
use Rattle.std.specs.Option.{option_map}
use Rattle.shm_graph.specs.{declared.ask.Turn.Turn, Laws.turn_of, Mapped.told_turn}
use Rattle.shm_table.specs.Command.{given}
use Rattle.shm_table.proofs.command.take_told.Goals as goal

told_so : {A B : Type 0} (f : A → B) (o : Option A) (t : Turn A) (u : Turn B) → t ≡ turn_of o → u ≡ told_turn f t → u ≡ turn_of (option_map f o)
told_so f None t u e i = i ∙ ap (told_turn f) e
told_so f (Some a) t u e i = i ∙ ap (told_turn f) e

pub returns-clause-turn : goal.returns-clause-turn
returns-clause-turn g c = told_so given (g.M.Machine.control.turns c.args.one.now c.args.seen) c.take.result c.told.result c.take.ensures.turn c.told.ensures
