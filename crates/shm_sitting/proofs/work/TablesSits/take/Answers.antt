-- what the machine of a command answered is what its control says
use Rattle.std.proofs.Common.{◌≡◌, ℕ, Some, sym, ap, ◌∙◌}
use Rattle.std.specs.Option.{option_map}
use Rattle.shm_graph.specs.{declared.ask.Turn.{Turn, TheVariants.Done}, Laws.turn_of}
use Rattle.shm_graph.proofs.Machines.Composing.{some_of}
use Rattle.shm_script.specs.declared.log.Answer.{Answer}
use Rattle.shm_table.specs.Command.{CommandCall, command_control}
use Rattle.shm_sitting.specs.{declared.work.Work.{Work, TheVariants.Command}, Work.work_turns}
use Rattle.shm_sitting.specs.declared.work.WorkAnswer.TheVariants as answer
use Rattle.shm_sitting.proofs.work.TablesSits.take.Goals as goal

answered : (w : Work) (m : CommandCall) (n : ℕ) (u : Turn Answer) (a : Answer) → w ≡ Command m → u ≡ turn_of (command_control.turns m n) → u ≡ Done a → Some (answer.Command a) ≡ work_turns w n
answered w m n u a e t d = rw e (sym (ap (option_map answer.Command) (some_of (command_control.turns m n) a (sym t ∙ d))))

pub returns-in-Done-take-clause-answer : goal.returns-in-Done-take-clause-answer
returns-in-Done-take-clause-answer c = answered c.args.work.now c.in-Command.machine c.args.seen c.take-in-Command.result c.in-Done-take.answer c.in-Command.is c.take-in-Command.ensures.turn c.in-Done-take.is
