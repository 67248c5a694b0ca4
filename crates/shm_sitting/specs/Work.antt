-- a piece of work of an identity in a pool for tables: a join, a recovery, a leaving or a command, and its control
use Rattle.std.specs.{Prelude.{ℕ, Bool, Option, List}, Option.option_map}
use Rattle.shm_graph.specs.{declared.ask.{Ask.Ask, Me.Me}, Laws.Control}
use Rattle.plans.specs.{declared.or.Or.TheVariants.{First, Second}, CallsControl.calls_of}
use Rattle.shm_recover.specs.{Join.join_fresh, Leave.Control.{leaving, leave_steered}}
use Rattle.shm_recover.specs.Recover.Control.{recovering, recover_steered}
use Rattle.shm_script.specs.declared.line.Line.{Line}
use Rattle.shm_singles.specs.Steps.{lives_control}
use Rattle.shm_table.specs.Command.{command_control, command_of}
use Rattle.shm_sitting.specs.declared.work.{Work.Work, WorkAnswer.WorkAnswer}
use Rattle.shm_sitting.specs.declared.work.Work.TheVariants as work
use Rattle.shm_sitting.specs.declared.work.WorkAnswer.TheVariants as answer

-- ---- each field of the control is that of the one of the two
abbrev pub work_me : Work → Me
work_me (work.Lives m) = lives_control.me m
work_me (work.Command m) = command_control.me m

abbrev pub work_line : Work → List ℕ
work_line (work.Lives m) = lives_control.line m
work_line (work.Command m) = command_control.line m

abbrev pub work_fresh : Work → Bool
work_fresh (work.Lives m) = lives_control.fresh m
work_fresh (work.Command m) = command_control.fresh m

abbrev pub work_finished : Work → Bool
work_finished (work.Lives m) = lives_control.finished m
work_finished (work.Command m) = command_control.finished m

abbrev pub work_asks : Work → Ask
work_asks (work.Lives m) = lives_control.asks m
work_asks (work.Command m) = command_control.asks m

abbrev pub work_after : Work → ℕ → Work
work_after (work.Lives m) n = work.Lives (lives_control.after m n)
work_after (work.Command m) n = work.Command (command_control.after m n)

abbrev pub work_turns : Work → ℕ → Option WorkAnswer
work_turns (work.Lives m) n = option_map answer.Lives (lives_control.turns m n)
work_turns (work.Command m) n = option_map answer.Command (command_control.turns m n)

abbrev pub work_control : Control Work WorkAnswer
work_control = record { me = work_me; line = work_line; fresh = work_fresh; finished = work_finished; asks = work_asks; after = work_after; turns = work_turns }

-- ---- each before its first word step
abbrev pub join_work : Me → Work
join_work me = work.Lives (First (join_fresh me))

abbrev pub recover_work : Me → Work
recover_work me = work.Lives (Second (First (calls_of recover_steered (recovering me))))

abbrev pub leave_work : Me → Work
leave_work me = work.Lives (Second (Second (calls_of leave_steered (leaving me))))

abbrev pub commanding : Me → Line → Work
commanding me l = work.Command (command_of me l)
