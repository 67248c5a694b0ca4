-- a machine of an operation on single blocks, of whichever group it is: its control
use Rattle.std.specs.{Prelude.{ℕ, Bool, Option, List}, Option.option_map}
use Rattle.shm_graph.specs.{declared.ask.{Ask.Ask, Me.Me}, Laws.Control}
use Rattle.shm_alloc.specs.Alloc.Control.{alloc_control}
use Rattle.shm_singles.specs.declared.part.{Part.Part, PartAnswer.PartAnswer}
use Rattle.shm_singles.specs.Steps.{latches_control, lives_control, queues_control, roots_control, words_control}
use Rattle.shm_singles.specs.declared.part.Part.TheVariants as group
use Rattle.shm_singles.specs.declared.part.PartAnswer.TheVariants as answer

-- ---- each field of the control is that of the group
abbrev pub part_me : Part → Me
part_me (group.Lives m) = lives_control.me m
part_me (group.Alloc m) = alloc_control.me m
part_me (group.Roots m) = roots_control.me m
part_me (group.Words m) = words_control.me m
part_me (group.Latches m) = latches_control.me m
part_me (group.Queues m) = queues_control.me m

abbrev pub part_line : Part → List ℕ
part_line (group.Lives m) = lives_control.line m
part_line (group.Alloc m) = alloc_control.line m
part_line (group.Roots m) = roots_control.line m
part_line (group.Words m) = words_control.line m
part_line (group.Latches m) = latches_control.line m
part_line (group.Queues m) = queues_control.line m

abbrev pub part_fresh : Part → Bool
part_fresh (group.Lives m) = lives_control.fresh m
part_fresh (group.Alloc m) = alloc_control.fresh m
part_fresh (group.Roots m) = roots_control.fresh m
part_fresh (group.Words m) = words_control.fresh m
part_fresh (group.Latches m) = latches_control.fresh m
part_fresh (group.Queues m) = queues_control.fresh m

abbrev pub part_finished : Part → Bool
part_finished (group.Lives m) = lives_control.finished m
part_finished (group.Alloc m) = alloc_control.finished m
part_finished (group.Roots m) = roots_control.finished m
part_finished (group.Words m) = words_control.finished m
part_finished (group.Latches m) = latches_control.finished m
part_finished (group.Queues m) = queues_control.finished m

abbrev pub part_asks : Part → Ask
part_asks (group.Lives m) = lives_control.asks m
part_asks (group.Alloc m) = alloc_control.asks m
part_asks (group.Roots m) = roots_control.asks m
part_asks (group.Words m) = words_control.asks m
part_asks (group.Latches m) = latches_control.asks m
part_asks (group.Queues m) = queues_control.asks m

abbrev pub part_after : Part → ℕ → Part
part_after (group.Lives m) n = group.Lives (lives_control.after m n)
part_after (group.Alloc m) n = group.Alloc (alloc_control.after m n)
part_after (group.Roots m) n = group.Roots (roots_control.after m n)
part_after (group.Words m) n = group.Words (words_control.after m n)
part_after (group.Latches m) n = group.Latches (latches_control.after m n)
part_after (group.Queues m) n = group.Queues (queues_control.after m n)

abbrev pub part_turns : Part → ℕ → Option PartAnswer
part_turns (group.Lives m) n = option_map answer.Lives (lives_control.turns m n)
part_turns (group.Alloc m) n = option_map answer.Alloc (alloc_control.turns m n)
part_turns (group.Roots m) n = option_map answer.Roots (roots_control.turns m n)
part_turns (group.Words m) n = option_map answer.Words (words_control.turns m n)
part_turns (group.Latches m) n = option_map answer.Latches (latches_control.turns m n)
part_turns (group.Queues m) n = option_map answer.Queues (queues_control.turns m n)

-- the control of whichever group it is
abbrev pub part_control : Control Part PartAnswer
part_control = record { me = part_me; line = part_line; fresh = part_fresh; finished = part_finished; asks = part_asks; after = part_after; turns = part_turns }
