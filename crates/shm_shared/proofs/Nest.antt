-- the machines of operations on single blocks as one nest of parts
use Rattle.std.proofs.Common.{◌≡◌, ℕ, ◌+◌, Bool, refl}
use Rattle.std.specs.Prelude.{Result}
use Rattle.shm_graph.specs.{declared.{ask.Ask.TheVariants.Load, spot.Spot.TheVariants.Tag}, Laws.Control}
use Rattle.kind_parts.specs.WordParts.{WordLoaded}
use Rattle.plans.specs.{declared.{or.Or.{Or, TheVariants.{First, Second}}, word.Word.Word}, CallsControl.calls_control}
use Rattle.plans.specs.{CallsPart.{calls_part, calls_part_laws}, Either.{or_control, or_part}}
use Rattle.plans.specs.{Parts.{Part as APart, PartLaws}, Proved.Either.or_part_laws}
use Rattle.plans.specs.Words.{word_control, word_part, word_part_laws}
use Rattle.shm_count.specs.{declared.answer.Made.Made, Proved.UpRoot.Laws.rooting_laws}
use Rattle.shm_count.specs.UpRoot.{Control.{rooting_parts, rooting_steered}, rooting_plan}
use Rattle.shm_alloc.specs.declared.{alloc.AllocFault.AllocFault, point.AllocState.AllocState}
use Rattle.shm_alloc.specs.{Alloc.{AsPart.alloc_part, Control.alloc_control}, Proved.Alloc.AsPart.alloc_part_laws}
use Rattle.shm_ref.specs.{DropRoot.{Control.{drop_parts, drop_steered}, drop_plan}, Hold.Control.hold_steered}
use Rattle.shm_ref.specs.{Hold.hold_plan, Look.{look_plan, look_steered}, Read.{read_plan, read_steered}}
use Rattle.shm_ref.specs.{Release.{release_plan, release_steered}, RootOf.{naming_plan, naming_steered}}
use Rattle.shm_ref.specs.{SetRef.{Control.{set_parts, set_steered}, set_plan}, Proved.DropRoot.Laws.drop_laws}
use Rattle.shm_ref.specs.Proved.{Hold.Laws.hold_laws, Look.Laws.look_laws, Read.Laws.read_laws}
use Rattle.shm_ref.specs.Proved.{Release.Laws.release_laws, RootOf.Laws.naming_laws, SetRef.Laws.set_laws}
use Rattle.shm_queue.specs.Drain.{Control.{drain_parts, drain_steered}, drain_plan}
use Rattle.shm_queue.specs.Receive.{Control.{receive_parts, receive_steered}, receive_plan}
use Rattle.shm_queue.specs.{Send.{Control.{send_parts, send_steered}, send_plan}, Proved.Drain.Laws.drain_laws}
use Rattle.shm_queue.specs.Proved.{Peek.Laws.peek_laws, Receive.Laws.receive_laws, Send.Laws.send_laws}
use Rattle.shm_queue.specs.Proved.Take.Laws.{take_laws}
use Rattle.shm_singles.specs.declared.{part.{Part.Part, PartAnswer.PartAnswer}, script.ScriptState.ScriptState}
use Rattle.shm_singles.specs.Scripts.{is_first}
use Rattle.shm_singles.specs.Steps.{Latches, LatchesAnswer, Lives, LivesAnswer, Queues, QueuesAnswer, Roots, RootsAnswer, Words, WordsAnswer, latches_control, lives_control, queues_control, roots_control, words_control}
use Rattle.shm_singles.specs.declared.part.Part.TheVariants as group
use Rattle.shm_singles.specs.declared.part.PartAnswer.TheVariants as answer
use Rattle.shm_shared.proofs.Lives.{lives_laws, lives_part}

-- ---- states and answers

abbrev pub Nest : Type 0
Nest = Or (Or Lives AllocState) (Or (Or Roots Words) (Or Latches Queues))

abbrev pub NestAnswer : Type 0
NestAnswer = Or (Or LivesAnswer (Result Made AllocFault)) (Or (Or RootsAnswer WordsAnswer) (Or LatchesAnswer QueuesAnswer))

abbrev pub in_nest : Part → Nest
in_nest (group.Lives m) = First (First m)
in_nest (group.Alloc m) = First (Second m)
in_nest (group.Roots m) = Second (First (First m))
in_nest (group.Words m) = Second (First (Second m))
in_nest (group.Latches m) = Second (Second (First m))
in_nest (group.Queues m) = Second (Second (Second m))

abbrev pub told_nest : PartAnswer → NestAnswer
told_nest (answer.Lives a) = First (First a)
told_nest (answer.Alloc a) = First (Second a)
told_nest (answer.Roots a) = Second (First (First a))
told_nest (answer.Words a) = Second (First (Second a))
told_nest (answer.Latches a) = Second (Second (First a))
told_nest (answer.Queues a) = Second (Second (Second a))

abbrev pub of_nest : NestAnswer → PartAnswer
of_nest (First (First a)) = answer.Lives a
of_nest (First (Second a)) = answer.Alloc a
of_nest (Second (First (First a))) = answer.Roots a
of_nest (Second (First (Second a))) = answer.Words a
of_nest (Second (Second (First a))) = answer.Latches a
of_nest (Second (Second (Second a))) = answer.Queues a

pub of_told : (a : PartAnswer) → of_nest (told_nest a) ≡ a
of_told (answer.Lives a) = refl
of_told (answer.Alloc a) = refl
of_told (answer.Roots a) = refl
of_told (answer.Words a) = refl
of_told (answer.Latches a) = refl
of_told (answer.Queues a) = refl

abbrev pub nest_control : Control Nest NestAnswer
nest_control = or_control (or_control lives_control alloc_control) (or_control (or_control roots_control words_control) (or_control latches_control queues_control))

-- ---- the parts

abbrev pub roots_part : APart Roots RootsAnswer
roots_part = or_part (calls_part word_control naming_plan) (or_part (calls_part rooting_parts rooting_plan) (calls_part drop_parts drop_plan))

-- the load of the tag of the block
abbrev pub tag_part : ScriptState → APart Word ℕ
tag_part p = word_part (is_first p.point) p.me (Load (p.block + 1)) (WordLoaded (Tag p.block))

abbrev pub words_part : ScriptState → APart Words WordsAnswer
words_part p = or_part (or_part (tag_part p) (calls_part word_control read_plan)) (or_part (calls_part word_control look_plan) (calls_part set_parts set_plan))

abbrev pub latches_part : APart Latches LatchesAnswer
latches_part = or_part (calls_part word_control hold_plan) (calls_part word_control release_plan)

abbrev pub queues_part : APart Queues QueuesAnswer
queues_part = or_part (calls_part send_parts send_plan) (or_part (calls_part receive_parts receive_plan) (calls_part drain_parts drain_plan))

abbrev pub nest_part : ScriptState → APart Nest NestAnswer
nest_part p = or_part (or_part lives_part alloc_part) (or_part (or_part roots_part (words_part p)) (or_part latches_part queues_part))

module _ (first : Bool) where
  roots_laws : PartLaws first roots_control roots_part
  roots_laws =
      or_part_laws first (calls_control word_control naming_steered) (or_control (calls_control rooting_parts rooting_steered) (calls_control drop_parts drop_steered)) (calls_part word_control naming_plan) (or_part (calls_part rooting_parts rooting_plan) (calls_part drop_parts drop_plan))
      (calls_part_laws word_control naming_plan naming_laws first)
      (or_part_laws first (calls_control rooting_parts rooting_steered) (calls_control drop_parts drop_steered) (calls_part rooting_parts rooting_plan) (calls_part drop_parts drop_plan)
      (calls_part_laws rooting_parts rooting_plan rooting_laws first) (calls_part_laws drop_parts drop_plan drop_laws first))

  latches_laws : PartLaws first latches_control latches_part
  latches_laws =
      or_part_laws first (calls_control word_control hold_steered) (calls_control word_control release_steered) (calls_part word_control hold_plan) (calls_part word_control release_plan)
      (calls_part_laws word_control hold_plan hold_laws first) (calls_part_laws word_control release_plan release_laws first)

  queues_laws : PartLaws first queues_control queues_part
  queues_laws =
      or_part_laws first (calls_control send_parts send_steered) (or_control (calls_control receive_parts receive_steered) (calls_control drain_parts drain_steered)) (calls_part send_parts send_plan) (or_part (calls_part receive_parts receive_plan) (calls_part drain_parts drain_plan))
      (calls_part_laws send_parts send_plan send_laws first)
      (or_part_laws first (calls_control receive_parts receive_steered) (calls_control drain_parts drain_steered) (calls_part receive_parts receive_plan) (calls_part drain_parts drain_plan)
      (calls_part_laws receive_parts receive_plan (receive_laws peek_laws take_laws) first) (calls_part_laws drain_parts drain_plan (drain_laws take_laws) first))

words_laws : (p : ScriptState) → PartLaws (is_first p.point) words_control (words_part p)
words_laws p =
    let first : Bool = is_first p.point in
    or_part_laws first (or_control word_control (calls_control word_control read_steered)) (or_control (calls_control word_control look_steered) (calls_control set_parts set_steered)) (or_part (tag_part p) (calls_part word_control read_plan)) (or_part (calls_part word_control look_plan) (calls_part set_parts set_plan))
    (or_part_laws first word_control (calls_control word_control read_steered) (tag_part p) (calls_part word_control read_plan) (word_part_laws first p.me (Load (p.block + 1)) (WordLoaded (Tag p.block))) (calls_part_laws word_control read_plan read_laws first))
    (or_part_laws first (calls_control word_control look_steered) (calls_control set_parts set_steered) (calls_part word_control look_plan) (calls_part set_parts set_plan) (calls_part_laws word_control look_plan look_laws first) (calls_part_laws set_parts set_plan set_laws first))

pub nest_laws : (p : ScriptState) → PartLaws (is_first p.point) nest_control (nest_part p)
nest_laws p =
    let first : Bool = is_first p.point in
    or_part_laws first (or_control lives_control alloc_control) (or_control (or_control roots_control words_control) (or_control latches_control queues_control)) (or_part lives_part alloc_part) (or_part (or_part roots_part (words_part p)) (or_part latches_part queues_part))
    (or_part_laws first lives_control alloc_control lives_part alloc_part (lives_laws first) (alloc_part_laws first))
    (or_part_laws first (or_control roots_control words_control) (or_control latches_control queues_control) (or_part roots_part (words_part p)) (or_part latches_part queues_part)
    (or_part_laws first roots_control words_control roots_part (words_part p) (roots_laws first) (words_laws p))
    (or_part_laws first latches_control queues_control latches_part queues_part (latches_laws first) (queues_laws first)))
