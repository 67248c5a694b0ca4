use Rattle.std.proofs.{Common.{◌≡◌, ◌≢◌, refl, true, List, None}, lemmas.Bool.false≢true}
use Rattle.shm_graph.specs.{declared.memo.Memo.Memo, Asks.Trail, Events.Event}
use Rattle.kind_parts.specs.Reparting.{map_in}
use Rattle.shm_script.specs.declared.log.Answer.{Answer}
use Rattle.shm_script.specs.declared.log.Answer.TheVariants as answer
use Rattle.shm_table.specs.{declared.get.GetState.GetState, Get.GetLeaves, Refusals.is_refusal, Unlatch.unlatch_trail}
use Rattle.shm_table.proofs.RefusedCommands.{some_not}
use Rattle.shm_table.proofs.refusals.get_refusals.Goals as goal

-- its answers
missing : (m : GetState) (r0 r : Memo) (tr : Trail) (es : List Event) (a : Answer) → is_refusal a ≡ true → GetLeaves m r0 r tr es a → a ≡ answer.Missing
missing m r0 r tr es answer.Missing is h = refl
missing m r0 r tr es answer.Ok is h = absurd (false≢true is)
missing m r0 r tr es (answer.Stored b) is h = absurd (false≢true is)
missing m r0 r tr es (answer.Value x b) is h = absurd (false≢true is)
missing m r0 r tr es _ is h = absurd h

has : (m : GetState) (r0 r : Memo) (tr : Trail) (es : List Event) (a : Answer) → a ≢ answer.Missing → GetLeaves m r0 r tr es a → m.author ≡ m.me.who → map_in r0.part m.key ≢ None
has m r0 r tr es (answer.Value x b) other h own = some_not (map_in r0.part m.key) (x, b) (h.has own)
has m r0 r tr es answer.Missing other h own = absurd (other refl)
has m r0 r tr es _ other h own = absurd h

pub returns-clause-answers : goal.returns-clause-answers
returns-clause-answers c m r0 r tr es a is h = missing m r0 r tr es a is h

pub returns-clause-missing : goal.returns-clause-missing
returns-clause-missing c m r0 r tr es h = (h.absent, h.none)

pub returns-clause-has : goal.returns-clause-has
returns-clause-has c m r0 r tr es a other h own = has m r0 r tr es a other h own

pub returns-clause-ends : goal.returns-clause-ends
returns-clause-ends c m r0 r tr es h = (h.before, h.walk, unlatch_trail m.me m.author, h.home, h.first, h.trail, h.ends)
