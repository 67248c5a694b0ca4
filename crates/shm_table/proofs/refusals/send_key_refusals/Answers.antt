use Rattle.std.proofs.{Common.{◌≡◌, ◌≢◌, ap, ◌∙◌, sym, refl, true, List, [], Some, None}, lemmas.Bool.false≢true}
use Rattle.shm_graph.specs.{declared.memo.Memo.Memo, Asks.Trail, Events.Event}
use Rattle.kind_parts.specs.Reparting.{map_in}
use Rattle.shm_script.specs.declared.log.Answer.{Answer}
use Rattle.shm_script.specs.declared.log.Answer.TheVariants as answer
use Rattle.shm_table.specs.{declared.send_key.SendKeyState.SendKeyState, Refusals.is_refusal, SendKey.SendKeyLeaves}
use Rattle.shm_table.proofs.RefusedCommands.{some_not}
use Rattle.shm_table.proofs.refusals.send_key_refusals.Goals as goal

has : (m : SendKeyState) (r0 r : Memo) (tr : Trail) (es : List Event) (a : Answer) → a ≢ answer.Missing → SendKeyLeaves m r0 r tr es a → map_in r0.part m.key ≢ None
has m r0 r tr es answer.Ok other (b, n, h) = some_not (map_in r0.part m.key) (h.has.0, b) h.has.1
has m r0 r tr es (answer.QueueFull x y) other (b, h) = some_not (map_in r0.part m.key) (h.has.0, b) h.has.1
has m r0 r tr es (answer.EraSpent e) other (b, h) = some_not (map_in r0.part m.key) (h.has.0, b) h.has.1
has m r0 r tr es (answer.CountFull d x) other (b, h) = some_not (map_in r0.part m.key) (h.has.0, b) h.has.1
has m r0 r tr es answer.Missing other h = absurd (other refl)
has m r0 r tr es _ other h = absurd h

none : (m : SendKeyState) (r0 r : Memo) (tr : Trail) (es : List Event) (a : Answer) → is_refusal a ≡ true → SendKeyLeaves m r0 r tr es a → es ≡ []
none m r0 r tr es answer.Missing is h = h.none
none m r0 r tr es (answer.QueueFull x y) is (b, h) = h.none
none m r0 r tr es (answer.EraSpent e) is (b, h) = h.none
none m r0 r tr es (answer.CountFull d x) is (b, h) = h.none
none m r0 r tr es answer.Ok is h = absurd (false≢true is)
none m r0 r tr es (answer.Stored b) is h = absurd (false≢true is)
none m r0 r tr es (answer.Value x b) is h = absurd (false≢true is)
none m r0 r tr es _ is h = absurd h

pub returns-clause-answers : goal.returns-clause-answers
returns-clause-answers c m r0 r tr es = (λ h. h, λ s b h. h, λ x h. h)

pub returns-clause-missing : goal.returns-clause-missing
returns-clause-missing c m r0 r tr es h = h.absent refl

pub returns-clause-has : goal.returns-clause-has
returns-clause-has c m r0 r tr es a other h = has m r0 r tr es a other h

pub returns-clause-queue : goal.returns-clause-queue
returns-clause-queue c m r0 r tr es h n (b, x) = x.cause

pub returns-clause-spent : goal.returns-clause-spent
returns-clause-spent c m r0 r tr es e (b, x) = x.cause

pub returns-clause-count : goal.returns-clause-count
returns-clause-count c m r0 r tr es d n (b, x) = ((x.has.0, x.has.1 ∙ ap (λ v. Some (x.has.0, v)) (sym x.cause.0)), x.cause.1)

pub returns-clause-none : goal.returns-clause-none
returns-clause-none c m r0 r tr es a is h = none m r0 r tr es a is h
