use Rattle.std.proofs.Common.{◌≡◌, ◌≢◌, ℕ, zero, suc, ◌-◌, ◌^◌, ◌<◌, refl, arith, true, List, [], None}
use Rattle.std.proofs.lemmas.Bool.{false≢true}
use Rattle.shm_graph.specs.{declared.{memo.Memo.Memo, spot.Spot.TheVariants.Era}, Asks.Trail, Events.Event}
use Rattle.shm_graph.specs.Views.{own_word}
use Rattle.kind_parts.specs.Reparting.{map_in}
use Rattle.shm_count.specs.{declared.answer.UpFault.TheVariants.{EraSpent, CountFull}, Slots.StepCause}
use Rattle.shm_script.specs.declared.log.Answer.{Answer}
use Rattle.shm_script.specs.declared.log.Answer.TheVariants as answer
use Rattle.shm_table.specs.{declared.del.DelState.DelState, Del.DelLeaves, Refusals.is_refusal, Unlink.link_aim}
use Rattle.shm_table.proofs.RefusedCommands.{some_not}
use Rattle.shm_table.proofs.refusals.del_refusals.Goals as goal

has : (m : DelState) (r0 r : Memo) (tr : Trail) (es : List Event) (a : Answer) → a ≢ answer.Missing → DelLeaves m r0 r tr es a → map_in r0.part m.key ≢ None
has m r0 r tr es answer.Ok other h = let y = h.1.was in some_not (map_in r0.part m.key) (y.0, y.1) y.2
has m r0 r tr es (answer.EraSpent e) other h = let y = h.1.was in some_not (map_in r0.part m.key) (y.0, y.1) y.2
has m r0 r tr es (answer.CountFull b x) other h = let y = h.1.was in some_not (map_in r0.part m.key) (y.0, y.1) y.2
has m r0 r tr es answer.Missing other h = absurd (other refl)
has m r0 r tr es _ other h = absurd h.1

-- of the step by which the word that led to the entry loses it
spent : (m : DelState) (r0 : Memo) (entry next e : ℕ) → StepCause m.me (link_aim entry next) r0 (EraSpent e) → (e ≡ own_word r0.own (Era m.me.who m.me.who)) × (2 ^ 47 - 4 < e)
spent m r0 entry zero e (is, late) = (is, omega arith)
spent m r0 entry (suc x) e (is, late) = (is, late)

full : (m : DelState) (r0 : Memo) (entry next b n : ℕ) → StepCause m.me (link_aim entry next) r0 (CountFull b n) → (b ≢ 0) × (n ≡ 1023)
full m r0 entry zero b n (most, is, up) = absurd (false≢true up)
full m r0 entry (suc x) b n (most, is, up) = (λ z. absurd (omega (arith, is, z)), most)

none : (m : DelState) (r0 r : Memo) (tr : Trail) (es : List Event) (a : Answer) → is_refusal a ≡ true → DelLeaves m r0 r tr es a → es ≡ []
none m r0 r tr es answer.Missing is h = h.1.none
none m r0 r tr es (answer.EraSpent e) is h = h.1.none
none m r0 r tr es (answer.CountFull b x) is h = h.1.none
none m r0 r tr es answer.Ok is h = absurd (false≢true is)
none m r0 r tr es (answer.Stored b) is h = absurd (false≢true is)
none m r0 r tr es (answer.Value x b) is h = absurd (false≢true is)
none m r0 r tr es _ is h = absurd h.1

pub returns-clause-answers : goal.returns-clause-answers
returns-clause-answers c m r0 r tr es = (λ h. h.1, λ s b h. h.1, λ x y h. h.1, λ x h. h.1)

pub returns-clause-missing : goal.returns-clause-missing
returns-clause-missing c m r0 r tr es h = h.1.absent

pub returns-clause-has : goal.returns-clause-has
returns-clause-has c m r0 r tr es a other h = has m r0 r tr es a other h

pub returns-clause-ends : goal.returns-clause-ends
returns-clause-ends c m r0 r tr es h = let s = h.1.searched in (s.tries, s.search, s.rest, h.1.directory, h.1.first, s.trail, h.1.ends)

pub returns-clause-spent : goal.returns-clause-spent
returns-clause-spent c m r0 r tr es e h = let u = h.1.refusal in spent m r0 h.1.entry u.0 e u.1

pub returns-clause-count : goal.returns-clause-count
returns-clause-count c m r0 r tr es b n h = let u = h.1.refusal in full m r0 h.1.entry u.0 b n u.1

pub returns-clause-none : goal.returns-clause-none
returns-clause-none c m r0 r tr es a is h = none m r0 r tr es a is h
