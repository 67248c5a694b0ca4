use Rattle.std.proofs.Common.{◌≡◌, ℕ, Bool, true, false, cond, eqb, ◌&&◌, is_ok, List, Result}
use Rattle.std.specs.{Prelude.{Ok, Err, IfOk}, List.Contains}
use Rattle.shm_graph.specs.{declared.{ask.Me.Me, memo.Memo.Memo, spot.Spot.TheVariants.Root}, Asks.Trail, Events.Event}
use Rattle.shm_count.specs.{declared.{answer.EraSpent.EraSpent, point.Aim.TheVariants.Down}, Roots.root_word}
use Rattle.shm_count.specs.Step.Machines.{down_told}
use Rattle.shm_count.specs.declared.answer.UpFault.TheVariants as fault
use Rattle.shm_ref.specs.RootSteps.{LowerLeaves, lowering}
use Rattle.shm_ref.proofs.RootStepKeeps.{err_same, lost_dies, ok_others, ok_root, queues_after, reached_after, root_after}
use Rattle.shm_ref.proofs.keeping.lower_root_keeps.Goals as goal

after : (me : Me) (k b : ℕ) (r0 r : Memo) (tr : Trail) (es : List Event) (a : Result Bool EraSpent) → LowerLeaves (lowering me k b) r0 r tr es a → (j : ℕ) → root_word me.who r j ≡ cond (is_ok a && eqb k j) 0 (root_word me.who r0 j)
after me k b r0 r tr es (Ok z) h j = root_after me (Down b) k r0 r es (Ok z) h.did j
after me k b r0 r tr es (Err e) h j = root_after me (Down b) k r0 r es (Err (fault.EraSpent e.era)) h.did j

dies : (me : Me) (k b : ℕ) (r0 r : Memo) (tr : Trail) (es : List Event) (a : Result Bool EraSpent) → LowerLeaves (lowering me k b) r0 r tr es a → IfOk a (λ z. z ≡ true → Contains r.dying b)
dies me k b r0 r tr es (Ok z) h = lost_dies me.who (Root me.who k) false b 0 z r0 r h.did.0
dies me k b r0 r tr es (Err e) h = tt

pub returns-clause-emptied : goal.returns-clause-emptied
returns-clause-emptied c me k b r0 r tr es a h = ok_root me.who k 0 r0 r a (after me k b r0 r tr es a h)

pub returns-clause-roots : goal.returns-clause-roots
returns-clause-roots c me k b r0 r tr es a h = ok_others me.who k 0 r0 r a (after me k b r0 r tr es a h)

pub returns-clause-dying : goal.returns-clause-dying
returns-clause-dying c me k b r0 r tr es a h = dies me k b r0 r tr es a h

pub returns-clause-refused : goal.returns-clause-refused
returns-clause-refused c me k b r0 r tr es a h = err_same me.who k 0 r0 r a (after me k b r0 r tr es a h)

pub returns-clause-left : goal.returns-clause-left
returns-clause-left c me k b r0 r tr es a h = queues_after me (Down b) k r0 r es (down_told a) h.did

pub returns-clause-reached : goal.returns-clause-reached
returns-clause-reached c me k b r0 r tr es a h idle = reached_after me (Down b) k r0 r es (down_told a) h.did idle
