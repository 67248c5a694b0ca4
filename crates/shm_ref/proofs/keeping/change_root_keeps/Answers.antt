use Rattle.std.proofs.Common.{◌≡◌, ℕ, Bool, true, false, List, Result}
use Rattle.std.specs.{Prelude.{Ok, Err, IfOk}, List.Contains}
use Rattle.shm_graph.specs.{declared.{ask.Me.Me, memo.Memo.Memo, spot.Spot.TheVariants.Root}, Asks.Trail, Events.Event}
use Rattle.shm_count.specs.declared.{answer.UpFault.UpFault, point.Aim.TheVariants.Change}
use Rattle.shm_ref.specs.RootSteps.{ChangeLeaves, changing}
use Rattle.shm_ref.proofs.RootStepKeeps.{err_same, lost_dies, ok_others, ok_root, queues_after, reached_after, root_after}
use Rattle.shm_ref.proofs.keeping.change_root_keeps.Goals as goal

dies : (me : Me) (k b d : ℕ) (r0 r : Memo) (tr : Trail) (es : List Event) (a : Result Bool UpFault) → ChangeLeaves (changing me k b d) r0 r tr es a → IfOk a (λ z. z ≡ true → Contains r.dying b)
dies me k b d r0 r tr es (Ok z) h = lost_dies me.who (Root me.who k) false b d z r0 r h.did.0
dies me k b d r0 r tr es (Err f) h = tt

pub returns-clause-changed : goal.returns-clause-changed
returns-clause-changed c me k b d r0 r tr es a h = ok_root me.who k d r0 r a (root_after me (Change b d) k r0 r es a h.did)

pub returns-clause-roots : goal.returns-clause-roots
returns-clause-roots c me k b d r0 r tr es a h = ok_others me.who k d r0 r a (root_after me (Change b d) k r0 r es a h.did)

pub returns-clause-dying : goal.returns-clause-dying
returns-clause-dying c me k b d r0 r tr es a h = dies me k b d r0 r tr es a h

pub returns-clause-refused : goal.returns-clause-refused
returns-clause-refused c me k b d r0 r tr es a h = err_same me.who k d r0 r a (root_after me (Change b d) k r0 r es a h.did)

pub returns-clause-left : goal.returns-clause-left
returns-clause-left c me k b d r0 r tr es a h = queues_after me (Change b d) k r0 r es a h.did

pub returns-clause-reached : goal.returns-clause-reached
returns-clause-reached c me k b d r0 r tr es a h idle = reached_after me (Change b d) k r0 r es a h.did idle
