use Rattle.std.proofs.Common.{◌≡◌, ℕ, cond, eqb, ◌&&◌, is_ok, false, List, Result}
use Rattle.std.specs.Prelude.{Ok, Err}
use Rattle.shm_graph.specs.{declared.{ask.Me.Me, memo.Memo.Memo}, Asks.Trail, Events.Event}
use Rattle.shm_count.specs.{declared.{answer.UpFault.UpFault, point.Aim.TheVariants.Up}, Roots.root_word}
use Rattle.shm_count.specs.Step.Machines.{up_told}
use Rattle.shm_ref.specs.RootSteps.{RaiseLeaves, raising}
use Rattle.shm_ref.proofs.RootStepKeeps.{err_same, ok_others, ok_root, queues_after, reached_after, root_after}
use Rattle.shm_ref.proofs.keeping.raise_root_keeps.Goals as goal

after : (me : Me) (k b : ℕ) (r0 r : Memo) (tr : Trail) (es : List Event) (a : Result (Unit {0}) UpFault) → RaiseLeaves (raising me k b) r0 r tr es a → (j : ℕ) → root_word me.who r j ≡ cond (is_ok a && eqb k j) b (root_word me.who r0 j)
after me k b r0 r tr es (Ok u) h j = root_after me (Up b) k r0 r es (Ok false) h.did j
after me k b r0 r tr es (Err f) h j = root_after me (Up b) k r0 r es (Err f) h.did j

pub returns-clause-raised : goal.returns-clause-raised
returns-clause-raised c me k b r0 r tr es a h = ok_root me.who k b r0 r a (after me k b r0 r tr es a h)

pub returns-clause-roots : goal.returns-clause-roots
returns-clause-roots c me k b r0 r tr es a h = ok_others me.who k b r0 r a (after me k b r0 r tr es a h)

pub returns-clause-refused : goal.returns-clause-refused
returns-clause-refused c me k b r0 r tr es a h = err_same me.who k b r0 r a (after me k b r0 r tr es a h)

pub returns-clause-left : goal.returns-clause-left
returns-clause-left c me k b r0 r tr es a h = queues_after me (Up b) k r0 r es (up_told a) h.did

pub returns-clause-reached : goal.returns-clause-reached
returns-clause-reached c me k b r0 r tr es a h idle = reached_after me (Up b) k r0 r es (up_told a) h.did idle
