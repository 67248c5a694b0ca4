use Rattle.std.proofs.Common.{◌≡◌, ℕ}
use Rattle.std.specs.Prelude.{List}
use Rattle.shm_graph.specs.{declared.{ask.Me.Me, memo.Memo.Memo}, Events.Event}
use Rattle.shm_count.specs.Tear.Events.{Visit}
use Rattle.shm_alloc.specs.declared.alloc.AllocFault.{AllocFault, TheVariants.EraSpent}
use Rattle.shm_table.specs.{declared.answer.PutFault.TheVariants.CountFull, Answers.made_fault, OpenTable.OpenLeft}
use Rattle.shm_table.specs.OpenTable.OpenLeft.{Undropped, Unmade, Unnamed}
use Rattle.shm_table.proofs.opening.open_table_tells.Goals as goal

-- no allocation is refused since a count is full
not_full : (a : AllocFault) (b n : ℕ) → CountFull b n ≡ made_fault a → ⊥
not_full (EraSpent e) b n is = cc
not_full _ b n is = cc

never : (me : Me) (r0 r : Memo) (es : List Event) (vs : List Visit) (b n : ℕ) → OpenLeft me r0 r es vs (CountFull b n) → ⊥
never me r0 r es vs b n (Unmade a is cleared home none all) = not_full a b n is
never me r0 r es vs b n (Unnamed e is k d has home told all) = cc
never me r0 r es vs b n (Undropped e is k d free some home others stopped ds told) = cc

pub returns-clause-room : goal.returns-clause-room
returns-clause-room c me r0 r tr es b n h = never me r0 r es h.visits b n h.left
