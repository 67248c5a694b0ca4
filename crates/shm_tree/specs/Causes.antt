-- Why a line stops: a call of it was refused so.
use Rattle.std.specs.Prelude.{◌≡◌, ℕ, ◌⊎◌, List, [], length, Err}
use Rattle.shm_graph.specs.{declared.memo.Memo.Memo, Asks.Trail, Events.Event}
use Rattle.shm_plain.specs.{Calls.Did, Pools.{IsRun, Pool, memo_of}}
use Rattle.shm_alloc.specs.{declared.{alloc.AllocFault.AllocFault, point.AllocState.AllocState}, Alloc.AllocGives}
use Rattle.shm_alloc.specs.declared.alloc.AllocFault.TheVariants as alloc
use Rattle.shm_count.specs.{declared.answer.{EraSpent.EraSpent, ShareFault.ShareFault}, Roots.member}
use Rattle.shm_count.specs.UpRoot.{UpRootLeaves}
use Rattle.shm_count.specs.declared.answer.ShareFault.TheVariants as share
use Rattle.shm_ref.specs.{declared.answer.SetFault.SetFault, DropRoot.{Control.dropping, DropLeaves}}
use Rattle.shm_ref.specs.SetRef.{Control.setting, SetLeaves}
use Rattle.shm_ref.specs.declared.answer.SetFault.TheVariants as set
use Rattle.shm_tree.specs.{declared.{hints.Hints.Hints, stop.Stop.Stop}, Asking.IsAskedBy}
use Rattle.shm_tree.specs.declared.stop.Stop.TheVariants as stop

-- a call between two moments of a line, to both of which turns led, left this
pub record Within (p q : Pool) (L : Memo → Memo → Trail → List Event → Type 0) : Type 0 where
  pub before : Pool
  pub after : Pool
  pub told : List Event
  pub starts : (before.start ≡ p.start) × (after.start ≡ p.start)
  pub runs : IsRun before × IsRun after
  pub to : (es : List Event) × Did 0 p before es
  pub ran : Did 0 before after told
  pub leaves : L (memo_of before 0) (memo_of after 0) (memo_of after 0).call told
  pub on : (es : List Event) × Did 0 after q es

-- an allocation of a node was refused, whose search began so
abbrev pub AllocRefused : Hints → Pool → Pool → AllocFault → Type 0
AllocRefused hints p q x = (m : AllocState) × (xs : List ℕ) × (length xs ≡ 3) × IsAskedBy hints p.start.geometry xs m × Within p q (λ r0 r tr es. AllocGives m r0 r tr (Err x))

-- the setting of a reference was refused, and nothing was done
abbrev pub SetRefused : Pool → Pool → SetFault → Type 0
SetRefused p q x = (b i c : ℕ) × Within p q (λ r0 r tr es. SetLeaves (setting (member p.start.geometry 0) b i c) r0 r tr es (Err x) × (es ≡ []))

-- a tree got no further root
abbrev pub ShareRefused : Pool → Pool → ShareFault → Type 0
ShareRefused p q x = (b : ℕ) × Within p q (λ r0 r tr es. UpRootLeaves (member p.start.geometry 0) b r0 r tr es (Err x))

-- a root wasn't dropped
abbrev pub DropRefused : Pool → Pool → EraSpent → Type 0
DropRefused p q x = (k : ℕ) × Within p q (λ r0 r tr es. DropLeaves (dropping (member p.start.geometry 0) k) r0 r tr es (Err x))

-- the cause of a stop, but for want of word steps
abbrev pub StopCause : Hints → Pool → Pool → Stop → Type 0
StopCause hints p q stop.Died = Unit {0}
StopCause hints p q (stop.Full s b) = AllocRefused hints p q (alloc.Full s b)
StopCause hints p q (stop.CountFull b c) = SetRefused p q (set.CountFull b c) ⊎ ShareRefused p q (share.CountFull b c)
StopCause hints p q (stop.EraSpent e) = AllocRefused hints p q (alloc.EraSpent e) ⊎ (SetRefused p q (set.EraSpent e) ⊎ (ShareRefused p q (share.EraSpent e) ⊎ DropRefused p q (record { era = e })))
