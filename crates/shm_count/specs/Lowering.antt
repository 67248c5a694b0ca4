-- a count that came to 0: the tear-down that follows a step which took the last reference to a block
use Rattle.std.proofs.Common.{◌≡◌, ℕ, ◌-◌, ◌^◌, ◌<◌, Bool, false, List, []}
use Rattle.std.specs.{Prelude.{Result, Ok, Err}, List.{All, Contains, filter}}
use Rattle.shm_graph.specs.declared.{ask.Me.Me, spot.Spot.Spot, memo.Memo.Memo}
use Rattle.shm_count.specs.{declared.answer.EraSpent.EraSpent, Slots.{Lost, Took}, Tear.{Events.Visit, is_outside}}

-- the own era left no room for a step down: these blocks joined the zero-count blocks, and are still there
pub record StoppedAt (me : Me) (m r : Memo) (era : ℕ) (vs : List Visit) : Type 0 where
  pub left : All (λ v. Contains r.dying v.block) vs
  pub others : filter (is_outside vs) r.dying ≡ m.dying
  pub spent : 2 ^ 47 - 3 < era

-- what is left once the block was torn down, or the tear-down was stopped
abbrev pub TornLeaves : Me → Spot → Bool → ℕ → ℕ → Memo → Memo → Result (Unit {0}) EraSpent → Type 0
TornLeaves me p h t x m r (Ok done) = Lost me.who p h t x false m r
TornLeaves me p h t x m r (Err e) = Took me.who p h t x false m r × ((vs : List Visit) × StoppedAt me m r e.era vs)
