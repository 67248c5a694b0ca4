-- the laws of a machine as a part of another one: where it comes first it keeps the invariant in any frame, and otherwise in each frame that isn't the first step of the whole
use Rattle.std.specs.Prelude.{◌≡◌, ℕ, Bool, false}
use Rattle.shm_graph.specs.{declared.{spot.Spot.Spot, memo.Memo.Memo}, Spots.spot_at, Blocks.classes}
use Rattle.shm_graph.specs.{Asks.{Trail, at_of}, Laws.{Control, Frame, Stands, KeptAt, Steady, Inside, Back, Then}}
use Rattle.shm_graph.specs.Mapped.{OnTheWay, AtTheEnd}

-- a frame in which a part may stand
abbrev pub MayStand : Bool → Frame → Type 0
MayStand first f = first ≡ false → f.fresh ≡ false

module _ {S A : Type 0} (first : Bool) (k : Control S A) where
  abbrev pub PlacedKeeps : OnTheWay S → AtTheEnd S A → Type 0
  PlacedKeeps fits gives = (m : S) (r0 : Memo) (tr : Trail) (w : Spot → ℕ) (r : ℕ → Memo) (f : Frame) → k.finished m ≡ false → Stands (k.me m) w r f tr → MayStand first f → fits m r0 (r (k.me m).who) tr
      → KeptAt (k.me m) w r (k.asks m) f (Then k fits gives m r0 tr) (spot_at (k.me m).geometry (classes w) (at_of (k.asks m)))

pub record PlacedLaws {S A : Type 0} (first : Bool) (k : Control S A) (fits : OnTheWay S) (gives : AtTheEnd S A) : Type 0 where
  pub steady : Steady k
  pub inside : Inside k fits
  pub back : Back k gives
  pub keeps : PlacedKeeps first k fits gives
