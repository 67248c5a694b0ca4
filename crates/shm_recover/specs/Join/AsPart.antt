-- a join as a part of larger machines; its laws are in proofs/JoinPart
use Rattle.std.specs.Prelude.{◌≡◌, ℕ, List, []}
use Rattle.shm_graph.specs.{declared.memo.Memo.Memo, Asks.Trail, Events.{Event, Nothing}}
use Rattle.plans.specs.Parts.{Part}
use Rattle.shm_recover.specs.{declared.join.JoinState.JoinState, Join.Asks.join_trail}
use Rattle.shm_recover.specs.Join.{CanJoin, JoinFits, JoinGives, join_fresh}

-- no word step of it is an event
abbrev pub join_does : JoinState → ℕ → Event
join_does m n = Nothing

-- it is made, and the identity may join
pub record IsJoin (m : JoinState) (r : Memo) : Type 0 where
  pub made : m ≡ join_fresh m.me
  pub can : CanJoin m.me r

-- the identity is between two calls, with what it had, and nothing happened
pub record JoinLeaves (m : JoinState) (rs r : Memo) (t : Trail) (es : List Event) (a : Unit {0}) : Type 0 where
  pub gives : JoinGives m rs r t a
  pub none : es ≡ []

abbrev pub join_part : Part JoinState (Unit {0})
join_part = record { fits = JoinFits; gives = JoinGives; does = join_does; needs = IsJoin; leaves = JoinLeaves; asks = λ m t a. t ≡ join_trail m.me }
