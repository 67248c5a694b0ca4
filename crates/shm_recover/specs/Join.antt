-- joining: the control of a join, when it may begin, and what it leaves
pub mod Asks
pub mod AsPart
use Rattle.std.specs.Prelude.{◌≡◌, ℕ, ◌<◌, ◌⊎◌, Bool, true, false, Some, List, [], ◌∷◌}
use Rattle.shm_words.specs.Layout.{GeometryFits}
use Rattle.shm_graph.specs.{declared.{ask.Me.Me, memo.{Memo.Memo, Status.TheVariants.{Gone, Live, New}}}, Asks.Trail}
use Rattle.shm_graph.specs.{Core.core, Idle.IsIdle, Laws.Control}
use Rattle.shm_recover.specs.declared.join.{JoinPoint.{JoinPoint, TheVariants.{Start, Over}}, JoinState.JoinState}
use Rattle.shm_recover.specs.Join.Asks.{join_ask, join_trail}

-- an identity of a pool whose sizes are in range
pub record IsMember (me : Me) : Type 0 where
  pub geometry : GeometryFits me.geometry
  pub who : me.who < me.geometry.clients

-- a join before its first step
abbrev pub join_fresh : Me → JoinState
join_fresh me = record { me = me; point = Start }

abbrev pub is_start : JoinPoint → Bool
is_start Start = true
is_start Over = false

abbrev pub is_over : JoinPoint → Bool
is_over Start = false
is_over Over = true

-- the bytes of `join`
abbrev pub join_line : List ℕ
join_line = 106 ∷ 111 ∷ 105 ∷ 110 ∷ []

abbrev pub join_control : Control JoinState (Unit {0})
join_control =
    record {
      me = λ m. m.me;
      line = λ m. join_line;
      fresh = λ m. is_start m.point;
      finished = λ m. is_over m.point;
      asks = λ m. join_ask m.me;
      after = λ m n. record { me = m.me; point = Over };
      turns = λ m n. Some tt;
    }

-- the identity may join: it is new or gone
pub record CanJoin (me : Me) (r : Memo) : Type 0 where
  pub member : IsMember me
  pub status : (r.status ≡ New) ⊎ (r.status ≡ Gone)

-- it may join, and before the first step nothing has changed and nothing was asked
pub record JoinFits (m : JoinState) (r0 r : Memo) (tr : Trail) : Type 0 where
  pub can : CanJoin m.me r0
  pub start : m.point ≡ Start → (r ≡ r0) × (tr ≡ [])

-- the identity is between two calls, its status is live and nothing else of its memo changed but for its call, and what was asked is the trail of a join
pub record JoinGives (m : JoinState) (r0 r : Memo) (tr : Trail) (a : Unit {0}) : Type 0 where
  pub idle : IsIdle m.me.who r
  pub rest : core r ≡ core (record r0 { status = Live })
  pub trail : tr ≡ join_trail m.me
