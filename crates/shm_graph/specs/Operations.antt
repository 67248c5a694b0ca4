-- operations: when a machine may begin between two calls of its identity, what it leaves, and that it rests
use Rattle.std.specs.Prelude.{◌≡◌, ℕ, ◌<◌, true, false, List, []}
use Rattle.shm_words.specs.Layout.{GeometryFits}
use Rattle.shm_graph.specs.{declared.{ask.Me.Me, memo.Memo.Memo, spot.Spot.Spot}, Asks.Trail, Events.Event, Held.HeldAt}
use Rattle.shm_graph.specs.{Idle.IsIdle, Laws.Control, Tells.{Tells, happens_along}, Views.view}

-- the memo is that of an identity in a held state
abbrev pub IsHeld : Me → Memo → Type 0
IsHeld me m = (w : Spot → ℕ) × (r : ℕ → Memo) × HeldAt me.geometry w (view r) × (r me.who ≡ m)

-- the identity is one of its pool, in a held state, and between two calls
pub record IsReady (me : Me) (r : Memo) : Type 0 where
  pub geometry : GeometryFits me.geometry
  pub who : me.who < me.geometry.clients
  pub held : IsHeld me r
  pub idle : IsIdle me.who r

-- What is owed of an operation: it tells its events; where it may begin it fits, before its first word step; what it gives is what it leaves; and then it is between two calls again
pub record OperationLaws {M A : Type 0} (k : Control M A) (fits : M → Memo → Memo → Trail → Type 0) (gives : M → Memo → Memo → Trail → A → Type 0) (may : M → Memo → Type 0) (does : M → ℕ → Event) (leaves : M → Memo → Memo → Trail → List Event → A → Type 0) (ends : M → A → Type 0) : Type 0 where
  pub tells : Tells k fits does
  pub fresh : (m : M) (r : Memo) → may m r → k.fresh m ≡ true
  pub asks : (m : M) (r : Memo) → may m r → k.finished m ≡ false
  pub begins : (m : M) (r : Memo) → IsReady (k.me m) r → may m r → fits m r r []
  pub leads : (m : M) (r0 r : Memo) (tr : Trail) (a : A) → IsReady (k.me m) r0 → may m r0 → gives m r0 r tr a → leaves m r0 r tr (happens_along k does m tr) a
  pub rests : (m : M) (r0 r : Memo) (tr : Trail) (es : List Event) (a : A) → IsReady (k.me m) r0 → may m r0 → leaves m r0 r tr es a → ends m a → IsIdle (k.me m).who r
