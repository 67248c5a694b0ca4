-- parts: a machine as larger machines call it, with what it needs at its begin and what it leaves in the end
use Rattle.std.specs.Prelude.{◌≡◌, ℕ, Bool, List, []}
use Rattle.shm_graph.specs.{declared.memo.Memo.Memo, Agents.recovers, Asks.Trail, Events.Event, Laws.Control}
pub use Rattle.shm_graph.specs.Operations.{IsHeld}
use Rattle.shm_graph.specs.Tells.{happens_along, Tells}
use Rattle.plans.specs.Placed.{PlacedLaws}

-- of a machine with states S and answers A: on the way, when it fits, what it gives and which events it tells of; and as it is called, what it needs of the memo before its first word step, and what it leaves, by the memo before, the memo now, what was asked, the events and the answer; what is asked is one of its trails
pub record Part (S A : Type 0) : Type 1 where
  pub fits : S → Memo → Memo → Trail → Type 0
  pub gives : S → Memo → Memo → Trail → A → Type 0
  pub does : S → ℕ → Event
  pub needs : S → Memo → Type 0
  pub leaves : S → Memo → Memo → Trail → List Event → A → Type 0
  pub asks : S → Trail → A → Type 0

module _ {S A : Type 0} (first : Bool) (k : Control S A) (p : Part S A) where
  -- It keeps the invariant where it may stand and tells of its events; it fits where the memo shows what it needs; and where it answers, in a held state and with the agent that it had, it leaves what it says
  pub record PartLaws : Type 0 where
    pub placed : PlacedLaws first k p.fits p.gives
    pub tells : Tells k p.fits p.does
    pub begins : (m : S) (r : Memo) → p.needs m r → p.fits m r r []
    pub ends : (m : S) (rs r : Memo) (t : Trail) (a : A) → p.needs m rs → p.gives m rs r t a → IsHeld (k.me m) r → recovers r ≡ recovers rs → p.leaves m rs r t (happens_along k p.does m t) a
    pub asked : (m : S) (rs r : Memo) (t : Trail) (a : A) → p.needs m rs → p.gives m rs r t a → p.asks m t a

-- a part that needs more, and leaves less
abbrev pub weaker : {S A : Type 0} → Part S A → (S → Memo → Type 0) → (S → Memo → Memo → Trail → List Event → A → Type 0) → Part S A
weaker p needs leaves = record { fits = p.fits; gives = p.gives; does = p.does; needs = needs; leaves = leaves; asks = p.asks }
