-- the second half of a change that a recoverer makes, as a plan: what is known before each word step, and what is left
pub mod Control
use Rattle.std.specs.Prelude.{◌≡◌, ◌≢◌, ℕ, ◌+◌, ◌-◌, ◌^◌, ◌<◌, ◌≤◌, ◌⊎◌, true, false, List, [], ◌∷◌, ◌++◌}
use Rattle.std.specs.List.{Contains}
use Rattle.shm_words.specs.{Headers.header_of, Layout.{GeometryFits, total_of}}
use Rattle.shm_graph.specs.declared.{ask.Me.Me, spot.Spot.{Spot, TheVariants.Era}}
use Rattle.shm_graph.specs.declared.memo.{Fact.TheVariants.Header as HeaderRead, Memo.Memo}
use Rattle.shm_graph.specs.declared.memo.Op.TheVariants.{Change, Nothing}
use Rattle.shm_graph.specs.declared.memo.ChangeStage.TheVariants.{Lowering as LoweringStage}
use Rattle.shm_graph.specs.{declared.memo.Second.TheVariants.{Closed, Open}, Agents.recovers, Asks.{Trail, IsWithin}}
use Rattle.shm_graph.specs.{Core.core, Events.{ChangeDown, Event}, Views.own_word}
use Rattle.kind_parts.specs.{Conditions.IsHere, Raising.OwnRowShows}
use Rattle.kind_parts.specs.WordParts.{CountLoaded, EraClosedLowering, FormerLowered, HeaderSeen, RowStored, former_event}
use Rattle.plans.specs.{declared.word.Word.Word, EventWords.event_part, Grown.grown, Parts.Part, Plans.Planned}
use Rattle.plans.specs.Words.{word_part}
use Rattle.shm_count.specs.CommitTest.StepTrail.{read_part}
use Rattle.shm_recover.specs.declared.mend_lower.MendLowerPoint.{MendLowerPoint}
use Rattle.shm_recover.specs.declared.mend_lower.MendLowerPoint.TheVariants.{Header, Row, Show, Exchange, Close}
use Rattle.shm_recover.specs.{declared.mend_lower.MendLowerState.MendLowerState, MendRest.{bare, is_row}}
use Rattle.shm_recover.specs.MendLower.Control.{is_header, lowered, lowering_ask, lowering_steered}

-- a change of a recoverer's identity is at its second half, of era e, and is to take the reference to block a away
pub record MayLowerDead (me : Me) (a e : ℕ) (r : Memo) : Type 0 where
  pub geometry : GeometryFits me.geometry
  pub who : me.who < me.geometry.clients
  pub recoverer : recovers r ≡ true
  pub here : IsHere r
  pub inside : (0 < a) × (a < total_of me.geometry)
  pub era : own_word r.own (Era me.who me.who) ≡ e
  pub small : e < 2 ^ 47
  pub slot : Spot
  pub after : ℕ
  pub op : r.op ≡ Change (LoweringStage Open) slot a after e

-- ---- on the way

-- a header of a counted block, written by a client of the pool
pub record IsCounted (me : Me) (n : ℕ) : Type 0 where
  pub live : (header_of n).live ≡ true
  pub client : (header_of n).client < me.geometry.clients
  pub count : (header_of n).count ≢ 0

-- but for rows the memo is as it was
pub record IsSame (me : Me) (e : ℕ) (r0 r : Memo) (es : List Event) : Type 0 where
  pub rest : core (record r { own = [] }) ≡ core (record r0 { own = [] })
  pub own : (p : Spot) → is_row p ≡ false → own_word r.own p ≡ own_word r0.own p
  pub era : own_word r.own (Era me.who me.who) ≡ e
  pub rows : (j : ℕ) → own_word r0.own (Era me.who j) ≤ own_word r.own (Era me.who j)
  pub none : es ≡ []

-- the header n was found last
pub record HasFound (me : Me) (a e n : ℕ) (r0 r : Memo) (es : List Event) : Type 0 where
  pub may : MayLowerDead me a e r0
  pub same : IsSame me e r0 r es
  pub counted : IsCounted me n
  pub read : Contains r.facts (HeaderRead n)

-- the block has lost the reference
pub record HasLowered (me : Me) (a e : ℕ) (r0 r : Memo) (es : List Event) : Type 0 where
  pub may : MayLowerDead me a e r0
  pub op : r.op ≡ Change (LoweringStage Closed) may.slot a may.after e
  pub rest : bare r ≡ bare r0
  pub latch : r.latch ≡ r0.latch
  pub dying : (r.dying ≡ r0.dying) ⊎ (r.dying ≡ r0.dying ++ a ∷ [])
  pub own : (p : Spot) → is_row p ≡ false → own_word r.own p ≡ own_word r0.own p
  pub era : own_word r.own (Era me.who me.who) ≡ e
  pub rows : (j : ℕ) → own_word r0.own (Era me.who j) ≤ own_word r.own (Era me.who j)
  pub events : es ≡ ChangeDown me.who a ∷ []

abbrev pub LoweringKnows : MendLowerState → MendLowerPoint → Memo → Memo → Trail → List Event → Type 0
LoweringKnows m Header r0 r tr es = MayLowerDead m.me m.block m.era r0 × (r ≡ r0) × (tr ≡ []) × (es ≡ [])
LoweringKnows m Row r0 r tr es = HasFound m.me m.block m.era m.header r0 r es × (m.me.who ≢ (header_of m.header).client) × IsWithin 1 tr
LoweringKnows m Show r0 r tr es = HasFound m.me m.block m.era m.header r0 r es × (m.me.who ≢ (header_of m.header).client) × (own_word r.own (Era m.me.who (header_of m.header).client) ≤ (header_of m.header).era) × IsWithin 2 tr
LoweringKnows m Exchange r0 r tr es = HasFound m.me m.block m.era m.header r0 r es × OwnRowShows m.me.who r (header_of m.header) × IsWithin 3 tr
LoweringKnows m Close r0 r tr es = HasLowered m.me m.block m.era r0 r es × IsWithin 4 tr

-- ---- what it leaves

-- the change is closed and the block has lost the reference, which is the event; it is a zero-count block where its count came to 0; all else is as it was but for the own row, looks and what is known
pub record IsLowered (me : Me) (a e : ℕ) (r0 r : Memo) (tr : Trail) (es : List Event) : Type 0 where
  pub op : r.op ≡ Nothing
  pub rest : bare r ≡ bare r0
  pub latch : r.latch ≡ r0.latch
  pub dying : (r.dying ≡ r0.dying) ⊎ (r.dying ≡ r0.dying ++ a ∷ [])
  pub own : (p : Spot) → is_row p ≡ false → own_word r.own p ≡ own_word r0.own p
  pub rows : (j : ℕ) → own_word r0.own (Era me.who j) ≤ own_word r.own (Era me.who j)
  pub events : es ≡ ChangeDown me.who a ∷ []
  pub bound : IsWithin 5 tr

-- ---- the plan

-- the exchange leaves this of a change that is at the second half
abbrev pub ExchangeFound : Me → ℕ → ℕ → ℕ → Memo → ℕ → Memo → Type 0
ExchangeFound me a e n r k x = FormerLowered me.geometry.wide me.who r.op n (lowered me.who e n) r k x × IsCounted me k

-- what holds after the word step at a point, by the memo before, the word found and the memo
abbrev pub LoweringFound : MendLowerState → MendLowerPoint → Memo → ℕ → Memo → Type 0
LoweringFound m Header r n x = HeaderSeen m.me.geometry m.block r n x × IsCounted m.me n
LoweringFound m Row r n x = CountLoaded m.me.who (Era m.me.who (header_of m.header).client) r n x
LoweringFound m Show r n x = RowStored m.me.who (header_of m.header).client (header_of m.header).era r n x
LoweringFound m Exchange r n x = ExchangeFound m.me m.block m.era m.header r n x
LoweringFound m Close r n x = EraClosedLowering m.me.who r n x

-- the part that the word step at a point is; the exchange is an event
abbrev pub lowering_part : MendLowerState → MendLowerPoint → Part Word ℕ
lowering_part m Exchange = read_part (event_part false m.me (lowering_ask m.me m.block m.era m.header Exchange) (former_event m.me.who m.block m.header) (LoweringFound m Exchange))
lowering_part m y = grown (is_header y) (word_part (is_header y) m.me (lowering_ask m.me m.block m.era m.header y) (LoweringFound m y))

abbrev pub lowering_plan : Planned MendLowerState Word ℕ (Unit {0})
lowering_plan =
    record {
      steered = lowering_steered;
      part = λ m. lowering_part m m.point;
      knows = λ m. LoweringKnows m m.point;
      leaves = λ m r0 r tr es done. IsLowered m.me m.block m.era r0 r tr es;
    }
