-- what commands that bring a value block into the own table share: when they may begin, why they are refused, and what is settled before its root is dropped
use Rattle.std.proofs.Common.{◌≡◌, ◌≢◌, ℕ, ◌^◌, ◌<◌, ◌⊎◌, false, Option, Some, None, List}
use Rattle.shm_words.specs.Layout.{GeometryFits}
use Rattle.shm_graph.specs.{declared.{ask.Me.Me, memo.Memo.Memo, spot.Spot.TheVariants.Home}, Agents.recovers}
use Rattle.shm_graph.specs.{Events.Event, Held.is_loose, Idle.IsIdle, Views.own_word}
use Rattle.kind_parts.specs.Reparting.{map_in}
use Rattle.shm_count.specs.Roots.{root_word}
use Rattle.shm_table.specs.declared.answer.PutFault.{PutFault, TheVariants.{EraSpent, RootsFull, Full, CountFull}}
use Rattle.shm_table.specs.{PutRoot.{IsDecided, IsEraSpent}, Staying.{IsSpent, MapSet, SameMap}}

-- between two calls of a client, in a pool for tables, with no latch
pub record MayCommand (me : Me) (key : ℕ) (r : Memo) : Type 0 where
  pub geometry : GeometryFits me.geometry
  pub who : me.who < me.geometry.clients
  pub idle : IsIdle me.who r
  pub client : recovers r ≡ false
  pub none : r.latch ≡ None
  pub table : is_loose r.part ≡ false
  pub small : key < 2 ^ 32

-- why a command that gives a block a root and then an entry was refused: the own era was spent; all roots but at most one were set; some root was empty; a count was full
abbrev pub CommandCause : Me → Memo → Memo → PutFault → Type 0
CommandCause me m r (EraSpent e) = IsSpent me.who e r
CommandCause me m r RootsFull = (k : ℕ) × ((j : ℕ) → j < 16 → k ≢ j → root_word me.who m j ≢ 0)
CommandCause me m r (Full s b) = (k : ℕ) × (k < 16) × (root_word me.who m k ≡ 0)
CommandCause me m r (CountFull b n) = n ≡ 1023

-- the key has the value block, by such an event; or it was refused for this reason
abbrev pub ValueSo : Me → ℕ → ℕ → ℕ → Memo → Memo → List Event → Option PutFault → Type 0
ValueSo me key n b r0 r es None = MapSet key n b r0 r × (own_word r.own (Home me.who) ≢ 0) × (IsDecided me.who key (own_word r.own (Home me.who)) b es ⊎ ((i : ℕ) × (map_in r0.part key ≡ Some (i, b))))
ValueSo me key n b r0 r es (Some f) = SameMap r0 r × CommandCause me r0 r f

-- but for root k the roots and the zero-count blocks are as they were
abbrev pub AllButRoot : ℕ → ℕ → Memo → Memo → Type 0
AllButRoot c k m r = ((j : ℕ) → k ≢ j → root_word c r j ≡ root_word c m j) × (r.dying ≡ m.dying)

-- they are so, or the own era was spent
abbrev pub RestSo : ℕ → ℕ → Memo → Memo → Option PutFault → Type 0
RestSo c k m r None = AllButRoot c k m r ⊎ ((e : ℕ) × IsSpent c e r)
RestSo c k m r (Some f) = AllButRoot c k m r ⊎ IsEraSpent f
