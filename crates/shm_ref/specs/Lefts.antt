-- what is left of a memo once roots of its identity came to be empty
use Rattle.std.specs.Prelude.{◌≡◌, ℕ, zero, suc, ◌<◌, ◌≤◌, ◌⊎◌, Bool, true, false, ◌&&◌, ◌==◌, List, [], ◌∷◌, ◌++◌}
use Rattle.shm_words.specs.Layout.{GeometryFits}
use Rattle.shm_graph.specs.declared.{ask.Me.Me, spot.Spot.{Spot, TheVariants.{Era, Root}}, memo.Memo.Memo}
use Rattle.shm_graph.specs.{declared.memo.Op.TheVariants.Nothing, Events.Event, Views.own_word}
use Rattle.shm_graph.specs.Events as event
use Rattle.kind_parts.specs.Conditions.{IsHere}
use Rattle.shm_count.specs.{Lowering.StoppedAt, Roots.{rest, root_word}, Tear.Events.{Visit, Walks}, Lasting.is_lasting}

-- a root of c among those that may come to be empty
abbrev pub is_root_of : ℕ → (ℕ → Bool) → Spot → Bool
is_root_of c e (Root d j) = (c == d) && e j
is_root_of c e p = false

-- roots among e came to be empty, no step is in progress, and nothing else of the identity changed but its zero-count blocks, what it knows and has read, its redo record and its row, which grew
pub record Left (c : ℕ) (e : ℕ → Bool) (m r : Memo) : Type 0 where
  pub rest : rest r ≡ rest m
  pub op : r.op ≡ Nothing
  pub own : (p : Spot) → is_lasting c p ≡ true → is_root_of c e p ≡ false → own_word r.own p ≡ own_word m.own p
  pub roots : (j : ℕ) → (root_word c r j ≡ 0) ⊎ (root_word c r j ≡ root_word c m j)
  pub rows : (j : ℕ) → own_word m.own (Era c j) ≤ own_word r.own (Era c j)

-- no step is in progress, so that roots of it may be dropped
pub record MayDrop (me : Me) (m : Memo) : Type 0 where
  pub geometry : GeometryFits me.geometry
  pub who : me.who < me.geometry.clients
  pub here : IsHere m
  pub idle : m.op ≡ Nothing

-- the events of root k, which held x: none where it was empty, and otherwise the loss of the reference, and where the count came to 0 the walk over the block
abbrev pub RootEvents : ℕ → ℕ → ℕ → List Event → Type 0
RootEvents c k zero es = es ≡ []
RootEvents c k x es = (ds : List Event) × (es ≡ event.Down c (Root c k) x ∷ ds) × ((ds ≡ []) ⊎ Walks c x ds [])

-- the own era left no room for a step down: these blocks joined the zero-count blocks, and are still there
abbrev pub Stopped : Me → Memo → Memo → ℕ → List Visit → Type 0
Stopped = StoppedAt

-- the events of the first n roots, one after the other, which held what the memo says
abbrev pub RootsEvents : ℕ → Memo → ℕ → List Event → Type 0
RootsEvents c m zero es = es ≡ []
RootsEvents c m (suc k) es = (before after : List Event) × (es ≡ before ++ after) × RootsEvents c m k before × RootEvents c k (root_word c m k) after
