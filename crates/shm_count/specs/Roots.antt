-- count steps at roots, and tear-downs, as they are made before their first word step
use Rattle.std.specs.Prelude.{◌≡◌, ◌≢◌, ℕ, ◌<◌, Bool, true, false, if◌then◌else◌, None, [], ◌∷◌, ◌++◌}
use Rattle.std.specs.List.{Contains, filter}
use Rattle.shm_words.specs.{declared.geometry.Geometry.Geometry, Layout.address}
use Rattle.shm_words.specs.declared.place.Place.TheVariants as place
use Rattle.shm_graph.specs.declared.{ask.Me.Me, memo.{Memo.Memo, Op.TheVariants.Nothing}, spot.Spot.Spot}
use Rattle.shm_graph.specs.{declared.spot.Spot.TheVariants.Root, Spots.same_spot, MemoAfterStore.is_of}
use Rattle.shm_graph.specs.{Reach.{is_named, is_reached}, Views.own_word}
use Rattle.shm_count.specs.declared.point.{Aim.Aim, StepPoint.TheVariants.Era, StepState.StepState}
use Rattle.shm_count.specs.{declared.tear_point.{TearPoint.TheVariants.Begin, TearState.TearState}, Lasting.is_lasting}
use Rattle.shm_count.specs.Tear.Memos.{is_slot_word, Knows}

-- the identity c of a pool of these sizes
abbrev pub member : Geometry → ℕ → Me
member g c = record { geometry = g; who = c }

-- a count step at root k of c, before its first word step
abbrev pub root_step : Geometry → ℕ → ℕ → Aim → StepState
root_step g c k x = record { me = member g c; slot = address g (place.Root c k); aim = x; point = Era }

-- what root k of c holds: 0 or a block
abbrev pub root_word : ℕ → Memo → ℕ → ℕ
root_word c m k = own_word m.own (Root c k)

-- each block that a root of c names is in reach
abbrev pub AreRootsReached : ℕ → Memo → Type 0
AreRootsReached c m = (k b : ℕ) → k < 16 → b ≢ 0 → root_word c m k ≡ b → is_reached c m b ≡ true

-- ---- what is left

-- the memo but its own words, its step in progress, its zero-count blocks, what it knows and has read, its call and its agents
abbrev pub rest : Memo → Memo
rest m = record m { own = []; op = Nothing; looks = []; dying = []; values = []; made = []; known = []; facts = []; zeros = []; test = None; call = []; over = false; agents = [] }

-- What a step down that is done leaves at root k of c, which named t: the root is empty, and t joins the zero-count blocks where its count came to 0. The looks are over; what is known of head slots stays, and of blocks that are named still, but for t where its count came to 0
pub record RootLowered (c k t : ℕ) (z : Bool) (m r : Memo) : Type 0 where
  pub rest : rest r ≡ rest m
  pub op : r.op ≡ Nothing
  pub own : (p : Spot) → is_lasting c p ≡ true → same_spot (Root c k) p ≡ false → own_word r.own p ≡ own_word m.own p
  pub root : root_word c r k ≡ 0
  pub dying : r.dying ≡ m.dying ++ (if z then t ∷ [] else [])
  pub looks : r.looks ≡ []
  pub slots : filter is_slot_word r.known ≡ filter is_slot_word m.known
  pub words : (b : ℕ) (p : Spot) (x : ℕ) → is_named c r b ≡ true → (z ≡ true → b ≢ t) → is_of b p ≡ true → Knows m p x → Knows r p x
  pub values : (b : ℕ) → is_named c r b ≡ true → Contains m.values b → Contains r.values b
