-- what the words of a pool alone say of the steps in progress: which are committed, what each word names by them, and that the counts are exact
use Rattle.std.specs.Prelude.{◌≡◌, ◌≢◌, ◌⊎◌, ℕ, zero, suc, ◌<◌, ◌%◌, ◌==◌, nat_le, Bool, false, not, ◌&&◌, ◌||◌, if◌then◌else◌, Option, Some}
use Rattle.shm_words.specs.declared.{geometry.Geometry.Geometry, redo.Redo.{Redo, TheVariants.{Up, Down, Change}}}
use Rattle.shm_words.specs.Redos.{redo_of}
use Rattle.shm_graph.specs.{declared.spot.Spot.Spot, Blocks.{IsLive, classes, headers}}
use Rattle.shm_graph.specs.{Ops.{Cover, Quiet, On, indegree, target}, References.words_of, Spots.spot_at}
use Rattle.shm_graph.specs.declared.spot.Spot.TheVariants as spot

-- ---- what is committed

-- the row of another identity shows an era of c that isn't below the own era of c
abbrev pub is_seen_by : (Spot → ℕ) → ℕ → ℕ → Bool
is_seen_by w c k = not (k == c) && nat_le (w (spot.Era c c)) (w (spot.Era k c))

-- one of the first n numbers passes
abbrev pub some_below : ℕ → (ℕ → Bool) → Bool
some_below zero f = false
some_below (suc n) f = some_below n f || f n

-- the step of c at its own era is committed on block b: the header of b shows c at that era, or another identity has seen that era of c
abbrev pub is_committed : Geometry → (Spot → ℕ) → ℕ → ℕ → Bool
is_committed g w c b = let h = headers w b in (h.live && ((h.client == c) && (h.era == w (spot.Era c c)))) || some_below g.clients (is_seen_by w c)

-- a change whose record has this bit is in its first half at this own era
abbrev pub is_first_half : Bool → ℕ → Bool
is_first_half odd e = if odd then e % 2 == 1 else not (e % 2 == 1)

-- the redo record of c, in format 2 by both its words
abbrev pub record_of : Geometry → (Spot → ℕ) → ℕ → Option Redo
record_of g w c = redo_of g.wide (w (spot.Redo c)) (w (spot.RedoMore c))

-- ---- what is named

-- what a committed step makes of its slot, which may not be stored yet
abbrev pub given_by : Geometry → (Spot → ℕ) → ℕ → Option Redo → Cover
given_by g w c (Some (Up p b)) = if is_committed g w c b then On (spot_at g (classes w) p) b else Quiet
given_by g w c (Some (Down p b)) = if is_committed g w c b then On (spot_at g (classes w) p) 0 else Quiet
given_by g w c (Some (Change odd p a b)) = if is_first_half odd (w (spot.Era c c)) && is_committed g w c b then On (spot_at g (classes w) p) b else Quiet
given_by g w c _ = Quiet

-- the block whose count a change has still to lower, or 0
abbrev pub owed_by : Geometry → (Spot → ℕ) → ℕ → Option Redo → ℕ
owed_by g w c (Some (Change odd p a b)) =
    if is_first_half odd (w (spot.Era c c)) then (if is_committed g w c b then a else 0)
    else (if is_committed g w c a then 0 else a)
owed_by g w c _ = 0

-- what a word names: what it holds, where it is a reference word, but for the slots of committed steps
abbrev pub names : Geometry → (Spot → ℕ) → Spot → ℕ
names g w = target g.clients (words_of g.wide w) (λ c. given_by g w c (record_of g w c))

abbrev pub owed : Geometry → (Spot → ℕ) → ℕ → ℕ
owed g w c = owed_by g w c (record_of g w c)

-- ---- what is counted

-- a live block with a count above 0
abbrev pub IsHeld : (Spot → ℕ) → ℕ → Type 0
IsHeld w b = IsLive (headers w) b × ((headers w b).count ≢ 0)

-- each committed step counted once: the count of a live block is the number of words that name it, and of changes that have still to lower it; what is named is live with a count above 0; and what isn't live has the header 0
pub record IsExact (g : Geometry) (w : Spot → ℕ) : Type 0 where
  pub counts : (b : ℕ) → IsLive (headers w) b → (headers w b).count ≡ indegree g (classes w) (names g w) (owed g w) b
  pub named : (p : Spot) → names g w p ≢ 0 → IsHeld w (names g w p)
  pub owing : (c : ℕ) → c < g.clients → owed g w c ≢ 0 → IsHeld w (owed g w c)
  pub free : (b : ℕ) → IsLive (headers w) b ⊎ (w (spot.Head b) ≡ 0)
