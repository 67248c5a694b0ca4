-- a scan as a plan: what is known before each call, and what is left
pub mod Control
pub mod Words
use Rattle.std.specs.Prelude.{◌≡◌, ℕ, ◌+◌, ◌*◌, ◌/◌, ◌%◌, ◌^◌, ◌<◌, ◌≤◌, ◌⊎◌, ◌-◌, true, Result, Ok, Err, List, [], ◌∷◌, ◌++◌, length}
use Rattle.std.specs.List.{All, Contains}
use Rattle.shm_words.specs.{Classes.IsClass, Layout.bodies}
use Rattle.shm_graph.specs.{Bounds.tear_steps, declared.{ask.Me.Me, spot.Spot.{Spot, TheVariants.Era}}}
use Rattle.shm_graph.specs.declared.memo.{Fact.TheVariants.Class, Memo.Memo, Op.TheVariants.Nothing}
use Rattle.shm_graph.specs.{Asks.{Trail, IsWithin}, Events.Event, Views.own_word}
use Rattle.plans.specs.{Either.or_part, Grown.grown, Parts.Part, Plans.Planned, Words.word_part}
use Rattle.shm_count.specs.{declared.answer.EraSpent.EraSpent, CountParts.tear_part, Roots.rest}
use Rattle.shm_count.specs.{Tear.{Events.{Visit, Walks, frees}, CanTear}, Lasting.is_lasting}
use Rattle.shm_ref.specs.Lefts.{MayDrop}
use Rattle.shm_recover.specs.declared.scan.ScanPoint.{ScanPoint, TheVariants.{Page, Header, Tear}}
use Rattle.shm_recover.specs.declared.scan.ScanState.{ScanState}
use Rattle.shm_recover.specs.Scan.Control.{ScanAnswer, ScanCall, block_at, is_first, place_in, scan_ask, words_before, scan_steered}
use Rattle.shm_recover.specs.Scan.Words.{LostSeen, PageSeen}

-- ---- what is left of the memo

-- nothing of the identity changed but its zero-count blocks, what it knows and has read, its redo record and its row, which grew
pub record Scanned (c : ℕ) (m r : Memo) : Type 0 where
  pub rest : rest r ≡ rest m
  pub op : r.op ≡ Nothing
  pub own : (p : Spot) → is_lasting c p ≡ true → own_word r.own p ≡ own_word m.own p
  pub rows : (j : ℕ) → own_word m.own (Era c j) ≤ own_word r.own (Era c j)

-- ---- the blocks that were found, the last one first

-- no block twice
abbrev pub IsApart : List ℕ → Type 0
IsApart [] = Unit {0}
IsApart (b ∷ bs) = (Contains bs b → ⊥) × IsApart bs

-- their events: one walk after the other
abbrev pub ScanEvents : ℕ → List ℕ → List Event → Type 0
ScanEvents c [] es = es ≡ []
ScanEvents c (b ∷ bs) es = (before after : List Event) × (es ≡ before ++ after) × ScanEvents c bs before × Walks c b after []

-- These blocks were zero-count blocks, each of which was found once; of the others that were so before all are still, and there are no new ones
pub record LostByScan (bs : List ℕ) (m r : Memo) : Type 0 where
  pub found : (b : ℕ) → Contains bs b → Contains m.dying b
  pub apart : IsApart bs
  pub left : (b : ℕ) → Contains r.dying b → Contains m.dying b
  pub others : (b : ℕ) → Contains m.dying b → Contains bs b ⊎ Contains r.dying b

-- ---- on the way

-- n blocks were found before word i of page q of segment s, where no zero-count block is left, and k word steps were made in that page
pub record IsScanning (me : Me) (s q i n k : ℕ) (r0 r : Memo) (tr : Trail) (es : List Event) : Type 0 where
  pub may : MayDrop me r0
  pub segment : s < me.geometry.segments
  pub page : q < 16
  pub scanned : Scanned me.who r0 r
  pub blocks : List ℕ
  pub count : n ≡ length blocks
  pub few : 4 * length blocks ≤ words_before s q i
  pub lost : LostByScan blocks r0 r
  pub behind : (b : ℕ) → Contains blocks b → b < place_in me s q i
  pub ahead : (b : ℕ) → Contains r.dying b → words_before s q i ≤ b - bodies me.geometry
  pub events : ScanEvents me.who blocks es
  pub bound : IsWithin (33 * (16 * s + q) + k + tear_steps me.geometry.wide (frees es)) tr

-- the class k of page q of segment s was read, and word i is the first one of a block
pub record IsIn (s q k i : ℕ) (r : Memo) : Type 0 where
  pub offset : i < 128
  pub class : IsClass k
  pub aligned : i % k ≡ 0
  pub read : Contains r.facts (Class s q k)

abbrev pub ScanKnows : ScanState → ScanPoint → Memo → Memo → Trail → List Event → Type 0
ScanKnows m Page r0 r tr es = IsScanning m.me m.segment m.page 0 m.found 0 r0 r tr es
ScanKnows m Header r0 r tr es = IsScanning m.me m.segment m.page m.offset m.found (1 + m.offset / 4) r0 r tr es × IsIn m.segment m.page m.class m.offset r
ScanKnows m Tear r0 r tr es = ((n : ℕ) × (m.found ≡ n + 1) × IsScanning m.me m.segment m.page m.offset n (2 + m.offset / 4) r0 r tr es) × IsIn m.segment m.page m.class m.offset r × CanTear m.me (block_at m) r

-- ---- what it leaves

-- no zero-count block is left: n were found, each once, which are those before, with their events
pub record ScanDone (me : Me) (n : ℕ) (r0 r : Memo) (tr : Trail) (es : List Event) : Type 0 where
  pub scanned : Scanned me.who r0 r
  pub blocks : List ℕ
  pub count : n ≡ length blocks
  pub apart : IsApart blocks
  pub found : (b : ℕ) → Contains blocks b → Contains r0.dying b
  pub whole : (b : ℕ) → Contains r0.dying b → Contains blocks b
  pub none : r.dying ≡ []
  pub events : ScanEvents me.who blocks es
  pub bound : IsWithin (528 * me.geometry.segments + tear_steps me.geometry.wide (frees es)) tr

-- the own era left no room for a step down: of the zero-count blocks some were found, the others are so still, and these blocks joined them
pub record ScanStopped (me : Me) (r0 r : Memo) (tr : Trail) (es : List Event) (era : ℕ) : Type 0 where
  pub scanned : Scanned me.who r0 r
  pub blocks : List ℕ
  pub vs : List Visit
  pub found : (b : ℕ) → Contains blocks b → Contains r0.dying b
  pub apart : IsApart blocks
  pub others : (b : ℕ) → Contains r0.dying b → Contains blocks b ⊎ Contains r.dying b
  pub stopped : All (λ (v : Visit). Contains r.dying v.block) vs
  pub spent : 2 ^ 47 - 3 < era
  pub most : era ≤ own_word r.own (Era me.who me.who)
  pub bound : IsWithin (528 * me.geometry.segments + tear_steps me.geometry.wide (frees es + length vs)) tr

abbrev pub ScanLeaves : ScanState → Memo → Memo → Trail → List Event → Result ℕ EraSpent → Type 0
ScanLeaves m r0 r tr es (Ok n) = ScanDone m.me n r0 r tr es
ScanLeaves m r0 r tr es (Err e) = ScanStopped m.me r0 r tr es e.era

-- ---- the plan

-- what holds of a memo after the word step at a point, by the word found and the memo before
abbrev pub ScanFound : ScanState → ScanPoint → Memo → ℕ → Memo → Type 0
ScanFound m Page = PageSeen m.me m.segment m.page
ScanFound m y = LostSeen m.me (block_at m)

abbrev pub scan_part : ScanState → ScanPoint → Part ScanCall ScanAnswer
scan_part m y = let first = is_first (record m { point = y }) in grown first (or_part (word_part first m.me (scan_ask m y) (ScanFound m y)) tear_part)

abbrev pub scan_plan : Planned ScanState ScanCall ScanAnswer (Result ℕ EraSpent)
scan_plan =
    record {
      steered = scan_steered;
      part = λ m. scan_part m m.point;
      knows = λ m. ScanKnows m m.point;
      leaves = ScanLeaves;
    }
