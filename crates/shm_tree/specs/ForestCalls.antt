-- What the calls of a forest leave.
use Rattle.std.specs.Prelude.{◌≡◌, ◌≢◌, ℕ, ◌<◌, ◌++◌, false, List, [], replicate, Ok}
use Rattle.shm_graph.specs.{declared.run.Move.Move, Agents.steps_made}
use Rattle.shm_plain.specs.{Calls.Did, Closings.IsClosedRun, Pools.{IsRun, Pool, first_pool, memo_of}}
use Rattle.shm_tree.specs.declared.{hints.Hints.{Hints, TheVariants.Off}, line.{TreeLine.TreeLine, TreeTurn.TreeTurn}}
use Rattle.shm_tree.specs.{Costing.{FewLine, IfEnded, LateLine, SpendsLine, UnlessOk}, CutShort.{IsCutShort, IsWordless}}
use Rattle.shm_tree.specs.{Ending.HasEnded, Forests.{DoesTurn, Forested, HasVersions, IsCaused, IsUnspent, is_died}}
use Rattle.shm_tree.specs.{Keeping.{AreSameLives, is_live}, Living.AreLivesTrees, Trees.{Empty, Tree}, Working.Went}
use Rattle.shm_tree.specs.declared.line.TreeTurn.TheVariants as turns

-- A forest that was made with so many segments, and with or without hints: turns led to its pool, which is of one client, for single calls, with first eras 1; the client joined, by one word step, and did nothing else; its registers are empty, and no block is live
pub record IsBegunForest (hints : Hints) (segments : ℕ) (f : Forested) : Type 0 where
  pub start : f.registers.pool.start ≡ record { geometry = record { clients = 1; segments = segments; wide = false }; first_era = 1; tables = false }
  pub run : IsRun f.registers.pool
  pub joined : Did 0 (first_pool f.registers.pool.start) f.registers.pool []
  pub step : steps_made (memo_of f.registers.pool 0) ≡ 1
  pub empty : HasVersions f.registers (replicate 12 Empty)
  pub none : (b : ℕ) → is_live f.registers.pool b ≡ false
  pub hinted : f.hints ≡ hints
  pub alive : f.died ≡ false

-- one without hints
abbrev pub IsFirstForest : ℕ → Forested → Type 0
IsFirstForest segments f = IsBegunForest Off segments f

-- A line on the forest f, whose client lives, with x word steps left: it leaves the forest g and y word steps, with this turn. Unless the own era is spent a tree stands at each live block, and after each answer but Ok the same blocks are live. It isn't finished only where none is left and it takes one more: one that takes none is finished, of one that had some it is seen that it is cut short, and all but those of its last call are within the bound of a finished line
pub record RanLine (line : TreeLine) (f g : Forested) (x y : ℕ) (turn : TreeTurn) : Type 0 where
  pub went : Went f.registers.pool g.registers.pool x y
  pub does : DoesTurn line f.registers g.registers turn
  pub spends : IfEnded turn (SpendsLine line f.registers g.registers x y)
  pub lives : IfEnded turn (IsUnspent g.registers → AreLivesTrees g.registers.pool)
  pub few : IfEnded turn (IsUnspent g.registers → FewLine line f.registers g.registers)
  pub same : UnlessOk turn (IsUnspent g.registers → AreSameLives f.registers.pool g.registers.pool)
  pub cause : IsCaused f.hints f.registers.pool g.registers.pool turn
  pub over : turn ≡ turns.Died → y ≡ 0
  pub late : turn ≡ turns.Died → LateLine line f.registers g.registers x
  pub wordless : IsUnspent f.registers → (ts : List Tree) → HasVersions f.registers ts → IsWordless line ts → turn ≢ turns.Died
  pub short : turn ≡ turns.Died → IsUnspent f.registers → IsUnspent g.registers → 0 < x → IsCutShort f.hints line f.registers g.registers
  pub hinted : g.hints ≡ f.hints
  pub died : g.died ≡ is_died turn

-- The closed pool q is what the forest f leaves: turns went on from its pool, by which its client left, or was recovered where it had died; the words are clean, and no block is live
pub record IsClosedForest (f : Forested) (q : Pool) : Type 0 where
  pub start : q.start ≡ f.registers.pool.start
  pub closed : IsClosedRun q
  pub turns : List Move
  pub grew : q.turns ≡ f.registers.pool.turns ++ turns
  pub ended : HasEnded f.died f.registers.pool q (Ok tt)
  pub empty : (b : ℕ) → is_live q b ≡ false
