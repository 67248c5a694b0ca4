-- what the lines of a script for versions cost
use Rattle.std.specs.{Prelude.{◌≡◌, ◌≢◌, ℕ, ◌+◌, ◌<◌, ◌≤◌, false, List, [], ◌∷◌, ◌++◌}, Option.is_some}
use Rattle.shm_count.specs.Tear.Events.{frees}
use Rattle.shm_graph.specs.{Bounds.tear_steps, Events.Event}
use Rattle.shm_plain.specs.{Calls.Did, Pools.{Pool, first_pool}}
use Rattle.shm_tree.specs.{Costing.{line_steps, made_most, new_most}, CutShort.{IsCutShort, IsWordless}}
use Rattle.shm_tree.specs.declared.{hints.Hints.TheVariants.Off, line.{TreeAnswer.TreeAnswer, TreeLine.TreeLine}, registers.Registers.Registers}
use Rattle.shm_tree.specs.{Forests.{HasVersions, versions_by}, Keeping.{AreSameLives, HasMade}}
use Rattle.shm_tree.specs.{Living.{AreFewNew, AreLivesTrees}, Scripts.TreeScripted, Trees.Tree}
use Rattle.shm_tree.specs.declared.line.TreeAnswer.TheVariants as answers
use Rattle.shm_versions.specs.{declared.treed.Treed.Treed, TreeRuns.{first_versions, life_of, versions_of}}

-- A line on these versions that was finished with this answer took the pool p to q, and left y of x word steps. It made so many blocks at most, of which at most so many are live that weren't, and took so many word steps at most, beside those for each block that was freed. At each live block stands a tree; and where it wasn't answered by Ok the same blocks are live
pub record LineCosts (l : TreeLine) (a : TreeAnswer) (ts : List Tree) (p q : Pool) (x y : ℕ) : Type 0 where
  pub made : HasMade (made_most l ts) p q
  pub told : List Event
  pub did : Did 0 p q told
  pub steps : x ≤ y + line_steps l ts p.start.geometry + tear_steps p.start.geometry.wide (frees told)
  pub few : AreFewNew (new_most l ts) p q
  pub trees : AreLivesTrees q
  pub same : a ≢ answers.Ok → AreSameLives p q

-- and so of lines one after the other
abbrev pub LinesCost : List TreeLine → List TreeAnswer → List Tree → Pool → Pool → ℕ → ℕ → Type 0
LinesCost [] [] ts p q x y = (q ≡ p) × (y ≡ x)
LinesCost (l ∷ ls) (a ∷ bs) ts p q x y = (r : Pool) × (z : ℕ) × LineCosts l a ts p r x z × LinesCost ls bs (versions_by l ts a) r q z y
LinesCost ls bs ts p q x y = ⊥

-- the first of these lines was cut off on these versions: it takes a word step, and where one was left for it, it isn't done
pub record IsCutLine (rest : List TreeLine) (ts : List Tree) (last : Pool) (left : ℕ) : Type 0 where
  pub line : TreeLine
  pub more : List TreeLine
  pub is : rest ≡ line ∷ more
  pub before : Registers
  pub after : Registers
  pub pool : before.pool ≡ last
  pub versions : HasVersions before ts
  pub takes : IsWordless line ts → ⊥
  pub short : 0 < left → IsCutShort Off line before after

-- What a run of the script cost: from a pool in which the client had joined its first lines were finished, and where that weren't all the next one was cut off
pub record ScriptCosts (s : TreeScripted) (r : Treed) : Type 0 where
  pub done : List TreeLine
  pub rest : List TreeLine
  pub all : s.lines ≡ done ++ rest
  pub first : Pool
  pub last : Pool
  pub left : ℕ
  pub joined : Did 0 (first_pool first.start) first []
  pub cost : LinesCost done r.answers.items first_versions first last (life_of s) left
  pub cut : is_some r.holding ≡ false → IsCutLine rest (versions_of done r.answers.items first_versions) last left
