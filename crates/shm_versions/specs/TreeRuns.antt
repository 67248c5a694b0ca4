-- Runs of scripts: a forest is made, lines are run one after the other until one isn't finished, and the pool is closed.
use Rattle.std.specs.Prelude.{◌≡◌, ℕ, ◌^◌, Bool, true, false, List, [], ◌∷◌, ◌++◌, map, replicate, unwrap_or, IfSome}
use Rattle.std.specs.{List.AllByRecursion, Option.is_some}
use Rattle.shm_graph.specs.{References.live_count, Spots.see}
use Rattle.shm_tree.specs.declared.line.{TreeAnswer.TreeAnswer, TreeLine.TreeLine}
use Rattle.shm_tree.specs.ForestCalls.{IsClosedForest, IsFirstForest, RanLine}
use Rattle.shm_tree.specs.{Forests.{Forested, HasVersions, IsAnswered, IsUnspent, versions_by}, Scripts.TreeScripted}
use Rattle.shm_tree.specs.Trees.{Empty, Tree, size}
use Rattle.shm_tree.specs.declared.line.TreeAnswer.TheVariants as answers
use Rattle.shm_tree.specs.declared.line.TreeTurn.TheVariants as turns
use Rattle.shm_versions.specs.declared.treed.{Holding.Holding, Treed.Treed}

-- how many word steps all lines of a script may make: its life, or 2^40
abbrev pub life_of : TreeScripted → ℕ
life_of s = unwrap_or s.life (2 ^ 40)

-- Lines that were run one after the other, from the forest f with x word steps left to g with y left: each was finished with its answer
abbrev pub Lines : List TreeLine → List TreeAnswer → Forested → ℕ → Forested → ℕ → Type 0
Lines [] [] f x g y = (g ≡ f) × (y ≡ x)
Lines (l ∷ ls) (a ∷ bs) f x g y = (h : Forested) × (z : ℕ) × RanLine l f h x z (turns.Done a) × Lines ls bs h z g y
Lines ls bs f x g y = ⊥

-- the versions that lines with these answers make of these
abbrev pub versions_of : List TreeLine → List TreeAnswer → List Tree → List Tree
versions_of (l ∷ ls) (a ∷ bs) ts = versions_of ls bs (versions_by l ts a)
versions_of ls bs ts = ts

-- each answer is one that may come of its line on the versions that stand there
abbrev pub AreAnswered : List TreeLine → List TreeAnswer → List Tree → Type 0
AreAnswered [] [] ts = Unit {0}
AreAnswered (l ∷ ls) (a ∷ bs) ts = IsAnswered l ts a × AreAnswered ls bs (versions_by l ts a)
AreAnswered ls bs ts = ⊥

-- twelve empty versions
abbrev pub first_versions : List Tree
first_versions = replicate 12 Empty

-- a forest with these versions holds this much
pub record ForestHolds (f : Forested) (ts : List Tree) (h : Holding) : Type 0 where
  pub sizes : h.sizes ≡ map size ts
  pub nodes : h.nodes ≡ live_count f.registers.pool.start.geometry (see f.registers.pool.start.geometry f.registers.pool.words)

-- all lines were finished
pub record IsWhole (rest : List TreeLine) (last final : Forested) : Type 0 where
  pub none : rest ≡ []
  pub same : final ≡ last

-- the first of these lines wasn't finished for want of word steps: none is left, and it takes one more
pub record IsCut (rest : List TreeLine) (last final : Forested) (left : ℕ) : Type 0 where
  pub line : TreeLine
  pub more : List TreeLine
  pub cut : rest ≡ line ∷ more
  pub ran : RanLine line last final left 0 turns.Died

-- which of the two it is
abbrev pub IsEnding : Bool → List TreeLine → (last final : Forested) → ℕ → Type 0
IsEnding true rest last final left = IsWhole rest last final
IsEnding false rest last final left = IsCut rest last final left

-- a line wasn't refused since the own era is spent
abbrev pub HasRoom : TreeAnswer → Type 0
HasRoom (answers.EraSpent e) = ⊥
HasRoom answer = Unit {0}

-- Lines were run with these answers, from the forest f with x word steps left, until one wasn't finished or none was left, which leaves the forest g; whether all were finished
pub record IsPlayed (lines : List TreeLine) (answers : List TreeAnswer) (f : Forested) (x : ℕ) (g : Forested) (whole : Bool) : Type 0 where
  pub done : List TreeLine
  pub rest : List TreeLine
  pub all : lines ≡ done ++ rest
  pub last : Forested
  pub left : ℕ
  pub ran : Lines done answers f x last left
  pub ending : IsEnding whole rest last g left

-- What a run of a script leaves: its forest was made, with empty registers; its lines were run until one wasn't finished; the versions behind the lines that were finished are those that the lines make, and each answer is one that may come of its line there; the own era isn't spent, and no line was refused since it is; what is told of the forest is what it held then; and the closed pool is what the last forest leaves
pub record IsTreeRun (s : TreeScripted) (r : Treed) : Type 0 where
  pub first : Forested
  pub made : IsFirstForest s.segments first
  pub final : Forested
  pub played : IsPlayed s.lines r.answers.items first (life_of s) final (is_some r.holding)
  pub versions : HasVersions played.last.registers (versions_of played.done r.answers.items first_versions)
  pub answered : AreAnswered played.done r.answers.items first_versions
  pub holding : IfSome r.holding (ForestHolds played.last (versions_of played.done r.answers.items first_versions))
  pub roomy : IsUnspent played.last.registers × IsUnspent final.registers
  pub unspent : AllByRecursion HasRoom r.answers.items
  pub closed : IsClosedForest final r.closed
