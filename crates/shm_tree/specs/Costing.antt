-- What the calls of a line make, how many word steps they take, and what they make live.
use Rattle.std.specs.Prelude.{◌≢◌, ℕ, ◌+◌, ◌*◌, List, Result}
use Rattle.shm_words.specs.declared.geometry.Geometry.{Geometry}
use Rattle.shm_plain.specs.Pools.{Pool, memo_of}
use Rattle.shm_tree.specs.declared.{line.{TreeLine.TreeLine, TreeTurn.TreeTurn}, registers.Registers.Registers, stop.Stop.Stop}
use Rattle.shm_tree.specs.Bounds.{drop_steps, insert_steps, remove_steps, share_steps}
use Rattle.shm_tree.specs.{Forests.{HasVersions, version}, Keeping.HasMade}
use Rattle.shm_tree.specs.{Living.{AreFewNew, AreLivesTrees, KeepsLives}, Spending.{DiesAfter, HasDied, HasSpent}, Trees.{Tree, height}}
use Rattle.shm_tree.specs.Working.{IsSpent}
use Rattle.shm_tree.specs.declared.line.TreeAnswer.TheVariants as answers
use Rattle.shm_tree.specs.declared.line.TreeLine.TheVariants as lines
use Rattle.shm_tree.specs.declared.line.TreeTurn.TheVariants as turns

-- the client came from p to q by itself, of x word steps y are left: at most n blocks were made, and at most c word steps went beside those for blocks that were torn down
pub record Spends (n c : ℕ) (p q : Pool) (x y : ℕ) : Type 0 where
  pub made : HasMade n p q
  pub spent : HasSpent c p q x y

-- and unless the own era is spent a tree stands at each live block that wasn't live before or at which a tree stood
pub record Costs (n c : ℕ) (p q : Pool) (x y : ℕ) : Type 0 where
  pub made : HasMade n p q
  pub spent : HasSpent c p q x y
  pub rests : KeepsLives p q

-- unless the own era is spent, where a tree stood at each live block at most n are live that weren't
abbrev pub MakesFew : ℕ → Pool → Pool → Type 0
MakesFew n p q = (IsSpent (memo_of q 0) → ⊥) → AreLivesTrees p → AreFewNew n p q

-- ---- how many word steps calls take at most

-- a key is looked up in a tree of the height h, under the latch
abbrev pub read_steps : ℕ → ℕ
read_steps h = 5 * h + 10

-- a tree of the height h gets a number at a key, under the latch
abbrev pub planted_steps : ℕ → Geometry → ℕ
planted_steps h g = insert_steps h g + 6

-- a key is taken out of one
abbrev pub pruned_steps : ℕ → Geometry → ℕ
pruned_steps h g = remove_steps h g + 6

-- a tree gets a further root
abbrev pub copied_steps : Geometry → ℕ
copied_steps g = 1 + share_steps g

-- all roots beside those of registers are emptied
abbrev pub sweep_steps : Geometry → ℕ
sweep_steps g = 16 * drop_steps g 0

abbrev pub set_steps : ℕ → Geometry → ℕ
set_steps h g = sweep_steps g + planted_steps h g + drop_steps g 0

abbrev pub del_steps : ℕ → Geometry → ℕ
del_steps h g = sweep_steps g + pruned_steps h g + drop_steps g 0

abbrev pub copy_steps : Geometry → ℕ
copy_steps g = sweep_steps g + copied_steps g + drop_steps g 0

-- ---- lines

-- how many blocks a line makes at most
abbrev pub made_most : TreeLine → List Tree → ℕ
made_most (lines.Set to from k n) ts = height (version ts from) + 3
made_most (lines.Del to from k) ts = 3 * height (version ts from)
made_most line ts = 0

-- how many come to be live that weren't
abbrev pub new_most : TreeLine → List Tree → ℕ
new_most (lines.Set to from k n) ts = height (version ts from) + 1
new_most (lines.Del to from k) ts = 3 * height (version ts from)
new_most line ts = 0

-- how many word steps its calls take, beside those for blocks that are torn down
abbrev pub call_steps : TreeLine → List Tree → Geometry → ℕ
call_steps (lines.Set to from k n) ts g = set_steps (height (version ts from)) g
call_steps (lines.Del to from k) ts g = del_steps (height (version ts from)) g
call_steps (lines.Get at k) ts g = read_steps (height (version ts at))
call_steps (lines.Copy to from) ts g = copy_steps g
call_steps (lines.Clear at) ts g = drop_steps g 0

-- a set or a removal from a tree of the height h takes at most so many, refused or not
abbrev pub changed_steps : ℕ → Geometry → ℕ
changed_steps h g = (5 * h + 4) * (546 * g.segments + 1000) + 2000

-- and any other line
abbrev pub other_steps : ℕ → ℕ
other_steps h = 100 * h + 1000

-- how many word steps a line takes at most, refused or not, beside those for blocks that are torn down
abbrev pub line_steps : TreeLine → List Tree → Geometry → ℕ
line_steps (lines.Set to from k n) ts g = changed_steps (height (version ts from)) g
line_steps (lines.Del to from k) ts g = changed_steps (height (version ts from)) g
line_steps (lines.Get at k) ts g = other_steps (height (version ts at))
line_steps (lines.Copy to from) ts g = other_steps (height (version ts from))
line_steps (lines.Clear at) ts g = other_steps (height (version ts at))

-- what the calls of a line cost that wasn't refused, whichever versions the registers had
abbrev pub CostsLine : TreeLine → Registers → Registers → (x y : ℕ) → Type 0
CostsLine line f g x y = (ts : List Tree) → HasVersions f ts → Costs (made_most line ts) (call_steps line ts f.pool.start.geometry) f.pool g.pool x y

-- and of one that was refused
abbrev pub StopsLine : TreeLine → Registers → Registers → (x y : ℕ) → Type 0
StopsLine line f g x y = (ts : List Tree) → HasVersions f ts → Spends (made_most line ts) (call_steps line ts f.pool.start.geometry) f.pool g.pool x y

-- and of one that was refused, once all roots beside those of registers are emptied
abbrev pub EndsLine : TreeLine → Registers → Registers → (x y : ℕ) → Type 0
EndsLine line f g x y = (ts : List Tree) → HasVersions f ts → Spends (made_most line ts) (call_steps line ts f.pool.start.geometry + sweep_steps f.pool.start.geometry) f.pool g.pool x y

-- where it stopped for want of a word step: how many it had taken when it began its last call, in its own calls or in those that empty roots
abbrev pub DiesLine : {T : Type 0} → TreeLine → Result T Stop → Registers → Registers → ℕ → Type 0
DiesLine line r f g x = (ts : List Tree) → HasVersions f ts → DiesAfter (call_steps line ts f.pool.start.geometry) r f.pool g.pool x

abbrev pub DiesEnding : {T : Type 0} → TreeLine → Result T Stop → Registers → Registers → ℕ → Type 0
DiesEnding line r f g x = (ts : List Tree) → HasVersions f ts → DiesAfter (call_steps line ts f.pool.start.geometry + sweep_steps f.pool.start.geometry) r f.pool g.pool x

-- how many blocks came to be live where it is a set that wasn't refused
abbrev pub FewSet : TreeLine → Registers → Registers → Type 0
FewSet (lines.Set to from k n) f g = (ts : List Tree) → HasVersions f ts → MakesFew (height (version ts from) + 1) f.pool g.pool
FewSet line f g = Unit {0}

-- ---- what came of a line

-- where word steps were left for it
abbrev pub IfEnded : TreeTurn → Type 0 → Type 0
IfEnded turns.Died P = Unit {0}
IfEnded (turns.Done answer) P = P

-- where it was answered, but not by Ok
abbrev pub UnlessOk : TreeTurn → Type 0 → Type 0
UnlessOk turns.Died P = Unit {0}
UnlessOk (turns.Done answer) P = answer ≢ answers.Ok → P

-- how many blocks a line made at most, and how many word steps it took, refused or not
abbrev pub SpendsLine : TreeLine → Registers → Registers → (x y : ℕ) → Type 0
SpendsLine line f g x y = (ts : List Tree) → HasVersions f ts → Spends (made_most line ts) (line_steps line ts f.pool.start.geometry) f.pool g.pool x y

-- how many word steps a line took until it began its last call, where no word step was left for it
abbrev pub LateLine : TreeLine → Registers → Registers → ℕ → Type 0
LateLine line f g x = (ts : List Tree) → HasVersions f ts → HasDied (line_steps line ts f.pool.start.geometry) f.pool g.pool x

-- how many blocks came to be live, refused or not
abbrev pub FewLine : TreeLine → Registers → Registers → Type 0
FewLine line f g = (ts : List Tree) → HasVersions f ts → AreFewNew (new_most line ts) f.pool g.pool
