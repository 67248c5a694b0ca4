-- A line that isn't finished for want of word steps: what shows that one more was to be made.
use Rattle.std.specs.Prelude.{◌≡◌, ◌≢◌, ℕ, ◌<◌, ◌⊎◌, true, List, Result, IfErr}
use Rattle.shm_tree.specs.declared.{hints.Hints.Hints, line.TreeLine.TreeLine, registers.Registers.Registers}
use Rattle.shm_tree.specs.{declared.stop.Stop.Stop, Building.root_block}
use Rattle.shm_tree.specs.Forests.{HasVersions, IsFree, IsUnspent, MayBeDone, CallStopped, version}
use Rattle.shm_tree.specs.{Trees.{Tree, Empty}, Working.{AreSameRoots, IsUnderWay}}
use Rattle.shm_tree.specs.declared.line.TreeLine.TheVariants as lines
use Rattle.shm_tree.specs.declared.stop.Stop.TheVariants as stop

-- a root in which no register's tree is names a block
pub record HasSpare (g : Registers) : Type 0 where
  pub root : ℕ
  pub low : root < 16
  pub free : IsFree g.roots root
  pub some : root_block g.pool root ≢ 0

-- nothing of a line is done yet that may be done
pub record IsYetToDo (line : TreeLine) (f g : Registers) : Type 0 where
  pub registers : g.roots ≡ f.roots
  pub roots : AreSameRoots f.pool g.pool
  pub may : (ts : List Tree) → HasVersions f ts → MayBeDone line ts

-- a line is not done: the client is in the midst of a call of it or holds its latch, or there is a tree that no register has yet or no longer, or nothing of it is done
abbrev pub IsHalfDone : TreeLine → Registers → Registers → Type 0
IsHalfDone line f g = IsUnderWay g.pool ⊎ (HasSpare g ⊎ IsYetToDo line f g)

-- a call of it was refused
pub record WasRefused (hints : Hints) (f g : Registers) : Type 0 where
  pub why : Stop
  pub other : why ≢ stop.Died
  pub stopped : CallStopped hints f.pool g.pool why

-- it isn't done; or it was refused, and roots beside those of registers are being emptied
abbrev pub IsCutShort : Hints → TreeLine → Registers → Registers → Type 0
IsCutShort hints line f g = IsHalfDone line f g ⊎ WasRefused hints f g

-- a part of a line that stopped for want of a word step, of which there were some: where the registers were tidy and the own era isn't spent it is half done
abbrev pub DiesHalfDone : {T : Type 0} → TreeLine → Result T Stop → Registers → Registers → ℕ → Type 0
DiesHalfDone line r f g x = IfErr r (λ e. e ≡ stop.Died → f.tidy ≡ true → 0 < x → IsUnspent g → IsHalfDone line f g)

-- a line takes no word step: an empty register is emptied, or gets the empty version of another one
abbrev pub IsWordless : TreeLine → List Tree → Type 0
IsWordless (lines.Copy to from) ts = (version ts to ≡ Empty) × (version ts from ≡ Empty)
IsWordless (lines.Clear at) ts = version ts at ≡ Empty
IsWordless line ts = ⊥
