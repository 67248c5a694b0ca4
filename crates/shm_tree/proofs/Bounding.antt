-- How many word steps lines take at most, by one number for a set or a removal and one for any other line.
use Rattle.std.proofs.Common.{ℕ, ◌+◌, ◌*◌, ◌^◌, ◌<◌, ◌≤◌, Bool, true, false, List, arith, inl, inr}
use Rattle.std.proofs.lemmas.{Bool.cases_lt, Nat.{mul-le, pow_below}}
use Rattle.shm_words.specs.declared.geometry.Geometry.{Geometry}
use Rattle.shm_graph.specs.Bounds.{redo_steps}
use Rattle.shm_tree.specs.{declared.{line.TreeLine.TreeLine, registers.Registers.Registers}, Bounds.drop_steps}
use Rattle.shm_tree.specs.Costing.{call_steps, changed_steps, copy_steps, del_steps, line_steps, other_steps, read_steps, set_steps, sweep_steps}
use Rattle.shm_tree.specs.{Forests.{HasVersions, IsForest, IsInRange, block_at, version}, Trees.{Tree, height, size}}
use Rattle.shm_tree.specs.declared.line.TreeLine.TheVariants as lines
use Rattle.shm_tree.proofs.{Fitting.size_small, Low.low}

redo_few : (b : Bool) → redo_steps b ≤ 2
redo_few true = omega arith
redo_few false = omega arith

-- ---- the sums

module _ (g : Geometry) (h : ℕ) (small : h ≤ 48) where
  square : h * h ≤ 48 * h
  square = mul-le h h 48 h small (omega arith)

  redo : h * redo_steps g.wide ≤ h * 2
  redo = mul-le h (redo_steps g.wide) h 2 (omega arith) (redo_few g.wide)

  sets : set_steps h g + sweep_steps g ≤ changed_steps h g
  sets = let a = square in let b = redo in let c = redo_few g.wide in omega (arith, a, b, c)

  dels : del_steps h g + sweep_steps g ≤ changed_steps h g
  dels = let a = square in let b = redo in let c = redo_few g.wide in omega (arith, a, b, c)

reads : (g : Geometry) (h : ℕ) → read_steps h + sweep_steps g ≤ other_steps h
reads g h = let c = redo_few g.wide in omega (arith, c)

copies : (g : Geometry) (h : ℕ) → copy_steps g + sweep_steps g ≤ other_steps h
copies g h = let c = redo_few g.wide in omega (arith, c)

clears : (g : Geometry) (h : ℕ) → drop_steps g 0 + sweep_steps g ≤ other_steps h
clears g h = let c = redo_few g.wide in omega (arith, c)

-- ---- the heights of versions

-- a tree in a pool has fewer than 2^24 keys
version_low : (f : Registers) (ts : List Tree) → IsForest f → HasVersions f ts → (r : ℕ) → r < 12 → height (version ts r) ≤ 48
version_low f ts x v r lt =
    let t : Tree = version ts r in
    let s = v.each r lt in
    let few = size_small f.pool (block_at f r) t x.working.work.geometry s.stands s.search in
    let high = low t s.balanced in
    let most = mul-le (size t + 1) (size t + 1) (2 ^ 24) (2 ^ 24) (omega (arith, few)) (omega (arith, few)) in
    elim (cases_lt 48 (height t)) [
      | inr le ↦ le
      | inl over ↦ (let up = pow_below 48 (height t) over in absurd (omega (arith, up, high, most)))
    ]

-- ---- lines

-- its calls, and the emptying of all roots beside those of registers
pub line_most : (line : TreeLine) (f : Registers) (ts : List Tree) → IsForest f → IsInRange line → HasVersions f ts → call_steps line ts f.pool.start.geometry + sweep_steps f.pool.start.geometry ≤ line_steps line ts f.pool.start.geometry
line_most (lines.Set to from k n) f ts x lt v = sets f.pool.start.geometry (height (version ts from)) (version_low f ts x v from lt.1)
line_most (lines.Del to from k) f ts x lt v = dels f.pool.start.geometry (height (version ts from)) (version_low f ts x v from lt.1)
line_most (lines.Get at k) f ts x lt v = reads f.pool.start.geometry (height (version ts at))
line_most (lines.Copy to from) f ts x lt v = copies f.pool.start.geometry (height (version ts from))
line_most (lines.Clear at) f ts x lt v = clears f.pool.start.geometry (height (version ts at))
