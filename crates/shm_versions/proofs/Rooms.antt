-- The own era leaves room all along a run of a script: its client makes few word steps.
use Rattle.std.proofs.Common.{ℕ, ◌+◌, ◌<◌, ◌≤◌, ◌^◌, Bool, true, false, List, [], ◌∷◌, sym, subst, ap, arith}
use Rattle.std.specs.List.{AllByRecursion}
use Rattle.shm_graph.specs.{declared.run.Start.Start, Agents.steps_made}
use Rattle.shm_plain.specs.Pools.{IsRun, memo_of}
use Rattle.shm_tree.specs.declared.line.{TreeAnswer.TreeAnswer, TreeLine.TreeLine, TreeTurn.TreeTurn}
use Rattle.shm_tree.specs.{ForestCalls.{IsFirstForest, RanLine}, Forests.{Forested, IsUnspent}}
use Rattle.shm_tree.specs.declared.line.TreeAnswer.TheVariants as answers
use Rattle.shm_tree.specs.declared.line.TreeTurn.TheVariants as turns
use Rattle.shm_tree.proofs.Unspent.{IsOfOne, few_never, few_unspent}
use Rattle.shm_versions.specs.TreeRuns.{HasRoom, IsEnding, IsPlayed, Lines}
use Rattle.shm_versions.proofs.Plays.{lines_spent}

-- how many word steps the client has made
abbrev made_in : Forested → ℕ
made_in f = steps_made (memo_of f.registers.pool 0)

-- turns led to the pool of a forest, whose client is there and began with era 1
record IsTimed (f : Forested) : Type 0 where
  pub run : IsRun f.registers.pool
  pub one : IsOfOne f.registers.pool.start

first_timed : (n : ℕ) (f : Forested) → IsFirstForest n f → IsTimed f
first_timed n f made = record { run = made.run; one = record { who = subst (λ (s : Start). 0 < s.geometry.clients) (sym made.start) (omega arith); first = ap (λ (s : Start). s.first_era) made.start } }

-- and so behind a line
line_timed : (l : TreeLine) (f g : Forested) (x y : ℕ) (t : TreeTurn) → RanLine l f g x y t → IsTimed f → IsTimed g
line_timed l f g x y t r h = record { run = r.went.run; one = subst IsOfOne (sym r.went.start) h.one }

lines_timed : (ls : List TreeLine) (bs : List TreeAnswer) (f g : Forested) (x y : ℕ) → Lines ls bs f x g y → IsTimed f → IsTimed g
lines_timed [] [] f g x y w h = subst IsTimed (sym w.0) h
lines_timed [] (b ∷ bs) f g x y w h = absurd w
lines_timed (l ∷ ls) [] f g x y w h = absurd w
lines_timed (l ∷ ls) (b ∷ bs) f g x y w h = lines_timed ls bs w.0 g w.1 y w.3 (line_timed l f w.0 x w.1 (turns.Done b) w.2 h)

-- a line of a client that makes few word steps
line_room : (l : TreeLine) (f g : Forested) (x y : ℕ) (b : TreeAnswer) → RanLine l f g x y (turns.Done b) → IsTimed f → made_in g ≤ 2 ^ 46 → HasRoom b
line_room l f g x y answers.Ok r h few = tt
line_room l f g x y (answers.Value n) r h few = tt
line_room l f g x y answers.Missing r h few = tt
line_room l f g x y (answers.Full s c) r h few = tt
line_room l f g x y (answers.CountFull c n) r h few = tt
line_room l f g x y (answers.EraSpent e) r h few = few_never f.registers.pool g.registers.pool e r.went.run r.went.start h.one few r.cause

lines_room : (ls : List TreeLine) (bs : List TreeAnswer) (f g : Forested) (x y : ℕ) → Lines ls bs f x g y → IsTimed f → x + made_in f ≤ 2 ^ 46 → AllByRecursion HasRoom bs
lines_room [] [] f g x y w h few = tt
lines_room [] (b ∷ bs) f g x y w h few = absurd w
lines_room (l ∷ ls) [] f g x y w h few = absurd w
lines_room (l ∷ ls) (b ∷ bs) f g x y w h few =
    let spent = w.2.went.spent in
    (line_room l f w.0 x w.1 b w.2 h (omega (arith, spent, few)), lines_room ls bs w.0 g w.1 y w.3 (line_timed l f w.0 x w.1 (turns.Done b) w.2 h) (omega (arith, spent, few)))

timed_unspent : (f : Forested) → IsTimed f → made_in f ≤ 2 ^ 46 → IsUnspent f.registers
timed_unspent f h few = few_unspent f.registers.pool h.run h.one few

ending_unspent : (whole : Bool) (rest : List TreeLine) (last g : Forested) (left : ℕ) → IsEnding whole rest last g left → IsTimed last → left + made_in last ≤ 2 ^ 46 → IsUnspent g.registers
ending_unspent true rest last g left w h few = subst (λ (f : Forested). IsUnspent f.registers) (sym w.same) (timed_unspent last h (omega (arith, few)))
ending_unspent false rest last g left w h few = let spent = w.ran.went.spent in timed_unspent g (line_timed w.line last g left 0 turns.Died w.ran h) (omega (arith, spent, few))

-- behind the last line that was finished, and at the end
pub played_unspent : (n : ℕ) (ls : List TreeLine) (bs : List TreeAnswer) (f g : Forested) (x : ℕ) (whole : Bool) → IsFirstForest n f → x ≤ 2 ^ 40 → (w : IsPlayed ls bs f x g whole) → IsUnspent w.last.registers × IsUnspent g.registers
played_unspent n ls bs f g x whole made low w =
    let h = lines_timed w.done bs f w.last x w.left w.ran (first_timed n f made) in
    let spent = lines_spent w.done bs f w.last x w.left w.ran in
    let first = made.step in
    (timed_unspent w.last h (omega (arith, spent, first, low)), ending_unspent whole w.rest w.last g w.left w.ending h (omega (arith, spent, first, low)))

pub played_room : (n : ℕ) (ls : List TreeLine) (bs : List TreeAnswer) (f g : Forested) (x : ℕ) (whole : Bool) → IsFirstForest n f → x ≤ 2 ^ 40 → IsPlayed ls bs f x g whole → AllByRecursion HasRoom bs
played_room n ls bs f g x whole made low w = let first = made.step in lines_room w.done bs f w.last x w.left w.ran (first_timed n f made) (omega (arith, first, low))
