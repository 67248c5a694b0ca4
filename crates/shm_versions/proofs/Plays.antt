-- Lines that are run one after the other: one more of them, what they make of versions, and how many word steps they take.
use Rattle.std.proofs.Common.{◌≡◌, ℕ, zero, suc, ◌+◌, ◌<◌, ◌≤◌, ◌^◌, Bool, true, false, List, [], ◌∷◌, ◌++◌, length, get_or, take, drop, refl, sym, subst, ap, ◌∙◌, arith}
use Rattle.std.proofs.{Math.Seq.drop-cons, lemmas.List.{take-append-drop, take_more}}
use Rattle.std.specs.List.{AllByRecursion}
use Rattle.shm_graph.specs.Agents.{steps_made}
use Rattle.shm_plain.specs.Pools.{memo_of}
use Rattle.shm_tree.specs.declared.line.{TreeAnswer.TreeAnswer, TreeLine.TreeLine}
use Rattle.shm_tree.specs.ForestCalls.{IsFirstForest, RanLine}
use Rattle.shm_tree.specs.{Forests.{Forested, HasVersions, IsInRange, versions_by}, ScriptTexts.LineFits, Trees.Tree}
use Rattle.shm_tree.specs.declared.line.TreeLine.TheVariants as lines
use Rattle.shm_tree.specs.declared.line.TreeTurn.TheVariants as turns
use Rattle.shm_versions.specs.TreeRuns.{AreAnswered, IsPlayed, Lines, versions_of}

pub lines_more : (ls : List TreeLine) (bs : List TreeAnswer) (f g h : Forested) (x y z : ℕ) (l : TreeLine) (b : TreeAnswer) → Lines ls bs f x g y → RanLine l g h y z (turns.Done b) → Lines (ls ++ l ∷ []) (bs ++ b ∷ []) f x h z
lines_more [] [] f g h x y z l b w r = (h, z, subst (λ (e : Forested). RanLine l e h x z (turns.Done b)) w.0 (subst (λ (n : ℕ). RanLine l g h n z (turns.Done b)) w.1 r), (refl, refl))
lines_more [] (c ∷ bs) f g h x y z l b w r = absurd w
lines_more (m ∷ ls) [] f g h x y z l b w r = absurd w
lines_more (m ∷ ls) (c ∷ bs) f g h x y z l b w r = (w.0, w.1, w.2, lines_more ls bs w.0 g h w.1 y z l b w.3 r)

-- a line in its ranges is on registers below 12
pub line_in_range : (l : TreeLine) → LineFits l → IsInRange l
line_in_range (lines.Set a b k n) w = (w.0, w.1)
line_in_range (lines.Del a b k) w = (w.0, w.1)
line_in_range (lines.Get a k) w = w.0
line_in_range (lines.Copy a b) w = w
line_in_range (lines.Clear a) w = w

pub line_at : (ls : List TreeLine) (i : ℕ) (d : TreeLine) → AllByRecursion LineFits ls → i < length ls → IsInRange (get_or ls i d)
line_at [] i d w h = absurd (omega arith)
line_at (l ∷ ls) zero d w h = line_in_range l w.0
line_at (l ∷ ls) (suc i) d w h = line_at ls i d w.1 (omega arith)

-- what the versions are behind lines that were finished, and that their answers are those that may come
pub lines_versions : (ls : List TreeLine) (bs : List TreeAnswer) (f g : Forested) (x y : ℕ) (ts : List Tree) → Lines ls bs f x g y → HasVersions f.registers ts → HasVersions g.registers (versions_of ls bs ts) × AreAnswered ls bs ts
lines_versions [] [] f g x y ts w has = (subst (λ (e : Forested). HasVersions e.registers ts) (sym w.0) has, tt)
lines_versions [] (b ∷ bs) f g x y ts w has = absurd w
lines_versions (l ∷ ls) [] f g x y ts w has = absurd w
lines_versions (l ∷ ls) (b ∷ bs) f g x y ts w has =
    let does = w.2.does ts has in
    let rest = lines_versions ls bs w.0 g w.1 y (versions_by l ts b) w.3 does.1 in
    (rest.0, (does.0, rest.1))

-- each word step of the life that went was one of the client's
pub lines_spent : (ls : List TreeLine) (bs : List TreeAnswer) (f g : Forested) (x y : ℕ) → Lines ls bs f x g y → y + steps_made (memo_of g.registers.pool 0) ≡ x + steps_made (memo_of f.registers.pool 0)
lines_spent [] [] f g x y w = ap (λ (n : ℕ). n + steps_made (memo_of g.registers.pool 0)) w.1 ∙ ap (λ (e : Forested). x + steps_made (memo_of e.registers.pool 0)) w.0
lines_spent [] (b ∷ bs) f g x y w = absurd w
lines_spent (l ∷ ls) [] f g x y w = absurd w
lines_spent (l ∷ ls) (b ∷ bs) f g x y w = lines_spent ls bs w.0 g w.1 y w.3 ∙ w.2.went.spent

-- a line more of these was finished
pub played_more : (ls : List TreeLine) (i : ℕ) (d : TreeLine) (bs cs : List TreeAnswer) (b : TreeAnswer) (f g h : Forested) (x y z : ℕ) → i < length ls → cs ≡ bs ++ b ∷ [] → Lines (take i ls) bs f x g y → RanLine (get_or ls i d) g h y z (turns.Done b) → Lines (take (i + 1) ls) cs f x h z
played_more ls i d bs cs b f g h x y z low e w r =
    let more = lines_more (take i ls) bs f g h x y z (get_or ls i d) b w r in
    subst (λ (us : List TreeLine). Lines us cs f x h z) (sym (take_more ls i d low)) (subst (λ (us : List TreeAnswer). Lines (take i ls ++ get_or ls i d ∷ []) us f x h z) (sym e) more)

-- the next one wasn't
pub played_cut : (ls : List TreeLine) (i : ℕ) (d : TreeLine) (bs : List TreeAnswer) (f g h : Forested) (x y z : ℕ) → i < length ls → Lines (take i ls) bs f x g y → RanLine (get_or ls i d) g h y z turns.Died → IsPlayed ls bs f x h false
played_cut ls i d bs f g h x y z low w r = record {
  done = take i ls;
  rest = drop i ls;
  all = sym (take-append-drop i ls);
  last = g;
  left = y;
  ran = w;
  ending = record { line = get_or ls i d; more = drop (suc i) ls; cut = drop-cons ls i d low; ran = subst (λ (n : ℕ). RanLine (get_or ls i d) g h y n turns.Died) (r.over refl) r };
}

-- the client of a forest that was made makes no more word steps than the life has, and one more
played_steps : (ls : List TreeLine) (bs : List TreeAnswer) (f g : Forested) (x : ℕ) (whole : Bool) → IsPlayed ls bs f x g whole → steps_made (memo_of g.registers.pool 0) ≤ x + steps_made (memo_of f.registers.pool 0)
played_steps ls bs f g x true w =
    let spent = lines_spent w.done bs f w.last x w.left w.ran in
    let same : steps_made (memo_of g.registers.pool 0) ≡ steps_made (memo_of w.last.registers.pool 0) = ap (λ (e : Forested). steps_made (memo_of e.registers.pool 0)) w.ending.same in
    omega (arith, spent, same)
played_steps ls bs f g x false w =
    let spent = lines_spent w.done bs f w.last x w.left w.ran in
    let last = w.ending.ran.went.spent in
    omega (arith, spent, last)

pub played_few : (n : ℕ) (ls : List TreeLine) (bs : List TreeAnswer) (f g : Forested) (x : ℕ) (whole : Bool) → IsFirstForest n f → x ≤ 2 ^ 40 → IsPlayed ls bs f x g whole → steps_made (memo_of g.registers.pool 0) ≤ 2 ^ 46
played_few n ls bs f g x whole made low w =
    let most = played_steps ls bs f g x whole w in
    let first = made.step in
    omega (arith, most, first)
