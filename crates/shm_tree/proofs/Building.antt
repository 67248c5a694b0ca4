-- How far a call came that builds a tree, and what it leaves.
use Rattle.shm_tree.specs.declared.{hints.Hints.{Hints, TheVariants.Off}, node.{Content.Content, Pair.Pair, Side.Side}}
use Rattle.shm_tree.specs.{declared.{node.Side.TheVariants.{Left, Right}, stop.Stop.Stop}, Bounds.drop_steps}
use Rattle.shm_tree.specs.Building.{Builds, IsAtHand, IsBuilt, IsCheap, IsCut, IsHeld, IsRebuilt, block_of, root_block, rooms}
use Rattle.shm_tree.specs.{Causes.StopCause, Changing.Changes}
use Rattle.shm_tree.specs.Keeping.{HasGrown, HasMade, HasTree, IsBorn, IsDropped, IsLinked, IsStill, KeepsNodes, KeepsTrees}
use Rattle.shm_tree.specs.{Looking.Looks, Spending.{HasDied, HasSpent}, Standing.TreeStands, Tearing.HasTorn}
use Rattle.shm_tree.specs.Trees.{Tree, Empty, Node}
use Rattle.shm_tree.specs.Working.{AreSameRoots, DiedIn, HasRoom, IfAlive, IfRefused, IsEmptied, IsReached, IsRooted, IsSameLatch, IsWorking, Reaches, Went}
use Rattle.shm_tree.specs.declared.stop.Stop.TheVariants as stop
use Rattle.shm_tree.proofs.Answering.{alive_map, cause_after, cause_by, refused_map}
use Rattle.shm_tree.proofs.{CutOffs.{died_then, look_died, look_then}, Lasts.{last_more, last_then, went_none}}
use Rattle.shm_tree.proofs.{Links.went_then, Nodes.{keeps_then, made_then}}
use Rattle.shm_tree.proofs.Spendings.{spent_call, spent_drop, spent_more, spent_then}
use Rattle.shm_tree.proofs.Weights.{blocks_dropped, blocks_nodes, blocks_then, weight_none, weight_root}
use Rattle.std.proofs.Common.{◌≡◌, ◌≢◌, ◌==◌, ℕ, zero, suc, Bool, true, false, ◌+◌, ◌<◌, ◌≤◌, [], lit≤, refl, sym, ap, ◌∙◌, subst, arith, Result, Ok, Err, inl, inr}
use Rattle.std.proofs.lemmas.Bool.{cases_eq, ne_eqb}
use Rattle.std.specs.{Prelude.{IfOk, IfSome, Option, None, Some}, Result.IsErrAnd}
use Rattle.shm_words.specs.declared.geometry.Geometry.{Geometry}
use Rattle.shm_graph.specs.References.{one_if, sum_below}
use Rattle.shm_plain.specs.Pools.{IsRun, Pool}
use Rattle.shm_plain.proofs.OwnTurns.{did_none}
use Rattle.shm_count.specs.declared.answer.Made.{Made}

-- ---- trees and nodes

-- no tree stands at 0 but the empty one, which stands there anywhere
pub none_stands : (p q : Pool) (b : ℕ) (t : Tree) → b ≡ 0 → TreeStands p b t → TreeStands q b t
none_stands p q b Empty e s = e
none_stands p q b (Node k n l r) e s = absurd (s.0.some e)

tree_kept : (p q : Pool) (b : ℕ) → KeepsTrees p q → HasTree p b → HasTree q b
tree_kept p q b k t = (t.0, k b t.0 t.1)

pub tree_still : {p q : Pool} (b : ℕ) → IsStill p q → HasTree p b → HasTree q b
tree_still {p = p} {q = q} b s t = tree_kept p q b s.trees t

nodes_then : (p q r : Pool) → KeepsNodes p q → KeepsNodes q r → KeepsNodes p r
nodes_then p q r f h b k n i s = keeps_then p q r b k n i (f b k n i s) h

-- ---- one call after another

pub went_on : {p q r : Pool} {x y z : ℕ} → IsRun p → Went p q x y → Went q r y z → Went p r x z
went_on {p = p} {q = q} {r = r} hp a b = went_then p q r _ _ _ hp a b

pub made_more : (n m : ℕ) (p q : Pool) → HasMade n p q → n ≤ m → HasMade m p q
made_more n m p q a h = let few = a.2 in (a.0, a.1, omega (arith, few, h))

-- ---- calls that look

-- what calls that look left, done
pub record Looked (p q : Pool) (x y : ℕ) : Type 0 where
  pub went : Went p q x y
  pub working : IsWorking q
  pub latch : IsSameLatch p q
  pub still : IsStill p q
  pub reaches : Reaches p q

pub looked : {T : Type 0} {v : T} {p q : Pool} {x y : ℕ} → Looks {T = T} (Ok v) p q x y → Looked p q x y
looked h = record { went = h.went; working = h.working; latch = h.latch; still = h.still; reaches = h.reaches }

pub looks_done : {T : Type 0} (v : T) {p q : Pool} {x y : ℕ} → Looked p q x y → Looks {T = T} (Ok v) p q x y
looks_done v h = record { went = h.went; working = h.working; latch = h.latch; still = h.still; reaches = h.reaches; died = tt }

-- one that stopped, as it is handed on
pub looks_from : {S T : Type 0} {p q : Pool} {x y : ℕ} {e : Stop} (o : Result T Stop) → IsErrAnd o (λ v. v ≡ e) → Looks {T = S} (Err e) p q x y → Looks {T = T} o p q x y
looks_from (Ok a) h l = absurd h
looks_from {T = T} {p = p} {q = q} {x = x} {y = y} (Err v) h l = subst (λ (w : Stop). Looks {T = T} (Err w) p q x y) (sym h) (record { went = l.went; working = tt; latch = tt; still = tt; reaches = tt; died = l.died })

-- and after others
pub looks_after : {T : Type 0} {e : Stop} {p q r : Pool} {x y z : ℕ} → IsRun p → Went p q x y → IsSameLatch p q → Looks {T = T} (Err e) q r y z → Looks {T = T} (Err e) p r x z
looks_after {e = e} {p = p} {q = q} {r = r} {z = z} hp went latch l = record { went = went_on hp went l.went; working = tt; latch = tt; still = tt; reaches = tt; died = look_then p q r z e latch l.died }

made_none : (p : Pool) → HasMade 0 p p
made_none p = ([], did_none 0 p p refl, lit≤ tt)

-- the head of a call
pub looked_none : (p : Pool) (x : ℕ) → IsWorking p → Looked p p x x
looked_none p x w =
    record {
      went = went_none p x w;
      working = w;
      latch = refl;
      still =
          record {
            nodes = λ b k n h s. record { node = s; left = refl; right = refl };
            trees = λ b t s. s;
            lives = λ b. refl;
            dying = refl;
            roots = λ k. refl;
            made = made_none p;
          };
      reaches = λ b h. h;
    }

still_then : {p q r : Pool} → IsRun p → IsRun q → q.start ≡ p.start → IsStill p q → IsStill q r → IsStill p r
still_then {p = p} {q = q} {r = r} hp hq start a b =
    record {
      nodes = nodes_then p q r a.nodes b.nodes;
      trees = λ d t s. b.trees d t (a.trees d t s);
      lives = λ d. b.lives d ∙ a.lives d;
      dying = b.dying ∙ a.dying;
      roots = λ k. b.roots k ∙ a.roots k;
      made = made_then 0 0 p q r hp hq start a.made b.made;
    }

pub looked_then : {p q r : Pool} {x y z : ℕ} → IsRun p → Looked p q x y → Looked q r y z → Looked p r x z
looked_then hp a b =
    record {
      went = went_on hp a.went b.went;
      working = b.working;
      latch = b.latch ∙ a.latch;
      still = still_then hp a.went.run a.went.start a.still b.still;
      reaches = λ d h. b.reaches d (a.reaches d h);
    }

-- ---- what only grew

pub still_cut : {p q : Pool} → IsStill p q → IsCut 0 p q
still_cut {p = p} s = record { trees = λ j t low h. s.trees (root_block p j) t h; roots = λ k some. s.roots k; blocks = blocks_nodes s.nodes; made = s.made }

grown_cut : {n : ℕ} {p q : Pool} → HasGrown n p q → IsCut n p q
grown_cut {p = p} g = record { trees = λ j t low h. g.trees (root_block p j) t h; roots = g.roots; blocks = blocks_nodes g.nodes; made = g.made }

pub cut_more : {n : ℕ} {p q : Pool} (m : ℕ) → IsCut n p q → n ≤ m → IsCut m p q
cut_more {n = n} {p = p} {q = q} m a h = record { trees = a.trees; roots = a.roots; blocks = a.blocks; made = made_more n m p q a.made h }

pub cut_then : {n m : ℕ} {p q r : Pool} → IsRun p → IsRun q → q.start ≡ p.start → IsCut n p q → IsCut m q r → IsCut (n + m) p r
cut_then {n = n} {m = m} {p = p} {q = q} {r = r} hp hq start a b =
    record {
      trees =
          λ j t low s. elim (cases_eq (root_block p j) 0) [
            | inl e ↦ none_stands p r (root_block p j) t e s
            | inr e ↦ subst (λ (d : ℕ). TreeStands r d t) (a.roots j e) (b.trees j t low (subst (λ (d : ℕ). TreeStands q d t) (sym (a.roots j e)) (a.trees j t low s)))
          ];
      roots = λ k h. b.roots k (λ e. h (sym (a.roots k h) ∙ e)) ∙ a.roots k h;
      blocks = blocks_then r a b.blocks;
      made = made_then n m p q r hp hq start a.made b.made;
    }

-- ---- stops

-- a call stopped as it is handed on, by what its exit tells
pub builds_from : {hints : Hints} {T : Type 0} {k c : ℕ} {p q : Pool} {x y : ℕ} {e : Stop} (o : Result T Stop) → IsErrAnd o (λ v. v ≡ e) → Builds {T = T} hints k c (Err e) p q x y → Builds {T = T} hints k c o p q x y
builds_from (Ok a) h b = absurd h
builds_from {hints = hints} {T = T} {k = k} {c = c} {p = p} {q = q} {x = x} {y = y} (Err v) h b = subst (λ (w : Stop). Builds {T = T} hints k c (Err w) p q x y) (sym h) b

-- no word step was left for the first call
pub builds_first : {hints : Hints} {S T : Type 0} {k c : ℕ} {p q : Pool} {x y : ℕ} {e : Stop} → Looks {T = S} (Err e) p q x y → (e ≡ stop.Died → HasDied c p q x) → Builds {T = T} hints k c (Err e) p q x y
builds_first {hints = hints} {T = T} {k = k} {c = c} {p = p} {q = q} {x = x} {y = y} l late =
    let d = l.died in
    subst (λ (v : Stop). Builds {T = T} hints k c (Err v) p q x y) (sym d.0) (record { went = l.went; working = tt; latch = tt; refused = tt; spent = tt; cause = tt; died = look_died p q y stop.Died (refl, d.1, d.2); late = λ z. late d.0 })

-- or for one after others
pub builds_died : {hints : Hints} {S T : Type 0} {k a b c : ℕ} {p q r : Pool} {x y z : ℕ} {e : Stop} → a + b ≤ c → IsWorking p → Went p q x y → IsSameLatch p q → HasSpent a p q x y → Looks {T = S} (Err e) q r y z → (e ≡ stop.Died → HasDied b q r y) → Builds {T = T} hints k c (Err e) p r x z
builds_died {b = b} {c = c} le wp went latch spent l late = builds_first (looks_after wp.run went latch l) (λ d. last_more c le (last_then (λ g. b) wp went spent (late d)))

-- a call was refused, or found no word step
pub builds_cut : {hints : Hints} (S : Type 0) (m : ℕ) (b : Geometry → ℕ) {T : Type 0} {n k a c : ℕ} {p q r : Pool} {x y z : ℕ} (e : Stop) → n + m ≤ k → a + b p.start.geometry ≤ c → IsWorking p → Went p q x y → IsSameLatch p q → IsCut n p q → HasSpent a p q x y → Builds {T = S} hints m (b q.start.geometry) (Err e) q r y z → Builds {T = T} hints k c (Err e) p r x z
builds_cut {hints = hints} S m b {T = T} {n = n} {k = k} {a = a} {c = c} {p = p} {q = q} {r = r} {x = x} {y = y} {z = z} e le low wp went latch cut spent h =
    record {
      went = went_on wp.run went h.went;
      working = alive_map S T (IsWorking r) (IsWorking r) e (λ v. v) h.working;
      latch = alive_map S T (IsSameLatch q r) (IsSameLatch p r) e (λ v. v ∙ latch) h.latch;
      refused = refused_map S T (IsCut m q r) (IsCut k p r) e (λ v. cut_more k (cut_then wp.run went.run went.start cut v) le) h.refused;
      spent = alive_map S T (HasSpent (b q.start.geometry) q r y z) (HasSpent c p r x z) e (λ v. spent_more (a + b p.start.geometry) c low (spent_then b wp went h.went spent v)) h.spent;
      cause = cause_after p q r wp.run went.run went.start went.did hints e h.cause;
      died = died_then p q r z e latch h.died;
      late = λ d. last_more c low (last_then b wp went spent (h.late d));
    }

-- at an exit of a call that was refused
pub alive_refused : (S T : Type 0) (P Q : Type 0) (e : Stop) → (P → Q) → IfRefused {T = S} (Err e) P → IfAlive {T = T} (Err e) Q
alive_refused S T P Q stop.Died f h = tt
alive_refused S T P Q (stop.Full s b) f h = f h
alive_refused S T P Q (stop.CountFull b c) f h = f h
alive_refused S T P Q (stop.EraSpent e) f h = f h

-- a call that was refused and tore nothing down
pub spent_refused : (T : Type 0) {p q : Pool} {x y : ℕ} (c : ℕ) (e : Stop) → Went p q x y → IfRefused {T = T} (Err e) (x ≤ y + c) → IfAlive {T = T} (Err e) (HasSpent c p q x y)
spent_refused T {p = p} {q = q} {x = x} {y = y} c e w few = alive_refused T T (x ≤ y + c) (HasSpent c p q x y) e (spent_call c w) few

pub still_cuts : (T : Type 0) (p q : Pool) (e : Stop) → IfRefused {T = T} (Err e) (IsStill p q) → IfRefused {T = T} (Err e) (IsCut 0 p q)
still_cuts T p q e h = refused_map T T (IsStill p q) (IsCut 0 p q) e still_cut h

-- what is said of a refusal, by what is said of a call that came to an end
pub refused_with : (T : Type 0) (P R Q : Type 0) (e : Stop) → (P → R → Q) → IfRefused {T = T} (Err e) P → IfAlive {T = T} (Err e) R → IfRefused {T = T} (Err e) Q
refused_with T P R Q stop.Died f h k = tt
refused_with T P R Q (stop.Full s b) f h k = f h k
refused_with T P R Q (stop.CountFull b c) f h k = f h k
refused_with T P R Q (stop.EraSpent e) f h k = f h k

-- fewer blocks were made
pub cut_made : {n : ℕ} {p q : Pool} (m : ℕ) → IsCut n p q → HasMade m p q → IsCut m p q
cut_made m a h = record { trees = a.trees; roots = a.roots; blocks = a.blocks; made = h }

pub built_made : {n : ℕ} {m : Made} {p q : Pool} (k : ℕ) → IsBuilt n m p q → HasMade k p q → IsBuilt k m p q
built_made k a h = record { rooted = a.rooted; some = a.some; trees = a.trees; blocks = a.blocks; made = h }

-- ---- roots

pub rooted_some : {k b : ℕ} {p q : Pool} (j : ℕ) → IsRooted k b p q → root_block p j ≢ 0 → j ≢ k
rooted_some {p = p} j h some = λ e. some (ap (root_block p) e ∙ h.empty)

-- a root that was taken is another than one that names a block
pub apart : {k b j d : ℕ} {p q r : Pool} → d ≢ 0 → IsRooted j d p q → IsRooted k b q r → k ≢ j
apart {q = q} some under over = λ e. some (sym under.names ∙ (ap (root_block q) (sym e) ∙ over.empty))

-- a root that named what was built below is empty again
rooted_over : {k b j d : ℕ} {p q r s : Pool} → d ≢ 0 → IsRooted j d p q → IsRooted k b q r → IsEmptied j r s → IsRooted k b p s
rooted_over {k = k} {j = j} {p = p} {s = s} some under over gone =
    record {
      low = over.low;
      empty = sym (under.others k (apart some under over)) ∙ over.empty;
      names = gone.others k (apart some under over) ∙ over.names;
      others =
          λ i h. elim (cases_eq i j) [
            | inl e ↦ ap (root_block s) e ∙ (gone.root ∙ (sym under.empty ∙ ap (root_block p) (sym e)))
            | inr e ↦ gone.others i e ∙ (over.others i h ∙ under.others i e)
          ];
    }

-- what was cut stays so where a root that was empty before is emptied
cut_dropped : {n k : ℕ} {p q r : Pool} → IsRun p → IsRun q → q.start ≡ p.start → root_block p k ≡ 0 → IsCut n p q → IsEmptied k q r → IsDropped k q r → IsWorking r → IsCut n p r
cut_dropped {n = n} {k = k} {p = p} {q = q} {r = r} hp hq start none cut gone left work =
    let ne : (j : ℕ) → root_block p j ≢ 0 → j ≢ k = λ j some e. some (ap (root_block p) e ∙ none) in
    record {
      trees =
          λ j t low s. elim (cases_eq (root_block p j) 0) [
            | inl e ↦ none_stands p r (root_block p j) t e s
            | inr e ↦ left.trees j (root_block p j) t (ne j e) low (cut.roots j e) (cut.trees j t low s)
          ];
      roots = λ j some. gone.others j (ne j some) ∙ cut.roots j some;
      blocks = blocks_dropped none cut gone left work;
      made = made_more (n + 0) n p r (made_then n 0 p q r hp hq start cut.made left.made) (omega arith);
    }

-- ---- what was built

pub built_cut : {n : ℕ} {m : Made} {p q : Pool} → IsBuilt n m p q → IsCut n p q
built_cut b = record { trees = b.trees; roots = λ k some. b.rooted.others k (rooted_some k b.rooted some); blocks = b.blocks; made = b.made }

pub born_built : {m : Made} {p q : Pool} → m.block ≢ 0 → IsBorn m p q → IsBuilt 1 m p q
born_built {p = p} some b = record { rooted = b.rooted; some = some; trees = λ j t low s. b.trees (root_block p j) t s; blocks = blocks_nodes b.nodes; made = b.made }

pub built_more : {m : Made} {p q : Pool} (n k : ℕ) → n ≤ k → IsBuilt n m p q → IsBuilt k m p q
built_more {p = p} {q = q} n k h b = record { rooted = b.rooted; some = b.some; trees = b.trees; blocks = b.blocks; made = made_more n k p q b.made h }

-- after calls that read
pub built_after : {n : ℕ} {m : Made} {p q r : Pool} → IsRun p → IsRun q → q.start ≡ p.start → IsStill p q → IsBuilt n m q r → IsBuilt n m p r
built_after {n = n} {m = m} {p = p} {q = q} {r = r} hp hq start a b =
    record {
      rooted = record { low = b.rooted.low; empty = sym (a.roots m.root) ∙ b.rooted.empty; names = b.rooted.names; others = λ j h. b.rooted.others j h ∙ a.roots j };
      some = b.some;
      trees = (cut_then hp hq start (still_cut a) (built_cut b)).trees;
      blocks = (cut_then hp hq start (still_cut a) (built_cut b)).blocks;
      made = made_more (0 + n) n p r (made_then 0 n p q r hp hq start a.made b.made) (omega arith);
    }

-- over what was built below, whose root is empty again
pub built_over : {n k : ℕ} {low m : Made} {p q r s : Pool} → IsRun p → IsRun q → q.start ≡ p.start → IsRun r → r.start ≡ q.start → IsBuilt n low p q → IsBuilt k m q r → IsEmptied low.root r s → IsDropped low.root r s → IsWorking s → IsBuilt (n + k) m p s
built_over hp hq start hr onward a b gone left work =
    let over = cut_dropped hp hr (onward ∙ start) a.rooted.empty (cut_then hp hq start (built_cut a) (built_cut b)) gone left work in
    record {
      rooted = rooted_over a.some a.rooted b.rooted gone;
      some = b.some;
      trees = over.trees;
      blocks = over.blocks;
      made = over.made;
    }

-- what was built stands still once the root below is empty
pub top_stands : {low m : Made} {p q r s : Pool} (t : Tree) → low.block ≢ 0 → IsRooted low.root low.block p q → IsRooted m.root m.block q r → IsDropped low.root r s → TreeStands r m.block t → TreeStands s m.block t
top_stands {m = m} t some under over left h = left.trees m.root m.block t (apart some under over) over.low over.names h

-- a call that was done
pub builds_done : {hints : Hints} {T : Type 0} {n c : ℕ} {p q : Pool} {x y : ℕ} (a : T) → Went p q x y → IsWorking q → IsSameLatch p q → HasSpent c p q x y → Builds {T = T} hints n c (Ok a) p q x y
builds_done a g w l s = record { went = g; working = w; latch = l; refused = tt; spent = s; cause = tt; died = tt; late = tt }

-- one call that builds after another
pub builds_on : {hints : Hints} {S T : Type 0} {m : S} {v : T} {n k a : ℕ} {p q r : Pool} {x y z : ℕ} (b : Geometry → ℕ) → IsWorking p → Builds {T = S} hints n a (Ok m) p q x y → Builds {T = T} hints k (b q.start.geometry) (Ok v) q r y z → Builds {T = T} hints (n + k) (a + b p.start.geometry) (Ok v) p r x z
builds_on b wp l h = builds_done _ (went_on wp.run l.went h.went) h.working (h.latch ∙ l.latch) (spent_then b wp l.went h.went l.spent h.spent)

-- then the root of what it was built of was dropped
pub builds_drop : {hints : Hints} {m : Made} {n a : ℕ} {p q r : Pool} {x y z : ℕ} (k : ℕ) → IsWorking p → Builds hints n a (Ok m) p q x y → Went q r y z → IsWorking r → IsSameLatch q r → (i : ℕ) × HasTorn k i q r × (y ≤ z + drop_steps q.start.geometry i) → Builds hints n (a + drop_steps p.start.geometry 0) (Ok m) p r x z
builds_drop k wp l went w latch few = builds_done _ (went_on wp.run l.went went) w (latch ∙ l.latch) (spent_then (λ g. drop_steps g 0) wp l.went went l.spent (spent_drop k w few))

-- or the drop stopped
pub builds_stuck : {hints : Hints} {m : Made} {n a : ℕ} {p q r : Pool} {x y z : ℕ} (e : Stop) → IsWorking p → Builds hints n a (Ok m) p q x y → IsCut n p q → Went q r y z → IfAlive {T = Unit {0}} (Err e) (IsWorking r) → IfAlive {T = Unit {0}} (Err e) (IsSameLatch q r) → IfRefused {T = Unit {0}} (Err e) (IsStill q r)
    → IfRefused {T = Unit {0}} (Err e) (y ≤ z + drop_steps q.start.geometry 0) → StopCause Off q r e → DiedIn e q r z → (e ≡ stop.Died → HasDied (drop_steps q.start.geometry 0) q r y) → Builds {T = Made} hints n (a + drop_steps p.start.geometry 0) (Err e) p r x z
builds_stuck {hints = hints} {n = n} {a = a} {q = q} {r = r} e wp l cut went w latch still few cause died late =
    builds_cut (Unit {0}) 0 (λ g. drop_steps g 0) {T = Made} {n = n} {k = n} {a = a} e (omega arith) (omega arith) wp l.went l.latch cut l.spent
    (record { went = went; working = w; latch = latch; refused = still_cuts (Unit {0}) _ _ _ still; spent = spent_refused (Unit {0}) _ _ went few; cause = cause_by hints q r e cause; died = died; late = late })

pub alive_kept : {T : Type 0} {P Q : Type 0} (o : Result T Stop) → (P → Q) → IfAlive o P → IfAlive o Q
alive_kept (Ok a) f h = f h
alive_kept {T = T} {P = P} {Q = Q} (Err e) f h = alive_map T T P Q e f h

pub alive_any : {T : Type 0} {P : Type 0} (o : Result T Stop) → P → IfAlive o P
alive_any (Ok a) h = h
alive_any (Err stop.Died) h = tt
alive_any (Err (stop.Full s b)) h = h
alive_any (Err (stop.CountFull b c)) h = h
alive_any (Err (stop.EraSpent e)) h = h

-- at an exit of a call that found no word step
pub alive_over : {T : Type 0} (P : Type 0) {e : Stop} (o : Result T Stop) → IsErrAnd o (λ v. v ≡ e) → e ≡ stop.Died → IfAlive o P
alive_over P (Ok a) h d = absurd h
alive_over {T = T} P (Err v) h d = subst (λ (w : Stop). IfAlive {T = T} (Err w) P) (sym (h ∙ d)) tt

pub ok_kept : {T : Type 0} {P Q : T → Type 0} (o : Result T Stop) → ((a : T) → P a → Q a) → IfOk o P → IfOk o Q
ok_kept (Ok a) f h = f a h
ok_kept (Err e) f h = tt

pub ok_any : {T : Type 0} {P : T → Type 0} (o : Result T Stop) → ((a : T) → P a) → IfOk o P
ok_any (Ok a) h = h a
ok_any (Err e) h = tt

-- a call that builds after calls that read, which took at most so many word steps
pub builds_after : {hints : Hints} {T : Type 0} {c : ℕ} {p q r : Pool} {x y z : ℕ} (n k a : ℕ) (b : Geometry → ℕ) (o : Result T Stop) → n ≤ k → a + b p.start.geometry ≤ c → IsWorking p → Looked p q x y → x ≤ y + a → Builds {T = T} hints n (b q.start.geometry) o q r y z → Builds {T = T} hints k c o p r x z
builds_after {c = c} {p = p} n k a b (Ok v) le low wp l few h = builds_done v (went_on wp.run l.went h.went) h.working (h.latch ∙ l.latch) (spent_more (a + b p.start.geometry) c low (spent_then b wp l.went h.went (spent_call a l.went few) h.spent))
builds_after {T = T} n k a b (Err e) le low wp l few h = builds_cut T n b {T = T} {n = 0} {k = k} {a = a} e (omega arith) low wp l.went l.latch (still_cut l.still) (spent_call a l.went few) h

-- a call that changes something, as one that builds
pub builds_call : {hints : Hints} {T : Type 0} {c : ℕ} {L : Pool → Pool → Type 0} {p q : Pool} {x y : ℕ} (n : ℕ) (o : Result T Stop) → Changes hints c L o p q x y → (L p q → IsCut n p q) → Builds hints n c o p q x y
builds_call {c = c} n (Ok v) h cut = builds_done v h.went h.working h.latch (spent_call c h.went h.steps)
builds_call {T = T} {c = c} {L = L} {p = p} {q = q} {x = x} {y = y} n (Err e) h cut =
    record {
      went = h.went;
      working = h.working;
      latch = h.latch;
      refused = refused_map T T (L p q) (IsCut n p q) e cut h.refused;
      spent = alive_map T T (x ≤ y + c) (HasSpent c p q x y) e (spent_call c h.went) h.steps;
      cause = h.cause;
      died = h.died;
      late = h.late;
    }

-- a call without hints, as one with any
pub builds_by : {hints : Hints} {T : Type 0} {n c : ℕ} {p q : Pool} {x y : ℕ} (o : Result T Stop) → Builds Off n c o p q x y → Builds hints n c o p q x y
builds_by (Ok v) h = record { went = h.went; working = h.working; latch = h.latch; refused = h.refused; spent = h.spent; cause = tt; died = tt; late = tt }
builds_by {hints = hints} {p = p} {q = q} (Err e) h = record { went = h.went; working = h.working; latch = h.latch; refused = h.refused; spent = h.spent; cause = cause_by hints p q e h.cause; died = h.died; late = h.late }

-- a node that was linked
pub builds_link : {hints : Hints} {c : ℕ} {p q : Pool} {x y : ℕ} (o : Result Made Stop) → Changes hints c (HasGrown 1) o p q x y → Builds hints 1 c o p q x y
builds_link o h = builds_call 1 o h grown_cut

pub at_hand_still : {p q : Pool} {x y : ℕ} (b : ℕ) → Looked p q x y → IsAtHand p b → IsAtHand q b
at_hand_still {p = p} {q = q} b l a = (tree_kept p q b l.still.trees a.0, λ some. l.reaches b (a.1 some))

pub at_hand_linked : {c : Content} {s : Side} {trees : Pair} {m : Made} {p q : Pool} (b : ℕ) → IsLinked c s trees m p q → Reaches p q → IsAtHand p b → IsAtHand q b
at_hand_linked {p = p} {q = q} b l h a = (tree_kept p q b l.born.trees a.0, λ some. h b (a.1 some))

-- what a root names is in reach
pub root_reached : (p : Pool) (k b : ℕ) → IsWorking p → k < 16 → root_block p k ≡ b → IsReached p b
root_reached p k b w low e some = w.reached k b low some e

-- what was linked is a node, and at hand
pub linked_some : {c : Content} {s : Side} {trees : Pair} {m : Made} {p q : Pool} → IsLinked c s trees m p q → HasTree p trees.near → HasTree p trees.far → m.block ≢ 0
linked_some {s = Left} l a b = (l.stands a.0 b.0 a.1 b.1).0.some
linked_some {s = Right} l a b = (l.stands a.0 b.0 a.1 b.1).0.some

pub linked_at_hand : {c : Content} {s : Side} {trees : Pair} {m : Made} {p q : Pool} → IsLinked c s trees m p q → HasTree p trees.near → HasTree p trees.far → IsWorking q → IsAtHand q m.block
linked_at_hand {m = m} {q = q} l a b w = ((_, l.stands a.0 b.0 a.1 b.1), root_reached q m.root m.block w l.born.rooted.low l.born.rooted.names)

-- ---- rooms

none_counted : (n : ℕ) → n ≢ 0 → one_if (n == 0) ≡ 0
none_counted n h = ap one_if (ne_eqb n 0 h)

one_at_most : (c : Bool) → one_if c ≤ 1
one_at_most true = lit≤ tt
one_at_most false = lit≤ tt

some_below : (p : Pool) (n : ℕ) → n ≤ 16 → 0 < sum_below n (λ k. one_if (root_block p k == 0)) → HasRoom p
some_below p zero l h = absurd (omega arith)
some_below p (suc n) l h =
    elim (cases_eq (root_block p n) 0) [
      | inl e ↦ (n, omega arith, e)
      | inr d ↦ (let z = none_counted (root_block p n) d in some_below p n (omega arith) (omega arith))
    ]

pub rooms_some : {p : Pool} → IsWorking p → 0 < rooms p → HasRoom p
unfolding rooms
rooms_some {p = p} w h = some_below p 16 (lit≤ tt) h

same_at : (p q : Pool) (j : ℕ) → root_block q j ≡ root_block p j → one_if (root_block q j == 0) ≡ one_if (root_block p j == 0)
same_at p q j e = ap (λ (x : ℕ). one_if (x == 0)) e

before : (k : ℕ) (p q : Pool) (n : ℕ) → ((j : ℕ) → j ≢ k → root_block q j ≡ root_block p j) → n ≤ k → sum_below n (λ j. one_if (root_block q j == 0)) ≡ sum_below n (λ j. one_if (root_block p j == 0))
before k p q zero h l = refl
before k p q (suc n) h l = let a = before k p q n h (omega arith) in let e = same_at p q n (h n (omega arith)) in omega arith

one_less : (k : ℕ) (p q : Pool) (n : ℕ) → ((j : ℕ) → j ≢ k → root_block q j ≡ root_block p j) → sum_below n (λ j. one_if (root_block p j == 0)) ≤ sum_below n (λ j. one_if (root_block q j == 0)) + 1
one_less k p q zero h = lit≤ tt
one_less k p q (suc n) h =
    elim (cases_eq n k) [
      | inl e ↦ (let a = before k p q n h (omega arith) in let o = one_at_most (root_block p n == 0) in omega arith)
      | inr d ↦ (let a = one_less k p q n h in let e = same_at p q n (h n d) in omega arith)
    ]

-- a root that is taken is one room less
pub rooms_rooted : {k b : ℕ} {p q : Pool} → IsRooted k b p q → rooms p ≤ rooms q + 1
unfolding rooms
rooms_rooted {k = k} {p = p} {q = q} h = one_less k p q 16 h.others

same_below : (p q : Pool) (n : ℕ) → AreSameRoots p q → sum_below n (λ j. one_if (root_block q j == 0)) ≡ sum_below n (λ j. one_if (root_block p j == 0))
same_below p q zero h = refl
same_below p q (suc n) h = let a = same_below p q n h in let e = same_at p q n (h n) in omega arith

pub rooms_still : {p q : Pool} → IsStill p q → rooms q ≡ rooms p
unfolding rooms
rooms_still {p = p} {q = q} s = same_below p q 16 s.roots

-- ---- how many blocks were made for two trees

-- after calls that read, where the trees are the same
pub cheap_after : {p q r : Pool} (trees others : Pair) → IsRun p → IsRun q → q.start ≡ p.start → IsStill p q → others.near ≡ trees.near → others.far ≡ trees.far → IsCheap others q r → IsCheap trees p r
cheap_after {p = p} {q = q} {r = r} trees others hp hq start s near far b x y sx sy h =
    let one = b x y (s.trees others.near x (subst (λ (k : ℕ). TreeStands p k x) (sym near) sx)) (s.trees others.far y (subst (λ (k : ℕ). TreeStands p k y) (sym far) sy)) h in
    made_more (0 + 1) 1 p r (made_then 0 1 p q r hp hq start s.made one) (lit≤ tt)

-- and a call after them that makes none
pub cheap_then : {p q r : Pool} (trees : Pair) → IsRun p → IsRun q → q.start ≡ p.start → IsCheap trees p q → HasMade 0 q r → IsCheap trees p r
cheap_then {p = p} {q = q} {r = r} trees hp hq start b none x y sx sy h = made_more (1 + 0) 1 p r (made_then 1 0 p q r hp hq start (b x y sx sy h) none) (lit≤ tt)

-- a node that was linked, or not
pub link_cheap : (c : Content) (s : Side) (trees : Pair) (p q : Pool) (o : Result Made Stop) → IfOk o (λ m. IsLinked c s trees m p q) → IfRefused o (HasGrown 1 p q) → IfAlive o (IsCheap trees p q)
link_cheap c s trees p q (Ok m) l g = λ x y sx sy h. l.born.made
link_cheap c s trees p q (Err stop.Died) l g = tt
link_cheap c s trees p q (Err (stop.Full a b)) l g = λ x y sx sy h. g.made
link_cheap c s trees p q (Err (stop.CountFull a b)) l g = λ x y sx sy h. g.made
link_cheap c s trees p q (Err (stop.EraSpent a)) l g = λ x y sx sy h. g.made

-- ---- what was built again

-- where no tree was below
pub rebuilt_alone : {n : ℕ} {m : Made} {p q : Pool} → IsBuilt n m p q → IsRebuilt n None m p q
rebuilt_alone b =
    record {
      low = b.rooted.low;
      some = b.some;
      empty = b.rooted.empty;
      names = b.rooted.names;
      left = tt;
      others = λ j h o. b.rooted.others j h;
      trees = λ j t low o s. b.trees j t low s;
      blocks = λ f j t low o s. b.blocks f j t low s;
      made = b.made;
    }

-- where the root of the tree below was dropped
pub rebuilt_over : {n : ℕ} {w m : Made} {p q r : Pool} → IsRun p → IsRun q → q.start ≡ p.start → IsHeld p w → IsBuilt n m p q → IsEmptied w.root q r → IsDropped w.root q r → IsWorking r → IsRebuilt n (Some w) m p r
rebuilt_over {n = n} {w = w} {m = m} {p = p} {q = q} {r = r} hp hq start held b gone left work =
    let ne : m.root ≢ w.root = λ e. held.some (sym held.names ∙ (ap (root_block p) (sym e) ∙ b.rooted.empty)) in
    record {
      low = b.rooted.low;
      some = b.some;
      empty = b.rooted.empty;
      names = gone.others m.root ne ∙ b.rooted.names;
      left = gone.root;
      others = λ j h o. gone.others j o ∙ b.rooted.others j h;
      trees =
          λ j t low o s. elim (cases_eq (root_block p j) 0) [
            | inl e ↦ none_stands p r (root_block p j) t e s
            | inr e ↦ left.trees j (root_block p j) t o low (b.rooted.others j (rooted_some j b.rooted e)) (b.trees j t low s)
          ];
      blocks =
          λ f j t low o s. elim (cases_eq (root_block p j) 0) [
            | inl e ↦ weight_none f p r (root_block p j) t e s
            | inr e ↦ weight_root w.root q r work left f t j (root_block p j) (gone.others j o ∙ b.rooted.others j (rooted_some j b.rooted e)) (b.trees j t low s) ∙ b.blocks f j t low s
          ];
      made = made_more (n + 0) n p r (made_then n 0 p q r hp hq start b.made left.made) (omega arith);
    }

pub rebuilt_stands : {n : ℕ} {w m : Made} {p q r : Pool} (t : Tree) → IsHeld p w → IsBuilt n m p q → IsDropped w.root q r → TreeStands q m.block t → TreeStands r m.block t
rebuilt_stands {m = m} {p = p} t held b left s = left.trees m.root m.block t (λ e. held.some (sym held.names ∙ (ap (root_block p) (sym e) ∙ b.rooted.empty))) b.rooted.low b.rooted.names s

-- the tree of a root, if there is one, is at hand
pub held_at_hand : (p : Pool) (o : Option Made) → IsWorking p → IfSome o (IsHeld p) → IsAtHand p (block_of o)
held_at_hand p None w h = ((Empty, refl), λ some. absurd (some refl))
held_at_hand p (Some m) w h = (h.tree, root_reached p m.root m.block w h.low h.names)
