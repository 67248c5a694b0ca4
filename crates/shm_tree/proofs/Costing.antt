-- What calls cost that come one after the other.
use Rattle.shm_tree.specs.declared.{hints.Hints.Hints, remove.Removed.Removed, stop.Stop.Stop}
use Rattle.shm_tree.specs.{declared.registers.Registers.Registers, Bounds.{drop_steps, share_steps}}
use Rattle.shm_tree.specs.{Building.root_block, Changing.Changes}
use Rattle.shm_tree.specs.Costing.{Costs, MakesFew, copied_steps, copy_steps, read_steps, sweep_steps}
use Rattle.shm_tree.specs.Forests.{HasVersions, IsForest, IsFree, KeepsRoots, KeepsVersions, block_in, root_at, version}
use Rattle.shm_tree.specs.{Keeping.{HasMade, IsDropped, IsShared, IsStill, is_live}, Living.{AreLivesTrees, KeepsLives}}
use Rattle.shm_tree.specs.{Removing.{IsKept, IsRemoved}, Standing.{IsTree, TreeStands}, Tearing.HasTorn}
use Rattle.shm_tree.specs.{Trees.{Tree, height}, Working.{IfAlive, IsSameLatch, IsSpent, IsWorking, Went}}
use Rattle.shm_tree.proofs.{Building.{Looked, looked_none, made_more, went_on}, Eras.spent_stays, Fallings.rests_shared}
use Rattle.shm_tree.proofs.{Forests.{Sweeping, sweeping_more, sweeping_none}, Fresh.made_few, Nodes.made_then}
use Rattle.shm_tree.proofs.Resting.{rests_dropped, rests_still, rests_then}
use Rattle.shm_tree.proofs.Spendings.{spent_call, spent_drop, spent_more, spent_then}
use Rattle.std.proofs.Common.{◌≡◌, ◌≢◌, ℕ, ◌+◌, ◌*◌, ◌<◌, ◌≤◌, true, false, List, sym, ◌∙◌, subst, arith, inl, inr, true≢false, Result, Ok, Err}
use Rattle.std.proofs.lemmas.Bool.{cases_Bool}
use Rattle.std.specs.Prelude.{IfOk, Option, None, Some}
use Rattle.shm_words.specs.declared.geometry.Geometry.{Geometry}
use Rattle.shm_plain.specs.Pools.{Pool, memo_of}
use Rattle.shm_count.specs.declared.answer.Made.{Made}

le_self : (n : ℕ) → n ≤ n
le_self n = omega arith

le_plus : (a b : ℕ) → a ≤ a + b
le_plus a b = omega arith

zero_more : (n : ℕ) → 0 + n ≤ n
zero_more n = omega arith

none_more : 0 + 0 ≤ 0
none_more = omega arith

-- ---- calls

pub costs_then : {n m a : ℕ} {p q r : Pool} {x y z : ℕ} (b : Geometry → ℕ) → IsWorking p → IsWorking q → IsWorking r → Went p q x y → Went q r y z → Costs n a p q x y → Costs m (b q.start.geometry) q r y z → Costs (n + m) (a + b p.start.geometry) p r x z
costs_then {n = n} {m = m} {p = p} {q = q} {r = r} b wp wq wr u v s t =
    record {
      made = made_then n m p q r wp.run u.run u.start s.made t.made;
      spent = spent_then b wp u v s.spent t.spent;
      rests = rests_then p q r wq wr v s.rests t.rests;
    }

pub costs_more : {n a : ℕ} {p q : Pool} {x y : ℕ} (m b : ℕ) → n ≤ m → a ≤ b → Costs n a p q x y → Costs m b p q x y
costs_more {n = n} {a = a} {p = p} {q = q} m b l k s = record { made = made_more n m p q s.made l; spent = spent_more a b k s.spent; rests = s.rests }

pub costs_still : {p q : Pool} {x y : ℕ} (c : ℕ) → Went p q x y → IsStill p q → x ≤ y + c → Costs 0 c p q x y
costs_still c w s few = record { made = s.made; spent = spent_call c w few; rests = rests_still s }

pub costs_none : (c : ℕ) (p : Pool) (x : ℕ) → IsWorking p → Costs 0 c p p x x
costs_none c p x w = let l = looked_none p x w in costs_still c l.went l.still (omega arith)

-- a root was dropped
pub costs_dropped : {T : Type 0} (p q : Pool) (x y k : ℕ) (o : Result T Stop) → IfAlive o (IsWorking q) → IfOk o (λ u. IsDropped k p q) → IfOk o (λ u. (n : ℕ) × HasTorn k n p q × (x ≤ y + drop_steps p.start.geometry n)) → IfOk o (λ u. Costs 0 (drop_steps p.start.geometry 0) p q x y)
costs_dropped p q x y k (Ok a) w d torn = record { made = d.made; spent = spent_drop k w torn; rests = rests_dropped k p q w d }
costs_dropped p q x y k (Err e) w d torn = tt

-- a tree got a further root
pub costs_copied : {hints : Hints} {p q r : Pool} {x y z : ℕ} (b : ℕ) (o : Result Made Stop) → IsWorking p → Looked p q x y → x ≤ y + 1 → Changes hints (share_steps q.start.geometry) IsStill o q r y z → IfOk o (λ m. IsShared m.root b q r) → IfOk o (λ m. Costs 0 (copied_steps p.start.geometry) p r x z)
costs_copied {q = q} {r = r} {y = y} {z = z} b (Ok m) wp l one h sh =
    let later : Costs 0 (share_steps q.start.geometry) q r y z = record { made = sh.made; spent = spent_call (share_steps q.start.geometry) h.went h.steps; rests = rests_shared sh } in
    costs_then share_steps wp l.working h.working l.went h.went (costs_still 1 l.went l.still one) later
costs_copied b (Err e) wp l one h sh = tt

-- what a removal made
pub removed_made : (k : ℕ) (t : Tree) (o : Option Removed) (p q : Pool) → IsRemoved k t o p q → HasMade (3 * height t) p q
removed_made k t None p q h = made_more 0 (3 * height t) p q h.1.made (omega arith)
removed_made k t (Some w) p q h = kept_made w.tree h.kept
  where
    kept_made : (o : Option Made) → IsKept (3 * height t) o p q → HasMade (3 * height t) p q
    kept_made None y = y.0.made
    kept_made (Some m) y = y.made

-- ---- how many blocks came to be live

-- what is live in the end was so where no block was made
pub none_new : (p q : Pool) → IsWorking p → IsWorking q → q.start ≡ p.start → HasMade 0 p q → (b : ℕ) → is_live q b ≡ true → is_live p b ≡ true
none_new p q wp wq start made b live =
    elim (cases_Bool (is_live p b)) [
      | inl l ↦ l
      | inr dead ↦ (let few = made_few 0 p q wp.run wq.run start made in let it = few.2 b live dead in let low = few.1 in let at = it.1 in absurd (omega (arith, low, at)))
    ]

trees_after : (p q : Pool) → KeepsLives p q → (IsSpent (memo_of q 0) → ⊥) → AreLivesTrees p → AreLivesTrees q
trees_after p q rests calm trees b live =
    rests calm b live (elim (cases_Bool (is_live p b)) [
      | inl l ↦ inr (trees b l)
      | inr dead ↦ inl dead
    ])

-- calls before and after that made none
pub few_between : (n : ℕ) {c d : ℕ} {p q r s : Pool} {x y z w : ℕ} → IsWorking p → IsWorking q → IsWorking r → IsWorking s → Went p q x y → Went q r y z → Went r s z w → Costs 0 c p q x y → MakesFew n q r → Costs 0 d r s z w → MakesFew n p s
few_between n {p = p} {q = q} {r = r} {s = s} wp wq wr ws u v k a few b calm trees =
    let later : IsSpent (memo_of r 0) → ⊥ = λ e. calm (spent_stays r s wr ws k e) in
    let mid : IsSpent (memo_of q 0) → ⊥ = λ e. later (spent_stays q r wq wr v e) in
    let f = few later (trees_after p q a.rests mid trees) in
    (f.0, f.1, λ i live dead. f.2 i (none_new r s wr ws k.start b.made i live) (by i dead))
  where
    by : (i : ℕ) → is_live p i ≡ false → is_live q i ≡ false
    by i dead =
        elim (cases_Bool (is_live q i)) [
          | inl l ↦ absurd (true≢false (sym (none_new p q wp wq u.start a.made i l) ∙ dead))
          | inr e ↦ e
        ]

-- ---- results

pub ok_least : {T : Type 0} (x y c : ℕ) (o : Result T Stop) → IfOk o (λ b. x ≡ y + c) → IfOk o (λ b. x ≤ y + c)
ok_least x y c (Ok a) e = omega (arith, e)
ok_least x y c (Err e) h = tt

times_more : (n d : ℕ) → n * d + d ≤ (n + 1) * d
times_more n d = omega arith

-- ---- roots that are emptied one after the other

pub record Swept (ks : List ℕ) (n : ℕ) (p q : Pool) (x y : ℕ) : Type 0 where
  pub swept : Sweeping ks n p q x y
  pub costs : Costs 0 (n * drop_steps p.start.geometry 0) p q x y

pub swept_none : (ks : List ℕ) (p : Pool) (x : ℕ) → IsWorking p → Swept ks 0 p p x x
swept_none ks p x w = record { swept = sweeping_none ks p x w; costs = costs_none (0 * drop_steps p.start.geometry 0) p x w }

pub swept_more : {p q r : Pool} {x y z : ℕ} (ks : List ℕ) (n : ℕ) → IsWorking p → Swept ks n p q x y → Went q r y z → IsWorking r → IsSameLatch q r → KeepsRoots ks q r → ((k : ℕ) → k ≢ n → root_block r k ≡ root_block q k) → (IsFree ks n → root_block r n ≡ 0) → Costs 0 (drop_steps q.start.geometry 0) q r y z → Swept ks (n + 1) p r x z
swept_more {p = p} {q = q} {r = r} {x = x} {y = y} {z = z} ks n wp a g w l k others empty costs =
    let d : ℕ = drop_steps p.start.geometry 0 in
    let first : Costs (0 + 0) (n * d + d) p r x z = costs_then (λ (e : Geometry). drop_steps e 0) wp a.swept.working w a.swept.went g a.costs costs in
    record {
      swept = sweeping_more ks n wp a.swept g w l k others empty;
      costs = costs_more 0 ((n + 1) * d) none_more (times_more n d) first;
    }

pub swept_all : {p q : Pool} {x y : ℕ} (ks : List ℕ) (n : ℕ) → n ≡ 16 → Swept ks n p q x y → Costs 0 (sweep_steps p.start.geometry) p q x y
swept_all {p = p} ks n e a = costs_more 0 (sweep_steps p.start.geometry) (le_self 0) (le_all n (drop_steps p.start.geometry 0) e) a.costs
  where
    le_all : (k d : ℕ) → k ≡ 16 → k * d ≤ 16 * d
    le_all k d is = subst (λ (i : ℕ). i * d ≤ 16 * d) (sym is) (le_self (16 * d))

-- ---- lines

-- a call after the roots beside those of registers were emptied
pub part_costs : {x y z : ℕ} (f g : Registers) (q : Pool) (from : ℕ) (n : Tree → ℕ) (b : Tree → Geometry → ℕ) → from < 12 → IsForest f → IsForest g → Went f.pool g.pool x y → KeepsVersions f g → Costs 0 (sweep_steps f.pool.start.geometry) f.pool g.pool x y → IsWorking q → Went g.pool q y z
    → ((t : Tree) → IsTree g.pool (block_in g.pool (root_at g from)) t → Costs (n t) (b t g.pool.start.geometry) g.pool q y z) → (ts : List Tree) → HasVersions f ts → Costs (n (version ts from)) (sweep_steps f.pool.start.geometry + b (version ts from) f.pool.start.geometry) f.pool q x z
part_costs f g q from n b lt xf xg u same swept wq v costs ts w =
    let t : Tree = version ts from in
    costs_more (n t) (sweep_steps f.pool.start.geometry + b t f.pool.start.geometry) (zero_more (n t)) (le_self (sweep_steps f.pool.start.geometry + b t f.pool.start.geometry))
    (costs_then (λ (e : Geometry). b t e) xf.working xg.working wq u v swept (costs t ((same ts w).each from lt)))

-- and one behind it that drops a root
pub put_costs : {n a : ℕ} {p q r : Pool} {x y z : ℕ} → IsWorking p → IsWorking q → IsWorking r → Went p q x y → Went q r y z → Costs n a p q x y → Costs 0 (drop_steps q.start.geometry 0) q r y z → Costs n (a + drop_steps p.start.geometry 0) p r x z
put_costs {n = n} {a = a} {p = p} wp wq wr u v s t = costs_more n (a + drop_steps p.start.geometry 0) (plus_zero n) (le_self (a + drop_steps p.start.geometry 0)) (costs_then (λ (e : Geometry). drop_steps e 0) wp wq wr u v s t)
  where
    plus_zero : (k : ℕ) → k + 0 ≤ k
    plus_zero k = omega arith

-- where no drop was needed
pub unput_costs : {n a : ℕ} {p q : Pool} {x y : ℕ} (d : ℕ) → Costs n a p q x y → Costs n (a + d) p q x y
unput_costs {n = n} {a = a} d s = costs_more n (a + d) (le_self n) (le_plus a d) s

pub set_costs : {x z w : ℕ} (f : Registers) (q : Pool) (h : Registers) (n a : List Tree → ℕ) (o : Result (Unit {0}) Stop) → IsForest f → IsWorking q → Went f.pool q x z → ((ts : List Tree) → HasVersions f ts → Costs (n ts) (a ts) f.pool q x z)
    → IfAlive o (IsForest h) → Went q h.pool z w → IfOk o (λ u. Costs 0 (drop_steps q.start.geometry 0) q h.pool z w) → IfOk o (λ u. (ts : List Tree) → HasVersions f ts → Costs (n ts) (a ts + drop_steps f.pool.start.geometry 0) f.pool h.pool x w)
set_costs f q h n a (Ok u) xf wq v costs xh k put = λ ts s. put_costs xf.working wq xh.working v k (costs ts s) put
set_costs f q h n a (Err e) xf wq v costs xh k put = tt

pub set_few : {c x y z w : ℕ} (f g : Registers) (q : Pool) (h : Registers) (from : ℕ) (n : Tree → ℕ) (o : Result (Unit {0}) Stop) → from < 12 → IsForest f → IsForest g → Went f.pool g.pool x y → KeepsVersions f g → Costs 0 c f.pool g.pool x y → IsWorking q → Went g.pool q y z
    → ((t : Tree) → IsTree g.pool (block_in g.pool (root_at g from)) t → MakesFew (n t) g.pool q) → IfAlive o (IsForest h) → Went q h.pool z w → IfOk o (λ u. Costs 0 (drop_steps q.start.geometry 0) q h.pool z w) → IfOk o (λ u. (ts : List Tree) → HasVersions f ts → MakesFew (n (version ts from)) f.pool h.pool)
set_few f g q h from n (Ok u) lt xf xg v same swept wq k few xh m put = λ ts s. few_between (n (version ts from)) xf.working xg.working wq xh.working v k m swept (few (version ts from) ((same ts s).each from lt)) put
set_few f g q h from n (Err e) lt xf xg v same swept wq k few xh m put = tt

pub copy_costs : {x y z w : ℕ} (f g : Registers) (q : Pool) (h : Registers) (o : Result (Unit {0}) Stop) → IsForest f → IsForest g → Went f.pool g.pool x y → Costs 0 (sweep_steps f.pool.start.geometry) f.pool g.pool x y → IsWorking q → Went g.pool q y z → Costs 0 (copied_steps g.pool.start.geometry) g.pool q y z → IfAlive o (IsForest h) → Went q h.pool z w
    → IfOk o (λ u. Costs 0 (drop_steps q.start.geometry 0) q h.pool z w) → IfOk o (λ u. Costs 0 (copy_steps f.pool.start.geometry) f.pool h.pool x w)
copy_costs f g q h (Ok u) xf xg v swept wq k copied xh m put = put_costs xf.working wq xh.working (went_on xf.working.run v k) m (costs_then copied_steps xf.working xg.working wq v k swept copied) put
copy_costs f g q h (Err e) xf xg v swept wq k copied xh m put = tt

pub cleared_costs : {x y w : ℕ} (f g h : Registers) (o : Result (Unit {0}) Stop) → IsForest f → IsForest g → Went f.pool g.pool x y → Costs 0 (sweep_steps f.pool.start.geometry) f.pool g.pool x y → IfAlive o (IsForest h) → Went g.pool h.pool y w → IfOk o (λ u. Costs 0 (drop_steps g.pool.start.geometry 0) g.pool h.pool y w)
    → IfOk o (λ u. Costs 0 (copy_steps f.pool.start.geometry) f.pool h.pool x w)
cleared_costs f g h (Ok u) xf xg v swept xh m put = put_costs xf.working xg.working xh.working v m (unput_costs (copied_steps f.pool.start.geometry) swept) put
cleared_costs f g h (Err e) xf xg v swept xh m put = tt

pub got_costs : {T : Type 0} (x y : ℕ) (f : Registers) (q : Pool) (at : ℕ) (o : Result T Stop) → at < 12 → IfOk o (λ v. (t : Tree) → TreeStands f.pool (block_in f.pool (root_at f at)) t → Costs 0 (read_steps (height t)) f.pool q x y) → IfOk o (λ v. (ts : List Tree) → HasVersions f ts → Costs 0 (read_steps (height (version ts at))) f.pool q x y)
got_costs x y f q at (Ok v) lt is = λ ts w. is (version ts at) (w.each at lt).stands
got_costs x y f q at (Err e) lt is = tt
