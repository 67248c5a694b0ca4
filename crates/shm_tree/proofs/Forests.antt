-- What calls on the pool keep of registers and of their versions.
use Rattle.shm_tree.specs.declared.{hints.Hints.{Hints, TheVariants.Off}, registers.Registers.Registers, stop.Stop.Stop}
use Rattle.shm_tree.specs.{Building.{IsBuilt, IsCut, root_block}, Changing.Changes, Causes.StopCause}
use Rattle.shm_tree.specs.Forests.{CallLeaves, IsForest, IsFree, IsTidy, KeepsNamed, KeepsOthers, KeepsRegisters, KeepsRoot, KeepsRoots, KeepsVersions, CallStopped, block_in, root_at, version}
use Rattle.shm_tree.specs.{Keeping.{IsDropped, IsShared, IsStill}, Standing.{IsTree, TreeStands, weight}, Trees.Tree}
use Rattle.shm_tree.specs.Working.{DiedIn, IfAlive, IfRefused, IsEmptied, IsRooted, IsSameLatch, IsWorking, Went}
use Rattle.shm_tree.specs.declared.stop.Stop.TheVariants as stop
use Rattle.shm_tree.proofs.Answering.{alive_map, cause_after, cause_by}
use Rattle.shm_tree.proofs.Building.{Looked, looked_none, alive_kept, alive_refused, none_stands, rooted_some, went_on}
use Rattle.shm_tree.proofs.{Links.still_then, Turns.did_then, Weights.{weight_nodes, weight_none, weight_root}}
use Rattle.std.proofs.Common.{◌≡◌, ◌≢◌, ℕ, ◌+◌, ◌<◌, ◌≤◌, Bool, true, false, List, [], ◌++◌, refl, sym, ap, ◌∙◌, subst, arith, Result, Ok, Err, inl, inr, true≢false}
use Rattle.std.proofs.lemmas.Bool.{cases_eq, cases_lt, cond-false, cond-true, le-ltb, lt-ltb}
use Rattle.std.specs.{Prelude.{slice_index, None, nat_lt, IfErr, IfOk}, Result.IsErrAnd}
use Rattle.shm_graph.specs.Events.{Event}
use Rattle.shm_plain.specs.{Calls.Did, Pools.{IsRun, Pool, memo_of}}
use Rattle.shm_plain.proofs.OwnTurns.{did_none}
use Rattle.shm_count.specs.declared.answer.Made.{Made}

-- ---- roots

pub block_low : (p : Pool) (k : ℕ) → k < 16 → block_in p k ≡ root_block p k
block_low p k lt = cond-true (nat_lt k 16) (root_block p k) 0 (lt-ltb k 16 lt)

pub block_none : (p : Pool) (k : ℕ) → 16 ≤ k → block_in p k ≡ 0
block_none p k le = cond-false (nat_lt k 16) (root_block p k) 0 (le-ltb k 16 le)

pub root_past : {p q : Pool} (k : ℕ) → 16 ≤ k → KeepsRoot p q k
root_past {p = p} {q = q} k le = record { same = block_none q k le ∙ sym (block_none p k le); trees = λ t s. none_stands p q (block_in p k) t (block_none p k le) s; blocks = λ f t s. weight_none f p q (block_in p k) t (block_none p k le) s }

pub root_low : {p q : Pool} (k : ℕ) → k < 16 → root_block q k ≡ root_block p k → ((t : Tree) → TreeStands p (root_block p k) t → TreeStands q (root_block p k) t) → ((f : ℕ → ℕ) (t : Tree) → TreeStands p (root_block p k) t → weight f q (root_block p k) t ≡ weight f p (root_block p k) t) → KeepsRoot p q k
root_low {p = p} {q = q} k lt same trees blocks =
    record {
      same = block_low q k lt ∙ (same ∙ sym (block_low p k lt));
      trees = λ t s. subst (λ (b : ℕ). TreeStands q b t) (sym (block_low p k lt)) (trees t (subst (λ (b : ℕ). TreeStands p b t) (block_low p k lt) s));
      blocks = λ f t s. subst (λ (b : ℕ). weight f q b t ≡ weight f p b t) (sym (block_low p k lt)) (blocks f t (subst (λ (b : ℕ). TreeStands p b t) (block_low p k lt) s));
    }

pub root_still : {p q : Pool} (k : ℕ) → IsStill p q → KeepsRoot p q k
root_still {p = p} {q = q} k s =
    elim (cases_lt k 16) [
      | inl lt ↦ root_low k lt (s.roots k) (λ t h. s.trees (root_block p k) t h) (λ f t h. weight_nodes f p q s.nodes (root_block p k) t h)
      | inr le ↦ root_past k le
    ]

pub root_cut : {n : ℕ} {p q : Pool} (k : ℕ) → IsCut n p q → (k < 16 → root_block p k ≢ 0) → KeepsRoot p q k
root_cut {p = p} {q = q} k c some =
    elim (cases_lt k 16) [
      | inl lt ↦ root_low k lt (c.roots k (some lt)) (λ t h. c.trees k t lt h) (λ f t h. c.blocks f k t lt h)
      | inr le ↦ root_past k le
    ]

pub root_dropped : {p q : Pool} (j k : ℕ) → (k < 16 → k ≢ j) → IsEmptied j p q → IsDropped j p q → IsWorking q → KeepsRoot p q k
root_dropped {p = p} {q = q} j k ne e d w =
    elim (cases_lt k 16) [
      | inl lt ↦ root_low k lt (e.others k (ne lt)) (λ t h. d.trees k (root_block p k) t (ne lt) lt refl h) (λ f t h. weight_root j p q w d f t k (root_block p k) (e.others k (ne lt)) h)
      | inr le ↦ root_past k le
    ]

pub root_then : {p q r : Pool} (k : ℕ) → KeepsRoot p q k → KeepsRoot q r k → KeepsRoot p r k
root_then {p = p} {q = q} {r = r} k a b =
    record {
      same = b.same ∙ a.same;
      trees = λ t s. subst (λ (x : ℕ). TreeStands r x t) a.same (b.trees t (subst (λ (x : ℕ). TreeStands q x t) (sym a.same) (a.trees t s)));
      blocks = λ f t s. subst (λ (x : ℕ). weight f r x t ≡ weight f q x t) a.same (b.blocks f t (subst (λ (x : ℕ). TreeStands q x t) (sym a.same) (a.trees t s))) ∙ a.blocks f t s;
    }

pub named_same : {p q : Pool} (k : ℕ) → KeepsRoot p q k → k < 16 → root_block q k ≡ root_block p k
named_same {p = p} {q = q} k h lt = sym (block_low q k lt) ∙ (h.same ∙ block_low p k lt)

-- ---- roots that named a block

pub named_still : {p q : Pool} → IsStill p q → KeepsNamed p q
named_still s k some = root_still k s

pub named_cut : {n : ℕ} {p q : Pool} → IsCut n p q → KeepsNamed p q
named_cut c k some = root_cut k c some

pub named_then : {p q r : Pool} → KeepsNamed p q → KeepsNamed q r → KeepsNamed p r
named_then {p = p} {q = q} a b k some = root_then k (a k some) (b k (λ lt e. some lt (sym (named_same k (a k some) lt) ∙ e)))

-- ---- registers

pub version_kept : {p q : Pool} {k : ℕ} (t : Tree) → KeepsRoot p q k → IsTree p (block_in p k) t → IsTree q (block_in q k) t
version_kept {p = p} {q = q} {k = k} t h s = record { stands = subst (λ (b : ℕ). TreeStands q b t) (sym h.same) (h.trees t s.stands); search = s.search; balanced = s.balanced }

-- the registers over another pool
pub over : Registers → Pool → Bool → Registers
over f q b = record { pool = q; roots = f.roots; tidy = b }

pub versions_over : (f : Registers) (q : Pool) (b : Bool) → KeepsRoots f.roots f.pool q → KeepsVersions f (record { pool = q; roots = f.roots; tidy = b })
versions_over f q b h ts v = record { long = v.long; each = λ r lt. version_kept (version ts r) (h r lt) (v.each r lt) }

pub registers_over : (f : Registers) (q : Pool) (b : Bool) → KeepsRoots f.roots f.pool q → KeepsRegisters f (record { pool = q; roots = f.roots; tidy = b })
registers_over f q b h = record { same = refl; roots = h }

-- registers that name the blocks that they named have their versions
pub registers_versions : {f g : Registers} → KeepsRegisters f g → KeepsVersions f g
registers_versions {f = f} {g = g} h ts v =
    record {
      long = v.long;
      each = λ r lt. subst (λ (k : ℕ). IsTree g.pool (block_in g.pool k) (version ts r)) (ap (λ (ks : List ℕ). slice_index ks r) (sym h.same)) (version_kept (version ts r) (h.roots r lt) (v.each r lt));
    }

pub roots_then : {p q r : Pool} (ks : List ℕ) → KeepsRoots ks p q → KeepsRoots ks q r → KeepsRoots ks p r
roots_then ks a b i lt = root_then (slice_index ks i) (a i lt) (b i lt)

pub registers_then : {f g h : Registers} → KeepsRegisters f g → KeepsRegisters g h → KeepsRegisters f h
registers_then {f = f} {g = g} {h = h} a b = record { same = b.same ∙ a.same; roots = roots_then f.roots a.roots (subst (λ (ks : List ℕ). KeepsRoots ks g.pool h.pool) a.same b.roots) }

pub forest_over : (f : Registers) (q : Pool) (b : Bool) → IsForest f → IsWorking q → (memo_of q 0).latch ≡ None → KeepsRoots f.roots f.pool q → (b ≡ true → IsTidy (record { pool = q; roots = f.roots; tidy = b })) → IsForest (record { pool = q; roots = f.roots; tidy = b })
forest_over f q b x w l h t =
    record {
      working = w;
      latch = l;
      long = x.long;
      low = x.low;
      apart = x.apart;
      some = λ r lt lo e. x.some r lt lo (sym (named_same (root_at f r) (h r lt) lo) ∙ e);
      tidy = t;
      versions = (x.versions.0, versions_over f q b h x.versions.0 x.versions.1);
    }

-- registers name blocks
pub registers_named : {q : Pool} (f : Registers) → IsForest f → KeepsNamed f.pool q → KeepsRoots f.roots f.pool q
registers_named f x h r lt = h (root_at f r) (x.some r lt)

-- whether they are told to be tidy or not
pub told : (f : Registers) (b : Bool) → IsForest f → (b ≡ true → IsTidy f) → IsForest (record { pool = f.pool; roots = f.roots; tidy = b })
told f b x t =
    record {
      working = x.working;
      latch = x.latch;
      long = x.long;
      low = x.low;
      apart = x.apart;
      some = x.some;
      tidy = t;
      versions = (x.versions.0, record { long = x.versions.1.long; each = x.versions.1.each });
    }

pub told_versions : (f : Registers) (b : Bool) → KeepsVersions f (record { pool = f.pool; roots = f.roots; tidy = b })
told_versions f b ts v = record { long = v.long; each = v.each }

pub untold : false ≡ true → {A : Type 0} → A
untold e = absurd (true≢false (sym e))

-- ---- calls that read

-- what calls left that changed nothing
pub record Quiet (p q : Pool) (x y : ℕ) : Type 0 where
  pub went : Went p q x y
  pub working : IsWorking q
  pub still : IsStill p q

pub quiet : {p q : Pool} {x y : ℕ} → Went p q x y → IsWorking q → IsStill p q → Quiet p q x y
quiet g w s = record { went = g; working = w; still = s }

pub quiet_then : {p q r : Pool} {x y z : ℕ} → IsWorking p → Quiet p q x y → Quiet q r y z → Quiet p r x z
quiet_then {p = p} {q = q} {r = r} w a b = record { went = went_on w.run a.went b.went; working = b.working; still = still_then p q r w a.working a.went.start a.still b.still }

-- ---- stops

pub stopped_here : {hints : Hints} {p q : Pool} (e : Stop) → IsRun q → q.start ≡ p.start → StopCause hints p q e → CallStopped hints p q e
stopped_here {p = p} {q = q} e run start cause = record { at = q; run = run; start = start; cause = cause; on = ([], did_none 0 q q refl) }

pub stopped_after : {hints : Hints} {p q r : Pool} {x y : ℕ} (e : Stop) → IsRun p → Went p q x y → CallStopped hints q r e → CallStopped hints p r e
stopped_after {hints = hints} {p = p} {q = q} e hp w s = record { at = s.at; run = s.run; start = s.start ∙ w.start; cause = cause_after p q s.at hp w.run w.start w.did hints e s.cause; on = s.on }

-- a call without hints, as one with any
pub stopped_by : {hints : Hints} {p q : Pool} (e : Stop) → CallStopped Off p q e → CallStopped hints p q e
stopped_by {hints = hints} {p = p} e s = record { at = s.at; run = s.run; start = s.start; cause = cause_by hints p s.at e s.cause; on = s.on }

pub stopped_on : {hints : Hints} {p q r : Pool} (e : Stop) → CallStopped hints p q e → IsRun q → q.start ≡ p.start → (es : List Event) × Did 0 q r es → CallStopped hints p r e
stopped_on {p = p} {q = q} {r = r} e s hq start did =
    record {
      at = s.at;
      run = s.run;
      start = s.start;
      cause = s.cause;
      on = (s.on.0 ++ did.0, did_then 0 s.at q r s.on.0 did.0 s.run hq (start ∙ sym s.start) s.on.1 did.1);
    }

-- ---- calls on the pool

pub calls_from : {hints : Hints} {T : Type 0} {K : Pool → Pool → Type 0} {p q : Pool} {x y : ℕ} {e : Stop} (o : Result T Stop) → IsErrAnd o (λ v. v ≡ e) → CallLeaves {T = T} hints K (Err e) p q x y → CallLeaves {T = T} hints K o p q x y
calls_from (Ok a) h m = absurd h
calls_from {hints = hints} {T = T} {K = K} {p = p} {q = q} {x = x} {y = y} (Err v) h m = subst (λ (w : Stop). CallLeaves {T = T} hints K (Err w) p q x y) (sym h) m

-- no word step was left for a call
pub calls_died : {hints : Hints} {T : Type 0} {K : Pool → Pool → Type 0} {p q : Pool} {x y : ℕ} (e : Stop) → Went p q x y → (e ≡ stop.Died) × (y ≡ 0) → CallLeaves {T = T} hints K (Err e) p q x y
calls_died {hints = hints} {T = T} {K = K} {p = p} {q = q} {x = x} {y = y} e w d =
    subst (λ (v : Stop). CallLeaves {T = T} hints K (Err v) p q x y) (sym d.0) (record { went = w; working = tt; latch = tt; kept = tt; cause = stopped_here stop.Died w.run w.start tt; died = λ v. d.1 })

-- what is kept is more than what is asked
pub calls_kept : {hints : Hints} {T : Type 0} {K L : Pool → Pool → Type 0} {p q : Pool} {x y : ℕ} (o : Result T Stop) → (K p q → L p q) → CallLeaves hints K o p q x y → CallLeaves hints L o p q x y
calls_kept o f c = record { went = c.went; working = c.working; latch = c.latch; kept = alive_kept o f c.kept; cause = c.cause; died = c.died }

-- what was built under the latch, once that is given back
pub planted_rooted : {n : ℕ} {m : Made} {p q r s : Pool} → IsStill p q → IsBuilt n m q r → IsStill r s → IsRooted m.root m.block p s
planted_rooted {m = m} a b c =
    record {
      low = b.rooted.low;
      empty = sym (a.roots m.root) ∙ b.rooted.empty;
      names = c.roots m.root ∙ b.rooted.names;
      others = λ j h. c.roots j ∙ (b.rooted.others j h ∙ a.roots j);
    }

pub cut_still : {n : ℕ} {p q r s : Pool} → IsStill p q → IsCut n q r → IsStill r s → KeepsNamed p s
cut_still a b c = named_then (named_still a) (named_then (named_cut b) (named_still c))

-- a further root was given to a tree
named_shared : {k b : ℕ} {p q : Pool} → IsShared k b p q → KeepsNamed p q
named_shared {p = p} {q = q} h j some =
    elim (cases_lt j 16) [
      | inl lt ↦ root_low j lt (h.rooted.others j (rooted_some j h.rooted (some lt))) (λ t s. h.trees (root_block p j) t s) (λ f t s. weight_nodes f p q h.nodes (root_block p j) t s)
      | inr le ↦ root_past j le
    ]

pub shared_grows : {hints : Hints} {c : ℕ} {p q r : Pool} {x y z : ℕ} (b : ℕ) (o : Result Made Stop) → IsWorking p → Looked p q x y → Changes hints c IsStill o q r y z → IfOk o (λ m. IsShared m.root b q r) → CallLeaves hints KeepsNamed o p r x z
shared_grows b (Ok m) wp l h sh = record { went = went_on wp.run l.went h.went; working = h.working; latch = h.latch ∙ l.latch; kept = named_then (named_still l.still) (named_shared sh); cause = tt; died = tt }
shared_grows {p = p} {q = q} {r = r} b (Err e) wp l h sh =
    record {
      went = went_on wp.run l.went h.went;
      working = h.working;
      latch = alive_map Made Made (IsSameLatch q r) (IsSameLatch p r) e (λ v. v ∙ l.latch) h.latch;
      kept = alive_refused Made Made (IsStill q r) (KeepsNamed p r) e (λ u. named_then (named_still l.still) (named_still u)) h.refused;
      cause = stopped_after e wp.run l.went (stopped_here e h.went.run h.went.start h.cause);
      died = λ d. (h.died d).0;
    }

pub shared_rooted : {m : Made} {p q r : Pool} (b : ℕ) → IsStill p q → m.block ≡ b → IsShared m.root b q r → IsRooted m.root m.block p r
shared_rooted {m = m} b a e h = record { low = h.rooted.low; empty = sym (a.roots m.root) ∙ h.rooted.empty; names = h.rooted.names ∙ sym e; others = λ j o. h.rooted.others j o ∙ a.roots j }

pub shared_stands : {m : Made} {p q r : Pool} (b d : ℕ) (t : Tree) → IsStill p q → b ≡ d → m.block ≡ b → IsShared m.root b q r → TreeStands p d t → TreeStands r m.block t
shared_stands {p = p} {q = q} {r = r} b d t a n e h s =
    subst (λ (k : ℕ). TreeStands r k t) (sym e) (h.trees b t (subst (λ (k : ℕ). TreeStands q k t) (sym n) (a.trees d t s)))

pub copied_rooted : {p q : Pool} (r : Pool) (b : ℕ) (o : Result Made Stop) → IsStill p q → IfOk o (λ m. m.block ≡ b) → IfOk o (λ m. IsShared m.root b q r) → IfOk o (λ m. IsRooted m.root m.block p r)
copied_rooted r b (Ok m) a e h = shared_rooted b a e h
copied_rooted r b (Err v) a e h = tt

pub copied_stands : {p q : Pool} (r : Pool) (b d : ℕ) (o : Result Made Stop) → IsStill p q → b ≡ d → IfOk o (λ m. m.block ≡ b) → IfOk o (λ m. IsShared m.root b q r) → IfOk o (λ m. (t : Tree) → TreeStands p d t → TreeStands r m.block t)
copied_stands r b d (Ok m) a n e h = λ t s. shared_stands b d t a n e h s
copied_stands r b d (Err v) a n e h = tt

-- ---- roots that are emptied one after the other

-- how far it came
pub record Sweeping (ks : List ℕ) (n : ℕ) (p q : Pool) (x y : ℕ) : Type 0 where
  pub went : Went p q x y
  pub working : IsWorking q
  pub latch : IsSameLatch p q
  pub kept : KeepsRoots ks p q
  pub empty : (k : ℕ) → k < n → IsFree ks k → root_block q k ≡ 0

pub sweeping_none : (ks : List ℕ) (p : Pool) (x : ℕ) → IsWorking p → Sweeping ks 0 p p x x
sweeping_none ks p x w =
    let l = looked_none p x w in
    record { went = l.went; working = w; latch = refl; kept = λ r lt. root_still (slice_index ks r) l.still; empty = λ k lt free. absurd (omega arith) }

pub sweeping_more : {p q r : Pool} {x y z : ℕ} (ks : List ℕ) (n : ℕ) → IsWorking p → Sweeping ks n p q x y → Went q r y z → IsWorking r → IsSameLatch q r → KeepsRoots ks q r → ((k : ℕ) → k ≢ n → root_block r k ≡ root_block q k) → (IsFree ks n → root_block r n ≡ 0) → Sweeping ks (n + 1) p r x z
sweeping_more {r = r} ks n wp a g w l k others empty =
    record {
      went = went_on wp.run a.went g;
      working = w;
      latch = l ∙ a.latch;
      kept = roots_then ks a.kept k;
      empty =
          λ i lt free. elim (cases_eq i n) [
            | inl e ↦ ap (root_block r) e ∙ empty (subst (IsFree ks) e free)
            | inr ne ↦ others i ne ∙ a.empty i (omega arith) free
          ];
    }

pub sweeping_stop : {hints : Hints} (S : Type 0) {T : Type 0} {p q r : Pool} {x y z : ℕ} (ks : List ℕ) (n : ℕ) (e : Stop) → IsWorking p → Sweeping ks n p q x y → CallLeaves {T = S} hints (KeepsRoots ks) (Err e) q r y z → CallLeaves {T = T} hints (KeepsRoots ks) (Err e) p r x z
sweeping_stop S {T = T} {p = p} {q = q} {r = r} ks n e wp a c =
    record {
      went = went_on wp.run a.went c.went;
      working = alive_map S T (IsWorking r) (IsWorking r) e (λ v. v) c.working;
      latch = alive_map S T (IsSameLatch q r) (IsSameLatch p r) e (λ v. v ∙ a.latch) c.latch;
      kept = alive_map S T (KeepsRoots ks q r) (KeepsRoots ks p r) e (λ v. roots_then ks a.kept v) c.kept;
      cause = stopped_after e wp.run a.went c.cause;
      died = c.died;
    }

-- a root that was to be empty is so already
pub calls_none : {hints : Hints} {T : Type 0} {K : Pool → Pool → Type 0} (a : T) (p : Pool) (x : ℕ) → IsWorking p → K p p → CallLeaves {T = T} hints K (Ok a) p p x x
calls_none a p x w k = record { went = (looked_none p x w).went; working = w; latch = refl; kept = k; cause = tt; died = tt }

pub root_self : (p : Pool) (k : ℕ) → KeepsRoot p p k
root_self p k = record { same = refl; trees = λ t s. s; blocks = λ f t s. refl }

-- a root was dropped, or not
pub dropped_calls : {hints : Hints} {T : Type 0} {p q : Pool} {x y : ℕ} (j : ℕ) (o : Result T Stop) → Went p q x y → IfAlive o (IsWorking q) → IfAlive o (IsSameLatch p q) → IfOk o (λ u. IsEmptied j p q) → IfOk o (λ u. IsDropped j p q) → IfRefused o (IsStill p q) → IfErr o (λ e. StopCause hints p q e) → IfErr o (λ e. DiedIn e p q y) → CallLeaves hints (KeepsOthers j) o p q x y
dropped_calls j (Ok a) g w l e d s ca di = record { went = g; working = w; latch = l; kept = λ k ne. root_dropped j k ne e d w; cause = tt; died = tt }
dropped_calls {T = T} {p = p} {q = q} j (Err v) g w l e d s ca di =
    record { went = g; working = w; latch = l; kept = alive_refused T T (IsStill p q) (KeepsOthers j p q) v (λ u k ne. root_still k u) s; cause = stopped_here v g.run g.start ca; died = λ d. (di d).0 }
