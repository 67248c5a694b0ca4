-- What parts of lines leave of registers and of their versions.
use Rattle.shm_tree.specs.declared.{hints.Hints.{Hints, TheVariants.Off}, registers.Registers.Registers, stop.Stop.Stop}
use Rattle.shm_tree.specs.{declared.remove.Removed.Removed, Building.root_block}
use Rattle.shm_tree.specs.Forests.{CallLeaves, HasVersions, IsCleared, IsPruned, IsTaken, IsForest, IsFree, IsLeft, IsLopped, IsPut, IsSpare, IsTidy, KeepsNamed, KeepsRegisters, KeepsRoot, KeepsRoots, KeepsVersions, Moves, CallStopped, block_in, is_over, root_at, version}
use Rattle.shm_tree.specs.{Keeping.IsStill, Standing.{IsTree, TreeStands}, Inserting.IsRegistered}
use Rattle.shm_tree.specs.Removing.{IsKept, IsRemoved, IsWithout}
use Rattle.shm_tree.specs.Trees.{Tree, Empty, Node, found, height, inserted, removed}
use Rattle.shm_tree.specs.Working.{AreSameRoots, IfAlive, IfRefused, IsEmptied, IsOver, IsRooted, IsSameLatch, IsWorking, Went}
use Rattle.shm_tree.specs.declared.stop.Stop.TheVariants as stop
use Rattle.shm_tree.proofs.Answering.{alive_died, alive_map, cause_died, refused_died, refused_map}
use Rattle.shm_tree.proofs.Building.{built_cut, went_on}
use Rattle.shm_tree.proofs.Forests.{block_low, block_none, forest_over, named_cut, named_same, named_still, planted_rooted, registers_named, registers_over, registers_then, root_still, stopped_after, stopped_by, stopped_here, stopped_on, told, untold, version_kept, versions_over}
use Rattle.shm_tree.proofs.{Insertions.inserts_well, Removals.removes_well}
use Rattle.std.proofs.Common.{◌≡◌, ◌≢◌, ◌==◌, ℕ, ◌*◌, ◌<◌, ◌≤◌, Bool, true, false, List, length, lit≤, refl, sym, ap, ◌∙◌, subst, arith, Result, Ok, Err, inl, inr, ◌⊎◌, true≢false}
use Rattle.std.proofs.lemmas.{Bool.{cases_eq, cases_lt, eq-eqb, eqb-true}, Grind.get_or-set_at}
use Rattle.std.proofs.lemmas.List.{get_or-set_other, length-set}
use Rattle.std.specs.{Prelude.{slice_index, slice_set, Option, None, Some, IfErr, IfOk}, List.IsAnyAnswer}
use Rattle.std.specs.{Option.is_some, Result.IsErrAnd}
use Rattle.shm_plain.specs.Pools.{Pool, memo_of}
use Rattle.shm_count.specs.declared.answer.Made.{Made}

-- ---- parts of lines

pub moves_from : {hints : Hints} {T : Type 0} {f g : Registers} {x y : ℕ} {e : Stop} (o : Result T Stop) → IsErrAnd o (λ v. v ≡ e) → Moves {T = T} hints (Err e) f g x y → Moves {T = T} hints o f g x y
moves_from (Ok a) h m = absurd h
moves_from {hints = hints} {T = T} {f = f} {g = g} {x = x} {y = y} (Err v) h m = subst (λ (w : Stop). Moves {T = T} hints (Err w) f g x y) (sym h) m

-- a stop of another part is one of the whole
pub moves_to : {hints : Hints} (S : Type 0) {T : Type 0} {f g : Registers} {x y : ℕ} (e : Stop) → Moves {T = S} hints (Err e) f g x y → Moves {T = T} hints (Err e) f g x y
moves_to S {T = T} {f = f} {g = g} e m = record { went = m.went; forest = alive_map S T (IsForest g) (IsForest g) e (λ v. v) m.forest; kept = refused_map S T (KeepsRegisters f g) (KeepsRegisters f g) e (λ v. v) m.kept; cause = m.cause; died = m.died }

-- a part that was done
pub moves_done : {hints : Hints} {T : Type 0} {f g : Registers} {x y : ℕ} (a : T) → Went f.pool g.pool x y → IsForest g → Moves {T = T} hints (Ok a) f g x y
moves_done a w x = record { went = w; forest = x; kept = tt; cause = tt; died = tt }

-- a call on the pool stopped
pub moves_stop : {hints : Hints} (S : Type 0) {T : Type 0} (f : Registers) (q : Pool) (b : Bool) {x y : ℕ} (e : Stop) → IsForest f → (b ≡ true → IsTidy (record { pool = q; roots = f.roots; tidy = b })) → CallLeaves {T = S} hints (KeepsRoots f.roots) (Err e) f.pool q x y → Moves {T = T} hints (Err e) f (record { pool = q; roots = f.roots; tidy = b }) x y
moves_stop S f q b stop.Died x t c = record { went = c.went; forest = tt; kept = tt; cause = c.cause; died = c.died }
moves_stop S f q b (stop.Full i j) x t c = record { went = c.went; forest = forest_over f q b x c.working (c.latch ∙ x.latch) c.kept t; kept = registers_over f q b c.kept; cause = c.cause; died = c.died }
moves_stop S f q b (stop.CountFull i j) x t c = record { went = c.went; forest = forest_over f q b x c.working (c.latch ∙ x.latch) c.kept t; kept = registers_over f q b c.kept; cause = c.cause; died = c.died }
moves_stop S f q b (stop.EraSpent i) x t c = record { went = c.went; forest = forest_over f q b x c.working (c.latch ∙ x.latch) c.kept t; kept = registers_over f q b c.kept; cause = c.cause; died = c.died }

-- nothing was done, or no word step was left
pub moves_still : {hints : Hints} (S : Type 0) {T : Type 0} {K : Pool → Pool → Type 0} (f : Registers) (q : Pool) {x y : ℕ} (e : Stop) → IsForest f → CallLeaves {T = S} hints K (Err e) f.pool q x y → IfRefused {T = S} (Err e) (IsStill f.pool q) → Moves {T = T} hints (Err e) f (record { pool = q; roots = f.roots; tidy = f.tidy }) x y
moves_still S f q stop.Died x c still = record { went = c.went; forest = tt; kept = tt; cause = c.cause; died = c.died }
moves_still S f q (stop.Full i j) x c still = moves_stop S f q f.tidy (stop.Full i j) x (λ t k lt free. still.roots k ∙ x.tidy t k lt free) (record { went = c.went; working = c.working; latch = c.latch; kept = λ r lt. root_still (root_at f r) still; cause = c.cause; died = c.died })
moves_still S f q (stop.CountFull i j) x c still = moves_stop S f q f.tidy (stop.CountFull i j) x (λ t k lt free. still.roots k ∙ x.tidy t k lt free) (record { went = c.went; working = c.working; latch = c.latch; kept = λ r lt. root_still (root_at f r) still; cause = c.cause; died = c.died })
moves_still S f q (stop.EraSpent i) x c still = moves_stop S f q f.tidy (stop.EraSpent i) x (λ t k lt free. still.roots k ∙ x.tidy t k lt free) (record { went = c.went; working = c.working; latch = c.latch; kept = λ r lt. root_still (root_at f r) still; cause = c.cause; died = c.died })

-- a part without hints, as one with any
pub moves_by : {hints : Hints} {T : Type 0} {f g : Registers} {x y : ℕ} (o : Result T Stop) → Moves Off o f g x y → Moves hints o f g x y
moves_by (Ok a) m = record { went = m.went; forest = m.forest; kept = m.kept; cause = tt; died = tt }
moves_by (Err e) m = record { went = m.went; forest = m.forest; kept = m.kept; cause = stopped_by e m.cause; died = m.died }

-- a part after one that was done
pub moves_after : {hints : Hints} {T : Type 0} {f g h : Registers} {x y z : ℕ} (o : Result T Stop) → IsForest f → Went f.pool g.pool x y → KeepsRegisters f g → Moves hints o g h y z → Moves hints o f h x z
moves_after (Ok a) w m k n = record { went = went_on w.working.run m n.went; forest = n.forest; kept = tt; cause = tt; died = tt }
moves_after {T = T} {f = f} {g = g} {h = h} (Err e) w m k n =
    record {
      went = went_on w.working.run m n.went;
      forest = n.forest;
      kept = refused_map T T (KeepsRegisters g h) (KeepsRegisters f h) e (λ v. registers_then k v) n.kept;
      cause = stopped_after e w.working.run m n.cause;
      died = n.died;
    }

-- ---- a register that gets another root

set_same : (ks : List ℕ) (at k r : ℕ) → r ≡ at → at < length ks → slice_index (slice_set ks at k) r ≡ k
set_same ks at k r e lt = get_or-set_at ks at r k 0 e lt

set_other : (ks : List ℕ) (at k r : ℕ) → r ≢ at → slice_index (slice_set ks at k) r ≡ slice_index ks r
set_other ks at k r ne = get_or-set_other ks at r k 0 ne

module _ (f : Registers) (q : Pool) (at k : ℕ) (x : IsForest f) (here : at < 12) (spare : IsSpare f k) (working : IsWorking q) (latch : (memo_of q 0).latch ≡ None) (kept : (j : ℕ) → (j < 16 → j ≢ root_at f at) → KeepsRoot f.pool q j) (others : (j : ℕ) → j ≢ root_at f at → root_block q j ≡ root_block f.pool j) (empty : root_at f at < 16 → root_block q (root_at f at) ≡ 0) where
  abbrev pub after : Registers
  after = record { pool = q; roots = slice_set f.roots at k; tidy = f.tidy }

  within : at < length f.roots
  within = let e = x.long in omega arith

  own : (r : ℕ) → r ≡ at → root_at after r ≡ k
  own r e = set_same f.roots at k r e within

  other : (r : ℕ) → r ≢ at → root_at after r ≡ root_at f r
  other r ne = set_other f.roots at k r ne

  keeps_spare : KeepsRoot f.pool q k
  keeps_spare = kept k (λ lt e. spare.free lt at here (sym e))

  keeps_other : (r : ℕ) → r < 12 → r ≢ at → KeepsRoot f.pool q (root_at f r)
  keeps_other r lt ne = kept (root_at f r) (λ lo e. ne (x.apart r at lt here lo e))

  keeps_each : (r : ℕ) → r < 12 → KeepsRoot f.pool q (root_at after r)
  keeps_each r lt =
      elim (cases_eq r at) [
        | inl e ↦ subst (KeepsRoot f.pool q) (sym (own r e)) keeps_spare
        | inr ne ↦ subst (KeepsRoot f.pool q) (sym (other r ne)) (keeps_other r lt ne)
      ]

  low_each : (r : ℕ) → r < 12 → root_at after r ≤ 16
  low_each r lt =
      elim (cases_eq r at) [
        | inl e ↦ subst (λ (j : ℕ). j ≤ 16) (sym (own r e)) spare.low
        | inr ne ↦ subst (λ (j : ℕ). j ≤ 16) (sym (other r ne)) (x.low r lt)
      ]

  apart_each : (r s : ℕ) → r < 12 → s < 12 → root_at after r < 16 → root_at after r ≡ root_at after s → r ≡ s
  apart_each r s lr ls lo e =
      elim (cases_eq r at) [
        | inl er ↦ elim (cases_eq s at) [
          | inl es ↦ er ∙ sym es
          | inr ns ↦ absurd (spare.free (subst (λ (j : ℕ). j < 16) (own r er) lo) s ls (sym (other s ns) ∙ (sym e ∙ own r er)))
        ]
        | inr nr ↦ elim (cases_eq s at) [
          | inl es ↦ absurd (spare.free (subst (λ (j : ℕ). j < 16) (e ∙ own s es) lo) r lr (sym (other r nr) ∙ (e ∙ own s es)))
          | inr ns ↦ x.apart r s lr ls (subst (λ (j : ℕ). j < 16) (other r nr) lo) (sym (other r nr) ∙ (e ∙ other s ns))
        ]
      ]

  some_each : (r : ℕ) → r < 12 → root_at after r < 16 → root_block q (root_at after r) ≢ 0
  some_each r lt lo none =
      let same : root_block f.pool (root_at after r) ≡ 0 = sym (named_same (root_at after r) (keeps_each r lt) lo) ∙ none in
      elim (cases_eq r at) [
        | inl e ↦ spare.some (subst (λ (j : ℕ). j < 16) (own r e) lo) (subst (λ (j : ℕ). root_block f.pool j ≡ 0) (own r e) same)
        | inr ne ↦ x.some r lt (subst (λ (j : ℕ). j < 16) (other r ne) lo) (subst (λ (j : ℕ). root_block f.pool j ≡ 0) (other r ne) same)
      ]

  -- a root that no register has
  pub replaced_left : (j : ℕ) → j < 16 → IsFree (slice_set f.roots at k) j → (j ≢ k) × IsLeft f after j
  replaced_left j lt free = (
    (λ e. free at here (own at refl ∙ sym e)),
    elim (cases_eq j (root_at f at)) [
      | inl e ↦ inl (ap (root_block q) e ∙ empty (subst (λ (i : ℕ). i < 16) e lt))
      | inr ne ↦ inr (
        (λ r lr is. elim (cases_eq r at) [
          | inl e ↦ ne (sym is ∙ ap (root_at f) e)
          | inr nr ↦ free r lr (other r nr ∙ is)
        ]),
        others j ne,
      )
    ],
  )

  tidy_after : f.tidy ≡ true → IsTidy after
  tidy_after told j lt free =
      elim (replaced_left j lt free).1 [
        | inl e ↦ e
        | inr h ↦ h.1 ∙ x.tidy told j lt h.0
      ]

  pub replaced_put : IsPut at k f after
  replaced_put ts t v s =
      record {
        long = length-set ts at t ∙ v.long;
        each =
            λ r lt. elim (cases_eq r at) [
              | inl e ↦
                  (let tree : IsTree q (block_in q (root_at after r)) t = subst (λ (j : ℕ). IsTree q (block_in q j) t) (sym (own r e)) (version_kept t keeps_spare s) in
                  let l = v.long in
                  subst (IsTree q (block_in q (root_at after r))) (sym (get_or-set_at ts at r t Empty e (omega arith))) tree)
              | inr ne ↦
                  (let tree : IsTree q (block_in q (root_at after r)) (version ts r) = subst (λ (j : ℕ). IsTree q (block_in q j) (version ts r)) (sym (other r ne)) (version_kept (version ts r) (keeps_other r lt ne) (v.each r lt)) in
                  subst (IsTree q (block_in q (root_at after r))) (sym (get_or-set_other ts at r t Empty ne)) tree)
            ];
      }

  pub replaced_forest : (t : Tree) → IsTree f.pool (block_in f.pool k) t → IsForest (record { pool = q; roots = slice_set f.roots at k; tidy = f.tidy })
  replaced_forest t s =
      record {
        working = working;
        latch = latch;
        long = length-set f.roots at k ∙ x.long;
        low = low_each;
        apart = apart_each;
        some = some_each;
        tidy = tidy_after;
        versions = (slice_set x.versions.0 at t, replaced_put x.versions.0 t x.versions.1 s);
      }

-- no register has the root 16, in which no tree is
pub nothing_spare : (f : Registers) → IsSpare f 16
nothing_spare f = record { low = lit≤ tt; free = λ lt. absurd (omega (arith, lt)); some = λ lt. absurd (omega (arith, lt)) }

pub nothing_tree : (p : Pool) → IsTree p (block_in p 16) Empty
nothing_tree p = record { stands = block_none p 16 (lit≤ tt); search = tt; balanced = tt }

-- ---- a tree that was made in a root of its own

module _ {hints : Hints} {y z : ℕ} (g : Registers) (q : Pool) (m : Made) (x : IsForest g) (tidy : IsTidy g) (c : CallLeaves {T = Made} hints KeepsNamed (Ok m) g.pool q y z) (rooted : IsRooted m.root m.block g.pool q) (some : m.block ≢ 0) where
  kept_each : KeepsRoots g.roots g.pool q
  kept_each = registers_named g x c.kept

  pub made_forest : IsForest (record { pool = q; roots = g.roots; tidy = false })
  made_forest = forest_over g q false x c.working (c.latch ∙ x.latch) kept_each (λ e. untold e)

  pub made_versions : KeepsVersions g (record { pool = q; roots = g.roots; tidy = false })
  made_versions = versions_over g q false kept_each

  pub made_kept : KeepsRegisters g (record { pool = q; roots = g.roots; tidy = false })
  made_kept = registers_over g q false kept_each

  pub made_spare : IsSpare (record { pool = q; roots = g.roots; tidy = false }) m.root
  made_spare =
      record {
        low = let l = rooted.low in omega arith;
        free = λ lt r lr is. x.some r lr (subst (λ (k : ℕ). k < 16) (sym is) lt) (ap (root_block g.pool) is ∙ rooted.empty);
        some = λ lt e. some (sym rooted.names ∙ e);
      }

  pub made_tree : (t : Tree) → IsTree q m.block t → IsTree q (block_in q m.root) t
  made_tree t s = subst (λ (b : ℕ). IsTree q b t) (sym (block_low q m.root rooted.low ∙ rooted.names)) s

  pub made_alone : (k : ℕ) → k < 16 → k ≢ m.root → IsFree g.roots k → root_block q k ≡ 0
  made_alone k lt ne free = rooted.others k ne ∙ tidy k lt free

-- ---- what is among the roots of registers

pub free_by : (ks : List ℕ) (k : ℕ) (b : Bool) → length ks ≡ 12 → IsAnyAnswer (λ (y : ℕ) (t : Bool). (y == k) ≡ t) ks b → b ≡ false → IsFree ks k
free_by ks k true long all e = absurd (true≢false e)
free_by ks k false long all e = λ r lt is. true≢false (sym (eq-eqb (slice_index ks r) k is) ∙ all r 0 (omega arith) (omega arith))

pub taken_by : (ks : List ℕ) (k : ℕ) (b : Bool) → length ks ≡ 12 → IsAnyAnswer (λ (y : ℕ) (t : Bool). (y == k) ≡ t) ks b → b ≡ true → IsFree ks k → ⊥
taken_by ks k false long any e free = true≢false (sym e)
taken_by ks k true long any e free = let l = any.1 in free any.0 (omega arith) (eqb-true (slice_index ks any.0) k (any.2 0))

-- ---- a line that reads

pub stopped_died : {hints : Hints} {p q : Pool} {x y : ℕ} (e : Stop) → Went p q x y → e ≡ stop.Died → CallStopped hints p q e
stopped_died {hints = hints} {p = p} {q = q} e w d = stopped_here e w.run w.start (cause_died hints p q e d)

pub read_moves : {hints : Hints} {T : Type 0} {x y : ℕ} (f : Registers) (q : Pool) (o : Result T Stop) → IsForest f → Went f.pool q x y → IfOk o (λ v. IsWorking q) → IfOk o (λ v. IsSameLatch f.pool q) → IfOk o (λ v. IsStill f.pool q) → IfErr o (λ e. (e ≡ stop.Died) × (y ≡ 0)) → Moves hints o f (record { pool = q; roots = f.roots; tidy = f.tidy }) x y
read_moves f q (Ok v) x g w l s d = moves_done v g (forest_over f q f.tidy x w (l ∙ x.latch) (λ r lt. root_still (root_at f r) s) (λ t k lt free. s.roots k ∙ x.tidy t k lt free))
read_moves {T = T} f q (Err e) x g w l s d =
    let after : Registers = record { pool = q; roots = f.roots; tidy = f.tidy } in
    record { went = g; forest = alive_died T (IsForest after) e d.0; kept = refused_died T (KeepsRegisters f after) e d.0; cause = stopped_died e g d.0; died = λ v. d.1 }

pub read_died : {T : Type 0} (y : ℕ) (o : Result T Stop) → IfErr o (λ e. (e ≡ stop.Died) × (y ≡ 0)) → IfErr o (λ e. e ≡ stop.Died)
read_died y (Ok v) d = tt
read_died y (Err e) d = d.0

-- a tree that was copied
pub copied_tree : {p q : Pool} (k b : ℕ) (t : Tree) → k < 16 → ((u : Tree) → TreeStands p (root_block p k) u → TreeStands q b u) → IsTree p (block_in p k) t → IsTree q b t
copied_tree {p = p} k b t lt f s = record { stands = f t (subst (λ (d : ℕ). TreeStands p d t) (block_low p k lt) s.stands); search = s.search; balanced = s.balanced }

-- ---- what calls say of a result

pub copied_some : {b : ℕ} (o : Result Made Stop) → b ≢ 0 → IfOk o (λ m. m.block ≡ b) → IfOk o (λ m. m.block ≢ 0)
copied_some (Ok m) some e = λ z. some (sym e ∙ z)
copied_some (Err v) some e = tt

pub emptied_others : {T : Type 0} (k : ℕ) (p q : Pool) (o : Result T Stop) → IfOk o (λ u. IsEmptied k p q) → IfOk o (λ u. (j : ℕ) → j ≢ k → root_block q j ≡ root_block p j)
emptied_others k p q (Ok u) e = λ j ne. e.others j ne
emptied_others k p q (Err v) e = tt

pub emptied_root : {T : Type 0} (A : Type 0) (k : ℕ) (p q : Pool) (o : Result T Stop) → IfOk o (λ u. IsEmptied k p q) → IfOk o (λ u. A → root_block q k ≡ 0)
emptied_root A k p q (Ok u) e = λ a. e.root
emptied_root A k p q (Err v) e = tt

pub put_done : {T : Type 0} (r k : ℕ) (f g h : Registers) (F : List Tree → Tree) (o : Result T Stop) → ((ts : List Tree) → HasVersions f ts → HasVersions g ts × IsTree g.pool (block_in g.pool k) (F ts)) → IfOk o (λ u. IsPut r k g h) → IfOk o (λ u. (ts : List Tree) → HasVersions f ts → HasVersions h (slice_set ts r (F ts)))
put_done r k f g h F (Ok u) on put = λ ts v. (let w = on ts v in put ts (F ts) w.0 w.1)
put_done r k f g h F (Err e) on put = tt

pub got_same : {T : Type 0} (f : Registers) (q : Pool) (b : Bool) (o : Result T Stop) → IfOk o (λ v. IsStill f.pool q) → IfOk o (λ v. KeepsRegisters f (record { pool = q; roots = f.roots; tidy = b }))
got_same f q b (Ok v) s = registers_over f q b (λ r low. root_still (root_at f r) s)
got_same f q b (Err e) s = tt

pub got_versions : (f : Registers) (q : Pool) (b : Bool) (at key : ℕ) (o : Result (Option ℕ) Stop) → at < 12 → IfOk o (λ v. (t : Tree) → TreeStands f.pool (block_in f.pool (root_at f at)) t → v ≡ found key t) → IfOk o (λ v. IsStill f.pool q) → IfOk o (λ v. (ts : List Tree) → HasVersions f ts → (v ≡ found key (version ts at)) × HasVersions (record { pool = q; roots = f.roots; tidy = b }) ts)
got_versions f q b at key (Ok v) lt is s = λ ts w. (is (version ts at) (w.each at lt).stands, versions_over f q b (λ r l. root_still (root_at f r) s) ts w)
got_versions f q b at key (Err e) lt is s = tt

-- a tree at a root's block is one of a register, or there is none
pub registered : {p q : Pool} (k b : ℕ) (t : Tree) → k ≤ 16 → IsStill p q → b ≡ block_in p k → IsTree p (block_in p k) t → IsRegistered q b
registered {p = p} {q = q} k b t le s e w =
    let st : TreeStands q b t = subst (λ (d : ℕ). TreeStands q d t) (sym e) (s.trees (block_in p k) t w.stands) in
    record {
      tree = (t, record { stands = st; search = w.search; balanced = w.balanced });
      named =
          λ some. elim (cases_lt k 16) [
            | inl lt ↦ (k, lt, s.roots k ∙ (sym (block_low p k lt) ∙ sym e))
            | inr ge ↦ absurd (some (e ∙ block_none p k ge))
          ];
    }

pub planted_tree : {p q r s : Pool} (x y b k m : ℕ) (t : Tree) → IsStill p q → IsStill r s → b ≡ block_in p k → ((u : Tree) → TreeStands q b u → TreeStands r m (inserted x y u)) → IsTree p (block_in p k) t → IsTree s m (inserted x y t)
planted_tree {p = p} {q = q} {r = r} {s = s} x y b k m t a c e f w =
    let at : TreeStands q b t = subst (λ (d : ℕ). TreeStands q d t) (sym e) (a.trees (block_in p k) t w.stands) in
    let well = (inserts_well x y t w.search w.balanced).0 in
    record { stands = c.trees m (inserted x y t) (f t at); search = well.search; balanced = well.balanced }

pub is_over_not : (e : Stop) → is_over e ≡ false → e ≢ stop.Died
is_over_not stop.Died h = absurd (true≢false h)
is_over_not (stop.Full s b) h = λ d. true≢false (sym (ap is_over d) ∙ h)
is_over_not (stop.CountFull b c) h = λ d. true≢false (sym (ap is_over d) ∙ h)
is_over_not (stop.EraSpent e) h = λ d. true≢false (sym (ap is_over d) ∙ h)

pub is_over_is : (e : Stop) → is_over e ≡ true → e ≡ stop.Died
is_over_is stop.Died h = refl
is_over_is (stop.Full s b) h = absurd (true≢false (sym h))
is_over_is (stop.CountFull b c) h = absurd (true≢false (sym h))
is_over_is (stop.EraSpent e) h = absurd (true≢false (sym h))

pub alive_is : (T : Type 0) {P : Type 0} (e : Stop) → e ≢ stop.Died → IfAlive {T = T} (Err e) P → P
alive_is T stop.Died ne h = absurd (ne refl)
alive_is T (stop.Full s b) ne h = h
alive_is T (stop.CountFull b c) ne h = h
alive_is T (stop.EraSpent e) ne h = h

pub refused_is : (T : Type 0) {P : Type 0} (e : Stop) → e ≢ stop.Died → IfRefused {T = T} (Err e) P → P
refused_is T stop.Died ne h = absurd (ne refl)
refused_is T (stop.Full s b) ne h = h
refused_is T (stop.CountFull b c) ne h = h
refused_is T (stop.EraSpent e) ne h = h

pub alive_when : (T : Type 0) {P : Type 0} (e : Stop) → (e ≢ stop.Died → P) → IfAlive {T = T} (Err e) P
alive_when T stop.Died h = tt
alive_when T (stop.Full s b) h = h (is_over_not (stop.Full s b) refl)
alive_when T (stop.CountFull b c) h = h (is_over_not (stop.CountFull b c) refl)
alive_when T (stop.EraSpent e) h = h (is_over_not (stop.EraSpent e) refl)

pub refused_when : (T : Type 0) {P : Type 0} (e : Stop) → (e ≢ stop.Died → P) → IfRefused {T = T} (Err e) P
refused_when T stop.Died h = tt
refused_when T (stop.Full s b) h = h (is_over_not (stop.Full s b) refl)
refused_when T (stop.CountFull b c) h = h (is_over_not (stop.CountFull b c) refl)
refused_when T (stop.EraSpent e) h = h (is_over_not (stop.EraSpent e) refl)

-- a line was refused, and what it left is emptied, or that stopped
pub undone_moves : {hints : Hints} {T : Type 0} {f g h : Registers} {x y z : ℕ} (e r : Stop) → IsForest f → e ≢ stop.Died → Moves {T = T} hints (Err e) f g x y → Went g.pool h.pool y z → (r ≢ stop.Died → IsForest h × KeepsRegisters g h) → (r ≡ e) ⊎ CallStopped Off g.pool h.pool r → IsOver r z → Moves {T = T} hints (Err r) f h x z
undone_moves {hints = hints} {T = T} {f = f} {g = g} {h = h} e r w ne m went kept why end =
    let first : KeepsRegisters f g = refused_is T e ne m.kept in
    record {
      went = went_on w.working.run m.went went;
      forest = alive_when T r (λ a. (kept a).0);
      kept = refused_when T r (λ a. registers_then first (kept a).1);
      cause =
          elim why [
            | inl eq ↦ subst (λ (v : Stop). CallStopped hints f.pool h.pool v) (sym eq) (stopped_on e m.cause m.went.run m.went.start went.did)
            | inr s ↦ stopped_after r w.working.run m.went (stopped_by r s)
          ];
      died = end;
    }

-- ---- a key that is taken out

-- no root changed, and all are as tidy as they were
pub same_forest : {hints : Hints} {y z : ℕ} {T : Type 0} {a : T} (g : Registers) (q : Pool) → IsForest g → IsTidy g → CallLeaves {T = T} hints KeepsNamed (Ok a) g.pool q y z → AreSameRoots g.pool q → IsForest (record { pool = q; roots = g.roots; tidy = true })
same_forest g q x tidy c same = forest_over g q true x c.working (c.latch ∙ x.latch) (registers_named g x c.kept) (λ e k lt free. same k ∙ tidy k lt free)

pub same_versions : {hints : Hints} {y z : ℕ} {T : Type 0} {a : T} (g : Registers) (q : Pool) → IsForest g → CallLeaves {T = T} hints KeepsNamed (Ok a) g.pool q y z → KeepsVersions g (record { pool = q; roots = g.roots; tidy = true })
same_versions g q x c = versions_over g q true (registers_named g x c.kept)

pub same_kept : {hints : Hints} {y z : ℕ} {T : Type 0} {a : T} (g : Registers) (q : Pool) → IsForest g → CallLeaves {T = T} hints KeepsNamed (Ok a) g.pool q y z → KeepsRegisters g (record { pool = q; roots = g.roots; tidy = true })
same_kept g q x c = registers_over g q true (registers_named g x c.kept)

-- nothing is left of a tree
pub cleared_tree : (p : Pool) (t : Tree) → t ≡ Empty → IsTree p (block_in p 16) t
cleared_tree p t e = subst (IsTree p (block_in p 16)) (sym e) (nothing_tree p)

-- what a call left that was done, whatever it answered
pub calls_ok : {hints : Hints} {S T : Type 0} {K : Pool → Pool → Type 0} {p q : Pool} {x y : ℕ} {a : T} (b : S) → CallLeaves {T = T} hints K (Ok a) p q x y → CallLeaves {T = S} hints K (Ok b) p q x y
calls_ok b c = record { went = c.went; working = c.working; latch = c.latch; kept = c.kept; cause = tt; died = tt }

-- a removal after which nothing is left of the tree
pub deleted_all : (to from x : ℕ) (f g m h : Registers) → from < 12 → KeepsVersions f g → IsCleared x (root_at g from) g.pool m.pool → KeepsVersions g m → IsPut to 16 m h → (ts : List Tree) → HasVersions f ts → (is_some (found x (version ts from)) ≡ true) × HasVersions h (slice_set ts to (removed x (version ts from)))
deleted_all to from x f g m h lt same gone kept put ts v =
    let w = same ts v in
    let t : Tree = version ts from in
    (gone.had t (w.each from lt), put ts (removed x t) (kept ts w) (cleared_tree m.pool (removed x t) (gone.empty t (w.each from lt))))

-- and one that made a tree
pub deleted_some : (to from x : ℕ) (n : Made) (f g m h : Registers) → from < 12 → KeepsVersions f g → IsLopped x (root_at g from) n g.pool m.pool → KeepsVersions g m → IsPut to n.root m h → (ts : List Tree) → HasVersions f ts → (is_some (found x (version ts from)) ≡ true) × HasVersions h (slice_set ts to (removed x (version ts from)))
deleted_some to from x n f g m h lt same left kept put ts v =
    let w = same ts v in
    let t : Tree = version ts from in
    let made : IsTree m.pool (block_in m.pool n.root) (removed x t) = subst (λ (b : ℕ). IsTree m.pool b (removed x t)) (sym (block_low m.pool n.root left.rooted.low ∙ left.rooted.names)) (left.tree t (w.each from lt)) in
    (left.had t (w.each from lt), put ts (removed x t) (kept ts w) made)

-- ---- what a removal made under the latch, once that is given back

kept_named : (n : ℕ) (o : Option Made) (p q : Pool) → IsKept n o p q → KeepsNamed p q
kept_named n None p q h = named_cut h.0
kept_named n (Some m) p q h = named_cut (built_cut h)

pub removed_named : (x : ℕ) (t : Tree) (o : Option Removed) (p q : Pool) → IsRemoved x t o p q → KeepsNamed p q
removed_named x t None p q h = named_still h.1
removed_named x t (Some w) p q h = kept_named (3 * height t) w.tree p q h.kept

none_empty : (p : Pool) (t : Tree) → TreeStands p 0 t → t ≡ Empty
none_empty p Empty s = refl
none_empty p (Node k n l r) s = absurd (s.0.some refl)

some_found : (o : Option ℕ) → o ≢ None → is_some o ≡ true
some_found None ne = absurd (ne refl)
some_found (Some n) ne = refl

module _ (p q r s : Pool) (x b k : ℕ) (a : IsStill p q) (c : IsStill r s) (e : b ≡ block_in p k) (first : (t : Tree) × IsTree p (block_in p k) t) where
  at : (t : Tree) → IsTree p (block_in p k) t → TreeStands q b t
  at t w = subst (λ (d : ℕ). TreeStands q d t) (sym e) (a.trees (block_in p k) t w.stands)

  taken_is : (o : Option Made) → ((t : Tree) → TreeStands q b t → IsWithout x (3 * height t) t o q r) → IsTaken x k o p s
  taken_is None f =
      record {
        roots = λ j. c.roots j ∙ ((f first.0 (at first.0 first.1)).kept.1 j ∙ a.roots j);
        had = λ t w. some_found (found x t) (f t (at t w)).had;
        empty = λ t w. none_empty r (removed x t) (f t (at t w)).stands;
      }
  taken_is (Some m) f =
      let h = f first.0 (at first.0 first.1) in
      record {
        rooted = planted_rooted a h.kept c;
        some = h.kept.some;
        had = λ t w. some_found (found x t) (f t (at t w)).had;
        tree =
            λ t w.
            (let well = (removes_well x t w.search w.balanced).0 in
            record { stands = c.trees m.block (removed x t) (f t (at t w)).stands; search = well.search; balanced = well.balanced });
      }

  pub pruned_is : (o : Option Removed) → ((t : Tree) → TreeStands q b t → IsRemoved x t o q r) → IsPruned x k o p s
  pruned_is None f =
      record {
        roots = λ j. c.roots j ∙ ((f first.0 (at first.0 first.1)).1.roots j ∙ a.roots j);
        none = λ t w. (f t (at t w)).0;
      }
  pruned_is (Some w) f = taken_is w.tree f
