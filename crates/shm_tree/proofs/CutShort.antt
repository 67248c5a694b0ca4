-- What shows that a line is cut short: what its parts leave that stopped for want of a word step.
use Rattle.shm_tree.specs.declared.{line.TreeLine.TreeLine, registers.Registers.Registers, stop.Stop.Stop}
use Rattle.shm_tree.specs.{Building.root_block, CutShort.{DiesHalfDone, IsHalfDone}}
use Rattle.shm_tree.specs.Forests.{HasVersions, IsForest, IsFree, IsSpare, IsUnspent, MayBeDone, block_in, root_at, version}
use Rattle.shm_tree.specs.{Standing.IsTree, Trees.{Tree, Empty}}
use Rattle.shm_tree.specs.Working.{AreSameRoots, DiedBegun, IsCutOff, IsInCall, IsUnderWay}
use Rattle.shm_tree.specs.declared.stop.Stop.TheVariants as stop
use Rattle.shm_tree.proofs.Forests.{block_low}
use Rattle.std.proofs.Common.{◌≡◌, ℕ, ◌<◌, Bool, true, false, List, refl, sym, ap, ◌∙◌, subst, arith, Result, Ok, Err, inl, inr, ◌⊎◌}
use Rattle.std.proofs.lemmas.Bool.{cases_lt}
use Rattle.std.specs.{Prelude.{Some, IfErr}, Result.IsErrAnd}
use Rattle.shm_plain.specs.{Calls.Ran, Pools.{Pool, memo_of}}

-- ---- calls

-- what is said of a stop that is handed on
pub handed_err : {T : Type 0} (P : Stop → Type 0) {e : Stop} (o : Result T Stop) → IsErrAnd o (λ v. v ≡ e) → P e → IfErr o P
handed_err P (Ok a) h p = tt
handed_err P (Err v) h p = subst P (sym h) p

-- a call that wasn't answered is in its midst, or nothing was done
pub unanswered : {x y : ℕ} (p q : Pool) → Ran 0 true false p q x y → IsInCall q ⊎ AreSameRoots p q
unanswered {x = x} p q r =
    elim (cases_lt 0 x) [
      | inl lt ↦ inl (r.within refl lt)
      | inr le ↦ inr (λ k. ap (λ (s : Pool). root_block s k) (r.still refl (omega arith)))
    ]

-- a call after one that changed no root
pub roots_begun : (p q r : Pool) → AreSameRoots p q → IsInCall r ⊎ AreSameRoots q r → IsInCall r ⊎ AreSameRoots p r
roots_begun p q r same (inl h) = inl h
roots_begun p q r same (inr h) = inr (λ k. h k ∙ same k)

-- also as it is said of a result
pub copied_off : {T : Type 0} (p q r : Pool) (o : Result T Stop) → AreSameRoots p q → IfErr o (λ e. e ≡ stop.Died → IsInCall r ⊎ AreSameRoots q r) → IfErr o (λ e. e ≡ stop.Died → IsInCall r ⊎ AreSameRoots p r)
copied_off p q r (Ok a) same off = tt
copied_off p q r (Err e) same off = λ d. roots_begun p q r same (off d)

-- where the client held its latch it is under way
pub cut_under : (p q : Pool) → (memo_of p 0).latch ≡ Some 0 → IsCutOff p q → IsUnderWay q
cut_under p q held (inl h) = inl h
cut_under p q held (inr h) = inr (h ∙ held)

-- ---- parts of lines

-- one that hands on a stop
pub off_from : {T : Type 0} (line : TreeLine) (f h : Registers) (x : ℕ) {e : Stop} (o : Result T Stop) → IsErrAnd o (λ v. v ≡ e) → (e ≡ stop.Died → f.tidy ≡ true → 0 < x → IsUnspent h → IsHalfDone line f h) → DiesHalfDone line o f h x
off_from line f h x o is off = handed_err (λ (e : Stop). e ≡ stop.Died → f.tidy ≡ true → 0 < x → IsUnspent h → IsHalfDone line f h) o is off

-- what is under way where it had word steps, first of all calls
pub under_off : {x z : ℕ} (line : TreeLine) (f h : Registers) (e : Stop) → (f.tidy ≡ true → z ≡ x) → (e ≡ stop.Died → 0 < z → IsUnderWay h.pool) → e ≡ stop.Died → f.tidy ≡ true → 0 < x → IsUnspent h → IsHalfDone line f h
under_off line f h e first off d tidy some calm = inl (off d (let same = first tidy in omega (arith, same, some)))

pub read_off : {T : Type 0} (line : TreeLine) (f h : Registers) (x y : ℕ) (o : Result T Stop) → IfErr o (λ e. (e ≡ stop.Died) × (y ≡ 0) × (0 < x → IsUnderWay h.pool)) → DiesHalfDone line o f h x
read_off line f h x y (Ok a) d = tt
read_off line f h x y (Err e) d = λ over tidy some calm. inl (d.2 some)

-- what else is said of a read that stopped
pub read_ended : {T : Type 0} (A : Type 0) (y : ℕ) (o : Result T Stop) → IfErr o (λ e. (e ≡ stop.Died) × (y ≡ 0) × A) → IfErr o (λ e. (e ≡ stop.Died) × (y ≡ 0))
read_ended A y (Ok a) d = tt
read_ended A y (Err e) d = (d.0, d.1)

-- a drop that is the first of all calls
pub first_off : {T : Type 0} (line : TreeLine) (f h : Registers) (p : Pool) (x z : ℕ) (o : Result T Stop) → (f.tidy ≡ true → z ≡ x) → IfErr o (λ e. DiedBegun e p h.pool z) → DiesHalfDone line o f h x
first_off line f h p x z (Ok a) first begun = tt
first_off line f h p x z (Err e) first begun =
    λ d tidy some calm. elim (begun d) [
      | inl busy ↦ inl (inl busy)
      | inr (inl none) ↦ absurd (let same = first tidy in let zero = none.0 in omega (arith, same, zero, some))
      | inr (inr spent) ↦ absurd (calm spent)
    ]

-- a drop before which a tree was made that no register has
pub spare_off : {T : Type 0} (line : TreeLine) (f g h : Registers) (k x z : ℕ) (o : Result T Stop) → k < 16 → IsSpare g k → IfErr o (λ e. DiedBegun e g.pool h.pool z) → IfErr o (λ e. h.roots ≡ g.roots) → DiesHalfDone line o f h x
spare_off line f g h k x z (Ok a) lt s begun kept = tt
spare_off line f g h k x z (Err e) lt s begun kept =
    λ d tidy some calm. elim (begun d) [
      | inl busy ↦ inl (inl busy)
      | inr (inl none) ↦ inr (inl (record { root = k; low = lt; free = subst (λ (ks : List ℕ). IsFree ks k) (sym kept) (s.free lt); some = λ z. s.some lt (sym (none.1 k) ∙ z) }))
      | inr (inr spent) ↦ absurd (calm spent)
    ]

-- nothing was done, and it may be
pub yet : (line : TreeLine) (f h : Registers) → h.roots ≡ f.roots → AreSameRoots f.pool h.pool → ((ts : List Tree) → HasVersions f ts → MayBeDone line ts) → IsHalfDone line f h
yet line f h same roots may = inr (inr (record { registers = same; roots = roots; may = may }))

-- a further root is given to a tree
pub share_off : (line : TreeLine) (f g : Registers) (q : Pool) (b : Bool) (x : ℕ) (e : Stop) → (f.tidy ≡ true → g ≡ f) → ((ts : List Tree) → HasVersions f ts → MayBeDone line ts) → (e ≡ stop.Died → IsInCall q ⊎ AreSameRoots g.pool q) → e ≡ stop.Died → f.tidy ≡ true → 0 < x → IsUnspent (record { pool = q; roots = g.roots; tidy = b }) → IsHalfDone line f (record { pool = q; roots = g.roots; tidy = b })
share_off line f g q b x e first may off d tidy some calm =
    elim (off d) [
      | inl busy ↦ inl (inl busy)
      | inr same ↦ yet line f (record { pool = q; roots = g.roots; tidy = b }) (ap (λ (r : Registers). r.roots) (first tidy)) (subst (λ (r : Registers). AreSameRoots r.pool q) (first tidy) same) may
    ]

-- a drop before which no root changed
pub same_off : (line : TreeLine) (f g h : Registers) (q : Pool) (x z : ℕ) (e : Stop) → (f.tidy ≡ true → g ≡ f) → AreSameRoots g.pool q → ((ts : List Tree) → HasVersions f ts → MayBeDone line ts) → DiedBegun e q h.pool z → h.roots ≡ g.roots → e ≡ stop.Died → f.tidy ≡ true → 0 < x → IsUnspent h → IsHalfDone line f h
same_off line f g h q x z e first same may begun kept d tidy some calm =
    elim (begun d) [
      | inl busy ↦ inl (inl busy)
      | inr (inl none) ↦ (let is = first tidy in yet line f h (kept ∙ ap (λ (r : Registers). r.roots) is) (λ k. none.1 k ∙ (same k ∙ ap (λ (r : Registers). root_block r.pool k) is)) may)
      | inr (inr spent) ↦ absurd (calm spent)
    ]

-- ---- lines that take no word step

-- a register with the empty version is empty
pub empty_root : (f : Registers) (r : ℕ) (ts : List Tree) → IsForest f → r < 12 → HasVersions f ts → version ts r ≡ Empty → root_at f r ≡ 16
empty_root f r ts x lt v e =
    elim (cases_lt (root_at f r) 16) [
      | inl low ↦
          (let tree : IsTree f.pool (block_in f.pool (root_at f r)) Empty = subst (IsTree f.pool (block_in f.pool (root_at f r))) e (v.each r lt) in
          absurd (x.some r lt low (sym (block_low f.pool (root_at f r) low) ∙ tree.stands)))
      | inr le ↦ (let most = x.low r lt in omega (arith, le, most))
    ]

-- or that is so in the same registers
pub root_same : {f g : Registers} (r : ℕ) → g ≡ f → root_at f r ≡ 16 → root_at g r ≡ 16
root_same r is e = ap (λ (h : Registers). root_at h r) is ∙ e
