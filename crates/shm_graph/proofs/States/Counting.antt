-- targets while steps are in progress: which word has one, and that it counts
use Rattle.std.proofs.Common.{◌≡◌, ◌≢◌, ℕ, zero, suc, ◌<◌, ◌≤◌, refl, ap, ◌∙◌, arith, true, false, Bool, cond, eqb, ltb, subst, inl, inr}
use Rattle.std.proofs.lemmas.Bool.{cases_eq, cases_Bool, eq-eqb}
use Rattle.shm_words.specs.{declared.geometry.Geometry.Geometry, Layout.total_of}
use Rattle.shm_graph.specs.declared.spot.Spot.{Spot}
use Rattle.shm_graph.specs.declared.spot.Spot.TheVariants.{Spare, Redo, RedoMore, Home, Era, Root, Slot, Page, Body}
use Rattle.shm_graph.specs.declared.memo.First.{First, TheVariants.{Begun, Committed, Written}}
use Rattle.shm_graph.specs.declared.memo.{ChangeStage.TheVariants.{Raising, Lowering}, Op.Op}
use Rattle.shm_graph.specs.declared.memo.Op.TheVariants.{Nothing, Alloc, Up, Down, Change}
use Rattle.shm_graph.specs.Spots.{same_spot, spot_at, spot_address, IsAt}
use Rattle.shm_graph.specs.References.{sum_below, one_if, references_to, Words, words_of}
use Rattle.shm_graph.specs.Ops.{Cover, cover, cover_of, cover_from, covered, target, slot_of, indegree, is_op}
use Rattle.shm_graph.specs.Held.{OpTie}
use Rattle.shm_graph.proofs.Spots.Spotting.{same_spot_is, in_pool}

-- ---- what a step covers

-- nothing but its slot
pub cover_slot : (o : Op) (p : Spot) → same_spot (slot_of o) p ≡ false → (y : ℕ) → cover (cover_of o) p y ≡ y
cover_slot o p e y = go o e
  where
    from : (s : First) (q : Spot) (x : ℕ) → same_spot q p ≡ false → cover (cover_from s q x) p y ≡ y
    from Begun q x e = refl
    from Committed q x e = rw e refl
    from Written q x e = rw e refl

    go : (o : Op) → same_spot (slot_of o) p ≡ false → cover (cover_of o) p y ≡ y
    go Nothing e = refl
    go (Alloc s q b a) e = from s q b e
    go (Up s q b a) e = from s q b e
    go (Down s q b a) e = from s q 0 e
    go (Change (Raising s) q b d a) e = from s q d e
    go (Change (Lowering s) q b d a) e = refl

-- and nothing where there is no step
pub cover_idle : (o : Op) (p : Spot) → is_op o ≡ false → (y : ℕ) → cover (cover_of o) p y ≡ y
cover_idle Nothing p e y = refl
cover_idle _ p e y = cc

-- where no step covers a word, it is what is covered
pub covered_none : (n : ℕ) (p : Spot) (x : ℕ) (ps : ℕ → Cover) → ((d : ℕ) → d < n → (y : ℕ) → cover (ps d) p y ≡ y) → covered ps n p x ≡ x
covered_none zero p x ps h = refl
covered_none (suc n) p x ps h = h n (omega arith) (covered ps n p x) ∙ covered_none n p x ps (λ d l. h d (omega arith))

-- where only the step of c covers a word, that one decides
pub covered_alone : (n c : ℕ) (p : Spot) (x : ℕ) (ps : ℕ → Cover) → c < n → ((d : ℕ) → d < n → d ≢ c → (y : ℕ) → cover (ps d) p y ≡ y) → covered ps n p x ≡ cover (ps c) p x
covered_alone zero c p x ps l h = absurd (omega arith)
covered_alone (suc n) c p x ps l h =
    elim (cases_eq n c) [
      | inl e ↦ ap (λ k. cover (ps k) p (covered ps n p x)) e ∙ ap (cover (ps c) p) (covered_none n p x ps (λ d q. h d (omega arith) (omega arith)))
      | inr d ↦ h n (omega arith) d (covered ps n p x) ∙ covered_alone n c p x ps (omega arith) (λ k q. h k (omega arith))
    ]

-- what is covered is the word, or the slot of some step
covered_by : (n : ℕ) (p : Spot) (x : ℕ) (ops : ℕ → Op) → covered (λ d. cover_of (ops d)) n p x ≢ x → (d : ℕ) × (d < n) × (is_op (ops d) ≡ true) × (slot_of (ops d) ≡ p)
covered_by zero p x ops h = absurd (h refl)
covered_by (suc n) p x ops h =
    elim (cases_Bool (same_spot (slot_of (ops n)) p)) [
      | inr m ↦ (let r = covered_by n p x ops (λ e. h (cover_slot (ops n) p m _ ∙ e)) in (r.0, omega arith, r.2, r.3))
      | inl s ↦ elim (cases_Bool (is_op (ops n))) [
        | inl o ↦ (n, omega arith, o, same_spot_is (slot_of (ops n)) p s)
        | inr i ↦ (let r = covered_by n p x ops (λ e. h (cover_idle (ops n) p i _ ∙ e)) in (r.0, omega arith, r.2, r.3))
      ]
    ]

-- ---- places

-- the slot of a step is in the pool
pub op_at : (g : Geometry) (class : ℕ → ℕ → ℕ) (redo more own : ℕ) (x : Words) (o : Op) → is_op o ≡ true → OpTie g class redo more own x o → IsAt g class (slot_of o)
op_at g class redo more own x Nothing i h = cc
op_at g class redo more own x (Alloc s p b e) i h = h.at
op_at g class redo more own x (Up s p b e) i h = h.at
op_at g class redo more own x (Down s p b e) i h = h.at
op_at g class redo more own x (Change (Raising s) p a b e) i h = h.at
op_at g class redo more own x (Change (Lowering s) p a b e) i h = h.at

-- a word that names a block is in the pool
pub has_place : (g : Geometry) (w : Spot → ℕ) (ops : ℕ → Op) → ((p : Spot) → w p ≢ 0 → IsAt g (λ s q. w (Page s q)) p) → ((c : ℕ) → c < g.clients → OpTie g (λ s q. w (Page s q)) (w (Redo c)) (w (RedoMore c)) (w (Era c c)) (words_of g.wide w) (ops c)) → (p : Spot) → target g.clients (words_of g.wide w) (λ c. cover_of (ops c)) p ≢ 0 → IsAt g (λ s q. w (Page s q)) p
has_place g w ops there op p h = go p h
  where
    word : (p : Spot) → covered (λ c. cover_of (ops c)) g.clients p (w p) ≢ 0 → IsAt g (λ s q. w (Page s q)) p
    word p h =
        elim (cases_eq (w p) 0) [
          | inr n ↦ there p n
          | inl e ↦ (let r = covered_by g.clients p (w p) ops (λ z. h (z ∙ e)) in subst (IsAt g (λ s q. w (Page s q))) r.3 (op_at g _ _ _ _ (words_of g.wide w) (ops r.0) r.2 (op r.0 r.1)))
        ]

    body : (b i : ℕ) (t : Bool) → cond t (covered (λ c. cover_of (ops c)) g.clients (Body b i) (w (Body b i))) 0 ≢ 0 → IsAt g (λ s q. w (Page s q)) (Body b i)
    body b i true h = word (Body b i) h
    body b i false h = absurd (h refl)

    go : (p : Spot) → target g.clients (words_of g.wide w) (λ c. cover_of (ops c)) p ≢ 0 → IsAt g (λ s q. w (Page s q)) p
    go (Home c) h = word (Home c) h
    go (Root c k) h = word (Root c k) h
    go (Slot s r k) h = word (Slot s r k) h
    go (Body b i) h = body b i (ltb i ((words_of g.wide w).refs b)) h
    go _ h = absurd (h refl)

pub target_not_spare : (n : ℕ) (x : Words) (ps : ℕ → Cover) (p : Spot) → target n x ps p ≢ 0 → p ≢ Spare
target_not_spare n x ps p h e = h (ap (target n x ps) e)

-- ---- numbers of references

-- one of the numbers that are added is no more than the sum
pub sum_has : (n a : ℕ) (f : ℕ → ℕ) → a < n → f a ≤ sum_below n f
sum_has zero a f l = absurd (omega arith)
sum_has (suc n) a f l =
    elim (cases_eq n a) [
      | inl e ↦ (let x : f n ≡ f a = ap f e in omega arith)
      | inr d ↦ (let s = sum_has n a f (omega arith) in omega arith)
    ]

-- a word that names a block is one reference to it
pub indegree_has : (g : Geometry) (class : ℕ → ℕ → ℕ) (t : Spot → ℕ) (l : ℕ → ℕ) (p : Spot) (b : ℕ) → IsAt g class p → p ≢ Spare → t p ≡ b → 1 ≤ indegree g class t l b
unfolding indegree references_to
indegree_has g class t l p b at n e =
    let q = in_pool g class (spot_address g p) p at n in
    let s = sum_has (total_of g) (spot_address g p) (λ a. one_if (eqb (t (spot_at g class a)) b)) q.1 in
    let x : one_if (eqb (t (spot_at g class (spot_address g p))) b) ≡ 1 = ap one_if (eq-eqb _ b (ap t at ∙ e)) in
    omega arith

-- and so is a change that holds it over
pub held_over_has : (g : Geometry) (class : ℕ → ℕ → ℕ) (t : Spot → ℕ) (l : ℕ → ℕ) (c b : ℕ) → c < g.clients → l c ≡ b → 1 ≤ indegree g class t l b
unfolding indegree
held_over_has g class t l c b lc e =
    let s = sum_has g.clients c (λ d. one_if (eqb (l d) b)) lc in
    let x : one_if (eqb (l c) b) ≡ 1 = ap one_if (eq-eqb (l c) b e) in
    omega arith
