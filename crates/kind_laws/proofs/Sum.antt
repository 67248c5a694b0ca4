-- targets and the numbers of references
use Rattle.std.proofs.Math.Path.{fun_ext}
use Rattle.std.proofs.Common.{◌≡◌, ◌≢◌, ℕ, zero, suc, ◌+◌, ◌<◌, refl, sym, ap, ◌∙◌, arith, true, false, Bool, cond, eqb, ltb, ltb-true, lt-ltb, subst, inl, inr, ◌⊎◌}
use Rattle.std.proofs.lemmas.Bool.{false_from_ne_true, cond-true}
use Rattle.shm_graph.specs.{References.{one_if, references_to, Words}, Views.at1, declared.spot.Spot.Spot}
use Rattle.shm_graph.specs.declared.spot.Spot.TheVariants.{Spare, Status, Redo, RedoMore, Hold, Latch, Home, Era, Root, Tail, QueueHead, Slot, Segment, Page, Unused, Head, Tag, Body}
use Rattle.shm_graph.specs.{declared.memo.Op.Op, Spots.{same_spot, upd, spot_at, spot_address, IsAt}}
use Rattle.shm_graph.specs.Ops.{Cover, cover, cover_of, covered, target, indegree, Quiet, On}
use Rattle.shm_graph.proofs.{Memos.Frames.at1_all, Runs.Lists.{at1_here, at1_other}}
use Rattle.shm_graph.proofs.Spots.Spotting.{same_spot_is, same_spot_self, alone, in_pool}
use Rattle.shm_graph.proofs.States.Counting.{covered_alone}
use Rattle.kind_laws.proofs.Sums.{sum_but, sum_same}
use Rattle.shm_words.specs.{declared.geometry.Geometry.Geometry, Layout.total_of}

pub covered_same : (n : ℕ) (p : Spot) (x : ℕ) (ps ps' : ℕ → Cover) → ((d : ℕ) → d < n → (y : ℕ) → cover (ps' d) p y ≡ cover (ps d) p y) → covered ps' n p x ≡ covered ps n p x
covered_same zero p x ps ps' h = refl
covered_same (suc n) p x ps ps' h = h n (omega arith) (covered ps' n p x) ∙ ap (cover (ps n) p) (covered_same n p x ps ps' (λ d l. h d (omega arith)))

-- one target changes
pub degree_step : (g : Geometry) (class : ℕ → ℕ → ℕ) (t : Spot → ℕ) (l : ℕ → ℕ) (p : Spot) (x b : ℕ) → IsAt g class p → p ≢ Spare
    → indegree g class (upd t p x) l b + one_if (eqb (t p) b) ≡ indegree g class t l b + one_if (eqb x b)
unfolding indegree references_to
degree_step g class t l p x b at n =
    let q = in_pool g class (spot_address g p) p at n in
    let s = sum_but (total_of g) (spot_address g p) (λ y. one_if (eqb (t (spot_at g class y)) b)) (λ y. one_if (eqb (upd t p x (spot_at g class y)) b)) q.1
    (λ y _ m. let f : same_spot p (spot_at g class y) ≡ false = false_from_ne_true _ (λ e. m (sym (alone g class y p (sym (same_spot_is p (spot_at g class y) e)) n))) in rw f) in
    let h : one_if (eqb (upd t p x (spot_at g class (spot_address g p))) b) ≡ one_if (eqb x b) = (let e : same_spot p (spot_at g class (spot_address g p)) ≡ true = ap (same_spot p) at ∙ same_spot_self p in rw e) in
    let k : one_if (eqb (t (spot_at g class (spot_address g p))) b) ≡ one_if (eqb (t p) b) = ap (λ z. one_if (eqb (t z) b)) at in
    omega arith

-- the same targets by other spots
pub degree_same : (g : Geometry) (class class' : ℕ → ℕ → ℕ) (t : Spot → ℕ) (l : ℕ → ℕ) (b : ℕ) → ((a : ℕ) → t (spot_at g class' a) ≡ t (spot_at g class a)) → indegree g class' t l b ≡ indegree g class t l b
unfolding indegree references_to
degree_same g class class' t l b h =
    let s = sum_same (total_of g) (λ a. one_if (eqb (t (spot_at g class a)) b)) (λ a. one_if (eqb (t (spot_at g class' a)) b)) (λ a _. ap (λ z. one_if (eqb z b)) (h a)) in
    omega arith

-- the number of reference words of some blocks changes where nothing is
pub refs_target : (n : ℕ) (x : Words) (r : ℕ → ℕ) (ps : ℕ → Cover) → ((d : ℕ) → (r d ≡ x.refs d) ⊎ ((i : ℕ) → (i < r d) ⊎ (i < x.refs d) → covered ps n (Body d i) (x.body d i) ≡ 0)) → target n (record x { refs = r }) ps ≡ target n x ps
refs_target n x r ps h = fun_ext go
  where
    body : (d i : ℕ) → (r d ≡ x.refs d) ⊎ ((i : ℕ) → (i < r d) ⊎ (i < x.refs d) → covered ps n (Body d i) (x.body d i) ≡ 0) → cond (ltb i (r d)) (covered ps n (Body d i) (x.body d i)) 0 ≡ cond (ltb i (x.refs d)) (covered ps n (Body d i) (x.body d i)) 0
    body d i (inl e) = rw e refl
    body d i (inr z) = zero_if (ltb i (r d)) refl (inl) ∙ sym (zero_if (ltb i (x.refs d)) refl (inr))
      where
        zero_if : {m : ℕ} (b : Bool) → ltb i m ≡ b → ((i < m) → (i < r d) ⊎ (i < x.refs d)) → cond b (covered ps n (Body d i) (x.body d i)) 0 ≡ 0
        zero_if {m} true e f = z i (f (ltb-true i m e))
        zero_if {m} false e f = refl

    go : (p : Spot) → target n (record x { refs = r }) ps p ≡ target n x ps p
    go (Body d i) = body d i (h d)
    go _ = refl

-- a spot that has a target
abbrev pub HasTarget : (ℕ → ℕ) → Spot → Type 0
HasTarget refs (Home c) = Unit {0}
HasTarget refs (Root c k) = Unit {0}
HasTarget refs (Slot s r k) = Unit {0}
HasTarget refs (Body b i) = i < refs b
HasTarget refs _ = ⊥

-- an op commits: the targets change at its slot alone
pub commit_target : (n : ℕ) (x : Words) (ops : ℕ → Op) (c : ℕ) (o : Op) (p : Spot) (b : ℕ) → c < n → cover_of (ops c) ≡ Quiet → cover_of o ≡ On p b → HasTarget x.refs p
    → ((d : ℕ) → d < n → d ≢ c → (y : ℕ) → cover (cover_of (ops d)) p y ≡ y)
    → target n x (λ d. cover_of (at1 ops c o d)) ≡ upd (target n x (λ d. cover_of (ops d))) p b
commit_target n x ops c o p b lc quiet now has apart = fun_ext go
  where
    new : (q : Spot) → same_spot p q ≡ false → (y : ℕ) → covered (λ d. cover_of (at1 ops c o d)) n q y ≡ covered (λ d. cover_of (ops d)) n q y
    new q e y = covered_same n q y (λ d. cover_of (ops d)) (λ d. cover_of (at1 ops c o d)) (λ d l z. at1_all (λ (i : ℕ) (k : Op). cover (cover_of k) q z ≡ cover (cover_of (ops i)) q z) ops c o d
        (ap (λ k. cover k q z) now ∙ ((let s : cond (same_spot p q) b z ≡ z = rw e in s) ∙ sym (ap (λ k. cover k q z) quiet))) (λ _. refl))

    here : (y : ℕ) → covered (λ d. cover_of (at1 ops c o d)) n p y ≡ b
    here y = covered_alone n c p y (λ d. cover_of (at1 ops c o d)) lc (λ d l ne z. ap (λ k. cover (cover_of k) p z) (at1_other ops c o d (λ e. ne (sym e))) ∙ apart d l ne z)
        ∙ (ap (λ k. cover (cover_of k) p y) (at1_here ops c o) ∙ (ap (λ k. cover k p y) now ∙ cond-true (same_spot p p) b y (same_spot_self p)))

    both : (q : Spot) (y : ℕ) (t : Bool) → same_spot p q ≡ t → covered (λ d. cover_of (at1 ops c o d)) n q y ≡ cond t b (covered (λ d. cover_of (ops d)) n q y)
    both q y true e = subst (λ k. covered (λ d. cover_of (at1 ops c o d)) n k y ≡ b) (same_spot_is p q e) (here y)
    both q y false e = new q e y

    body : (d i : ℕ) (t : Bool) → same_spot p (Body d i) ≡ t → target n x (λ j. cover_of (at1 ops c o j)) (Body d i) ≡ cond t b (target n x (λ j. cover_of (ops j)) (Body d i))
    body d i true e = let l : i < x.refs d = subst (HasTarget x.refs) (same_spot_is p (Body d i) e) has in rw (lt-ltb i (x.refs d) l) (both (Body d i) (x.body d i) true e)
    body d i false e = ap (λ z. cond (ltb i (x.refs d)) z 0) (new (Body d i) e (x.body d i))

    off : (q : Spot) → HasTarget x.refs p → (same_spot p q ≡ true → HasTarget x.refs q → ⊥) → same_spot p q ≡ false
    off q h n = false_from_ne_true _ (λ e. n e (subst (HasTarget x.refs) (same_spot_is p q e) h))

    go : (q : Spot) → target n x (λ d. cover_of (at1 ops c o d)) q ≡ upd (target n x (λ d. cover_of (ops d))) p b q
    go (Home d) = both (Home d) (x.home d) (same_spot p (Home d)) refl
    go (Slot s r i) = both (Slot s r i) (x.slot s r i) (same_spot p (Slot s r i)) refl
    go (Body d i) = body d i (same_spot p (Body d i)) refl
    go (Root d l) = both (Root d l) (x.root d l) (same_spot p (Root d l)) refl
    go Spare = rw (off Spare has (λ _ z. z)) refl
    go (Status d) = rw (off (Status d) has (λ _ z. z)) refl
    go (Redo d) = rw (off (Redo d) has (λ _ z. z)) refl
    go (RedoMore d) = rw (off (RedoMore d) has (λ _ z. z)) refl
    go (Hold d) = rw (off (Hold d) has (λ _ z. z)) refl
    go (Latch d) = rw (off (Latch d) has (λ _ z. z)) refl
    go (Era i j) = rw (off (Era i j) has (λ _ z. z)) refl
    go (Tail s r) = rw (off (Tail s r) has (λ _ z. z)) refl
    go (QueueHead s r) = rw (off (QueueHead s r) has (λ _ z. z)) refl
    go (Segment s) = rw (off (Segment s) has (λ _ z. z)) refl
    go (Page s q) = rw (off (Page s q) has (λ _ z. z)) refl
    go (Unused a) = rw (off (Unused a) has (λ _ z. z)) refl
    go (Head d) = rw (off (Head d) has (λ _ z. z)) refl
    go (Tag d) = rw (off (Tag d) has (λ _ z. z)) refl

-- one block held over changes
pub held_over_step : (g : Geometry) (class : ℕ → ℕ → ℕ) (t : Spot → ℕ) (l l' : ℕ → ℕ) (c b : ℕ) → c < g.clients → ((d : ℕ) → d ≢ c → l' d ≡ l d) → indegree g class t l' b + one_if (eqb (l c) b) ≡ indegree g class t l b + one_if (eqb (l' c) b)
unfolding indegree references_to
held_over_step g class t l l' c b lc h =
    let s = sum_but g.clients c (λ d. one_if (eqb (l d) b)) (λ d. one_if (eqb (l' d) b)) lc (λ d _ n. ap (λ z. one_if (eqb z b)) (h d n)) in
    omega arith
