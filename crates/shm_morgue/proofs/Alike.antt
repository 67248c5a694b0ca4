-- lists that are each other in another order, with what stands in their items; and the lists of many places, one after the other, of which one place changes
use Rattle.std.proofs.Common.{◌≡◌, ◌≢◌, ℕ, zero, suc, List, [], ◌∷◌, ◌++◌, set, sym, refl, ap, ◌∙◌, subst, append_assoc, append-nil}
use Rattle.std.proofs.lemmas.List.Concat.{flat_map-append}
use Rattle.std.proofs.lemmas.List.Sorted.{IsPermutation-refl, IsPermutation-sym, IsPermutation-trans, IsPermutation-append, IsPermutation-append_comm}
use Rattle.std.specs.List.{flat_map, Sorted.IsPermutation}
use mathlib.Core.Option.{some, some-injective, some-ne-none}
use lib.ListN.{get_elem?}
use Rattle.crossbeam_queue.proofs.Lists.{set_else}

module _ {X Y : Type 0} (g : X → List Y) where
  pub record Alike (xs ys : List X) : Type 0 where
    pub items : IsPermutation xs ys
    pub inner : IsPermutation (flat_map g xs) (flat_map g ys)

  pub alike_same : (xs : List X) → Alike xs xs
  alike_same xs = record { items = IsPermutation-refl xs; inner = IsPermutation-refl (flat_map g xs) }

  pub alike_back : (xs ys : List X) → Alike xs ys → Alike ys xs
  alike_back xs ys a = record { items = IsPermutation-sym xs ys a.items; inner = IsPermutation-sym (flat_map g xs) (flat_map g ys) a.inner }

  pub alike_on : (xs ys zs : List X) → Alike xs ys → Alike ys zs → Alike xs zs
  alike_on xs ys zs a b = record {
    items = IsPermutation-trans xs ys zs a.items b.items;
    inner = IsPermutation-trans (flat_map g xs) (flat_map g ys) (flat_map g zs) a.inner b.inner;
  }

  pub alike_both : (xs ys us vs : List X) → Alike xs ys → Alike us vs → Alike (xs ++ us) (ys ++ vs)
  alike_both xs ys us vs a b = record {
    items = IsPermutation-append xs ys us vs a.items b.items;
    inner = subst (λ (l : List Y). IsPermutation l (flat_map g (ys ++ vs))) (sym (flat_map-append g xs us))
        (subst (λ (l : List Y). IsPermutation (flat_map g xs ++ flat_map g us) l) (sym (flat_map-append g ys vs))
        (IsPermutation-append (flat_map g xs) (flat_map g ys) (flat_map g us) (flat_map g vs) a.inner b.inner));
  }

  pub alike_swap : (xs ys : List X) → Alike (xs ++ ys) (ys ++ xs)
  alike_swap xs ys = record {
    items = IsPermutation-append_comm xs ys;
    inner = subst (λ (l : List Y). IsPermutation l (flat_map g (ys ++ xs))) (sym (flat_map-append g xs ys))
        (subst (λ (l : List Y). IsPermutation (flat_map g xs ++ flat_map g ys) l) (sym (flat_map-append g ys xs)) (IsPermutation-append_comm (flat_map g xs) (flat_map g ys)));
  }

  -- the middle one of three comes to the front
  pub alike_front : (a b c : List X) → Alike (a ++ (b ++ c)) (b ++ (a ++ c))
  alike_front a b c = subst (λ (l : List X). Alike l (b ++ (a ++ c))) (append_assoc a b c)
      (subst (λ (l : List X). Alike ((a ++ b) ++ c) l) (append_assoc b a c) (alike_both (a ++ b) (b ++ a) c c (alike_swap a b) (alike_same c)))

module _ {V X Y : Type 0} (f : V → List X) (g : X → List Y) where
  -- what stands at the place i, and what stands at the others
  pub record Parted (vs : List V) (i : ℕ) (v : V) : Type 0 where
    pub others : List X
    pub old : Alike g (flat_map f vs) (f v ++ others)
    pub new : (w : V) → Alike g (flat_map f (set vs i w)) (f w ++ others)

  pub parted : (vs : List V) (i : ℕ) (v : V) → get_elem? vs i ≡ some v → Parted vs i v
  parted [] i v e = absurd (some-ne-none v (sym e))
  parted (u ∷ us) zero v e = record {
    others = flat_map f us;
    old = subst (λ (y : V). Alike g (f u ++ flat_map f us) (f y ++ flat_map f us)) (some-injective u v e) (alike_same g (f u ++ flat_map f us));
    new = λ w. alike_same g (f w ++ flat_map f us);
  }
  parted (u ∷ us) (suc i) v e =
      let p = parted us i v e in
      let put : (w : V) (l : List X) → Alike g l (f w ++ p.others) → Alike g (f u ++ l) (f w ++ (f u ++ p.others)) = λ w l a.
      alike_on g (f u ++ l) (f u ++ (f w ++ p.others)) (f w ++ (f u ++ p.others)) (alike_both g (f u) (f u) l (f w ++ p.others) (alike_same g (f u)) a) (alike_front g (f u) (f w) p.others) in
      record { others = f u ++ p.others; old = put v (flat_map f us) p.old; new = λ w. put w (flat_map f (set us i w)) (p.new w) }

  -- a place is cut in two
  pub alike_forked : (vs : List V) (i : ℕ) (v l r : V) → get_elem? vs i ≡ some v → Alike g (f v) (f l ++ f r) → Alike g (flat_map f vs) (flat_map f (set vs i l ++ r ∷ []))
  alike_forked vs i v l r e cut =
      let p = parted vs i v e in
      let o : List X = p.others in
      let one : Alike g (flat_map f vs) ((f l ++ f r) ++ o) = alike_on g (flat_map f vs) (f v ++ o) ((f l ++ f r) ++ o) p.old (alike_both g (f v) (f l ++ f r) o o cut (alike_same g o)) in
      let two : Alike g ((f l ++ f r) ++ o) (f l ++ (o ++ f r)) = subst (λ (z : List X). Alike g z (f l ++ (o ++ f r))) (sym (append_assoc (f l) (f r) o))
      (alike_both g (f l) (f l) (f r ++ o) (o ++ f r) (alike_same g (f l)) (alike_swap g (f r) o)) in
      let three : Alike g (f l ++ (o ++ f r)) (flat_map f (set vs i l) ++ f r) = subst (λ (z : List X). Alike g z (flat_map f (set vs i l) ++ f r)) (append_assoc (f l) o (f r))
      (alike_both g (f l ++ o) (flat_map f (set vs i l)) (f r) (f r) (alike_back g (flat_map f (set vs i l)) (f l ++ o) (p.new l)) (alike_same g (f r))) in
      let end : flat_map f (set vs i l) ++ f r ≡ flat_map f (set vs i l ++ r ∷ []) = ap (λ (z : List X). flat_map f (set vs i l) ++ z) (sym (append-nil (f r))) ∙ sym (flat_map-append f (set vs i l) (r ∷ [])) in
      subst (Alike g (flat_map f vs)) end
      (alike_on g (flat_map f vs) ((f l ++ f r) ++ o) (flat_map f (set vs i l) ++ f r) one (alike_on g ((f l ++ f r) ++ o) (f l ++ (o ++ f r)) (flat_map f (set vs i l) ++ f r) two three))

  set_twice : (vs : List V) (i j : ℕ) (a b : V) → j ≢ i → set (set vs i a) j b ≡ set (set vs j b) i a
  set_twice [] i j a b n = refl
  set_twice (v ∷ vs) zero zero a b n = absurd (n refl)
  set_twice (v ∷ vs) zero (suc j) a b n = refl
  set_twice (v ∷ vs) (suc i) zero a b n = refl
  set_twice (v ∷ vs) (suc i) (suc j) a b n = ap (λ (l : List V). v ∷ l) (set_twice vs i j a b (λ e. n (ap suc e)))

  -- a place takes in what stands at another
  pub alike_merged : (vs : List V) (i j : ℕ) (v w both spent : V) → get_elem? vs i ≡ some v → j ≢ i → get_elem? (set vs i both) j ≡ some w → f both ≡ f w ++ f v → f spent ≡ []
      → Alike g (flat_map f vs) (flat_map f (set (set vs i both) j spent))
  alike_merged vs i j v w both spent e apart e' is none =
      let p = parted vs j w (sym (set_else vs i j both apart) ∙ e') in
      let ws : List V = set vs j spent in
      let q = parted ws i v (set_else vs j i spent (λ z. apart (sym z)) ∙ e) in
      let o : List X = p.others in
      let rest : Alike g o (flat_map f ws) = alike_back g (flat_map f ws) o (subst (λ (z : List X). Alike g (flat_map f ws) (z ++ o)) none (p.new spent)) in
      let inner : Alike g o (f v ++ q.others) = alike_on g o (flat_map f ws) (f v ++ q.others) rest q.old in
      let one : Alike g (flat_map f vs) (f w ++ (f v ++ q.others)) = alike_on g (flat_map f vs) (f w ++ o) (f w ++ (f v ++ q.others)) p.old (alike_both g (f w) (f w) o (f v ++ q.others) (alike_same g (f w)) inner) in
      let end : f w ++ (f v ++ q.others) ≡ f both ++ q.others = sym (append_assoc (f w) (f v) q.others) ∙ ap (λ (z : List X). z ++ q.others) (sym is) in
      subst (λ (z : List V). Alike g (flat_map f vs) (flat_map f z)) (sym (set_twice vs i j both spent apart))
      (alike_on g (flat_map f vs) (f both ++ q.others) (flat_map f (set ws i both)) (subst (Alike g (flat_map f vs)) end one) (alike_back g (flat_map f (set ws i both)) (f both ++ q.others) (q.new both)))
