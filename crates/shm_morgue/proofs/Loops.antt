-- vectors that are gone through
use Rattle.std.proofs.Common.{◌≡◌, ℕ, zero, suc, ◌+◌, ◌<◌, List, [], ◌∷◌, ◌++◌, length, take, refl, sym, ap, ◌∙◌, subst, arith, length-append, append_assoc, append-nil}
use Rattle.std.proofs.Math.Seq.{take-append_seam}
use Rattle.std.specs.{Prelude.slice_index_or, List.AllByRecursion}
use Rattle.shm_morgue.specs.declared.rule.Taken.{Taken}
use Rattle.shm_morgue.specs.Entries.{Puts, Takes, Which, all_taken, first_medics, first_porters}

-- what stands behind a front
pub seam_at : {X : Type 0} (ys rest all : List X) (x d : X) → ys ++ x ∷ rest ≡ all → slice_index_or all (length ys) d ≡ x
seam_at {X} ys rest all x d is = subst (λ (zs : List X). slice_index_or zs (length ys) d ≡ x) is (go ys)
  where
    go : (zs : List X) → slice_index_or (zs ++ x ∷ rest) (length zs) d ≡ x
    go [] = refl
    go (z ∷ zs) = go zs

pub seam_inside : {X : Type 0} (ys rest all : List X) (x : X) → ys ++ x ∷ rest ≡ all → length ys < length all
seam_inside ys rest all x is = let a = ap length is in let b = length-append ys (x ∷ rest) in omega arith

pub one_more : {X : Type 0} (ys : List X) (x : X) → length (ys ++ x ∷ []) ≡ length ys + 1
one_more ys x = length-append ys (x ∷ [])

-- a list that one more was pushed to
pub pushed : {X : Type 0} (ys zs : List X) (x : X) → zs ≡ ys ++ x ∷ [] → length zs ≡ length ys + 1
pushed ys zs x is = ap length is ∙ one_more ys x

pub seam_next : {X : Type 0} (ys rest all : List X) (x : X) → ys ++ x ∷ rest ≡ all → (ys ++ x ∷ []) ++ rest ≡ all
seam_next ys rest all x is = append_assoc ys (x ∷ []) rest ∙ is

-- what was written back to a vector of so many
pub take_front : {X : Type 0} (xs ys : List X) (n : ℕ) → n ≡ length xs → take n (xs ++ ys) ≡ xs
take_front xs ys n is = ap (λ (k : ℕ). take k (xs ++ ys)) is ∙ take-append_seam xs ys

-- one more element is as its number says
pub each_more : {X : Type 0} (ys zs : List X) (x : X) (P : ℕ → X → Type 0) → zs ≡ ys ++ x ∷ [] → ((i : ℕ) (d : X) → i < length ys → P i (slice_index_or ys i d)) → P (length ys) x → (i : ℕ) (d : X) → i < length zs → P i (slice_index_or zs i d)
each_more {X} ys zs x P is old new i d l = subst (λ (ws : List X). P i (slice_index_or ws i d)) (sym is) (go P ys old new i d (let e = ap length is in omega arith))
  where
    go : (Q : ℕ → X → Type 0) (ws : List X) → ((n : ℕ) (e : X) → n < length ws → Q n (slice_index_or ws n e)) → Q (length ws) x → (n : ℕ) (e : X) → n < length (ws ++ x ∷ []) → Q n (slice_index_or (ws ++ x ∷ []) n e)
    go Q [] before here zero e below = here
    go Q [] before here (suc n) e below = absurd (omega arith)
    go Q (w ∷ ws) before here zero e below = before 0 e (omega arith)
    go Q (w ∷ ws) before here (suc n) e below = go (λ (k : ℕ). Q (suc k)) ws (λ k f under. before (suc k) f (omega arith)) here n e (omega arith)

-- ---- porters

pub first_next : (w : Which) (c n : ℕ) (q : Puts) (qs rest : List Puts) → rest ≡ q ∷ qs → rest ≡ first_porters w c (suc n) → (q ≡ record { of = w; client = c; entries = [] }) × (qs ≡ first_porters w (suc c) n)
first_next w c n q qs rest steps is =
    let e : q ∷ qs ≡ record { of = w; client = c; entries = [] } ∷ first_porters w (suc c) n = sym steps ∙ is in
    (cc, cc)

-- ---- medics

pub medics_first : (w : Which) (n : ℕ) → AllByRecursion (λ (m : Takes). m ≡ record { of = w; entries = [] }) (first_medics w n)
medics_first w zero = tt
medics_first w (suc n) = (refl, medics_first w n)

pub medics_long : (w : Which) (n : ℕ) → length (first_medics w n) ≡ n
medics_long w zero = refl
medics_long w (suc n) = ap suc (medics_long w n)

pub of_more : (w : Which) (ms : List Takes) (m : Takes) → AllByRecursion (λ (z : Takes). z.of ≡ w) ms → m.of ≡ w → AllByRecursion (λ (z : Takes). z.of ≡ w) (ms ++ m ∷ [])
of_more w [] m h one = (one, tt)
of_more w (x ∷ ms) m h one = (h.0, of_more w ms m h.1 one)

pub taken_more : (ms : List Takes) (m : Takes) → all_taken (ms ++ m ∷ []) ≡ all_taken ms ++ m.entries
taken_more [] m = append-nil m.entries
taken_more (x ∷ ms) m = ap (λ (ys : List Taken). x.entries ++ ys) (taken_more ms m) ∙ sym (append_assoc x.entries (all_taken ms) m.entries)

-- ---- places
