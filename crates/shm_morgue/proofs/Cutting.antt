-- porters and medics are cut off the first pass, one after the other
use Rattle.std.proofs.Common.{◌≡◌, ℕ, zero, suc, ◌+◌, ◌-◌, ◌<◌, ◌≤◌, List, [], ◌∷◌, ◌++◌, length, sym, ap, ◌∙◌, subst, arith, refl}
use Rattle.crossbeam_queue.specs.Passes.{view}
use Rattle.shm_morgue.specs.{declared.rule.Hands.Hands, Entries.{Puts, Takes, Which, first_medics, first_porters}}
use Rattle.shm_morgue.specs.Hands.{IsMedic, IsPorter, Place, blank_desks, blank_lists, desk, first_entries, first_list, hands}

pub blank_cut : (i n : ℕ) → i < n → blank_desks i (n - i) ≡ desk i [] ∷ blank_desks (i + 1) (n - (i + 1))
blank_cut i n lt =
    let e : n - i ≡ suc (n - (i + 1)) = omega arith in
    let f : suc i ≡ i + 1 = omega arith in
    ap (λ (k : ℕ). blank_desks i k) e ∙ ap (λ (k : ℕ). desk i [] ∷ blank_desks k (n - (i + 1))) f

pub blank_end : (i n : ℕ) → n ≤ i → blank_desks i (n - i) ≡ []
blank_end i n le = let e : n - i ≡ 0 = omega arith in ap (λ (k : ℕ). blank_desks i k) e

pub lists_cut : (i n : ℕ) → i < n → blank_lists (n - i) ≡ [] ∷ blank_lists (n - (i + 1))
lists_cut i n lt = let e : n - i ≡ suc (n - (i + 1)) = omega arith in ap (λ (k : ℕ). blank_lists k) e

one_more : (w : Which) (a n c : ℕ) → c ≡ a + n → first_porters w a n ++ record { of = w; client = c; entries = [] } ∷ [] ≡ first_porters w a (suc n)
one_more w a zero c e = let s : c ≡ a = omega arith in ap (λ (z : ℕ). record { of = w; client = z; entries = [] } ∷ []) s
one_more w a (suc n) c e = ap (λ (l : List Puts). record { of = w; client = a; entries = [] } ∷ l) (one_more w (suc a) n c (omega arith))

pub more_porters : (w : Which) (a n c : ℕ) → c ≡ a + n → first_porters w a n ++ record { of = w; client = c; entries = [] } ∷ [] ≡ first_porters w a (n + 1)
more_porters w a n c e = let s : suc n ≡ n + 1 = omega arith in one_more w a n c e ∙ ap (λ (k : ℕ). first_porters w a k) s

pub porters_long : (w : Which) (c n : ℕ) → length (first_porters w c n) ≡ n
porters_long w c zero = refl
porters_long w c (suc n) = ap suc (porters_long w (suc c) n)

one_medic : (w : Which) (n : ℕ) → first_medics w n ++ record { of = w; entries = [] } ∷ [] ≡ first_medics w (suc n)
one_medic w zero = refl
one_medic w (suc n) = ap (λ (l : List Takes). record { of = w; entries = [] } ∷ l) (one_medic w n)

pub more_medics : (w : Which) (n : ℕ) → first_medics w n ++ record { of = w; entries = [] } ∷ [] ≡ first_medics w (n + 1)
more_medics w n = let s : suc n ≡ n + 1 = omega arith in one_medic w n ∙ ap (λ (k : ℕ). first_medics w k) s

pub new_porter : (p : Place) (i n m : ℕ) → view p ≡ hands (desk i [] ∷ []) [] n m → 0 < n → p.me.1 ≡ [] → IsPorter p i 0
new_porter p i n m v some rest = record {
  view_is = v ∙ sym (λ j. hands (desk i (first_entries (v j).porters) ∷ []) [] (v j).clients (v j).doctors);
  made = subst (λ (k : ℕ). 0 < k) (sym (ap (λ (u : Hands). u.clients) v)) some;
  rest = rest;
  long = ap (λ (u : Hands). length (first_entries u.porters)) v;
}

pub new_medic : (p : Place) (n m : ℕ) → view p ≡ hands [] ([] ∷ []) n m → 0 < n → p.me.1 ≡ [] → IsMedic p
new_medic p n m v some rest = record {
  view_is = v ∙ sym (λ j. hands [] (first_list (v j).medics ∷ []) (v j).clients (v j).doctors);
  made = subst (λ (k : ℕ). 0 < k) (sym (ap (λ (u : Hands). u.clients) v)) some;
  rest = rest;
}
