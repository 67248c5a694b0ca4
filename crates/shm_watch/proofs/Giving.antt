-- turns in a row and one after the other
use Rattle.std.proofs.Common.{◌≡◌, ℕ, zero, suc, ◌+◌, ◌<◌, ◌≤◌, false, List, [], ◌∷◌, ◌++◌, length, take, replicate, append_assoc, append-nil, refl, sym, ap, ◌∙◌, subst, arith, zero-add, add-zero}
use Rattle.std.specs.{Prelude.{Option, Some, None, slice_index_or}, Option.is_some, List.AllByRecursion}
use Rattle.shm_plain.specs.Pools.{Pool}
use Rattle.shm_script.specs.{declared.line.Item.Item, Ranges.ItemFits, Values.Traced}
use Rattle.shm_agents.specs.{Work.Work, Turns.script_in}
use Rattle.shm_replay.specs.Orders.{AreOfItems, IsGiven, from_on, rounds_of}
use Rattle.shm_replay.specs.Turns.{given, in_a_row, is_busy, life_in, next_of, worked}

module _ (t : Traced) where
  -- first these, and then those
  pub given-append : (p : Pool) (cs ds : List ℕ) → given t p (cs ++ ds) ≡ given t (given t p cs) ds
  given-append p [] ds = refl
  given-append p (c ∷ cs) ds = given-append (worked (next_of t p c) (life_in p c (script_in t.scripts c)) c p) cs ds

  replicate_more : (n c : ℕ) → replicate (n + 1) c ≡ replicate n c ++ c ∷ []
  replicate_more zero c = refl
  replicate_more (suc n) c = ap (λ k. replicate k c) (let e : suc n + 1 ≡ suc (n + 1) = omega arith in e) ∙ ap (λ xs. c ∷ xs) (replicate_more n c)

  -- one more turn in a row
  pub row_more : (p q r : Pool) (c n : ℕ) → q ≡ in_a_row t p c n → r ≡ in_a_row t q c 1 → r ≡ in_a_row t p c (n + 1)
  row_more p q r c n e f = f ∙ (ap (λ (x : Pool). given t x (c ∷ [])) e ∙ sym (ap (given t p) (replicate_more n c) ∙ given-append p (replicate n c) (c ∷ [])))

  idle_next : (o : Option Work) → is_some o ≡ false → o ≡ None
  idle_next None e = refl
  idle_next (Some m) e = absurd (cc)

  -- where nothing is left to do turns change nothing
  pub idle_row : (p : Pool) (c n : ℕ) → is_busy t p c ≡ false → in_a_row t p c n ≡ p
  idle_row p c zero e = refl
  idle_row p c (suc n) e = ap (λ o. given t (worked o (life_in p c (script_in t.scripts c)) c p) (replicate n c)) (idle_next (next_of t p c) e) ∙ idle_row p c n e

  -- so they may follow, however many
  pub row_idle : (p q : Pool) (c n k : ℕ) → q ≡ in_a_row t p c n → is_busy t q c ≡ false → q ≡ in_a_row t p c (n + k)
  row_idle p q c n zero e idle = e ∙ ap (in_a_row t p c) (sym (add-zero n))
  row_idle p q c n (suc k) e idle =
      row_more p q q c (n + k) (row_idle p q c n k e idle) (sym (idle_row q c 1 idle))
      ∙ ap (in_a_row t p c) (let f : n + k + 1 ≡ n + suc k = omega arith in f)

  -- one more item
  pub items_more : (p : Pool) (is : List Item) (i : Item) (cs : List ℕ) (n : ℕ) → AreOfItems t p is cs → IsGiven t (given t p cs) i n → AreOfItems t p (is ++ i ∷ []) (cs ++ replicate n i.client)
  items_more p [] i cs n h g =
      let g2 = subst (λ (xs : List ℕ). IsGiven t (given t p xs) i n) h g in
      (n, [], ap (λ xs. xs ++ replicate n i.client) h ∙ sym (append-nil (replicate n i.client)), g2, refl)
  items_more p (j ∷ is) i cs n (m, rest, e, first, h) g = (
    m,
    rest ++ replicate n i.client,
    ap (λ xs. xs ++ replicate n i.client) e ∙ append_assoc (replicate m j.client) rest (replicate n i.client),
    first,
    items_more (in_a_row t p j.client m) is i rest n h (subst (λ (x : Pool). IsGiven t x i n) (ap (given t p) e ∙ given-append p (replicate m j.client) rest) g),
  )

  pub items_given : (p q : Pool) (cs : List ℕ) (c n : ℕ) → q ≡ given t p cs → (r : Pool) → r ≡ in_a_row t q c n → r ≡ given t p (cs ++ replicate n c)
  items_given p q cs c n e r f = f ∙ (ap (λ (x : Pool). in_a_row t x c n) e ∙ sym (given-append p cs (replicate n c)))

-- one more identity
pub from_more : (c n : ℕ) → from_on c (n + 1) ≡ from_on c n ++ (c + n) ∷ []
from_more c zero = ap (λ k. k ∷ []) (sym (add-zero c))
from_more c (suc n) =
    ap (from_on c) (let e : suc n + 1 ≡ suc (n + 1) = omega arith in e)
    ∙ (ap (λ xs. c ∷ xs) (from_more (suc c) n) ∙ ap (λ k. c ∷ (from_on (suc c) n ++ k ∷ [])) (let e : suc c + n ≡ c + suc n = omega arith in e))

-- one more round
rounds_turn : (clients n : ℕ) → rounds_of clients n ++ from_on 0 clients ≡ from_on 0 clients ++ rounds_of clients n
rounds_turn clients zero = sym (append-nil (from_on 0 clients))
rounds_turn clients (suc n) = append_assoc (from_on 0 clients) (rounds_of clients n) (from_on 0 clients) ∙ ap (λ xs. from_on 0 clients ++ xs) (rounds_turn clients n)

pub rounds_more : (t : Traced) (p q r : Pool) (n : ℕ) → q ≡ given t p (rounds_of t.clients n) → r ≡ given t q (from_on 0 t.clients) → r ≡ given t p (rounds_of t.clients (suc n))
rounds_more t p q r n e f = f ∙ (ap (λ (x : Pool). given t x (from_on 0 t.clients)) e ∙ (sym (given-append t p (rounds_of t.clients n) (from_on 0 t.clients)) ∙ ap (given t p) (rounds_turn t.clients n)))

-- ---- items

-- an item of an order that fits
pub fits_at : (clients : ℕ) (is : List Item) (k : ℕ) (d : Item) → AllByRecursion (ItemFits clients) is → k < length is → ItemFits clients (slice_index_or is k d)
fits_at clients [] k d h l = absurd (omega arith)
fits_at clients (i ∷ is) zero d h l = h.0
fits_at clients (i ∷ is) (suc k) d h l = fits_at clients is k d h.1 (omega arith)

pub take_all : {A : Type 0} (xs : List A) (n : ℕ) → length xs ≤ n → take n xs ≡ xs
take_all [] zero l = refl
take_all [] (suc n) l = refl
take_all (x ∷ xs) zero l = absurd (omega arith)
take_all (x ∷ xs) (suc n) l = ap (λ ys. x ∷ ys) (take_all xs n (omega arith))

-- one more identity of a round
pub from_given : (t : Traced) (p q r : Pool) (n : ℕ) → q ≡ given t p (from_on 0 n) → r ≡ in_a_row t q n 1 → r ≡ given t p (from_on 0 (n + 1))
from_given t p q r n e f =
    f ∙ (ap (λ (x : Pool). given t x (n ∷ [])) e
    ∙ (sym (given-append t p (from_on 0 n) (n ∷ []))
    ∙ ap (given t p) (ap (λ k. from_on 0 n ++ k ∷ []) (sym (zero-add n)) ∙ sym (from_more 0 n))))

pub take_front : {A : Type 0} (xs ys : List A) (n : ℕ) → n ≡ length xs → take n (xs ++ ys) ≡ xs
take_front [] ys zero e = refl
take_front [] ys (suc n) e = absurd (omega arith)
take_front (x ∷ xs) ys zero e = absurd (omega arith)
take_front (x ∷ xs) ys (suc n) e = ap (λ zs. x ∷ zs) (take_front xs ys n (omega arith))
