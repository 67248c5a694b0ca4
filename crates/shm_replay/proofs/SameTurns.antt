-- the turns that a trace gives are determined
use Rattle.std.proofs.Common.{◌≡◌, ℕ, zero, suc, ◌+◌, ◌-◌, ◌<◌, ◌≤◌, ◌⊎◌, false, List, [], ◌∷◌, ◌++◌, replicate, append_assoc, refl, sym, ap, ◌∙◌, subst, arith, inl, inr}
use Rattle.std.proofs.lemmas.Bool.{cases_eq, cases_lt, false≢true}
use Rattle.shm_plain.specs.Pools.{Pool}
use Rattle.shm_script.specs.{declared.line.Item.Item, Values.Traced}
use Rattle.shm_replay.specs.Orders.{AreOfItems, IsGiven, IsGivenAll, IsUntilAnswered, from_on, rounds_of}
use Rattle.shm_replay.specs.Turns.{answered, given, in_a_row, is_busy, is_client_busy}
use Rattle.shm_replay.proofs.Giving.{given-append, idle_row}

apart : (x y : ℕ) → x ≡ y → x ≡ y + 1 → ⊥
apart x y e f = omega arith

rounds_split : (clients m n : ℕ) → rounds_of clients (m + n) ≡ rounds_of clients m ++ rounds_of clients n
rounds_split clients zero n = ap (rounds_of clients) (let e : 0 + n ≡ n = omega arith in e)
rounds_split clients (suc m) n =
    ap (rounds_of clients) (let e : suc m + n ≡ suc (m + n) = omega arith in e)
    ∙ (ap (λ xs. from_on 0 clients ++ xs) (rounds_split clients m n) ∙ sym (append_assoc (from_on 0 clients) (rounds_of clients m) (rounds_of clients n)))

module _ (t : Traced) where
  -- the fewer of two numbers of turns would be the last of the other
  no_fewer : (p : Pool) (c n m : ℕ) → (n ≡ 100000) ⊎ ((answered t (in_a_row t p c n) c ≡ answered t p c + 1) ⊎ (is_client_busy t (in_a_row t p c n) c ≡ false)) → IsUntilAnswered t p c m → n < m → ⊥
  no_fewer p c n m (inl e) b l = let f = b.few in omega arith
  no_fewer p c n m (inr (inl e)) b l = apart (answered t (in_a_row t p c n) c) (answered t p c) (b.going n l).0 e
  no_fewer p c n m (inr (inr e)) b l = false≢true (sym e ∙ (b.going n l).1)

  same_until : (p : Pool) (c n m : ℕ) → IsUntilAnswered t p c n → IsUntilAnswered t p c m → n ≡ m
  same_until p c n m a b =
      elim (cases_lt n m) [
        | inl l ↦ absurd (no_fewer p c n m a.last b l)
        | inr o ↦ elim (cases_lt m n) [
          | inl l ↦ absurd (no_fewer p c m n b.last a l)
          | inr u ↦ omega arith
        ]
      ]

  same_given : (p : Pool) (i : Item) (n m : ℕ) → IsGiven t p i n → IsGiven t p i m → n ≡ m
  same_given p i n m a b =
      elim (cases_eq i.turns 0) [
        | inl e ↦ same_until p i.client n m (a.bare e) (b.bare e)
        | inr o ↦ a.counted o ∙ sym (b.counted o)
      ]

  same_items : (p : Pool) (is : List Item) (cs ds : List ℕ) → AreOfItems t p is cs → AreOfItems t p is ds → cs ≡ ds
  same_items p [] cs ds a b = a ∙ sym b
  same_items p (i ∷ is) cs ds (n, rest, e, g, h) (m, more, f, k, l) =
      let s : n ≡ m = same_given p i n m g k in
      let then : AreOfItems t (in_a_row t p i.client n) is more = subst (λ (x : ℕ). AreOfItems t (in_a_row t p i.client x) is more) (sym s) l in
      e ∙ (ap (λ x. replicate x i.client ++ rest) s ∙ (ap (λ xs. replicate m i.client ++ xs) (same_items (in_a_row t p i.client n) is rest more h then) ∙ sym f))

  -- where no agent has anything to do no turn changes anything
  idle_all : (p : Pool) (cs : List ℕ) → ((c : ℕ) → is_busy t p c ≡ false) → given t p cs ≡ p
  idle_all p [] done = refl
  idle_all p (c ∷ cs) done = ap (λ (x : Pool). given t x cs) (idle_row t p c 1 (done c)) ∙ idle_all p cs done

  rounds_enough : (p : Pool) (cs : List ℕ) (m n : ℕ) → m ≤ n → ((c : ℕ) → is_busy t (given t p (cs ++ rounds_of t.clients m)) c ≡ false) → given t p (cs ++ rounds_of t.clients n) ≡ given t p (cs ++ rounds_of t.clients m)
  rounds_enough p cs m n l done =
      let first : List ℕ = rounds_of t.clients m in
      let more : List ℕ = rounds_of t.clients (n - m) in
      ap (λ k. given t p (cs ++ rounds_of t.clients k)) (let e : n ≡ m + (n - m) = omega arith in e)
      ∙ (ap (λ xs. given t p (cs ++ xs)) (rounds_split t.clients m (n - m))
      ∙ (ap (given t p) (sym (append_assoc cs first more))
      ∙ (given-append t p (cs ++ first) more ∙ idle_all (given t p (cs ++ first)) more done)))

  -- The turns of a trace lead from a pool to one pool
  pub same_turns : (p q r : Pool) → IsGivenAll t p q → IsGivenAll t p r → q ≡ r
  same_turns p q r a b =
      let s : a.items ≡ b.items = same_items p t.order a.items b.items a.ordered b.ordered in
      let to : r ≡ given t p (a.items ++ rounds_of t.clients b.rounds) = b.turns ∙ ap (λ xs. given t p (xs ++ rounds_of t.clients b.rounds)) (sym s) in
      elim (cases_lt a.rounds b.rounds) [
        | inl l ↦ a.turns ∙ (sym (rounds_enough p a.items a.rounds b.rounds (omega arith) (λ c. subst (λ (x : Pool). is_busy t x c ≡ false) a.turns (a.done c))) ∙ sym to)
        | inr o ↦ a.turns ∙ (rounds_enough p a.items b.rounds a.rounds (omega arith) (λ c. subst (λ (x : Pool). is_busy t x c ≡ false) to (b.done c)) ∙ sym to)
      ]
