-- graphs of references that shrink
use Rattle.std.proofs.Common.{◌≡◌, ◌≢◌, ℕ, ◌+◌, ◌*◌, ◌<◌, ◌≤◌, Bool, true, false, ap, ◌∙◌, sym, subst, arith, eqb, cond}
use Rattle.std.proofs.lemmas.Bool.{ne_eqb, cond-true}
use Rattle.shm_graph.specs.declared.spot.Spot.{Spot, TheVariants.{Home, Root, Slot, Body}}
use Rattle.shm_graph.specs.Events.{Graph, IsSame, with_target, with_held_over, with_live}
use Rattle.shm_graph.specs.{References.{sum_below, one_if}, Spots.same_spot}
use Rattle.shm_graph.proofs.{Spots.Spotting.same_spot_self, Runs.Lists.at1_here}
use Rattle.shm_alone.specs.Size.{identities, places, addresses, named, homes_named, roots_named, slots_named, bodies_named, size_of, IsCounted, size_limit}
use Rattle.shm_alone.proofs.Sizes.{sum_most, sum_less, sum_bound}

-- b names no more than a, and has no more live blocks
pub record IsPart (b a : Graph) : Type 0 where
  pub targets : (p : Spot) → named (b.target p) ≤ named (a.target p)
  pub held_overs : (c : ℕ) → named (b.held_over c) ≤ named (a.held_over c)
  pub lives : (x : ℕ) → one_if (b.live x) ≤ one_if (a.live x)

-- ---- each part of the size

roots_most : (t u : Spot → ℕ) → ((p : Spot) → named (t p) ≤ named (u p)) → roots_named t ≤ roots_named u
roots_most t u h = sum_most identities _ _ (λ c. sum_most places _ _ (λ k. h (Root c k)))

slots_most : (t u : Spot → ℕ) → ((p : Spot) → named (t p) ≤ named (u p)) → slots_named t ≤ slots_named u
slots_most t u h = sum_most identities _ _ (λ s. sum_most identities _ _ (λ r. sum_most places _ _ (λ k. h (Slot s r k))))

bodies_most : (wide : Bool) (t u : Spot → ℕ) → ((p : Spot) → named (t p) ≤ named (u p)) → bodies_named wide t ≤ bodies_named wide u
bodies_most wide t u h = sum_most (addresses wide) _ _ (λ b. sum_most places _ _ (λ i. h (Body b i)))

homes_most : (t u : Spot → ℕ) → ((p : Spot) → named (t p) ≤ named (u p)) → homes_named t ≤ homes_named u
homes_most t u h = sum_most identities _ _ (λ c. h (Home c))

-- the references from words
abbrev words_named : Bool → (Spot → ℕ) → ℕ
words_named wide t = homes_named t + roots_named t + slots_named t + bodies_named wide t

words_most : (wide : Bool) (t u : Spot → ℕ) → ((p : Spot) → named (t p) ≤ named (u p)) → words_named wide t ≤ words_named wide u
words_most wide t u h = let x = homes_most t u h in let y = roots_most t u h in let z = slots_most t u h in let v = bodies_most wide t u h in omega arith

words_less : (wide : Bool) (t u : Spot → ℕ) → ((p : Spot) → named (t p) ≤ named (u p)) → (p : Spot) → IsCounted wide p → named (t p) < named (u p) → words_named wide t < words_named wide u
words_less wide t u h (Home c) l e =
    let x : homes_named t < homes_named u = sum_less identities _ _ c l (λ d. h (Home d)) e in
    let y = roots_most t u h in let z = slots_most t u h in let v = bodies_most wide t u h in omega arith
words_less wide t u h (Root c k) l e =
    let y : roots_named t < roots_named u = sum_less identities _ _ c l.0 (λ d. sum_most places _ _ (λ j. h (Root d j))) (sum_less places _ _ k l.1 (λ j. h (Root c j)) e) in
    let x = homes_most t u h in let z = slots_most t u h in let v = bodies_most wide t u h in omega arith
words_less wide t u h (Slot s r k) l e =
    let z : slots_named t < slots_named u =
    sum_less identities _ _ s l.0 (λ a. sum_most identities _ _ (λ b. sum_most places _ _ (λ j. h (Slot a b j))))
    (sum_less identities _ _ r l.1 (λ b. sum_most places _ _ (λ j. h (Slot s b j))) (sum_less places _ _ k l.2 (λ j. h (Slot s r j)) e)) in
    let x = homes_most t u h in let y = roots_most t u h in let v = bodies_most wide t u h in omega arith
words_less wide t u h (Body b i) l e =
    let v : bodies_named wide t < bodies_named wide u = sum_less (addresses wide) _ _ b l.0 (λ d. sum_most places _ _ (λ j. h (Body d j))) (sum_less places _ _ i l.1 (λ j. h (Body b j)) e) in
    let x = homes_most t u h in let y = roots_most t u h in let z = slots_most t u h in omega arith
words_less wide t u h _ l e = absurd l

-- ---- the size

pub size_most : (wide : Bool) (b a : Graph) → IsPart b a → size_of wide b ≤ size_of wide a
unfolding size_of
size_most wide b a h =
    let x = words_most wide b.target a.target h.targets in
    let y = sum_most identities (λ c. named (b.held_over c)) (λ c. named (a.held_over c)) h.held_overs in
    let z = sum_most (addresses wide) (λ d. one_if (b.live d)) (λ d. one_if (a.live d)) h.lives in
    omega arith

-- one word of those that are counted names nothing any more
pub size_less_target : (wide : Bool) (b a : Graph) → IsPart b a → (p : Spot) → IsCounted wide p → named (b.target p) < named (a.target p) → size_of wide b < size_of wide a
unfolding size_of
size_less_target wide b a h p l e =
    let x = words_less wide b.target a.target h.targets p l e in
    let y = sum_most identities (λ c. named (b.held_over c)) (λ c. named (a.held_over c)) h.held_overs in
    let z = sum_most (addresses wide) (λ d. one_if (b.live d)) (λ d. one_if (a.live d)) h.lives in
    omega arith

-- one identity holds nothing over any more
pub size_less_held : (wide : Bool) (b a : Graph) → IsPart b a → (c : ℕ) → c < identities → named (b.held_over c) < named (a.held_over c) → size_of wide b < size_of wide a
unfolding size_of
size_less_held wide b a h c l e =
    let x = words_most wide b.target a.target h.targets in
    let y = sum_less identities (λ d. named (b.held_over d)) (λ d. named (a.held_over d)) c l h.held_overs e in
    let z = sum_most (addresses wide) (λ d. one_if (b.live d)) (λ d. one_if (a.live d)) h.lives in
    omega arith

-- one block isn't live any more
pub size_less_live : (wide : Bool) (b a : Graph) → IsPart b a → (x : ℕ) → x < addresses wide → one_if (b.live x) < one_if (a.live x) → size_of wide b < size_of wide a
unfolding size_of
size_less_live wide b a h d l e =
    let x = words_most wide b.target a.target h.targets in
    let y = sum_most identities (λ c. named (b.held_over c)) (λ c. named (a.held_over c)) h.held_overs in
    let z = sum_less (addresses wide) (λ c. one_if (b.live c)) (λ c. one_if (a.live c)) d l h.lives e in
    omega arith

-- ---- graphs that are the same but for one part

named_some : (x : ℕ) → x ≢ 0 → named x ≡ 1
named_some x n = ap (λ (b : Bool). cond b 0 1) (ne_eqb x 0 n)

named_least : (x : ℕ) (b : Bool) → named (cond b 0 x) ≤ named x
named_least x true = omega arith
named_least x false = omega arith

live_least : (x b : Bool) → one_if (cond b false x) ≤ one_if x
live_least x true = omega arith
live_least x false = omega arith

same_number : (x y z : ℕ) → x ≡ y → named y ≤ named z → named x ≤ named z
same_number x y z e l = subst (λ (n : ℕ). named n ≤ named z) (sym e) l

pub part_same : (a b : Graph) → IsSame a b → IsPart b a
part_same a b e =
    record {
      targets = λ p. let n = ap named (e.targets p) in omega arith;
      held_overs = λ c. let n = ap named (e.held_overs c) in omega arith;
      lives = λ x. let n = ap one_if (e.lives x) in omega arith;
    }

pub part_target : (a b : Graph) (p : Spot) → IsSame (with_target a p 0) b → IsPart b a
part_target a b p e =
    record {
      targets = λ q. same_number (b.target q) _ (a.target q) (e.targets q) (named_least (a.target q) (same_spot p q));
      held_overs = λ c. let n = ap named (e.held_overs c) in omega arith;
      lives = λ x. let n = ap one_if (e.lives x) in omega arith;
    }

pub part_held : (a b : Graph) (c : ℕ) → IsSame (with_held_over a c 0) b → IsPart b a
part_held a b c e =
    record {
      targets = λ p. let n = ap named (e.targets p) in omega arith;
      held_overs = λ d. same_number (b.held_over d) _ (a.held_over d) (e.held_overs d) (named_least (a.held_over d) (eqb c d));
      lives = λ x. let n = ap one_if (e.lives x) in omega arith;
    }

pub part_live : (a b : Graph) (x : ℕ) → IsSame (with_live a x false 0) b → IsPart b a
part_live a b x e =
    record {
      targets = λ p. let n = ap named (e.targets p) in omega arith;
      held_overs = λ c. let n = ap named (e.held_overs c) in omega arith;
      lives = λ y. subst (λ (t : Bool). one_if t ≤ one_if (a.live y)) (sym (e.lives y)) (live_least (a.live y) (eqb x y));
    }

-- ---- and smaller there

-- a word that named a block names nothing
pub down_less : (wide : Bool) (a b : Graph) (p : Spot) (x : ℕ) → IsCounted wide p → x ≢ 0 → a.target p ≡ x → IsSame (with_target a p 0) b → size_of wide b < size_of wide a
down_less wide a b p x l n e s =
    let none : b.target p ≡ 0 = s.targets p ∙ cond-true _ 0 (a.target p) (same_spot_self p) in
    let before : named (a.target p) ≡ 1 = named_some (a.target p) (λ z. n (sym e ∙ z)) in
    let now : named (b.target p) ≡ 0 = ap named none in
    size_less_target wide b a (part_target a b p s) p l (omega arith)

-- a change holds nothing over any more
pub held_less : (wide : Bool) (a b : Graph) (c x : ℕ) → c < identities → x ≢ 0 → a.held_over c ≡ x → IsSame (with_held_over a c 0) b → size_of wide b < size_of wide a
held_less wide a b c x l n e s =
    let none : b.held_over c ≡ 0 = s.held_overs c ∙ at1_here a.held_over c 0 in
    let before : named (a.held_over c) ≡ 1 = named_some (a.held_over c) (λ z. n (sym e ∙ z)) in
    let now : named (b.held_over c) ≡ 0 = ap named none in
    size_less_held wide b a (part_held a b c s) c l (omega arith)

-- a live block is freed
pub free_less : (wide : Bool) (a b : Graph) (x : ℕ) → x < addresses wide → a.live x ≡ true → IsSame (with_live a x false 0) b → size_of wide b < size_of wide a
free_less wide a b x l e s =
    let before : one_if (a.live x) ≡ 1 = ap one_if e in
    let now : one_if (b.live x) ≡ 0 = ap one_if (s.lives x ∙ at1_here a.live x false) in
    size_less_live wide b a (part_live a b x s) x l (omega arith)

-- ---- the greatest

named_one : (x : ℕ) → named x ≤ 1
named_one x = go (eqb x 0)
  where
    go : (b : Bool) → cond b 0 1 ≤ 1
    go true = omega arith
    go false = omega arith

if_one : (b : Bool) → one_if b ≤ 1
if_one true = omega arith
if_one false = omega arith

size_bound : (wide : Bool) (a : Graph) → size_of wide a ≤ identities * 1 + identities * (places * 1) + identities * (identities * (places * 1)) + addresses wide * (places * 1) + identities * 1 + addresses wide * 1
unfolding size_of
size_bound wide a =
    let h : homes_named a.target ≤ identities * 1 = sum_bound identities 1 _ (λ c. named_one (a.target (Home c))) in
    let r : roots_named a.target ≤ identities * (places * 1) = sum_bound identities (places * 1) _ (λ c. sum_bound places 1 _ (λ k. named_one (a.target (Root c k)))) in
    let s : slots_named a.target ≤ identities * (identities * (places * 1)) =
    sum_bound identities (identities * (places * 1)) _ (λ s. sum_bound identities (places * 1) _ (λ r. sum_bound places 1 _ (λ k. named_one (a.target (Slot s r k))))) in
    let b : bodies_named wide a.target ≤ addresses wide * (places * 1) = sum_bound (addresses wide) (places * 1) _ (λ b. sum_bound places 1 _ (λ i. named_one (a.target (Body b i)))) in
    let o : sum_below identities (λ c. named (a.held_over c)) ≤ identities * 1 = sum_bound identities 1 _ (λ c. named_one (a.held_over c)) in
    let l : sum_below (addresses wide) (λ d. one_if (a.live d)) ≤ addresses wide * 1 = sum_bound (addresses wide) 1 _ (λ d. if_one (a.live d)) in
    omega arith

limits : (wide : Bool) → identities * 1 + identities * (places * 1) + identities * (identities * (places * 1)) + addresses wide * (places * 1) + identities * 1 + addresses wide * 1 ≤ size_limit wide
unfolding identities places addresses
limits false = omega arith
limits true = omega arith

-- a graph has at most so many references and blocks
pub size_small : (wide : Bool) (a : Graph) → size_of wide a ≤ size_limit wide
size_small wide a = let x = size_bound wide a in let y = limits wide in omega arith
