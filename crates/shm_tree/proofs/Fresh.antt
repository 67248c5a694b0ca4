-- The blocks that came to be live are among those that were made.
use Rattle.std.proofs.Common.{◌≡◌, ℕ, ◌||◌, Bool, true, false, List, [], ◌∷◌, ◌++◌, length, refl, sym, ap, ◌∙◌, arith, inl, inr, true≢false}
use Rattle.std.proofs.lemmas.Bool.{cases_Bool, eqb-true, false≢true}
use Rattle.std.proofs.lemmas.List.Elements.{Contains-append_left, Contains-append_right}
use Rattle.std.specs.List.{AllByRecursion, Contains}
use Rattle.shm_graph.specs.{Blocks.headers, Events.{Event, Alloc, ChangeDown, ChangeUp, Down, Free, Nothing, Up}}
use Rattle.shm_plain.specs.Pools.{IsRun, Pool}
use Rattle.shm_tree.specs.{Keeping.{HasMade, is_live, made_in}, Living.AreFewNew}
use Rattle.shm_tree.proofs.{Frames.{Unmade, dead_kept, makes}, Lights.either, Nodes.from_started, Turns.did_keeps}

-- the blocks that are made by events
abbrev made_by : Event → List ℕ
made_by (Alloc c k b) = b ∷ []
made_by e = []

abbrev made_blocks : List Event → List ℕ
made_blocks [] = []
made_blocks (e ∷ es) = made_by e ++ made_blocks es

as_many : (es : List Event) → length (made_blocks es) ≡ made_in es
as_many [] = refl
as_many (Alloc c k b ∷ es) = let i = as_many es in omega (arith, i)
as_many (Nothing ∷ es) = as_many es
as_many (Up c p b ∷ es) = as_many es
as_many (Down c p b ∷ es) = as_many es
as_many (ChangeUp c p a b ∷ es) = as_many es
as_many (ChangeDown c a ∷ es) = as_many es
as_many (Free c b ∷ es) = as_many es

-- a block is made by one of them
abbrev makes_any : ℕ → List Event → Bool
makes_any b [] = false
makes_any b (e ∷ es) = makes e b || makes_any b es

by_one : (b : ℕ) (e : Event) → makes e b ≡ true → Contains (made_by e) b
by_one b (Alloc c k x) y = (0, omega arith, eqb-true x b y)
by_one b Nothing y = absurd (true≢false (sym y))
by_one b (Up c p x) y = absurd (true≢false (sym y))
by_one b (Down c p x) y = absurd (true≢false (sym y))
by_one b (ChangeUp c p a x) y = absurd (true≢false (sym y))
by_one b (ChangeDown c a) y = absurd (true≢false (sym y))
by_one b (Free c x) y = absurd (true≢false (sym y))

by_any : (b : ℕ) (es : List Event) → makes_any b es ≡ true → Contains (made_blocks es) b
by_any b [] y = absurd (true≢false (sym y))
by_any b (e ∷ es) y =
    elim (either (makes e b) (makes_any b es) y) [
      | inl x ↦ Contains-append_left (made_by e) (made_blocks es) b (by_one b e x)
      | inr x ↦ Contains-append_right (made_by e) (made_blocks es) b (by_any b es x)
    ]

by_none : (b : ℕ) (es : List Event) → makes_any b es ≡ false → AllByRecursion (Unmade b) es
by_none b [] y = tt
by_none b (e ∷ es) y =
    elim (cases_Bool (makes e b)) [
      | inl s ↦ absurd (true≢false (sym (ap (λ (z : Bool). z || makes_any b es) s) ∙ y))
      | inr s ↦ (s, by_none b es (sym (ap (λ (z : Bool). z || makes_any b es) s) ∙ y))
    ]

-- no more blocks came to be live than were made
pub made_few : (n : ℕ) (p q : Pool) → IsRun p → IsRun q → q.start ≡ p.start → HasMade n p q → AreFewNew n p q
made_few n p q hp hq start (es, did, few) = (made_blocks es, (let i = as_many es in omega (arith, i, few)), new)
  where
    new : (b : ℕ) → is_live q b ≡ true → is_live p b ≡ false → Contains (made_blocks es) b
    new b live dead =
        elim (cases_Bool (makes_any b es)) [
          | inl y ↦ by_any b es y
          | inr y ↦ absurd (false≢true (sym (from_started (λ (z : Pool). is_live z b ≡ false) p q start (did_keeps 0 p q es hp hq start did (Unmade b) refl (λ w v. (headers w b).live ≡ false) (dead_kept p.start.geometry 0 b) (by_none b es y) dead)) ∙ live))
        ]
