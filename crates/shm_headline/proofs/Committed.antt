-- which steps the words show as committed: those that the memos have as committed
use Rattle.std.proofs.Common.{◌≡◌, ◌≢◌, ℕ, zero, suc, ◌<◌, ◌≤◌, refl, sym, ap, ◌∙◌, arith, true, false, Bool, cond, eqb, leb, not, inl, inr}
use Rattle.std.proofs.lemmas.Bool.{cases_eq, cases_Bool, or_cases, or_left, or_right, and_from, and_parts, cond-true, cond-false, eq-eqb, eqb-true, eqb-false, ne_eqb, le-leb, leb-true, not-true, not_from_false, false≢true, false_from_ne_true}
use Rattle.std.specs.Prelude.{Option, Some, None}
use Rattle.shm_words.specs.{Headers.header_of, declared.geometry.Geometry.Geometry}
use Rattle.shm_graph.specs.declared.{spot.Spot.{Spot, TheVariants.Era}, memo.First.First}
use Rattle.shm_graph.specs.declared.memo.{First.TheVariants.{Begun, Committed, Written}, Second.Second}
use Rattle.shm_graph.specs.{declared.memo.Second.TheVariants.{Open, Closed}, Blocks.headers}
use Rattle.shm_graph.specs.Ops.{Quiet, On, cover_from, held_over_from, held_over_till, on_from, on_till}
use Rattle.shm_graph.specs.{Views.{View, ons}, Sound.IsSound}
use Rattle.shm_graph.proofs.States.SoundStates.{sound_shown, sound_by_header, sound_by_row}
use Rattle.shm_headline.specs.Now.{is_committed, is_seen_by, some_below}

-- ---- some of the first numbers

some_below_at : (n : ℕ) (f : ℕ → Bool) (k : ℕ) → k < n → f k ≡ true → some_below n f ≡ true
some_below_at zero f k l e = absurd (omega arith)
some_below_at (suc n) f k l e =
    elim (cases_eq n k) [
      | inl q ↦ or_right _ _ (ap f q ∙ e)
      | inr d ↦ or_left _ _ (some_below_at n f k (omega arith) e)
    ]

which_below : (n : ℕ) (f : ℕ → Bool) → some_below n f ≡ true → (k : ℕ) × (k < n) × (f k ≡ true)
which_below zero f e = absurd (false≢true e)
which_below (suc n) f e =
    elim (or_cases (some_below n f) (f n) e) [
      | inl a ↦ (let r = which_below n f a in (r.0, omega arith, r.2))
      | inr b ↦ (n, omega arith, b)
    ]

no_era : (header_of 0).era ≡ 0
unfolding header_of
no_era = refl

-- ---- a step of an identity

module _ (g : Geometry) (w : Spot → ℕ) (v : View) (h : IsSound g w v) (c : ℕ) (lc : c < g.clients) where
  seen_from : (k : ℕ) → k ≢ c → w (Era c c) ≤ w (Era k c) → is_seen_by w c k ≡ true
  seen_from k d l = and_from _ _ (not_from_false _ (ne_eqb k c d)) (le-leb (w (Era c c)) (w (Era k c)) l)

  row_of : (k : ℕ) → is_seen_by w c k ≡ true → (k ≢ c) × (w (Era c c) ≤ w (Era k c))
  row_of k e = let x = and_parts (not (eqb k c)) (leb (w (Era c c)) (w (Era k c))) e in (eqb-false k c (not-true _ x.0), leb-true _ _ x.1)

  -- the own era is no era of a header of 0
  shown_live : (b : ℕ) → (headers w b).era ≡ w (Era c c) → (headers w b).live ≡ true
  shown_live b e =
      elim (cases_Bool (headers w b).live) [
        | inl l ↦ l
        | inr d ↦ (let z : (headers w b).era ≡ 0 = ap (λ x. (header_of x).era) (h.blocks.plain b d) ∙ no_era in let some = h.own c lc in absurd (omega arith))
      ]

  pub committed : (b : ℕ) → ons v c ≡ Some b → is_committed g w c b ≡ true
  committed b e =
      elim (sound_shown g w v h c b lc e) [
        | inl s ↦ or_left _ _ (and_from _ _ (shown_live b s.1) (and_from _ _ (eq-eqb _ _ s.0) (eq-eqb _ _ s.1)))
        | inr r ↦ or_right _ _ (some_below_at g.clients (is_seen_by w c) r.0 r.1 (seen_from r.0 r.2 r.3))
      ]

  by_header : (b : ℕ) → (headers w b).live ≡ true → (headers w b).client ≡ c → (headers w b).era ≡ w (Era c c) → ons v c ≡ Some b
  by_header b l x y = ap (ons v) (sym x) ∙ sound_by_header g w v h b l (let z = ap (λ k. w (Era k k)) x in omega arith)

  some_not_none : {A : Type 0} (x : Option A) (a : A) → x ≡ None → x ≡ Some a → ⊥
  some_not_none x a n s = cc

  pub uncommitted : ons v c ≡ None → (b : ℕ) → is_committed g w c b ≡ false
  uncommitted e b = false_from_ne_true _ (λ t. elim (or_cases _ _ t) [
    | inl s ↦ (let x = and_parts (headers w b).live _ s in let y = and_parts (eqb (headers w b).client c) (eqb (headers w b).era (w (Era c c))) x.1 in some_not_none (ons v c) b e (by_header b x.0 (eqb-true _ _ y.0) (eqb-true _ _ y.1)))
    | inr s ↦ (let r = which_below g.clients (is_seen_by w c) s in let k = row_of r.0 r.2 in let o = sound_by_row g w v h r.0 c r.1 lc k.0 k.1 in some_not_none (ons v c) o.0 e o.1)
  ])

  -- ---- what follows of a stage

  pub gives_from : (s : First) (p : Spot) (x b : ℕ) → ons v c ≡ on_from s b → cond (is_committed g w c b) (On p x) Quiet ≡ cover_from s p x
  gives_from Begun p x b e = cond-false _ _ _ (uncommitted e b)
  gives_from Committed p x b e = cond-true _ _ _ (committed b e)
  gives_from Written p x b e = cond-true _ _ _ (committed b e)

  pub owes_from : (s : First) (a b : ℕ) → ons v c ≡ on_from s b → cond (is_committed g w c b) a 0 ≡ held_over_from s a
  owes_from Begun a b e = cond-false _ _ _ (uncommitted e b)
  owes_from Committed a b e = cond-true _ _ _ (committed b e)
  owes_from Written a b e = cond-true _ _ _ (committed b e)

  pub owes_till : (s : Second) (a : ℕ) → ons v c ≡ on_till s a → cond (is_committed g w c a) 0 a ≡ held_over_till s a
  owes_till Open a e = cond-false _ _ _ (uncommitted e a)
  owes_till Closed a e = cond-true _ _ _ (committed a e)
