-- headers of blocks in use that an allocation passes one after the other
use Rattle.std.proofs.Common.{◌≡◌, ◌≢◌, ℕ, suc, ◌+◌, ◌-◌, ◌/◌, ◌<◌, refl, sym, ap, ◌∙◌, subst, arith, lt-ltb, eq-eqb, ne_eqb}
use Rattle.std.proofs.lemmas.Bool.{cond-true, cond-false}
use Rattle.shm_graph.specs.{declared.ask.Ask.{Ask, TheVariants.Load}, ManySteps.MayRun}
use Rattle.shm_graph.proofs.Machines.ManySteps.{Running, begun, next_may, one_more}
use Rattle.shm_alloc.specs.declared.point.{Goal.Goal, Search.Search, AllocPoint.{AllocPoint, TheVariants.{Header, Tag}}}
use Rattle.shm_alloc.specs.declared.point.{AllocNext.{AllocNext, TheVariants.Point}, AllocState.AllocState}
use Rattle.shm_alloc.specs.Alloc.{Control.{alloc_control, alloc_next, answer_of, block_of, class_asked, point_of}, Passing.{AtHeader, HasPassed}}
use Rattle.shm_alloc.specs.Proved.BlockPlaces.{block_of_next}

-- what has passed goes on from where it began
pub passed_on : {W : Type 0} (may : W → Ask → Type 0) (made : W → Ask → W → Type 0) (seen : W → Ask → W → ℕ) (n : ℕ) (m : AllocState) (w : W) (left : ℕ) (p : AllocState) (v : W) → Running alloc_control may made seen n m w left p v
    → (left' : ℕ) (p' : AllocState) (v' : W) → HasPassed may made seen left p v left' p' v' → Running alloc_control may made seen n m w left' p' v'
passed_on may made seen n m w left p v r left' p' v' h = record { may_go = h.0; rest = λ z x. r.rest z (h.1 z x) }

-- so it has passed, where the life and the state are known by equations
pub passed_so : {W : Type 0} (may : W → Ask → Type 0) (made : W → Ask → W → Type 0) (seen : W → Ask → W → ℕ) (n : ℕ) (m : AllocState) (w : W) (left : ℕ) (p : AllocState) (v : W) → Running alloc_control may made seen n m w left p v
    → (left' : ℕ) (p' : AllocState) → left ≡ left' → p ≡ p' → HasPassed may made seen n m w left' p' v
passed_so may made seen n m w left p v r left' p' e f =
    let x : Running alloc_control may made seen n m w left' p' v = subst (λ (a : AllocState). Running alloc_control may made seen n m w left' a v) f (subst (λ (k : ℕ). Running alloc_control may made seen n m w k p v) e r) in
    (x.may_go, x.rest)

module _ (m : AllocState) (g : Goal) (s : Search) (p i : ℕ) where
  -- the allocation behind so many headers
  abbrev pub behind : ℕ → AllocState
  behind n = record m { point = Header g (record s { used = s.used + n }) p (i + n) }

  -- it goes on behind a block in use, where the page has another one
  goes_behind : (n x : ℕ) → x ≢ 0 → i + n + 1 < 128 / class_asked m.request → alloc_next (behind n) x ≡ Point (behind (n + 1)).point
  goes_behind n x used l =
      let e : i + n + 1 ≡ i + (n + 1) = omega arith in
      let f : s.used + n + 1 ≡ s.used + (n + 1) = omega arith in
      cond-false _ _ _ (ne_eqb x 0 used)
      ∙ (cond-true _ _ _ (lt-ltb (i + n + 1) (128 / class_asked m.request) l)
      ∙ (ap (λ (u : ℕ). Point (Header g (record s { used = u }) p (i + n + 1))) f ∙ ap (λ (j : ℕ). Point (Header g (record s { used = s.used + (n + 1) }) p j)) e))

  -- the tag of a free block is next
  goes_to_tag : (n x at : ℕ) → x ≡ 0 → at ≡ block_of m.me m.request s p (i + n) → alloc_next (behind n) x ≡ Point (Tag g at)
  goes_to_tag n x at free e = cond-true _ _ _ (eq-eqb x 0 free) ∙ ap (λ (b : ℕ). Point (Tag g b)) (sym e)

  -- at the first one nothing was passed
  none_behind : (m0 : AllocState) → m ≡ m0 → m.point ≡ Header g s p i → m0 ≡ behind 0
  none_behind m0 same e =
      let f : s.used ≡ s.used + 0 = omega arith in
      let k : i ≡ i + 0 = omega arith in
      sym same
      ∙ (ap (λ (y : AllocPoint). record m { point = y }) e
      ∙ (ap (λ (u : ℕ). record m { point = Header g (record s { used = u }) p i }) f ∙ ap (λ (j : ℕ). record m { point = Header g (record s { used = s.used + 0 }) p j }) k))

  module _ {W : Type 0} (may : W → Ask → Type 0) (made : W → Ask → W → Type 0) (seen : W → Ask → W → ℕ) (n0 : ℕ) (m0 : AllocState) (w0 : W) (left : ℕ) where
    -- so many headers were passed from there on, and the next one lies at hand
    pub record IsBehind (at n : ℕ) (w : W) : Type 0 where
      pub header : AtHeader m.me m.request (behind n).point at (left - n)
      pub run : Running alloc_control may made seen n0 m0 w0 (n0 - n) (behind n) w

    pub at_first : (at : ℕ) → m ≡ m0 → m.point ≡ Header g s p i → AtHeader m.me m.request m.point at left → MayRun alloc_control may made seen n0 m0 w0 → IsBehind at 0 w0
    at_first at same e h may_go =
        let none : left ≡ left - 0 = omega arith in
        let all : n0 ≡ n0 - 0 = omega arith in
        let here : m0 ≡ behind 0 = none_behind m0 same e in
        record {
          header = subst (λ (n : ℕ). AtHeader m.me m.request (behind 0).point at n) none (subst (λ (y : AllocPoint). AtHeader m.me m.request y at left) (ap (λ (a : AllocState). a.point) (same ∙ here)) h);
          run = subst (λ (n : ℕ). Running alloc_control may made seen n0 m0 w0 n (behind 0) w0) all
              (subst (λ (a : AllocState). Running alloc_control may made seen n0 m0 w0 n0 a w0) here (begun alloc_control may made seen n0 m0 w0 may_go));
        }

    module _ (at n : ℕ) (w : W) (b : IsBehind at n w) (less : n < n0) where
      down : n0 - n ≡ suc (n0 - (n + 1))
      down = omega arith

      -- the header may be read
      pub may_read : may w (Load at)
      may_read =
          let h : may w (Load (block_of m.me m.request s p (i + n))) = (next_may alloc_control may made seen n0 m0 w0 (n0 - n) (n0 - (n + 1)) (behind n) w b.run down).1 in
          subst (λ (a : ℕ). may w (Load a)) (sym b.header.0) h

      module _ (u : W) (done : made w (Load at) u) where
        abbrev found : ℕ → ℕ
        found a = seen w (Load a) u

        -- wherever it goes on to
        one_on : (p' : AllocState) → alloc_next (behind n) (found (block_of m.me m.request s p (i + n))) ≡ Point p'.point → p' ≡ record m { point = p'.point } → Running alloc_control may made seen n0 m0 w0 (n0 - (n + 1)) p' u
        one_on p' goes same =
            one_more alloc_control may made seen n0 m0 w0 (n0 - n) (n0 - (n + 1)) (behind n) w b.run down u (subst (λ (a : ℕ). made w (Load a) u) b.header.0 done)
            p' (same ∙ sym (ap (λ (z : AllocNext). record m { point = point_of z }) goes)) (ap answer_of goes)

        -- the block is in use: the next one lies behind it
        pub one_passed : n < left → (k : ℕ) → k ≡ class_asked m.request → found at ≢ 0 → IsBehind (at + k) (n + 1) u
        one_passed l k class used =
            let h = b.header in
            let first = h.0 in
            let room = h.1 in
            let last = h.2 in
            let x = block_of_next m.me m.request s p (i + n) (omega arith) in
            let index = x.0 in
            let block = x.1 in
            let one : i + n + 1 ≡ i + (n + 1) = omega arith in
            record {
              header = subst (λ (j : ℕ). AtHeader m.me m.request (Header g s p j) (at + k) (left - (n + 1))) one (omega arith, omega arith, omega arith);
              run = one_on (behind (n + 1)) (goes_behind n (found (block_of m.me m.request s p (i + n))) (subst (λ (a : ℕ). found a ≢ 0) first used) (omega arith)) refl;
            }

        -- the block is free: its tag is next
        pub one_found : found at ≡ 0 → Running alloc_control may made seen n0 m0 w0 (n0 - (n + 1)) (record m { point = Tag g at }) u
        one_found free =
            let h = b.header in
            one_on (record m { point = Tag g at }) (goes_to_tag n (found (block_of m.me m.request s p (i + n))) at (subst (λ (a : ℕ). found a ≡ 0) h.0 free) h.0) refl
