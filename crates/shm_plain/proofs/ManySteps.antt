-- many word steps of a machine on a pool: that they may be made, where they end, and what a call leaves
use Rattle.std.proofs.Common.{◌≡◌, ℕ, zero, suc, ◌+◌, ◌<◌, true, false, List, length, refl, sym, ap, ◌∙◌, subst, arith}
use Rattle.std.proofs.lemmas.Bool.{true≢false}
use Rattle.std.specs.{Prelude.{Option, Some, None, IfSome, Vec, slice_index, vec_len}, Option.is_some}
use Rattle.std.specs.declared.alloc.Global.{Global}
use Rattle.shm_graph.specs.declared.{ask.{Ask.Ask, Turn.TheVariants.{More, Done}}, memo.{Memo.Memo, Step.Step}}
use Rattle.shm_graph.specs.{declared.run.Start.Start, Agents.acts, Asks.{Trail, at_of, seen_of, words_set}}
use Rattle.shm_graph.specs.{Laws.{Control, Laws, Outcome, turn_of}, ManySteps.{HasRun, MayRun, Stop}}
use Rattle.shm_graph.specs.Whole.{fits_now, gives_now}
use Rattle.shm_graph.proofs.Machines.Wholes.{whole_inside, whole_keeps}
use Rattle.shm_plain.specs.declared.track.Track.{Track}
use Rattle.shm_plain.specs.Pools.{Pool, pool, IsOf, IsRun, memo_of, next_of, readied, turn_on, turned}
use Rattle.shm_plain.specs.{Calls.{Ran, TookSteps}, ManySteps.{answer_in, by_answer, noted_steps, stop_of}}
use Rattle.shm_plain.specs.Tracks.{noted_at}
use Rattle.shm_plain.proofs.Calling.{Went, died_ran, died_spent, died_took, went_gives, went_on, went_ran, went_spent, went_took}
use Rattle.shm_plain.proofs.Turning.{learned, ready_run, turned_run, within}

-- the words that a pool has
abbrev Words : Type 0
Words = Vec ℕ Global

abbrev MayMake : Words → Ask → Type 0
MayMake v a = at_of a < vec_len v

abbrev WasMade : Words → Ask → Words → Type 0
WasMade v a u = u.items ≡ words_set a v.items

abbrev found : Words → Ask → Words → ℕ
found v a u = seen_of a (slice_index v.items (at_of a))

-- what holds of where a machine goes on, and of where it ends
pub in_cases : {A B : Type 0} (P : B → Type 0) (o : Option A) (b : B) (f : A → B) → (o ≡ None → P b) → ((a : A) → o ≡ Some a → P (f a)) → P (by_answer o b f)
in_cases P None b f g h = g refl
in_cases P (Some a) b f g h = h a refl

or_answers : {A : Type 0} (o : Option A) (P : Type 0) → (o ≡ None → P) → Outcome o P (λ a. Unit {0})
or_answers None P f = f refl
or_answers (Some a) P f = tt

-- ---- the pool that the words and what was noted make

module _ {M A : Type 0} (k : Control M A) (c : ℕ) (s : Start) where
  -- where word steps ended on the words, as an end on a pool for which this was noted
  abbrev pub on_pool : Track → Stop M Words A → Stop M Pool A
  on_pool r z = record { left = z.left; machine = z.machine; words = pool s z.words.items r.accounts r.turns; turn = z.turn }

  abbrev Runs : ℕ → M → Words → Stop M Words A → Type 0
  Runs = HasRun k WasMade found

  -- it is where they end on the pool
  module _ (n : ℕ) (m : M) (w u : Words) (r : Track) (z : Stop M Words A) where
    abbrev t1 : Step
    t1 = next_of k m w.items

    abbrev m1 : M
    m1 = k.after m t1.seen

    abbrev r1 : Track
    r1 = noted_at c t1 r

    one_more : WasMade w (k.asks m) u → (Runs n m1 u z → on_pool (noted_steps k c n m1 u.items r1) z ≡ stop_of k c n m1 (pool s u.items r1.accounts r1.turns)) → (o : Option A)
        → Outcome o (Runs n m1 u z) (λ a. z ≡ record { left = n; machine = m1; words = u; turn = Done a })
        → on_pool (by_answer o (noted_steps k c n m1 (words_set t1.ask w.items) r1) (λ a. r1)) z
        ≡ by_answer o (stop_of k c n m1 (pool s (words_set t1.ask w.items) r1.accounts r1.turns)) (λ a. record { left = n; machine = m1; words = pool s (words_set t1.ask w.items) r1.accounts r1.turns; turn = Done a })
    one_more made later None h = subst (λ (ws : List ℕ). on_pool (noted_steps k c n m1 ws r1) z ≡ stop_of k c n m1 (pool s ws r1.accounts r1.turns)) made (later h)
    one_more made later (Some a) e =
        let end : List ℕ → Stop M Pool A = λ ws. record { left = n; machine = m1; words = pool s ws r1.accounts r1.turns; turn = Done a } in
        ap (λ (y : Stop M Words A). on_pool r1 y) e ∙ ap end made

  pub has_stopped : (n : ℕ) (m : M) (w : Words) (r : Track) (z : Stop M Words A) → HasRun k WasMade found n m w z → on_pool (noted_steps k c n m w.items r) z ≡ stop_of k c n m (pool s w.items r.accounts r.turns)
  has_stopped zero m w r z e = ap (λ (y : Stop M Words A). on_pool r y) e
  has_stopped (suc n) m w r z ran =
      let t : Step = next_of k m w.items in
      one_more n m w ran.0 r z ran.1 (has_stopped n (k.after m t.seen) ran.0 (noted_at c t r) z) (k.turns m t.seen) ran.2

-- ---- from one word step to the next

module _ {M A : Type 0} (k : Control M A) (fits : M → Memo → Memo → Trail → Type 0) (gives : M → Memo → Memo → Trail → A → Type 0) (c : ℕ) (p : Pool) (m0 : M) (x : ℕ) where
  -- how a call ended that had the pool p, the machine m0 and x word steps left: what it leaves, and its answer
  pub record Ended (q : Pool) (m : M) (y : ℕ) (o : Option A) : Type 0 where
    pub gave : (r0 : Memo) → fits_now k fits m0 r0 (memo_of (readied p c) c) → IfSome o (λ a. gives_now gives m0 r0 (memo_of q c) a)
    pub cut : is_some o ≡ false → (k.finished m ≡ false) × ((r0 : Memo) → fits_now k fits m0 r0 (memo_of (readied p c) c) → fits_now k fits m r0 (memo_of (readied q c) c))
    pub ran : Ran c (k.fresh m0) (is_some o) p q x y
    pub spent : 0 < x → k.fresh m0 ≡ true → y + length (memo_of q c).call ≡ x
    pub took : 0 < x → TookSteps k c p m0 q

  abbrev pub EndedAt : Stop M Pool A → Type 0
  EndedAt z = Ended z.words z.machine z.left (answer_in z.turn)

  -- so many word steps are left, and none was the machine's last
  abbrev pub IsAt : Pool → M → ℕ → Type 0
  IsAt q m n = IsRun q × Went k fits gives c p m0 x q m n

  module _ (laws : Laws k fits gives) (of : IsOf p c k m0) (r0 : Memo) (fit : fits_now k fits m0 r0 (memo_of (readied p c) c)) where
    module _ (q : Pool) (m : M) (n : ℕ) (at : IsAt q m (suc n)) where
      abbrev r : Pool
      r = readied q c

      abbrev t : Step
      t = turn_on r k m

      abbrev q' : Pool
      q' = turned r t

      abbrev m' : M
      m' = k.after m t.seen

      ready : IsRun r × (acts (memo_of r c) ≡ true)
      ready = ready_run q c at.0 at.1.of.1 at.1.may

      fits_here : fits_now k fits m r0 (memo_of r c)
      fits_here = at.1.forth r0 fit

      ran_on : IsRun q'
      ran_on = turned_run k (fits_now k fits) (gives_now gives) (whole_keeps k fits gives laws) r c m r0 ready.0 ready.1 at.1.of fits_here

      learns : (s0 : Memo) → fits_now k fits m s0 (memo_of r c) → Outcome (k.turns m t.seen) (fits_now k fits m' s0 (memo_of q' c)) (gives_now gives m s0 (memo_of q' c))
      learns = learned k (fits_now k fits) (gives_now gives) (whole_keeps k fits gives laws) r c m ready.0 at.1.of

      less : n + 1 ≡ suc n
      less = omega arith

      inside : at_of (k.asks m) < length q.words
      inside = within k (fits_now k fits) (gives_now gives) (whole_keeps k fits gives laws) (whole_inside k fits gives laws) r c m r0 ready.0 at.1.of fits_here

      on : k.turns m t.seen ≡ None → IsAt q' m' n
      on none = (ran_on, went_on k fits gives c p m0 x q m (suc n) at.1 q' refl ran_on m' learns laws.steady laws.back refl More (ap (λ (o : Option A). turn_of o) (sym none)) refl n less)

      last : (a : A) → k.turns m t.seen ≡ Some a → Ended q' m' n (Some a)
      last a is =
          record {
            gave = λ s0 f. went_gives k fits gives c p m0 x q m (suc n) at.1 q' refl ran_on m' learns a is s0 f;
            cut = λ none. absurd (true≢false none);
            ran = went_ran k fits gives c p m0 x q m (suc n) at.1 q' refl ran_on laws.steady of is n less;
            spent = λ some fresh. went_spent k fits gives c p m0 x q m (suc n) at.1 q' refl ran_on n less fresh;
            took = λ some. went_took k fits gives c p m0 x q m (suc n) at.1 q' refl ran_on;
          }

    -- no word step is left
    short : (q : Pool) (m : M) → IsAt q m 0 → Ended q m 0 None
    short q m at =
        record {
          gave = λ s0 f. tt;
          cut = λ none. (at.1.of.2, at.1.forth);
          ran = died_ran k fits gives c laws.steady p m0 x q m 0 at.1 at.0 of refl;
          spent = λ some fresh. died_spent k fits gives c p m0 x q m 0 at.1 refl some fresh;
          took = λ some. died_took k fits gives c p m0 x q m 0 at.1 refl some;
        }

    pub ends : (n : ℕ) (m : M) (q : Pool) → IsAt q m n → EndedAt (stop_of k c n m q)
    ends zero m q at = short q m at
    ends (suc n) m q at =
        let t : Step = turn_on (readied q c) k m in
        in_cases (λ (z : Stop M Pool A). EndedAt z) (k.turns m t.seen) (stop_of k c n (k.after m t.seen) (turned (readied q c) t)) (λ a. record { left = n; machine = k.after m t.seen; words = turned (readied q c) t; turn = Done a })
        (λ none. ends n (k.after m t.seen) (turned (readied q c) t) (on q m n at none)) (λ a is. last q m n at a is)

    -- the words of a pool allow them
    pub may_run : (n : ℕ) (m : M) (s : Start) (w : Words) (r : Track) → IsAt (pool s w.items r.accounts r.turns) m n → MayRun k MayMake WasMade found n m w
    may_run zero m s w r at = tt
    may_run (suc n) m s w r at =
        let q : Pool = pool s w.items r.accounts r.turns in
        let t : Step = next_of k m w.items in
        let m' : M = k.after m t.seen in
        let r' : Track = noted_at c t r in (
          at.1.of.2,
          subst (λ (i : ℕ). at_of (k.asks m) < i) (sym w.ok.0) (inside q m n at),
          λ u made. or_answers (k.turns m t.seen) (MayRun k MayMake WasMade found n m' u)
              (λ none. may_run n m' s u r' (subst (λ (ws : List ℕ). IsAt (pool s ws r'.accounts r'.turns) m' n) (sym made) (on q m n at none))),
        )
