-- what is owed of a commit test
use Rattle.std.proofs.Common.{◌≡◌, ◌≢◌, ℕ, ◌+◌, ◌<◌, ◌≤◌, refl, sym, ap, ◌∙◌, subst, arith, Bool, true, false, cond, eqb, ◌&&◌, List, [], ◌∷◌, ◌++◌, inl, inr}
use Rattle.std.proofs.lemmas.Bool.{and_from, and_parts, cases_eq, cases_lt, cond-false, cond-true, eq-eqb, eqb-false, eqb-true, le-ltb, lt-ltb, ltb-false, ltb-true, ne_eqb}
use Rattle.std.proofs.lemmas.List.Elements.{Contains-append_right}
use Rattle.std.specs.{Prelude.{nat_lt, ◌⊎◌, Option, Some, None}, List.Contains}
use Rattle.shm_words.specs.Layout.{total_of}
use Rattle.shm_graph.specs.declared.{ask.{Ask.{Ask, TheVariants.Load}, Me.Me}, spot.Spot.Spot}
use Rattle.shm_graph.specs.declared.{spot.Spot.TheVariants.{Era, Head, Spare}, memo.Fact.TheVariants.Counter}
use Rattle.shm_graph.specs.{declared.memo.Memo.Memo, Agents.recovers, Asks.{Trail, IsWithin, at_of, pair, seen_of}}
use Rattle.shm_graph.specs.{Blocks.classes, Core.core, Events.Event, Laws.{Frame, Outcome, Stands}, Ops.on_of}
use Rattle.shm_graph.specs.{MemoAfterRead.{next_row, test_from, test_on}, Spots.spot_at, Views.own_word}
use Rattle.shm_graph.proofs.Spots.Spotting.{spot_zero}
use Rattle.plans.specs.{Proved.CallTells.within_more, Parts.IsHeld, Plans.{Follows, PlanLaws, PlanStays}}
use Rattle.plans.specs.Words.{IsWord, word_control, word_part, word_part_laws}
use Rattle.kind_parts.specs.WordParts.{TestBegun}
use Rattle.kind_parts.proofs.Words.Test.{test_begin, test_row, test_spare}
use Rattle.shm_count.specs.declared.commit_test.Commit.{Commit, TheVariants.{Committed, NotCommitted}}
use Rattle.shm_count.specs.declared.commit_test.TestingPoint.{TestingPoint, TheVariants.{Header, Row}}
use Rattle.shm_count.specs.declared.commit_test.TestingState.{TestingState}
use Rattle.shm_count.specs.CommitTest.Control.{is_header, is_shown, test_ask, test_call, test_next, test_step, testing, testing_steered}
use Rattle.shm_count.specs.CommitTest.{record_in, HasTest, IsTesting, MayTest, TestFound, TestKnows, TestLeaves, rows_to, step_block, test_part, testing_plan}
use Rattle.shm_count.specs.Proved.CommitTest.StepTrail.{one_read, read_part_laws}
use Rattle.shm_count.specs.Proved.CommitTest.Shown.{block_here, by_header, by_none, by_row, none_there, spare_hidden}
use Rattle.shm_count.specs.declared.commit_test.Proof.TheVariants as proof

-- ---- rows

row_least : (c k : ℕ) → k ≤ next_row c k
row_least c k = go (eqb k c)
  where
    go : (q : Bool) → k ≤ cond q (k + 1) k
    go true = omega arith
    go false = omega arith

row_most : (c k : ℕ) → next_row c k ≤ k + 1
row_most c k = go (eqb k c)
  where
    go : (q : Bool) → cond q (k + 1) k ≤ k + 1
    go true = omega arith
    go false = omega arith

row_same : (c k : ℕ) → k ≢ c → next_row c k ≡ k
row_same c k other = cond-false (eqb k c) (k + 1) k (ne_eqb k c other)

-- the next row is another's
another : (c k : ℕ) → next_row c k ≢ c
another c k = go (eqb k c) (eqb-true k c) (eqb-false k c)
  where
    go : (q : Bool) → (q ≡ true → k ≡ c) → (q ≡ false → k ≢ c) → cond q (k + 1) k ≢ c
    go true is other e = let x = is refl in absurd (omega arith)
    go false is other e = other refl e

-- how many words are read before a row
rows_after : (c k : ℕ) → c < k → rows_to c k ≡ k
rows_after c k l = cond-true (nat_lt c k) k (k + 1) (lt-ltb c k l)

rows_before : (c k : ℕ) → k ≤ c → rows_to c k ≡ k + 1
rows_before c k l = cond-false (nat_lt c k) k (k + 1) (le-ltb c k l)

rows_next : (c k : ℕ) → rows_to c k ≡ rows_to c (next_row c k)
rows_next c k = go (eqb k c) (eqb-true k c)
  where
    go : (q : Bool) → (q ≡ true → k ≡ c) → rows_to c k ≡ rows_to c (cond q (k + 1) k)
    go true is = let e = is refl in rows_before c k (omega arith) ∙ sym (rows_after c (k + 1) (omega arith))
    go false is = refl

-- one row more was read
rows_more : (c k : ℕ) → k ≢ c → rows_to c (k + 1) ≡ rows_to c k + 1
rows_more c k other = elim (cases_lt c k) [
  | inl l ↦ rows_after c (k + 1) (omega arith) ∙ ap (λ n. n + 1) (sym (rows_after c k l))
  | inr l ↦ rows_before c (k + 1) (omega arith) ∙ ap (λ n. n + 1) (sym (rows_before c k l))
]

-- so many that there are no more than clients
rows_most : (c k n : ℕ) → c < n → k ≤ n → n ≤ next_row c k → rows_to c k ≤ n
rows_most c k n low most last =
    let e = rows_next c k in
    let f = rows_after c (next_row c k) (omega arith) in
    let g = row_most c k in
    elim (cases_eq k c) [ inl is ↦ omega arith | inr other ↦ (let h = row_same c k other in omega arith) ]

-- ---- the loads

-- a word step finds besides what a held state shows of the word
also : (first : Bool) (me : Me) (a : Ask) (after : Memo → ℕ → Memo → Type 0) (shows : Memo → ℕ → Type 0) (m : Memo)
    → ((w : Spot → ℕ) (r : ℕ → Memo) (f : Frame) → Stands me w r f [] → r me.who ≡ m → shows m (seen_of a (w (spot_at me.geometry (classes w) (at_of a)))))
    → IsWord first me a after (record { me = me; ask = a; over = false }) m → IsWord first me a (λ r n x. after r n x × shows r n) (record { me = me; ask = a; over = false }) m
also first me a after shows m held h =
    record {
      made = h.made;
      inside = h.inside;
      kept = λ w r f st may same. let k = h.kept w r f st may same in record { told = k.told; step = k.step; fits = (k.fits, held w r f st same) };
      quiet = h.quiet;
    }

opens : (m : TestingState) (y : TestingPoint) (r0 r : Memo) (tr : Trail) (es : List Event) → TestKnows (record m { point = y }) y r0 r tr es → (test_part (record m { point = y }) y).needs (test_call m y) r
opens m Header r0 r tr es (may0, same, none, quiet) =
    let may : MayTest m.me m.block m.era r = subst (MayTest m.me m.block m.era) (sym same) may0 in
    also true m.me (Load m.block) (TestBegun m.me.geometry m.me.who m.block) (λ x n. is_shown m.me.who m.era n ≡ true → on_of x.op ≡ Some m.block) r
    (λ w rs f st at shown. shows may w rs st at (cases_eq m.block 0) shown)
    (loads may (cases_eq m.block 0))
  where
    era_is : MayTest m.me m.block m.era r → (w : Spot → ℕ) (rs : ℕ → Memo) → rs m.me.who ≡ r → own_word (rs m.me.who).own (Era m.me.who m.me.who) ≡ m.era
    era_is may w rs at = ap (λ (x : Memo). own_word x.own (Era m.me.who m.me.who)) at ∙ may.era

    there : MayTest m.me m.block m.era r → m.block ≢ 0 → (w : Spot → ℕ) (rs : ℕ → Memo) {f : Frame} → Stands m.me w rs f [] → rs m.me.who ≡ r → spot_at m.me.geometry (classes w) m.block ≡ Head m.block
    there may some w rs st at = block_here m.me w rs st.held may.who m.block m.era some (subst (λ (x : Memo). step_block (record_in m.me x) m.era ≡ Some m.block) (sym at) may.named)

    -- the header of a block, or word 0
    loads : MayTest m.me m.block m.era r → (m.block ≡ 0) ⊎ (m.block ≢ 0) → IsWord true m.me (Load m.block) (TestBegun m.me.geometry m.me.who m.block) (record { me = m.me; ask = Load m.block; over = false }) r
    loads may (inl none) =
        subst (λ b. IsWord true m.me (Load b) (TestBegun m.me.geometry m.me.who b) (record { me = m.me; ask = Load b; over = false }) r) (sym none)
        (test_spare true m.me r may.who may.recoverer (subst (λ b. b < total_of m.me.geometry) none may.inside))
    loads may (inr some) = test_begin true m.me r may.who may.recoverer m.block (omega arith, may.inside) (λ w rs f st at. there may some w rs st at)

    shows : (may : MayTest m.me m.block m.era r) (w : Spot → ℕ) (rs : ℕ → Memo) {f : Frame} → Stands m.me w rs f [] → rs m.me.who ≡ r → (m.block ≡ 0) ⊎ (m.block ≢ 0) → is_shown m.me.who m.era (w (spot_at m.me.geometry (classes w) m.block)) ≡ true → on_of r.op ≡ Some m.block
    shows may w rs st at (inl none) shown =
        let at_zero : spot_at m.me.geometry (classes w) m.block ≡ Spare = ap (spot_at m.me.geometry (classes w)) none ∙ spot_zero m.me.geometry (classes w) in
        absurd (spare_hidden m.me w rs st.held may.who (subst (λ e. is_shown m.me.who e (w Spare) ≡ true) (sym (era_is may w rs at)) (subst (λ p. is_shown m.me.who m.era (w p) ≡ true) at_zero shown)))
    shows may w rs st at (inr some) shown =
        subst (λ (x : Memo). on_of x.op ≡ Some m.block) at
        (by_header m.me w rs st.held may.who m.block m.block
        (subst (λ (x : Memo). step_block (record_in m.me x) (own_word x.own (Era m.me.who m.me.who)) ≡ Some m.block) (sym at) (ap (step_block (record_in m.me r)) may.era ∙ may.named))
        (subst (λ e. is_shown m.me.who e (w (Head m.block)) ≡ true) (sym (era_is may w rs at)) (subst (λ p. is_shown m.me.who m.era (w p) ≡ true) (there may some w rs st at) shown)))
opens m Row r0 r tr es h = test_row false m.me r h.may.who h.recoverer refl m.row h.low (subst (λ k. k ≢ m.me.who) (sym h.stands.2) (another m.me.who h.stands.0))

-- ---- where it goes

-- on from row k, where neither the header nor a row before it showed the step
module _ (m : TestingState) (k : ℕ) (r0 r : Memo) (tr : Trail) (es : List Event) where
  abbrev c : ℕ
  c = m.me.who

  goes_on : MayTest m.me m.block m.era r0 → core r ≡ core r0 → recovers r ≡ true → HasTest m.block r k → es ≡ [] → IsWithin (rows_to c k) tr → k ≤ m.me.geometry.clients → IsHeld m.me r
      → Outcome (test_step m k) (TestKnows (test_next m k) (test_next m k).point r0 r tr es) (TestLeaves (testing m.me m.block m.era) r0 r tr es)
  goes_on may same recoverer stands none bound low held = go (nat_lt (next_row c k) m.me.geometry.clients) (ltb-true (next_row c k) m.me.geometry.clients) (ltb-false (next_row c k) m.me.geometry.clients)
    where
      left : m.me.geometry.clients ≤ next_row c k → (j : ℕ) → k ≤ j → j < m.me.geometry.clients → j ≡ c
      left last j from below = go (eqb k c) (eqb-true k c) last
        where
          go : (q : Bool) → (q ≡ true → k ≡ c) → m.me.geometry.clients ≤ cond q (k + 1) k → j ≡ c
          go true is z = let e = is refl in omega arith
          go false is z = absurd (omega arith)

      -- no word showed it
      untold : m.me.geometry.clients ≤ next_row c k → (m.block ≡ 0) ⊎ (m.block ≢ 0) → on_of (held.1 c).op ≢ Some m.block
      untold last (inl none) = subst (λ b. on_of (held.1 c).op ≢ Some b) (sym none) (none_there m.me held.0 held.1 held.2 may.who)
      untold last (inr some) = by_none m.me held.0 held.1 held.2 may.who m.block k (ap (λ (x : Memo). x.test) held.3 ∙ stands some) (left last)

      go : (q : Bool) → (q ≡ true → next_row c k < m.me.geometry.clients) → (q ≡ false → m.me.geometry.clients ≤ next_row c k)
          → let m2 : TestingState = cond q (record m { row = next_row c k; point = Row }) m in Outcome (cond q None (Some NotCommitted)) (TestKnows m2 m2.point r0 r tr es) (TestLeaves (testing m.me m.block m.era) r0 r tr es)
      go true more last =
          record { may = may; same = same; recoverer = recoverer; stands = (k, stands, refl); low = more refl; none = none; bound = subst (λ n. IsWithin n tr) (rows_next c k) bound }
      go false more last =
          record {
            told = subst (λ (x : Memo). on_of x.op ≢ Some m.block) held.3 (untold (last refl) (cases_eq m.block 0));
            same = same;
            none = none;
            bound = (let z = rows_most c k m.me.geometry.clients may.who low (last refl) in let y = bound in omega arith);
          }

-- ---- what the loads lead to

-- a row that was read shows the step
shown_by_row : (me : Me) (r : Memo) (b k n : ℕ) → IsHeld me r → me.who < me.geometry.clients → step_block (record_in me r) (own_word r.own (Era me.who me.who)) ≡ Some b → k < me.geometry.clients → k ≢ me.who → Contains r.facts (Counter (Era k me.who) n) → own_word r.own (Era me.who me.who) ≤ n → on_of r.op ≡ Some b
shown_by_row me r b k n (w, rs, h, same) l =
    subst (λ (x : Memo). step_block (record_in me x) (own_word x.own (Era me.who me.who)) ≡ Some b → k < me.geometry.clients → k ≢ me.who → Contains x.facts (Counter (Era k me.who) n) → own_word x.own (Era me.who me.who) ≤ n → on_of x.op ≡ Some b) same
    (by_row me w rs h l b k n)

module _ (m : TestingState) (r0 rs r : Memo) (tr t : Trail) (es ds : List Event) (n : ℕ) (held : IsHeld m.me r) (agent : recovers r ≡ recovers rs) where
  abbrev who : ℕ
  who = m.me.who

  -- the last pair is this one
  last_read : (a : Ask) → t ≡ pair a n ∷ [] → Contains (tr ++ t) (pair a n)
  last_read a e = Contains-append_right tr t (pair a n) (subst (λ (x : Trail). Contains x (pair a n)) (sym e) (0, omega arith, refl))

  quiet : es ≡ [] → ds ≡ [] → es ++ ds ≡ []
  quiet a b = ap (λ (x : List Event). x ++ ds) a ∙ b

  header_led : TestKnows (record m { point = Header }) Header r0 rs tr es → (test_part m Header).leaves (test_call m Header) rs r t ds n → Follows word_control testing_plan (record m { point = Header }) n r0 r (tr ++ t) (es ++ ds)
  header_led (may, begun, none, still) (w, asked) = go (is_shown who m.era n) refl
    where
      same : core r ≡ core r0
      same = w.found.0.left ∙ ap core begun

      own : own_word rs.own (Era who who) ≡ m.era
      own = ap (λ (x : Memo). own_word x.own (Era who who)) begun ∙ may.era

      one : IsWithin 1 (tr ++ t)
      one = let z = w.one in subst (λ (x : Trail). IsWithin 1 (x ++ t)) (sym none) (omega arith)

      go : (q : Bool) → is_shown who m.era n ≡ q
          → let p : TestingState = record m { point = Header } in let m2 : TestingState = cond q p (test_next p 0) in Outcome (cond q (Some (Committed proof.Header)) (test_step p 0)) (TestKnows m2 m2.point r0 r (tr ++ t) (es ++ ds)) (TestLeaves (testing m.me m.block m.era) r0 r (tr ++ t) (es ++ ds))
      go true shown =
          record {
            told = (ap (λ (x : Memo). on_of x.op) w.found.0.left ∙ w.found.1 shown, (n, last_read (Load m.block) (one_read (Load m.block) t n asked), eqb-true _ _ (and_parts _ _ shown).0, eqb-true _ _ (and_parts _ _ shown).1));
            same = same;
            none = quiet still w.none;
            bound = (let z = one in let y = may.who in omega arith);
          }
      go false hidden =
          goes_on (record m { point = Header }) 0 r0 r (tr ++ t) (es ++ ds) may same (agent ∙ (ap recovers begun ∙ may.recoverer))
          (λ some. (w.found.0.read some).0 ∙ (ap (λ e. test_from who e m.block n) own ∙ cond-false (is_shown who m.era n) None (Some (record { block = m.block; next = 0 })) hidden))
          (quiet still w.none) (subst (λ n. IsWithin n (tr ++ t)) (sym (rows_before who 0 (omega arith))) one) (omega arith) held

  row_led : IsTesting m r0 rs tr es → (test_part m Row).leaves (test_call m Row) rs r t ds n → Follows word_control testing_plan (record m { point = Row }) n r0 r (tr ++ t) (es ++ ds)
  row_led h (w, asked) = go (nat_lt n m.era) refl
    where
      same : core r ≡ core r0
      same = w.found.left ∙ h.same

      own : own_word rs.own (Era who who) ≡ m.era
      own = ap (λ (x : Memo). own_word x.own (Era who who)) h.same ∙ h.may.era

      named : step_block (record_in m.me r) (own_word r.own (Era who who)) ≡ Some m.block
      named =
          ap (λ (x : Memo). step_block (record_in m.me x) (own_word x.own (Era who who))) same
          ∙ (ap (step_block (record_in m.me r0)) h.may.era ∙ h.may.named)

      other : m.row ≢ who
      other = subst (λ k. k ≢ who) (sym h.stands.2) (another who h.stands.0)

      bound : IsWithin (rows_to who (m.row + 1)) (tr ++ t)
      bound = subst (λ n. IsWithin n (tr ++ t)) (sym (rows_more who m.row other)) (within_more (rows_to who m.row) 1 tr t h.bound (let z = w.one in omega arith))

      most_rows : rows_to who (m.row + 1) ≤ m.me.geometry.clients
      most_rows = elim (cases_lt who (m.row + 1)) [
        | inl l ↦ (let e = rows_after who (m.row + 1) l in let z = h.low in omega arith)
        | inr l ↦ (let e = rows_before who (m.row + 1) l in let z = h.may.who in omega arith)
      ]

      go_test : nat_lt n m.era ≡ true → HasTest m.block r (m.row + 1)
      go_test low some =
          w.found.read.0
          ∙ (ap (λ e. test_on who e rs.test m.row n) own
          ∙ (ap (λ o. test_on who m.era o m.row n) (h.stands.1 some)
          ∙ cond-true (eqb (next_row who h.stands.0) m.row && nat_lt n m.era) (Some (record { block = m.block; next = m.row + 1 })) None (and_from _ _ (eq-eqb (next_row who h.stands.0) m.row (sym h.stands.2)) low)))

      go : (q : Bool) → nat_lt n m.era ≡ q
          → let p : TestingState = record m { point = Row } in let m2 : TestingState = cond q (test_next p (m.row + 1)) p in Outcome (cond q (test_step p (m.row + 1)) (Some (Committed (proof.Row m.row)))) (TestKnows m2 m2.point r0 r (tr ++ t) (es ++ ds)) (TestLeaves (testing m.me m.block m.era) r0 r (tr ++ t) (es ++ ds))
      go true low = goes_on (record m { point = Row }) (m.row + 1) r0 r (tr ++ t) (es ++ ds) h.may same (agent ∙ h.recoverer) (go_test low) (quiet h.none w.none) bound (let z = h.low in omega arith) held
      go false high =
          let most : m.era ≤ n = ltb-false n m.era high in
          let mine : own_word r.own (Era who who) ≤ n = subst (λ e. e ≤ n) (sym (ap (λ (x : Memo). own_word x.own (Era who who)) same ∙ h.may.era)) most in
          record {
            told = (
              shown_by_row m.me r m.block m.row n held h.may.who named h.low other w.found.read.1 mine,
              (h.low, other, (n, last_read (test_ask m.me m.block m.row Row) (one_read (test_ask m.me m.block m.row Row) t n asked), most)),
            );
            same = same;
            none = quiet h.none w.none;
            bound = (let z = most_rows in let y = bound in omega arith);
          }

-- what is known before the first load
pub testing_begin : (me : Me) (b e : ℕ) (r : Memo) → MayTest me b e r → TestKnows (testing me b e) Header r r [] []
testing_begin me b e r may = (may, refl, refl, refl)

pub testing_laws : PlanLaws word_control testing_plan
testing_laws =
    record {
      stays = λ m n. stays m m.point n;
      calls = λ m. record { me = refl; asks = refl };
      parts = λ m. let part = word_part (is_header m.point) m.me (test_ask m.me m.block m.row m.point) (TestFound m m.point) in
          read_part_laws (is_header m.point) word_control part (word_part_laws (is_header m.point) m.me (test_ask m.me m.block m.row m.point) (TestFound m m.point));
      opens = λ m. opens m m.point;
      leads = λ m r0 rs r tr t es ds n h w held same. leads m m.point r0 rs r tr t es ds n h w held same;
    }
  where
    -- what all states are alike in to which it goes on
    alike : {T : Type 0} (f : TestingState → T) (m : TestingState) (k : ℕ) → f (record m { row = next_row m.me.who k; point = Row }) ≡ f m → f (test_next m k) ≡ f m
    alike f m k same = go (nat_lt (next_row m.me.who k) m.me.geometry.clients)
      where
        go : (q : Bool) → f (cond q (record m { row = next_row m.me.who k; point = Row }) m) ≡ f m
        go true = same
        go false = refl

    either : {T : Type 0} (f : TestingState → T) (q : Bool) (m n : TestingState) {v : T} → f m ≡ v → f n ≡ v → f (cond q m n) ≡ v
    either f true m n a b = a
    either f false m n a b = b

    goes : (m : TestingState) (k : ℕ) → test_step m k ≡ None → is_header (test_next m k).point ≡ false
    goes m k = go (nat_lt (next_row m.me.who k) m.me.geometry.clients)
      where
        go : (q : Bool) → ◌≡◌ {A = Option Commit} (cond q None (Some NotCommitted)) None → is_header (cond q (record m { row = next_row m.me.who k; point = Row }) m).point ≡ false
        go true e = refl
        go false e = absurd (cc)

    stays : (m : TestingState) (y : TestingPoint) (n : ℕ) → PlanStays word_control testing_plan (record m { point = y }) n
    stays m Header n =
        let p : TestingState = record m { point = Header } in
        record {
          same_me = either (λ (x : TestingState). x.me) (is_shown m.me.who m.era n) p (test_next p 0) refl (alike (λ (x : TestingState). x.me) p 0 refl);
          same_line = refl;
          same_start = either testing_steered.start (is_shown m.me.who m.era n) p (test_next p 0) refl (alike testing_steered.start p 0 refl);
          started = started (is_shown m.me.who m.era n);
        }
      where
        started : (q : Bool) → cond q (Some (Committed proof.Header)) (test_step (record m { point = Header }) 0) ≡ None → is_header (cond q (record m { point = Header }) (test_next (record m { point = Header }) 0)).point ≡ false
        started true e = absurd (cc)
        started false e = goes (record m { point = Header }) 0 e
    stays m Row n =
        let p : TestingState = record m { point = Row } in
        record {
          same_me = either (λ (x : TestingState). x.me) (nat_lt n m.era) (test_next p (m.row + 1)) p (alike (λ (x : TestingState). x.me) p (m.row + 1) refl) refl;
          same_line = refl;
          same_start = either testing_steered.start (nat_lt n m.era) (test_next p (m.row + 1)) p (alike testing_steered.start p (m.row + 1) refl) refl;
          started = λ e. either (λ (x : TestingState). is_header x.point) (nat_lt n m.era) (test_next p (m.row + 1)) p (alike (λ (x : TestingState). is_header x.point) p (m.row + 1) refl) refl;
        }

    leads : (m : TestingState) (y : TestingPoint) (r0 rs r : Memo) (tr t : Trail) (es ds : List Event) (n : ℕ) → TestKnows (record m { point = y }) y r0 rs tr es → (test_part (record m { point = y }) y).leaves (test_call m y) rs r t ds n → IsHeld m.me r → recovers r ≡ recovers rs
        → Follows word_control testing_plan (record m { point = y }) n r0 r (tr ++ t) (es ++ ds)
    leads m Header r0 rs r tr t es ds n h w held same = header_led (record m { point = Header }) r0 rs r tr t es ds n held same h w
    leads m Row r0 rs r tr t es ds n h w held same = row_led (record m { point = Row }) r0 rs r tr t es ds n held same h w
