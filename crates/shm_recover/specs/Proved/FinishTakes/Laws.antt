-- what is owed of takes that are finished: each word step leads on, to the next one or to what is left
use Rattle.std.proofs.Common.{◌≡◌, ◌≢◌, ℕ, ◌+◌, ◌*◌, ◌%◌, ◌^◌, ◌<◌, ◌≤◌, ◌⊎◌, refl, sym, ap, ◌∙◌, subst, arith, Bool, true, false, eqb, ◌&&◌, List, [], ◌∷◌, ◌++◌, append-nil, length, inl, inr}
use Rattle.std.proofs.Math.Nat.{mod-eq_of_lt}
use Rattle.std.proofs.lemmas.Bool.{cases_eq, cases_lt, cond-false, cond-true, eq-eqb, eqb-false, eqb-true, ltb-false, ltb-true, ne_eqb}
use Rattle.std.specs.Prelude.{◌==◌, nat_lt, if◌then◌else◌, Option, Some, None, slice_index, slice_index_or}
use Rattle.shm_graph.specs.declared.{ask.Me.Me, spot.Spot.{Spot, TheVariants.QueueHead}, memo.Memo.Memo}
use Rattle.shm_graph.specs.{declared.memo.Op.TheVariants.Nothing, Asks.{Trail, IsWithin}, Core.core, Events.Event}
use Rattle.shm_graph.specs.{Held.HeldAt, Laws.Outcome, Spots.same_spot, MemoAfterStore.head_stored}
use Rattle.shm_graph.specs.Views.{own_word, view}
use Rattle.shm_graph.specs.declared.ask.Ask.TheVariants as ask
use Rattle.shm_graph.proofs.Spots.Spotting.{same_spot_self}
use Rattle.kind_parts.proofs.{Cores.here_same, Items.put_at, Words.{Own.head_load, Queues.head_store}}
use Rattle.plans.specs.{Proved.CallTells.within_more, Parts.IsHeld, Plans.{PlanLaws, PlanStays}}
use Rattle.plans.specs.Words.{word_control, word_part_laws, IsWord, WordLeaves}
use Rattle.shm_queue.specs.Proved.QueueWords.{head_small}
use Rattle.shm_recover.specs.declared.finish_takes.FinishPoint.{FinishPoint, TheVariants.{Head, Tail, Slot, Store}}
use Rattle.shm_recover.specs.declared.finish_takes.FinishState.{FinishState}
use Rattle.shm_recover.specs.FinishTakes.Control.{after_word, finish_ask, finish_call, from_of, head_at, is_first, is_last, passed, passed_answer, turns_word, finish_steered}
use Rattle.shm_recover.specs.FinishTakes.Words.{FirstSlotLoaded, TailShown, first_slot_load, tail_show, unknowing}
use Rattle.shm_recover.specs.FinishTakes.{FinishDone, FinishFound, FinishKnows, Finished, Heads, IsFinishing, QueueDone, QueueSame, but_heads, finish_plan, waiting}
use Rattle.shm_recover.specs.Others.{MayServe, other_at}
use Rattle.shm_recover.specs.Proved.Others.{before_last, before_next, none_before, other_low, other_not, rises}

-- ---- memos

module _ (me : Me) (l : me.who < me.geometry.clients) where
  nothing_at : (s : ℕ) (w : Spot → ℕ) (r : ℕ → Memo) → HeldAt me.geometry w (view r) → (s ≡ me.who) ⊎ (me.geometry.clients ≤ s) → slice_index (r me.who).untaken s ≡ 0
  nothing_at s w r h out = (h.no_queue me.who l s out).1

  -- in a held state nothing waits where there is no queue
  pub nothing_waits : (s : ℕ) (m : Memo) → IsHeld me m → (s ≡ me.who) ⊎ (me.geometry.clients ≤ s) → slice_index m.untaken s ≡ 0
  nothing_waits s m (w, r, h, same) out = subst (λ (x : Memo). slice_index x.untaken s ≡ 0) same (nothing_at s w r h out)

module _ (c : ℕ) where
  -- an own word that isn't a head is what it was
  rest_same : (m q r : Memo) → unknowing r ≡ unknowing q → but_heads r ≡ but_heads q
  rest_same m q r e = ap but_heads e

  -- what changes only what the memo knows leaves it
  heads_still : (m q r : Memo) → unknowing r ≡ unknowing q → Heads c m q → Heads c m r
  heads_still m q r e h = record { rest = ap (λ (x : Memo). record x { own = []; received = []; untaken = [] }) e ∙ h.rest; own = λ p n. ap (λ (x : Memo). own_word x.own p) e ∙ h.own p n }

  done_still : (s : ℕ) (m q r : Memo) → unknowing r ≡ unknowing q → QueueDone c s m q → QueueDone c s m r
  done_still s m q r e h =
      record {
        received = ap (λ (x : Memo). slice_index_or x.received s []) e ∙ h.received;
        untaken = ap (λ (x : Memo). slice_index x.untaken s) e ∙ h.untaken;
        head = ap (λ (x : Memo). own_word x.own (QueueHead s c)) e ∙ h.head;
      }

  same_still : (s : ℕ) (m q r : Memo) → unknowing r ≡ unknowing q → QueueSame c s m q → QueueSame c s m r
  same_still s m q r e h =
      record {
        received = ap (λ (x : Memo). slice_index_or x.received s []) e ∙ h.received;
        untaken = ap (λ (x : Memo). slice_index x.untaken s) e ∙ h.untaken;
        head = ap (λ (x : Memo). own_word x.own (QueueHead s c)) e ∙ h.head;
      }

  finished_still : (n : ℕ) (m q r : Memo) → unknowing r ≡ unknowing q → Finished c n m q → Finished c n m r
  finished_still n m q r e h = record { heads = heads_still m q r e h.heads; before = λ s l o. done_still s m q r e (h.before s l o); after = λ s o. same_still s m q r e (h.after s o) }

  -- a queue in which nothing waited is done as it is
  pub same_done : (s : ℕ) (m r : Memo) → slice_index r.untaken s ≡ 0 → QueueSame c s m r → QueueDone c s m r
  same_done s m r none h =
      let before : slice_index m.untaken s ≡ 0 = sym h.untaken ∙ none in
      let empty : waiting (slice_index m.untaken s) ≡ [] = ap waiting before in
      record {
        received = h.received ∙ (sym (append-nil (slice_index_or m.received s [])) ∙ ap (λ (xs : List ℕ). slice_index_or m.received s [] ++ xs) (sym empty));
        untaken = none;
        head = (let e = h.head in let f = ap length empty in omega arith);
      }

  -- ---- the store of a head

  -- the head of the queue from s was stored
  module _ (s : ℕ) (m q r : Memo) (some : slice_index q.untaken s ≢ 0) (left : core r ≡ core (head_stored q (QueueHead s c) s (own_word q.own (QueueHead s c) + 1))) where
    other_head : (j : ℕ) → s ≢ j → same_spot (QueueHead s c) (QueueHead j c) ≡ false
    other_head j n = go (eqb s j) (ne_eqb s j n)
      where
        go : (q : Bool) → q ≡ false → (q && eqb c c) ≡ false
        go true e = absurd (cc)
        go false e = refl

    stored_here : QueueSame c s m q → QueueDone c s m r
    stored_here h =
        let item : waiting (slice_index m.untaken s) ≡ slice_index q.untaken s ∷ [] = ap waiting (sym h.untaken) ∙ cond-false (slice_index q.untaken s == 0) [] (slice_index q.untaken s ∷ []) (ne_eqb (slice_index q.untaken s) 0 some) in
        record {
          received =
              ap (λ (x : Memo). slice_index_or x.received s []) left
              ∙ (put_at [] q.received s (slice_index_or q.received s [] ++ slice_index q.untaken s ∷ []) s
              ∙ (cond-true (s == s) _ _ (eq-eqb s s refl)
              ∙ (ap (λ (xs : List ℕ). xs ++ slice_index q.untaken s ∷ []) h.received ∙ ap (λ (xs : List ℕ). slice_index_or m.received s [] ++ xs) (sym item))));
          untaken = ap (λ (x : Memo). slice_index x.untaken s) left ∙ (put_at 0 q.untaken s 0 s ∙ cond-true (s == s) _ _ (eq-eqb s s refl));
          head = (let e = h.head in let f = ap length item in let g = ap (λ (x : Memo). own_word x.own (QueueHead s c)) left ∙ cond-true (same_spot (QueueHead s c) (QueueHead s c)) _ _ (same_spot_self (QueueHead s c)) in omega arith);
        }

    -- another queue is as it was
    received_there : (j : ℕ) → s ≢ j → slice_index_or r.received j [] ≡ slice_index_or q.received j []
    received_there j n = ap (λ (x : Memo). slice_index_or x.received j []) left ∙ (put_at [] q.received s (slice_index_or q.received s [] ++ slice_index q.untaken s ∷ []) j ∙ cond-false (s == j) _ _ (ne_eqb s j n))

    untaken_there : (j : ℕ) → s ≢ j → slice_index r.untaken j ≡ slice_index q.untaken j
    untaken_there j n = ap (λ (x : Memo). slice_index x.untaken j) left ∙ (put_at 0 q.untaken s 0 j ∙ cond-false (s == j) _ _ (ne_eqb s j n))

    head_there : (j : ℕ) → s ≢ j → own_word r.own (QueueHead j c) ≡ own_word q.own (QueueHead j c)
    head_there j n = ap (λ (x : Memo). own_word x.own (QueueHead j c)) left ∙ cond-false (same_spot (QueueHead s c) (QueueHead j c)) _ _ (other_head j n)

    stored_done : (j : ℕ) → s ≢ j → QueueDone c j m q → QueueDone c j m r
    stored_done j n h = record { received = received_there j n ∙ h.received; untaken = untaken_there j n ∙ h.untaken; head = head_there j n ∙ h.head }

    stored_same : (j : ℕ) → s ≢ j → QueueSame c j m q → QueueSame c j m r
    stored_same j n h = record { received = received_there j n ∙ h.received; untaken = untaken_there j n ∙ h.untaken; head = head_there j n ∙ h.head }

    stored_heads : Heads c m q → Heads c m r
    stored_heads h =
        record {
          rest = ap but_heads left ∙ h.rest;
          own = λ p n. ap (λ (x : Memo). own_word x.own p) left ∙ (cond-false (same_spot (QueueHead s c) p) _ _ (n s) ∙ h.own p n);
        }

-- ---- the control

-- what both states after a queue are alike in
passed_same : (m : FinishState) {T : Type 0} (f : FinishState → T) → f (record m { passed = m.passed + 1; point = Head }) ≡ f m → (q : Bool) → f (if q then m else record m { passed = m.passed + 1; point = Head }) ≡ f m
passed_same m f e true = refl
passed_same m f e false = e

-- where it goes on it is at a later queue
passed_later : (m : FinishState) (q : Bool) → ◌≡◌ {A = Option (Unit {0})} (if q then Some tt else None) None → is_first (if q then m else record m { passed = m.passed + 1; point = Head }) ≡ false
passed_later m true e = absurd (cc)
passed_later m false e = ap (λ (z : Bool). z && true) (ne_eqb (m.passed + 1) 0 (λ z. absurd (omega arith)))

pass_stays : (m : FinishState) → (finish_steered.me (passed m) ≡ m.me) × (finish_steered.start (passed m) ≡ finish_steered.start m) × (passed_answer m ≡ None → is_first (passed m) ≡ false)
pass_stays m = (passed_same m (λ (x : FinishState). x.me) refl (is_last m), passed_same m finish_steered.start refl (is_last m), passed_later m (is_last m))

-- a state that isn't at a head has begun
begun : (k : ℕ) → ((k == 0) && false) ≡ false
begun k = go (k == 0)
  where
    go : (q : Bool) → (q && false) ≡ false
    go true = refl
    go false = refl

-- by a test
stays_by : (m x : FinishState) (n : ℕ) (q : Bool) → (x.me ≡ m.me) × (finish_steered.start x ≡ finish_steered.start m) × (is_first x ≡ false)
    → let y : FinishState = if q then x else passed m in (y.me ≡ m.me) × (finish_steered.start y ≡ finish_steered.start m) × (◌≡◌ {A = Option (Unit {0})} (if q then None else passed_answer m) None → is_first y ≡ false)
stays_by m x n true h = (h.0, h.1, λ e. h.2)
stays_by m x n false h = pass_stays m

-- ---- what the word steps need

-- no step is in progress
idle_now : (me : Me) (p k : ℕ) (r0 r : Memo) (tr : Trail) (es : List Event) → IsFinishing me p k r0 r tr es → r.op ≡ Nothing
idle_now me p k r0 r tr es h = ap (λ (x : Memo). x.op) h.finished.heads.rest ∙ h.may.may.idle

opens : (m : FinishState) (y : FinishPoint) (r0 r : Memo) (tr : Trail) (es : List Event) → FinishKnows m y r0 r tr es → IsWord (is_first (record m { point = y })) m.me (finish_ask m y) (FinishFound m y) (finish_call m y) r
opens m Head r0 r tr es h =
    let l = h.may.may.who in
    head_load (is_first (record m { point = Head })) m.me r l (from_of m) m.me.who (other_low m.me.who m.passed m.me.geometry.clients l h.low) l
opens m Tail r0 r tr es h =
    let l = h.0.may.may.who in
    tail_show (is_first (record m { point = Tail })) m.me r l (from_of m) 0 (other_low m.me.who m.passed m.me.geometry.clients l h.0.low) (other_not m.me.who m.passed)
opens m Slot r0 r tr es h =
    let l = h.0.may.may.who in
    first_slot_load (is_first (record m { point = Slot })) m.me r l (from_of m) (m.at % 8) (other_low m.me.who m.passed m.me.geometry.clients l h.0.low) (other_not m.me.who m.passed) h.2 (ap (λ k. k % 8) h.1)
opens m Store r0 r tr es h =
    let l = h.0.may.may.who in
    let next : own_word r.own (QueueHead (from_of m) m.me.who) + 1 ≡ (m.at + 1) % 2 ^ 64 = ap (λ k. k + 1) (sym h.1) ∙ sym (mod-eq_of_lt h.2) in
    subst (λ v. IsWord (is_first (record m { point = Store })) m.me (ask.Store (head_at m) v) (FinishFound m Store) (record { me = m.me; ask = ask.Store (head_at m) v; over = false }) r) next
    (head_store (is_first (record m { point = Store })) m.me r l (begun m.passed) (from_of m)
    (record { here = here_same r0 r (ap (λ (x : Memo). x.status) h.0.finished.heads.rest) h.0.may.may.here; from = other_low m.me.who m.passed m.me.geometry.clients l h.0.low; other = other_not m.me.who m.passed; idle = idle_now m.me m.passed 3 r0 r tr es h.0; some = h.3 }))

-- ---- where they lead

-- one word step more that changes only what the memo knows
one_more : (me : Me) (p k : ℕ) (r0 rs r : Memo) (tr t : Trail) (es ds : List Event) → IsFinishing me p k r0 rs tr es → unknowing r ≡ unknowing rs → ds ≡ [] → length t ≡ 1 → IsFinishing me p (k + 1) r0 r (tr ++ t) (es ++ ds)
one_more me p k r0 rs r tr t es ds h same quiet one =
    let b = within_more (4 * p + k) 1 tr t h.bound (omega arith) in
    record {
      may = h.may;
      low = h.low;
      finished = finished_still me.who (other_at me.who p) r0 rs r same h.finished;
      none = ap (λ (x : List Event). x ++ ds) h.none ∙ quiet;
      bound = omega arith;
    }

-- a queue is done
module _ (m : FinishState) (r0 r : Memo) (tr : Trail) (es : List Event) (held : IsHeld m.me r) (may : MayServe m.me r0) (low : m.passed + 1 < m.me.geometry.clients) (heads : Heads m.me.who r0 r) (before : (j : ℕ) → (j < from_of m) ⊎ (j ≡ from_of m) → j ≢ m.me.who → QueueDone m.me.who j r0 r) (after : (j : ℕ) → (from_of m < j) ⊎ (j ≡ m.me.who) → QueueSame m.me.who j r0 r) (none : es ≡ []) (bound : IsWithin (4 * m.passed + 4) tr) where
  -- each queue is, where it was the last one
  all_done : m.passed + 2 ≡ m.me.geometry.clients → (j : ℕ) → QueueDone m.me.who j r0 r
  all_done last j = elim (cases_eq j m.me.who) [
    | inl e ↦ same_done m.me.who j r0 r (nothing_waits m.me may.may.who j r held (inl e)) (after j (inr e))
    | inr other ↦ elim (cases_lt j m.me.geometry.clients) [
      | inl l ↦ before j (before_last m.me.who m.passed m.me.geometry.clients j may.may.who last l other) other
      | inr far ↦ same_done m.me.who j r0 r (nothing_waits m.me may.may.who j r held (inr far)) (after j (inl (let l = other_low m.me.who m.passed m.me.geometry.clients may.may.who low in omega arith)))
    ]
  ]

  next_queue : m.passed + 2 ≢ m.me.geometry.clients → IsFinishing m.me (m.passed + 1) 0 r0 r tr es
  next_queue more =
      record {
        may = may;
        low = omega arith;
        finished = record {
          heads = heads;
          before = λ j l o. before j (before_next m.me.who m.passed j l o) o;
          after = λ j o. elim o [ inl l ↦ after j (inl (let u = rises m.me.who m.passed in omega arith)) | inr e ↦ after j (inr e) ];
        };
        none = none;
        bound = omega arith;
      }

  went : Outcome (passed_answer m) (FinishKnows (passed m) (passed m).point r0 r tr es) (λ u. FinishDone m.me r0 r tr es)
  went = go (is_last m) (eqb-true (m.passed + 2) m.me.geometry.clients) (eqb-false (m.passed + 2) m.me.geometry.clients)
    where
      go : (q : Bool) → (q ≡ true → m.passed + 2 ≡ m.me.geometry.clients) → (q ≡ false → m.passed + 2 ≢ m.me.geometry.clients)
          → let x : FinishState = if q then m else record m { passed = m.passed + 1; point = Head } in Outcome {A = Unit {0}} (if q then Some tt else None) (FinishKnows x x.point r0 r tr es) (λ u. FinishDone m.me r0 r tr es)
      go true last more = let e = last refl in record { heads = heads; done = all_done e; none = none; bound = omega arith }
      go false last more = next_queue (more refl)

module _ (m : FinishState) (r0 rs r : Memo) (tr t : Trail) (es ds : List Event) (held : IsHeld m.me r) where
  abbrev c : ℕ
  c = m.me.who

  abbrev s : ℕ
  s = from_of m

  module _ (k : ℕ) (h : IsFinishing m.me m.passed k r0 rs tr es) (most : k ≤ 3) (quiet : ds ≡ []) (one : length t ≡ 1) where
    -- what is known next, or what is left
    abbrev Leads : Type 0
    Leads = Outcome (passed_answer m) (FinishKnows (passed m) (passed m).point r0 r (tr ++ t) (es ++ ds)) (λ u. FinishDone m.me r0 r (tr ++ t) (es ++ ds))

    silent : es ++ ds ≡ []
    silent = ap (λ (x : List Event). x ++ ds) h.none ∙ quiet

    paid : IsWithin (4 * m.passed + 4) (tr ++ t)
    paid = let b = within_more (4 * m.passed + k) 1 tr t h.bound (omega arith) in omega arith

    -- nothing waits in the queue
    pass_plain : unknowing r ≡ unknowing rs → slice_index r.untaken s ≡ 0 → Leads
    pass_plain same none =
        let f = finished_still c s r0 rs r same h.finished in
        went m r0 r (tr ++ t) (es ++ ds) held h.may h.low f.heads
        (λ j b o. elim b [ inl l ↦ f.before j l o | inr e ↦ subst (λ i. QueueDone c i r0 r) (sym e) (same_done c s r0 r none (f.after s (inl (omega arith)))) ])
        (λ j o. elim o [ inl l ↦ f.after j (inl (omega arith)) | inr e ↦ f.after j (inr e) ])
        silent paid

    -- the head was stored
    pass_stored : slice_index rs.untaken s ≢ 0 → core r ≡ core (head_stored rs (QueueHead s c) s (own_word rs.own (QueueHead s c) + 1)) → Leads
    pass_stored some left =
        let f = h.finished in
        went m r0 r (tr ++ t) (es ++ ds) held h.may h.low (stored_heads c s r0 rs r some left f.heads)
        (λ j b o. elim b [
          | inl l ↦ stored_done c s r0 rs r some left j (λ e. absurd (omega arith)) (f.before j l o)
          | inr e ↦ subst (λ i. QueueDone c i r0 r) (sym e) (stored_here c s r0 rs r some left (f.after s (inl (omega arith))))
        ])
        (λ j o. elim o [
          | inl l ↦ stored_same c s r0 rs r some left j (λ e. absurd (omega arith)) (f.after j (inl (omega arith)))
          | inr e ↦ stored_same c s r0 rs r some left j (λ z. other_not c m.passed (z ∙ e)) (f.after j (inr e))
        ])
        silent paid

  abbrev Next : Option (Unit {0}) → FinishState → Type 0
  Next o x = Outcome o (FinishKnows x x.point r0 r (tr ++ t) (es ++ ds)) (λ u. FinishDone m.me r0 r (tr ++ t) (es ++ ds))

  -- the own head was read
  head_read : (n : ℕ) → IsFinishing m.me m.passed 0 r0 rs tr es → WordLeaves (FinishFound m Head) (finish_call m Head) rs r t ds n → FinishKnows (record m { at = n; point = Tail }) Tail r0 r (tr ++ t) (es ++ ds)
  head_read n h w = (one_more m.me m.passed 0 r0 rs r tr t es ds h (ap unknowing w.found.left) w.none w.one, w.found.found (eq-eqb c c refl) ∙ sym (ap (λ (x : Memo). own_word x.own (QueueHead s c)) w.found.left))

  -- the tail was
  tail_read : (n : ℕ) → FinishKnows m Tail r0 rs tr es → WordLeaves (TailShown c s) (finish_call m Tail) rs r t ds n → Next (if nat_lt m.at n then None else passed_answer m) (if nat_lt m.at n then record m { point = Slot } else passed m)
  tail_read n (h, at) w = go (nat_lt m.at n) (ltb-true m.at n) (ltb-false m.at n)
    where
      here : own_word r.own (QueueHead s c) ≡ own_word rs.own (QueueHead s c)
      here = ap (λ (x : Memo). own_word x.own (QueueHead s c)) w.found.left

      go : (q : Bool) → (q ≡ true → m.at < n) → (q ≡ false → n ≤ m.at) → Next (if q then None else passed_answer m) (if q then record m { point = Slot } else passed m)
      go true below above =
          let l = below refl in (
            one_more m.me m.passed 1 r0 rs r tr t es ds h (ap unknowing w.found.left) w.none w.one,
            at ∙ sym here,
            record { idle = ap (λ (x : Memo). x.op) w.found.left ∙ idle_now m.me m.passed 1 r0 rs tr es h; some = (n, w.found.read, (let e = at in let f = here in omega arith)) },
          )
      go false below above =
          pass_plain 1 h (omega arith) w.none w.one (ap unknowing w.found.left)
          (ap (λ (x : Memo). slice_index x.untaken s) w.found.left
          ∙ elim (cases_eq (slice_index rs.untaken s) 0) [ inl e ↦ e | inr some ↦ (let l = above refl in let u = w.found.above some in absurd (omega arith)) ])

  -- the slot was
  slot_read : (n : ℕ) → FinishKnows m Slot r0 rs tr es → WordLeaves (FirstSlotLoaded c s) (finish_call m Slot) rs r t ds n → Next (if n == 0 then None else passed_answer m) (if n == 0 then record m { point = Store } else passed m)
  slot_read n (h, at, first) w = go (n == 0) (eqb-true n 0) (eqb-false n 0)
    where
      here : own_word r.own (QueueHead s c) ≡ own_word rs.own (QueueHead s c)
      here = ap (λ (x : Memo). own_word x.own (QueueHead s c)) w.found.left

      go : (q : Bool) → (q ≡ true → n ≡ 0) → (q ≡ false → n ≢ 0) → Next (if q then None else passed_answer m) (if q then record m { point = Store } else passed m)
      go true empty some = (
        one_more m.me m.passed 2 r0 rs r tr t es ds h w.found.left w.none w.one,
        at ∙ sym here,
        (let u = head_small m.me h.may.may.who s r (other_low c m.passed m.me.geometry.clients h.may.may.who h.low) (other_not c m.passed) held in let e = at in let f = here in omega arith),
        λ z. w.found.empty (empty refl) (sym (ap (λ (x : Memo). slice_index x.untaken s) w.found.left) ∙ z),
      )
      go false empty some = pass_plain 2 h (omega arith) w.none w.one w.found.left (ap (λ (x : Memo). slice_index x.untaken s) w.found.left ∙ w.found.named (some refl))

-- what is known before the first word step
pub finish_begin : (me : Me) (r : Memo) → MayServe me r → IsFinishing me 0 0 r r [] []
finish_begin me r may =
    record {
      may = may;
      low = may.others;
      finished = record {
        heads = record { rest = refl; own = λ p n. refl };
        before = λ s l o. absurd (none_before me.who s l o);
        after = λ s o. record { received = refl; untaken = refl; head = refl };
      };
      none = refl;
      bound = omega arith;
    }

pub finish_laws : PlanLaws word_control finish_plan
finish_laws =
    record {
      stays = λ m n. stays m m.point n;
      calls = λ m. record { me = refl; asks = refl };
      parts = λ m. word_part_laws (is_first m) m.me (finish_ask m m.point) (FinishFound m m.point);
      opens = λ m. opens m m.point;
      leads = λ m r0 rs r tr t es ds n h w held agent. leads m m.point r0 rs r tr t es ds n h w held;
    }
  where
    stays : (m : FinishState) (y : FinishPoint) (n : ℕ) → PlanStays word_control finish_plan (record m { point = y }) n
    stays m Head n = record { same_me = refl; same_line = refl; same_start = refl; started = λ e. begun m.passed }
    stays m Tail n = let t = stays_by (record m { point = Tail }) (record m { point = Slot }) n (nat_lt m.at n) (refl, refl, begun m.passed) in record { same_me = t.0; same_line = refl; same_start = t.1; started = t.2 }
    stays m Slot n = let t = stays_by (record m { point = Slot }) (record m { point = Store }) n (n == 0) (refl, refl, begun m.passed) in record { same_me = t.0; same_line = refl; same_start = t.1; started = t.2 }
    stays m Store n = let t = pass_stays (record m { point = Store }) in record { same_me = t.0; same_line = refl; same_start = t.1; started = t.2 }

    -- each word step leads on
    leads : (m : FinishState) (y : FinishPoint) (r0 rs r : Memo) (tr t : Trail) (es ds : List Event) (n : ℕ) → FinishKnows m y r0 rs tr es → WordLeaves (FinishFound m y) (finish_call m y) rs r t ds n → IsHeld m.me r
        → Outcome (turns_word m y n) (FinishKnows (after_word m y n) (after_word m y n).point r0 r (tr ++ t) (es ++ ds)) (λ u. FinishDone m.me r0 r (tr ++ t) (es ++ ds))
    leads m Head r0 rs r tr t es ds n h w held = head_read m r0 rs r tr t es ds held n h w
    leads m Tail r0 rs r tr t es ds n h w held = tail_read m r0 rs r tr t es ds held n h w
    leads m Slot r0 rs r tr t es ds n h w held = slot_read m r0 rs r tr t es ds held n h w
    leads m Store r0 rs r tr t es ds n h w held = pass_stored m r0 rs r tr t es ds held 3 h.0 (omega arith) w.none w.one h.3 w.found.left
