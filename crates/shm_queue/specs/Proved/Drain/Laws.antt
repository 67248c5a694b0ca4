-- what is owed of a drain: each call leads on, to the next one or to what is left
use Rattle.std.proofs.Common.{◌≡◌, ◌≢◌, ℕ, ◌+◌, ◌*◌, ◌^◌, ◌<◌, ◌≤◌, ◌⊎◌, refl, sym, ap, ◌∙◌, subst, arith, append-nil, Bool, true, false, List, [], ◌∷◌, ◌++◌, length, inl, inr}
use Rattle.std.proofs.{Math.Nat.mod-eq_of_lt, lemmas.Bool.{cases_eq, eqb-false, eqb-true, Decides.nat_tests}}
use Rattle.std.proofs.lemmas.List.{length-append}
use Rattle.std.specs.{Prelude.{◌==◌, nat_lt, if◌then◌else◌, Option, Some, None, Result, Ok, Err}, List.Contains}
use Rattle.shm_queue.specs.Proved.Costs.{items_sum, tear_sum}
use Rattle.shm_queue.specs.Proved.Drain.Items.{drained_core, drained_more, drained_none, events_more, frees_append, same_head}
use Rattle.shm_queue.specs.{Proved.QueueWords.head_low, declared.drain.DrainPoint.DrainPoint}
use Rattle.shm_queue.specs.declared.drain.{DrainPoint.TheVariants.{Status, Item}, DrainState.DrainState}
use Rattle.shm_queue.specs.Drain.Control.{DrainAnswer, drain_ask, drain_call_at, drain_parts, draining, first_from, is_status, next_from, take_control, turned, turned_answer, drain_steered}
use Rattle.shm_queue.specs.Drain.{AreEmpty, Drained, DrainKnows, DrainLeaves, IsDraining, ItemsEvents, MayDrain, TakenItem, drain_part, drain_plan}
use Rattle.shm_queue.specs.Take.{Control.{take_parts, taking}, MayTakeFrom, TakeDone, TakeEmpty, TakeRefused, take_plan}
use Rattle.shm_queue.specs.declared.answer.TakeFault.TheVariants as fault
use Rattle.shm_graph.specs.declared.{spot.Spot.TheVariants.{QueueHead, Tail}, memo.Fact.TheVariants.Counter}
use Rattle.shm_graph.specs.{declared.memo.Memo.Memo, Asks.{Trail, IsWithin}, Bounds.{tear_steps, redo_steps}, Core.core}
use Rattle.shm_graph.specs.{Events.Event, Laws.Outcome, Views.own_word}
use Rattle.kind_parts.specs.WordParts.{StatusLoaded}
use Rattle.kind_parts.proofs.{Cores.here_same, Words.Own.status_load}
use Rattle.plans.specs.{declared.or.Or.TheVariants.{First, Second}, Proved.{CallTells.within_more, Either.or_part_laws}}
use Rattle.plans.specs.{Proved.Grown.grown_laws, CallsPart.{calls_part, calls_part_laws}, Either.or_part, Grown.Grows}
use Rattle.plans.specs.{Parts.IsHeld, Plans.{PlanLaws, PlanStays, IsCall, Follows}}
use Rattle.plans.specs.Words.{word_control, word_part, word_part_laws, WordLeaves}
use Rattle.shm_count.specs.{declared.answer.EraSpent.EraSpent, Tear.Events.frees}

-- ---- senders

-- the first sender is another identity, and nobody else comes before it
first_sender : (c : ℕ) → (first_from c ≢ c) × (first_from c ≤ 1) × ((s : ℕ) → s < first_from c → s ≡ c)
first_sender c = go (c == 0) (eqb-true c 0) (eqb-false c 0)
  where
    go : (q : Bool) → (q ≡ true → c ≡ 0) → (q ≡ false → c ≢ 0) → let f : ℕ = if q then 1 else 0 in (f ≢ c) × (f ≤ 1) × ((s : ℕ) → s < f → s ≡ c)
    go true is n = let e = is refl in (λ z. absurd (omega arith), omega arith, λ s l. omega arith)
    go false is n = let e = n refl in (λ z. e (sym z), omega arith, λ s l. absurd (omega arith))

-- the sender after s is another identity, and but for s those before it come before s
next_sender : (c s : ℕ) → s ≢ c → (next_from c s ≢ c) × (s < next_from c s) × (next_from c s ≤ s + 2) × ((j : ℕ) → j < next_from c s → j ≢ c → (j < s) ⊎ (j ≡ s))
next_sender c s other = go (s + 1 == c) (eqb-true (s + 1) c) (eqb-false (s + 1) c)
  where
    go : (q : Bool) → (q ≡ true → s + 1 ≡ c) → (q ≡ false → (s + 1) ≢ c) → let f : ℕ = if q then s + 2 else s + 1 in (f ≢ c) × (s < f) × (f ≤ s + 2) × ((j : ℕ) → j < f → j ≢ c → (j < s) ⊎ (j ≡ s))
    go true is n = let e = is refl in (λ z. absurd (omega arith), omega arith, omega arith, λ j l o. elim (cases_eq j s) [ inl k ↦ inr k | inr k ↦ inl (omega arith) ])
    go false is n = let e = n refl in (e, omega arith, omega arith, λ j l o. elim (cases_eq j s) [ inl k ↦ inr k | inr k ↦ inl (omega arith) ])

-- ---- turning to a sender

-- the queues of the senders below n were read empty, and n is another identity
record IsPassing (m : DrainState) (n : ℕ) (r0 r : Memo) (tr : Trail) (es : List Event) : Type 0 where
  may : MayDrain m.me r0
  other : n ≢ m.me.who
  most : n ≤ m.me.geometry.clients + 1
  items : List TakenItem
  count : m.taken ≡ length items
  few : length items ≤ 2 ^ 47 * n
  drained : Drained m.me items r0 r
  events : ItemsEvents m.me.who items es
  empty : AreEmpty m.me n r
  bound : IsWithin ((11 + redo_steps m.me.geometry.wide) * length items + 2 * n + tear_steps m.me.geometry.wide (frees es) + 1) tr

went : (m : DrainState) (n : ℕ) (r0 r : Memo) (tr : Trail) (es : List Event) → IsPassing m n r0 r tr es → Outcome (turned_answer m n) (drain_plan.knows (turned m n) r0 r tr es) (DrainLeaves (draining m.me) r0 r tr es)
went m n r0 r tr es h = at (nat_lt n m.me.geometry.clients) (λ e. grind (arith, nat_tests)) (λ e. grind (arith, nat_tests))
  where
    at : (q : Bool) → (q ≡ true → n < m.me.geometry.clients) → (q ≡ false → m.me.geometry.clients ≤ n)
        → Outcome (if q then None else Some (Ok m.taken)) (drain_plan.knows (if q then record m { from = n; point = Item } else m) r0 r tr es) (DrainLeaves (draining m.me) r0 r tr es)
    at true lower upper = let low = h.few in record { may = h.may; low = lower refl; other = h.other; items = h.items; count = h.count; few = omega arith; drained = h.drained; events = h.events; empty = h.empty; bound = h.bound }
    at false lower upper =
        let above = upper refl in
        let most = h.most in
        let count = h.count in
        let bound = h.bound in
        let cost = ap (λ y. (11 + redo_steps m.me.geometry.wide) * y) h.count in
        record { items = h.items; count = h.count; drained = h.drained; events = h.events; empty = λ s l o. h.empty s (omega arith) o; bound = omega arith }

-- ---- the plan

-- what both states after an answer are alike in
same : (m : DrainState) (s : ℕ) {T : Type 0} (f : DrainState → T) {v : T} → f (record m { from = s; point = Item }) ≡ v → f m ≡ v → (q : Bool) → f (if q then record m { from = s; point = Item } else m) ≡ v
same m s f a b true = a
same m s f a b false = b

-- where it goes on it has turned to a sender
later : (m : DrainState) (s : ℕ) (q : Bool) → ◌≡◌ {A = Option (Result ℕ EraSpent)} (if q then None else Some (Ok m.taken)) None → is_status (if q then record m { from = s; point = Item } else m).point ≡ false
later m s true e = refl
later m s false e = absurd (cc)

turn_stays : (m : DrainState) (s : ℕ) → (drain_steered.me (turned m s) ≡ m.me) × (drain_steered.start (turned m s) ≡ drain_steered.start m) × (turned_answer m s ≡ None → drain_steered.first (turned m s) ≡ false)
turn_stays m s = (same m s (λ (x : DrainState). x.me) refl refl (nat_lt s m.me.geometry.clients), same m s drain_steered.start refl refl (nat_lt s m.me.geometry.clients), later m s (nat_lt s m.me.geometry.clients))

stays : (m : DrainState) (b : DrainAnswer) → PlanStays drain_parts drain_plan m b
stays m (First n) = let t = turn_stays m (first_from m.me.who) in record { same_me = t.0; same_line = refl; same_start = t.1; started = t.2 }
stays m (Second (Ok done)) = record { same_me = refl; same_line = refl; same_start = refl; started = λ e. refl }
stays m (Second (Err (fault.Empty n))) = let t = turn_stays m (next_from m.me.who m.from) in record { same_me = t.0; same_line = refl; same_start = t.1; started = t.2 }
stays m (Second (Err (fault.EraSpent e))) = record { same_me = refl; same_line = refl; same_start = refl; started = λ e. absurd (cc) }

calls : (m : DrainState) (y : DrainPoint) → IsCall drain_parts drain_plan (record m { point = y })
calls m Status = record { me = refl; asks = refl }
calls m Item = record { me = refl; asks = refl }

-- an item may be taken between two items
may_take : (m : DrainState) (r0 r : Memo) (tr : Trail) (es : List Event) → IsDraining m r0 r tr es → MayTakeFrom m.me m.from r
may_take m r0 r tr es h =
    record {
      geometry = h.may.geometry;
      who = h.may.who;
      here = here_same r0 r (ap (λ (x : Memo). x.status) h.drained.rest) h.may.here;
      idle = h.drained.op;
      from = h.low;
      other = h.other;
      none = h.drained.untaken m.from ∙ h.may.none m.from;
    }

opens : (m : DrainState) (y : DrainPoint) (r0 r : Memo) (tr : Trail) (es : List Event) → DrainKnows (record m { point = y }) y r0 r tr es → (drain_part m y).needs (drain_call_at m y) r
opens m Status r0 r tr es h = status_load true m.me r h.0.who
opens m Item r0 r tr es h = record { made = refl; first = refl; start = refl; knows = (may_take (record m { point = Item }) r0 r tr es h, refl, refl, refl) }

module _ (m : DrainState) (r0 rs r : Memo) (tr t : Trail) (es ds : List Event) (held : IsHeld m.me r) where
  abbrev c : ℕ
  c = m.me.who

  -- what is known before the next call, or what is left
  abbrev Leads : DrainPoint → DrainAnswer → Type 0
  Leads y a = Follows drain_parts drain_plan (record m { point = y }) a r0 r (tr ++ t) (es ++ ds)

  -- the status was read
  begun : (n : ℕ) → DrainKnows (record m { point = Status }) Status r0 rs tr es → WordLeaves StatusLoaded (record { me = m.me; ask = drain_ask m; over = false }) rs r t ds n → Leads Status (First n)
  begun n (may, zero, same, none, quiet) w =
      let first = first_sender c in
      let few = may.geometry.clients in
      let silent : es ++ ds ≡ [] = ap (λ (x : List Event). x ++ ds) quiet ∙ w.none in
      let one : IsWithin 1 (tr ++ t) = (let e = ap length (ap (λ (x : Trail). x ++ t) none) in let o = w.one in omega arith) in
      went (record m { point = Status }) (first_from c) r0 r (tr ++ t) (es ++ ds)
      (record {
        may = may;
        other = first.0;
        most = (let l = first.1 in omega arith);
        items = [];
        count = zero;
        few = omega arith;
        drained = drained_none m.me r0 r may.idle (w.found.left ∙ ap core same);
        events = silent;
        empty = λ s l o. absurd (o (first.2 s l));
        bound = omega arith;
      })

  -- queues that were read empty still were
  still_empty : (n : ℕ) → AreEmpty m.me n rs → Grows false rs r → ((s : ℕ) → s < n → s ≢ c → own_word r.own (QueueHead s c) ≡ own_word rs.own (QueueHead s c)) → AreEmpty m.me n r
  still_empty n h grows heads s l o = subst (λ y. Contains r.facts (Counter (Tail s c) y)) (sym (heads s l o)) (grows.counts (Counter (Tail s c) (own_word rs.own (QueueHead s c))) refl (h s l o))

  -- an item was taken
  taken : IsDraining (record m { point = Item }) r0 rs tr es → TakeDone m.me m.from rs r t ds → Grows false rs r → Leads Item (Second (Ok tt))
  taken h g grows =
      let x : TakenItem = record { from = m.from; place = g.place; block = g.block } in
      let more = length-append h.items (x ∷ []) in
      let clients = h.may.geometry.clients in
      let low = h.low in
      let few = h.few in
      let count = h.count in
      let head : own_word r.own (QueueHead m.from c) ≡ own_word rs.own (QueueHead m.from c) + 1 = g.received.head ∙ ap (λ y. y + 1) g.received.place in
      let small = head_low m.me h.may.who m.from r h.low h.other held in
      let room : m.taken + 1 < 2 ^ 64 = omega arith in
      let f = tear_sum m.me.geometry.wide (frees (es ++ ds)) (frees es) (frees ds) (frees_append es ds) in
      let cost = items_sum m.me.geometry.wide (length (h.items ++ x ∷ [])) (length h.items) 1 more in
      let bound = within_more ((11 + redo_steps m.me.geometry.wide) * length h.items + 2 * m.from + tear_steps m.me.geometry.wide (frees es) + 1) (11 + redo_steps m.me.geometry.wide + tear_steps m.me.geometry.wide (frees ds)) tr t h.bound g.bound in
      record {
        may = h.may;
        low = h.low;
        other = h.other;
        items = h.items ++ x ∷ [];
        count = mod-eq_of_lt room ∙ omega arith;
        few = omega arith;
        drained = drained_more m.me x h.items r0 rs r h.drained g.received g.dying;
        events = events_more c x h.items es ds h.events g.events;
        empty = still_empty m.from h.empty grows (λ s l o. same_head m.me x h.items r0 rs r h.drained g.received s (λ e. absurd (omega arith)));
        bound = omega arith;
      }

  -- the queue was read empty
  passed : (n : ℕ) → IsDraining (record m { point = Item }) r0 rs tr es → TakeEmpty m.me m.from n rs r t ds → Grows false rs r → Leads Item (Second (Err (fault.Empty n)))
  passed n h g grows =
      let next = next_sender c m.from h.other in
      let above = next.1 in
      let most = next.2 in
      let low = h.low in
      let few = h.few in
      let heads : (s : ℕ) → own_word r.own (QueueHead s c) ≡ own_word rs.own (QueueHead s c) = λ s. ap (λ (x : Memo). own_word x.own (QueueHead s c)) g.same in
      let here = heads m.from in
      let small = head_low m.me h.may.who m.from r h.low h.other held in
      let quiet : es ++ ds ≡ es = ap (λ (x : List Event). es ++ x) g.none ∙ append-nil es in
      let bound = within_more ((11 + redo_steps m.me.geometry.wide) * length h.items + 2 * m.from + tear_steps m.me.geometry.wide (frees es) + 1) 2 tr t h.bound g.bound in
      let f = ap (λ (x : List Event). tear_steps m.me.geometry.wide (frees x)) quiet in
      let before = still_empty m.from h.empty grows (λ s l o. heads s) in
      went (record m { point = Item }) (next_from c m.from) r0 r (tr ++ t) (es ++ ds)
      (record {
        may = h.may;
        other = next.0;
        most = omega arith;
        items = h.items;
        count = h.count;
        few = omega arith;
        drained = drained_core m.me h.items r0 rs r h.drained g.same;
        events = subst (ItemsEvents c h.items) (sym quiet) h.events;
        empty = λ s l o. elim (next.3 s l o) [
          | inl k ↦ before s k o
          | inr e ↦ subst (λ j. Contains r.facts (Counter (Tail j c) (own_word r.own (QueueHead j c)))) (sym e) (subst (λ y. Contains r.facts (Counter (Tail m.from c) y)) (g.head ∙ sym here) g.read)
        ];
        bound = omega arith;
      })

  -- a take was refused
  stopped : (e : ℕ) → IsDraining (record m { point = Item }) r0 rs tr es → TakeRefused (taking m.me m.from) rs r t ds (fault.EraSpent e) → Leads Item (Second (Err (fault.EraSpent e)))
  stopped e h (spent, g) =
      let f = frees_append es ds in
      let low = h.low in
      let torn = tear_sum m.me.geometry.wide (frees (es ++ ds)) (frees es) (frees ds) f in
      let cost = items_sum m.me.geometry.wide (length h.items + 1) (length h.items) 1 refl in
      record {
        items = h.items;
        q = rs;
        drained = h.drained;
        from = m.from;
        before = es;
        after = ds;
        events = h.events;
        split = refl;
        last = t;
        spent = spent;
        refused = elim g [
          | inl n ↦ inl (n, (let bound = within_more ((11 + redo_steps m.me.geometry.wide) * length h.items + 2 * m.from + tear_steps m.me.geometry.wide (frees es) + 1) 4 tr t h.bound n.bound in omega arith))
          | inr n ↦ inr (n, (let bound = within_more ((11 + redo_steps m.me.geometry.wide) * length h.items + 2 * m.from + tear_steps m.me.geometry.wide (frees es) + 1) (11 + redo_steps m.me.geometry.wide + tear_steps m.me.geometry.wide (frees ds + length n.left)) tr t h.bound n.bound in let all = tear_sum m.me.geometry.wide (frees (es ++ ds) + length n.left) (frees es) (frees ds + length n.left) (omega arith) in omega arith))
        ];
      }

leads : (m : DrainState) (y : DrainPoint) (r0 rs r : Memo) (tr t : Trail) (es ds : List Event) (a : DrainAnswer) → DrainKnows (record m { point = y }) y r0 rs tr es → (drain_part m y).leaves (drain_call_at m y) rs r t ds a → IsHeld m.me r
    → Follows drain_parts drain_plan (record m { point = y }) a r0 r (tr ++ t) (es ++ ds)
leads m Status r0 rs r tr t es ds (First n) h (w, grows) held = begun m r0 rs r tr t es ds held n h w
leads m Item r0 rs r tr t es ds (Second (Ok done)) h (g, grows) held = taken m r0 rs r tr t es ds held h g grows
leads m Item r0 rs r tr t es ds (Second (Err (fault.Empty n))) h (g, grows) held = passed m r0 rs r tr t es ds held n h g grows
leads m Item r0 rs r tr t es ds (Second (Err (fault.EraSpent e))) h (g, grows) held = stopped m r0 rs r tr t es ds held e h g
leads m Status r0 rs r tr t es ds (Second a) h g held = absurd g.0
leads m Item r0 rs r tr t es ds (First n) h g held = absurd g.0

-- ---- the plan's laws, by those of the take that it calls

module _ (takes : PlanLaws take_parts take_plan) where
  pub drain_laws : PlanLaws drain_parts drain_plan
  drain_laws =
      record {
        stays = stays;
        calls = λ m. calls m m.point;
        parts = λ m. let first = is_status m.point in
            grown_laws first drain_parts (or_part (word_part first m.me (drain_ask m) StatusLoaded) (calls_part take_parts take_plan))
            (or_part_laws first word_control take_control (word_part first m.me (drain_ask m) StatusLoaded) (calls_part take_parts take_plan) (word_part_laws first m.me (drain_ask m) StatusLoaded) (calls_part_laws take_parts take_plan takes first));
        opens = λ m. opens m m.point;
        leads = λ m r0 rs r tr t es ds a h g held agent. leads m m.point r0 rs r tr t es ds a h g held;
      }
