-- what is owed of giving the value block at the head of a queue a root
use Rattle.std.proofs.Common.{◌≡◌, ◌≢◌, ℕ, ◌+◌, ◌%◌, ◌<◌, refl, sym, ap, ◌∙◌, subst, arith, Bool, true, false, List, [], ◌∷◌, ◌++◌, inl}
use Rattle.std.proofs.lemmas.{Bool.{cond-false, eqb-false, eqb-true}, List.Elements.Contains-append_right}
use Rattle.std.specs.{Prelude.{◌==◌, if◌then◌else◌, Some, None, Result, Ok, Err}, List.Contains}
use Rattle.shm_words.specs.Layout.{total_of}
use Rattle.shm_words.proofs.Placing.{total_small}
use Rattle.shm_graph.specs.declared.{ask.Me.Me, memo.{Fact.TheVariants.Counter, Look.Look, Memo.Memo, Stored.Stored}}
use Rattle.shm_graph.specs.{Agents.recovers, Asks.{Trail, IsWithin}, Bounds.up_steps, Core.core, Events.Event}
use Rattle.shm_graph.specs.{Held.is_loose, Idle.IsIdle, Laws.Outcome, Telling.{Value as AValue, shaped}, Views.own_word}
use Rattle.shm_graph.specs.declared.spot.Spot.TheVariants as spot
use Rattle.shm_graph.proofs.StepKinds.Loads.{choice}
use Rattle.plans.specs.{declared.{or.Or.TheVariants.{First, Second}, word.Word.Word}, Proved.CallTells.within_more}
use Rattle.plans.specs.{Proved.{Either.or_part_laws, Grown.grown_laws}, Either.or_part, Grown.Grows, Parts.IsHeld}
use Rattle.plans.specs.Plans.{PlanLaws, PlanStays, IsCall, Follows}
use Rattle.plans.specs.Words.{word_control, word_part, word_part_laws, WordLeaves}
use Rattle.kind_parts.specs.WordParts.{HeadSlotLoaded, WordLoaded}
use Rattle.kind_parts.proofs.{Covering.value_told, Words.Blocks.{idle_settled, plain_load, told_inside}}
use Rattle.kind_parts.proofs.Words.{Own.head_load, Queues.head_slot_load}
use Rattle.shm_count.specs.{declared.answer.ShareFault.ShareFault, Roots.{rest, root_word}, UpRoot.UpRootLeaves}
use Rattle.shm_count.specs.UpRoot.AsPart.{up_root, up_root_part}
use Rattle.shm_count.specs.Proved.UpRoot.AsPart.{may_up_root, rooted_root, up_root_bound}
use Rattle.shm_count.specs.declared.answer.ShareFault.TheVariants as share
use Rattle.shm_count.proofs.UpRootPart.{up_root_laws}
use Rattle.shm_queue.specs.Proved.{HeadReads.{has_item, head_read, is_empty, item_read}, QueueWords.item_reached}
use Rattle.shm_queue.specs.{QueueWords.{TailSeen, tail_seen}, Take.IsItemRead}
use Rattle.shm_table.specs.declared.answer.PutFault.{PutFault, TheVariants.{EraSpent, RootsFull, CountFull}}
use Rattle.shm_table.specs.declared.fetch_head.FetchHeadPoint.{FetchHeadPoint}
use Rattle.shm_table.specs.declared.fetch_head.FetchHeadPoint.TheVariants.{Head, Tail, Slot, Number, Share}
use Rattle.shm_table.specs.declared.fetch_head.{FetchHeadState.FetchHeadState, FetchedHead.TheVariants.Empty}
use Rattle.shm_table.specs.FetchHead.Control.{FetchHeadAnswer, fetch_head_ask, fetch_head_call, fetch_head_parts, fetching_head, is_head}
use Rattle.shm_table.specs.FetchHead.{FetchHeadFound, FetchHeadKnows, FetchHeadLeaves, IsHeadRooted, IsHeadUnrooted, IsNumbered, MayFetchHead, fetch_head_part, fetch_head_plan}
use Rattle.shm_table.specs.Proved.Fetch.Steps.{idle_more, keeps_root, root_others, root_part, root_value}
use Rattle.shm_table.specs.Proved.{Find.SearchLoads.learnt_keeps, Get.UnderLatch.word_more, PutRoot.Steps.same_part}
use Rattle.shm_table.specs.Proved.Staying.Laws.{cause_before, cleared_more, keeps_core, keeps_more, keeps_rest, keeps_untouched, rests_core, rests_untouched, value_by}
use Rattle.shm_table.specs.{Proved.ValuesListed.idle_here, Get.UnderLatch.ReadsMore, Staying.{Keeps, PutCause}}
use Rattle.shm_table.specs.Staying.Laws.{KeepsRest}

-- ---- reading

pub reads_then : (m x r : Memo) → ReadsMore m x → ReadsMore x r → ReadsMore m r
reads_then m x r a b =
    record {
      memo = b.memo ∙ ap (λ (y : Memo). core (record y { looks = r.looks; known = r.known; values = r.values })) a.memo;
      known = λ s k. b.known s (a.known s k);
      looked = λ j k. b.looked j (a.looked j k);
      values = λ v k. b.values v (a.values v k);
    }

-- where only more was read all is kept
keeps_reads : (c : ℕ) (m r : Memo) → ReadsMore m r → IsIdle c m → Keeps c m r
keeps_reads c m r h idle =
    keeps_rest c m r m.latch m.part idle (ap rest h.memo) (ap (λ (x : Memo). x.op) h.memo ∙ idle.op) (ap (λ (x : Memo). own_word x.own (spot.Hold c)) h.memo ∙ idle.hold) refl
    (λ p l s. ap (λ (x : Memo). own_word x.own p) h.memo)
    (let u = ap (λ (x : Memo). own_word x.own (spot.Era c c)) h.memo in omega arith)
    (λ j. inl (ap (λ (x : Memo). root_word c x j) h.memo))
    (λ p x s k. h.known (record { spot = p; value = x }) k)
    (λ k v n l some root a. value_by c m r v n (h.values v) (h.known (record { spot = spot.Body v 0; value = n })) a)

rests_reads : (c : ℕ) (m r : Memo) → ReadsMore m r → KeepsRest c m r
rests_reads c m r h =
    record {
      latch = ap (λ (x : Memo). x.latch) h.memo;
      home = ap (λ (x : Memo). own_word x.own (spot.Home c)) h.memo;
      part = ap (λ (x : Memo). x.part) h.memo;
      cleared = record { roots = λ j. ap (λ (x : Memo). root_word c x j) h.memo; dying = ap (λ (x : Memo). x.dying) h.memo };
    }

-- the item that was read is a value block
item_listed : (me : Me) (s n b : ℕ) (r0 r : Memo) (tr : Trail) (es : List Event) → MayFetchHead me s r0 → IsItemRead me s n b r0 r tr es → Contains r.values b
item_listed me s n b r0 r tr es may h = subst (λ (vs : List ℕ). Contains vs b) (sym (ap (λ (x : Memo). x.values) h.left ∙ cond-false (is_loose r0.part) r0.values (b ∷ r0.values) may.table)) (0, omega arith, refl)

-- ---- what follows each call

module _ (m : FetchHeadState) (r0 rs r : Memo) (tr t : Trail) (es ds : List Event) (held : IsHeld m.me r) (agent : recovers r ≡ recovers rs) where
  abbrev c : ℕ
  c = m.me.who

  abbrev s : ℕ
  s = m.from

  abbrev asked : FetchHeadPoint → Word
  asked y = record { me = m.me; ask = fetch_head_ask m y; over = false }

  -- what is known before the next call, or what is left
  abbrev Goes : FetchHeadPoint → FetchHeadAnswer → Type 0
  Goes y b = Follows fetch_head_parts fetch_head_plan (record m { point = y }) b r0 r (tr ++ t) (es ++ ds)

  -- ---- the loads

  -- the tail was read: the queue is empty, or it has an item
  looked : (n : ℕ) → FetchHeadKnows (record m { point = Tail }) Tail r0 rs tr es → WordLeaves (TailSeen c s) (asked Tail) rs r t ds n → Grows false rs r → Goes Tail (First n)
  looked n (may, h) w grows = go (n == m.at) (eqb-true n m.at) (eqb-false n m.at)
    where
      go : (q : Bool) → (q ≡ true → n ≡ m.at) → (q ≡ false → n ≢ m.at)
          → Outcome (if q then Some (Empty m.at) else None) (FetchHeadKnows (record m { point = Slot }) Slot r0 r (tr ++ t) (es ++ ds)) (FetchHeadLeaves (fetching_head m.me s) r0 r (tr ++ t) (es ++ ds))
      go true is other = is_empty m.me s m.at r0 rs r tr t es ds (asked Tail) n h w grows (is refl)
      go false is other = (may, has_item m.me s m.at r0 rs r tr t es ds (asked Tail) n h w grows (other refl))

  -- the item was read
  found : (n : ℕ) → FetchHeadKnows (record m { point = Slot }) Slot r0 rs tr es → WordLeaves (HeadSlotLoaded c s (m.at % 8)) (asked Slot) rs r t ds n → Grows false rs r → Goes Slot (First n)
  found n (may, (h, slot)) w grows =
      let item = item_read m.me s m.at r0 rs r tr t es ds held (asked Slot) n h slot w grows in
      let listed = item_listed m.me s m.at n r0 r (tr ++ t) (es ++ ds) may item.1 in
      let inside = told_inside m.me r (shaped None n AValue) may.take.who held (value_told c r m.me.geometry.wide n listed) in
      let room : n + 2 < total_of m.me.geometry = omega arith in
      (may, subst (λ b. IsItemRead m.me s m.at b r0 r (tr ++ t) (es ++ ds) × (b + 2 < total_of m.me.geometry)) (sym item.0) (item.1, room))

  -- by which more is known
  item_reads : IsItemRead m.me s m.at m.block r0 rs tr es → ReadsMore r0 rs
  item_reads h =
      record {
        memo = h.left ∙ ap (λ (y : Memo). core (record r0 { looks = y.looks; known = y.known; values = y.values })) (sym h.left);
        known = λ j k. subst (λ (ks : List Stored). Contains ks j) (sym (ap (λ (y : Memo). y.known) h.left)) (learnt_keeps (spot.Slot s c (m.at % 8)) r0 m.block h.known j k);
        looked = λ j k. subst (λ (ks : List Look). Contains ks j) (sym (ap (λ (y : Memo). y.looks) h.left)) k;
        values = λ v k. subst (λ (vs : List ℕ). Contains vs v) (sym (ap (λ (y : Memo). y.values) h.left)) (choice (λ (vs : List ℕ). Contains vs v) (is_loose r0.part) r0.values (m.block ∷ r0.values) (λ z. k) (λ z. Contains-append_right (m.block ∷ []) r0.values v k));
      }

  -- and so was its number
  numbered : (n : ℕ) → FetchHeadKnows (record m { point = Number }) Number r0 rs tr es → WordLeaves (WordLoaded (spot.Body m.block 0)) (asked Number) rs r t ds n → Grows false rs r → Goes Number (First n)
  numbered n (may, (h, room)) w grows =
      let more = word_more (spot.Body m.block 0) rs n r w.found in
      let one : IsWithin 1 t = (let o = w.one in omega arith) in
      let low = h.can.inside.0 in
      record {
        may = may;
        client = agent ∙ (h.grows.agent ∙ may.client);
        at = record {
          reads = reads_then r0 rs r (item_reads h) more;
          holds = held;
          place = h.head;
          above = (h.some.0, grows.counts (Counter (spot.Tail s c) h.some.0) refl h.some.1, h.some.2);
          some = λ e. absurd (omega arith);
          known = more.known (record { spot = spot.Slot s c (m.at % 8); value = m.block }) h.can.known;
          value = record {
            value = more.values m.block (item_listed m.me s m.at m.block r0 rs tr es may h);
            word = subst (λ (ks : List Stored). Contains ks (record { spot = spot.Body m.block 0; value = n })) (sym (ap (λ (x : Memo). x.known) w.found.left)) (0, omega arith, refl);
          };
        };
        none = ap (λ (x : List Event). x ++ ds) h.none ∙ w.none;
        bound = within_more 3 1 tr t h.bound one;
      }

  -- ---- the root

  module _ (h : IsNumbered m.me s m.at m.block m.number r0 rs tr es) where
    before : Keeps c r0 rs
    before = keeps_reads c r0 rs h.at.reads h.may.idle

    rests : KeepsRest c r0 rs
    rests = rests_reads c r0 rs h.at.reads

    idle : IsIdle c rs
    idle = idle_more c r0 rs h.at.reads h.may.idle

    -- it got one
    rooted : (k : ℕ) → UpRootLeaves m.me m.block rs r t ds (Ok k) → IsHeadRooted m.me s k m.block m.number m.at r0 r (tr ++ t) (es ++ ds)
    rooted k w =
        let b = within_more 4 (up_steps m.me.geometry.wide + 16) tr t h.bound (up_root_bound m.me m.block rs r t ds (Ok k) w) in
        record {
          keeps = keeps_more c r0 rs r before (keeps_root c k m.block rs r w.filled idle w.empty);
          holds = held;
          client = agent ∙ h.client;
          latch = ap (λ (x : Memo). x.latch) w.filled.rest ∙ rests.latch;
          home = w.filled.own (spot.Home c) refl ∙ rests.home;
          map = same_part r0 r (root_part c k m.block rs r w.filled ∙ rests.part);
          low = w.low;
          empty = sym (rests.cleared.roots k) ∙ w.empty;
          root = rooted_root m.me m.block k rs r t ds w;
          small = (let total = total_small m.me.geometry h.may.take.geometry in let l = w.inside.1 in omega arith);
          others = λ j n. root_others c k m.block rs r w.filled j n ∙ rests.cleared.roots j;
          dying = ap (λ (x : Memo). x.dying) w.filled.rest ∙ rests.cleared.dying;
          known = subst (λ (ks : List Stored). Contains ks (record { spot = spot.Slot s c (m.at % 8); value = m.block })) (sym (ap (λ (x : Memo). x.known) w.filled.rest)) h.at.known;
          value = root_value c k m.block rs r w.filled m.block m.number h.at.value;
          events = ap (λ (x : List Event). x ++ ds) h.none ∙ w.events;
          q = rs;
          source = h.at;
          bound = b;
        }

    -- it got none, and nothing was done
    unrooted : (f : PutFault) → Keeps c rs r → KeepsRest c rs r → PutCause m.me rs r f → ds ≡ [] → IsWithin (up_steps m.me.geometry.wide + 16) t → IsHeadUnrooted m.me s f r0 r (tr ++ t) (es ++ ds)
    unrooted f keeps same cause none bound =
        record {
          keeps = keeps_more c r0 rs r before keeps;
          latch = same.latch ∙ rests.latch;
          home = same.home ∙ rests.home;
          map = same_part r0 r (same.part ∙ rests.part);
          cause = cause_before m.me r0 rs r f rests.cleared.roots cause;
          waits = (m.at, m.block, m.number, rs, h.at);
          cleared = cleared_more c r0 rs r rests.cleared same.cleared;
          none = ap (λ (x : List Event). x ++ ds) h.none ∙ none;
          bound = within_more 4 (up_steps m.me.geometry.wide + 16) tr t h.bound bound;
        }

    shared : (b : Result ℕ ShareFault) → UpRootLeaves m.me m.block rs r t ds b → Goes Share (Second b)
    shared (Ok k) w = rooted k w
    shared (Err (share.EraSpent e)) w =
        let era = w.era ∙ sym (ap (λ (x : Memo). own_word x.own (spot.Era c c)) w.same) in
        let spent = w.spent in
        unrooted (EraSpent e) (keeps_core c rs r idle w.same) (rests_core c rs r w.same) (omega arith, omega arith) w.events (up_root_bound m.me m.block rs r t ds (Err (share.EraSpent e)) w)
    shared (Err share.RootsFull) w = unrooted RootsFull (keeps_core c rs r idle w.same) (rests_core c rs r w.same) w.all w.events (up_root_bound m.me m.block rs r t ds (Err share.RootsFull) w)
    shared (Err (share.CountFull d n)) w = unrooted (CountFull d n) (keeps_untouched c rs r idle w.untouched) (rests_untouched c rs r w.untouched) w.full w.events w.bound

-- ---- the plan

stays : (m : FetchHeadState) (y : FetchHeadPoint) (b : FetchHeadAnswer) → PlanStays fetch_head_parts fetch_head_plan (record m { point = y }) b
stays m Head (First n) = record { same_me = refl; same_line = refl; same_start = refl; started = λ e. refl }
stays m y (Second (Ok k)) = record { same_me = refl; same_line = refl; same_start = refl; started = λ e. absurd (cc) }
stays m y (Second (Err f)) = record { same_me = refl; same_line = refl; same_start = refl; started = λ e. absurd (cc) }
stays m _ (First n) = record { same_me = refl; same_line = refl; same_start = refl; started = λ e. refl }

calls : (m : FetchHeadState) (y : FetchHeadPoint) → IsCall fetch_head_parts fetch_head_plan (record m { point = y })
calls m Head = record { me = refl; asks = refl }
calls m _ = record { me = refl; asks = refl }

opens : (m : FetchHeadState) (y : FetchHeadPoint) (r0 r : Memo) (tr : Trail) (es : List Event) → FetchHeadKnows (record m { point = y }) y r0 r tr es → (fetch_head_part (record m { point = y }) y).needs (fetch_head_call m y) r
opens m Head r0 r tr es h = head_load true m.me r h.0.take.who m.from m.me.who h.0.take.from h.0.take.who
opens m Tail r0 r tr es h = tail_seen false m.me r h.0.take.who m.from h.0.take.from h.0.take.other
opens m Slot r0 r tr es h = head_slot_load false m.me r h.0.take.who m.from (m.at % 8) h.1.1
opens m Number r0 r tr es (may, (h, room)) =
    plain_load false m.me r may.take.who m.block 0 (omega arith, omega arith) (shaped None m.block AValue, value_told m.me.who r m.me.geometry.wide m.block (item_listed m.me m.from m.at m.block r0 r tr es may h), refl, omega arith, omega arith) (idle_settled r (spot.Body m.block 0) h.can.idle)
opens m Share r0 r tr es h =
    let idle = idle_more m.me.who r0 r h.at.reads h.may.idle in
    may_up_root m.me m.block r
    (record { geometry = h.may.take.geometry; who = h.may.take.who; here = idle_here m.me.who r idle; idle = idle.op; client = h.client; reach = item_reached m.me.who m.from (m.at % 8) m.block r h.at.some h.at.known })

leads : (m : FetchHeadState) (y : FetchHeadPoint) (r0 rs r : Memo) (tr t : Trail) (es ds : List Event) (b : FetchHeadAnswer) → IsHeld m.me r → recovers r ≡ recovers rs → FetchHeadKnows (record m { point = y }) y r0 rs tr es
    → (fetch_head_part (record m { point = y }) y).leaves (fetch_head_call m y) rs r t ds b → Follows fetch_head_parts fetch_head_plan (record m { point = y }) b r0 r (tr ++ t) (es ++ ds)
leads m Head r0 rs r tr t es ds (First n) held agent (may, same, none, quiet) (w, grows) = (may, head_read m.me m.from r0 rs r tr t es ds (record { me = m.me; ask = fetch_head_ask m Head; over = false }) n may.take same none quiet w grows)
leads m Tail r0 rs r tr t es ds (First n) held agent h (w, grows) = looked m r0 rs r tr t es ds held agent n h w grows
leads m Slot r0 rs r tr t es ds (First n) held agent h (w, grows) = found m r0 rs r tr t es ds held agent n h w grows
leads m Number r0 rs r tr t es ds (First n) held agent h (w, grows) = numbered m r0 rs r tr t es ds held agent n h w grows
leads m Share r0 rs r tr t es ds (Second b) held agent h (w, grows) = shared m r0 rs r tr t es ds held agent h b w
leads m _ r0 rs r tr t es ds _ held agent h g = absurd g.0

-- what is known before the first call
pub fetch_head_begin : (me : Me) (s : ℕ) (r : Memo) → MayFetchHead me s r → FetchHeadKnows (fetching_head me s) Head r r [] []
fetch_head_begin me s r may = (may, refl, refl, refl)

pub fetch_head_laws : PlanLaws fetch_head_parts fetch_head_plan
fetch_head_laws =
    record {
      stays = λ m b. stays m m.point b;
      calls = λ m. calls m m.point;
      parts = λ m. let first = is_head m.point in
          let word = word_part first m.me (fetch_head_ask m m.point) (FetchHeadFound m m.point) in
          grown_laws first fetch_head_parts (or_part word up_root_part)
          (or_part_laws first word_control up_root word up_root_part (word_part_laws first m.me (fetch_head_ask m m.point) (FetchHeadFound m m.point)) (up_root_laws first));
      opens = λ m. opens m m.point;
      leads = λ m r0 rs r tr t es ds b h g held agent. leads m m.point r0 rs r tr t es ds b held agent h g;
    }
