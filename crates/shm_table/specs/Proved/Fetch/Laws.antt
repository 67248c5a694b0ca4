-- what is owed of reading what a key has and giving it a root
use Rattle.std.proofs.Common.{◌≡◌, ℕ, ◌+◌, ◌*◌, ◌%◌, refl, sym, ap, ◌∙◌, subst, arith, false, eqb, List, [], ◌∷◌, ◌++◌}
use Rattle.std.specs.{Prelude.{map, Some, Result, Ok, Err}, List.{Contains, list_any}}
use Rattle.shm_words.proofs.Placing.{total_small}
use Rattle.shm_words.specs.Layout.{address_limit}
use Rattle.shm_graph.specs.declared.{ask.Me.Me, memo.{Look.Look, Memo.Memo}}
use Rattle.shm_graph.specs.{declared.spot.Spot.TheVariants.{Body, Era, Home, Root}, Agents.recovers}
use Rattle.shm_graph.specs.{Asks.{Trail, IsWithin}, Bounds.up_steps, Events.Event, Trails.{Answers, Asked}}
use Rattle.shm_graph.specs.Views.{own_word}
use Rattle.shm_graph.specs.Events as event
use Rattle.plans.specs.{declared.or.Or.TheVariants.{First, Second}, Proved.{CallTells.within_more, Either.or_part_laws}}
use Rattle.plans.specs.{CallsPart.{calls_part, calls_part_laws}, Either.{or_control, or_part}, Parts.IsHeld}
use Rattle.plans.specs.{Plans.{PlanLaws, PlanStays, IsCall, Follows}, Words.{word_control, word_part, word_part_laws}}
use Rattle.kind_parts.specs.WordParts.{ReferenceLoaded, WordLoaded}
use Rattle.kind_parts.proofs.{Reaching.look_reached, Words.Blocks.{idle_settled, plain_load, reference_load}}
use Rattle.shm_count.specs.{declared.answer.ShareFault.ShareFault, UpRoot.UpRootLeaves}
use Rattle.shm_count.specs.UpRoot.AsPart.{up_root, up_root_part}
use Rattle.shm_count.specs.Proved.UpRoot.AsPart.{may_up_root, rooted_root, up_root_bound}
use Rattle.shm_count.specs.declared.answer.ShareFault.TheVariants as share
use Rattle.shm_count.proofs.UpRootPart.{up_root_laws}
use Rattle.shm_ref.specs.Proved.AskedParts.{asked_part_laws}
use Rattle.shm_table.specs.declared.answer.PutFault.{PutFault, TheVariants.{EraSpent, RootsFull, CountFull}}
use Rattle.shm_table.specs.declared.fetch.FetchPoint.{FetchPoint, TheVariants.{Search, Value, Number, Share, Give}}
use Rattle.shm_table.specs.declared.fetch.{FetchState.FetchState, Fetched.Fetched}
use Rattle.shm_table.specs.declared.{fetch.Fetched.TheVariants.{Missing, Refused, Rooted}, find.Found.Found}
use Rattle.shm_table.specs.declared.find.Found.TheVariants.{Absent, At}
use Rattle.shm_table.specs.Fetch.Control.{FetchAnswer, fetch_ask, fetch_call, fetch_outcome, fetch_parts, fetching, is_search}
use Rattle.shm_table.specs.Fetch.{FetchFound, FetchKnows, FetchLeaves, GiveKnows, IsOn, MayFetch, fetch_part, fetch_plan, fetch_word_part, got, rooted_steps}
use Rattle.shm_table.specs.Proved.Fetch.Steps.{clear_reading, idle_more, keeps_reading, keeps_root, map_reading, on_more, one_step, root_others, root_part, root_value, search_on, value_seen}
use Rattle.shm_table.specs.Proved.Find.SearchLoads.{entry_latched}
use Rattle.shm_table.specs.Proved.Get.Laws.{at_entry, latch_of, may_unlatch, missing, nowhere, number_read, told_own, value_plain, value_read}
use Rattle.shm_table.specs.Proved.{Get.UnderLatch.{reference_more, word_more}, Locate.Laws.{locate_begin, locate_laws}}
use Rattle.shm_table.specs.Proved.PutRoot.Steps.{same_more, same_part, search_more}
use Rattle.shm_table.specs.Proved.Staying.Laws.{cause_before, cause_later, cleared_more, keeps_core, keeps_more, keeps_unlatched, keeps_untouched, rests_core, rests_untouched, unlatched_else}
use Rattle.shm_table.specs.Proved.{Unlatch.Laws.{unlatch_begin, unlatch_laws}, ValuesListed.idle_here}
use Rattle.shm_table.specs.{Find.Control.word_ask, Get.IsReading, Locate.Control.{locate_parts, locate_control}}
use Rattle.shm_table.specs.{Locate.{Located, MayLocate, locate_plan}, Staying.{Keeps, PutCause, Laws.KeepsRest}}
use Rattle.shm_table.specs.Unlatch.{MayUnlatch, Unlatched, unlatch_plan, Control.unlatch_control}
use Rattle.shm_table.specs.declared.get.GetPoint.TheVariants as get

-- ---- what follows each call

module _ (m : FetchState) (r0 rs r : Memo) (tr t : Trail) (es ds : List Event) (held : IsHeld m.me r) (agent : recovers r ≡ recovers rs) where
  abbrev a : ℕ
  a = m.author

  abbrev c : ℕ
  c = m.me.who

  -- what is known before the next call, or what is left
  abbrev Goes : FetchPoint → FetchAnswer → Type 0
  Goes y b = Follows fetch_parts fetch_plan (record m { point = y }) b r0 r (tr ++ t) (es ++ ds)

  -- ---- the search

  searched_found : (b : Found) → FetchKnows (record m { point = Search }) Search r0 rs tr es → Located m.me a m.key rs r t ds b → Goes Search (First b)
  searched_found (Absent home first) (may, same, none, quiet) w = nowhere (got m get.Search) r0 rs r tr t es ds held (may.locate, same, none, quiet) home first w
  searched_found (At entry before word) (may, same, none, quiet) w = (
    at_entry (got m get.Search) r0 rs r tr t es ds held (may.locate, same, none, quiet) entry before word w,
    search_on m.me a m.key entry before word rs r tr t ds none (agent ∙ (ap recovers same ∙ may.client)) w,
    may.client,
  )

  -- ---- the loads

  value_found : (n : ℕ) → FetchKnows (record m { point = Value }) Value r0 rs tr es → ReferenceLoaded m.entry 1 rs n r → ds ≡ [] → Asked (word_ask m.entry 1) (λ x. Answers x) t n → FetchKnows (record m { block = n % address_limit; point = Number }) Number r0 r (tr ++ t) (es ++ ds)
  value_found n (h, on, client) left none asked =
      let next = value_read (got m get.Value) r0 rs r tr t es ds held n h left none asked in (
        next,
        on_more m.me a m.key 4 rs r tr t on (idle_more c rs r (reference_more m.entry 1 rs n r left) on.idle) agent (one_step m.entry n 1 t asked),
        client,
        value_seen (got m get.Value) r0 rs r (tr ++ t) (es ++ ds) held n h.0.reading h.1.0 next left,
      )

  number_found : (n : ℕ) → FetchKnows (record m { point = Number }) Number r0 rs tr es → WordLoaded (Body m.block 0) rs n r → ds ≡ [] → Asked (word_ask m.block 0) (λ x. Answers x) t n → FetchKnows (record m { number = n; point = Share }) Share r0 r (tr ++ t) (es ++ ds)
  number_found n (h, on, client, listed) left none asked =
      let next = number_read (got m get.Number) r0 rs r tr t es ds held n h left none asked in (
        next,
        on_more m.me a m.key 5 rs r tr t on (idle_more c rs r (word_more (Body m.block 0) rs n r left) on.idle) agent (one_step m.block n 0 t asked),
        client,
        record { value = subst (λ (vs : List ℕ). Contains vs m.block) (sym (ap (λ (x : Memo). x.values) left.left)) listed; word = next.1.number },
        look_reached c r m.block (ap (λ (ks : List Look). list_any (eqb m.block) (map (λ (k : Look). k.block) ks)) (ap (λ (x : Memo). x.looks) left.left) ∙ h.2.1),
      )

  -- ---- the root

  module _ (h : FetchKnows (record m { point = Share }) Share r0 rs tr es) where
    on : IsOn m.me a m.key 6 rs tr
    on = h.1

    reading : IsReading m.me a r0 rs
    reading = h.0.0.reading

    may : MayFetch m.me a r0
    may = record { locate = reading.may; client = h.2 }

    before : Keeps c r0 rs
    before = keeps_reading m.me a r0 rs reading on.idle

    -- it got one
    rooted : (k : ℕ) → UpRootLeaves m.me m.block rs r t ds (Ok k) → GiveKnows m (Rooted k m.block m.number) r0 r (tr ++ t) (es ++ ds)
    rooted k w =
        let clear = clear_reading m.me a r0 rs reading in
        let b = within_more (6 + 2 * on.keys) (up_steps m.me.geometry.wide + 16) tr t on.bound (up_root_bound m.me m.block rs r t ds (Ok k) w) in
        record {
          may = may;
          keeps = keeps_more c r0 rs r before (keeps_root c k m.block rs r w.filled on.idle w.empty);
          holds = held;
          client = agent ∙ on.client;
          latch = ap (λ (x : Memo). x.latch) w.filled.rest ∙ latch_of m.me a r0 rs reading;
          home = w.filled.own (Home c) refl ∙ reading.own (Home c) refl;
          map = same_more r0 rs r (map_reading m.me a r0 rs reading) (same_part rs r (root_part c k m.block rs r w.filled));
          low = w.low;
          empty = sym (clear.roots k) ∙ w.empty;
          root = rooted_root m.me m.block k rs r t ds w;
          some = λ e. (let l = w.inside.0 in absurd (omega arith));
          small = (let total = total_small m.me.geometry reading.may.geometry in let l = w.inside.1 in omega arith);
          others = λ j n. root_others c k m.block rs r w.filled j n ∙ clear.roots j;
          dying = ap (λ (x : Memo). x.dying) w.filled.rest ∙ clear.dying;
          value = root_value c k m.block rs r w.filled m.block m.number h.3;
          events = ap (λ (x : List Event). x ++ ds) h.0.0.none ∙ w.events;
          entry = m.entry;
          q = rs;
          reading = reading;
          told = h.0.1;
          has = λ own. sym (map_reading m.me a r0 rs reading m.key) ∙ told_own m.me a m.key m.entry m.number m.block rs reading.may.who reading.held h.0.1 own;
          keys = on.keys;
          search = search_more m.me a m.key on.keys tr t on.search;
          bound = omega arith;
        }

    -- it got none, and nothing was done
    unrooted : (f : PutFault) → Keeps c rs r → KeepsRest c rs r → PutCause m.me rs r f → ds ≡ [] → IsWithin (up_steps m.me.geometry.wide + 16) t → GiveKnows m (Refused f) r0 r (tr ++ t) (es ++ ds)
    unrooted f keeps rests cause none bound =
        let clear = clear_reading m.me a r0 rs reading in
        let b = within_more (6 + 2 * on.keys) (up_steps m.me.geometry.wide + 16) tr t on.bound bound in
        record {
          may = may;
          keeps = keeps_more c r0 rs r before keeps;
          holds = held;
          latch = rests.latch ∙ latch_of m.me a r0 rs reading;
          home = rests.home ∙ reading.own (Home c) refl;
          map = same_more r0 rs r (map_reading m.me a r0 rs reading) (same_part rs r rests.part);
          cause = cause_before m.me r0 rs r f clear.roots cause;
          has = λ own. (m.number, m.block, sym (map_reading m.me a r0 rs reading m.key) ∙ told_own m.me a m.key m.entry m.number m.block rs reading.may.who reading.held h.0.1 own);
          cleared = cleared_more c r0 rs r clear rests.cleared;
          none = ap (λ (x : List Event). x ++ ds) h.0.0.none ∙ none;
          keys = on.keys;
          search = search_more m.me a m.key on.keys tr t on.search;
          bound = omega arith;
        }

    shared : (b : Result ℕ ShareFault) → UpRootLeaves m.me m.block rs r t ds b → GiveKnows m (fetch_outcome m b) r0 r (tr ++ t) (es ++ ds)
    shared (Ok k) w = rooted k w
    shared (Err (share.EraSpent e)) w =
        let era = w.era ∙ sym (ap (λ (x : Memo). own_word x.own (Era c c)) w.same) in
        let spent = w.spent in
        unrooted (EraSpent e) (keeps_core c rs r on.idle w.same) (rests_core c rs r w.same) (omega arith, omega arith) w.events (up_root_bound m.me m.block rs r t ds (Err (share.EraSpent e)) w)
    shared (Err share.RootsFull) w = unrooted RootsFull (keeps_core c rs r on.idle w.same) (rests_core c rs r w.same) w.all w.events (up_root_bound m.me m.block rs r t ds (Err share.RootsFull) w)
    shared (Err (share.CountFull d n)) w = unrooted (CountFull d n) (keeps_untouched c rs r on.idle w.untouched) (rests_untouched c rs r w.untouched) w.full w.events w.bound

  -- ---- the latch is given back

  given : (o : Fetched) → GiveKnows m o r0 rs tr es → Unlatched m.me a rs r t ds → FetchLeaves m r0 r (tr ++ t) (es ++ ds) o
  given Missing h w = missing (got m get.Missing) r0 rs r tr t es ds held h w
  given (Refused f) h w =
      let after = keeps_unlatched m.me rs r h.keeps.idle h.holds h.may.locate.who w.memo in
      let u = unlatched_else m.me.geometry.wide c rs r w.memo in
      let b = within_more (rooted_steps m.me.geometry.wide + 2 * h.keys) 2 tr t h.bound (subst (IsWithin 2) (sym w.trail) (omega arith)) in
      record {
        may = h.may;
        keeps = keeps_more c r0 rs r h.keeps after;
        holds = held;
        latch = w.latch;
        home = u.1 ∙ h.home;
        map = same_more r0 rs r h.map (same_part rs r u.2);
        cause = cause_later m.me r0 rs r f after.era h.cause;
        has = h.has;
        cleared = cleared_more c r0 rs r h.cleared u.3;
        none = ap (λ (x : List Event). x ++ ds) h.none ∙ w.none;
        keys = h.keys;
        search = search_more m.me a m.key h.keys tr t h.search;
        bound = omega arith;
      }
  given (Rooted k v n) h w =
      let after = keeps_unlatched m.me rs r h.keeps.idle h.holds h.may.locate.who w.memo in
      let u = unlatched_else m.me.geometry.wide c rs r w.memo in
      let b = within_more (rooted_steps m.me.geometry.wide + 2 * h.keys) 2 tr t h.bound (subst (IsWithin 2) (sym w.trail) (omega arith)) in
      record {
        may = h.may;
        keeps = keeps_more c r0 rs r h.keeps after;
        holds = held;
        client = agent ∙ h.client;
        latch = w.latch;
        home = u.1 ∙ h.home;
        map = same_more r0 rs r h.map (same_part rs r u.2);
        low = h.low;
        empty = h.empty;
        root = u.3.roots k ∙ h.root;
        some = h.some;
        small = h.small;
        others = λ j o. u.3.roots j ∙ h.others j o;
        dying = u.3.dying ∙ h.dying;
        value = after.values k v n h.low h.some h.root h.value;
        events = ap (λ (x : List Event). x ++ ds) h.events ∙ ap (λ (x : List Event). event.Up c (Root c k) v ∷ x) w.none;
        entry = h.entry;
        q = h.q;
        reading = h.reading;
        told = h.told;
        has = h.has;
        keys = h.keys;
        search = search_more m.me a m.key h.keys tr t h.search;
        bound = omega arith;
      }

-- ---- the plan

-- what the giving back of the latch needs
may_give : (me : Me) (a : ℕ) (r0 r : Memo) → MayFetch me a r0 → Keeps me.who r0 r → r.latch ≡ Some a → MayUnlatch me a r
may_give me a r0 r may keeps latch = record { geometry = may.locate.geometry; who = may.locate.who; author = may.locate.author; here = idle_here me.who r keeps.idle; idle = keeps.idle.op; latch = latch }

gives : (m : FetchState) (o : Fetched) (r0 r : Memo) (tr : Trail) (es : List Event) → GiveKnows m o r0 r tr es → MayUnlatch m.me m.author r
gives m Missing r0 r tr es h = may_unlatch m.me m.author r0 r h.reading
gives m _ r0 r tr es h = may_give m.me m.author r0 r h.may h.keeps h.latch

-- what is known before the first call
pub fetch_begin : (me : Me) (a key : ℕ) (r : Memo) → MayFetch me a r → FetchKnows (fetching me a key) Search r r [] []
fetch_begin me a key r may = (may, refl, refl, refl)

pub fetch_laws : PlanLaws fetch_parts fetch_plan
fetch_laws =
    record {
      stays = λ m b. stays m m.point b;
      calls = λ m. calls m m.point;
      parts = λ m. let first = is_search m.point in
          let word = word_part first m.me (fetch_ask m m.point) (FetchFound m m.point) in
          let last = or_part up_root_part (calls_part word_control unlatch_plan) in
          or_part_laws first locate_control (or_control word_control (or_control up_root unlatch_control)) (calls_part locate_parts locate_plan) (or_part (fetch_word_part m m.point) last)
          (calls_part_laws locate_parts locate_plan locate_laws first)
          (or_part_laws first word_control (or_control up_root unlatch_control) (fetch_word_part m m.point) last
          (asked_part_laws first word_control word (word_part_laws first m.me (fetch_ask m m.point) (FetchFound m m.point)))
          (or_part_laws first up_root unlatch_control up_root_part (calls_part word_control unlatch_plan) (up_root_laws first) (calls_part_laws word_control unlatch_plan unlatch_laws first)));
      opens = λ m. opens m m.point;
      leads = λ m r0 rs r tr t es ds b h g held agent. leads m m.point r0 rs r tr t es ds b held agent h g;
    }
  where
    stays : (m : FetchState) (y : FetchPoint) (b : FetchAnswer) → PlanStays fetch_parts fetch_plan (record m { point = y }) b
    stays m y (First (At entry before word)) = record { same_me = refl; same_line = refl; same_start = refl; started = λ e. refl }
    stays m Search (Second (First n)) = record { same_me = refl; same_line = refl; same_start = refl; started = λ e. refl }
    stays m y (Second (Second (Second done))) = record { same_me = refl; same_line = refl; same_start = refl; started = λ e. absurd (cc) }
    stays m _ _ = record { same_me = refl; same_line = refl; same_start = refl; started = λ e. refl }

    calls : (m : FetchState) (y : FetchPoint) → IsCall fetch_parts fetch_plan (record m { point = y })
    calls m Search = record { me = refl; asks = refl }
    calls m _ = record { me = refl; asks = refl }

    opens : (m : FetchState) (y : FetchPoint) (r0 r : Memo) (tr : Trail) (es : List Event) → FetchKnows (record m { point = y }) y r0 r tr es → (fetch_part (record m { point = y }) y).needs (fetch_call m y) r
    opens m Search r0 r tr es h = record { made = refl; first = refl; start = refl; knows = locate_begin m.me m.author m.key r (subst (MayLocate m.me m.author) (sym h.1) h.0.locate) }
    opens m Value r0 r tr es ((h, here, room), on, client) =
        reference_load false m.me r h.reading.may.who m.entry 1 (omega arith, omega arith) (entry_latched m.me.geometry.wide m.me.who m.author r m.entry 1 (latch_of m.me m.author r0 r h.reading) here (omega arith)) (idle_settled r (Body m.entry 1) on.idle.op)
    opens m Number r0 r tr es ((h, look, here, room), on, client, listed) = plain_load false m.me r h.reading.may.who m.block 0 (omega arith, omega arith) (value_plain m.me.geometry.wide m.me.who r m.block here) (idle_settled r (Body m.block 0) on.idle.op)
    opens m Share r0 r tr es ((h, told), on, client, value, reach) =
        may_up_root m.me m.block r
        (record { geometry = h.reading.may.geometry; who = h.reading.may.who; here = idle_here m.me.who r on.idle; idle = on.idle.op; client = on.client; reach = reach })
    opens m Give r0 r tr es h = record { made = refl; first = refl; start = refl; knows = unlatch_begin m.me m.author r (gives m m.outcome r0 r tr es h) }

    leads : (m : FetchState) (y : FetchPoint) (r0 rs r : Memo) (tr t : Trail) (es ds : List Event) (b : FetchAnswer) → IsHeld m.me r → recovers r ≡ recovers rs → FetchKnows (record m { point = y }) y r0 rs tr es
        → (fetch_part (record m { point = y }) y).leaves (fetch_call m y) rs r t ds b → Follows fetch_parts fetch_plan (record m { point = y }) b r0 r (tr ++ t) (es ++ ds)
    leads m Search r0 rs r tr t es ds (First b) held agent h g = searched_found m r0 rs r tr t es ds held agent b h g
    leads m Value r0 rs r tr t es ds (Second (First n)) held agent h g = value_found m r0 rs r tr t es ds held agent n h g.0.found g.0.none g.1
    leads m Number r0 rs r tr t es ds (Second (First n)) held agent h g = number_found m r0 rs r tr t es ds held agent n h g.0.found g.0.none g.1
    leads m Share r0 rs r tr t es ds (Second (Second (First b))) held agent h g = shared m r0 rs r tr t es ds held agent h b g
    leads m Give r0 rs r tr t es ds (Second (Second (Second done))) held agent h g = given m r0 rs r tr t es ds held agent m.outcome h g
    leads m _ r0 rs r tr t es ds _ held agent h g = absurd g
