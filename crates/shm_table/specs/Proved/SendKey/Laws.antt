-- what is owed of sending what an own key has
use Rattle.std.proofs.Common.{◌≡◌, ℕ, ◌+◌, ◌*◌, ◌%◌, refl, sym, ap, ◌∙◌, subst, arith, false, List, [], ◌∷◌, ◌++◌}
use Rattle.std.specs.Prelude.{Some, None, Ok, Err, slice_index}
use Rattle.shm_words.specs.Layout.{address_limit}
use Rattle.shm_graph.specs.declared.{ask.Me.Me, memo.Memo.Memo, spot.Spot.TheVariants.{Body, Era, Home, Slot, Tail}}
use Rattle.shm_graph.specs.{Agents.recovers, Asks.{Trail, IsWithin}, Events.Event, Idle.IsIdle, Trails.{Answers, Asked}}
use Rattle.shm_graph.specs.Bounds.{redo_steps}
use Rattle.shm_graph.specs.Events as event
use Rattle.plans.specs.{declared.or.Or.TheVariants.{First, Second}, Proved.{CallTells.within_more, Either.or_part_laws}}
use Rattle.plans.specs.{CallsPart.{calls_part, calls_part_laws}, Either.{or_control, or_part}, Parts.IsHeld}
use Rattle.plans.specs.{Plans.{PlanLaws, PlanStays, IsCall, Follows}, Words.{word_control, word_part, word_part_laws}}
use Rattle.kind_parts.specs.{Reparting.map_in, WordParts.ReferenceLoaded}
use Rattle.kind_parts.proofs.{Reaching.look_reached, Words.Blocks.{idle_settled, reference_load}}
use Rattle.shm_ref.specs.Proved.AskedParts.{asked_part_laws}
use Rattle.shm_queue.specs.declared.answer.SendFault.{SendFault, TheVariants.{QueueFull, EraSpent, CountFull}}
use Rattle.shm_queue.specs.{Machines.send as send_control, Send.Control.{send_parts, sending}}
use Rattle.shm_queue.specs.{Send.{MaySendTo, NotSent, SendDone, SendLeaves, send_plan}, Proved.Send.Laws.send_laws}
use Rattle.shm_script.specs.declared.log.Answer.{Answer}
use Rattle.shm_script.specs.declared.log.Answer.TheVariants as answer
use Rattle.shm_table.specs.declared.{find.Found.TheVariants.{Absent, At}, send_key.SendKeyPoint.SendKeyPoint}
use Rattle.shm_table.specs.declared.send_key.SendKeyPoint.TheVariants.{Search, Value, Send, Give}
use Rattle.shm_table.specs.{declared.send_key.SendKeyState.SendKeyState, Fetch.IsOn}
use Rattle.shm_table.specs.Proved.Fetch.Steps.{clear_reading, idle_more, keeps_reading, map_reading, on_more, one_step, search_on, value_seen}
use Rattle.shm_table.specs.Proved.Find.SearchLoads.{entry_latched}
use Rattle.shm_table.specs.Proved.Get.Laws.{at_entry, latch_of, may_unlatch, missing, nowhere, value_read}
use Rattle.shm_table.specs.Proved.{Get.UnderLatch.reference_more, Locate.Laws.{locate_begin, locate_laws}}
use Rattle.shm_table.specs.Proved.PutRoot.Steps.{same_more, same_part, search_more}
use Rattle.shm_table.specs.Proved.SendKey.Steps.{keeps_after, keeps_sent, own_names, rests_sent}
use Rattle.shm_table.specs.Proved.Staying.Laws.{cleared_more, keeps_core, keeps_more, keeps_unlatched, keeps_untouched, rests_core, rests_untouched, unlatched_else}
use Rattle.shm_table.specs.Proved.{Unlatch.Laws.{unlatch_begin, unlatch_laws}, ValuesListed.idle_here}
use Rattle.shm_table.specs.{Find.Control.word_ask, Get.IsReading, Locate.Control.{locate_parts, locate_control}}
use Rattle.shm_table.specs.Locate.{Located, MayLocate, locate_plan}
use Rattle.shm_table.specs.SendKey.Control.{SendKeyAnswer, is_search, send_key_call, send_key_parts, sending_key}
use Rattle.shm_table.specs.SendKey.{GiveKnows, IsSent, IsUnsent, MaySendKey, SendCause, SendKeyKnows, SendKeyLeaves, got, send_key_part, send_key_plan, send_key_steps, sent_steps, value_part}
use Rattle.shm_table.specs.Staying.{Cleared, Keeps, SameMap, Laws.KeepsRest}
use Rattle.shm_table.specs.Unlatch.{MayUnlatch, Unlatched, unlatch_plan, Control.unlatch_control}
use Rattle.shm_table.specs.declared.get.GetPoint.TheVariants as get

-- ---- what the calls need

-- the send of the value block
may_send : (m : SendKeyState) (r0 r : Memo) (tr : Trail) (es : List Event) → SendKeyKnows (record m { point = Send }) Send r0 r tr es → MaySendTo m.me m.to m.block r
may_send m r0 r tr es (h, on, may, listed) =
    record {
      geometry = may.locate.geometry;
      who = may.locate.who;
      here = idle_here m.me.who r on.idle;
      idle = on.idle.op;
      client = on.client;
      to = may.to;
      other = may.other;
      reach = look_reached m.me.who r m.block h.2.1;
      value = λ loose. listed;
      none = ap (λ (x : Memo). slice_index x.unsent m.to) h.0.reading.memo ∙ may.none;
    }

-- the giving back of the latch
may_give : (me : Me) (i : ℕ) (r0 r : Memo) → MaySendKey me i r0 → IsIdle me.who r → r.latch ≡ Some me.who → MayUnlatch me me.who r
may_give me i r0 r may idle latch = record { geometry = may.locate.geometry; who = may.locate.who; author = may.locate.who; here = idle_here me.who r idle; idle = idle.op; latch = latch }

gives : (m : SendKeyState) (a : Answer) (r0 r : Memo) (tr : Trail) (es : List Event) → GiveKnows m a r0 r tr es → MayUnlatch m.me m.me.who r
gives m answer.Missing r0 r tr es h = may_unlatch m.me m.me.who r0 r h.reading
gives m answer.Ok r0 r tr es (b, n, h) = may_give m.me m.to r0 r h.may h.keeps.idle h.latch
gives m (answer.QueueFull d n) r0 r tr es (b, h) = may_give m.me m.to r0 r h.may h.keeps.idle h.latch
gives m (answer.EraSpent e) r0 r tr es (b, h) = may_give m.me m.to r0 r h.may h.keeps.idle h.latch
gives m (answer.CountFull d n) r0 r tr es (b, h) = may_give m.me m.to r0 r h.may h.keeps.idle h.latch
gives m _ r0 r tr es h = absurd h

-- ---- what follows each call

module _ (m : SendKeyState) (r0 rs r : Memo) (tr t : Trail) (es ds : List Event) (held : IsHeld m.me r) (agent : recovers r ≡ recovers rs) where
  abbrev c : ℕ
  c = m.me.who

  -- the search found an entry
  at_value : (entry before word : ℕ) → SendKeyKnows (record m { point = Search }) Search r0 rs tr es → Located m.me c m.key rs r t ds (At entry before word) → SendKeyKnows (record m { entry = entry % address_limit; point = Value }) Value r0 r (tr ++ t) (es ++ ds)
  at_value entry before word (may, same, none, quiet) w = (
    at_entry (got m get.Search) r0 rs r tr t es ds held (may.locate, same, none, quiet) entry before word w,
    search_on m.me c m.key entry before word rs r tr t ds none (agent ∙ (ap recovers same ∙ may.client)) w,
    may,
  )

  -- its value word was read
  at_send : (n : ℕ) → SendKeyKnows (record m { point = Value }) Value r0 rs tr es → ReferenceLoaded m.entry 1 rs n r → ds ≡ [] → Asked (word_ask m.entry 1) (λ x. Answers x) t n → SendKeyKnows (record m { block = n % address_limit; point = Send }) Send r0 r (tr ++ t) (es ++ ds)
  at_send n (h, on, may) left none asked =
      let next = value_read (got m get.Value) r0 rs r tr t es ds held n h left none asked in (
        next,
        on_more m.me c m.key 4 rs r tr t on (idle_more c rs r (reference_more m.entry 1 rs n r left) on.idle) agent (one_step m.entry n 1 t asked),
        may,
        value_seen (got m get.Value) r0 rs r (tr ++ t) (es ++ ds) held n h.0.reading h.1.0 next left,
      )

  -- ---- the send

  module _ (h : SendKeyKnows (record m { point = Send }) Send r0 rs tr es) where
    on : IsOn m.me c m.key 5 rs tr
    on = h.1

    may : MaySendKey m.me m.to r0
    may = h.2

    reading : IsReading m.me c r0 rs
    reading = h.0.0.reading

    before : Keeps c r0 rs
    before = keeps_reading m.me c r0 rs reading on.idle

    same : SameMap r0 rs
    same = map_reading m.me c r0 rs reading

    clear : Cleared c r0 rs
    clear = clear_reading m.me c r0 rs reading

    -- the map had the block
    had : (x : ℕ) × (map_in r0.part m.key ≡ Some (x, m.block))
    had = let y = own_names m.me m.key m.entry m.block rs may.locate.who reading.held h.0.0.has h.0.1 in (y.0, sym (same m.key) ∙ y.1)

    within : IsWithin (10 + redo_steps m.me.geometry.wide) t → IsWithin (sent_steps m.me.geometry.wide + 2 * on.keys) (tr ++ t)
    within bound = let b = within_more (5 + 2 * on.keys) (10 + redo_steps m.me.geometry.wide) tr t on.bound bound in omega arith

    -- it was sent
    sent : (n : ℕ) → SendDone m.me m.to m.block n rs r t ds → IsSent m.me m.to m.key m.block n (Some c) (sent_steps m.me.geometry.wide) r0 r (tr ++ t) (es ++ ds)
    sent n w =
        let rests = rests_sent c m.to m.block n rs r w.sent in
        record {
          may = may;
          holds = held;
          has = had;
          place = w.sent.place ∙ reading.own (Tail c m.to) refl;
          keeps = keeps_sent c m.to m.block n r0 rs r before w.sent;
          waits = λ j. w.sent.unsent j ∙ ap (λ (x : Memo). slice_index x.unsent j) reading.memo;
          latch = rests.latch ∙ latch_of m.me c r0 rs reading;
          home = rests.home ∙ reading.own (Home c) refl;
          map = same_more r0 rs r same (same_part rs r rests.part);
          cleared = cleared_more c r0 rs r clear rests.cleared;
          events = ap (λ (x : List Event). x ++ ds) h.0.0.none ∙ w.told;
          keys = on.keys;
          search = search_more m.me c m.key on.keys tr t on.search;
          bound = within w.bound;
        }

    -- it wasn't, and nothing was done
    unsent : (f : SendFault) → SendCause m.me m.to m.block r0 f → Keeps c rs r → KeepsRest c rs r → ds ≡ [] → IsWithin (10 + redo_steps m.me.geometry.wide) t → IsUnsent m.me m.to m.key m.block f (Some c) (sent_steps m.me.geometry.wide) r0 r (tr ++ t) (es ++ ds)
    unsent f cause keeps rests none bound =
        record {
          may = may;
          holds = held;
          has = had;
          cause = cause;
          keeps = keeps_more c r0 rs r before keeps;
          latch = rests.latch ∙ latch_of m.me c r0 rs reading;
          home = rests.home ∙ reading.own (Home c) refl;
          map = same_more r0 rs r same (same_part rs r rests.part);
          cleared = cleared_more c r0 rs r clear rests.cleared;
          none = ap (λ (x : List Event). x ++ ds) h.0.0.none ∙ none;
          keys = on.keys;
          search = search_more m.me c m.key on.keys tr t on.search;
          bound = within bound;
        }

    untouched : (f : SendFault) → SendCause m.me m.to m.block r0 f → NotSent m.me rs r t ds → IsUnsent m.me m.to m.key m.block f (Some c) (sent_steps m.me.geometry.wide) r0 r (tr ++ t) (es ++ ds)
    untouched f cause w = unsent f cause (keeps_untouched c rs r on.idle w.untouched) (rests_untouched c rs r w.untouched) w.none (let b = w.bound in omega arith)

    -- why it wasn't
    refused : (f : SendFault) → SendLeaves (sending m.me m.to m.block) rs r t ds (Err f) → IsUnsent m.me m.to m.key m.block f (Some c) (sent_steps m.me.geometry.wide) r0 r (tr ++ t) (es ++ ds)
    refused (QueueFull d n) w = unsent (QueueFull d n) (w.tail ∙ reading.own (Tail c m.to) refl, w.full) (keeps_core c rs r on.idle w.same) (rests_core c rs r w.same) w.none (let b = w.bound in omega arith)
    refused (EraSpent e) w = untouched (EraSpent e) (w.1 ∙ reading.own (Era c c) refl, w.2) w.0
    refused (CountFull d n) w = untouched (CountFull d n) (w.2, w.1) w.0

  -- ---- the latch is given back

  still_sent : (b n : ℕ) → IsSent m.me m.to m.key b n (Some c) (sent_steps m.me.geometry.wide) r0 rs tr es → Unlatched m.me c rs r t ds → IsSent m.me m.to m.key b n None (send_key_steps m.me.geometry.wide) r0 r (tr ++ t) (es ++ ds)
  still_sent b n h w =
      let after = keeps_unlatched m.me rs r h.keeps.idle h.holds h.may.locate.who w.memo in
      let u = unlatched_else m.me.geometry.wide c rs r w.memo in
      let l = within_more (sent_steps m.me.geometry.wide + 2 * h.keys) 2 tr t h.bound (subst (IsWithin 2) (sym w.trail) (omega arith)) in
      record {
        may = h.may;
        holds = held;
        has = h.has;
        place = h.place;
        keeps = keeps_after c m.to b n r0 rs r h.keeps after;
        waits = λ j. ap (λ (us : List ℕ). slice_index us j) after.unsent ∙ h.waits j;
        latch = w.latch;
        home = u.1 ∙ h.home;
        map = same_more r0 rs r h.map (same_part rs r u.2);
        cleared = cleared_more c r0 rs r h.cleared u.3;
        events = ap (λ (x : List Event). x ++ ds) h.events ∙ ap (λ (x : List Event). event.Up c (Slot c m.to (n % 8)) b ∷ x) w.none;
        keys = h.keys;
        search = search_more m.me c m.key h.keys tr t h.search;
        bound = omega arith;
      }

  still_unsent : (b : ℕ) (f : SendFault) → IsUnsent m.me m.to m.key b f (Some c) (sent_steps m.me.geometry.wide) r0 rs tr es → Unlatched m.me c rs r t ds → IsUnsent m.me m.to m.key b f None (send_key_steps m.me.geometry.wide) r0 r (tr ++ t) (es ++ ds)
  still_unsent b f h w =
      let u = unlatched_else m.me.geometry.wide c rs r w.memo in
      let l = within_more (sent_steps m.me.geometry.wide + 2 * h.keys) 2 tr t h.bound (subst (IsWithin 2) (sym w.trail) (omega arith)) in
      record {
        may = h.may;
        holds = held;
        has = h.has;
        cause = h.cause;
        keeps = keeps_more c r0 rs r h.keeps (keeps_unlatched m.me rs r h.keeps.idle h.holds h.may.locate.who w.memo);
        latch = w.latch;
        home = u.1 ∙ h.home;
        map = same_more r0 rs r h.map (same_part rs r u.2);
        cleared = cleared_more c r0 rs r h.cleared u.3;
        none = ap (λ (x : List Event). x ++ ds) h.none ∙ w.none;
        keys = h.keys;
        search = search_more m.me c m.key h.keys tr t h.search;
        bound = omega arith;
      }

  given : (a : Answer) → GiveKnows m a r0 rs tr es → Unlatched m.me c rs r t ds → SendKeyLeaves m r0 r (tr ++ t) (es ++ ds) a
  given answer.Missing h w = missing (got m get.Missing) r0 rs r tr t es ds held h w
  given answer.Ok (b, n, h) w = (b, n, still_sent b n h w)
  given (answer.QueueFull d n) (b, h) w = (b, still_unsent b (QueueFull d n) h w)
  given (answer.EraSpent e) (b, h) w = (b, still_unsent b (EraSpent e) h w)
  given (answer.CountFull d n) (b, h) w = (b, still_unsent b (CountFull d n) h w)
  given _ h w = absurd h

-- ---- the plan

-- what is known before the first call
pub send_key_begin : (me : Me) (i key : ℕ) (r : Memo) → MaySendKey me i r → SendKeyKnows (sending_key me i key) Search r r [] []
send_key_begin me i key r may = (may, refl, refl, refl)

pub send_key_laws : PlanLaws send_key_parts send_key_plan
send_key_laws =
    record {
      stays = λ m b. stays m m.point b;
      calls = λ m. calls m m.point;
      parts = λ m. let first = is_search m.point in
          let word = word_part first m.me (word_ask m.entry 1) (ReferenceLoaded m.entry 1) in
          let last = or_part (calls_part send_parts send_plan) (calls_part word_control unlatch_plan) in
          or_part_laws first locate_control (or_control word_control (or_control send_control unlatch_control)) (calls_part locate_parts locate_plan) (or_part (value_part m m.point) last)
          (calls_part_laws locate_parts locate_plan locate_laws first)
          (or_part_laws first word_control (or_control send_control unlatch_control) (value_part m m.point) last
          (asked_part_laws first word_control word (word_part_laws first m.me (word_ask m.entry 1) (ReferenceLoaded m.entry 1)))
          (or_part_laws first send_control unlatch_control (calls_part send_parts send_plan) (calls_part word_control unlatch_plan) (calls_part_laws send_parts send_plan send_laws first) (calls_part_laws word_control unlatch_plan unlatch_laws first)));
      opens = λ m. opens m m.point;
      leads = λ m r0 rs r tr t es ds b h g held agent. leads m m.point r0 rs r tr t es ds b held agent h g;
    }
  where
    stays : (m : SendKeyState) (y : SendKeyPoint) (b : SendKeyAnswer) → PlanStays send_key_parts send_key_plan (record m { point = y }) b
    stays m y (First (At entry before word)) = record { same_me = refl; same_line = refl; same_start = refl; started = λ e. refl }
    stays m y (Second (Second (Second done))) = record { same_me = refl; same_line = refl; same_start = refl; started = λ e. absurd (cc) }
    stays m y _ = record { same_me = refl; same_line = refl; same_start = refl; started = λ e. refl }

    calls : (m : SendKeyState) (y : SendKeyPoint) → IsCall send_key_parts send_key_plan (record m { point = y })
    calls m Search = record { me = refl; asks = refl }
    calls m _ = record { me = refl; asks = refl }

    opens : (m : SendKeyState) (y : SendKeyPoint) (r0 r : Memo) (tr : Trail) (es : List Event) → SendKeyKnows (record m { point = y }) y r0 r tr es → (send_key_part (record m { point = y }) y).needs (send_key_call m y) r
    opens m Search r0 r tr es h = record { made = refl; first = refl; start = refl; knows = locate_begin m.me m.me.who m.key r (subst (MayLocate m.me m.me.who) (sym h.1) h.0.locate) }
    opens m Value r0 r tr es ((h, here, room), on, may) =
        reference_load false m.me r h.reading.may.who m.entry 1 (omega arith, omega arith) (entry_latched m.me.geometry.wide m.me.who m.me.who r m.entry 1 (latch_of m.me m.me.who r0 r h.reading) here (omega arith)) (idle_settled r (Body m.entry 1) on.idle.op)
    opens m Send r0 r tr es h = record { made = refl; first = refl; start = refl; knows = (may_send m r0 r tr es h, refl, refl, refl) }
    opens m Give r0 r tr es h = record { made = refl; first = refl; start = refl; knows = unlatch_begin m.me m.me.who r (gives m m.outcome r0 r tr es h) }

    leads : (m : SendKeyState) (y : SendKeyPoint) (r0 rs r : Memo) (tr t : Trail) (es ds : List Event) (b : SendKeyAnswer) → IsHeld m.me r → recovers r ≡ recovers rs → SendKeyKnows (record m { point = y }) y r0 rs tr es
        → (send_key_part (record m { point = y }) y).leaves (send_key_call m y) rs r t ds b → Follows send_key_parts send_key_plan (record m { point = y }) b r0 r (tr ++ t) (es ++ ds)
    leads m Search r0 rs r tr t es ds (First (At entry before word)) held agent h g = at_value m r0 rs r tr t es ds held agent entry before word h g
    leads m Search r0 rs r tr t es ds (First (Absent home first)) held agent (may, same, none, quiet) g = nowhere (got m get.Search) r0 rs r tr t es ds held (may.locate, same, none, quiet) home first g
    leads m Value r0 rs r tr t es ds (Second (First n)) held agent h g = at_send m r0 rs r tr t es ds held agent n h g.0.found g.0.none g.1
    leads m Send r0 rs r tr t es ds (Second (Second (First (Ok n)))) held agent h g = (m.block, n, sent m r0 rs r tr t es ds held agent h n g)
    leads m Send r0 rs r tr t es ds (Second (Second (First (Err (QueueFull d n))))) held agent h g = (m.block, refused m r0 rs r tr t es ds held agent h (QueueFull d n) g)
    leads m Send r0 rs r tr t es ds (Second (Second (First (Err (EraSpent e))))) held agent h g = (m.block, refused m r0 rs r tr t es ds held agent h (EraSpent e) g)
    leads m Send r0 rs r tr t es ds (Second (Second (First (Err (CountFull d n))))) held agent h g = (m.block, refused m r0 rs r tr t es ds held agent h (CountFull d n) g)
    leads m Give r0 rs r tr t es ds (Second (Second (Second done))) held agent h g = given m r0 rs r tr t es ds held agent m.outcome h g
    leads m _ r0 rs r tr t es ds _ held agent h g = absurd g
