-- what is owed of a receive into a table
use Rattle.std.proofs.Common.{◌≡◌, ◌≢◌, ℕ, length-append, ◌+◌, ◌*◌, ◌%◌, ◌≤◌, refl, sym, ap, ◌∙◌, subst, arith, Bool, false, List, [], ◌++◌, Option, Some, None, inl, inr, ◌⊎◌}
use Rattle.std.proofs.lemmas.List.Elements.{All-nil, Contains-append_left, Contains-append_right}
use Rattle.std.specs.{Prelude.{Result, Ok, Err, length}, List.{All, Contains}}
use Rattle.shm_words.specs.Layout.{address_limit}
use Rattle.shm_graph.specs.{declared.{ask.Me.Me, memo.Memo.Memo}, Asks.{Trail, IsWithin}}
use Rattle.shm_graph.specs.{Bounds.{tear_steps, redo_steps}, Events.Event, Views.own_word}
use Rattle.shm_graph.specs.declared.spot.Spot.TheVariants as spot
use Rattle.shm_graph.specs.Events as event
use Rattle.plans.specs.{declared.or.Or.TheVariants.{First, Second}, Proved.{CallTells.within_more, Either.or_part_laws}}
use Rattle.plans.specs.{CallsPart.{calls_part, calls_part_laws}, Either.{or_control, or_part}, Parts.{IsHeld, PartLaws}}
use Rattle.plans.specs.Plans.{PlanLaws, PlanStays, IsCall, Follows}
use Rattle.shm_count.specs.{declared.answer.EraSpent.EraSpent, Roots.root_word, Tear.Events.{Visit, frees}}
use Rattle.shm_ref.specs.DropRoot.{Control.{drop_parts, dropping}, DropLeaves, drop_plan}
use Rattle.shm_ref.specs.{Proved.DropRoot.Laws.drop_laws, DropRoots.Control.drop_root}
use Rattle.shm_table.specs.declared.{answer.PutFault.PutFault, fetch_head.FetchedHead.FetchedHead}
use Rattle.shm_table.specs.declared.recv.RecvPoint.{RecvPoint, TheVariants.{Fetch, Put, Take, Drop}}
use Rattle.shm_table.specs.{declared.recv.RecvState.RecvState, Answers.fault_answer, Commands.RestSo}
use Rattle.shm_table.specs.Proved.Commands.{cause_fetch, cause_put, cause_then, left_too}
use Rattle.shm_table.specs.Proved.FetchHead.Laws.{fetch_head_begin}
use Rattle.shm_table.specs.Proved.PutRoot.Steps.{decided_after, decided_more, frees_append, same_more, same_part, search_before, search_more, set_after, set_then}
use Rattle.shm_table.specs.Proved.RecvKey.Items.{item_idle, item_taken, may_fetch, may_take}
use Rattle.shm_table.specs.Proved.Staying.Laws.{cleared_drop, dropped_else, keeps_drop, keeps_more, keeps_untouched, left_by, rests_untouched, root_kept, spent_drop, spent_later}
use Rattle.shm_table.specs.Proved.{TakeHead.Laws.{keeps_beside, take_head_begin}, Undoing.{none_undone, put_undone}}
use Rattle.shm_table.specs.Proved.{ValuesListed.idle_here, Costs.{tear_sum, tear_same}}
use Rattle.shm_table.specs.FetchHead.Control.{fetch_head_parts, fetching_head}
use Rattle.shm_table.specs.FetchHead.{FetchHeadLeaves, IsHeadRooted, fetch_head_plan, fetch_head_steps}
use Rattle.shm_table.specs.PutRoot.Control.{put_root_parts, put_root_control}
use Rattle.shm_table.specs.PutRoot.{IsDecided, PutRootDone, PutRootRefused, put_root_plan, put_root_steps}
use Rattle.shm_table.specs.RecvKey.Control.{RecvAnswer, fetch_head_control, is_fetch, receiving_key, recv_call_at, recv_parts, take_head_control}
use Rattle.shm_table.specs.RecvKey.{IsPutIn, ItemSo, ItemTaken, MayRecv, NotReceivedIn, RecvKnows, RecvLeaves, put_in_steps, recv_part, recv_plan}
use Rattle.shm_table.specs.Staying.{Ended, IsSpent, Keeps, SameMap, Laws.KeepsRest}
use Rattle.shm_table.specs.TakeHead.Control.{take_head_parts, taking_head}
use Rattle.shm_table.specs.TakeHead.{TakeHeadLeaves, passed_memo, take_head_plan, take_head_steps}
use Rattle.shm_table.specs.Undoing.{dropped_undone, stopped_undone}
use Rattle.shm_table.specs.declared.answer.PutFault.TheVariants as fault
use Rattle.shm_table.specs.declared.fetch_head.FetchedHead.TheVariants as fetched

-- ---- before each call

opens : (m : RecvState) (y : RecvPoint) (r0 r : Memo) (tr : Trail) (es : List Event) → RecvKnows (record m { point = y }) y r0 r tr es → recv_part.needs (recv_call_at m y) r
opens m Fetch r0 r tr es (may, same, none, quiet) =
    record { made = refl; first = refl; start = refl; knows = fetch_head_begin m.me m.from r (may_fetch m.me m.from m.key r (subst (MayRecv m.me m.from m.key) (sym same) may)) }
opens m Put r0 r tr es (may, h) =
    let b = may.command in
    record {
      made = refl;
      first = refl;
      start = refl;
      knows = (
        (
          m.number,
          m.root,
          record {
            geometry = b.geometry;
            who = b.who;
            idle = h.keeps.idle;
            client = h.client;
            none = h.latch ∙ b.none;
            table = h.keeps.loose ∙ b.table;
            small = b.small;
            value = h.value;
            low = h.low;
            root = h.root;
            some = h.source.some;
          },
        ),
        refl,
        refl,
        refl,
        refl,
        refl,
      );
    }
opens m Take r0 r tr es (none, p, h, still) =
    record { made = refl; first = refl; start = refl; knows = take_head_begin m.me m.from m.at m.block r (may_take m.me m.from m.at m.block m.root r0 r m.key p.may p.source.place p.low h) }
opens m Drop r0 r tr es (p, item, still) =
    let b = p.may.command in
    let idle = item_idle m.me m.from m.at m.block r0 r es m.refused item in
    record { made = refl; first = refl; start = refl; knows = (record { geometry = b.geometry; who = b.who; here = idle_here m.me.who r idle; idle = idle.op }, p.low, refl, refl, refl) }

-- ---- answers

-- what a refusal leaves
not_received : (m : RecvState) (r0 r : Memo) (tr : Trail) (es : List Event) (f : PutFault) → NotReceivedIn m.me m.from m.key r0 r tr es f → RecvLeaves m r0 r tr es (fault_answer f)
not_received m r0 r tr es (fault.EraSpent e) h = h
not_received m r0 r tr es _ h = h

-- ---- what follows each call

module _ (m : RecvState) (r0 rs r : Memo) (tr t : Trail) (es ds : List Event) (held : IsHeld m.me r) where
  abbrev c : ℕ
  c = m.me.who

  abbrev s : ℕ
  s = m.from

  abbrev g : ℕ
  g = m.me.geometry.segments

  -- what is known before the next call, or what is left
  abbrev Goes : RecvPoint → RecvAnswer → Type 0
  Goes y b = Follows recv_parts recv_plan (record m { point = y }) b r0 r (tr ++ t) (es ++ ds)

  -- the head of the queue was fetched, or not
  got : (a : FetchedHead) → RecvKnows (record m { point = Fetch }) Fetch r0 rs tr es → FetchHeadLeaves (fetching_head m.me s) rs r t ds a → Goes Fetch (First (First a))
  got a (may, same, none, quiet) w =
      subst (λ (u : Trail). Follows recv_parts recv_plan (record m { point = Fetch }) (First (First a)) r0 r (u ++ t) (es ++ ds)) (sym none)
      (subst (λ (u : List Event). Follows recv_parts recv_plan (record m { point = Fetch }) (First (First a)) r0 r t (u ++ ds)) (sym quiet)
      (go a (subst (λ (x : Memo). FetchHeadLeaves (fetching_head m.me s) x r t ds a) same w)))
    where
      go : (a : FetchedHead) → FetchHeadLeaves (fetching_head m.me s) r0 r t ds a → Follows recv_parts recv_plan (record m { point = Fetch }) (First (First a)) r0 r t ds
      go (fetched.Empty n) w = w
      go (fetched.Refused f) w =
          let b = w.bound in
          not_received m r0 r t ds f
          (record {
            keeps = w.keeps;
            latch = w.latch ∙ may.command.none;
            map = w.map;
            cause = cause_fetch m.me r0 r f w.cause;
            waits = w.waits;
            cleared = inl w.cleared;
            undone = none_undone m.me (λ j v. event.Up c (spot.Root c j) v) r0 r ds f w.home w.cleared.dying w.none;
            keys = 0;
            search = inl refl;
            left = [];
            dying = All-nil (λ (x : Visit). Contains r.dying x.block);
            bound = omega arith;
          })
      go (fetched.Rooted k b v n) w =
          let low = w.low in
          let small = w.small in
          let is : b ≡ b % address_limit = omega arith in
          let at : k ≡ k % 16 = omega arith in
          (may, subst (λ i. IsHeadRooted m.me s i (b % address_limit) v n r0 r t ds) at (subst (λ d. IsHeadRooted m.me s k d v n r0 r t ds) is w))

  -- the key has the value block
  put_in : (z : Bool) → RecvKnows (record m { point = Put }) Put r0 rs tr es → PutRootDone m.me m.key m.block rs r t ds × (z ≡ false → SameMap rs r) → RecvKnows (record m { decided = z; refused = None; point = Take }) Take r0 r (tr ++ t) (es ++ ds)
  put_in z (may, h) (w, still) =
      let quiet = frees_append es ds in
      let none : frees es ≡ 0 = ap frees h.events in
      let torn = tear_same m.me.geometry.wide (frees (es ++ ds) + length w.left) (frees ds + length w.left) (omega arith) in
      let b = within_more (fetch_head_steps m.me.geometry.wide) (put_root_steps m.me.geometry.wide g + 2 * w.keys + tear_steps m.me.geometry.wide (frees ds + length w.left)) tr t h.bound w.bound in (
        refl,
        record {
          may = may;
          latch = w.latch;
          low = h.low;
          empty = h.empty;
          rest = elim w.ended [ inl y ↦ inl ((λ j n. y.roots j ∙ h.others j n), y.dying ∙ h.dying) | inr y ↦ inr y ];
          value = (
            set_after m.key m.number m.block r0 rs r h.map (w.map m.number h.value),
            w.home,
            elim w.decided [
              | inl d ↦ inl (decided_after c m.key (own_word r.own (spot.Home c)) m.block es ds d)
              | inr d ↦ inr (d.0, sym (h.map m.key) ∙ d.1)
            ],
          );
          undone = tt;
          made = (ds, ap (λ (u : List Event). u ++ ds) h.events);
          q = h.q;
          source = h.source;
          keys = w.keys;
          search = inr (search_before m.me c m.key w.keys tr t w.search);
          left = w.left;
          dying = w.dying;
          bound = omega arith;
        },
        record {
          keeps = keeps_more c r0 rs r h.keeps w.keeps;
          holds = held;
          root = root_kept c rs r m.root m.block w.keeps h.source.some h.root;
          some = h.source.some;
          known = w.keeps.slots (spot.Slot s c (m.at % 8)) m.block refl h.known;
        },
        λ e. same_more r0 rs r h.map (still e),
      )

  -- or it was refused it, and the queue is as before
  put_refused : (f : PutFault) → RecvKnows (record m { point = Put }) Put r0 rs tr es → PutRootRefused m.me m.key m.block rs r t ds f → RecvKnows (record m { decided = false; refused = Some f; point = Drop }) Drop r0 r (tr ++ t) (es ++ ds)
  put_refused f (may, h) w =
      let quiet = frees_append es ds in
      let none : frees es ≡ 0 = ap frees h.events in
      let torn = tear_same m.me.geometry.wide (frees (es ++ ds) + length w.left) (frees ds + length w.left) (omega arith) in
      let b = within_more (fetch_head_steps m.me.geometry.wide) (put_root_steps m.me.geometry.wide g + 2 * w.keys + tear_steps m.me.geometry.wide (frees ds + length w.left)) tr t h.bound w.bound in (
        record {
          may = may;
          latch = w.latch;
          low = h.low;
          empty = h.empty;
          rest = elim w.cleared [ inl y ↦ inl ((λ j n. y.roots j ∙ h.others j n), y.dying ∙ h.dying) | inr y ↦ inr y ];
          value = (same_more r0 rs r h.map w.map, cause_put m.me m.root r0 rs r f h.low h.empty h.others w.cause);
          undone = put_undone m.me (λ j v. event.Up c (spot.Root c j) v) m.key m.root m.block r0 rs r t es ds f h.events h.home h.dying h.source.some h.root w;
          made = (ds, ap (λ (u : List Event). u ++ ds) h.events);
          q = h.q;
          source = h.source;
          keys = w.keys;
          search = elim w.search [ inl y ↦ inl y | inr y ↦ inr (search_before m.me c m.key w.keys tr t y) ];
          left = w.left;
          dying = w.dying;
          bound = omega arith;
        },
        keeps_more c r0 rs r h.keeps w.keeps,
        λ e. same_more r0 rs r h.map w.map,
      )

  -- where roots, latch, home and map are as they were all stays that is settled
  still_in : KeepsRest c rs r → own_word rs.own (spot.Era c c) ≤ own_word r.own (spot.Era c c) → frees ds ≡ 0 → IsWithin (take_head_steps m.me.geometry.wide) t → IsPutIn m.me s m.key m.at m.block m.number m.root (put_in_steps m.me.geometry.wide g) None r0 rs tr es
      → IsPutIn m.me s m.key m.at m.block m.number m.root (put_in_steps m.me.geometry.wide g + take_head_steps m.me.geometry.wide) None r0 r (tr ++ t) (es ++ ds)
  still_in rests era none bound h =
      let quiet = frees_append es ds in
      let torn = tear_same m.me.geometry.wide (frees (es ++ ds) + length h.left) (frees es + length h.left) (omega arith) in
      let b = within_more (put_in_steps m.me.geometry.wide g + 2 * h.keys + tear_steps m.me.geometry.wide (frees es + length h.left)) (take_head_steps m.me.geometry.wide) tr t h.bound bound in
      record {
        may = h.may;
        latch = rests.latch ∙ h.latch;
        low = h.low;
        empty = h.empty;
        rest = elim h.rest [
          | inl y ↦ inl ((λ j n. rests.cleared.roots j ∙ y.0 j n), rests.cleared.dying ∙ y.1)
          | inr y ↦ inr (y.0, spent_later c y.0 rs r era y.1)
        ];
        value = (
          set_then m.key m.number m.block r0 rs r h.value.0 (same_part rs r rests.part),
          λ e. h.value.1 (sym rests.home ∙ e),
          elim h.value.2 [
            | inl d ↦ inl (subst (λ b. IsDecided c m.key b m.block (es ++ ds)) (sym rests.home) (decided_more c m.key (own_word rs.own (spot.Home c)) m.block es ds d))
            | inr d ↦ inr d
          ],
        );
        undone = tt;
        made = (h.made.0 ++ ds, ap (λ (u : List Event). u ++ ds) h.made.1);
        q = h.q;
        source = h.source;
        keys = h.keys;
        search = elim h.search [ inl y ↦ inl y | inr y ↦ inr (search_more m.me c m.key h.keys tr t y) ];
        left = h.left;
        dying = subst (λ (xs : List ℕ). All (λ (x : Visit). Contains xs x.block) h.left) (sym rests.cleared.dying) h.dying;
        bound = omega arith;
      }

  -- the head is taken, or the item stays in the queue
  took : (a : Result (Unit {0}) EraSpent) → RecvKnows (record m { point = Take }) Take r0 rs tr es → TakeHeadLeaves (taking_head m.me s m.at m.block) rs r t ds a → RecvKnows (record m { point = Drop }) Drop r0 r (tr ++ t) (es ++ ds)
  took a (none, p, h, still) w =
      let so = subst
      (λ (f : Option PutFault). IsPutIn m.me s m.key m.at m.block m.number m.root (put_in_steps m.me.geometry.wide g + take_head_steps m.me.geometry.wide) f r0 r (tr ++ t) (es ++ ds) × ItemSo m.me s m.at m.block r0 r (es ++ ds) f) (sym none)
      (go a w) in
      (so.0, so.1, λ e. same_more r0 rs r (still e) (stays a w))
    where
      stays : (a : Result (Unit {0}) EraSpent) → TakeHeadLeaves (taking_head m.me s m.at m.block) rs r t ds a → SameMap rs r
      stays (Ok done) w = same_part rs r w.rests.part
      stays (Err e) w = same_part rs r (rests_untouched c rs r w.untouched).part

      go : (a : Result (Unit {0}) EraSpent) → TakeHeadLeaves (taking_head m.me s m.at m.block) rs r t ds a
          → IsPutIn m.me s m.key m.at m.block m.number m.root (put_in_steps m.me.geometry.wide g + take_head_steps m.me.geometry.wide) None r0 r (tr ++ t) (es ++ ds) × ItemSo m.me s m.at m.block r0 r (es ++ ds) None
      go (Ok done) w =
          let lost : Event = event.Down c (spot.Slot s c (m.at % 8)) m.block in (
            still_in w.rests w.keeps.era (ap frees w.told) w.bound p,
            inl (record {
              keeps = keeps_more c (passed_memo c s m.at m.block r0) (passed_memo c s m.at m.block rs) r (keeps_beside c s m.at m.block r0 rs h.keeps) w.keeps;
              event = Contains-append_right es ds lost (subst (λ (u : List Event). Contains u lost) (sym w.told) (0, omega arith, refl));
            }),
          )
      go (Err e) w = (
        still_in (rests_untouched c rs r w.untouched) (w.untouched.rows c) (ap frees w.none) w.bound p,
        inr (keeps_more c r0 rs r h.keeps (keeps_untouched c rs r h.keeps.idle w.untouched), (e.era, w.spent)),
      )

  -- the root of the value block is dropped, or stays
  module _ (a : Result Bool EraSpent) (w : DropLeaves (dropping m.me m.root) rs r t ds a) where
    else_dropped : (r.latch ≡ rs.latch) × (own_word r.own (spot.Home c) ≡ own_word rs.own (spot.Home c)) × (r.part ≡ rs.part) × ((j : ℕ) → m.root ≢ j → root_word c r j ≡ root_word c rs j)
    else_dropped = dropped_else c m.root rs r (left_by (dropping m.me m.root) r0 rs r t ds a w).0

    era_dropped : own_word rs.own (spot.Era c c) ≤ own_word r.own (spot.Era c c)
    era_dropped = (left_by (dropping m.me m.root) r0 rs r t ds a w).0.rows c

    same_dropped : SameMap rs r
    same_dropped = same_part rs r else_dropped.2

    item_dropped : (f : Option PutFault) → root_word c r0 m.root ≡ 0 → ItemSo m.me s m.at m.block r0 rs es f → ItemSo m.me s m.at m.block r0 r (es ++ ds) f
    item_dropped None empty (inl h) =
        inl (record {
          keeps = keeps_drop (dropping m.me m.root) (passed_memo c s m.at m.block r0) rs r t ds a h.keeps empty w;
          event = Contains-append_left es ds (event.Down c (spot.Slot s c (m.at % 8)) m.block) h.event;
        })
    item_dropped None empty (inr (k, (e, spent))) = inr (keeps_drop (dropping m.me m.root) r0 rs r t ds a k empty w, (e, spent_later c e rs r era_dropped spent))
    item_dropped (Some f) empty k = keeps_drop (dropping m.me m.root) r0 rs r t ds a k empty w

  ended_so : (z : Bool) → DropLeaves (dropping m.me m.root) rs r t ds (Ok z) → root_word c r0 m.root ≡ 0 → RestSo c m.root r0 rs None → Ended c r0 r
  ended_so z w empty (inl y) = inl (cleared_drop (dropping m.me m.root) r0 rs r t ds z empty y.0 y.1 w)
  ended_so z w empty (inr y) = inr (y.0, spent_later c y.0 rs r (era_dropped (Ok z) w) y.1)

  -- what is answered of the item
  item_left : (p : IsPutIn m.me s m.key m.at m.block m.number m.root (put_in_steps m.me.geometry.wide g + take_head_steps m.me.geometry.wide) None r0 rs tr es) → ItemSo m.me s m.at m.block r0 r (es ++ ds) None
      → ItemTaken m.me s m.at m.block r0 r (es ++ ds) ⊎ (Keeps c r0 r × ((e : ℕ) × IsSpent c e r))
  item_left p (inl h) = inl (item_taken m.me s m.at m.block r0 r (es ++ ds) p.source.place p.may.none h)
  item_left p (inr h) = inr h

  dropped : (f : Option PutFault) (a : Result Bool EraSpent) → IsPutIn m.me s m.key m.at m.block m.number m.root (put_in_steps m.me.geometry.wide g + take_head_steps m.me.geometry.wide) f r0 rs tr es × ItemSo m.me s m.at m.block r0 rs es f → DropLeaves (dropping m.me m.root) rs r t ds a
      → Follows recv_parts recv_plan (record m { refused = f; point = Drop }) (Second (Second a)) r0 r (tr ++ t) (es ++ ds)
  dropped None (Ok z) (h, item) w =
      let n = else_dropped (Ok z) w in
      let quiet = frees_append es ds in
      let torn = tear_sum m.me.geometry.wide (frees (es ++ ds) + length h.left) (frees es + length h.left) (frees ds) (omega arith) in
      let b = within_more (put_in_steps m.me.geometry.wide g + take_head_steps m.me.geometry.wide + 2 * h.keys + tear_steps m.me.geometry.wide (frees es + length h.left)) (8 + redo_steps m.me.geometry.wide + tear_steps m.me.geometry.wide (frees ds)) tr t h.bound w.bound in
      record {
        place = m.at;
        item = item_left h (item_dropped (Ok z) w None h.empty item);
        latch = n.0 ∙ h.latch;
        home = λ e. h.value.1 (sym n.1 ∙ e);
        map = set_then m.key m.number m.block r0 rs r h.value.0 (same_dropped (Ok z) w);
        made = (m.root, h.made.0 ++ ds, ap (λ (u : List Event). u ++ ds) h.made.1);
        q = h.q;
        source = h.source;
        decided = elim h.value.2 [ inl d ↦ inl (subst (λ b. IsDecided c m.key b m.block (es ++ ds)) (sym n.1) (decided_more c m.key (own_word rs.own (spot.Home c)) m.block es ds d)) | inr d ↦ inr d ];
        ended = ended_so z w h.empty h.rest;
        keys = h.keys;
        search = elim h.search [ inl y ↦ inl y | inr y ↦ inr (search_more m.me c m.key h.keys tr t y) ];
        left = h.left;
        dying = subst (λ (xs : List ℕ). All (λ (x : Visit). Contains xs x.block) h.left) (sym w.dying) h.dying;
        bound = omega arith;
      }
  dropped None (Err e) (h, item) (vs, w) =
      let n = else_dropped (Err e) (vs, w) in
      let quiet = frees_append es ds in
      let long = length-append h.left vs in
      let torn = tear_sum m.me.geometry.wide (frees (es ++ ds) + length (h.left ++ vs)) (frees es + length h.left) (frees ds + length vs) (omega arith) in
      let b = within_more (put_in_steps m.me.geometry.wide g + take_head_steps m.me.geometry.wide + 2 * h.keys + tear_steps m.me.geometry.wide (frees es + length h.left)) (8 + redo_steps m.me.geometry.wide + tear_steps m.me.geometry.wide (frees ds + length vs)) tr t h.bound w.bound in
      record {
        place = m.at;
        item = item_left h (item_dropped (Err e) (vs, w) None h.empty item);
        latch = n.0 ∙ h.latch;
        home = λ e. h.value.1 (sym n.1 ∙ e);
        map = set_then m.key m.number m.block r0 rs r h.value.0 (same_dropped (Err e) (vs, w));
        made = (m.root, h.made.0 ++ ds, ap (λ (u : List Event). u ++ ds) h.made.1);
        q = h.q;
        source = h.source;
        decided = elim h.value.2 [ inl d ↦ inl (subst (λ b. IsDecided c m.key b m.block (es ++ ds)) (sym n.1) (decided_more c m.key (own_word rs.own (spot.Home c)) m.block es ds d)) | inr d ↦ inr d ];
        ended = inr (e.era, spent_drop (dropping m.me m.root) r0 rs r t ds e (vs, w));
        keys = h.keys;
        search = elim h.search [ inl y ↦ inl y | inr y ↦ inr (search_more m.me c m.key h.keys tr t y) ];
        left = h.left ++ vs;
        dying = left_too m.me rs r h.left vs e.era h.dying w.stopped;
        bound = omega arith;
      }
  dropped (Some f) (Ok z) (h, item) w =
      let n = else_dropped (Ok z) w in
      let quiet = frees_append es ds in
      let torn = tear_sum m.me.geometry.wide (frees (es ++ ds) + length h.left) (frees es + length h.left) (frees ds) (omega arith) in
      let b = within_more (put_in_steps m.me.geometry.wide g + take_head_steps m.me.geometry.wide + 2 * h.keys + tear_steps m.me.geometry.wide (frees es + length h.left)) (8 + redo_steps m.me.geometry.wide + tear_steps m.me.geometry.wide (frees ds)) tr t h.bound w.bound in
      not_received m r0 r (tr ++ t) (es ++ ds) f
      (record {
        keeps = item_dropped (Ok z) w (Some f) h.empty item;
        latch = n.0 ∙ h.latch;
        map = same_more r0 rs r h.value.0 (same_dropped (Ok z) w);
        cause = cause_then m.me r0 rs r f (era_dropped (Ok z) w) h.value.1;
        waits = (m.at, m.block, m.number, h.q, h.source);
        cleared = elim h.rest [ inl y ↦ inl (cleared_drop (dropping m.me m.root) r0 rs r t ds z h.empty y.0 y.1 w) | inr y ↦ inr y ];
        undone = dropped_undone m.me (λ j v. event.Up c (spot.Root c j) v) m.root m.block r0 rs r es ds f n.1 h.undone w.dying w.events;
        keys = h.keys;
        search = elim h.search [ inl y ↦ inl y | inr y ↦ inr (search_more m.me c m.key h.keys tr t y) ];
        left = h.left;
        dying = subst (λ (xs : List ℕ). All (λ (x : Visit). Contains xs x.block) h.left) (sym w.dying) h.dying;
        bound = omega arith;
      })
  dropped (Some f) (Err e) (h, item) (vs, w) =
      let n = else_dropped (Err e) (vs, w) in
      let quiet = frees_append es ds in
      let long = length-append h.left vs in
      let torn = tear_sum m.me.geometry.wide (frees (es ++ ds) + length (h.left ++ vs)) (frees es + length h.left) (frees ds + length vs) (omega arith) in
      let b = within_more (put_in_steps m.me.geometry.wide g + take_head_steps m.me.geometry.wide + 2 * h.keys + tear_steps m.me.geometry.wide (frees es + length h.left)) (8 + redo_steps m.me.geometry.wide + tear_steps m.me.geometry.wide (frees ds + length vs)) tr t h.bound w.bound in
      record {
        keeps = item_dropped (Err e) (vs, w) (Some f) h.empty item;
        latch = n.0 ∙ h.latch;
        map = same_more r0 rs r h.value.0 (same_dropped (Err e) (vs, w));
        cause = spent_drop (dropping m.me m.root) r0 rs r t ds e (vs, w);
        waits = (m.at, m.block, m.number, h.q, h.source);
        cleared = inr tt;
        undone = stopped_undone m.me (λ j v. event.Up c (spot.Root c j) v) m.root m.block r0 rs r es ds f n.1 h.undone e vs w.stopped;
        keys = h.keys;
        search = elim h.search [ inl y ↦ inl y | inr y ↦ inr (search_more m.me c m.key h.keys tr t y) ];
        left = h.left ++ vs;
        dying = left_too m.me rs r h.left vs e.era h.dying w.stopped;
        bound = omega arith;
      }

-- what is known before the first call
pub recv_begin : (me : Me) (s key : ℕ) (r : Memo) → MayRecv me s key r → RecvKnows (receiving_key me s key) Fetch r r [] []
recv_begin me s key r may = (may, refl, refl, refl)

-- ---- the plan's laws, by those of the machines that it calls

module _ (fetches : PlanLaws fetch_head_parts fetch_head_plan) (takes : PlanLaws take_head_parts take_head_plan) (puts : PlanLaws put_root_parts put_root_plan) where
  -- each call is a part
  parts : (first : Bool) → PartLaws first recv_parts recv_part
  parts first =
      or_part_laws first (or_control fetch_head_control take_head_control) (or_control put_root_control drop_root) (or_part (calls_part fetch_head_parts fetch_head_plan) (calls_part take_head_parts take_head_plan))
      (or_part (calls_part put_root_parts put_root_plan) (calls_part drop_parts drop_plan))
      (or_part_laws first fetch_head_control take_head_control (calls_part fetch_head_parts fetch_head_plan) (calls_part take_head_parts take_head_plan)
      (calls_part_laws fetch_head_parts fetch_head_plan fetches first)
      (calls_part_laws take_head_parts take_head_plan takes first))
      (or_part_laws first put_root_control drop_root (calls_part put_root_parts put_root_plan) (calls_part drop_parts drop_plan) (calls_part_laws put_root_parts put_root_plan puts first) (calls_part_laws drop_parts drop_plan drop_laws first))

  pub recv_laws : PlanLaws recv_parts recv_plan
  recv_laws =
      record {
        stays = stays;
        calls = λ m. calls m m.point;
        parts = λ m. parts (is_fetch m.point);
        opens = λ m. opens m m.point;
        leads = λ m r0 rs r tr t es ds b h w held agent. leads m m.point r0 rs r tr t es ds b held h w;
      }
    where
      stays : (m : RecvState) (b : RecvAnswer) → PlanStays recv_parts recv_plan m b
      stays m (First (First (fetched.Rooted k b v n))) = record { same_me = refl; same_line = refl; same_start = refl; started = λ e. refl }
      stays m (First (Second a)) = record { same_me = refl; same_line = refl; same_start = refl; started = λ e. refl }
      stays m (Second (First (Ok z))) = record { same_me = refl; same_line = refl; same_start = refl; started = λ e. refl }
      stays m (Second (First (Err f))) = record { same_me = refl; same_line = refl; same_start = refl; started = λ e. refl }
      stays m (Second (Second (Ok z))) = record { same_me = refl; same_line = refl; same_start = refl; started = λ e. absurd (cc) }
      stays m (Second (Second (Err e))) = record { same_me = refl; same_line = refl; same_start = refl; started = λ e. absurd (cc) }
      stays m (First (First _)) = record { same_me = refl; same_line = refl; same_start = refl; started = λ e. absurd (cc) }

      calls : (m : RecvState) (y : RecvPoint) → IsCall recv_parts recv_plan (record m { point = y })
      calls m Fetch = record { me = refl; asks = refl }
      calls m _ = record { me = refl; asks = refl }

      leads : (m : RecvState) (y : RecvPoint) (r0 rs r : Memo) (tr t : Trail) (es ds : List Event) (b : RecvAnswer) → IsHeld m.me r → RecvKnows (record m { point = y }) y r0 rs tr es → recv_part.leaves (recv_call_at m y) rs r t ds b
          → Follows recv_parts recv_plan (record m { point = y }) b r0 r (tr ++ t) (es ++ ds)
      leads m Fetch r0 rs r tr t es ds (First (First a)) held h w = got m r0 rs r tr t es ds held a h w
      leads m Take r0 rs r tr t es ds (First (Second a)) held h w = took m r0 rs r tr t es ds held a h w
      leads m Put r0 rs r tr t es ds (Second (First (Ok z))) held h w = put_in m r0 rs r tr t es ds held z h w
      leads m Put r0 rs r tr t es ds (Second (First (Err f))) held h w = put_refused m r0 rs r tr t es ds held f h w
      leads m Drop r0 rs r tr t es ds (Second (Second a)) held (p, item, still) w = dropped m r0 rs r tr t es ds held m.refused a (p, item) w
      leads m _ r0 rs r tr t es ds _ held h w = absurd w
