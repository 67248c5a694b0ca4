-- what is owed of a copy
use Rattle.std.proofs.Common.{◌≡◌, ◌≢◌, ℕ, length-append, ◌+◌, ◌*◌, ◌%◌, ◌≤◌, refl, sym, ap, ◌∙◌, subst, arith, Bool, List, [], ◌++◌, Option, Some, None, inl, inr, ◌⊎◌}
use Rattle.std.proofs.lemmas.List.Elements.{All-nil}
use Rattle.std.specs.{Prelude.{Result, Ok, Err, length}, List.{All, Contains}}
use Rattle.shm_words.specs.Layout.{address_limit}
use Rattle.shm_graph.specs.{declared.{ask.Me.Me, memo.Memo.Memo, spot.Spot.TheVariants.Home}, Agents.recovers}
use Rattle.shm_graph.specs.{Asks.Trail, Bounds.{tear_steps, redo_steps}, Events.Event, Views.own_word}
use Rattle.shm_graph.specs.declared.spot.Spot.TheVariants as spot
use Rattle.shm_graph.specs.Events as event
use Rattle.plans.specs.{declared.or.Or.TheVariants.{First, Second}, Proved.{CallTells.within_more, Either.or_part_laws}}
use Rattle.plans.specs.{CallsPart.{calls_part, calls_part_laws}, Either.{or_control, or_part}, Parts.{IsHeld, PartLaws}}
use Rattle.plans.specs.Plans.{PlanLaws, PlanStays, IsCall, Follows}
use Rattle.shm_count.specs.{declared.answer.EraSpent.EraSpent, Roots.root_word, Tear.Events.{Visit, frees}}
use Rattle.shm_ref.specs.DropRoot.{Control.{drop_parts, dropping}, DropLeaves, drop_plan}
use Rattle.shm_ref.specs.{Proved.DropRoot.Laws.drop_laws, DropRoots.Control.drop_root}
use Rattle.shm_table.specs.declared.{answer.PutFault.PutFault, copy.CopyPoint.CopyPoint}
use Rattle.shm_table.specs.declared.copy.{CopyPoint.TheVariants.{Fetch, Put, Drop}, CopyState.CopyState}
use Rattle.shm_table.specs.{declared.fetch.Fetched.Fetched, Answers.fault_answer}
use Rattle.shm_table.specs.CopyKey.Control.{CopyAnswer, copy_call_at, copy_parts, copying, fetch_control, is_fetch}
use Rattle.shm_table.specs.CopyKey.{CopyKnows, CopyLeaves, IsCopied, IsSource, MayCopy, NotCopied, copy_part, copy_plan}
use Rattle.shm_table.specs.Fetch.Control.{fetch_parts, fetching}
use Rattle.shm_table.specs.Fetch.{FetchLeaves, IsRooted, MayFetch, fetch_plan, fetch_steps}
use Rattle.shm_table.specs.Proved.{Fetch.Laws.fetch_begin, Commands.{cause_fetch, cause_put, cause_then, left_too}}
use Rattle.shm_table.specs.Proved.PutRoot.Steps.{decided_after, decided_more, frees_append, same_more, same_part, search_before, search_more, set_after, set_then}
use Rattle.shm_table.specs.Proved.Staying.Laws.{cleared_drop, dropped_else, keeps_drop, keeps_more, left_by, spent_drop, spent_later}
use Rattle.shm_table.specs.Proved.{Undoing.{none_undone, put_undone}, ValuesListed.idle_here}
use Rattle.shm_table.specs.{Proved.Costs.{tear_sum, tear_same}, Commands.RestSo}
use Rattle.shm_table.specs.PutRoot.Control.{put_root_parts, putting_root, put_root_control}
use Rattle.shm_table.specs.PutRoot.{IsDecided, IsEraSpent, PutRootLeaves, put_root_plan, put_root_steps}
use Rattle.shm_table.specs.{Staying.{Cleared, Ended, SameMap}, Undoing.{dropped_undone, stopped_undone}}
use Rattle.shm_table.specs.declared.answer.PutFault.TheVariants as fault
use Rattle.shm_table.specs.declared.fetch.Fetched.TheVariants as fetched

-- ---- the plan

stays : (m : CopyState) (b : CopyAnswer) → PlanStays copy_parts copy_plan m b
stays m (First (fetched.Rooted k b n)) = record { same_me = refl; same_line = refl; same_start = refl; started = λ e. refl }
stays m (Second (First done)) = record { same_me = refl; same_line = refl; same_start = refl; started = λ e. refl }
stays m (Second (Second (Ok z))) = record { same_me = refl; same_line = refl; same_start = refl; started = λ e. absurd (cc) }
stays m (Second (Second (Err e))) = record { same_me = refl; same_line = refl; same_start = refl; started = λ e. absurd (cc) }
stays m (First _) = record { same_me = refl; same_line = refl; same_start = refl; started = λ e. absurd (cc) }

calls : (m : CopyState) (y : CopyPoint) → IsCall copy_parts copy_plan (record m { point = y })
calls m Fetch = record { me = refl; asks = refl }
calls m _ = record { me = refl; asks = refl }

-- ---- before each call

may_fetch : (me : Me) (key a : ℕ) (r : Memo) → MayCopy me key a r → MayFetch me a r
may_fetch me key a r may =
    let b = may.command in
    record { locate = record { geometry = b.geometry; who = b.who; author = may.author; idle = b.idle; none = b.none; table = b.table }; client = b.client }

opens : (m : CopyState) (y : CopyPoint) (r0 r : Memo) (tr : Trail) (es : List Event) → CopyKnows (record m { point = y }) y r0 r tr es → copy_part.needs (copy_call_at m y) r
opens m Fetch r0 r tr es (may, same, none, quiet) =
    record { made = refl; first = refl; start = refl; knows = fetch_begin m.me m.author m.other r (may_fetch m.me m.key m.author r (subst (MayCopy m.me m.key m.author) (sym same) may)) }
opens m Put r0 r tr es (may, h) =
    let b = may.command in
    record {
      made = refl;
      first = refl;
      start = refl;
      knows = (
        (
          m.number,
          m.root,
          record {
            geometry = b.geometry;
            who = b.who;
            idle = h.keeps.idle;
            client = h.client;
            none = h.latch;
            table = h.keeps.loose ∙ b.table;
            small = b.small;
            value = h.value;
            low = h.low;
            root = h.root;
            some = h.some;
          },
        ),
        refl,
        refl,
        refl,
        refl,
        refl,
      );
    }
opens m Drop r0 r tr es (h, still) =
    let b = h.may.command in
    record { made = refl; first = refl; start = refl; knows = (record { geometry = b.geometry; who = b.who; here = idle_here m.me.who r h.keeps.idle; idle = h.keeps.idle.op }, h.low, refl, refl, refl) }

-- ---- answers

-- what a refusal leaves
not_copied : (m : CopyState) (r0 r : Memo) (tr : Trail) (es : List Event) (f : PutFault) → NotCopied m.me m.key m.author m.other r0 r tr es f → CopyLeaves m r0 r tr es (fault_answer f)
not_copied m r0 r tr es (fault.EraSpent e) h = h
not_copied m r0 r tr es _ h = h

-- the reading stays a part of what was asked
abbrev source_more : (me : Me) (a other n v : ℕ) (r0 : Memo) (tr t : Trail) → IsSource me a other n v r0 tr → IsSource me a other n v r0 (tr ++ t)
source_more me a other n v r0 tr t h = record { entry = h.entry; q = h.q; reading = h.reading; told = h.told; has = h.has; read = h.read; searched = search_more me a other h.read tr t h.searched }

-- ---- what follows each call

module _ (m : CopyState) (r0 rs r : Memo) (tr t : Trail) (es ds : List Event) (held : IsHeld m.me r) (agent : recovers r ≡ recovers rs) where
  abbrev c : ℕ
  c = m.me.who

  abbrev g : ℕ
  g = m.me.geometry.segments

  -- what is known before the next call, or what is left
  abbrev Goes : CopyPoint → CopyAnswer → Type 0
  Goes y b = Follows copy_parts copy_plan (record m { point = y }) b r0 r (tr ++ t) (es ++ ds)

  -- what the other key has was fetched, or not
  got : (a : Fetched) → CopyKnows (record m { point = Fetch }) Fetch r0 rs tr es → FetchLeaves (fetching m.me m.author m.other) rs r t ds a → Goes Fetch (First a)
  got a (may, same, none, quiet) w =
      subst (λ (u : Trail). Follows copy_parts copy_plan (record m { point = Fetch }) (First a) r0 r (u ++ t) (es ++ ds)) (sym none)
      (subst (λ (u : List Event). Follows copy_parts copy_plan (record m { point = Fetch }) (First a) r0 r t (u ++ ds)) (sym quiet)
      (go a (subst (λ (x : Memo). FetchLeaves (fetching m.me m.author m.other) x r t ds a) same w)))
    where
      go : (a : Fetched) → FetchLeaves (fetching m.me m.author m.other) r0 r t ds a → Follows copy_parts copy_plan (record m { point = Fetch }) (First a) r0 r t ds
      go fetched.Missing w = w
      go (fetched.Refused f) w =
          let b = w.bound in
          not_copied m r0 r t ds f
          (record {
            keeps = w.keeps;
            latch = w.latch;
            map = w.map;
            cause = cause_fetch m.me r0 r f w.cause;
            cleared = inl w.cleared;
            undone = none_undone m.me (λ j v. event.Up c (spot.Root c j) v) r0 r ds f w.home w.cleared.dying w.none;
            has = w.has;
            read = w.keys;
            searched = w.search;
            keys = 0;
            search = inl refl;
            left = [];
            dying = All-nil (λ (x : Visit). Contains r.dying x.block);
            bound = omega arith;
          })
      go (fetched.Rooted k b n) w =
          let low = w.low in
          let small = w.small in
          let is : b ≡ b % address_limit = omega arith in
          let at : k ≡ k % 16 = omega arith in (
            may,
            subst (λ i. IsRooted m.me m.author m.other i (b % address_limit) n None (fetch_steps m.me.geometry.wide) r0 r t ds) at (subst (λ d. IsRooted m.me m.author m.other k d n None (fetch_steps m.me.geometry.wide) r0 r t ds) is w),
          )

  -- where the value block was from
  abbrev source : IsRooted m.me m.author m.other m.root m.block m.number None (fetch_steps m.me.geometry.wide) r0 rs tr es → IsSource m.me m.author m.other m.number m.block r0 tr
  source h = record { entry = h.entry; q = h.q; reading = h.reading; told = h.told; has = h.has; read = h.keys; searched = h.search }

  -- the key has it, or not
  put : (a : Result Bool PutFault) → CopyKnows (record m { point = Put }) Put r0 rs tr es → PutRootLeaves (putting_root m.me m.key m.block) rs r t ds a → Goes Put (Second (First a))
  put (Ok done) (may, h) (w, still) =
      let quiet = frees_append es ds in
      let none : frees es ≡ 0 = ap frees h.events in
      let torn = tear_same m.me.geometry.wide (frees (es ++ ds) + length w.left) (frees ds + length w.left) (omega arith) in
      let b = within_more (fetch_steps m.me.geometry.wide + 2 * h.keys) (put_root_steps m.me.geometry.wide g + 2 * w.keys + tear_steps m.me.geometry.wide (frees ds + length w.left)) tr t h.bound w.bound in (
        record {
          may = may;
          keeps = keeps_more c r0 rs r h.keeps w.keeps;
          latch = w.latch;
          low = h.low;
          empty = h.empty;
          rest = elim w.ended [ inl y ↦ inl ((λ j n. y.roots j ∙ h.others j n), y.dying ∙ h.dying) | inr y ↦ inr y ];
          value = (
            set_after m.key m.number m.block r0 rs r h.map (w.map m.number h.value),
            w.home,
            elim w.decided [
              | inl d ↦ inl (decided_after c m.key (own_word r.own (Home c)) m.block es ds d)
              | inr d ↦ inr (d.0, sym (h.map m.key) ∙ d.1)
            ],
          );
          undone = tt;
          made = (ds, ap (λ (u : List Event). u ++ ds) h.events);
          source = source_more m.me m.author m.other m.number m.block r0 tr t (source h);
          keys = w.keys;
          search = inr (search_before m.me c m.key w.keys tr t w.search);
          left = w.left;
          dying = w.dying;
          bound = omega arith;
        },
        λ z. same_more r0 rs r h.map (still z),
      )
  put (Err f) (may, h) w =
      let quiet = frees_append es ds in
      let none : frees es ≡ 0 = ap frees h.events in
      let torn = tear_same m.me.geometry.wide (frees (es ++ ds) + length w.left) (frees ds + length w.left) (omega arith) in
      let b = within_more (fetch_steps m.me.geometry.wide + 2 * h.keys) (put_root_steps m.me.geometry.wide g + 2 * w.keys + tear_steps m.me.geometry.wide (frees ds + length w.left)) tr t h.bound w.bound in (
        record {
          may = may;
          keeps = keeps_more c r0 rs r h.keeps w.keeps;
          latch = w.latch;
          low = h.low;
          empty = h.empty;
          rest = elim w.cleared [ inl y ↦ inl ((λ j n. y.roots j ∙ h.others j n), y.dying ∙ h.dying) | inr y ↦ inr y ];
          value = (same_more r0 rs r h.map w.map, cause_put m.me m.root r0 rs r f h.low h.empty h.others w.cause);
          undone = put_undone m.me (λ j v. event.Up c (spot.Root c j) v) m.key m.root m.block r0 rs r t es ds f h.events h.home h.dying h.some h.root w;
          made = (ds, ap (λ (u : List Event). u ++ ds) h.events);
          source = source_more m.me m.author m.other m.number m.block r0 tr t (source h);
          keys = w.keys;
          search = elim w.search [ inl y ↦ inl y | inr y ↦ inr (search_before m.me c m.key w.keys tr t y) ];
          left = w.left;
          dying = w.dying;
          bound = omega arith;
        },
        λ z. same_more r0 rs r h.map w.map,
      )

  -- the root of the value block is dropped, or stays
  module _ (a : Result Bool EraSpent) (w : DropLeaves (dropping m.me m.root) rs r t ds a) where
    else_dropped : (r.latch ≡ rs.latch) × (own_word r.own (Home c) ≡ own_word rs.own (Home c)) × (r.part ≡ rs.part) × ((j : ℕ) → m.root ≢ j → root_word c r j ≡ root_word c rs j)
    else_dropped = dropped_else c m.root rs r (left_by (dropping m.me m.root) r0 rs r t ds a w).0

    era_dropped : own_word rs.own (spot.Era c c) ≤ own_word r.own (spot.Era c c)
    era_dropped = (left_by (dropping m.me m.root) r0 rs r t ds a w).0.rows c

    same_dropped : SameMap rs r
    same_dropped = same_part rs r else_dropped.2

  ended_so : (z : Bool) → DropLeaves (dropping m.me m.root) rs r t ds (Ok z) → root_word c r0 m.root ≡ 0 → RestSo c m.root r0 rs None → Ended c r0 r
  ended_so z w empty (inl y) = inl (cleared_drop (dropping m.me m.root) r0 rs r t ds z empty y.0 y.1 w)
  ended_so z w empty (inr y) = inr (y.0, spent_later c y.0 rs r (era_dropped (Ok z) w) y.1)

  dropped : (f : Option PutFault) (a : Result Bool EraSpent) → IsCopied m.me m.key m.author m.other m.number m.root m.block f r0 rs tr es → DropLeaves (dropping m.me m.root) rs r t ds a
      → Follows copy_parts copy_plan (record m { refused = f; point = Drop }) (Second (Second a)) r0 r (tr ++ t) (es ++ ds)
  dropped None (Ok z) h w =
      let n = else_dropped (Ok z) w in
      let quiet = frees_append es ds in
      let torn = tear_sum m.me.geometry.wide (frees (es ++ ds) + length h.left) (frees es + length h.left) (frees ds) (omega arith) in
      let b = within_more (fetch_steps m.me.geometry.wide + 2 * h.source.read + put_root_steps m.me.geometry.wide g + 2 * h.keys + tear_steps m.me.geometry.wide (frees es + length h.left)) (8 + redo_steps m.me.geometry.wide + tear_steps m.me.geometry.wide (frees ds)) tr t h.bound w.bound in
      record {
        keeps = keeps_drop (dropping m.me m.root) r0 rs r t ds (Ok z) h.keeps h.empty w;
        latch = n.0 ∙ h.latch;
        home = λ e. h.value.1 (sym n.1 ∙ e);
        map = set_then m.key m.number m.block r0 rs r h.value.0 (same_dropped (Ok z) w);
        made = (m.root, h.made.0 ++ ds, ap (λ (u : List Event). u ++ ds) h.made.1);
        source = source_more m.me m.author m.other m.number m.block r0 tr t h.source;
        decided = elim h.value.2 [ inl d ↦ inl (subst (λ b. IsDecided c m.key b m.block (es ++ ds)) (sym n.1) (decided_more c m.key (own_word rs.own (Home c)) m.block es ds d)) | inr d ↦ inr d ];
        ended = ended_so z w h.empty h.rest;
        keys = h.keys;
        search = elim h.search [ inl y ↦ inl y | inr y ↦ inr (search_more m.me c m.key h.keys tr t y) ];
        left = h.left;
        dying = subst (λ (xs : List ℕ). All (λ (x : Visit). Contains xs x.block) h.left) (sym w.dying) h.dying;
        bound = omega arith;
      }
  dropped None (Err e) h (vs, w) =
      let n = else_dropped (Err e) (vs, w) in
      let quiet = frees_append es ds in
      let long = length-append h.left vs in
      let torn = tear_sum m.me.geometry.wide (frees (es ++ ds) + length (h.left ++ vs)) (frees es + length h.left) (frees ds + length vs) (omega arith) in
      let b = within_more (fetch_steps m.me.geometry.wide + 2 * h.source.read + put_root_steps m.me.geometry.wide g + 2 * h.keys + tear_steps m.me.geometry.wide (frees es + length h.left)) (8 + redo_steps m.me.geometry.wide + tear_steps m.me.geometry.wide (frees ds + length vs)) tr t h.bound w.bound in
      record {
        keeps = keeps_drop (dropping m.me m.root) r0 rs r t ds (Err e) h.keeps h.empty (vs, w);
        latch = n.0 ∙ h.latch;
        home = λ e. h.value.1 (sym n.1 ∙ e);
        map = set_then m.key m.number m.block r0 rs r h.value.0 (same_dropped (Err e) (vs, w));
        made = (m.root, h.made.0 ++ ds, ap (λ (u : List Event). u ++ ds) h.made.1);
        source = source_more m.me m.author m.other m.number m.block r0 tr t h.source;
        decided = elim h.value.2 [ inl d ↦ inl (subst (λ b. IsDecided c m.key b m.block (es ++ ds)) (sym n.1) (decided_more c m.key (own_word rs.own (Home c)) m.block es ds d)) | inr d ↦ inr d ];
        ended = inr (e.era, spent_drop (dropping m.me m.root) r0 rs r t ds e (vs, w));
        keys = h.keys;
        search = elim h.search [ inl y ↦ inl y | inr y ↦ inr (search_more m.me c m.key h.keys tr t y) ];
        left = h.left ++ vs;
        dying = left_too m.me rs r h.left vs e.era h.dying w.stopped;
        bound = omega arith;
      }
  dropped (Some f) (Ok z) h w =
      let n = else_dropped (Ok z) w in
      let quiet = frees_append es ds in
      let torn = tear_sum m.me.geometry.wide (frees (es ++ ds) + length h.left) (frees es + length h.left) (frees ds) (omega arith) in
      let b = within_more (fetch_steps m.me.geometry.wide + 2 * h.source.read + put_root_steps m.me.geometry.wide g + 2 * h.keys + tear_steps m.me.geometry.wide (frees es + length h.left)) (8 + redo_steps m.me.geometry.wide + tear_steps m.me.geometry.wide (frees ds)) tr t h.bound w.bound in
      not_copied m r0 r (tr ++ t) (es ++ ds) f
      (record {
        keeps = keeps_drop (dropping m.me m.root) r0 rs r t ds (Ok z) h.keeps h.empty w;
        latch = n.0 ∙ h.latch;
        map = same_more r0 rs r h.value.0 (same_dropped (Ok z) w);
        cause = cause_then m.me r0 rs r f (era_dropped (Ok z) w) h.value.1;
        cleared = cleared_by f z w h;
        undone = dropped_undone m.me (λ j v. event.Up c (spot.Root c j) v) m.root m.block r0 rs r es ds f n.1 h.undone w.dying w.events;
        has = λ own. (m.number, m.block, h.source.has own);
        read = h.source.read;
        searched = search_more m.me m.author m.other h.source.read tr t h.source.searched;
        keys = h.keys;
        search = elim h.search [ inl y ↦ inl y | inr y ↦ inr (search_more m.me c m.key h.keys tr t y) ];
        left = h.left;
        dying = subst (λ (xs : List ℕ). All (λ (x : Visit). Contains xs x.block) h.left) (sym w.dying) h.dying;
        bound = omega arith;
      })
    where
      cleared_by : (f : PutFault) (z : Bool) → DropLeaves (dropping m.me m.root) rs r t ds (Ok z) → IsCopied m.me m.key m.author m.other m.number m.root m.block (Some f) r0 rs tr es → Cleared c r0 r ⊎ IsEraSpent f
      cleared_by f z w h = elim h.rest [ inl y ↦ inl (cleared_drop (dropping m.me m.root) r0 rs r t ds z h.empty y.0 y.1 w) | inr y ↦ inr y ]
  dropped (Some f) (Err e) h (vs, w) =
      let n = else_dropped (Err e) (vs, w) in
      let quiet = frees_append es ds in
      let long = length-append h.left vs in
      let torn = tear_sum m.me.geometry.wide (frees (es ++ ds) + length (h.left ++ vs)) (frees es + length h.left) (frees ds + length vs) (omega arith) in
      let b = within_more (fetch_steps m.me.geometry.wide + 2 * h.source.read + put_root_steps m.me.geometry.wide g + 2 * h.keys + tear_steps m.me.geometry.wide (frees es + length h.left)) (8 + redo_steps m.me.geometry.wide + tear_steps m.me.geometry.wide (frees ds + length vs)) tr t h.bound w.bound in
      record {
        keeps = keeps_drop (dropping m.me m.root) r0 rs r t ds (Err e) h.keeps h.empty (vs, w);
        latch = n.0 ∙ h.latch;
        map = same_more r0 rs r h.value.0 (same_dropped (Err e) (vs, w));
        cause = spent_drop (dropping m.me m.root) r0 rs r t ds e (vs, w);
        cleared = inr tt;
        undone = stopped_undone m.me (λ j v. event.Up c (spot.Root c j) v) m.root m.block r0 rs r es ds f n.1 h.undone e vs w.stopped;
        has = λ own. (m.number, m.block, h.source.has own);
        read = h.source.read;
        searched = search_more m.me m.author m.other h.source.read tr t h.source.searched;
        keys = h.keys;
        search = elim h.search [ inl y ↦ inl y | inr y ↦ inr (search_more m.me c m.key h.keys tr t y) ];
        left = h.left ++ vs;
        dying = left_too m.me rs r h.left vs e.era h.dying w.stopped;
        bound = omega arith;
      }

-- by the call
leads : (m : CopyState) (y : CopyPoint) (r0 rs r : Memo) (tr t : Trail) (es ds : List Event) (b : CopyAnswer) → IsHeld m.me r → recovers r ≡ recovers rs → CopyKnows (record m { point = y }) y r0 rs tr es → copy_part.leaves (copy_call_at m y) rs r t ds b
    → Follows copy_parts copy_plan (record m { point = y }) b r0 r (tr ++ t) (es ++ ds)
leads m Fetch r0 rs r tr t es ds (First a) held agent h w = got m r0 rs r tr t es ds held agent a h w
leads m Put r0 rs r tr t es ds (Second (First a)) held agent h w = put m r0 rs r tr t es ds held agent a h w
leads m Drop r0 rs r tr t es ds (Second (Second a)) held agent (h, still) w = dropped m r0 rs r tr t es ds held agent m.refused a h w
leads m _ r0 rs r tr t es ds _ held agent h w = absurd w

-- what is known before the first call
pub copy_begin : (me : Me) (key a other : ℕ) (r : Memo) → MayCopy me key a r → CopyKnows (copying me key a other) Fetch r r [] []
copy_begin me key a other r may = (may, refl, refl, refl)

-- ---- the plan's laws, by those of the machines that it calls

module _ (fetches : PlanLaws fetch_parts fetch_plan) (puts : PlanLaws put_root_parts put_root_plan) where
  -- each call is a part
  parts : (first : Bool) → PartLaws first copy_parts copy_part
  parts first =
      or_part_laws first fetch_control (or_control put_root_control drop_root) (calls_part fetch_parts fetch_plan) (or_part (calls_part put_root_parts put_root_plan) (calls_part drop_parts drop_plan))
      (calls_part_laws fetch_parts fetch_plan fetches first)
      (or_part_laws first put_root_control drop_root (calls_part put_root_parts put_root_plan) (calls_part drop_parts drop_plan) (calls_part_laws put_root_parts put_root_plan puts first) (calls_part_laws drop_parts drop_plan drop_laws first))

  pub copy_laws : PlanLaws copy_parts copy_plan
  copy_laws =
      record {
        stays = stays;
        calls = λ m. calls m m.point;
        parts = λ m. parts (is_fetch m.point);
        opens = λ m. opens m m.point;
        leads = λ m r0 rs r tr t es ds b h w held agent. leads m m.point r0 rs r tr t es ds b held agent h w;
      }
