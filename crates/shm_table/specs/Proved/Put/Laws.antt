-- what is owed of a put
use Rattle.std.proofs.Common.{◌≡◌, ◌≢◌, ℕ, zero, suc, length-append, ◌+◌, ◌*◌, ◌%◌, ◌^◌, ◌<◌, ◌≤◌, refl, sym, ap, ◌∙◌, subst, arith, Bool, true, false, eqb, ◌&&◌, List, [], ◌∷◌, ◌++◌, slice_index, Option, Some, None, inl, inr, ◌⊎◌}
use Rattle.std.proofs.lemmas.Bool.{cond-false, cond-true, eq-eqb, and_from}
use Rattle.std.proofs.lemmas.List.Elements.{All-nil, Contains-append_left}
use Rattle.std.specs.{Prelude.{Result, Ok, Err, length}, List.{All, Contains}}
use Rattle.shm_words.specs.{Tags.{tag_plain, tag_refs, TagFits}, declared.tag.Tag.Tag as ATag, Layout.address_limit}
use Rattle.shm_words.proofs.{Placing.total_small, Words.{place_some, tag_plain-word, tag_refs-word}}
use Rattle.shm_graph.specs.declared.{ask.Me.Me, memo.{Making.Making, Memo.Memo}, table.Part.Part}
use Rattle.shm_graph.specs.{declared.spot.Spot.TheVariants.{Body, Home}, Agents.recovers, Asks.Trail}
use Rattle.shm_graph.specs.{Bounds.{alloc_steps, tear_steps, redo_steps}, Events.Event, Held.is_loose}
use Rattle.shm_graph.specs.{MemoAfterRead.valued, Views.own_word}
use Rattle.shm_graph.specs.declared.spot.Spot.TheVariants as spot
use Rattle.shm_graph.specs.Events as event
use Rattle.kind_parts.specs.Reparting.{sight, map_in, IsValue}
use Rattle.plans.specs.{declared.or.Or.TheVariants.{First, Second}, Proved.{CallTells.within_more, Either.or_part_laws}}
use Rattle.plans.specs.{CallsPart.{calls_part, calls_part_laws}, Either.{or_control, or_part}, Parts.{IsHeld, PartLaws}}
use Rattle.plans.specs.Plans.{PlanLaws, PlanStays, IsCall, Follows}
use Rattle.shm_alloc.specs.declared.{alloc.AllocFault.AllocFault, request.Request.Request}
use Rattle.shm_alloc.specs.Alloc.{Control.{RequestFits, alloc_control, tag_asked}, AnswerHolds, MadeGives}
use Rattle.shm_alloc.specs.{Alloc.AsPart.{AllocLeaves, alloc_part}, Proved.Alloc.AsPart.alloc_part_laws}
use Rattle.shm_alloc.specs.declared.alloc.AllocFault.TheVariants as alloc_fault
use Rattle.shm_alloc.specs.declared.point.AllocPoint.TheVariants as alloc
use Rattle.shm_alloc.proofs.{AllocBound.alloc_bound, MadeBlocks.block_inside}
use Rattle.shm_count.specs.{declared.answer.{EraSpent.EraSpent, Made.Made}, Roots.root_word, Step.Control.IsInside}
use Rattle.shm_count.specs.Tear.Events.{Visit, frees}
use Rattle.shm_ref.specs.DropRoot.{Control.{drop_parts, dropping}, DropLeaves, drop_plan}
use Rattle.shm_ref.specs.{Proved.DropRoot.Laws.drop_laws, DropRoots.Control.drop_root}
use Rattle.shm_table.specs.declared.{answer.PutFault.PutFault, put.PutPoint.{PutPoint, TheVariants.{Make, Put, Drop}}}
use Rattle.shm_table.specs.{declared.put.PutState.PutState, Answers.{fault_answer, made_fault, spent_fault}}
use Rattle.shm_table.specs.Put.Control.{PutAnswer, is_make, put_call_at, put_parts, value_request}
use Rattle.shm_table.specs.Put.{HasValue, IsPut, NotStored, PutKnows, PutLeaves, PutStored, put_part, put_plan}
use Rattle.shm_table.specs.Proved.{Put.Fresh.not_mapped, Commands.{cause_put, cause_then, left_too}}
use Rattle.shm_table.specs.Proved.PutRoot.Steps.{decided_after, decided_more, frees_append, same_more, same_part, search_before, search_more, set_after, set_then}
use Rattle.shm_table.specs.Proved.Staying.Laws.{cleared_drop, dropped_else, keeps_drop, keeps_made, keeps_more, left_by, made_cause, rests_unmade, spent_drop, spent_later}
use Rattle.shm_table.specs.Proved.{Undoing.{none_undone, put_undone}, ValuesListed.idle_here}
use Rattle.shm_table.specs.{Proved.Costs.{tear_sum, tear_same}, Commands.{CommandCause, MayCommand, RestSo}}
use Rattle.shm_table.specs.PutRoot.Control.{put_root_parts, putting_root, put_root_control}
use Rattle.shm_table.specs.PutRoot.{IsDecided, IsEraSpent, PutRootLeaves, put_root_plan, put_root_steps}
use Rattle.shm_table.specs.Staying.{Cleared, Ended, PutCause, SameMap, Laws.{made_home, made_others, made_root}}
use Rattle.shm_table.specs.Undoing.{dropped_undone, stopped_undone}
use Rattle.shm_table.specs.declared.answer.PutFault.TheVariants as fault

-- ---- the plan

stays : (m : PutState) (b : PutAnswer) → PlanStays put_parts put_plan m b
stays m (First (Err f)) = record { same_me = refl; same_line = refl; same_start = refl; started = λ e. absurd (cc) }
stays m (Second (Second (Ok z))) = record { same_me = refl; same_line = refl; same_start = refl; started = λ e. absurd (cc) }
stays m (Second (Second (Err e))) = record { same_me = refl; same_line = refl; same_start = refl; started = λ e. absurd (cc) }
stays m _ = record { same_me = refl; same_line = refl; same_start = refl; started = λ e. refl }

calls : (m : PutState) (y : PutPoint) → IsCall put_parts put_plan (record m { point = y })
calls m Make = record { me = refl; asks = refl }
calls m _ = record { me = refl; asks = refl }

plain_small : (n i : ℕ) → n < 2 ^ 64 → slice_index (value_request n).plain i < 2 ^ 64
plain_small n zero l = l
plain_small n (suc zero) l = omega arith
plain_small n (suc (suc zero)) l = omega arith
plain_small n (suc (suc (suc zero))) l = omega arith
plain_small n (suc (suc (suc (suc zero)))) l = omega arith
plain_small n (suc (suc (suc (suc (suc zero))))) l = omega arith
plain_small n (suc (suc (suc (suc (suc (suc zero)))))) l = omega arith
plain_small n (suc (suc (suc (suc (suc (suc (suc zero))))))) l = omega arith
plain_small n (suc (suc (suc (suc (suc (suc (suc (suc i)))))))) l = omega arith

value_fits : (n : ℕ) → n < 2 ^ 64 → RequestFits (value_request n)
value_fits n l = record { refs = omega arith; count = omega arith; small = λ i. plain_small n i l }

-- ---- a value block was made

-- a block without references and with one plain word is a value block, and its number is known
value_made : (me : Me) (q : Request) (m r : Memo) (a : Made) → me.who < 64 → AnswerHolds me q m r (Ok a) → q.refs ≡ 0 → q.count ≡ 1 → is_loose m.part ≡ false → IsValue (sight me.who r) a.block (slice_index q.plain 0)
value_made me q m r a small holds e f table =
    let t : ATag = record { refs = q.refs; plain = q.count; author = me.who; link = 0 } in
    let fits : TagFits me.geometry.wide t = record { refs = omega arith; plain = omega arith; author = small; link = place_some me.geometry.wide } in
    let tag = tag_asked me.geometry.wide q me.who in
    let refs : tag_refs me.geometry.wide tag ≡ 0 = tag_refs-word me.geometry.wide t fits ∙ e in
    let plain : tag_plain me.geometry.wide tag ≡ 1 = tag_plain-word me.geometry.wide t fits ∙ f in
    let gives : MadeGives me q m r a = holds.gives in
    let is : (eqb (tag_refs me.geometry.wide tag) 0 && eqb (tag_plain me.geometry.wide tag) 1) ≡ true = and_from _ _ (eq-eqb (tag_refs me.geometry.wide tag) 0 refs) (eq-eqb (tag_plain me.geometry.wide tag) 1 plain) in
    let values : r.values ≡ a.block ∷ m.values = gives.values ∙ (cond-true (eqb (tag_refs me.geometry.wide tag) 0 && eqb (tag_plain me.geometry.wide tag) 1) (valued m.part a.block m.values) m.values is ∙ cond-false (is_loose m.part) m.values (a.block ∷ m.values) table) in
    let words : Making = gives.knows.0 in
    let none : 0 < q.count = omega arith in
    let at : q.refs + 0 ≡ 0 = omega arith in
    let new : Contains words.words (record { spot = Body a.block (q.refs + 0); value = slice_index q.plain 0 }) = gives.knows.2.words 0 none in
    record {
      value = subst (λ vs. Contains vs a.block) (sym values) (0, omega arith, refl);
      word = subst (λ i. Contains r.known (record { spot = Body a.block i; value = slice_index q.plain 0 })) at
          (subst (λ ks. Contains ks (record { spot = Body a.block (q.refs + 0); value = slice_index q.plain 0 })) (sym gives.knows.1) (Contains-append_left words.words m.known (record { spot = Body a.block (q.refs + 0); value = slice_index q.plain 0 }) new));
    }

inside_made : (me : Me) (q : Request) (m r : Memo) (a : Made) → IsHeld me r → me.who < me.geometry.clients → MadeGives me q m r a → IsInside me a.block
inside_made me q m r a (w, rs, h, same) l gives = block_inside me q m a w rs h l (subst (λ (x : Memo). MadeGives me q m x a) (sym same) gives)

-- why nothing was made
cause_made : (me : Me) (m r : Memo) (f : AllocFault) → PutCause me m r (made_fault f) → CommandCause me m r (made_fault f)
cause_made me m r alloc_fault.RootsFull h = (0, λ j l n. h j l)
cause_made me m r _ h = h

-- ---- answers

-- what a refusal leaves
not_stored : (m : PutState) (r0 r : Memo) (tr : Trail) (es : List Event) (f : PutFault) → NotStored m.me m.key r0 r tr es f → PutLeaves m r0 r tr es (fault_answer f)
not_stored m r0 r tr es (fault.EraSpent e) h = h
not_stored m r0 r tr es _ h = h

-- ---- what each call leaves

-- a value block was made, or not
module _ (m : PutState) (r0 r : Memo) (t : Trail) (ds : List Event) (held : IsHeld m.me r) (may : MayCommand m.me m.key r0) (number : m.number < 2 ^ 64) where
  abbrev Asked : Result Made AllocFault → Type 0
  Asked = AllocLeaves (record { me = m.me; request = value_request m.number; point = alloc.Era }) r0 r t ds

  few : m.me.who < 64
  few = let u = may.geometry.clients in let l = may.who in omega arith

  made : (a : Made) → recovers r ≡ recovers r0 → Asked (Ok a) → HasValue m.me m.key m.number (a.root % 16) (a.block % address_limit) r0 r t ds
  made a agent w =
      let q = value_request m.number in
      let h = w.holds in
      let inside = inside_made m.me q r0 r a held may.who h.gives in
      let low = h.gives.root in
      let block = inside.1 in
      let total = total_small m.me.geometry may.geometry in
      let is : a.block ≡ a.block % address_limit = omega arith in
      let at : a.root ≡ a.root % 16 = omega arith in
      let b = alloc_bound m.me q (value_fits m.number number) t (Ok a) w.trail in
      subst (λ k. HasValue m.me m.key m.number k (a.block % address_limit) r0 r t ds) at
      (subst (λ d. HasValue m.me m.key m.number a.root d r0 r t ds) is
      (record {
        may = may;
        keeps = keeps_made m.me q r0 r (Ok a) few h;
        client = agent ∙ may.client;
        latch = h.stays.latch ∙ may.none;
        low = low;
        empty = h.gives.empty;
        root = made_root m.me q r0 r a h;
        some = λ e. (let l = inside.0 in absurd (omega arith));
        others = λ j n. made_others m.me q r0 r a h j n;
        dying = h.stays.dying;
        home = made_home m.me q r0 r a h;
        map = same_part r0 r h.stays.part;
        value = value_made m.me q r0 r a few h refl refl may.table;
        fresh = λ i e. not_mapped m.me r a.block held may.who h.gives.made m.key i (ap (λ (x : Part). map_in x m.key) h.stays.part ∙ e);
        told = w.events;
        bound = omega arith;
      }))

  unmade : (f : AllocFault) → Asked (Err f) → NotStored m.me m.key r0 r t ds (made_fault f)
  unmade f w =
      let q = value_request m.number in
      let rests = rests_unmade m.me q r0 r f w.holds in
      let b = alloc_bound m.me q (value_fits m.number number) t (Err f) w.trail in
      record {
        keeps = keeps_made m.me q r0 r (Err f) few w.holds;
        latch = rests.latch ∙ may.none;
        map = same_part r0 r rests.part;
        cause = cause_made m.me r0 r f (made_cause m.me q r0 r f w.holds);
        cleared = inl rests.cleared;
        undone = none_undone m.me (λ j v. event.Alloc m.me.who j v) r0 r ds (made_fault f) rests.home rests.cleared.dying w.events;
        keys = 0;
        search = inl refl;
        left = [];
        dying = All-nil (λ (x : Visit). Contains r.dying x.block);
        bound = omega arith;
      }

module _ (m : PutState) (r0 rs r : Memo) (tr t : Trail) (es ds : List Event) where
  abbrev c : ℕ
  c = m.me.who

  abbrev g : ℕ
  g = m.me.geometry.segments

  -- after PutRoot: it is settled whether the key has the block
  abbrev Settled : Option PutFault → Memo → Trail → List Event → Type 0
  Settled f = IsPut m.me m.key m.number m.root m.block f r0

  -- before it: the value block was made
  abbrev Given : Memo → Trail → List Event → Type 0
  Given = HasValue m.me m.key m.number m.root m.block r0

  -- what the drop of its root leaves
  abbrev Dropped : Result Bool EraSpent → Type 0
  Dropped = DropLeaves (dropping m.me m.root) rs r t ds

  -- the key has it, or not
  put : (done : Bool) → Given rs tr es → PutRootLeaves (putting_root m.me m.key m.block) rs r t ds (Ok done) → Settled None r (tr ++ t) (es ++ ds) × (done ≡ false → SameMap r0 r)
  put done h (w, still) =
      let quiet = frees_append es ds in
      let none : frees es ≡ 0 = ap frees h.told in
      let torn = tear_same m.me.geometry.wide (frees (es ++ ds) + length w.left) (frees ds + length w.left) (omega arith) in
      let b = within_more (alloc_steps m.me.geometry.wide g) (put_root_steps m.me.geometry.wide g + 2 * w.keys + tear_steps m.me.geometry.wide (frees ds + length w.left)) tr t h.bound w.bound in (
        record {
          may = h.may;
          keeps = keeps_more c r0 rs r h.keeps w.keeps;
          latch = w.latch;
          low = h.low;
          empty = h.empty;
          rest = elim w.ended [ inl y ↦ inl ((λ j n. y.roots j ∙ h.others j n), y.dying ∙ h.dying) | inr y ↦ inr y ];
          value = (
            set_after m.key m.number m.block r0 rs r h.map (w.map m.number h.value),
            w.home,
            elim w.decided [
              | inl d ↦ inl (decided_after c m.key (own_word r.own (Home c)) m.block es ds d)
              | inr d ↦ inr (d.0, sym (h.map m.key) ∙ d.1)
            ],
          );
          undone = tt;
          fresh = h.fresh;
          made = (ds, ap (λ (u : List Event). u ++ ds) h.told);
          keys = w.keys;
          search = inr (search_before m.me c m.key w.keys tr t w.search);
          left = w.left;
          dying = w.dying;
          bound = omega arith;
        },
        λ z. same_more r0 rs r h.map (still z),
      )

  not_put : (f : PutFault) → Given rs tr es → PutRootLeaves (putting_root m.me m.key m.block) rs r t ds (Err f) → Settled (Some f) r (tr ++ t) (es ++ ds) × SameMap r0 r
  not_put f h w =
      let quiet = frees_append es ds in
      let none : frees es ≡ 0 = ap frees h.told in
      let torn = tear_same m.me.geometry.wide (frees (es ++ ds) + length w.left) (frees ds + length w.left) (omega arith) in
      let b = within_more (alloc_steps m.me.geometry.wide g) (put_root_steps m.me.geometry.wide g + 2 * w.keys + tear_steps m.me.geometry.wide (frees ds + length w.left)) tr t h.bound w.bound in (
        record {
          may = h.may;
          keeps = keeps_more c r0 rs r h.keeps w.keeps;
          latch = w.latch;
          low = h.low;
          empty = h.empty;
          rest = elim w.cleared [ inl y ↦ inl ((λ j n. y.roots j ∙ h.others j n), y.dying ∙ h.dying) | inr y ↦ inr y ];
          value = (same_more r0 rs r h.map w.map, cause_put m.me m.root r0 rs r f h.low h.empty h.others w.cause);
          undone = put_undone m.me (λ j v. event.Alloc c j v) m.key m.root m.block r0 rs r t es ds f h.told h.home h.dying h.some h.root w;
          fresh = h.fresh;
          made = (ds, ap (λ (u : List Event). u ++ ds) h.told);
          keys = w.keys;
          search = elim w.search [ inl y ↦ inl y | inr y ↦ inr (search_before m.me c m.key w.keys tr t y) ];
          left = w.left;
          dying = w.dying;
          bound = omega arith;
        },
        same_more r0 rs r h.map w.map,
      )

  -- the root of the value block is dropped, or stays
  module _ (a : Result Bool EraSpent) (w : Dropped a) where
    else_dropped : (r.latch ≡ rs.latch) × (own_word r.own (Home c) ≡ own_word rs.own (Home c)) × (r.part ≡ rs.part) × ((j : ℕ) → m.root ≢ j → root_word c r j ≡ root_word c rs j)
    else_dropped = dropped_else c m.root rs r (left_by (dropping m.me m.root) r0 rs r t ds a w).0

    era_dropped : own_word rs.own (spot.Era c c) ≤ own_word r.own (spot.Era c c)
    era_dropped = (left_by (dropping m.me m.root) r0 rs r t ds a w).0.rows c

    same_dropped : SameMap rs r
    same_dropped = same_part rs r else_dropped.2

  ended_so : (z : Bool) → Dropped (Ok z) → root_word c r0 m.root ≡ 0 → RestSo c m.root r0 rs None → Ended c r0 r
  ended_so z w empty (inl y) = inl (cleared_drop (dropping m.me m.root) r0 rs r t ds z empty y.0 y.1 w)
  ended_so z w empty (inr y) = inr (y.0, spent_later c y.0 rs r (era_dropped (Ok z) w) y.1)

  stored : (a : Result Bool EraSpent) → Settled None rs tr es → Dropped a → PutStored m.me m.key m.number m.block r0 r (tr ++ t) (es ++ ds)
  stored (Ok z) h w =
      let n = else_dropped (Ok z) w in
      let quiet = frees_append es ds in
      let torn = tear_sum m.me.geometry.wide (frees (es ++ ds) + length h.left) (frees es + length h.left) (frees ds) (omega arith) in
      let b = within_more (alloc_steps m.me.geometry.wide g + put_root_steps m.me.geometry.wide g + 2 * h.keys + tear_steps m.me.geometry.wide (frees es + length h.left)) (8 + redo_steps m.me.geometry.wide + tear_steps m.me.geometry.wide (frees ds)) tr t h.bound w.bound in
      record {
        keeps = keeps_drop (dropping m.me m.root) r0 rs r t ds (Ok z) h.keeps h.empty w;
        latch = n.0 ∙ h.latch;
        home = λ e. h.value.1 (sym n.1 ∙ e);
        map = set_then m.key m.number m.block r0 rs r h.value.0 (same_dropped (Ok z) w);
        made = (m.root, h.made.0 ++ ds, ap (λ (u : List Event). u ++ ds) h.made.1);
        decided = elim h.value.2 [ inl d ↦ subst (λ b. IsDecided c m.key b m.block (es ++ ds)) (sym n.1) (decided_more c m.key (own_word rs.own (Home c)) m.block es ds d) | inr d ↦ absurd (h.fresh d.0 d.1) ];
        ended = ended_so z w h.empty h.rest;
        keys = h.keys;
        search = elim h.search [ inl y ↦ inl y | inr y ↦ inr (search_more m.me c m.key h.keys tr t y) ];
        left = h.left;
        dying = subst (λ (xs : List ℕ). All (λ (x : Visit). Contains xs x.block) h.left) (sym w.dying) h.dying;
        bound = omega arith;
      }
  stored (Err e) h (vs, w) =
      let n = else_dropped (Err e) (vs, w) in
      let quiet = frees_append es ds in
      let long = length-append h.left vs in
      let torn = tear_sum m.me.geometry.wide (frees (es ++ ds) + length (h.left ++ vs)) (frees es + length h.left) (frees ds + length vs) (omega arith) in
      let b = within_more (alloc_steps m.me.geometry.wide g + put_root_steps m.me.geometry.wide g + 2 * h.keys + tear_steps m.me.geometry.wide (frees es + length h.left)) (8 + redo_steps m.me.geometry.wide + tear_steps m.me.geometry.wide (frees ds + length vs)) tr t h.bound w.bound in
      record {
        keeps = keeps_drop (dropping m.me m.root) r0 rs r t ds (Err e) h.keeps h.empty (vs, w);
        latch = n.0 ∙ h.latch;
        home = λ e. h.value.1 (sym n.1 ∙ e);
        map = set_then m.key m.number m.block r0 rs r h.value.0 (same_dropped (Err e) (vs, w));
        made = (m.root, h.made.0 ++ ds, ap (λ (u : List Event). u ++ ds) h.made.1);
        decided = elim h.value.2 [ inl d ↦ subst (λ b. IsDecided c m.key b m.block (es ++ ds)) (sym n.1) (decided_more c m.key (own_word rs.own (Home c)) m.block es ds d) | inr d ↦ absurd (h.fresh d.0 d.1) ];
        ended = inr (e.era, spent_drop (dropping m.me m.root) r0 rs r t ds e (vs, w));
        keys = h.keys;
        search = elim h.search [ inl y ↦ inl y | inr y ↦ inr (search_more m.me c m.key h.keys tr t y) ];
        left = h.left ++ vs;
        dying = left_too m.me rs r h.left vs e.era h.dying w.stopped;
        bound = omega arith;
      }

  -- it was refused, and the root was dropped, or stays
  refused : (f : PutFault) (z : Bool) → Settled (Some f) rs tr es → Dropped (Ok z) → NotStored m.me m.key r0 r (tr ++ t) (es ++ ds) f
  refused f z h w =
      let n = else_dropped (Ok z) w in
      let quiet = frees_append es ds in
      let torn = tear_sum m.me.geometry.wide (frees (es ++ ds) + length h.left) (frees es + length h.left) (frees ds) (omega arith) in
      let b = within_more (alloc_steps m.me.geometry.wide g + put_root_steps m.me.geometry.wide g + 2 * h.keys + tear_steps m.me.geometry.wide (frees es + length h.left)) (8 + redo_steps m.me.geometry.wide + tear_steps m.me.geometry.wide (frees ds)) tr t h.bound w.bound in
      record {
        keeps = keeps_drop (dropping m.me m.root) r0 rs r t ds (Ok z) h.keeps h.empty w;
        latch = n.0 ∙ h.latch;
        map = same_more r0 rs r h.value.0 (same_dropped (Ok z) w);
        cause = cause_then m.me r0 rs r f (era_dropped (Ok z) w) h.value.1;
        cleared = cleared_by f z w h;
        undone = dropped_undone m.me (λ j v. event.Alloc c j v) m.root m.block r0 rs r es ds f n.1 h.undone w.dying w.events;
        keys = h.keys;
        search = elim h.search [ inl y ↦ inl y | inr y ↦ inr (search_more m.me c m.key h.keys tr t y) ];
        left = h.left;
        dying = subst (λ (xs : List ℕ). All (λ (x : Visit). Contains xs x.block) h.left) (sym w.dying) h.dying;
        bound = omega arith;
      }
    where
      cleared_by : (f : PutFault) (z : Bool) → Dropped (Ok z) → Settled (Some f) rs tr es → Cleared c r0 r ⊎ IsEraSpent f
      cleared_by f z w h = elim h.rest [ inl y ↦ inl (cleared_drop (dropping m.me m.root) r0 rs r t ds z h.empty y.0 y.1 w) | inr y ↦ inr y ]

  stuck : (f : PutFault) (e : EraSpent) → Settled (Some f) rs tr es → Dropped (Err e) → NotStored m.me m.key r0 r (tr ++ t) (es ++ ds) (spent_fault e)
  stuck f e h (vs, w) =
      let n = else_dropped (Err e) (vs, w) in
      let quiet = frees_append es ds in
      let long = length-append h.left vs in
      let torn = tear_sum m.me.geometry.wide (frees (es ++ ds) + length (h.left ++ vs)) (frees es + length h.left) (frees ds + length vs) (omega arith) in
      let b = within_more (alloc_steps m.me.geometry.wide g + put_root_steps m.me.geometry.wide g + 2 * h.keys + tear_steps m.me.geometry.wide (frees es + length h.left)) (8 + redo_steps m.me.geometry.wide + tear_steps m.me.geometry.wide (frees ds + length vs)) tr t h.bound w.bound in
      record {
        keeps = keeps_drop (dropping m.me m.root) r0 rs r t ds (Err e) h.keeps h.empty (vs, w);
        latch = n.0 ∙ h.latch;
        map = same_more r0 rs r h.value.0 (same_dropped (Err e) (vs, w));
        cause = spent_drop (dropping m.me m.root) r0 rs r t ds e (vs, w);
        cleared = inr tt;
        undone = stopped_undone m.me (λ j v. event.Alloc c j v) m.root m.block r0 rs r es ds f n.1 h.undone e vs w.stopped;
        keys = h.keys;
        search = elim h.search [ inl y ↦ inl y | inr y ↦ inr (search_more m.me c m.key h.keys tr t y) ];
        left = h.left ++ vs;
        dying = left_too m.me rs r h.left vs e.era h.dying w.stopped;
        bound = omega arith;
      }

-- ---- the plan's laws, by those of the machine that it calls

module _ (puts : PlanLaws put_root_parts put_root_plan) where
  -- each call is a part
  parts : (first : Bool) → PartLaws first put_parts put_part
  parts first =
      or_part_laws first alloc_control (or_control put_root_control drop_root) alloc_part (or_part (calls_part put_root_parts put_root_plan) (calls_part drop_parts drop_plan))
      (alloc_part_laws first)
      (or_part_laws first put_root_control drop_root (calls_part put_root_parts put_root_plan) (calls_part drop_parts drop_plan) (calls_part_laws put_root_parts put_root_plan puts first) (calls_part_laws drop_parts drop_plan drop_laws first))

  pub put_laws : PlanLaws put_parts put_plan
  put_laws =
      record {
        stays = stays;
        calls = λ m. calls m m.point;
        parts = λ m. parts (is_make m.point);
        opens = λ m. opens m m.point;
        leads = λ m r0 rs r tr t es ds b h w held agent. leads m m.point r0 rs r tr t es ds b held agent h w;
      }
    where
      -- ---- before each call

      opens : (m : PutState) (y : PutPoint) (r0 r : Memo) (tr : Trail) (es : List Event) → PutKnows (record m { point = y }) y r0 r tr es → put_part.needs (put_call_at m y) r
      opens m Make r0 r tr es (may, small, same, none, quiet) =
          let a = subst (MayCommand m.me m.key) (sym same) may in
          record { made = refl; knows = record { geometry = a.geometry; who = a.who; request = value_fits m.number small; point = tt }; can = record { geometry = a.geometry; who = a.who; idle = a.idle } }
      opens m Put r0 r tr es h =
          record {
            made = refl;
            first = refl;
            start = refl;
            knows = (
              (
                m.number,
                m.root,
                record {
                  geometry = h.may.geometry;
                  who = h.may.who;
                  idle = h.keeps.idle;
                  client = h.client;
                  none = h.latch;
                  table = h.keeps.loose ∙ h.may.table;
                  small = h.may.small;
                  value = h.value;
                  low = h.low;
                  root = h.root;
                  some = h.some;
                },
              ),
              refl,
              refl,
              refl,
              refl,
              refl,
            );
          }
      opens m Drop r0 r tr es (h, still) =
          record { made = refl; first = refl; start = refl; knows = (record { geometry = h.may.geometry; who = h.may.who; here = idle_here m.me.who r h.keeps.idle; idle = h.keeps.idle.op }, h.low, refl, refl, refl) }

      -- ---- what follows each call

      making : (m : PutState) (r0 r : Memo) (t : Trail) (ds : List Event) (a : Result Made AllocFault) → IsHeld m.me r → recovers r ≡ recovers r0 → MayCommand m.me m.key r0 → m.number < 2 ^ 64 → put_part.leaves (put_call_at m Make) r0 r t ds (First a)
          → Follows put_parts put_plan (record m { point = Make }) (First a) r0 r t ds
      making m r0 r t ds (Ok a) held agent may number w = made m r0 r t ds held may number a agent w
      making m r0 r t ds (Err f) held agent may number w = not_stored m r0 r t ds (made_fault f) (unmade m r0 r t ds held may number f w)

      putting : (m : PutState) (r0 rs r : Memo) (tr t : Trail) (es ds : List Event) (a : Result Bool PutFault) → PutKnows (record m { point = Put }) Put r0 rs tr es → put_part.leaves (put_call_at m Put) rs r t ds (Second (First a))
          → Follows put_parts put_plan (record m { point = Put }) (Second (First a)) r0 r (tr ++ t) (es ++ ds)
      putting m r0 rs r tr t es ds (Ok done) h w = put m r0 rs r tr t es ds done h w
      putting m r0 rs r tr t es ds (Err f) h w = let y = not_put m r0 rs r tr t es ds f h w in (y.0, λ z. y.1)

      dropping_root : (m : PutState) (f : Option PutFault) (r0 rs r : Memo) (tr t : Trail) (es ds : List Event) (a : Result Bool EraSpent) → IsPut m.me m.key m.number m.root m.block f r0 rs tr es → put_part.leaves (put_call_at m Drop) rs r t ds (Second (Second a))
          → Follows put_parts put_plan (record m { refused = f; point = Drop }) (Second (Second a)) r0 r (tr ++ t) (es ++ ds)
      dropping_root m None r0 rs r tr t es ds (Ok z) h w = stored m r0 rs r tr t es ds (Ok z) h w
      dropping_root m None r0 rs r tr t es ds (Err e) h w = stored m r0 rs r tr t es ds (Err e) h w
      dropping_root m (Some f) r0 rs r tr t es ds (Ok z) h w = not_stored m r0 r (tr ++ t) (es ++ ds) f (refused m r0 rs r tr t es ds f z h w)
      dropping_root m (Some f) r0 rs r tr t es ds (Err e) h w = not_stored m r0 r (tr ++ t) (es ++ ds) (spent_fault e) (stuck m r0 rs r tr t es ds f e h w)

      leads : (m : PutState) (y : PutPoint) (r0 rs r : Memo) (tr t : Trail) (es ds : List Event) (b : PutAnswer) → IsHeld m.me r → recovers r ≡ recovers rs → PutKnows (record m { point = y }) y r0 rs tr es → put_part.leaves (put_call_at m y) rs r t ds b
          → Follows put_parts put_plan (record m { point = y }) b r0 r (tr ++ t) (es ++ ds)
      leads m Make r0 rs r tr t es ds (First a) held agent (may, number, same, none, quiet) w =
          subst (λ (u : Trail). Follows put_parts put_plan (record m { point = Make }) (First a) r0 r (u ++ t) (es ++ ds)) (sym none)
          (subst (λ (u : List Event). Follows put_parts put_plan (record m { point = Make }) (First a) r0 r t (u ++ ds)) (sym quiet)
          (making m r0 r t ds a held (agent ∙ ap recovers same) may number (subst (λ (x : Memo). put_part.leaves (put_call_at m Make) x r t ds (First a)) same w)))
      leads m Put r0 rs r tr t es ds (Second (First a)) held agent h w = putting m r0 rs r tr t es ds a h w
      leads m Drop r0 rs r tr t es ds (Second (Second a)) held agent (h, still) w = dropping_root m m.refused r0 rs r tr t es ds a h w
      leads m _ r0 rs r tr t es ds _ held agent h w = absurd w
