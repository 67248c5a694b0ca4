-- what is owed of taking an entry out of its chain
use Rattle.std.proofs.Common.{◌≡◌, ◌≢◌, ℕ, zero, suc, ◌+◌, ◌%◌, ◌^◌, ◌<◌, refl, sym, ap, ◌∙◌, subst, arith, Bool, true, false, List, [], ◌∷◌, ◌++◌, append-nil, inl, inr, length}
use Rattle.std.proofs.lemmas.{Bool.{cases_eq, eq-eqb, ne_eqb}, List.Elements.All-nil}
use Rattle.std.specs.{Prelude.{◌==◌, if◌then◌else◌, None, Result, Ok, Err}, List.{All, Contains}}
use Rattle.shm_words.proofs.Placing.{total_small}
use Rattle.shm_words.specs.Layout.{address_limit}
use Rattle.shm_graph.specs.declared.{ask.Me.Me, memo.Memo.Memo, spot.Spot.{Spot, TheVariants.{Body, Home, Root}}}
use Rattle.shm_graph.specs.{Agents.recovers, Asks.{Trail, IsWithin}, Bounds.{change_steps, down_steps, tear_steps}}
use Rattle.shm_graph.specs.{Events.Event, Telling.Entry as AnEntry, Views.own_word}
use Rattle.shm_graph.specs.Events as event
use Rattle.plans.specs.{declared.or.Or.TheVariants.{First, Second}, Proved.{CallTells.within_more, Either.or_part_laws}}
use Rattle.plans.specs.{Either.{or_control, or_part}, Parts.IsHeld, Plans.{PlanLaws, PlanStays, IsCall, Follows}}
use Rattle.plans.specs.Words.{word_control, word_part_laws, WordLeaves}
use Rattle.kind_parts.specs.Reparting.{map_in}
use Rattle.kind_parts.proofs.{Cores.here_same, Reaching.look_reached}
use Rattle.shm_count.specs.declared.answer.{EraSpent.EraSpent as ASpent, UpFault.UpFault}
use Rattle.shm_count.specs.declared.{answer.UpFault.TheVariants.{CountFull, EraSpent}, point.Aim.Aim}
use Rattle.shm_count.specs.{CountParts.tear_part, Proved.{CountParts.tear_part_laws, Lowering.{dies, torn_leaves}}}
use Rattle.shm_count.specs.{Roots.root_word, Slots.{Lost, StepCause, Took, Untouched}}
use Rattle.shm_count.specs.Slots.Parts.{change_slot_laws, change_slot_part, down_slot_laws, down_slot_part}
use Rattle.shm_count.specs.{Step.{Control.{last_era, step_control}, Machines.down_control}, Tear.Control.tear_control}
use Rattle.shm_count.specs.Tear.{Events.{Visit, frees}, TearLeaves}
use Rattle.shm_count.specs.declared.point.Aim.TheVariants as aims
use Rattle.shm_ref.specs.Proved.CountedBlocks.{reached_counted}
use Rattle.shm_table.specs.declared.unlink.UnlinkPoint.{UnlinkPoint, TheVariants.{Look, Lower, Change, Tear}}
use Rattle.shm_table.specs.{declared.unlink.UnlinkState.UnlinkState, EntryReads.EntryReads}
use Rattle.shm_table.specs.Proved.EntryReads.{entry_loads, reference_reads}
use Rattle.shm_table.specs.Proved.EntrySteps.{LinkSteps, link_steps, word_step}
use Rattle.shm_table.specs.Proved.Find.SearchLoads.{entry_latched, look_in}
use Rattle.shm_table.specs.Proved.Staying.{Laws.{keeps_more, keeps_untouched}, Steps.keeps_took}
use Rattle.shm_table.specs.Proved.{ValuesListed.{cause_read, idle_here, keeps_reads, reads_more_by}, Costs.tear_same}
use Rattle.shm_table.specs.{Find.Control.word_ask, Replace.IsTorn, Staying.{Ended, Keeps}}
use Rattle.shm_table.specs.Unlink.Control.{UnlinkAnswer, is_look, step_point, unlink_call_at, unlink_parts}
use Rattle.shm_table.specs.Unlink.{IsFallen, IsSeen, MayBegin, MayUnlink, NotUnlinked, Unlinked, UnlinkCause, UnlinkKnows, link_aim, link_events, look_part, unlink_plan}
use Rattle.shm_table.specs.ValuesListed.{ReadsMore}

-- ---- the next word was read

module _ (me : Me) (b d i n : ℕ) (r0 r : Memo) (begun : MayBegin me b d i r0) (found : EntryReads me b 0 r0 n r) (held : IsHeld me r) (client : recovers r ≡ false) where
  may : MayUnlink me begun.0 b d i r0
  may = begun.1

  reads : ReadsMore r0 r
  reads = reads_more_by b 0 r0 n r found.0

  keeps : Keeps me.who r0 r
  keeps = keeps_reads me.who r0 r may.idle reads

  -- where it names a block, that is an entry in reach
  looks : n ≢ 0 → r.looks ≡ r0.looks ++ record { block = n; from = Body b 0 } ∷ []
  looks = (reference_reads b 0 r0 n r found.0).1

  -- for each key
  steps : (key : ℕ) → MayUnlink me key b d i r0 → LinkSteps me key b d i n r
  steps key h =
      let o = h.found in
      let u = found.1 key o.0 (Body d i) o.1 o.2 o.3 o.4 in
      link_steps me r held h.who (idle_here me.who r keeps.idle) keeps.idle.op client key o.0 d i b o.1 o.2 o.3 u.kept o.5 n u.word
      (λ some. (look_in r0 r b 0 n AnEntry o.4.table (ap (λ (x : Memo). x.part) reads.memo) h.here.0 (looks some)).1)

  any : LinkSteps me begun.0 b d i n r
  any = steps begun.0 may

  next_small : n < address_limit
  next_small = elim (cases_eq n 0) [
    | inl e ↦ omega arith
    | inr some ↦ (let total = total_small me.geometry may.geometry in
        let low = (reached_counted me may.who r n held (look_reached me.who r n (look_in r0 r b 0 n AnEntry may.found.4.table (ap (λ (x : Memo). x.part) reads.memo) may.here.0 (looks some)).1)).0.1 in
        omega arith)
  ]

  seen_of : IsSeen me b d i n r0 r
  seen_of =
      let o = may.found in
      let u = found.1 begun.0 o.0 (Body d i) o.1 o.2 o.3 o.4 in
      let counted = reached_counted me may.who r b held (look_reached me.who r b (u.kept.here may.some).1) in
      record {
        begun = begun;
        reads = reads;
        holds = held;
        inside = counted.0;
        room = counted.1;
        counted = counted.2;
        own = any.own;
        last = λ e. word_step me d i (aims.Down b) r held tt (any.last e);
        goes = λ e. word_step me d i (aims.Change b n) r held tt (any.goes e);
        was = λ key h. let w = (steps key h).was in (w.0, w.1, ap (λ (x : Memo). map_in x.part key) (sym reads.memo) ∙ w.2);
        map = λ key h k. (steps key h).map k ∙ ap (λ (x : Memo). if key == k then None else map_in x.part k) reads.memo;
      }

-- ---- the entry lost the reference

module _ (me : Me) (b d i next : ℕ) (r0 q r : Memo) (seen : IsSeen me b d i next r0 q) (took : Took me.who (Body d i) false b next false q r) where
  was_read : Keeps me.who r0 q
  was_read = keeps_reads me.who r0 q seen.begun.1.idle seen.reads

  roots_same : (j : ℕ) → root_word me.who r j ≡ root_word me.who r0 j
  roots_same j = took.own (Root me.who j) refl ∙ ap (λ (x : Memo). root_word me.who x j) seen.reads.memo

  unlinked : (tr : Trail) (es torn : List Event) (vs : List Visit) → All (λ (x : Visit). Contains r.dying x.block) vs → Ended me.who r0 r → es ≡ link_events me.who b d i next torn → IsTorn me.who b torn vs
      → IsWithin (1 + change_steps me.geometry.wide + tear_steps me.geometry.wide (frees es + length vs)) tr → Unlinked me b d i r0 r tr es
  unlinked tr es torn vs dying ended told walk bound =
      record {
        keeps = keeps_more me.who r0 q r was_read (keeps_took me q r d i b next b false was_read.idle seen.holds seen.begun.1.who seen.own took);
        latch = ap (λ (x : Memo). x.latch) took.rest ∙ ap (λ (x : Memo). x.latch) seen.reads.memo;
        home = took.own (Home me.who) refl ∙ ap (λ (x : Memo). own_word x.own (Home me.who)) seen.reads.memo;
        roots = roots_same;
        map = λ key h k. ap (λ (x : Memo). map_in x.part k) took.rest ∙ seen.map key h k;
        left = vs;
        dying = dying;
        ended = ended;
        events = (next, torn, told, walk);
        bound = bound;
      }

-- the events of the step, where the entry is the last one, and where it isn't
events_last : (c b d i next : ℕ) (es : List Event) → next ≡ 0 → link_events c b d i next es ≡ event.Down c (Body d i) b ∷ es
events_last c b d i next es e = ap (λ n. link_events c b d i n es) e

events_more : (c b d i next : ℕ) (es : List Event) → next ≢ 0 → link_events c b d i next es ≡ event.ChangeUp c (Body d i) b next ∷ event.ChangeDown c b ∷ es
events_more c b d i zero es some = absurd (some refl)
events_more c b d i (suc n) es some = refl

-- and the step itself
aim_last : (b next : ℕ) → next ≡ 0 → aims.Down b ≡ link_aim b next
aim_last b next e = sym (ap (link_aim b) e)

aim_more : (b next : ℕ) → next ≢ 0 → aims.Change b next ≡ link_aim b next
aim_more b zero some = absurd (some refl)
aim_more b (suc n) some = refl

-- no block is freed by it
frees_link : (c b d i next : ℕ) (es : List Event) → frees (link_events c b d i next es) ≡ frees es
frees_link c b d i zero es = omega arith
frees_link c b d i (suc n) es = omega arith

-- ---- what follows each call

-- by whether the block that was read is none
by_next : (n : ℕ) (K : ℕ → UnlinkPoint → Type 0) → n < address_limit → (n ≡ 0 → K n Lower) → (n ≢ 0 → K n Change) → K (n % address_limit) (if n % address_limit == 0 then Lower else Change)
by_next n K low none some =
    let small : n % address_limit ≡ n = omega arith in
    subst (λ z. K z (if z == 0 then Lower else Change)) (sym small)
    (elim (cases_eq n 0) [
      | inl e ↦ subst (λ z. K n (if z then Lower else Change)) (sym (eq-eqb n 0 e)) (none e)
      | inr o ↦ subst (λ z. K n (if z then Lower else Change)) (sym (ne_eqb n 0 o)) (some o)
    ])

module _ (me : Me) (b d i next : ℕ) (r0 rs r : Memo) (tr t : Trail) (es ds : List Event) (held : IsHeld me r) (agent : recovers r ≡ recovers rs) where
  -- ---- the load

  module _ (n : ℕ) (h : MayBegin me b d i r0 × (rs ≡ r0) × (tr ≡ []) × (es ≡ [])) (w : WordLeaves (EntryReads me b 0) (record { me = me; ask = word_ask b 0; over = false }) rs r t ds n) where
    found : EntryReads me b 0 r0 n r
    found = subst (λ (x : Memo). EntryReads me b 0 x n r) h.1 w.found

    client : recovers r ≡ false
    client = agent ∙ (ap recovers h.1 ∙ h.0.1.client)

    look_small : n < address_limit
    look_small = next_small me b d i n r0 r h.0 found held client

    look_seen : IsSeen me b d i n r0 r × (es ++ ds ≡ []) × IsWithin 1 (tr ++ t)
    look_seen = (seen_of me b d i n r0 r h.0 found held client, ap (λ (x : List Event). x ++ ds) h.3 ∙ w.none, (let e = ap length (ap (λ (x : Trail). x ++ t) h.2) in let o = w.one in omega arith))

  -- ---- the step

  module _ (seen : IsSeen me b d i next r0 rs) (quiet : es ≡ []) (bound : IsWithin 1 tr) where
    so_far : ReadsMore r0 rs
    so_far = seen.reads

    none_yet : (xs : List Event) → ds ≡ xs → es ++ ds ≡ xs
    none_yet xs e = ap (λ (x : List Event). x ++ ds) quiet ∙ e

    -- it was refused
    refused : (x : Aim) → x ≡ link_aim b next → 2 ^ 47 < last_era x + 5 → (f : UpFault) → Untouched me.who rs r × StepCause me x rs f × (ds ≡ []) → IsWithin (change_steps me.geometry.wide) t → NotUnlinked me b r0 r (tr ++ t) (es ++ ds) f
    refused x is_step last f (same, cause, none) short =
        let c = me.who in
        let before : Keeps c r0 rs = keeps_reads c r0 rs seen.begun.1.idle so_far in
        record {
          keeps = keeps_more c r0 rs r before (keeps_untouched c rs r before.idle same);
          latch = ap (λ (y : Memo). y.latch) same.rest ∙ ap (λ (y : Memo). y.latch) so_far.memo;
          home = same.own (Home c) refl ∙ ap (λ (y : Memo). own_word y.own (Home c)) so_far.memo;
          cleared = record { roots = λ j. same.own (Root c j) refl ∙ ap (λ (y : Memo). root_word c y j) so_far.memo; dying = ap (λ (y : Memo). y.dying) same.rest ∙ ap (λ (y : Memo). y.dying) so_far.memo };
          map = λ k. ap (λ (y : Memo). map_in y.part k) same.rest ∙ ap (λ (y : Memo). map_in y.part k) so_far.memo;
          cause = by f cause;
          refusal = (next, subst (λ (y : Aim). StepCause me y r0 f) is_step (cause_read me x r0 rs f so_far cause));
          none = none_yet [] none;
          bound = within_more 1 (change_steps me.geometry.wide) tr t bound short;
        }
      where
        by : (f : UpFault) → StepCause me x rs f → UnlinkCause me r f
        by (EraSpent e) (is, late) = (let l = last in omega arith, let u = same.rows me.who in omega arith)
        by (CountFull k n) (full, is, up) = full

    -- the count of the entry came to 0, or it didn't
    fell : Lost me.who (Body d i) false b next true rs r → ds ≡ link_events me.who b d i next [] → IsWithin (change_steps me.geometry.wide) t → IsFallen me b d i next r0 r (tr ++ t) (es ++ ds)
    fell lost told short = record { memo = rs; seen = seen; lost = lost; holds = held; told = none_yet (link_events me.who b d i next []) told; bound = within_more 1 (change_steps me.geometry.wide) tr t bound short }

    lowered : Lost me.who (Body d i) false b next false rs r → ds ≡ link_events me.who b d i next [] → IsWithin (change_steps me.geometry.wide) t → Unlinked me b d i r0 r (tr ++ t) (es ++ ds)
    lowered lost told short =
        let within = within_more 1 (change_steps me.geometry.wide) tr t bound short in
        unlinked me b d i next r0 rs r seen lost.took (tr ++ t) (es ++ ds) [] [] (All-nil (λ (x : Visit). Contains r.dying x.block))
        (inl (record { roots = roots_same me b d i next r0 rs r seen lost.took; dying = lost.dying ∙ (append-nil rs.dying ∙ ap (λ (x : Memo). x.dying) so_far.memo) }))
        (none_yet (link_events me.who b d i next []) told) (inl (refl, refl)) (omega arith)

    -- where it is the last one
    module _ (last : next ≡ 0) where
      no_next : (z : Bool) → Lost me.who (Body d i) false b 0 z rs r → Lost me.who (Body d i) false b next z rs r
      no_next z lost = subst (λ x. Lost me.who (Body d i) false b x z rs r) (sym last) lost

      last_told : ds ≡ event.Down me.who (Body d i) b ∷ [] → ds ≡ link_events me.who b d i next []
      last_told told = told ∙ sym (events_last me.who b d i next [] last)

      last_fell : Lost me.who (Body d i) false b 0 true rs r → ds ≡ event.Down me.who (Body d i) b ∷ [] → IsWithin (down_steps me.geometry.wide) t → IsFallen me b d i next r0 r (tr ++ t) (es ++ ds)
      last_fell lost told short = fell (no_next true lost) (last_told told) (omega arith)

      last_lowered : Lost me.who (Body d i) false b 0 false rs r → ds ≡ event.Down me.who (Body d i) b ∷ [] → IsWithin (down_steps me.geometry.wide) t → Unlinked me b d i r0 r (tr ++ t) (es ++ ds)
      last_lowered lost told short = lowered (no_next false lost) (last_told told) (omega arith)

      last_refused : (e : ℕ) → Untouched me.who rs r × StepCause me (aims.Down b) rs (EraSpent e) × (ds ≡ []) → IsWithin (down_steps me.geometry.wide) t → NotUnlinked me b r0 r (tr ++ t) (es ++ ds) (EraSpent e)
      last_refused e did short = refused (aims.Down b) (aim_last b next last) (omega arith) (EraSpent e) did (omega arith)

    -- or there is a next one
    module _ (more : next ≢ 0) where
      more_told : ds ≡ event.ChangeUp me.who (Body d i) b next ∷ event.ChangeDown me.who b ∷ [] → ds ≡ link_events me.who b d i next []
      more_told told = told ∙ sym (events_more me.who b d i next [] more)

      more_refused : (f : UpFault) → Untouched me.who rs r × StepCause me (aims.Change b next) rs f × (ds ≡ []) → IsWithin (change_steps me.geometry.wide) t → NotUnlinked me b r0 r (tr ++ t) (es ++ ds) f
      more_refused f did short = refused (aims.Change b next) (aim_more b next more) (omega arith) f did short

  -- ---- the tear-down

  torn : (a : Result (Unit {0}) ASpent) → IsFallen me b d i next r0 rs tr es → TearLeaves me b rs r ds t a → Unlinked me b d i r0 r (tr ++ t) (es ++ ds)
  torn a h left = go a left
    where
      seen : IsSeen me b d i next r0 h.memo
      seen = h.seen

      told : es ++ ds ≡ link_events me.who b d i next ds
      told = ap (λ (x : List Event). x ++ ds) h.told ∙ link_more next
        where
          link_more : (n : ℕ) → link_events me.who b d i n [] ++ ds ≡ link_events me.who b d i n ds
          link_more zero = refl
          link_more (suc n) = refl

      same_frees : frees (es ++ ds) ≡ frees ds
      same_frees = ap frees told ∙ frees_link me.who b d i next ds

      go : (a : Result (Unit {0}) ASpent) → TearLeaves me b rs r ds t a → Unlinked me b d i r0 r (tr ++ t) (es ++ ds)
      go (Ok done) y =
          let f = same_frees in
          let torn = tear_same me.geometry.wide (frees (es ++ ds) + 0) (frees ds) (omega arith) in
          let within = within_more (1 + change_steps me.geometry.wide) (tear_steps me.geometry.wide (frees ds)) tr t h.bound y.bound in
          let lost = torn_leaves me (Body d i) false b next h.memo rs r seen.begun.1.who h.holds h.lost seen.counted ds t (Ok done) y in
          unlinked me b d i next r0 h.memo r seen lost.took (tr ++ t) (es ++ ds) ds [] (All-nil (λ (x : Visit). Contains r.dying x.block))
          (inl (record { roots = roots_same me b d i next r0 h.memo r seen lost.took; dying = lost.dying ∙ (append-nil h.memo.dying ∙ ap (λ (x : Memo). x.dying) seen.reads.memo) }))
          told (inr y.walks) (omega arith)
      go (Err e) (vs, y) =
          let f = same_frees in
          let torn = tear_same me.geometry.wide (frees (es ++ ds) + length vs) (frees ds + length vs) (omega arith) in
          let within = within_more (1 + change_steps me.geometry.wide) (tear_steps me.geometry.wide (frees ds + length vs)) tr t h.bound y.bound in
          let took = (torn_leaves me (Body d i) false b next h.memo rs r seen.begun.1.who h.holds h.lost seen.counted ds t (Err e) (vs, y)).0 in
          let late = y.last in
          let is = y.spent in
          unlinked me b d i next r0 h.memo r seen took (tr ++ t) (es ++ ds) ds vs y.left (inr (e.era, (omega arith, omega arith))) told (inr y.walks) (omega arith)

-- ---- the plan

pub unlink_laws : PlanLaws unlink_parts unlink_plan
unlink_laws =
    record {
      stays = λ m. stays m m.point;
      calls = λ m. calls m m.point;
      parts = λ m. let first = is_look m.point in
          let p : Spot = Body m.before m.word in
          or_part_laws first word_control (or_control down_control (or_control step_control tear_control)) (look_part m m.point) (or_part (down_slot_part p false) (or_part (change_slot_part p false) tear_part)) (word_part_laws first m.me (word_ask m.entry 0) (EntryReads m.me m.entry 0))
          (or_part_laws first down_control (or_control step_control tear_control) (down_slot_part p false) (or_part (change_slot_part p false) tear_part) (down_slot_laws p false first)
          (or_part_laws first step_control tear_control (change_slot_part p false) tear_part (change_slot_laws p false first) (tear_part_laws first)));
      opens = λ m. opens m m.point;
      leads = λ m r0 rs r tr t es ds a h g held same. leads m m.point r0 rs r tr t es ds a h g held same;
    }
  where
    -- where it goes after the load isn't back to it
    not_look : (n : ℕ) → is_look (step_point n) ≡ false
    not_look n = choose (n == 0)
      where
        choose : (z : Bool) → is_look (if z then Lower else Change) ≡ false
        choose true = refl
        choose false = refl

    stays : (m : UnlinkState) (y : UnlinkPoint) (a : UnlinkAnswer) → PlanStays unlink_parts unlink_plan (record m { point = y }) a
    stays m y (First n) = record { same_me = refl; same_line = refl; same_start = refl; started = λ e. not_look (n % address_limit) }
    stays m y (Second (First (Ok true))) = record { same_me = refl; same_line = refl; same_start = refl; started = λ e. refl }
    stays m y (Second (Second (First (Ok true)))) = record { same_me = refl; same_line = refl; same_start = refl; started = λ e. refl }
    stays m y (Second _) = record { same_me = refl; same_line = refl; same_start = refl; started = λ e. absurd (cc) }

    calls : (m : UnlinkState) (y : UnlinkPoint) → IsCall unlink_parts unlink_plan (record m { point = y })
    calls m Look = record { me = refl; asks = refl }
    calls m _ = record { me = refl; asks = refl }

    opens : (m : UnlinkState) (y : UnlinkPoint) (r0 r : Memo) (tr : Trail) (es : List Event) → UnlinkKnows (record m { point = y }) y r0 r tr es → (unlink_plan.part (record m { point = y })).needs (unlink_call_at m y) r
    opens m Look r0 r tr es (begun, same, none, quiet) =
        let may : MayUnlink m.me begun.0 m.entry m.before m.word r = subst (MayUnlink m.me begun.0 m.entry m.before m.word) (sym same) begun.1 in
        let room = may.room in
        entry_loads m.me r may.who may.idle.op m.entry true 0 (omega arith) (omega arith, omega arith) (entry_latched m.me.geometry.wide m.me.who m.me.who r m.entry 0 may.found.4.latch may.here (omega arith))
    opens m Lower r0 r tr es (last, seen, none, bound) = (refl, seen.last last)
    opens m Change r0 r tr es (more, seen, none, bound) = (refl, seen.goes more)
    opens m Tear r0 r tr es h =
        let seen = h.seen in
        let may = seen.begun.1 in
        let keeps = keeps_reads m.me.who r0 h.memo may.idle seen.reads in
        record {
          made = refl;
          can = record {
            geometry = may.geometry;
            who = may.who;
            here = here_same h.memo r (ap (λ (x : Memo). x.status) h.lost.took.rest) (idle_here m.me.who h.memo keeps.idle);
            idle = h.lost.took.op;
            inside = seen.inside;
            room = seen.room;
            dying = dies m.me (Body m.before m.word) false m.entry m.next h.memo r r may.who h.holds h.lost;
          };
        }

    -- each call leads on
    leads : (m : UnlinkState) (y : UnlinkPoint) (r0 rs r : Memo) (tr t : Trail) (es ds : List Event) (a : UnlinkAnswer) → UnlinkKnows (record m { point = y }) y r0 rs tr es → (unlink_plan.part (record m { point = y })).leaves (unlink_call_at m y) rs r t ds a → IsHeld m.me r → recovers r ≡ recovers rs
        → Follows unlink_parts unlink_plan (record m { point = y }) a r0 r (tr ++ t) (es ++ ds)
    leads m Look r0 rs r tr t es ds (First n) h g held agent =
        let seen = look_seen m.me m.entry m.before m.word m.next r0 rs r tr t es ds held agent n h g in
        by_next n (λ z y. UnlinkKnows (record m { next = z; point = y }) y r0 r (tr ++ t) (es ++ ds)) (look_small m.me m.entry m.before m.word m.next r0 rs r tr t es ds held agent n h g) (λ e. (e, seen.0, seen.1, seen.2)) (λ o. (o, seen.0, seen.1, seen.2))
    leads m Lower r0 rs r tr t es ds (Second (First (Ok true))) (last, seen, quiet, bound) g held agent = last_fell m.me m.entry m.before m.word m.next r0 rs r tr t es ds held agent seen quiet bound last g.did.0 g.did.1 g.bound
    leads m Lower r0 rs r tr t es ds (Second (First (Ok false))) (last, seen, quiet, bound) g held agent = last_lowered m.me m.entry m.before m.word m.next r0 rs r tr t es ds held agent seen quiet bound last g.did.0 g.did.1 g.bound
    leads m Lower r0 rs r tr t es ds (Second (First (Err e))) (last, seen, quiet, bound) g held agent = last_refused m.me m.entry m.before m.word m.next r0 rs r tr t es ds held agent seen quiet bound last e.era g.did g.bound
    leads m Change r0 rs r tr t es ds (Second (Second (First (Ok true)))) (more, seen, quiet, bound) g held agent =
        fell m.me m.entry m.before m.word m.next r0 rs r tr t es ds held agent seen quiet bound g.did.0 (more_told m.me m.entry m.before m.word m.next r0 rs r tr t es ds held agent seen quiet bound more g.did.1) g.bound
    leads m Change r0 rs r tr t es ds (Second (Second (First (Ok false)))) (more, seen, quiet, bound) g held agent =
        lowered m.me m.entry m.before m.word m.next r0 rs r tr t es ds held agent seen quiet bound g.did.0 (more_told m.me m.entry m.before m.word m.next r0 rs r tr t es ds held agent seen quiet bound more g.did.1) g.bound
    leads m Change r0 rs r tr t es ds (Second (Second (First (Err f)))) (more, seen, quiet, bound) g held agent = more_refused m.me m.entry m.before m.word m.next r0 rs r tr t es ds held agent seen quiet bound more f g.did g.bound
    leads m Tear r0 rs r tr t es ds (Second (Second (Second a))) h g held agent = torn m.me m.entry m.before m.word m.next r0 rs r tr t es ds held agent a h g
    leads m _ r0 rs r tr t es ds _ h g held agent = absurd g
