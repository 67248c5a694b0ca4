-- what is owed of giving an entry another value block
use Rattle.std.proofs.Common.{◌≡◌, ◌≢◌, ℕ, ◌+◌, ◌%◌, ◌<◌, ◌≤◌, refl, sym, ap, ◌∙◌, subst, arith, Bool, true, false, List, [], ◌++◌, append-nil, inl, inr, length}
use Rattle.std.proofs.lemmas.{Bool.{cases_eq, eq-eqb, ne_eqb, true≢false}, List.Elements.All-nil}
use Rattle.std.specs.{Prelude.{◌==◌, if◌then◌else◌, Some, None, Result, Ok, Err}, List.{All, Contains}}
use Rattle.shm_words.proofs.Placing.{total_small}
use Rattle.shm_words.specs.Layout.{total_of, address_limit}
use Rattle.shm_graph.specs.declared.{ask.Me.Me, memo.Memo.Memo, spot.Spot.{Spot, TheVariants.{Body, Home, Root}}}
use Rattle.shm_graph.specs.{Agents.recovers, Asks.{Trail, IsWithin}, Bounds.{change_steps, tear_steps}, Events.Event}
use Rattle.shm_graph.specs.{Laws.Outcome, Telling.Entry as AnEntry, Views.own_word}
use Rattle.plans.specs.{declared.or.Or.TheVariants.{First, Second}, Proved.{CallTells.within_more, Either.or_part_laws}}
use Rattle.plans.specs.{Either.{or_control, or_part}, Parts.IsHeld, Plans.{PlanLaws, PlanStays, IsCall, Follows}}
use Rattle.plans.specs.Words.{word_control, word_part_laws, WordLeaves}
use Rattle.kind_parts.specs.Reparting.{sight, map_in, IsValue}
use Rattle.kind_parts.proofs.{Cores.here_same, Reaching.{look_reached, root_reached}}
use Rattle.shm_count.specs.{declared.answer.{EraSpent.EraSpent as ASpent, UpFault.UpFault}, CountParts.tear_part}
use Rattle.shm_count.specs.{Proved.{CountParts.tear_part_laws, Lowering.{dies, torn_leaves}}, Roots.root_word}
use Rattle.shm_count.specs.Slots.{Lost, StepCause, Took, Untouched, Parts.{change_slot_laws, change_slot_part}}
use Rattle.shm_count.specs.{Step.Control.{IsInside, step_control}, Tear.{Control.tear_control, Events.{Visit, frees}}}
use Rattle.shm_count.specs.Tear.{TearLeaves}
use Rattle.shm_count.specs.declared.point.Aim.TheVariants as aims
use Rattle.shm_ref.specs.Proved.CountedBlocks.{reached_counted}
use Rattle.shm_table.specs.declared.{answer.PutFault.PutFault, replace.ReplacePoint.ReplacePoint}
use Rattle.shm_table.specs.declared.replace.{ReplacePoint.TheVariants.{Look, Change, Tear}, ReplaceState.ReplaceState}
use Rattle.shm_table.specs.{Answers.raised_fault, EntryReads.EntryReads}
use Rattle.shm_table.specs.Proved.EntryReads.{entry_loads, reference_reads}
use Rattle.shm_table.specs.Proved.EntrySteps.{ValueSteps, value_steps, word_step}
use Rattle.shm_table.specs.Proved.Find.SearchLoads.{entry_latched, look_in}
use Rattle.shm_table.specs.Proved.Staying.{Laws.{keeps_more, keeps_untouched, raised_cause, same_map}, Steps.keeps_took}
use Rattle.shm_table.specs.Proved.{ValuesListed.{cause_read, idle_here, keeps_reads, reads_more_by}, Costs.tear_same}
use Rattle.shm_table.specs.Find.Control.{word_ask}
use Rattle.shm_table.specs.Replace.Control.{ReplaceAnswer, is_look, replace_call_at, replace_parts, replacing}
use Rattle.shm_table.specs.Replace.{IsFallen, IsSeen, IsTorn, MayBegin, MayReplace, NotReplaced, Replaced, ReplaceKnows, ReplaceLeaves, changed_events, look_part, replace_plan}
use Rattle.shm_table.specs.{Staying.{Ended, Keeps, SameMap}, ValuesListed.ReadsMore}

-- ---- the value word was read

module _ (me : Me) (b v n : ℕ) (r0 r : Memo) (begun : MayBegin me b v r0) (found : EntryReads me b 1 r0 n r) (held : IsHeld me r) (client : recovers r ≡ false) where
  may : MayReplace me begun.0 v begun.1 b begun.2 begun.3 r0
  may = begun.4

  reads : ReadsMore r0 r
  reads = reads_more_by b 1 r0 n r found.0

  keeps : Keeps me.who r0 r
  keeps = keeps_reads me.who r0 r may.idle reads

  part : r.part ≡ r0.part
  part = ap (λ (x : Memo). x.part) reads.memo

  -- for each key
  steps : (key k d i : ℕ) → MayReplace me key v k b d i r0 → ValueSteps me key b n r
  steps key k d i h =
      let o = h.found in
      let u = found.1 key o.0 (Body d i) o.1 o.2 o.3 o.4 in
      value_steps me r held h.who (idle_here me.who r keeps.idle) keeps.idle.op client key o.0 d i b o.1 o.2 o.3 u.kept o.5 n u.word

  number : (key k d i : ℕ) → MayReplace me key v k b d i r0 → IsValue (sight me.who r) v k
  number key k d i h = record { value = reads.listed v h.value.value; word = reads.known (record { spot = Body v 0; value = k }) h.value.word }

  any : ValueSteps me begun.0 b n r
  any = steps begun.0 begun.1 begun.2 begun.3 may

  -- it names a counted block
  counted : IsInside me n × (n + 2 ≤ total_of me.geometry) × (Contains r.dying n → ⊥)
  counted =
      let looks = (reference_reads b 1 r0 n r found.0).1 any.some in
      reached_counted me may.who r n held (look_reached me.who r n (look_in r0 r b 1 n AnEntry may.found.4.table part may.here.0 looks).1)

  -- another one than it is to have
  seen_of : n ≢ v → IsSeen me b v n r0 r
  seen_of other =
      let reach = root_reached me.who r v may.named.0 may.named.1 keeps.idle.op (ap (λ (x : Memo). root_word me.who x may.named.0) reads.memo ∙ may.named.2) may.block in
      record {
        begun = begun;
        reads = reads;
        holds = held;
        other = other;
        inside = counted.0;
        room = counted.1;
        counted = counted.2;
        own = any.own;
        step = word_step me b 1 (aims.Change n v) r held tt (any.can v begun.1 other (number begun.0 begun.1 begun.2 begun.3 may) reach);
        was = λ key k d i h. let u = (steps key k d i h).was in (u.0, ap (λ (x : Memo). map_in x.part key) (sym reads.memo) ∙ u.1);
        map = λ key k d i h j. (steps key k d i h).map v k other (number key k d i h) j ∙ ap (λ (o : Memo). if key == j then Some (k, v) else map_in o.part j) reads.memo;
      }

  -- or that one
  kept : n ≡ v → (tr : Trail) (es : List Event) → es ≡ [] → IsWithin 1 tr → Replaced me v b r0 r tr es
  kept is tr es none bound =
      record {
        keeps = keeps;
        latch = ap (λ (x : Memo). x.latch) reads.memo;
        home = ap (λ (x : Memo). own_word x.own (Home me.who)) reads.memo;
        roots = λ j. ap (λ (x : Memo). root_word me.who x j) reads.memo;
        map = λ key k d i h j. ap (λ (x : Memo). map_in x.part j) reads.memo ∙ set_so key k j (ap (λ (x : Memo). map_in x.part key) (sym reads.memo) ∙ (steps key k d i h).same v k is (number key k d i h));
        left = [];
        dying = All-nil (λ (x : Visit). Contains r.dying x.block);
        ended = inl (record { roots = λ j. ap (λ (x : Memo). root_word me.who x j) reads.memo; dying = ap (λ (x : Memo). x.dying) reads.memo });
        events = inl (none, refl, λ key k d i h. ap (λ (x : Memo). map_in x.part key) (sym reads.memo) ∙ (steps key k d i h).same v k is (number key k d i h));
        bound = omega arith;
      }
    where
      set_so : (key k j : ℕ) → map_in r0.part key ≡ Some (k, v) → map_in r0.part j ≡ (if key == j then Some (k, v) else map_in r0.part j)
      set_so key k j e = elim (cases_eq key j) [
        | inl y ↦ subst (λ z. map_in r0.part j ≡ (if z then Some (k, v) else map_in r0.part j)) (sym (eq-eqb key j y)) (subst (λ i. map_in r0.part i ≡ Some (k, v)) y e)
        | inr y ↦ subst (λ z. map_in r0.part j ≡ (if z then Some (k, v) else map_in r0.part j)) (sym (ne_eqb key j y)) refl
      ]

-- ---- the old block lost the reference

module _ (me : Me) (b v old : ℕ) (r0 q r : Memo) (seen : IsSeen me b v old r0 q) (took : Took me.who (Body b 1) false old v false q r) where
  begun_may : MayReplace me seen.begun.0 v seen.begun.1 b seen.begun.2 seen.begun.3 r0
  begun_may = seen.begun.4

  was_read : Keeps me.who r0 q
  was_read = keeps_reads me.who r0 q begun_may.idle seen.reads

  roots_same : (j : ℕ) → root_word me.who r j ≡ root_word me.who r0 j
  roots_same j = took.own (Root me.who j) refl ∙ ap (λ (x : Memo). root_word me.who x j) seen.reads.memo

  replaced : (tr : Trail) (es torn : List Event) (vs : List Visit) → All (λ (x : Visit). Contains r.dying x.block) vs → Ended me.who r0 r → es ≡ changed_events me.who b old v torn → IsTorn me.who old torn vs
      → IsWithin (1 + change_steps me.geometry.wide + tear_steps me.geometry.wide (frees es + length vs)) tr → Replaced me v b r0 r tr es
  replaced tr es torn vs dying ended told walk bound =
      record {
        keeps = keeps_more me.who r0 q r was_read (keeps_took me q r b 1 old v old false was_read.idle seen.holds begun_may.who seen.own took);
        latch = ap (λ (x : Memo). x.latch) took.rest ∙ ap (λ (x : Memo). x.latch) seen.reads.memo;
        home = took.own (Home me.who) refl ∙ ap (λ (x : Memo). own_word x.own (Home me.who)) seen.reads.memo;
        roots = roots_same;
        map = λ key k d i h j. ap (λ (x : Memo). map_in x.part j) took.rest ∙ seen.map key k d i h j;
        left = vs;
        dying = dying;
        ended = ended;
        events = inr (old, torn, seen.other, seen.was, told, walk);
        bound = bound;
      }

-- ---- what follows each call

-- by whether the block that was read is the one
by_target : (n to : ℕ) (A : Type 0) (a : A) (K : ℕ → Type 0) (L : A → Type 0) → n < address_limit → (n ≢ to → K n) → (n ≡ to → L a) → Outcome (if n % address_limit == to then Some a else None) (K (n % address_limit)) L
by_target n to A a K L low other same =
    let small : n % address_limit ≡ n = omega arith in
    subst (λ z. Outcome (if z == to then Some a else None) (K z) L) (sym small)
    (elim (cases_eq n to) [
      | inl e ↦ subst (λ z. Outcome (if z then Some a else None) (K n) L) (sym (eq-eqb n to e)) (same e)
      | inr o ↦ subst (λ z. Outcome (if z then Some a else None) (K n) L) (sym (ne_eqb n to o)) (other o)
    ])

module _ (me : Me) (b v old : ℕ) (r0 rs r : Memo) (tr t : Trail) (es ds : List Event) (held : IsHeld me r) (agent : recovers r ≡ recovers rs) where
  -- ---- the load

  module _ (n : ℕ) (h : MayBegin me b v r0 × (rs ≡ r0) × (tr ≡ []) × (es ≡ [])) (w : WordLeaves (EntryReads me b 1) (record { me = me; ask = word_ask b 1; over = false }) rs r t ds n) where
    found : EntryReads me b 1 r0 n r
    found = subst (λ (x : Memo). EntryReads me b 1 x n r) h.1 w.found

    client : recovers r ≡ false
    client = agent ∙ (ap recovers h.1 ∙ h.0.4.client)

    silent : es ++ ds ≡ []
    silent = ap (λ (x : List Event). x ++ ds) h.3 ∙ w.none

    one : IsWithin 1 (tr ++ t)
    one = let e = ap length (ap (λ (x : Trail). x ++ t) h.2) in let o = w.one in omega arith

    look_small : n < address_limit
    look_small = let total = total_small me.geometry h.0.4.geometry in let low = (counted me b v n r0 r h.0 found held client).0.1 in omega arith

    look_other : n ≢ v → IsSeen me b v n r0 r × (es ++ ds ≡ []) × IsWithin 1 (tr ++ t)
    look_other other = (seen_of me b v n r0 r h.0 found held client other, silent, one)

    look_same : n ≡ v → Replaced me v b r0 r (tr ++ t) (es ++ ds) × (false ≡ false → SameMap r0 r)
    look_same e = (kept me b v n r0 r h.0 found held client e (tr ++ t) (es ++ ds) silent one, λ z. same_map r0 r (part me b v n r0 r h.0 found held client))

  -- ---- the change

  module _ (seen : IsSeen me b v old r0 rs) (quiet : es ≡ []) (bound : IsWithin 1 tr) where
    so_far : ReadsMore r0 rs
    so_far = seen.reads

    none_yet : (xs : List Event) → ds ≡ xs → es ++ ds ≡ xs
    none_yet xs e = ap (λ (x : List Event). x ++ ds) quiet ∙ e

    -- it was refused
    refused : (f : UpFault) → Untouched me.who rs r × StepCause me (aims.Change old v) rs f × (ds ≡ []) → IsWithin (change_steps me.geometry.wide) t → NotReplaced me v r0 r (tr ++ t) (es ++ ds) (raised_fault f)
    refused f (same, cause, none) short =
        let c = me.who in
        let before : Keeps c r0 rs = keeps_reads c r0 rs seen.begun.4.idle so_far in
        record {
          keeps = keeps_more c r0 rs r before (keeps_untouched c rs r before.idle same);
          latch = ap (λ (x : Memo). x.latch) same.rest ∙ ap (λ (x : Memo). x.latch) so_far.memo;
          home = same.own (Home c) refl ∙ ap (λ (x : Memo). own_word x.own (Home c)) so_far.memo;
          cleared = record { roots = λ j. same.own (Root c j) refl ∙ ap (λ (x : Memo). root_word c x j) so_far.memo; dying = ap (λ (x : Memo). x.dying) same.rest ∙ ap (λ (x : Memo). x.dying) so_far.memo };
          map = λ k. ap (λ (x : Memo). map_in x.part k) same.rest ∙ ap (λ (x : Memo). map_in x.part k) so_far.memo;
          cause = raised_cause me (aims.Change old v) r0 rs r f same cause;
          refusal = (old, f, refl, cause_read me (aims.Change old v) r0 rs f so_far cause);
          none = none_yet [] none;
          bound = within_more 1 (change_steps me.geometry.wide) tr t bound short;
        }

    -- the count of the old block came to 0, or it didn't
    fell : Lost me.who (Body b 1) false old v true rs r → ds ≡ changed_events me.who b old v [] → IsWithin (change_steps me.geometry.wide) t → IsFallen me b v old r0 r (tr ++ t) (es ++ ds)
    fell lost told short = record { memo = rs; seen = seen; lost = lost; holds = held; told = none_yet (changed_events me.who b old v []) told; bound = within_more 1 (change_steps me.geometry.wide) tr t bound short }

    lowered : Lost me.who (Body b 1) false old v false rs r → ds ≡ changed_events me.who b old v [] → IsWithin (change_steps me.geometry.wide) t → Replaced me v b r0 r (tr ++ t) (es ++ ds)
    lowered lost told short =
        let within = within_more 1 (change_steps me.geometry.wide) tr t bound short in
        replaced me b v old r0 rs r seen lost.took (tr ++ t) (es ++ ds) [] [] (All-nil (λ (x : Visit). Contains r.dying x.block))
        (inl (record { roots = roots_same me b v old r0 rs r seen lost.took; dying = lost.dying ∙ (append-nil rs.dying ∙ ap (λ (x : Memo). x.dying) so_far.memo) }))
        (none_yet (changed_events me.who b old v []) told) (inl (refl, refl)) (omega arith)

  -- ---- the tear-down

  torn : (a : Result (Unit {0}) ASpent) → IsFallen me b v old r0 rs tr es → TearLeaves me old rs r ds t a → Replaced me v b r0 r (tr ++ t) (es ++ ds)
  torn a h left = go a left
    where
      seen : IsSeen me b v old r0 h.memo
      seen = h.seen

      told : es ++ ds ≡ changed_events me.who b old v ds
      told = ap (λ (x : List Event). x ++ ds) h.told

      same_frees : frees (es ++ ds) ≡ frees ds
      same_frees = ap frees told ∙ omega arith

      go : (a : Result (Unit {0}) ASpent) → TearLeaves me old rs r ds t a → Replaced me v b r0 r (tr ++ t) (es ++ ds)
      go (Ok done) y =
          let f = same_frees in
          let torn = tear_same me.geometry.wide (frees (es ++ ds) + 0) (frees ds) (omega arith) in
          let within = within_more (1 + change_steps me.geometry.wide) (tear_steps me.geometry.wide (frees ds)) tr t h.bound y.bound in
          let lost = torn_leaves me (Body b 1) false old v h.memo rs r seen.begun.4.who h.holds h.lost seen.counted ds t (Ok done) y in
          replaced me b v old r0 h.memo r seen lost.took (tr ++ t) (es ++ ds) ds [] (All-nil (λ (x : Visit). Contains r.dying x.block))
          (inl (record { roots = roots_same me b v old r0 h.memo r seen lost.took; dying = lost.dying ∙ (append-nil h.memo.dying ∙ ap (λ (x : Memo). x.dying) seen.reads.memo) }))
          told (inr y.walks) (omega arith)
      go (Err e) (vs, y) =
          let f = same_frees in
          let torn = tear_same me.geometry.wide (frees (es ++ ds) + length vs) (frees ds + length vs) (omega arith) in
          let within = within_more (1 + change_steps me.geometry.wide) (tear_steps me.geometry.wide (frees ds + length vs)) tr t h.bound y.bound in
          let took = (torn_leaves me (Body b 1) false old v h.memo rs r seen.begun.4.who h.holds h.lost seen.counted ds t (Err e) (vs, y)).0 in
          let late = y.last in
          let is = y.spent in
          replaced me b v old r0 h.memo r seen took (tr ++ t) (es ++ ds) ds vs y.left (inr (e.era, (omega arith, omega arith))) told (inr y.walks) (omega arith)

-- ---- the plan

pub replace_laws : PlanLaws replace_parts replace_plan
replace_laws =
    record {
      stays = λ m. stays m m.point;
      calls = λ m. calls m m.point;
      parts = λ m. let first = is_look m.point in
          let p : Spot = Body m.entry 1 in
          or_part_laws first word_control (or_control step_control tear_control) (look_part m m.point) (or_part (change_slot_part p false) tear_part) (word_part_laws first m.me (word_ask m.entry 1) (EntryReads m.me m.entry 1))
          (or_part_laws first step_control tear_control (change_slot_part p false) tear_part (change_slot_laws p false first) (tear_part_laws first));
      opens = λ m. opens m m.point;
      leads = λ m r0 rs r tr t es ds a h g held same. leads m m.point r0 rs r tr t es ds a h g held same;
    }
  where
    stays : (m : ReplaceState) (y : ReplacePoint) (a : ReplaceAnswer) → PlanStays replace_parts replace_plan (record m { point = y }) a
    stays m y (First n) = record { same_me = refl; same_line = refl; same_start = refl; started = λ e. refl }
    stays m y (Second (First (Ok true))) = record { same_me = refl; same_line = refl; same_start = refl; started = λ e. refl }
    stays m y (Second _) = record { same_me = refl; same_line = refl; same_start = refl; started = λ e. absurd (cc) }

    calls : (m : ReplaceState) (y : ReplacePoint) → IsCall replace_parts replace_plan (record m { point = y })
    calls m Look = record { me = refl; asks = refl }
    calls m _ = record { me = refl; asks = refl }

    opens : (m : ReplaceState) (y : ReplacePoint) (r0 r : Memo) (tr : Trail) (es : List Event) → ReplaceKnows (record m { point = y }) y r0 r tr es → (replace_plan.part (record m { point = y })).needs (replace_call_at m y) r
    opens m Look r0 r tr es (begun, same, none, quiet) =
        let may : MayReplace m.me begun.0 m.to begun.1 m.entry begun.2 begun.3 r = subst (MayReplace m.me begun.0 m.to begun.1 m.entry begun.2 begun.3) (sym same) begun.4 in
        let room = may.room in
        entry_loads m.me r may.who may.idle.op m.entry true 1 (omega arith) (omega arith, omega arith) (entry_latched m.me.geometry.wide m.me.who m.me.who r m.entry 1 may.found.4.latch may.here (omega arith))
    opens m Change r0 r tr es (seen, none, bound) = (refl, seen.step)
    opens m Tear r0 r tr es h =
        let seen = h.seen in
        let may = seen.begun.4 in
        let keeps = keeps_reads m.me.who r0 h.memo may.idle seen.reads in
        record {
          made = refl;
          can = record {
            geometry = may.geometry;
            who = may.who;
            here = here_same h.memo r (ap (λ (x : Memo). x.status) h.lost.took.rest) (idle_here m.me.who h.memo keeps.idle);
            idle = h.lost.took.op;
            inside = seen.inside;
            room = seen.room;
            dying = dies m.me (Body m.entry 1) false m.before m.to h.memo r r may.who h.holds h.lost;
          };
        }

    -- each call leads on
    leads : (m : ReplaceState) (y : ReplacePoint) (r0 rs r : Memo) (tr t : Trail) (es ds : List Event) (a : ReplaceAnswer) → ReplaceKnows (record m { point = y }) y r0 rs tr es → (replace_plan.part (record m { point = y })).leaves (replace_call_at m y) rs r t ds a → IsHeld m.me r → recovers r ≡ recovers rs
        → Follows replace_parts replace_plan (record m { point = y }) a r0 r (tr ++ t) (es ++ ds)
    leads m Look r0 rs r tr t es ds (First n) h g held agent =
        by_target n m.to (Result Bool PutFault) (Ok false) (λ z. ReplaceKnows (record m { before = z; point = Change }) Change r0 r (tr ++ t) (es ++ ds)) (ReplaceLeaves (replacing m.me m.entry m.to) r0 r (tr ++ t) (es ++ ds))
        (look_small m.me m.entry m.to m.before r0 rs r tr t es ds held agent n h g)
        (look_other m.me m.entry m.to m.before r0 rs r tr t es ds held agent n h g)
        (look_same m.me m.entry m.to m.before r0 rs r tr t es ds held agent n h g)
    leads m Change r0 rs r tr t es ds (Second (First (Ok true))) (seen, quiet, bound) g held agent = fell m.me m.entry m.to m.before r0 rs r tr t es ds held agent seen quiet bound g.did.0 g.did.1 g.bound
    leads m Change r0 rs r tr t es ds (Second (First (Ok false))) (seen, quiet, bound) g held agent = (lowered m.me m.entry m.to m.before r0 rs r tr t es ds held agent seen quiet bound g.did.0 g.did.1 g.bound, λ z. absurd (true≢false z))
    leads m Change r0 rs r tr t es ds (Second (First (Err f))) (seen, quiet, bound) g held agent = refused m.me m.entry m.to m.before r0 rs r tr t es ds held agent seen quiet bound f g.did g.bound
    leads m Tear r0 rs r tr t es ds (Second (Second a)) h g held agent = (torn m.me m.entry m.to m.before r0 rs r tr t es ds held agent a h g, λ z. absurd (true≢false z))
    leads m _ r0 rs r tr t es ds _ h g held agent = absurd g
