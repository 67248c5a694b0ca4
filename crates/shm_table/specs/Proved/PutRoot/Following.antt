-- putting a value block into the own table: what each call leads to
use Rattle.std.proofs.Common.{◌≡◌, ◌≢◌, ℕ, zero, suc, ◌+◌, ◌*◌, ◌%◌, ◌≤◌, refl, sym, ap, ◌∙◌, subst, arith, Bool, append-nil, List, [], ◌∷◌, ◌++◌, Option, Some, None, inl, inr, ◌⊎◌}
use Rattle.std.proofs.lemmas.{Bool.true≢false, List.Elements.All-nil}
use Rattle.std.specs.{Prelude.{Result, Ok, Err, IfSome, length}, List.{All, Contains}}
use Rattle.shm_graph.specs.{declared.{memo.Memo.Memo, spot.Spot.TheVariants.{Body, Home}}, Agents.recovers}
use Rattle.shm_graph.specs.{Asks.{Trail, IsWithin}, Bounds.{alloc_steps, change_steps, tear_steps, redo_steps}}
use Rattle.shm_graph.specs.{Events.Event, Views.own_word}
use Rattle.shm_graph.specs.declared.spot.Spot.TheVariants as spot
use Rattle.shm_graph.specs.Events as event
use Rattle.kind_parts.specs.Reparting.{sight, IsValue}
use Rattle.plans.specs.{declared.or.Or.TheVariants.{First, Second}, Proved.CallTells.within_more, Parts.IsHeld}
use Rattle.plans.specs.Plans.{Follows}
use Rattle.shm_count.specs.{declared.answer.EraSpent.EraSpent, Roots.root_word, Tear.Events.{Visit, frees}}
use Rattle.shm_ref.specs.DropRoot.{Control.dropping, DropLeaves}
use Rattle.shm_table.specs.declared.{answer.PutFault.PutFault, enter.Entered.Entered}
use Rattle.shm_table.specs.declared.{enter.Entered.TheVariants.{Linked, Unlinked, Unmade}, find.Found.Found}
use Rattle.shm_table.specs.declared.{find.Found.TheVariants.{Absent, At}, put_root.PutRootPoint.PutRootPoint}
use Rattle.shm_table.specs.declared.put_root.PutRootPoint.TheVariants.{Open, Locate, Replace, Enter, Unlatch, Drop}
use Rattle.shm_table.specs.{declared.put_root.PutRootState.PutRootState, Enter.Control.entering}
use Rattle.shm_table.specs.{Enter.{EnterLeaves, IsHalfMade, enter_steps, link_events}, Locate.Located}
use Rattle.shm_table.specs.OpenTable.{Control.opening, HomeSo, IsOpening, OpenLeaves, OpenLeft}
use Rattle.shm_table.specs.OpenTable.OpenLeft.{Unmade as NotMade, Unnamed, Undropped}
use Rattle.shm_table.specs.PutRoot.Control.{PutRootAnswer, put_root_parts}
use Rattle.shm_table.specs.PutRoot.{DecidesMap, IsDecided, IsEraSpent, IsSettled, IsUnlisted, MapSo, PutRootDone, PutRootKnows, PutRootRefused, RootsSo, UnlistedSo, put_root_plan, opened_steps, searched_steps, settled_steps}
use Rattle.shm_table.specs.PutRoot.DecidesMap.{Begins, Leads as Leading, Replaces}
use Rattle.shm_table.specs.Proved.PutRoot.Undoing.{home_more, opening_still, still_more, still_same, still_stopped, unlisted_dropped, unlisted_home, unlisted_still}
use Rattle.shm_table.specs.Proved.PutRoot.Steps.{decided_after, decided_more, frees_append, located_absent, located_at, located_opening, located_putting, located_searched, same_more, same_part, search_more, set_after, set_then}
use Rattle.shm_table.specs.Proved.Staying.Laws.{cause_before, cause_later, cleared_drop, cleared_more, dropped_else, ended_drop, keeps_drop, keeps_more, keeps_unlatched, left_by, spent_drop, spent_later, unlatched_else}
use Rattle.shm_table.specs.{Proved.Costs.tear_sum, Replace.{Control.replacing, MayReplace, ReplaceLeaves}}
use Rattle.shm_table.specs.{Staying.{Cleared, Ended, SameMap, Still}, Unlatch.Unlatched}

-- ---- what is left

-- no zero-count block is
abbrev nobody : List Visit
nobody = []

-- the key has the block
done_of : (m : PutRootState) (r0 r : Memo) (tr : Trail) (es : List Event) → IsSettled (record m { root = None; refused = None; point = Drop }) None (settled_steps m.me.geometry.wide m.me.geometry.segments + 2) r0 r tr es → PutRootDone m.me m.key m.value r0 r tr es
done_of m r0 r tr es h =
    let b = h.bound in
    record {
      keeps = h.keeps;
      latch = h.latched;
      home = h.home;
      map = h.map.0;
      decided = h.map.1;
      ended = h.roots;
      keys = h.keys;
      search = h.search;
      left = h.left;
      dying = h.dying;
      bound = omega arith;
    }

-- it was refused, and no new entry was made
refused_of : (m : PutRootState) (r0 r : Memo) (tr : Trail) (es : List Event) (f : PutFault) → IsSettled (record m { root = None; refused = Some f; point = Drop }) None (settled_steps m.me.geometry.wide m.me.geometry.segments + 2) r0 r tr es
    → PutRootRefused m.me m.key m.value r0 r tr es f
refused_of m r0 r tr es f h =
    let b = h.bound in
    record {
      keeps = h.keeps;
      latch = h.latched;
      map = h.map.0;
      cause = h.map.1;
      cleared = inl h.map.2;
      home = unlisted_home m.me.who m.value r0 r es None f h.undone;
      still = still_same r0 r h.map.2.dying;
      events = inl (es, [], sym (append-nil es), h.undone, inl refl);
      keys = h.keys;
      search = inr h.search;
      left = h.left;
      dying = h.dying;
      bound = omega arith;
    }

-- ---- what follows each call

module _ (m : PutRootState) (r0 rs r : Memo) (tr t : Trail) (es ds : List Event) (held : IsHeld m.me r) (agent : recovers r ≡ recovers rs) where
  abbrev c : ℕ
  c = m.me.who

  -- what is known before the next call, or what is left
  abbrev Goes : PutRootPoint → PutRootAnswer → Type 0
  Goes y b = Follows put_root_parts put_root_plan (record m { point = y }) b r0 r (tr ++ t) (es ++ ds)

  abbrev g : ℕ
  g = m.me.geometry.segments

  -- the home names a directory, or not
  pub opened : (a : Result (Unit {0}) PutFault) → PutRootKnows (record m { point = Open }) Open r0 rs tr es → OpenLeaves (opening m.me) rs r t ds a → Goes Open (First (First a))
  opened a (may, same, none, quiet, root, fault) w =
      subst (λ (u : Trail). Follows put_root_parts put_root_plan (record m { point = Open }) (First (First a)) r0 r (u ++ t) (es ++ ds)) (sym none)
      (subst (λ (u : List Event). Follows put_root_parts put_root_plan (record m { point = Open }) (First (First a)) r0 r t (u ++ ds)) (sym quiet) (go a (subst (λ (x : Memo). OpenLeaves (opening m.me) x r t ds a) same w)))
    where
      go : (a : Result (Unit {0}) PutFault) → OpenLeaves (opening m.me) r0 r t ds a → Follows put_root_parts put_root_plan (record m { point = Open }) (First (First a)) r0 r t ds
      go (Ok done) w = (
        record {
          may = may;
          keeps = w.keeps;
          client = agent ∙ (ap recovers same ∙ may.2.client);
          latched = w.latch ∙ may.2.none;
          home = w.home;
          map = w.map;
          cleared = w.cleared;
        },
        root,
        fault,
        w.bound,
        w.opening,
      )
      go (Err f) w =
          record {
            keeps = w.keeps;
            latch = w.latch ∙ may.2.none;
            map = w.map;
            cause = w.cause;
            cleared = left_so f w.left;
            home = home_so f w.left;
            still = still_so f w.left;
            events = events_so f w.left;
            keys = 0;
            search = inl refl;
            left = w.visits;
            dying = dying_so f w.left;
            bound = let y = w.bound in omega arith;
          }
        where
          left_so : (f : PutFault) → OpenLeft m.me r0 r ds w.visits f → Cleared c r0 r ⊎ IsEraSpent f
          left_so f (NotMade a is cleared home none all) = inl cleared
          left_so f (Unnamed e is k d has home told all) = inr (subst IsEraSpent (sym is) tt)
          left_so f (Undropped e is k d free some home others stopped fs told) = inr (subst IsEraSpent (sym is) tt)

          home_so : (f : PutFault) → OpenLeft m.me r0 r ds w.visits f → HomeSo c (own_word r0.own (Home c)) (own_word r.own (Home c)) ds
          home_so f (NotMade a is cleared home none all) = inl (home ∙ sym w.empty)
          home_so f (Unnamed e is k d has home told all) = inl (home ∙ sym w.empty)
          home_so f (Undropped e is k d free some home others stopped fs told) =
              inr (
                w.empty,
                (λ z. some (sym home ∙ z)),
                (k, subst (λ (u : List Event). Contains u (event.Alloc c k (own_word r.own (Home c)))) (sym told) (0, omega arith, ap (λ x. event.Alloc c k x) (sym home))),
                subst (λ (u : List Event). Contains u (event.Up c (Home c) (own_word r.own (Home c)))) (sym told) (1, omega arith, ap (λ x. event.Up c (Home c) x) (sym home)),
              )

          still_so : (f : PutFault) → OpenLeft m.me r0 r ds w.visits f → Still r0 r
          still_so f (NotMade a is cleared home none all) = still_same r0 r cleared.dying
          still_so f (Unnamed e is k d has home told all) = still_same r0 r has.dying
          still_so f (Undropped e is k d free some home others stopped fs told) = still_stopped m.me r0 r e w.visits stopped

          events_so : (f : PutFault) → OpenLeft m.me r0 r ds w.visits f → IsUnlisted c m.value (own_word r0.own (Home c)) (own_word r.own (Home c)) ds ⊎ IsEraSpent f
          events_so f (NotMade a is cleared home none all) = inl ([], [], none, inl (home ∙ sym w.empty, refl), inl refl)
          events_so f (Unnamed e is k d has home told all) = inr (subst IsEraSpent (sym is) tt)
          events_so f (Undropped e is k d free some home others stopped fs told) = inr (subst IsEraSpent (sym is) tt)

          dying_so : (f : PutFault) → OpenLeft m.me r0 r ds w.visits f → All (λ (x : Visit). Contains r.dying x.block) w.visits
          dying_so f (NotMade a is cleared home none all) = subst (All (λ (x : Visit). Contains r.dying x.block)) (sym all) (All-nil (λ (x : Visit). Contains r.dying x.block))
          dying_so f (Unnamed e is k d has home told all) = subst (All (λ (x : Visit). Contains r.dying x.block)) (sym all) (All-nil (λ (x : Visit). Contains r.dying x.block))
          dying_so f (Undropped e is k d free some home others stopped fs told) = stopped.left

  -- the latch is taken, and the key was looked for
  pub located : (b : Found) → PutRootKnows (record m { point = Locate }) Locate r0 rs tr es → Located m.me c m.key rs r t ds b → Goes Locate (First (Second b))
  located (At entry before word) (h, root, fault, bound, opening) w = (
    located_putting m.me m.key m.value r0 rs r t es ds (At entry before word) held agent h w,
    root,
    located_searched m.me m.key m.value r0 rs r t es ds (At entry before word) held agent h w tr (opened_steps m.me.geometry.wide g) bound,
    (let u = located_at m.me m.key m.value r0 rs r t es ds entry before word held agent h w in (u.0, before, word, u.1)),
    located_opening m.me m.key m.value r0 rs r t es ds (At entry before word) held agent h w opening,
  )
  located (Absent home first) (h, root, fault, bound, opening) w = (
    located_putting m.me m.key m.value r0 rs r t es ds (Absent home first) held agent h w,
    root,
    fault,
    located_searched m.me m.key m.value r0 rs r t es ds (Absent home first) held agent h w tr (opened_steps m.me.geometry.wide g) bound,
    located_absent m.me m.key m.value r0 rs r t es ds home first held agent h w,
    located_opening m.me m.key m.value r0 rs r t es ds (Absent home first) held agent h w opening,
  )

  -- the entry that was found has the block, or not
  pub replaced : (a : Result Bool PutFault) → PutRootKnows (record m { point = Replace }) Replace r0 rs tr es → ReplaceLeaves (replacing m.me m.entry m.value) rs r t ds a → Goes Replace (Second (First (First a)))
  replaced (Ok done) (h, root, searched, (n, before, word, may), opening) (w, still) =
      let quiet = frees_append es ds in
      let k = searched.keys in
      record {
        may = h.may;
        keeps = keeps_more c r0 rs r h.keeps w.keeps;
        holds = held;
        latched = w.latch ∙ h.latched;
        home = λ e. h.home (sym w.home ∙ e);
        roots = subst (RootsSo c r0 r) (sym root) (elim w.ended [ inl y ↦ inl (cleared_more c r0 rs r h.cleared y) | inr y ↦ inr y ]);
        map = (
          (λ i v. set_after m.key i m.value r0 rs r h.map (w.map m.key i before word (other_number i (h.keeps.values h.may.1 m.value i h.may.2.low h.may.2.some h.may.2.root v)))),
          elim w.events [
            | inl y ↦ inr (n, (sym (h.map m.key) ∙ y.2 m.key n before word may))
            | inr y ↦ inl (es, event.ChangeUp c (Body m.entry 1) y.0 m.value, event.ChangeDown c y.0 ∷ y.1, ap (λ (u : List Event). es ++ u) y.4, Replaces m.entry y.0)
          ],
        );
        undone = tt;
        still = λ z. same_more r0 rs r h.map (still z);
        keys = k;
        search = search_more m.me c m.key k tr t searched.search;
        left = w.left;
        dying = w.dying;
        alone = subst (λ (o : Option ℕ). IfSome o (λ k. w.left ≡ [])) (sym root) tt;
        bound = let torn = tear_sum m.me.geometry.wide (frees (es ++ ds) + length w.left) (frees es) (frees ds + length w.left) (omega arith) in let y = within_more (searched_steps m.me.geometry.wide g + 2 * k + tear_steps m.me.geometry.wide (frees es)) (1 + change_steps m.me.geometry.wide + tear_steps m.me.geometry.wide (frees ds + length w.left)) tr t searched.bound w.bound in omega arith;
      }
    where
      other_number : (i : ℕ) → IsValue (sight c rs) m.value i → MayReplace m.me m.key m.value i m.entry before word rs
      other_number i v =
          record { geometry = may.geometry; who = may.who; idle = may.idle; client = may.client; found = may.found; some = may.some; room = may.room; here = may.here; value = v; named = may.named; block = may.block }
  replaced (Err f) (h, root, searched, (n, before, word, may), opening) w =
      let quiet = frees_append es ds in
      let none : frees ds ≡ 0 = ap frees w.none in
      let k = searched.keys in
      let cleared = cleared_more c r0 rs r h.cleared w.cleared in
      record {
        may = h.may;
        keeps = keeps_more c r0 rs r h.keeps w.keeps;
        holds = held;
        latched = w.latch ∙ h.latched;
        home = λ e. h.home (sym w.home ∙ e);
        roots = subst (RootsSo c r0 r) (sym root) (inl cleared);
        map = subst (λ (o : Option ℕ). MapSo m.me m.key m.value r0 r (es ++ ds) o (Some f)) (sym root) (same_more r0 rs r h.map w.map, cause_before m.me r0 rs r f h.cleared.roots w.cause, cleared);
        undone = subst (λ (o : Option ℕ). UnlistedSo c m.value r0 r (es ++ ds) o (Some f)) (sym root) (opening_still c (own_word r0.own (Home c)) (own_word rs.own (Home c)) (own_word r.own (Home c)) es ds w.home w.none opening);
        still = λ z. same_more r0 rs r h.map w.map;
        keys = k;
        search = search_more m.me c m.key k tr t searched.search;
        left = nobody;
        dying = All-nil (λ (x : Visit). Contains r.dying x.block);
        alone = subst (λ (o : Option ℕ). IfSome o (λ k. nobody ≡ [])) (sym root) tt;
        bound = let torn = tear_sum m.me.geometry.wide (frees (es ++ ds) + 0) (frees es) (frees ds) (omega arith) in let y = within_more (searched_steps m.me.geometry.wide g + 2 * k + tear_steps m.me.geometry.wide (frees es)) (1 + change_steps m.me.geometry.wide) tr t searched.bound w.bound in omega arith;
      }

  -- a new entry is linked, or not
  pub entered : (b : Entered) → PutRootKnows (record m { point = Enter }) Enter r0 rs tr es → EnterLeaves (entering m.me m.key m.value m.home m.first) rs r t ds b → Goes Enter (Second (First (Second b)))
  entered (Linked j) (h, root, fault, searched, (n, may), opening) x =
      let quiet = frees_append es ds in
      let low = x.low in
      let small : j ≡ j % 16 = omega arith in
      let k = searched.keys in
      record {
        may = h.may;
        keeps = keeps_more c r0 rs r h.keeps x.keeps;
        holds = held;
        latched = x.latch ∙ h.latched;
        home = λ e. h.home (may.directory ∙ (sym x.directory ∙ e));
        roots = subst (λ i. RootsSo c r0 r (Some i)) small (low, sym (h.cleared.roots j) ∙ x.empty, (λ i o. x.others i (λ z. o (sym z)) ∙ h.cleared.roots i), x.dying ∙ h.cleared.dying);
        map = (
          (λ i v. set_after m.key i m.value r0 rs r h.map (x.map i (h.keeps.values h.may.1 m.value i h.may.2.low h.may.2.some h.may.2.root v))),
          inl (decided_after c m.key (own_word r.own (Home c)) m.value es ds (linked m.first x.entry x.directory x.events)),
        );
        undone = tt;
        still = λ z. absurd (true≢false z);
        keys = k;
        search = search_more m.me c m.key k tr t searched.search;
        left = nobody;
        dying = All-nil (λ (x : Visit). Contains r.dying x.block);
        alone = refl;
        bound = let torn = tear_sum m.me.geometry.wide (frees (es ++ ds) + 0) (frees es) (frees ds) (omega arith) in let y = within_more (searched_steps m.me.geometry.wide g + 2 * k + tear_steps m.me.geometry.wide (frees es)) (enter_steps m.me.geometry.wide g) tr t searched.bound x.bound in omega arith;
      }
    where
      linked : (first e : ℕ) → own_word r.own (Home c) ≡ m.home → ds ≡ event.Alloc c j e ∷ event.Up c (Body e 1) m.value ∷ link_events c e m.home m.key first → IsDecided c m.key (own_word r.own (Home c)) m.value ds
      linked zero e at told = (event.Alloc c j e ∷ event.Up c (Body e 1) m.value ∷ [], event.Up c (Body m.home (m.key % 16)) e, [], told, subst (λ d. DecidesMap c m.key d m.value (event.Up c (Body m.home (m.key % 16)) e)) (sym at) (Begins e))
      linked (suc y) e at told = (
        event.Alloc c j e ∷ event.Up c (Body e 1) m.value ∷ event.Up c (Body e 0) (suc y) ∷ [],
        event.ChangeUp c (Body m.home (m.key % 16)) (suc y) e,
        event.ChangeDown c (suc y) ∷ [],
        told,
        subst (λ d. DecidesMap c m.key d m.value (event.ChangeUp c (Body m.home (m.key % 16)) (suc y) e)) (sym at) (Leading (suc y) e),
      )
  entered (Unlinked j f) (h, root, fault, searched, (n, may), opening) x =
      let quiet = frees_append es ds in
      let low = x.low in
      let small : j ≡ j % 16 = omega arith in
      let k = searched.keys in
      record {
        may = h.may;
        keeps = keeps_more c r0 rs r h.keeps x.keeps;
        holds = held;
        latched = x.latch ∙ h.latched;
        home = λ e. h.home (may.directory ∙ (sym x.directory ∙ e));
        roots = subst (λ i. RootsSo c r0 r (Some i)) small (low, sym (h.cleared.roots j) ∙ x.empty, (λ i o. x.others i (λ z. o (sym z)) ∙ h.cleared.roots i), x.dying ∙ h.cleared.dying);
        map = (same_more r0 rs r h.map x.map, cause_before m.me r0 rs r f h.cleared.roots x.cause);
        undone = subst (λ i. UnlistedSo c m.value r0 r (es ++ ds) (Some i) (Some f)) small (
          es,
          ds,
          refl,
          subst (λ y. IsOpening c (own_word r0.own (Home c)) y es) (may.directory ∙ sym x.directory) opening,
          (λ z. x.some (sym x.root ∙ z)),
          (m.first, subst (λ e. IsHalfMade c j e m.value m.first ds) (sym x.root) x.events),
        );
        still = λ z. same_more r0 rs r h.map x.map;
        keys = k;
        search = search_more m.me c m.key k tr t searched.search;
        left = nobody;
        dying = All-nil (λ (x : Visit). Contains r.dying x.block);
        alone = refl;
        bound = let torn = tear_sum m.me.geometry.wide (frees (es ++ ds) + 0) (frees es) (frees ds) (omega arith) in let y = within_more (searched_steps m.me.geometry.wide g + 2 * k + tear_steps m.me.geometry.wide (frees es)) (enter_steps m.me.geometry.wide g) tr t searched.bound x.bound in omega arith;
      }
  entered (Unmade f) (h, root, fault, searched, (n, may), opening) x =
      let quiet = frees_append es ds in
      let k = searched.keys in
      let cleared = cleared_more c r0 rs r h.cleared x.cleared in
      record {
        may = h.may;
        keeps = keeps_more c r0 rs r h.keeps x.keeps;
        holds = held;
        latched = x.latch ∙ h.latched;
        home = λ e. h.home (may.directory ∙ (sym x.directory ∙ e));
        roots = subst (RootsSo c r0 r) (sym root) (inl cleared);
        map = subst (λ (o : Option ℕ). MapSo m.me m.key m.value r0 r (es ++ ds) o (Some f)) (sym root) (same_more r0 rs r h.map x.map, cause_before m.me r0 rs r f h.cleared.roots x.cause, cleared);
        undone = subst (λ (o : Option ℕ). UnlistedSo c m.value r0 r (es ++ ds) o (Some f)) (sym root) (opening_still c (own_word r0.own (Home c)) (own_word rs.own (Home c)) (own_word r.own (Home c)) es ds (x.directory ∙ sym may.directory) x.none opening);
        still = λ z. same_more r0 rs r h.map x.map;
        keys = k;
        search = search_more m.me c m.key k tr t searched.search;
        left = nobody;
        dying = All-nil (λ (x : Visit). Contains r.dying x.block);
        alone = subst (λ (o : Option ℕ). IfSome o (λ k. nobody ≡ [])) (sym root) tt;
        bound = let torn = tear_sum m.me.geometry.wide (frees (es ++ ds) + 0) (frees es) (frees ds) (omega arith) in let y = within_more (searched_steps m.me.geometry.wide g + 2 * k + tear_steps m.me.geometry.wide (frees es)) (alloc_steps m.me.geometry.wide g) tr t searched.bound x.bound in omega arith;
      }

  -- the latch is given back
  module _ (w : Unlatched m.me c rs r t ds) where
    no_events : es ++ ds ≡ es
    no_events = ap (λ (x : List Event). es ++ x) w.none ∙ append-nil es

    -- where root o is left, if any, and this was refused, if anything
    freed : (o : Option ℕ) (f : Option PutFault) → IsSettled (record m { root = o; refused = f; point = Unlatch }) (Some c) (settled_steps m.me.geometry.wide g) r0 rs tr es → IsSettled (record m { root = o; refused = f; point = Drop }) None (settled_steps m.me.geometry.wide g + 2) r0 r (tr ++ t) (es ++ ds)
    freed o f h =
        let n = unlatched_else m.me.geometry.wide c rs r w.memo in
        let keeps = keeps_unlatched m.me rs r h.keeps.idle h.holds h.may.2.who w.memo in
        let same : SameMap rs r = same_part rs r n.2 in
        let home : own_word r.own (Home c) ≡ own_word rs.own (Home c) = n.1 in
        record {
          may = h.may;
          keeps = keeps_more c r0 rs r h.keeps keeps;
          holds = held;
          latched = w.latch;
          home = λ e. h.home (sym home ∙ e);
          roots = roots_so o n.3 h.roots;
          map = map_so o f same n.3 home keeps.era h.map;
          undone = unlisted_still c m.value r0 rs r es ds o f home n.3.roots w.none h.undone;
          still = λ z. same_more r0 rs r (h.still z) same;
          keys = h.keys;
          search = search_more m.me c m.key h.keys tr t h.search;
          left = h.left;
          dying = subst (λ (xs : List ℕ). All (λ (x : Visit). Contains xs x.block) h.left) (sym n.3.dying) h.dying;
          alone = h.alone;
          bound = subst (λ (x : List Event). IsWithin (settled_steps m.me.geometry.wide g + 2 + 2 * h.keys + tear_steps m.me.geometry.wide (frees x + length h.left)) (tr ++ t)) (sym no_events)
              (let short : length t ≡ 2 = ap length w.trail in let y = within_more (settled_steps m.me.geometry.wide g + 2 * h.keys + tear_steps m.me.geometry.wide (frees es + length h.left)) 2 tr t h.bound (omega arith) in omega arith);
        }
      where
        roots_so : (o : Option ℕ) → Cleared c rs r → RootsSo c r0 rs o → RootsSo c r0 r o
        roots_so None n (inl y) = inl (cleared_more c r0 rs r y n)
        roots_so None n (inr y) = inr (y.0, spent_later c y.0 rs r (keeps_unlatched m.me rs r h.keeps.idle h.holds h.may.2.who w.memo).era y.1)
        roots_so (Some k) n y = (y.0, y.1, (λ j e. n.roots j ∙ y.2 j e), n.dying ∙ y.3)

        map_so : (o : Option ℕ) (f : Option PutFault) → SameMap rs r → Cleared c rs r → own_word r.own (Home c) ≡ own_word rs.own (Home c) → own_word rs.own (spot.Era c c) ≤ own_word r.own (spot.Era c c) → MapSo m.me m.key m.value r0 rs es o f → MapSo m.me m.key m.value r0 r (es ++ ds) o f
        map_so o None same n home era y = (
          (λ i v. set_then m.key i m.value r0 rs r (y.0 i v) same),
          elim y.1 [ inl d ↦ inl (subst (λ b. IsDecided c m.key b m.value (es ++ ds)) (sym home) (decided_more c m.key (own_word rs.own (Home c)) m.value es ds d)) | inr d ↦ inr d ],
        )
        map_so None (Some f) same n home era y = (same_more r0 rs r y.0 same, cause_later m.me r0 rs r f era y.1, cleared_more c r0 rs r y.2 n)
        map_so (Some k) (Some f) same n home era y = (same_more r0 rs r y.0 same, cause_later m.me r0 rs r f era y.1)

    pub unlatched_so : (o : Option ℕ) (f : Option PutFault) → IsSettled (record m { root = o; refused = f; point = Unlatch }) (Some c) (settled_steps m.me.geometry.wide g) r0 rs tr es
        → Follows put_root_parts put_root_plan (record m { root = o; refused = f; point = Unlatch }) (Second (Second (First tt))) r0 r (tr ++ t) (es ++ ds)
    unlatched_so (Some k) f h = (k, refl, freed (Some k) f h)
    unlatched_so None None h = let y = freed None None h in (done_of m r0 r (tr ++ t) (es ++ ds) y, y.still)
    unlatched_so None (Some f) h = let y = freed None (Some f) h in refused_of m r0 r (tr ++ t) (es ++ ds) f y

  -- the root of the new entry is dropped, or stays
  module _ (k : ℕ) (a : Result Bool EraSpent) (w : DropLeaves (dropping m.me k) rs r t ds a) where
    else_dropped : (r.latch ≡ rs.latch) × (own_word r.own (Home c) ≡ own_word rs.own (Home c)) × (r.part ≡ rs.part) × ((j : ℕ) → k ≢ j → root_word c r j ≡ root_word c rs j)
    else_dropped = dropped_else c k rs r (left_by (dropping m.me k) r0 rs r t ds a w).0

    same_dropped : SameMap rs r
    same_dropped = same_part rs r else_dropped.2

    era_dropped : own_word rs.own (spot.Era c c) ≤ own_word r.own (spot.Era c c)
    era_dropped = (left_by (dropping m.me k) r0 rs r t ds a w).0.rows c

    ended_so : RootsSo c r0 rs (Some k) → Ended c r0 r
    ended_so y = ended_drop (dropping m.me k) r0 rs r t ds a y.1 y.2 y.3 w

  home_so : (k : ℕ) (f : PutFault) → UnlistedSo c m.value r0 rs es (Some k) (Some f) → own_word r.own (Home c) ≡ own_word rs.own (Home c) → HomeSo c (own_word r0.own (Home c)) (own_word r.own (Home c)) (es ++ ds)
  home_so k f h same = subst (λ y. HomeSo c (own_word r0.own (Home c)) y (es ++ ds)) (sym same) (home_more c (own_word r0.own (Home c)) (own_word rs.own (Home c)) es ds (unlisted_home c m.value r0 rs es (Some k) f h))

  cleared_so : (k : ℕ) (z : Bool) → DropLeaves (dropping m.me k) rs r t ds (Ok z) → RootsSo c r0 rs (Some k) → Cleared c r0 r
  cleared_so k z w y = cleared_drop (dropping m.me k) r0 rs r t ds z y.1 y.2 y.3 w

  pub dropped_so : (k : ℕ) (f : Option PutFault) (a : Result Bool EraSpent) → IsSettled (record m { root = Some k; refused = f; point = Drop }) None (settled_steps m.me.geometry.wide g + 2) r0 rs tr es → DropLeaves (dropping m.me k) rs r t ds a
      → Follows put_root_parts put_root_plan (record m { root = Some k; refused = f; point = Drop }) (Second (Second (Second a))) r0 r (tr ++ t) (es ++ ds)
  dropped_so k None (Ok z) h w =
      let n = else_dropped k (Ok z) w in
      let quiet = frees_append es ds in
      let alone : length h.left ≡ 0 = ap length h.alone in (
        record {
          keeps = keeps_drop (dropping m.me k) r0 rs r t ds (Ok z) h.keeps h.roots.1 w;
          latch = n.0 ∙ h.latched;
          home = λ e. h.home (sym n.1 ∙ e);
          map = λ i v. set_then m.key i m.value r0 rs r (h.map.0 i v) (same_dropped k (Ok z) w);
          decided = elim h.map.1 [ inl d ↦ inl (subst (λ b. IsDecided c m.key b m.value (es ++ ds)) (sym n.1) (decided_more c m.key (own_word rs.own (Home c)) m.value es ds d)) | inr d ↦ inr d ];
          ended = inl (cleared_so k z w h.roots);
          keys = h.keys;
          search = search_more m.me c m.key h.keys tr t h.search;
          left = nobody;
          dying = All-nil (λ (x : Visit). Contains r.dying x.block);
          bound = let torn = tear_sum m.me.geometry.wide (frees (es ++ ds) + 0) (frees es + length h.left) (frees ds) (omega arith) in let y = within_more (settled_steps m.me.geometry.wide g + 2 + 2 * h.keys + tear_steps m.me.geometry.wide (frees es + length h.left)) (8 + redo_steps m.me.geometry.wide + tear_steps m.me.geometry.wide (frees ds)) tr t h.bound w.bound in omega arith;
        },
        λ y. same_more r0 rs r (h.still y) (same_dropped k (Ok z) w),
      )
  dropped_so k (Some f) (Ok z) h w =
      let n = else_dropped k (Ok z) w in
      let quiet = frees_append es ds in
      let alone : length h.left ≡ 0 = ap length h.alone in
      let keeps = keeps_drop (dropping m.me k) r0 rs r t ds (Ok z) h.keeps h.roots.1 w in
      record {
        keeps = keeps;
        latch = n.0 ∙ h.latched;
        map = same_more r0 rs r h.map.0 (same_dropped k (Ok z) w);
        cause = cause_later m.me r0 rs r f (era_dropped k (Ok z) w) h.map.1;
        cleared = inl (cleared_so k z w h.roots);
        home = home_so k f h.undone n.1;
        still = still_same r0 r (cleared_so k z w h.roots).dying;
        events = inl (unlisted_dropped c m.value k r0 rs r es ds f n.1 w.events h.undone);
        keys = h.keys;
        search = inr (search_more m.me c m.key h.keys tr t h.search);
        left = nobody;
        dying = All-nil (λ (x : Visit). Contains r.dying x.block);
        bound = let torn = tear_sum m.me.geometry.wide (frees (es ++ ds) + 0) (frees es + length h.left) (frees ds) (omega arith) in let y = within_more (settled_steps m.me.geometry.wide g + 2 + 2 * h.keys + tear_steps m.me.geometry.wide (frees es + length h.left)) (8 + redo_steps m.me.geometry.wide + tear_steps m.me.geometry.wide (frees ds)) tr t h.bound w.bound in omega arith;
      }
  dropped_so k None (Err e) h (vs, w) =
      let n = else_dropped k (Err e) (vs, w) in
      let quiet = frees_append es ds in
      let alone : length h.left ≡ 0 = ap length h.alone in (
        record {
          keeps = keeps_drop (dropping m.me k) r0 rs r t ds (Err e) h.keeps h.roots.1 (vs, w);
          latch = n.0 ∙ h.latched;
          home = λ e. h.home (sym n.1 ∙ e);
          map = λ i v. set_then m.key i m.value r0 rs r (h.map.0 i v) (same_dropped k (Err e) (vs, w));
          decided = elim h.map.1 [ inl d ↦ inl (subst (λ b. IsDecided c m.key b m.value (es ++ ds)) (sym n.1) (decided_more c m.key (own_word rs.own (Home c)) m.value es ds d)) | inr d ↦ inr d ];
          ended = ended_so k (Err e) (vs, w) h.roots;
          keys = h.keys;
          search = search_more m.me c m.key h.keys tr t h.search;
          left = vs;
          dying = w.stopped.left;
          bound = let torn = tear_sum m.me.geometry.wide (frees (es ++ ds) + length vs) (frees es + length h.left) (frees ds + length vs) (omega arith) in let y = within_more (settled_steps m.me.geometry.wide g + 2 + 2 * h.keys + tear_steps m.me.geometry.wide (frees es + length h.left)) (8 + redo_steps m.me.geometry.wide + tear_steps m.me.geometry.wide (frees ds + length vs)) tr t h.bound w.bound in omega arith;
        },
        λ y. same_more r0 rs r (h.still y) (same_dropped k (Err e) (vs, w)),
      )
  dropped_so k (Some f) (Err e) h (vs, w) =
      let n = else_dropped k (Err e) (vs, w) in
      let quiet = frees_append es ds in
      let alone : length h.left ≡ 0 = ap length h.alone in
      record {
        keeps = keeps_drop (dropping m.me k) r0 rs r t ds (Err e) h.keeps h.roots.1 (vs, w);
        latch = n.0 ∙ h.latched;
        map = same_more r0 rs r h.map.0 (same_dropped k (Err e) (vs, w));
        cause = spent_drop (dropping m.me k) r0 rs r t ds e (vs, w);
        cleared = inr tt;
        home = home_so k f h.undone n.1;
        still = still_more r0 rs r (still_same r0 rs h.roots.3) (still_stopped m.me rs r e.era vs w.stopped);
        events = inr tt;
        keys = h.keys;
        search = inr (search_more m.me c m.key h.keys tr t h.search);
        left = vs;
        dying = w.stopped.left;
        bound = let torn = tear_sum m.me.geometry.wide (frees (es ++ ds) + length vs) (frees es + length h.left) (frees ds + length vs) (omega arith) in let y = within_more (settled_steps m.me.geometry.wide g + 2 + 2 * h.keys + tear_steps m.me.geometry.wide (frees es + length h.left)) (8 + redo_steps m.me.geometry.wide + tear_steps m.me.geometry.wide (frees ds + length vs)) tr t h.bound w.bound in omega arith;
      }
