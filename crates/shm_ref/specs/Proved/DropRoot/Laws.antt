-- what is owed of a drop of a root: each call leads on, to the next one or to what is left
use Rattle.std.proofs.Common.{◌≡◌, ◌≢◌, ℕ, ◌+◌, ◌%◌, ◌≤◌, refl, sym, ap, ◌∙◌, subst, arith, Bool, true, false, not, List, [], ◌∷◌, ◌++◌, append-nil, inl, inr, ◌⊎◌, length}
use Rattle.std.proofs.lemmas.{Bool.{cases_eq, ne_eqb}, List.Elements.All-nil}
use Rattle.std.specs.{Prelude.{◌==◌, if◌then◌else◌, Some, None, Result, Ok, Err}, List.Contains}
use Rattle.shm_graph.specs.{Bounds.{down_steps, redo_steps, tear_steps}, declared.spot.Spot.TheVariants.{Era, Root}}
use Rattle.shm_graph.specs.{declared.memo.Memo.Memo, Asks.{Trail, IsWithin}, Events.Event, Laws.Outcome, Views.own_word}
use Rattle.shm_graph.specs.Core.{core}
use Rattle.shm_graph.specs.declared.ask.Ask.TheVariants as ask
use Rattle.shm_graph.specs.Events as event
use Rattle.shm_words.proofs.Placing.{total_small}
use Rattle.shm_words.specs.Layout.{total_of, address_limit}
use Rattle.plans.specs.{declared.or.Or.TheVariants.{First, Second}, Proved.{CallTells.within_more, Either.or_part_laws}}
use Rattle.plans.specs.{Either.{or_control, or_part}, Parts.IsHeld, Plans.{PlanLaws, PlanStays, IsCall, Follows}}
use Rattle.plans.specs.Words.{word_control, word_part_laws, WordLeaves}
use Rattle.shm_count.specs.{declared.{answer.EraSpent.EraSpent, point.Aim.TheVariants.Down}, CountParts.tear_part}
use Rattle.shm_count.specs.Proved.{CountParts.tear_part_laws, Lowering.{dies, torn_leaves}, Slots.Parts.era_room}
use Rattle.shm_count.specs.{Proved.Retaining.remains_core, Slots.{Lost, StepLeft, Took}}
use Rattle.shm_count.specs.{Slots.Parts.{down_slot_laws, down_slot_part}, Roots.root_word, Step.Control.IsInside}
use Rattle.shm_count.specs.{Step.Machines.{down_control, down_told}, Tear.Control.tear_control}
use Rattle.shm_count.specs.Tear.{Events.{Visit, Walks, frees}, TearLeaves}
use Rattle.kind_parts.proofs.Cores.{here_same}
use Rattle.kind_parts.specs.WordParts.{OwnLoaded}
use Rattle.shm_ref.specs.declared.drop_root.DropPoint.{DropPoint, TheVariants.{Load, Lower, Tear}}
use Rattle.shm_ref.specs.declared.drop_root.DropState.{DropState}
use Rattle.shm_ref.specs.DropRoot.Control.{DropAnswer, drop_parts, root_at, drop_call_at, is_load}
use Rattle.shm_ref.specs.DropRoot.{DropSpent, Dropped, IsLoaded, IsLowered, DropKnows, DropLeaves, drop_plan}
use Rattle.shm_ref.specs.{DropRoot.DropSpent.{AtStep, AtTear}, Proved.CoreLeaves.{lost_root, untouched_core}}
use Rattle.shm_ref.specs.Proved.Leaving.{all_outside, left_core, left_took, left_untouched, may_still, named_events, remains_took, remains_untouched, root_took, stopped_at}
use Rattle.shm_ref.specs.{Proved.RootParts.{load_needs, lower_needs, root_names}, Lefts.RootEvents, RootParts.load_part}

stays : (m : DropState) (b : DropAnswer) → PlanStays drop_parts drop_plan m b
stays m (First n) = record { same_me = refl; same_line = refl; same_start = refl; started = λ e. refl }
stays m (Second (First (Ok true))) = record { same_me = refl; same_line = refl; same_start = refl; started = λ e. refl }
stays m (Second (First (Ok false))) = record { same_me = refl; same_line = refl; same_start = refl; started = λ e. absurd (cc) }
stays m (Second (First (Err e))) = record { same_me = refl; same_line = refl; same_start = refl; started = λ e. absurd (cc) }
stays m (Second (Second (Ok u))) = record { same_me = refl; same_line = refl; same_start = refl; started = λ e. absurd (cc) }
stays m (Second (Second (Err e))) = record { same_me = refl; same_line = refl; same_start = refl; started = λ e. absurd (cc) }

calls : (m : DropState) (y : DropPoint) → IsCall drop_parts drop_plan (record m { point = y })
calls m Load = record { me = refl; asks = refl }
calls m Lower = record { me = refl; asks = refl }
calls m Tear = record { me = refl; asks = refl }

opens : (m : DropState) (y : DropPoint) (r0 r : Memo) (tr : Trail) (es : List Event) → DropKnows (record m { point = y }) y r0 r tr es → (drop_plan.part (record m { point = y })).needs (drop_call_at m y) r
opens m Load r0 r tr es h = load_needs m.me m.root h.0.who h.1 true r
opens m Lower r0 r tr es h =
    let may = may_still m.me (λ j. false) r0 r h.may (left_core m.me.who (λ j. false) r0 r h.may.idle h.same) in
    (refl, lower_needs m.me m.root m.block r may h.low (ap (λ (x : Memo). root_word m.me.who x m.root) h.same ∙ h.names) h.some h.inside h.era)
opens m Tear r0 r tr es h = record { made = refl; can = h.can }

module _ (m : DropState) (r0 rs r : Memo) (tr t : Trail) (es ds : List Event) (held : IsHeld m.me r) where
  abbrev c : ℕ
  c = m.me.who

  abbrev k : ℕ
  k = m.root

  abbrev b : ℕ
  b = m.block

  -- what is known before the next call, or what is left
  abbrev Leads : DropAnswer → Type 0
  Leads a = Follows drop_parts drop_plan m a r0 r (tr ++ t) (es ++ ds)

  -- the root was loaded
  loaded : (n : ℕ) → DropKnows m Load r0 rs tr es → WordLeaves (OwnLoaded (Root m.me.who k)) (record { me = m.me; ask = ask.Load (root_at m); over = false }) rs r t ds n → Leads (First n)
  loaded n (may, low, same, none, quiet) w =
      let cored : core r ≡ core r0 = w.found.left ∙ ap core same in
      let here : root_word c r k ≡ root_word c r0 k = ap (λ (x : Memo). root_word c x k) cored in
      let names : root_word c r0 k ≡ n = sym (w.found.found ∙ ap (λ (x : Memo). root_word c x k) same) in
      let silent : es ++ ds ≡ [] = ap (λ (x : List Event). x ++ ds) quiet ∙ w.none in
      let bound : IsWithin 1 (tr ++ t) = (let e = ap length (ap (λ (x : Trail). x ++ t) none) in let o = w.one in omega arith) in
      let after : ℕ → DropState = λ z. record m { block = z; point = Lower } in
      let left = DropLeaves (record m { block = 0; point = Load }) r0 r (tr ++ t) (es ++ ds) in
      elim (cases_eq n 0) [
        | inl e ↦ subst (λ z. Outcome (if z % address_limit == 0 then Some (Ok false) else None) (IsLoaded (after (z % address_limit)) r0 r (tr ++ t) (es ++ ds)) left) (sym e)
            (record {
              left = left_core c (λ j. k == j) r0 r may.idle cored;
              remains = remains_core c r0 r cored;
              root = here ∙ (names ∙ e);
              dying = ap (λ (x : Memo). x.dying) cored;
              named = ap (λ x. not (x == 0)) (sym (names ∙ e));
              events = subst (λ x. RootEvents c k x (es ++ ds)) (sym (names ∙ e)) silent;
              bound = omega arith;
            })
        | inr some ↦ (
            let idle = ap (λ (x : Memo). x.op) cored ∙ may.idle in
            let y = root_names m.me k may.who low r held idle (λ z. some (sym names ∙ (sym here ∙ z))) in
            let total = total_small m.me.geometry may.geometry in
            let l = y.0.1 in
            let e = here ∙ names in
            let small : n % address_limit ≡ n = omega arith in
            subst (λ z. Outcome (if z == 0 then Some (Ok false) else None) (IsLoaded (after z) r0 r (tr ++ t) (es ++ ds)) left) (sym small)
            (subst (λ z. Outcome (if z then Some (Ok false) else None) (IsLoaded (after n) r0 r (tr ++ t) (es ++ ds)) left) (sym (ne_eqb n 0 some))
            (record {
              may = may;
              low = low;
              same = cored;
              names = names;
              some = some;
              inside = subst (IsInside m.me) e y.0;
              room = subst (λ x. x + 2 ≤ total_of m.me.geometry) e y.1;
              counted = λ h. y.2 (subst (λ (xs : List ℕ). Contains xs (root_word c r k)) (sym (ap (λ (x : Memo). x.dying) cored)) (subst (Contains r0.dying) (sym e) h));
              era = era_room m.me r held may.who idle;
              none = silent;
              bound = bound;
            }))
            )
      ]

  -- the root is empty, and the zero-count blocks are those before
  dropped : (x : List Event) → root_word c r0 k ≡ b → b ≢ 0 → Lost c (Root c k) false b 0 false r0 r → es ++ ds ≡ event.Down c (Root c k) b ∷ x → (x ≡ []) ⊎ Walks c b x [] → IsWithin (8 + redo_steps m.me.geometry.wide + tear_steps m.me.geometry.wide (frees (es ++ ds))) (tr ++ t)
      → Dropped (record m { block = 0; point = Load }) r0 r (tr ++ t) (es ++ ds) true
  dropped x names some lost told walk bound =
      record {
        left = left_took c k b false r0 r lost.took;
        remains = remains_took c k b r0 r lost.took;
        root = root_took c k b false r0 r lost.took;
        dying = lost.dying ∙ append-nil r0.dying;
        named = ap not (sym (ne_eqb (root_word c r0 k) 0 (λ e. some (sym names ∙ e))));
        events = subst (λ y. RootEvents c k y (es ++ ds)) (sym names) (named_events c k b (es ++ ds) x some told walk);
        bound = bound;
      }

  -- the root was lowered, from what was known
  lowered : (a : Result Bool EraSpent) → IsLoaded m r0 rs tr es → StepLeft m.me (Down b) (Root c k) false rs r t ds (down_told a) → Leads (Second (First a))
  lowered (Ok true) h s =
      let lost = lost_root r0 rs r h.same c k b 0 true s.did.0 in
      record {
        names = h.names;
        some = h.some;
        counted = h.counted;
        lost = lost;
        holds = held;
        can = record {
          geometry = h.may.geometry;
          who = h.may.who;
          here = here_same r0 r (ap (λ (x : Memo). x.status) lost.took.rest) h.may.here;
          idle = lost.took.op;
          inside = h.inside;
          room = h.room;
          dying = dies m.me (Root c k) false b 0 r0 r r h.may.who held lost;
        };
        told = ap (λ (x : List Event). x ++ ds) h.none ∙ s.did.1;
        bound = (let n = within_more 1 (down_steps m.me.geometry.wide) tr t h.bound s.bound in omega arith);
      }
  lowered (Ok false) h s =
      let bound = within_more 1 (down_steps m.me.geometry.wide) tr t h.bound s.bound in
      dropped [] h.names h.some (lost_root r0 rs r h.same c k b 0 false s.did.0) (ap (λ (x : List Event). x ++ ds) h.none ∙ s.did.1) (inl refl) (omega arith)
  lowered (Err e) h s =
      let bound = within_more 1 (down_steps m.me.geometry.wide) tr t h.bound s.bound in
      let same = untouched_core r0 rs r h.same c s.did.0 in (
        [],
        record {
          at = AtStep (λ z. h.some (sym h.names ∙ z)) same (s.did.1.0 ∙ ap (λ (x : Memo). own_word x.own (Era c c)) h.same) (ap (λ (x : List Event). x ++ ds) h.none ∙ s.did.2) refl;
          left = left_untouched c (λ j. k == j) r0 r h.may.idle same;
          remains = remains_untouched c r0 r same;
          stopped = record { left = All-nil (λ (v : Visit). Contains r.dying v.block); others = all_outside r.dying ∙ ap (λ (x : Memo). x.dying) same.rest; spent = s.did.1.1 };
          most = let u = s.did.1.0 in let v = s.did.0.rows c in omega arith;
          bound = omega arith;
        },
      )

  -- a step down of the tear-down was refused
  tear_refused : (x : List Event) (e : ℕ) (vs : List Visit) → root_word c r0 k ≡ b → b ≢ 0 → Took c (Root c k) false b 0 false r0 r → es ++ ds ≡ event.Down c (Root c k) b ∷ x → Walks c b x vs → DropSpent c k r0 r (es ++ ds) e vs
  tear_refused x e vs names =
      subst (λ d. d ≢ 0 → Took c (Root c k) false d 0 false r0 r → es ++ ds ≡ event.Down c (Root c k) d ∷ x → Walks c d x vs → DropSpent c k r0 r (es ++ ds) e vs) names
      (λ some took told walk. AtTear some took x told walk)

  -- the block was torn down
  torn : (a : Result (Unit {0}) EraSpent) → IsLowered m r0 rs tr es → TearLeaves m.me b rs r ds t a → Leads (Second (Second a))
  torn a h left = go a left
    where
      told : es ++ ds ≡ event.Down c (Root c k) b ∷ ds
      told = ap (λ (x : List Event). x ++ ds) h.told

      same_frees : frees (es ++ ds) ≡ frees ds
      same_frees = ap frees told ∙ omega arith

      go : (a : Result (Unit {0}) EraSpent) → TearLeaves m.me b rs r ds t a → Leads (Second (Second a))
      go (Ok done) y =
          let f = ap (tear_steps m.me.geometry.wide) same_frees in
          let bound = within_more (8 + redo_steps m.me.geometry.wide) (tear_steps m.me.geometry.wide (frees ds)) tr t h.bound y.bound in
          dropped ds h.names h.some (torn_leaves m.me (Root c k) false b 0 r0 rs r h.can.who h.holds h.lost h.counted ds t (Ok done) y) told (inr y.walks) (omega arith)
      go (Err e) (vs, y) =
          let f = ap (λ n. tear_steps m.me.geometry.wide (n + length vs)) same_frees in
          let bound = within_more (8 + redo_steps m.me.geometry.wide) (tear_steps m.me.geometry.wide (frees ds + length vs)) tr t h.bound y.bound in
          let took = (torn_leaves m.me (Root c k) false b 0 r0 rs r h.can.who h.holds h.lost h.counted ds t (Err e) (vs, y)).0 in (
            vs,
            record {
              at = tear_refused ds e.era vs h.names h.some took told y.walks;
              left = left_took c k b false r0 r took;
              remains = remains_took c k b r0 r took;
              stopped = stopped_at m.me b r0 rs r ds t e.era vs h.lost.dying h.counted y;
              most = let u = y.spent in omega arith;
              bound = omega arith;
            },
          )

-- each call leads on
leads : (m : DropState) (y : DropPoint) (r0 rs r : Memo) (tr t : Trail) (es ds : List Event) (a : DropAnswer) → DropKnows (record m { point = y }) y r0 rs tr es → (drop_plan.part (record m { point = y })).leaves (drop_call_at m y) rs r t ds a → IsHeld m.me r
    → Follows drop_parts drop_plan (record m { point = y }) a r0 r (tr ++ t) (es ++ ds)
leads m Load r0 rs r tr t es ds (First n) h g held = loaded (record m { point = Load }) r0 rs r tr t es ds held n h g
leads m Lower r0 rs r tr t es ds (Second (First a)) h g held = lowered (record m { point = Lower }) r0 rs r tr t es ds held a h g
leads m Tear r0 rs r tr t es ds (Second (Second a)) h g held = torn (record m { point = Tear }) r0 rs r tr t es ds held a h g
leads m Load r0 rs r tr t es ds (Second a) h g held = absurd g
leads m Lower r0 rs r tr t es ds (First n) h g held = absurd g
leads m Lower r0 rs r tr t es ds (Second (Second a)) h g held = absurd g
leads m Tear r0 rs r tr t es ds (First n) h g held = absurd g
leads m Tear r0 rs r tr t es ds (Second (First a)) h g held = absurd g

pub drop_laws : PlanLaws drop_parts drop_plan
drop_laws =
    record {
      stays = stays;
      calls = λ m. calls m m.point;
      parts = λ m. let first = is_load m.point in
          or_part_laws first word_control (or_control down_control tear_control) (load_part m.me m.root first) (or_part (down_slot_part (Root m.me.who m.root) false) tear_part) (word_part_laws first m.me (ask.Load (root_at m)) (OwnLoaded (Root m.me.who m.root)))
          (or_part_laws first down_control tear_control (down_slot_part (Root m.me.who m.root) false) tear_part (down_slot_laws (Root m.me.who m.root) false first) (tear_part_laws first));
      opens = λ m. opens m m.point;
      leads = λ m r0 rs r tr t es ds a h g held same. leads m m.point r0 rs r tr t es ds a h g held;
    }
