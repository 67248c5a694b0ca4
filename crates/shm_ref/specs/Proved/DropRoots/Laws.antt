-- what is owed of a drop of all roots
use Rattle.std.proofs.Common.{◌≡◌, ℕ, ◌+◌, ◌*◌, ◌<◌, ◌≢◌, refl, sym, ◌∙◌, subst, arith, Bool, true, false, List, [], ◌++◌, length, add-one, inl, inr}
use Rattle.std.proofs.lemmas.Bool.{cases_eq, ne_eqb, eqb-true, eqb-false, Decides.nat_tests}
use Rattle.std.specs.Prelude.{◌==◌, ◌||◌, nat_lt, if◌then◌else◌, Option, Some, None, Result, Ok, Err}
use Rattle.shm_ref.specs.Proved.{Costs.{drops_more, drops_most, tear_sum}, DropRoot.Laws.drop_laws}
use Rattle.shm_ref.specs.Proved.Leaving.{left_core, left_more, left_then, left_root, left_empty, may_still, frees-append}
use Rattle.shm_ref.specs.{declared.drop_roots.RootsState.RootsState, DropRoot.Control.{dropping, drop_parts}}
use Rattle.shm_ref.specs.{DropRoot.{Dropped, DropLeaves, drop_plan}, Lefts.{MayDrop, RootEvents, RootsEvents}}
use Rattle.shm_ref.specs.DropRoots.Control.{drop_root, dropping_roots, roots_call, roots_steered}
use Rattle.shm_ref.specs.DropRoots.{AreGone, RootsKnows, RootsLeaves, roots_plan}
use Rattle.shm_graph.specs.{Bounds.{redo_steps, tear_steps}, declared.{ask.Me.Me, memo.Memo.Memo}, Asks.Trail}
use Rattle.shm_graph.specs.{Events.Event, Laws.Outcome}
use Rattle.plans.specs.{Proved.CallTells.within_more, CallsPart.{MayCall, calls_part_laws}}
use Rattle.plans.specs.Plans.{PlanLaws, PlanStays, Follows}
use Rattle.shm_count.specs.{declared.answer.EraSpent.EraSpent, Roots.root_word, Tear.Events.frees}

-- the next root
abbrev on : RootsState → RootsState
on m = record m { root = m.root + 1 }

-- what both states after a root are alike in
same : (m : RootsState) {T : Type 0} (f : RootsState → T) → f (on m) ≡ f m → (q : Bool) → f (if q then m else on m) ≡ f m
same m f e true = refl
same m f e false = e

-- where it goes on, it is at a later root
later : (m : RootsState) (q : Bool) → ◌≡◌ {A = Option (Result (Unit {0}) EraSpent)} (if q then Some (Ok tt) else None) None → ((if q then m else on m).root == 0) ≡ false
later m true e = absurd (cc)
later m false e = ne_eqb (m.root + 1) 0 (λ z. absurd (omega arith))

-- a root is dropped from what is known before it
opens : (m : RootsState) (r0 r : Memo) (tr : Trail) (es : List Event) → RootsKnows m r0 r tr es → MayCall drop_parts drop_plan (roots_call m) r
opens m r0 r tr es h = record { made = refl; first = refl; start = refl; knows = (may_still m.me (λ j. nat_lt j m.root) r0 r h.may h.gone.left, h.low, refl, refl, refl) }

module _ (m : RootsState) (r0 rs r : Memo) (tr t : Trail) (es ds : List Event) (h : RootsKnows m r0 rs tr es) where
  abbrev c : ℕ
  c = m.me.who

  -- the root held what it held before the first one was dropped
  same_root : root_word c rs m.root ≡ root_word c r0 m.root
  same_root = left_root c (λ j. nat_lt j m.root) r0 rs m.root h.gone.left (grind (arith, nat_tests))

  -- one more root is gone
  one_more : (z : Bool) → Dropped (dropping m.me m.root) rs r t ds z → AreGone m.me (m.root + 1) r0 r (tr ++ t) (es ++ ds)
  one_more z d =
      let f = tear_sum m.me.geometry.wide (frees (es ++ ds)) (frees es) (frees ds) (frees-append es ds) in
      let n = drops_more m.me.geometry.wide m.root in
      let bound = within_more ((8 + redo_steps m.me.geometry.wide) * m.root + tear_steps m.me.geometry.wide (frees es)) (8 + redo_steps m.me.geometry.wide + tear_steps m.me.geometry.wide (frees ds)) tr t h.gone.bound d.bound in
      record {
        left = left_more c (λ j. nat_lt j m.root || (m.root == j)) (λ j. nat_lt j (m.root + 1)) r0 r (λ j e. grind (arith, nat_tests)) (left_then c (λ j. nat_lt j m.root) (λ j. m.root == j) r0 rs r h.gone.left d.left);
        gone = λ j l. elim (cases_eq j m.root) [
          | inl e ↦ subst (λ i. root_word c r i ≡ 0) (sym e) d.root
          | inr n ↦ left_empty c (λ j. m.root == j) rs r j d.left (h.gone.gone j (omega arith))
        ];
        dying = d.dying ∙ h.gone.dying;
        events = subst (λ n. RootsEvents c r0 n (es ++ ds)) (sym (add-one m.root)) (es, ds, refl, h.gone.events, subst (λ x. RootEvents c m.root x ds) same_root d.events);
        bound = omega arith;
      }

  -- the own era left no room
  stopped : (e : EraSpent) → DropLeaves (dropping m.me m.root) rs r t ds (Err e) → RootsLeaves (record m { root = 0 }) r0 r (tr ++ t) (es ++ ds) (Err e)
  stopped e (vs, d) =
      let f = frees-append es ds in
      let n = drops_most m.me.geometry.wide m.root h.low in
      let torn = tear_sum m.me.geometry.wide (frees (es ++ ds) + length vs) (frees es) (frees ds + length vs) (omega arith) in
      let bound = within_more ((8 + redo_steps m.me.geometry.wide) * m.root + tear_steps m.me.geometry.wide (frees es)) (8 + redo_steps m.me.geometry.wide + tear_steps m.me.geometry.wide (frees ds + length vs)) tr t h.gone.bound d.bound in (
        vs,
        record {
          at = record { root = m.root; low = h.low; q = rs; first = tr; next = t; asked = refl; before = es; after = ds; split = refl; gone = h.gone; drop = d };
          left = left_more c (λ j. nat_lt j m.root || (m.root == j)) (λ j. nat_lt j 16) r0 r (λ j e. grind (arith, nat_tests)) (left_then c (λ j. nat_lt j m.root) (λ j. m.root == j) r0 rs r h.gone.left d.left);
          stopped = record { left = d.stopped.left; others = d.stopped.others ∙ h.gone.dying; spent = d.stopped.spent };
          most = d.most;
          bound = omega arith;
        },
      )

-- a root that was dropped leads on
went : (m : RootsState) (r0 r : Memo) (tr : Trail) (es : List Event) → MayDrop m.me r0 → m.root < 16 → AreGone m.me (m.root + 1) r0 r tr es → (q : Bool) → (q ≡ true → m.root ≡ 15) → (q ≡ false → m.root ≢ 15)
    → Outcome (if q then Some (Ok tt) else None) (RootsKnows (if q then m else on m) r0 r tr es) (RootsLeaves (record m { root = 0 }) r0 r tr es)
went m r0 r tr es may low gone true last more = subst (λ n. AreGone m.me n r0 r tr es) (let e = last refl in omega arith) gone
went m r0 r tr es may low gone false last more = record { may = may; low = (let n = more refl in omega arith); gone = gone }

-- what is known before the first root
pub roots_begin : (me : Me) (r : Memo) → MayDrop me r → RootsKnows (dropping_roots me) r r [] []
roots_begin me r may =
    record {
      may = may;
      low = omega arith;
      gone = record { left = left_core me.who (λ j. nat_lt j 0) r r may.idle refl; gone = λ j l. absurd (omega arith); dying = refl; events = refl; bound = omega arith };
    }

pub roots_laws : PlanLaws drop_root roots_plan
roots_laws =
    record {
      stays = stays;
      calls = λ m. record { me = refl; asks = refl };
      parts = λ m. calls_part_laws drop_parts drop_plan drop_laws (m.root == 0);
      opens = opens;
      leads = λ m r0 rs r tr t es ds b h g held same. leads m r0 rs r tr t es ds b h g;
    }
  where
    stays : (m : RootsState) (b : Result Bool EraSpent) → PlanStays drop_root roots_plan m b
    stays m (Err e) = record { same_me = refl; same_line = refl; same_start = refl; started = λ e. absurd (cc) }
    stays m (Ok z) = record { same_me = same m (λ (x : RootsState). x.me) refl (m.root == 15); same_line = refl; same_start = same m roots_steered.start refl (m.root == 15); started = later m (m.root == 15) }

    leads : (m : RootsState) (r0 rs r : Memo) (tr t : Trail) (es ds : List Event) (b : Result Bool EraSpent) → RootsKnows m r0 rs tr es → DropLeaves (dropping m.me m.root) rs r t ds b → Follows drop_root roots_plan m b r0 r (tr ++ t) (es ++ ds)
    leads m r0 rs r tr t es ds (Err e) h g = stopped m r0 rs r tr t es ds h e g
    leads m r0 rs r tr t es ds (Ok z) h g = went m r0 r (tr ++ t) (es ++ ds) h.may h.low (one_more m r0 rs r tr t es ds h z g) (m.root == 15) (eqb-true m.root 15) (eqb-false m.root 15)
