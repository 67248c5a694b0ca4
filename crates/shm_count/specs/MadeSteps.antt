-- count steps, tear-downs and blocks that the call made: what stays of them, and that the count of one that is to be raised isn't full
use Rattle.std.proofs.Common.{◌≡◌, ℕ, ◌<◌, refl, sym, ap, ◌∙◌, subst, arith, Bool, true, false, eqb, ltb, ◌&&◌, [], ◌∷◌, ◌++◌}
use Rattle.std.proofs.lemmas.{Bool.{and_parts, eqb-true, true≢false}, List.Elements.All-contains}
use Rattle.std.specs.{Prelude.{◌==◌, if◌then◌else◌, Result, Ok, Err}, List.{Contains, list_any}, Option.option_map}
use Rattle.shm_words.specs.Headers.{header_of}
use Rattle.shm_graph.specs.declared.{ask.{Ask.Ask, Me.Me}, spot.Spot.{Spot, TheVariants.{Head, Root}}, memo.Memo.Memo}
use Rattle.shm_graph.specs.{Asks.{at_of, pair, seen_of}, Blocks.{classes, IsBlock}, Changes.memo_on}
use Rattle.shm_graph.specs.{Held.{HeldAt, MadeAt}, Laws.{Outcome, framed}, Spots.spot_at, Views.{targets, view}}
use Rattle.shm_graph.proofs.StepKinds.Loads.{choice}
use Rattle.plans.specs.{Proved.CallTells.mapped_events, MadeStays.{making_laws, making_part, touches}}
use Rattle.plans.specs.{Parts.{Part, PartLaws}, Placed.PlacedKeeps}
use Rattle.shm_count.specs.declared.answer.{EraSpent.EraSpent as AEraSpent, UpFault.UpFault}
use Rattle.shm_count.specs.declared.{answer.UpFault.TheVariants.{EraSpent, CountFull}, point.Aim.Aim}
use Rattle.shm_count.specs.declared.point.{Aim.TheVariants.{Up, Down, Change}, Half.{Half, TheVariants.{First, Second}}}
use Rattle.shm_count.specs.declared.point.{StepPoint.StepPoint, StepState.StepState, StepNext.StepNext}
use Rattle.shm_count.specs.declared.{point.StepNext.TheVariants.{Point, Answer}, tear_point.TearState.TearState}
use Rattle.shm_count.specs.Step.Control.{PointFits, answer_of, block_at, committed_next, header_next, last_era, raises, step_ask, step_ask_at, step_control, step_next, step_next_at, first_next}
use Rattle.shm_count.specs.Step.{Events.{events_at, step_event, step_start}, CanStep, PointHas}
use Rattle.shm_count.specs.{Step.Machines.{is_up, up_answer, up_control, down_control}, Proved.Step.Headers.half_block}
use Rattle.shm_count.specs.Tear.{Control.tear_control, Events.tear_start}
use Rattle.shm_count.specs.CountParts.{change_part, change_part_laws, down_part, down_part_laws, tear_part, up_part, up_part_laws}
use Rattle.shm_count.specs.declared.point.StepPoint.TheVariants as point

-- ---- what stays of the blocks that the call made

module _ (p : Spot) (first : Bool) where
  started : (m : StepState) → m.point ≡ point.Era → step_start m ≡ m
  started m e = ap (λ (y : StepPoint). record m { point = y }) (sym e)

  abbrev pub up_making : Part StepState (Result (Unit {0}) UpFault)
  up_making = making_part step_start first up_control (up_part p)

  pub up_making_laws : PartLaws first up_control up_making
  up_making_laws = making_laws step_start first up_control (up_part p) (λ m n. refl) (λ m r n. started m n.1.made) (up_part_laws p first)

  abbrev pub down_making : Part StepState (Result Bool AEraSpent)
  down_making = making_part step_start first down_control (down_part p)

  pub down_making_laws : PartLaws first down_control down_making
  down_making_laws = making_laws step_start first down_control (down_part p) (λ m n. refl) (λ m r n. started m n.1.made) (down_part_laws p first)

  abbrev pub change_making : Part StepState (Result Bool UpFault)
  change_making = making_part step_start first step_control (change_part p)

  pub change_making_laws : PartLaws first step_control change_making
  change_making_laws = making_laws step_start first step_control (change_part p) (λ m n. refl) (λ m r n. started m n.1.made) (change_part_laws p first)

abbrev pub tear_making : Bool → Part TearState (Result (Unit {0}) AEraSpent)
tear_making first = making_part tear_start first tear_control tear_part

-- ---- a block that the call made is never full

-- the count of a block isn't full
abbrev pub IsNotFull : {A : Type 0} → Result A UpFault → Type 0
IsNotFull (Err (CountFull b n)) = ⊥
IsNotFull a = Unit {0}

-- by a header that shows count 1
header_not : (me : Me) (x : Aim) (e : ℕ) (h : Half) (w d k : ℕ) → (header_of w).count ≡ 1 → header_next me x e h w ≡ Answer (Err (CountFull d k)) → ⊥
header_not me x e h w d k one =
    choice (λ (y : StepNext). y ≡ Answer (Err (CountFull d k)) → ⊥) (raises x h && eqb (header_of w).count 1023) (Answer (Err (CountFull (block_at x h) (header_of w).count)))
    (if (header_of w).client == me.who then Point (point.Exchange e h w) else Point (point.Row e h w))
    (λ z _. let full : (header_of w).count ≡ 1023 = eqb-true (header_of w).count 1023 (and_parts (raises x h) (eqb (header_of w).count 1023) z).1 in absurd (omega arith))
    (λ _. choice (λ (y : StepNext). y ≡ Answer (Err (CountFull d k)) → ⊥) (eqb (header_of w).client me.who) (Point (point.Exchange e h w)) (Point (point.Row e h w)) (λ _ u. cc) (λ _ u. cc))

module _ (me : Me) (slot : ℕ) (p : Spot) (r0 : Memo) (w : Spot → ℕ) (r : ℕ → Memo) (held : HeldAt me.geometry w (view r)) (l : me.who < me.geometry.clients) where
  -- the word that is found at a point
  abbrev seen : Aim → StepPoint → ℕ
  seen x y = seen_of (step_ask_at me slot x y) (w (spot_at me.geometry (classes w) (at_of (step_ask_at me slot x y))))

  -- a block that the call made has count 1
  one_at : (b : ℕ) → IsBlock me.geometry (classes w) b → Contains (r me.who).made b → (header_of (w (spot_at me.geometry (classes w) b))).count ≡ 1
  one_at b block has = subst (λ (q : Spot). (header_of (w q)).count ≡ 1) (sym block) (All-contains (MadeAt (λ d. header_of (w (Head d))) (λ k. targets me.geometry w (view r) (Root me.who k))) (r me.who).made b (held.made me.who l) has).0

  not_full : (b : ℕ) (y : StepPoint) (d k : ℕ) → CanStep me slot (Up b) p r0 → PointFits me (Up b) y → PointHas me slot (Up b) p r0 (r me.who) y → (list_any (touches b) (events_at me (Up b) p y) ≡ false → Contains (r me.who).made b) → step_next_at me (Up b) y (seen (Up b) y) ≡ Answer (Err (CountFull d k)) → ⊥
  not_full b point.Era d k can fits has made leads =
      choice (λ (y : StepNext). y ≡ Answer (Err (CountFull d k)) → ⊥) (ltb (last_era (Up b)) (seen (Up b) point.Era)) (Answer (Err (EraSpent (seen (Up b) point.Era)))) (first_next me (seen (Up b) point.Era)) (λ _ u. cc) (λ _ u. cc) leads
  not_full b (point.More e) d k can fits has made leads = cc
  not_full b (point.Redo e) d k can fits has made leads = cc
  not_full b (point.Load e First) d k can fits has made leads =
      header_not me (Up b) e First (seen (Up b) (point.Load e First)) d k (one_at b (half_block me slot p r0 w r e held l (Up b) First can fits.0 fits.1 has) (made refl)) leads
  not_full b (point.Load e Second) d k can fits has made leads = absurd fits.1
  not_full b (point.Row e h v) d k can fits has made leads =
      choice (λ (y : StepNext). y ≡ Answer (Err (CountFull d k)) → ⊥) (ltb (seen (Up b) (point.Row e h v)) (header_of v).era) (Point (point.Show e h v)) (Point (point.Exchange e h v)) (λ _ u. cc) (λ _ u. cc) leads
  not_full b (point.Show e h v) d k can fits has made leads = cc
  not_full b (point.Exchange e First v) d k can fits has made leads =
      let n : ℕ = seen (Up b) (point.Exchange e First v) in
      choice (λ (y : StepNext). y ≡ Answer (Err (CountFull d k)) → ⊥) (eqb n v) (committed_next (Up b) e First v) (header_next me (Up b) e First n) (λ _ u. cc)
      (λ _. header_not me (Up b) e First n d k (one_at b (half_block me slot p r0 w r e held l (Up b) First can fits.0 fits.1 has.0) (made refl))) leads
  not_full b (point.Exchange e Second v) d k can fits has made leads = absurd fits.1
  not_full b (point.Slot e z) d k can fits has made leads = cc
  not_full b (point.Close e First z) d k can fits has made leads = cc
  not_full b (point.Close e Second z) d k can fits has made leads = absurd fits.1
  not_full b point.Over d k can fits has made leads = cc

  -- of a step that raises its block
  up_not_full : (x : Aim) (y : StepPoint) (d k : ℕ) → is_up x ≡ true → CanStep me slot x p r0 → PointFits me x y → PointHas me slot x p r0 (r me.who) y → (list_any (touches (block_at x First)) (events_at me x p y) ≡ false → Contains (r me.who).made (block_at x First)) → step_next_at me x y (seen x y) ≡ Answer (Err (CountFull d k)) → ⊥
  up_not_full (Up b) y d k up can fits has made leads = not_full b y d k can fits has made leads
  up_not_full (Down b) y d k up can fits has made leads = true≢false (sym up)
  up_not_full (Change a b) y d k up can fits has made leads = true≢false (sym up)

module _ (p : Spot) where
  abbrev base : Part StepState (Result (Unit {0}) UpFault)
  base = up_making p false

  -- a step up whose block the call made
  abbrev pub made_up_part : Part StepState (Result (Unit {0}) UpFault)
  made_up_part =
      record {
        fits = λ m r0 r tr. base.fits m r0 r tr × Contains r0.made (block_at m.aim First);
        gives = λ m r0 r tr a. base.gives m r0 r tr a × IsNotFull a;
        does = base.does;
        needs = λ m r. base.needs m r × Contains r.made (block_at m.aim First);
        leaves = λ m rs r t es a. base.leaves m rs r t es a × IsNotFull a;
        asks = base.asks;
      }

  made_up_keeps : PlacedKeeps false up_control made_up_part.fits made_up_part.gives
  made_up_keeps m r0 tr w r f going s may fit =
      let me : Me = m.me in
      let a : Ask = step_ask m in
      let at : Spot = spot_at me.geometry (classes w) (at_of a) in
      let n : ℕ = seen_of a (w at) in
      let x : Memo = memo_on (r me.who) (framed me a f n) at in
      let kept = (up_making_laws p false).placed.keeps m r0 tr w r f going s may fit.0 in
      let step = fit.0.0.1 in
      let made : list_any (touches (block_at m.aim First)) (events_at me m.aim p m.point) ≡ false → Contains (r me.who).made (block_at m.aim First) = λ t.
      fit.0.2 refl (block_at m.aim First) fit.1 (ap (list_any (touches (block_at m.aim First))) (mapped_events up_answer step_control (step_event p) (step_start m) tr ∙ step.events) ∙ t) in
      record {
        told = kept.told;
        step = kept.step;
        fits = go (step_next m n) (base.fits (up_control.after m n) r0 x (tr ++ pair a n ∷ [])) (base.gives m r0 x (tr ++ pair a n ∷ []))
            (λ d k e. up_not_full me m.slot p r0 w r s.held s.who m.aim m.point d k fit.0.0.0 step.can step.knows.point step.holds.has made e) fit.1 kept.fits;
      }
    where
      go : {C : Type 0} (y : StepNext) (P : Type 0) (Q : Result (Unit {0}) UpFault → Type 0) → ((d k : ℕ) → y ≡ Answer (Err (CountFull d k)) → ⊥) → C
          → Outcome (option_map up_answer (answer_of y)) P Q → Outcome (option_map up_answer (answer_of y)) (P × C) (λ a. Q a × IsNotFull a)
      go (Point y) P Q never c h = (h, c)
      go (Answer (Ok z)) P Q never c h = (h, tt)
      go (Answer (Err (EraSpent n))) P Q never c h = (h, tt)
      go (Answer (Err (CountFull d k))) P Q never c h = absurd (never d k refl)

  pub made_up_laws : PartLaws false up_control made_up_part
  made_up_laws =
      let l = up_making_laws p false in
      record {
        placed = record {
          steady = l.placed.steady;
          inside = λ m r0 r tr who fit. l.placed.inside m r0 r tr who fit.0;
          back = λ m n going goes r0 r tr a g. (l.placed.back m n going goes r0 r tr a g.0, g.1);
          keeps = made_up_keeps;
        };
        tells = λ m r0 tr w r f going s fit. l.tells m r0 tr w r f going s fit.0;
        begins = λ m r n. (l.begins m r n.0, n.1);
        ends = λ m rs r t a n g held same. (l.ends m rs r t a n.0 g.0 held same, g.1);
        asked = λ m rs r t a n g. l.asked m rs r t a n.0 g.0;
      }
