-- a count step from a later point on, as a part: what comes before it, a larger machine does in another way
use Rattle.std.proofs.Common.{◌≡◌, ℕ, Bool, false, refl, sym, ap, ◌∙◌, subst, append_assoc, append-nil, List, [], ◌∷◌, ◌++◌}
use Rattle.std.specs.{Prelude.Result, List.filter}
use Rattle.shm_graph.specs.{declared.{spot.Spot.Spot, memo.Memo.Memo}, Asks.{Trail, pair}, Events.Event}
use Rattle.shm_graph.specs.{Laws.{Outcome, Then}, Tells.{after_all, happens_along, is_event}}
use Rattle.shm_graph.proofs.Machines.TellsAlong.{after_all-append, happens_along-append}
use Rattle.plans.specs.{Parts.{Part, PartLaws}, Placed.PlacedKeeps}
use Rattle.shm_count.specs.declared.{answer.UpFault.UpFault, point.{StepPoint.StepPoint, StepState.StepState}}
use Rattle.shm_count.specs.declared.point.StepNext.{StepNext, TheVariants.{Point, Answer}}
use Rattle.shm_count.specs.Step.Control.{StepInRange, step_ask, step_control, step_next, point_of, answer_of}
use Rattle.shm_count.specs.Step.{Events.{events_at, own_events, step_event}, CanStep, Gives, NextHolds, PointHolds}
use Rattle.shm_count.specs.Step.Asks.{point_trail}
use Rattle.shm_count.specs.Proved.Step.Going.{Told, events_with, has_part, told_next, trail_ends, trail_goes}
use Rattle.shm_count.specs.Proved.Step.{Keeps.step_at, Ranges.knows_after, Laws.{ask_inside, step_steady}}
use Rattle.shm_count.specs.Proved.Step.Tells.{tells_at}

module _ (p : Spot) (y0 : StepPoint) where
  -- the step at the point where it is taken up
  abbrev from : StepState → StepState
  from m = record m { point = y0 }

  -- the memo rs was that of a step that could begin with the memo r0 and came to this point
  pub record CameTo (m : StepState) (r0 rs : Memo) : Type 0 where
    pub can : CanStep m.me m.slot m.aim p r0
    pub holds : PointHolds m.me m.slot m.aim p r0 rs y0

  pub record FitsFrom (m : StepState) (rs r : Memo) (tr : Trail) : Type 0 where
    pub r0 : Memo
    pub came : CameTo m r0 rs
    pub knows : StepInRange m
    pub holds : PointHolds m.me m.slot m.aim p r0 r m.point
    pub trail : (rest : Trail) (a : Result Bool UpFault) → point_trail m.me m.slot m.aim m.point rest a → point_trail m.me m.slot m.aim y0 (tr ++ rest) a
    pub course : after_all step_control (from m) tr ≡ m
    pub events : events_at m.me m.aim p y0 ++ happens_along step_control (step_event p) (from m) tr ≡ events_at m.me m.aim p m.point

  -- the step is done or refused, the trail is one from the point on, and the events are those that were left
  pub record GivesFrom (m : StepState) (rs r : Memo) (tr : Trail) (a : Result Bool UpFault) : Type 0 where
    pub r0 : Memo
    pub came : CameTo m r0 rs
    pub gives : Gives m.me m.slot m.aim p r0 r a
    pub trail : point_trail m.me m.slot m.aim y0 tr a
    pub events : events_at m.me m.aim p y0 ++ happens_along step_control (step_event p) (from m) tr ≡ own_events m.me m.aim p a

  -- the events of one more pair
  told_more : (m : StepState) (rs r : Memo) (tr : Trail) (n : ℕ) → FitsFrom m rs r tr → events_at m.me m.aim p y0 ++ happens_along step_control (step_event p) (from m) (tr ++ pair (step_ask m) n ∷ []) ≡ events_with m.me m.aim p m.point n
  told_more m rs r tr n fit =
      let one : StepState → List Event = λ x. filter is_event (step_event p x n ∷ []) in
      let es : List Event = happens_along step_control (step_event p) (from m) tr in
      ap (λ e. events_at m.me m.aim p y0 ++ e) (happens_along-append step_control (step_event p) (from m) tr (pair (step_ask m) n) ∙ ap (λ x. es ++ one x) fit.course)
      ∙ (sym (append_assoc (events_at m.me m.aim p y0) es (one m)) ∙ ap (λ e. e ++ one m) fit.events)

  told_on : (m : StepState) (rs r : Memo) (tr : Trail) (n : ℕ) (y : StepNext) → FitsFrom m rs r tr → step_next m n ≡ y → Told m.me m.aim p y (events_at m.me m.aim p y0 ++ happens_along step_control (step_event p) (from m) (tr ++ pair (step_ask m) n ∷ []))
  told_on m rs r tr n y fit e =
      subst (Told m.me m.aim p y) (sym (told_more m rs r tr n fit)) (subst (λ (z : StepNext). Told m.me m.aim p z (events_with m.me m.aim p m.point n)) e (told_next m.me m.aim p m.point n (has_part m.me m.aim m.point fit.knows.point)))

  then_from : (m : StepState) (rs r x : Memo) (tr : Trail) (n : ℕ) (fit : FitsFrom m rs r tr) → NextHolds m.me m.slot m.aim p fit.r0 x (step_next m n) → Then step_control FitsFrom GivesFrom m rs tr n x
  then_from m rs r x tr n fit h = go (step_next m n) refl h
    where
      go : (y : StepNext) → step_next m n ≡ y → NextHolds m.me m.slot m.aim p fit.r0 x y
          → Outcome (answer_of y) (FitsFrom (record m { point = point_of y }) rs x (tr ++ pair (step_ask m) n ∷ [])) (GivesFrom m rs x (tr ++ pair (step_ask m) n ∷ []))
      go (Point y) e z =
          record {
            r0 = fit.r0;
            came = record { can = fit.came.can; holds = fit.came.holds };
            knows = knows_after m n fit.knows y e;
            holds = z;
            trail = λ rest a t. subst (λ (u : Trail). point_trail m.me m.slot m.aim y0 u a) (sym (append_assoc tr (pair (step_ask m) n ∷ []) rest)) (fit.trail (pair (step_ask m) n ∷ rest) a (trail_goes m.me m.slot m.aim m.point y n fit.knows.point e rest a t));
            course = after_all-append step_control (from m) tr (pair (step_ask m) n) ∙ (ap (λ (u : StepState). step_control.after u n) fit.course ∙ ap (λ (u : StepNext). record m { point = point_of u }) e);
            events = told_on m rs r tr n (Point y) fit e;
          }
      go (Answer a) e z =
          record {
            r0 = fit.r0;
            came = fit.came;
            gives = z;
            trail = fit.trail (pair (step_ask m) n ∷ []) a (trail_ends m.me m.slot m.aim m.point n a fit.knows.point e);
            events = told_on m rs r tr n (Answer a) fit e;
          }

  keeps : PlacedKeeps false step_control FitsFrom GivesFrom
  keeps m rs tr w r f going s may fit =
      let k = step_at m.me m.slot m.aim p fit.r0 w r f tr m.point going s (λ z. may refl) fit.came.can fit.knows.point fit.holds in
      record { told = k.told; step = k.step; fits = then_from m rs (r m.me.who) _ tr _ fit k.fits }

  -- what it needs: it is made at the point, and the memo is that of a step that came to it
  pub record IsFrom (m : StepState) (r : Memo) : Type 0 where
    pub made : m.point ≡ y0
    pub knows : StepInRange m
    pub r0 : Memo
    pub came : CameTo m r0 r

  -- what it leaves: the step is done or refused, as one that began with that memo, and the events are those that were left
  pub record FromLeaves (m : StepState) (rs r : Memo) (t : Trail) (es : List Event) (a : Result Bool UpFault) : Type 0 where
    pub r0 : Memo
    pub came : CameTo m r0 rs
    pub gives : Gives m.me m.slot m.aim p r0 r a
    pub events : events_at m.me m.aim p y0 ++ es ≡ own_events m.me m.aim p a
    pub trail : point_trail m.me m.slot m.aim y0 t a

  abbrev pub from_part : Part StepState (Result Bool UpFault)
  from_part = record { fits = FitsFrom; gives = GivesFrom; does = step_event p; needs = IsFrom; leaves = FromLeaves; asks = λ m. point_trail m.me m.slot m.aim y0 }

  same_from : (m : StepState) → m.point ≡ y0 → from m ≡ m
  same_from m e = ap (λ (y : StepPoint). record m { point = y }) (sym e)

  pub from_part_laws : PartLaws false step_control from_part
  from_part_laws =
      record {
        placed = record {
          steady = step_steady;
          inside = λ m rs r tr l fit going. (ask_inside m.me m.slot m.aim p fit.r0 r m.point fit.knows.geometry l fit.came.can.blocks fit.came.can.inside fit.holds.has going).1;
          back = λ m n going goes rs r tr a g. record { r0 = g.r0; came = record { can = g.came.can; holds = g.came.holds }; gives = g.gives; trail = g.trail; events = g.events };
          keeps = keeps;
        };
        tells = λ m rs tr w r f going st fit. tells_at m.me m.slot m.aim p fit.r0 w r f tr m.point st fit.came.can fit.knows.point fit.holds going;
        begins = λ m r n. record {
          r0 = n.r0;
          came = n.came;
          knows = n.knows;
          holds = subst (PointHolds m.me m.slot m.aim p n.r0 r) (sym n.made) n.came.holds;
          trail = λ rest a t. subst (λ (y : StepPoint). point_trail m.me m.slot m.aim y rest a) n.made t;
          course = same_from m n.made;
          events = append-nil (events_at m.me m.aim p y0) ∙ ap (events_at m.me m.aim p) (sym n.made);
        };
        ends = λ m rs r t a n g held same. record { r0 = g.r0; came = g.came; gives = g.gives; events = subst (λ (u : StepState). events_at m.me m.aim p y0 ++ happens_along step_control (step_event p) u t ≡ own_events m.me m.aim p a) (same_from m n.made) g.events; trail = g.trail };
        asked = λ m rs r t a n g. g.trail;
      }
