-- a count step goes along its trails: each word step is the next pair of a trail from its point
use Rattle.std.proofs.Common.{◌≡◌, ◌≢◌, ℕ, zero, suc, refl, sym, ap, ◌∙◌, subst, Bool, true, false, cond, List, [], ◌∷◌, ◌++◌, append_assoc}
use Rattle.std.specs.{List.filter, Prelude.{◌==◌, ◌&&◌, not, nat_lt, if◌then◌else◌, Result, Err}}
use Rattle.shm_words.specs.Headers.{header_of}
use Rattle.shm_graph.specs.{declared.{ask.Me.Me, spot.Spot.Spot, memo.{Memo.Memo, Seen.Seen}}, Asks.{Trail, pair}}
use Rattle.shm_graph.specs.{Trails.{Answers, Chosen}, Events.Event, Tells.{is_event, after_all, happens_along}}
use Rattle.shm_graph.specs.Events as event
use Rattle.shm_graph.proofs.Machines.TellsAlong.{after_all-append, happens_along-append}
use Rattle.shm_count.specs.declared.{answer.UpFault.{UpFault, TheVariants.{EraSpent, CountFull}}, point.Aim.Aim}
use Rattle.shm_count.specs.declared.point.{Aim.TheVariants.{Up, Down, Change}, Half.{Half, TheVariants.{First, Second}}}
use Rattle.shm_count.specs.declared.point.{StepPoint.StepPoint, StepState.StepState, StepNext.StepNext}
use Rattle.shm_count.specs.declared.point.StepNext.TheVariants.{Point, Answer}
use Rattle.shm_count.specs.Step.Control.{last_era, block_at, raises, step_ask, step_ask_at, step_next, step_next_at, header_next, row_next, committed_next, exchange_next, closed_next, point_of, PartFits, PointFits, StepInRange, step_control, first_next}
use Rattle.shm_count.specs.Step.Asks.{StepTrails, step_trail, point_trail, redo_trail, header_trail, row_trail, show_trail, exchange_trail, set_trail, after_set, again_trail, first_trail, more_trail}
use Rattle.shm_count.specs.Step.Events.{step_event, step_event_at, step_start, event_of_half, events_before, events_at, own_events}
use Rattle.shm_count.specs.{Step.{CanStep, PointHolds, Gives, StepFits, StepGives}, Proved.Step.Status.gives_status}
use Rattle.shm_count.specs.declared.point.StepPoint.TheVariants as point
use Rattle.plans.specs.{Grown.Grows, Proved.Grown.grows_now}

-- ---- trails

-- all trails of the first kind are of the second
abbrev IsPart : StepTrails → StepTrails → Type 0
IsPart f g = (tr : Trail) (a : Result Bool UpFault) → f tr a → g tr a

module _ (me : Me) (slot : ℕ) (x : Aim) where
  -- the trails from where a step leads on
  abbrev next_trail : StepNext → StepTrails
  next_trail (Point y) = point_trail me slot x y
  next_trail (Answer a) = Answers a

  -- the same choice, of where to go and of what follows
  chosen : (b : Bool) (y z : StepNext) (f g : StepTrails) → IsPart (next_trail y) f → IsPart (next_trail z) g → IsPart (next_trail (if b then y else z)) (Chosen b f g)
  chosen true y z f g one other = one
  chosen false y z f g one other = other

  -- ---- the exchange of a half

  -- the exchange of a half from header w, where it is tried again at most n times
  abbrev exchange_from : ℕ → Half → ℕ → ℕ → StepTrails
  exchange_from e h n w = exchange_trail me (raises x h) (block_at x h) e w (again_trail me slot x e h n) (after_set me slot x e h)

  -- the store in the own row, and that exchange
  abbrev show_from : ℕ → Half → ℕ → ℕ → StepTrails
  show_from e h n w = show_trail me (raises x h) (block_at x h) e w (again_trail me slot x e h n) (after_set me slot x e h)

  -- the load of the own row, and what follows
  abbrev row_from : ℕ → Half → ℕ → ℕ → StepTrails
  row_from e h n w = row_trail me (raises x h) (block_at x h) e w (again_trail me slot x e h n) (after_set me slot x e h)

  -- what a header w leads to in a half, where the exchange is tried again at most n times
  abbrev by_header : ℕ → Half → ℕ → ℕ → StepTrails
  by_header e h n w = header_trail me (raises x h) (block_at x h) e w (again_trail me slot x e h n) (after_set me slot x e h)

  -- the trails of at most n further tries
  abbrev with_tries : ℕ → Half → ℕ → ℕ → StepTrails
  with_tries e h n w = set_trail me n (raises x h) (block_at x h) e (after_set me slot x e h) w

  -- a header leads to the exchange with its tries
  tries : (e : ℕ) (h : Half) (n w : ℕ) → IsPart (by_header e h n w) (with_tries e h n w)
  tries e h zero w tr a t = t
  tries e h (suc n) w tr a t = t

  -- what follows a header is the exchange with so many tries as it takes
  after_header : (e : ℕ) (h : Half) (w : ℕ) (tr : Trail) (a : Result Bool UpFault) → next_trail (header_next me x e h w) tr a → (n : ℕ) × with_tries e h n w tr a
  after_header e h w tr a t = let k = go (raises x h && ((header_of w).count == 1023)) ((header_of w).client == me.who) t in (k.0, tries e h k.0 w tr a k.1)
    where
      go : (full own : Bool) → next_trail (if full then Answer (Err (CountFull (block_at x h) (header_of w).count)) else if own then Point (point.Exchange e h w) else Point (point.Row e h w)) tr a
          → (n : ℕ) × Chosen full (Answers (Err (CountFull (block_at x h) (header_of w).count))) (Chosen own (exchange_from e h n w) (row_from e h n w)) tr a
      go true own u = (0, u)
      go false true u = u
      go false false u = u

  -- ---- each point

  -- what follows a step at a point is the end of a trail from that point
  abbrev Goes : StepPoint → Type 0
  Goes y = (n : ℕ) (rest : Trail) (a : Result Bool UpFault) → next_trail (step_next_at me x y n) rest a → point_trail me slot x y (pair (step_ask_at me slot x y) n ∷ rest) a

  -- the store that comes after the own era
  first_goes : (n : ℕ) → IsPart (next_trail (first_next me n)) (first_trail me slot x n)
  first_goes n rest a t = go me.geometry.wide t
    where
      go : (b : Bool) → next_trail (Point (if b then point.More n else point.Redo n)) rest a → Chosen b (more_trail me slot x n) (redo_trail me slot x n) rest a
      go true u = u
      go false u = u

  -- the own era
  era_goes : Goes point.Era
  era_goes n rest a t = (n, (rest, (refl, chosen (nat_lt (last_era x) n) (Answer (Err (EraSpent n))) (first_next me n) (Answers (Err (EraSpent n))) (first_trail me slot x n) (λ tr b u. u) (first_goes n) rest a t)))

  -- the header
  load_goes : (e : ℕ) (h : Half) → Goes (point.Load e h)
  load_goes e h n rest a t = (n, (rest, (refl, after_header e h n rest a t)))

  -- the own row
  row_goes : (e : ℕ) (h : Half) (w : ℕ) → Goes (point.Row e h w)
  row_goes e h w n rest a t = let k = go (nat_lt n (header_of w).era) t in (k.0, (n, (rest, (refl, k.1))))
    where
      go : (b : Bool) → next_trail (if b then Point (point.Show e h w) else Point (point.Exchange e h w)) rest a
          → (k : ℕ) × Chosen b (show_from e h k w) (exchange_from e h k w) rest a
      go true u = u
      go false u = u

  -- the store in the own row
  show_goes : (e : ℕ) (h : Half) (w : ℕ) → Goes (point.Show e h w)
  show_goes e h w n rest a t = (t.0, (n, (rest, (refl, t.1))))

  -- the exchange that found the header it names
  committed_goes : (e : ℕ) (h : Half) (w : ℕ) → IsPart (next_trail (committed_next x e h w)) (after_set me slot x e h (not (raises x h) && ((header_of w).count == 1)))
  committed_goes e First w tr a t = t
  committed_goes e Second w tr a t = t

  -- the exchange: where it found another header it is tried once more
  exchange_goes : (e : ℕ) (h : Half) (w : ℕ) → Goes (point.Exchange e h w)
  exchange_goes e h w n rest a t = let k = go (n == w) t in (k.0, (n, (rest, (refl, k.1))))
    where
      go : (b : Bool) → next_trail (if b then committed_next x e h w else header_next me x e h n) rest a
          → (k : ℕ) × Chosen b (after_set me slot x e h (not (raises x h) && ((header_of w).count == 1))) (again_trail me slot x e h k n) rest a
      go true u = (0, committed_goes e h w rest a u)
      go false u = let k = after_header e h n rest a u in (suc k.0, k.1)

-- the own era: for a change its second half follows the first one, and otherwise the answer
close_goes : (me : Me) (slot : ℕ) (x : Aim) (e : ℕ) (h : Half) (z : Bool) → Goes me slot x (point.Close e h z)
close_goes me slot (Up b) e First z n rest a t = (n, (rest, (refl, t)))
close_goes me slot (Down b) e First z n rest a t = (n, (rest, (refl, t)))
close_goes me slot (Change b d) e First z n rest a t = (n, (rest, (refl, t)))
close_goes me slot (Up b) e Second z n rest a t = (n, (rest, (refl, t)))
close_goes me slot (Down b) e Second z n rest a t = (n, (rest, (refl, t)))
close_goes me slot (Change b d) e Second z n rest a t = (n, (rest, (refl, t)))

-- any point
step_goes : (me : Me) (slot : ℕ) (x : Aim) (y : StepPoint) → Goes me slot x y
step_goes me slot x point.Era = era_goes me slot x
step_goes me slot x (point.More e) = λ n rest a t. (n, (rest, (refl, t)))
step_goes me slot x (point.Redo e) = λ n rest a t. (n, (rest, (refl, t)))
step_goes me slot x (point.Load e h) = load_goes me slot x e h
step_goes me slot x (point.Row e h w) = row_goes me slot x e h w
step_goes me slot x (point.Show e h w) = show_goes me slot x e h w
step_goes me slot x (point.Exchange e h w) = exchange_goes me slot x e h w
step_goes me slot x (point.Slot e z) = λ n rest a t. (n, (rest, (refl, t)))
step_goes me slot x (point.Close e h z) = close_goes me slot x e h z
step_goes me slot x point.Over = λ n rest a t. absurd t

-- a step that leads to a point is followed by the trails from that point
pub trail_goes : (me : Me) (slot : ℕ) (x : Aim) (y y2 : StepPoint) (n : ℕ) → PointFits me x y → step_next_at me x y n ≡ Point y2 → (rest : Trail) (a : Result Bool UpFault) → point_trail me slot x y2 rest a → point_trail me slot x y (pair (step_ask_at me slot x y) n ∷ rest) a
trail_goes me slot x y y2 n l e rest a t = step_goes me slot x y n rest a (subst (λ (u : StepNext). next_trail me slot x u rest a) (sym e) t)

-- a step that leads to an answer is the last one
pub trail_ends : (me : Me) (slot : ℕ) (x : Aim) (y : StepPoint) (n : ℕ) (a : Result Bool UpFault) → PointFits me x y → step_next_at me x y n ≡ Answer a → point_trail me slot x y (pair (step_ask_at me slot x y) n ∷ []) a
trail_ends me slot x y n a l e = step_goes me slot x y n [] a (subst (λ (u : StepNext). next_trail me slot x u [] a) (sym e) (refl, refl))

-- a list that ends in an item isn't empty
pub ends_in : (tr : Trail) (s : Seen) → (tr ++ s ∷ []) ≢ []
ends_in [] s e = absurd (cc)
ends_in (x ∷ tr) s e = absurd (cc)

-- ---- events

-- the half of a point, where it has one, is one of the step's
abbrev pub HasPart : Aim → StepPoint → Type 0
HasPart x (point.Load e h) = PartFits x h
HasPart x (point.Row e h w) = PartFits x h
HasPart x (point.Show e h w) = PartFits x h
HasPart x (point.Exchange e h w) = PartFits x h
HasPart x (point.Close e h z) = PartFits x h
HasPart x y = Unit {0}

-- the half of a point that fits
pub has_part : (me : Me) (x : Aim) (y : StepPoint) → PointFits me x y → HasPart x y
has_part me x point.Era l = tt
has_part me x (point.More e) l = tt
has_part me x (point.Redo e) l = tt
has_part me x (point.Load e h) l = l.1
has_part me x (point.Row e h w) l = l.1
has_part me x (point.Show e h w) l = l.1
has_part me x (point.Exchange e h w) l = l.1
has_part me x (point.Slot e z) l = tt
has_part me x (point.Close e h z) l = l.1
has_part me x point.Over l = tt

module _ (me : Me) (x : Aim) (p : Spot) where
  -- the events up to a step, with those of the step
  abbrev pub events_with : StepPoint → ℕ → List Event
  events_with y n = events_at me x p y ++ filter is_event (step_event_at me x p y n ∷ [])

  -- the events are those of the next point, or of the answer
  abbrev pub Told : StepNext → List Event → Type 0
  Told (Point y) es = es ≡ events_at me x p y
  Told (Answer a) es = es ≡ own_events me x p a

  told_choice : (b : Bool) (y z : StepNext) (es : List Event) → Told y es → Told z es → Told (cond b y z) es
  told_choice true y z es f g = f
  told_choice false y z es f g = g

-- a refused step has no events
told_refused : (me : Me) (x : Aim) (p : Spot) (f : UpFault) → Told me x p (Answer (Err f)) []
told_refused me (Up b) p f = refl
told_refused me (Down b) p f = refl
told_refused me (Change a b) p f = refl

-- a header that was read is no event; it refuses in a first half alone, since a second half lowers
told_header : (me : Me) (x : Aim) (p : Spot) (e : ℕ) (h : Half) (w : ℕ) → PartFits x h → Told me x p (header_next me x e h w) (events_before me x p h)
told_header me x p e First w l =
    told_choice me x p (raises x First && ((header_of w).count == 1023)) _ _ [] (told_refused me x p (CountFull (block_at x First) (header_of w).count))
    (told_choice me x p ((header_of w).client == me.who) (Point (point.Exchange e First w)) (Point (point.Row e First w)) [] refl refl)
told_header me (Up b) p e Second w l = absurd l
told_header me (Down b) p e Second w l = absurd l
told_header me (Change a b) p e Second w l = told_choice me (Change a b) p ((header_of w).client == me.who) (Point (point.Exchange e Second w)) (Point (point.Row e Second w)) (events_before me (Change a b) p Second) refl refl

-- an exchange that found its header is the event of its half
told_committed : (me : Me) (x : Aim) (p : Spot) (e : ℕ) (h : Half) (w : ℕ) → PartFits x h → Told me x p (committed_next x e h w) (events_before me x p h ++ filter is_event (event_of_half me x p h ∷ []))
told_committed me (Up b) p e First w l = refl
told_committed me (Down b) p e First w l = refl
told_committed me (Change a b) p e First w l = refl
told_committed me (Up b) p e Second w l = absurd l
told_committed me (Down b) p e Second w l = absurd l
told_committed me (Change a b) p e Second w l = refl

-- no event is added to those before a half
none_added : (me : Me) (x : Aim) (p : Spot) (h : Half) → events_before me x p h ++ [] ≡ events_before me x p h
none_added me x p First = refl
none_added me x p Second = refl

-- an exchange is the event of its half where it found its header, and otherwise none
told_exchange : (me : Me) (x : Aim) (p : Spot) (e : ℕ) (h : Half) (w n : ℕ) → PartFits x h → Told me x p (exchange_next me x e h w n) (events_with me x p (point.Exchange e h w) n)
told_exchange me x p e h w n l = go (n == w)
  where
    go : (b : Bool) → Told me x p (if b then committed_next x e h w else header_next me x e h n) (events_before me x p h ++ filter is_event ((if b then event_of_half me x p h else event.Nothing) ∷ []))
    go true = told_committed me x p e h w l
    go false = subst (Told me x p (header_next me x e h n)) (sym (none_added me x p h)) (told_header me x p e h n l)

-- the store of the own era is no event; the answer has the events of all halves
told_closed : (me : Me) (x : Aim) (p : Spot) (e : ℕ) (h : Half) (z : Bool) → PartFits x h → Told me x p (closed_next x e h z) (events_at me x p (point.Close e h z) ++ [])
told_closed me (Up b) p e First z l = refl
told_closed me (Down b) p e First z l = refl
told_closed me (Change a b) p e First z l = refl
told_closed me (Up b) p e Second z l = absurd l
told_closed me (Down b) p e Second z l = absurd l
told_closed me (Change a b) p e Second z l = refl

-- the store that begins a step is no event
told_first : (me : Me) (x : Aim) (p : Spot) (n : ℕ) → Told me x p (first_next me n) []
told_first me x p n = go me.geometry.wide
  where
    go : (b : Bool) → Told me x p (Point (if b then point.More n else point.Redo n)) []
    go true = refl
    go false = refl

-- the events up to a point with that of its step are those up to the next point, or those of the answer
pub told_next : (me : Me) (x : Aim) (p : Spot) (y : StepPoint) (n : ℕ) → HasPart x y → Told me x p (step_next_at me x y n) (events_with me x p y n)
told_next me x p point.Era n l = told_choice me x p (nat_lt (last_era x) n) (Answer (Err (EraSpent n))) (first_next me n) [] (told_refused me x p (EraSpent n)) (told_first me x p n)
told_next me x p (point.More e) n l = refl
told_next me x p (point.Redo e) n l = refl
told_next me x p (point.Load e h) n l = subst (Told me x p (header_next me x e h n)) (sym (none_added me x p h)) (told_header me x p e h n l)
told_next me x p (point.Row e h w) n l = subst (Told me x p (row_next e h w n)) (sym (none_added me x p h)) (told_choice me x p (nat_lt n (header_of w).era) (Point (point.Show e h w)) (Point (point.Exchange e h w)) (events_before me x p h) refl refl)
told_next me x p (point.Show e h w) n l = none_added me x p h
told_next me x p (point.Exchange e h w) n l = told_exchange me x p e h w n l
told_next me x p (point.Slot e z) n l = refl
told_next me x p (point.Close e h z) n l = told_closed me x p e h z l
told_next me x p point.Over n l = refl

-- ---- what stands

-- the events of one more pair
told_more : (p : Spot) (m : StepState) (r0 r : Memo) (tr : Trail) (n : ℕ) → StepFits p m r0 r tr → happens_along step_control (step_event p) (step_start m) (tr ++ pair (step_ask m) n ∷ []) ≡ events_with m.me m.aim p m.point n
told_more p m r0 r tr n fit =
    happens_along-append step_control (step_event p) (step_start m) tr (pair (step_ask m) n)
    ∙ (ap (λ es. es ++ filter is_event (step_event p (after_all step_control (step_start m) tr) n ∷ [])) fit.events
    ∙ ap (λ (x : StepState). events_at m.me m.aim p m.point ++ filter is_event (step_event p x n ∷ [])) fit.course)

-- the events of one more pair are those of where it leads
told_on : (p : Spot) (m : StepState) (r0 r : Memo) (tr : Trail) (n : ℕ) (y : StepNext) → StepFits p m r0 r tr → step_next m n ≡ y → Told m.me m.aim p y (happens_along step_control (step_event p) (step_start m) (tr ++ pair (step_ask m) n ∷ []))
told_on p m r0 r tr n y fit e =
    subst (Told m.me m.aim p y) (sym (told_more p m r0 r tr n fit)) (subst (λ (z : StepNext). Told m.me m.aim p z (events_with m.me m.aim p m.point n)) e (told_next m.me m.aim p m.point n (has_part m.me m.aim m.point fit.knows.point)))

-- a count step that fits and goes on fits at the next point, where the memo shows what that point needs
pub fits_goes : (p : Spot) (m : StepState) (r0 r r2 : Memo) (tr : Trail) (n : ℕ) (y : StepPoint) → StepFits p m r0 r tr → step_next m n ≡ Point y → StepInRange (record m { point = y }) → Grows true r0 r2 → PointHolds m.me m.slot m.aim p r0 r2 y → StepFits p (record m { point = y }) r0 r2 (tr ++ pair (step_ask m) n ∷ [])
fits_goes p m r0 r r2 tr n y fit e knows grows holds =
    record {
      can = fit.can;
      knows = knows;
      begun = λ _. ends_in tr (pair (step_ask m) n);
      grows = grows;
      holds = holds;
      trail = λ rest a t. subst (λ (x : Trail). step_trail m.me m.slot m.aim x a) (sym (append_assoc tr (pair (step_ask m) n ∷ []) rest)) (fit.trail (pair (step_ask m) n ∷ rest) a (trail_goes m.me m.slot m.aim m.point y n fit.knows.point e rest a t));
      course = after_all-append step_control (step_start m) tr (pair (step_ask m) n) ∙ (ap (λ (x : StepState). step_control.after x n) fit.course ∙ ap (λ (z : StepNext). record m { point = point_of z }) e);
      events = told_on p m r0 r tr n (Point y) fit e;
    }

-- a count step that fits and answers has asked a whole trail
pub gives_ends : (p : Spot) (m : StepState) (r0 r r2 : Memo) (tr : Trail) (n : ℕ) (a : Result Bool UpFault) → StepFits p m r0 r tr → step_next m n ≡ Answer a → Grows true r0 r2 → Gives m.me m.slot m.aim p r0 r2 a → StepGives p m r0 r2 (tr ++ pair (step_ask m) n ∷ []) a
gives_ends p m r0 r r2 tr n a fit e grows gives =
    record {
      can = fit.can;
      grows = grows;
      status = gives_status m.me m.slot m.aim p r0 r r2 n m.point a fit.can fit.knows.point fit.holds.has e gives;
      gives = gives;
      trail = fit.trail (pair (step_ask m) n ∷ []) a (trail_ends m.me m.slot m.aim m.point n a fit.knows.point e);
      events = told_on p m r0 r tr n (Answer a) fit e;
    }

-- a count step that has just been made fits each memo of an identity that may begin it
pub begins : (p : Spot) (m : StepState) (r : Memo) → m.point ≡ point.Era → StepInRange m → CanStep m.me m.slot m.aim p r → StepFits p m r r []
begins p m r e knows can =
    record {
      can = can;
      knows = knows;
      begun = λ other. absurd (other e);
      grows = grows_now true r;
      holds = subst (λ (y : StepPoint). PointHolds m.me m.slot m.aim p r r y) (sym e) (record { agent = refl; has = (refl, can.put) });
      trail = λ rest a t. subst (λ (y : StepPoint). point_trail m.me m.slot m.aim y rest a) e t;
      course = ap (λ (y : StepPoint). record m { point = y }) (sym e);
      events = ap (events_at m.me m.aim p) (sym e);
    }
