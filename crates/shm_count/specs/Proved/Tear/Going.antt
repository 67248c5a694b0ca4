-- a tear-down goes along its trails: each word step is the next pair of a trail from its point
use Rattle.std.proofs.Common.{◌≡◌, ℕ, ◌+◌, ◌%◌, ◌==◌, nat_lt, if◌then◌else◌, suc, refl, sym, ap, ◌∙◌, subst, arith, Bool, true, false, List, [], ◌∷◌, ◌++◌, append_assoc}
use Rattle.std.specs.{Prelude.{Result, Ok, Err}, List.filter}
use Rattle.shm_words.specs.{declared.tag.Tag.Tag as ATag, Layout.address_limit}
use Rattle.shm_graph.specs.{declared.{ask.Me.Me, memo.{Memo.Memo, Seen.Seen}}, Asks.{Trail, pair}}
use Rattle.shm_graph.specs.{Trails.{Answers, Chosen, Joined}, Events.Event, Laws.{Then, Outcome}}
use Rattle.shm_graph.specs.Tells.{is_event, after_all, happens_along}
use Rattle.shm_graph.proofs.Machines.TellsAlong.{after_all-append, happens_along-append}
use Rattle.shm_count.specs.declared.{answer.{EraSpent.EraSpent, UpFault.UpFault}, point.StepPoint.StepPoint}
use Rattle.shm_count.specs.declared.{point.StepNext.StepNext, tear_point.{TearPoint.TearPoint, TearState.TearState}}
use Rattle.shm_count.specs.declared.tear_point.TearNext.{TearNext, TheVariants.{Go, Answer}}
use Rattle.shm_count.specs.Step.Control.{step_ask_at, step_next_at, PointFits}
use Rattle.shm_count.specs.Tear.Control.{word_address, tag_read, word_or_free, entered_next, word_next, lowered_next, freed_next, down_next, tear_ask, tear_ask_at, tear_next, tear_next_at, block_of, point_of, answer_of, tear_control, TearPointFits, TearInRange, relinked}
use Rattle.shm_count.specs.Tear.Asks.{TearTrails, on_trail, link_trail, after_down, word_trail, return_trail, free_trail, tear_trail, point_trail}
use Rattle.shm_count.specs.Tear.Events.{tear_event, tear_start}
use Rattle.shm_count.specs.Tear.{CanTear, TearAt, TearHolds, TearFits, TearLeaves, TearGives, NextHolds}
use Rattle.shm_count.specs.Proved.Tear.{Ranges.knows_next, Cores.stays_now, Bound.paid_begin}
use Rattle.shm_count.specs.Proved.{Tear.Stacks.{others_begin, walks_begin}, Retaining.retains_now}
use Rattle.shm_count.specs.declared.point.Aim.TheVariants as aims
use Rattle.shm_count.specs.declared.point.StepPoint.TheVariants as step
use Rattle.shm_count.specs.declared.point.StepNext.TheVariants as next
use Rattle.shm_count.specs.declared.tear_point.TearPoint.TheVariants as point
use Rattle.shm_count.specs.Step.Asks as steps
use Rattle.shm_count.specs.Proved.Step.Going as going
use Rattle.plans.specs.{Grown.Grows, Proved.Grown.grows_now}

-- ---- trails

-- the trails from where a step leads on
abbrev next_trail : Me → TearNext → TearTrails
next_trail me (Go d y) = point_trail me d y
next_trail me (Answer a) = Answers a

module _ (me : Me) (rest : Trail) (a : Result (Unit {0}) EraSpent) where
  -- the next reference word, or the header, is one more of those that come
  word_goes : (b : ℕ) (g : ATag) (i : ℕ) → point_trail me b (word_or_free g i) rest a → (k : ℕ) × on_trail me k b g i rest a
  word_goes b g i t = let k = go (nat_lt i g.refs) t in (suc k.0, k.1)
    where
      go : (x : Bool) → point_trail me b (if x then point.Word g i else point.Free g) rest a → (k : ℕ) × Chosen x (word_trail me (on_trail me k) b g i) (free_trail me (on_trail me k) b g) rest a
      go true u = u
      go false u = u

  -- what follows the tag of a block that is entered
  entered_goes : (b l n : ℕ) → next_trail me (entered_next me.geometry.wide b l n) rest a
      → (k : ℕ) × Chosen ((tag_read me.geometry.wide n).link == l) (on_trail me k b (tag_read me.geometry.wide n) 0) (link_trail me (on_trail me k) b (relinked me.geometry.wide (tag_read me.geometry.wide n) l)) rest a
  entered_goes b l n t = go ((tag_read me.geometry.wide n).link == l) t
    where
      go : (x : Bool) → point_trail me b (if x then word_or_free (tag_read me.geometry.wide n) 0 else point.Link (relinked me.geometry.wide (tag_read me.geometry.wide n) l)) rest a
          → (k : ℕ) × Chosen x (on_trail me k b (tag_read me.geometry.wide n) 0) (link_trail me (on_trail me k) b (relinked me.geometry.wide (tag_read me.geometry.wide n) l)) rest a
      go true u = word_goes b (tag_read me.geometry.wide n) 0 u
      go false u = u

  -- what follows a reference word
  found_goes : (b : ℕ) (g : ATag) (i n : ℕ) → next_trail me (word_next b g i n) rest a
      → (k : ℕ) × Chosen (n % address_limit == 0) (on_trail me k b g (i + 1)) (Joined (steps.step_trail me (word_address b i) (aims.Down (n % address_limit))) (after_down me (on_trail me k) b g i (n % address_limit))) rest a
  found_goes b g i n t = go (n % address_limit == 0) t
    where
      go : (x : Bool) → point_trail me b (if x then word_or_free g (i + 1) else point.Down g i (n % address_limit) step.Era) rest a
          → (k : ℕ) × Chosen x (on_trail me k b g (i + 1)) (Joined (steps.step_trail me (word_address b i) (aims.Down (n % address_limit))) (after_down me (on_trail me k) b g i (n % address_limit))) rest a
      go true u = word_goes b g (i + 1) u
      go false u = u

  -- what follows a step down, by its answer
  lowered_goes : (b : ℕ) (g : ATag) (i t : ℕ) (z : Result Bool UpFault) → next_trail me (lowered_next b g i t z) rest a → (k : ℕ) × after_down me (on_trail me k) b g i t z rest a
  lowered_goes b g i t (Ok true) u = u
  lowered_goes b g i t (Ok false) u = word_goes b g (i + 1) u
  lowered_goes b g i t (Err f) u = (0, u)

  -- a word step of a step down is the next pair of a trail of it, and what follows the step down stays
  down_goes : (b : ℕ) (g : ATag) (i t : ℕ) (y : StepPoint) (n : ℕ) → PointFits me (aims.Down t) y → (z : StepNext) → step_next_at me (aims.Down t) y n ≡ z → next_trail me (down_next b g i t z) rest a
      → point_trail me b (point.Down g i t y) (pair (step_ask_at me (word_address b i) (aims.Down t) y) n ∷ rest) a
  down_goes b g i t y n l (next.Point y2) e u =
      let s = u.1.1 in
      let x : Seen = pair (step_ask_at me (word_address b i) (aims.Down t) y) n in
      (u.0, (x ∷ u.1.0, (s.0, s.1, ap (λ (tr : Trail). x ∷ tr) s.2, going.trail_goes me (word_address b i) (aims.Down t) y y2 n l e u.1.0 s.1 s.3, s.4)))
  down_goes b g i t y n l (next.Answer z) e u =
      let k = lowered_goes b g i t z u in
      (k.0, (pair (step_ask_at me (word_address b i) (aims.Down t) y) n ∷ [], (rest, z, refl, going.trail_ends me (word_address b i) (aims.Down t) y n z l e, k.1)))

  -- what follows the store of the header
  freed_goes : (g : ATag) → next_trail me (freed_next g) rest a → (k : ℕ) × Chosen (g.link == 0) (Answers (Ok tt)) (return_trail me (on_trail me k) g.link) rest a
  freed_goes g t = go (g.link == 0) t
    where
      go : (x : Bool) → next_trail me (if x then Answer (Ok tt) else Go g.link point.Return) rest a → (k : ℕ) × Chosen x (Answers (Ok tt)) (return_trail me (on_trail me k) g.link) rest a
      go true u = (0, u)
      go false u = u

-- what follows a step at a point is the end of a trail from that point
tear_goes : (me : Me) (b : ℕ) (y : TearPoint) (n : ℕ) → TearPointFits me y → (rest : Trail) (a : Result (Unit {0}) EraSpent) → next_trail me (tear_next_at me b y n) rest a → point_trail me b y (pair (tear_ask_at me b y) n ∷ rest) a
tear_goes me b point.Begin n l rest a t = let k = entered_goes me rest a b 0 n t in (k.0, (n, (rest, (refl, k.1))))
tear_goes me b (point.Enter c) n l rest a t = let k = entered_goes me rest a b c n t in (k.0, (n, (rest, (refl, k.1))))
tear_goes me b (point.Link g) n l rest a t = let k = word_goes me rest a b g 0 t in (k.0, (n, (rest, (refl, k.1))))
tear_goes me b (point.Word g i) n l rest a t = let k = found_goes me rest a b g i n t in (k.0, (n, (rest, (refl, k.1))))
tear_goes me b (point.Down g i c y) n l rest a t = down_goes me rest a b g i c y n l.3 (step_next_at me (aims.Down c) y n) refl t
tear_goes me b (point.Free g) n l rest a t = let k = freed_goes me rest a g t in (k.0, (n, (rest, (refl, k.1))))
tear_goes me b point.Return n l rest a t = let k = word_goes me rest a b (tag_read me.geometry.wide n) 0 t in (k.0, (n, (rest, (refl, k.1))))
tear_goes me b point.Over n l rest a t = absurd t

-- a step that leads to a point is followed by the trails from that point
pub trail_goes : (me : Me) (b d : ℕ) (y y2 : TearPoint) (n : ℕ) → TearPointFits me y → tear_next_at me b y n ≡ Go d y2 → (rest : Trail) (a : Result (Unit {0}) EraSpent) → point_trail me d y2 rest a → point_trail me b y (pair (tear_ask_at me b y) n ∷ rest) a
trail_goes me b d y y2 n l e rest a t = tear_goes me b y n l rest a (subst (λ (u : TearNext). next_trail me u rest a) (sym e) t)

-- a step that leads to an answer is the last one
pub trail_ends : (me : Me) (b : ℕ) (y : TearPoint) (n : ℕ) (a : Result (Unit {0}) EraSpent) → TearPointFits me y → tear_next_at me b y n ≡ Answer a → point_trail me b y (pair (tear_ask_at me b y) n ∷ []) a
trail_ends me b y n a l e = tear_goes me b y n l [] a (subst (λ (u : TearNext). next_trail me u [] a) (sym e) (refl, refl))

-- ---- what stands

-- the events of one more pair
pub told_more : (m : TearState) (tr : Trail) (n : ℕ) → after_all tear_control (tear_start m) tr ≡ m
    → happens_along tear_control tear_event (tear_start m) (tr ++ pair (tear_ask m) n ∷ []) ≡ happens_along tear_control tear_event (tear_start m) tr ++ filter is_event (tear_event m n ∷ [])
told_more m tr n course =
    happens_along-append tear_control tear_event (tear_start m) tr (pair (tear_ask m) n)
    ∙ ap (λ (x : TearState). happens_along tear_control tear_event (tear_start m) tr ++ filter is_event (tear_event x n ∷ [])) course

-- the events of a tear-down up to its point, with those of one more word step
abbrev pub events_with : TearState → Trail → ℕ → List Event
events_with m tr n = happens_along tear_control tear_event (tear_start m) tr ++ filter is_event (tear_event m n ∷ [])

-- a tear-down that fits and goes on fits at the next point, where the memo shows what that point needs
fits_goes : (m : TearState) (r0 r x : Memo) (tr : Trail) (n d : ℕ) (y : TearPoint) → TearFits m r0 r tr → tear_next m n ≡ Go d y → Grows true r0 x → TearHolds m.me m.first r0 d y x (events_with m tr n) (tr ++ pair (tear_ask m) n ∷ [])
    → TearFits (record m { block = d; point = y }) r0 x (tr ++ pair (tear_ask m) n ∷ [])
fits_goes m r0 r x tr n d y fit e grows holds =
    record {
      can = fit.can;
      knows = knows_next m n d y fit.knows e;
      begun = λ _. going.ends_in tr (pair (tear_ask m) n);
      grows = grows;
      trail = λ rest a t. subst (λ (z : Trail). tear_trail m.me m.first z a) (sym (append_assoc tr (pair (tear_ask m) n ∷ []) rest)) (fit.trail (pair (tear_ask m) n ∷ rest) a (trail_goes m.me m.block d m.point y n fit.knows.point e rest a t));
      course = after_all-append tear_control (tear_start m) tr (pair (tear_ask m) n) ∙ (ap (λ (z : TearState). tear_control.after z n) fit.course ∙ ap (λ (z : TearNext). record m { block = block_of m.block z; point = point_of z }) e);
      holds = subst (λ (es : List Event). TearHolds m.me m.first r0 d y x es (tr ++ pair (tear_ask m) n ∷ [])) (sym (told_more m tr n fit.course)) holds;
    }

-- a tear-down that fits and answers has asked a whole trail
gives_ends : (m : TearState) (r0 r x : Memo) (tr : Trail) (n : ℕ) (a : Result (Unit {0}) EraSpent) → TearFits m r0 r tr → tear_next m n ≡ Answer a → Grows true r0 x → TearLeaves m.me m.first r0 x (events_with m tr n) (tr ++ pair (tear_ask m) n ∷ []) a
    → TearGives m r0 x (tr ++ pair (tear_ask m) n ∷ []) a
gives_ends m r0 r x tr n a fit e grows leaves =
    record {
      grows = grows;
      leaves = subst (λ (es : List Event). TearLeaves m.me m.first r0 x es (tr ++ pair (tear_ask m) n ∷ []) a) (sym (told_more m tr n fit.course)) leaves;
      trail = fit.trail (pair (tear_ask m) n ∷ []) a (trail_ends m.me m.block m.point n a fit.knows.point e);
    }

-- what holds after a step: it fits again, or gives what it answers
pub then_holds : (m : TearState) (r0 r x : Memo) (tr : Trail) (n : ℕ) → TearFits m r0 r tr → Grows true r0 x
    → NextHolds m.me m.first r0 m.block (tear_next m n) x (happens_along tear_control tear_event (tear_start m) tr ++ filter is_event (tear_event m n ∷ [])) (tr ++ pair (tear_ask m) n ∷ [])
    → Then tear_control TearFits TearGives m r0 tr n x
then_holds m r0 r x tr n fit grows h = go (tear_next m n) refl h
  where
    go : (z : TearNext) → tear_next m n ≡ z → NextHolds m.me m.first r0 m.block z x (events_with m tr n) (tr ++ pair (tear_ask m) n ∷ [])
        → Outcome (answer_of z) (TearFits (record m { block = block_of m.block z; point = point_of z }) r0 x (tr ++ pair (tear_ask m) n ∷ [])) (TearGives m r0 x (tr ++ pair (tear_ask m) n ∷ []))
    go (Go d y) e k = fits_goes m r0 r x tr n d y fit e grows k
    go (Answer a) e k = gives_ends m r0 r x tr n a fit e grows k

-- ---- how it begins

-- an identity that may tear a block down shows what the first point needs
begins_at : (me : Me) (b : ℕ) (r : Memo) → CanTear me b r → TearAt me b b 0 [] point.Begin r r [] []
begins_at me b r can =
    record {
      settled = record {
        agent = refl;
        stays = stays_now me.who r;
        retains = retains_now me.who r;
        visited = record { inside = can.inside; room = can.room; dying = can.dying; most = omega arith; zeros = λ i l. absurd (omega arith) };
        apart = (refl, tt);
        others = others_begin b r.dying;
        walks = walks_begin me.who b;
      };
      shows = (refl, refl);
      paid = paid_begin me.geometry.wide b;
    }

-- a tear-down that has just been made fits each memo of an identity that may begin it
pub begins : (m : TearState) (r : Memo) → m.point ≡ point.Begin → m.block ≡ m.first → TearInRange m → CanTear m.me m.first r → TearFits m r r []
begins m r e q knows can =
    record {
      can = can;
      knows = knows;
      begun = λ other. absurd (other e);
      grows = grows_now true r;
      trail = λ rest a t. subst (λ (d : ℕ). tear_trail m.me d rest a) q (subst (λ (y : TearPoint). point_trail m.me m.block y rest a) e t);
      course = ap (λ (d : ℕ). record m { block = d; point = point.Begin }) (sym q) ∙ ap (λ (y : TearPoint). record m { point = y }) (sym e);
      holds = subst (λ (y : TearPoint). TearHolds m.me m.first r m.block y r [] []) (sym e) (subst (λ (d : ℕ). TearHolds m.me m.first r d point.Begin r [] []) (sym q) (0, [], begins_at m.me m.first r can));
    }
