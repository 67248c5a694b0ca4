-- what a tear-down keeps in the step down by which a reference word comes to be empty
use Rattle.std.proofs.Common.{◌≡◌, ◌≢◌, ℕ, ◌+◌, ◌≤◌, refl, sym, ap, ◌∙◌, subst, arith, Bool, true, false, cond, List, [], ◌∷◌, ◌++◌, append_assoc, inl, inr}
use Rattle.std.proofs.lemmas.{Bool.{cases_eq, eq-eqb, true≢false}, List.append-nil}
use Rattle.std.proofs.lemmas.List.Elements.{All-cons, Contains-append_right}
use Rattle.std.specs.{Prelude.{Ok, Err}, List.{All, Contains, filter}}
use Rattle.shm_words.specs.declared.tag.Tag.{Tag as ATag}
use Rattle.shm_graph.specs.declared.{ask.{Ask.Ask, Me.Me}, spot.Spot.{Spot, TheVariants.{Era, Body}}, memo.Memo.Memo}
use Rattle.shm_graph.specs.{declared.memo.Stored.Stored, Agents.recovers}
use Rattle.shm_graph.specs.{Asks.{Trail, at_of, seen_of, pair, words_after}, Blocks.classes, Changes.memo_on}
use Rattle.shm_graph.specs.{Events.Event, Laws.{Frame, framed, Stands}, Spots.spot_at, Tells.is_event, Reach.is_named}
use Rattle.shm_graph.specs.Views.{own_word, at1}
use Rattle.shm_graph.specs.Events as event
use Rattle.shm_graph.proofs.{Runs.Lists.at1_here, Memos.MemoSteps.recovers_on}
use Rattle.shm_count.specs.declared.answer.UpFault.{UpFault, TheVariants.{EraSpent, CountFull}}
use Rattle.shm_count.specs.declared.point.{StepPoint.StepPoint, StepNext.StepNext}
use Rattle.shm_count.specs.Step.{Control.{step_ask_at, step_next_at, is_over}, Events.{step_event_at, events_at}}
use Rattle.shm_count.specs.Step.{CanStep, Refused, PointHolds}
use Rattle.shm_count.specs.Proved.Step.{Going.{has_part, events_with, Told, told_next}, Keeps.step_at}
use Rattle.shm_count.specs.Proved.Retaining.{named_counted, named_stays, retains_core, retains_then}
use Rattle.shm_count.specs.Proved.Tear.Cores.{stays_then, stays_core, on_words}
use Rattle.shm_count.specs.Proved.Tear.Bound.{before_answer, paid_down, paid_kept, paid_fell, paid_refused}
use Rattle.shm_count.specs.Proved.Tear.TagLoads.{TearKept}
use Rattle.shm_count.specs.Proved.Tear.Stacks.{walks_kept, walks_fell, frees_more, others_entered, outside_other, apart_entered, KeepsBlock, linked_kept, linked_dying, left_dying, keeps_lowered, lowered_knows, lowered_tagged, lowered_dying}
use Rattle.shm_count.specs.Proved.DownLeaves.{down_leaves}
use Rattle.shm_count.specs.Tear.Control.{word_address, word_or_free, down_next, lowered_next, TearPointFits}
use Rattle.shm_count.specs.Tear.Events.{Visit, frees, Walks}
use Rattle.shm_count.specs.Tear.{CanTear, IsVisited, Linked, is_outside, TearAt, TearHolds, NextHolds}
use Rattle.shm_count.specs.Tear.Memos.{TearStays, Retains, Knows, IsTagged, IsFound, Lowered}
use Rattle.shm_count.specs.declared.point.Aim.TheVariants as aims
use Rattle.shm_count.specs.declared.point.StepNext.TheVariants as next
use Rattle.shm_count.specs.declared.tear_point.TearPoint.TheVariants as point
use Rattle.shm_count.specs.Step as fits

-- one word of a block has one index
same_index : (b j i : ℕ) → Body b j ≡ Body b i → j ≡ i
same_index b j i e = cc

module _ (me : Me) (first : ℕ) (r0 : Memo) (b k : ℕ) (vs : List Visit) (g : ATag) (i t : ℕ) (y : StepPoint) (m m2 : Memo) (es es2 : List Event) (tr : Trail) (n : ℕ) (can : CanTear me first r0) (going : is_over y ≡ false)
    (a : TearAt me first b k vs (point.Down g i t y) r0 m es tr) (agent : recovers m2 ≡ recovers r0) where
  abbrev c : ℕ
  c = me.who

  abbrev slot : ℕ
  slot = word_address b i

  -- what was asked then
  abbrev tr2 : Trail
  tr2 = tr ++ pair (step_ask_at me slot (aims.Down t) y) n ∷ []

  found : IsFound me m b i t
  found = a.shows.4

  same : i ≡ k
  same = a.shows.3

  -- a further word may be done with
  room : k + 1 ≤ 16
  room = let l = a.shows.2 in let u = a.shows.0.fits.refs in let e = same in omega arith

  -- the block that the word names isn't one that is torn down
  none_of : (d : ℕ) → Contains m.dying d → d ≢ t
  none_of d h e = found.counted (subst (Contains m.dying) e h)

  -- ---- it goes on

  on_holds : (y2 : StepPoint) → step_next_at me (aims.Down t) y n ≡ next.Point y2 → es2 ≡ es ++ events_at me (aims.Down t) (Body b i) y2 → CanStep me slot (aims.Down t) (Body b i) m → PointHolds me slot (aims.Down t) (Body b i) m m2 y2
      → TearHolds me first r0 b (point.Down g i t y2) m2 es2 tr2
  on_holds y2 e told may holds = (
    k,
    vs,
    m,
    es,
    record { settled = a.settled; shows = a.shows; paid = (paid_down b vs es tr k me slot g i t y y2 n going a.paid e) },
    told,
    may,
    holds,
  )

  -- ---- it is done

  module _ (z : Bool) (leads : step_next_at me (aims.Down t) y n ≡ next.Answer (Ok z)) (told : es2 ≡ es ++ event.Down c (Body b i) t ∷ []) (low : Lowered c b i t z m m2) (alive : (d u : ℕ) → is_named c m2 d ≡ true → Contains m2.dying u → d ≢ u) where
    free_same : frees es2 ≡ frees es
    free_same = ap frees told ∙ frees_more es c (Body b i) t

    done_stays : TearStays c r0 m2
    done_stays = stays_then c r0 m m2 a.settled.stays low.stays

    -- no block that is named is the one that is torn down or the one whose count came to 0
    done_retains : Retains c r0 m2
    done_retains =
        let same : (d : ℕ) → is_named c m2 d ≡ is_named c m d = λ d. named_stays c m m2 d low.stays low.slots in
        retains_then c r0 m m2 a.settled.stays a.settled.retains
        (record {
          looks = inr low.looks;
          slots = low.slots;
          words = λ d p x named o h. low.words d p x named
              (alive d b (same d ∙ named) (lowered_dying c b i t z m m2 low found.counted b a.settled.visited.dying))
              (λ u. alive d t (same d ∙ named) (subst (λ (ds : List ℕ). Contains ds t) (sym (low.dying ∙ ap (λ y. m.dying ++ cond y (t ∷ []) []) u)) (Contains-append_right m.dying (t ∷ []) t (0, omega arith, refl))))
              o h;
          values = low.values;
        })

    keeps : (d : ℕ) → Contains m.dying d → d ≢ b → KeepsBlock m m2 d
    keeps d h o = keeps_lowered c b i t z m m2 low found.counted d h o

    tagged : IsTagged me m2 b g
    tagged = lowered_tagged c b i t z m m2 low found.counted me g a.settled.visited.dying a.shows.0

    linked : Linked me m2 g.link vs
    linked = linked_kept me m m2 g.link vs (λ v h. keeps v.block (linked_dying me m g.link vs v a.shows.1 h) (outside_other vs b v a.settled.apart.0 h)) a.shows.1

    -- one more word is done with
    visited : IsVisited me m2 (record { block = b; cleared = k + 1 })
    visited =
        record {
          inside = a.settled.visited.inside;
          room = a.settled.visited.room;
          dying = lowered_dying c b i t z m m2 low found.counted b a.settled.visited.dying;
          most = room;
          zeros = λ j l. elim (cases_eq j i) [
            | inl u ↦ subst (λ x. Knows m2 (Body b x) 0) (sym u) low.cleared
            | inr u ↦ lowered_knows c b i t z m m2 low found.counted (Body b j) 0 a.settled.visited.dying (eq-eqb b b refl) (λ e. u (same_index b j i e)) (a.settled.visited.zeros j (let e = same in omega arith))
          ];
        }

  -- the block keeps other references
  kept_holds : step_next_at me (aims.Down t) y n ≡ next.Answer (Ok false) → es2 ≡ es ++ event.Down c (Body b i) t ∷ [] → Lowered c b i t false m m2 → ((d u : ℕ) → is_named c m2 d ≡ true → Contains m2.dying u → d ≢ u) → TearHolds me first r0 b (word_or_free g (i + 1)) m2 es2 tr2
  kept_holds leads told low alive =
      let dying : m2.dying ≡ m.dying = low.dying ∙ append-nil m.dying in
      on_words me first b (k + 1) (i + 1) vs g r0 m2 es2 tr2
      (record {
        agent = agent;
        stays = done_stays false leads told low alive;
        retains = done_retains false leads told low alive;
        visited = visited false leads told low alive;
        apart = a.settled.apart;
        others = ap (filter (is_outside (record { block = b; cleared = k } ∷ vs))) dying ∙ a.settled.others;
        walks = subst (λ e. Walks c first e (record { block = b; cleared = k + 1 } ∷ vs)) (sym told) (subst (λ j. Walks c first (es ++ event.Down c (Body b j) t ∷ []) (record { block = b; cleared = k + 1 } ∷ vs)) (sym same) (walks_kept c first es b k t vs a.settled.walks));
      })
      (tagged false leads told low alive) (linked false leads told low alive) (let e = same in omega arith)
      (paid_kept b vs es tr (pair (step_ask_at me slot (aims.Down t) y) n) k me.geometry.wide g g i t y es2 (let u = room in omega arith) a.paid same (before_answer me t y n (Ok false) leads) (free_same false leads told low alive))

  -- its count came to 0: it is entered
  fell_holds : step_next_at me (aims.Down t) y n ≡ next.Answer (Ok true) → es2 ≡ es ++ event.Down c (Body b i) t ∷ [] → Lowered c b i t true m m2 → ((d u : ℕ) → is_named c m2 d ≡ true → Contains m2.dying u → d ≢ u) → TearHolds me first r0 t (point.Enter b) m2 es2 tr2
  fell_holds leads told low alive =
      let here : Contains m2.dying t = subst (λ (ds : List ℕ). Contains ds t) (sym low.dying) (Contains-append_right m.dying (t ∷ []) t (0, omega arith, refl)) in
      let wvs : List Visit = record { block = b; cleared = k + 1 } ∷ vs in (
        0,
        wvs,
        record {
          settled = (record {
            agent = agent;
            stays = done_stays true leads told low alive;
            retains = done_retains true leads told low alive;
            visited = record { inside = found.inside; room = found.room; dying = here; most = omega arith; zeros = λ j l. absurd (omega arith) };
            apart = apart_entered b k (k + 1) t vs (λ e. none_of b a.settled.visited.dying (sym e)) (λ v h. none_of v.block (linked_dying me m g.link vs v a.shows.1 h)) a.settled.apart;
            others = ap (filter (is_outside (record { block = t; cleared = 0 } ∷ wvs))) low.dying ∙ others_entered b k (k + 1) t vs m.dying _ found.counted a.settled.others;
            walks = subst (λ e. Walks c first e (record { block = t; cleared = 0 } ∷ wvs)) (sym told) (subst (λ j. Walks c first (es ++ event.Down c (Body b j) t ∷ []) (record { block = t; cleared = 0 } ∷ wvs)) (sym same) (walks_fell c first es b k t vs a.settled.walks));
          });
          shows = (refl, (refl, visited true leads told low alive, (g, tagged true leads told low alive, linked true leads told low alive)));
          paid = (paid_fell b vs es tr (pair (step_ask_at me slot (aims.Down t) y) n) k me.geometry.wide g i t y es2 (let u = room in omega arith) a.paid (before_answer me t y n (Ok true) leads) (free_same true leads told low alive));
        },
      )

  -- ---- it is refused

  refused_leaves : (u : UpFault) → step_next_at me (aims.Down t) y n ≡ next.Answer (Err u) → es2 ≡ es ++ [] → Refused me (aims.Down t) m m2 u → NextHolds me first r0 b (lowered_next b g i t (Err u)) m2 es2 tr2
  refused_leaves (EraSpent e) leads told gone =
      let none : es2 ≡ es = told ∙ append-nil es in
      let dying : m2.dying ≡ m.dying = ap (λ (x : Memo). x.dying) gone.0 in
      let all : List Visit = record { block = b; cleared = k } ∷ vs in (
        all,
        record {
          agent = agent;
          stays = stays_then c r0 m m2 a.settled.stays (stays_core c m m2 m.known m.dying gone.0);
          retains = retains_then c r0 m m2 a.settled.stays a.settled.retains
              (retains_core c m m2 m.known m.dying gone.0 refl (λ d p x named o h. subst (λ (s : List Stored). Contains s (record { spot = p; value = x })) (sym (ap (λ (y : Memo). y.known) gone.0)) h));
          some = λ x. absurd (cc);
          left = subst (λ (ds : List ℕ). All (λ (v : Visit). Contains ds v.block) all) (sym dying) (All-cons (λ (v : Visit). Contains m.dying v.block) (record { block = b; cleared = k }) vs a.settled.visited.dying (left_dying me m g.link vs a.shows.1));
          others = ap (filter (is_outside all)) dying ∙ a.settled.others;
          walks = subst (λ x. Walks c first x all) (sym none) a.settled.walks;
          bound = paid_refused b vs es tr (pair (step_ask_at me slot (aims.Down t) y) n) k me.geometry.wide g i t y es2 a.paid (before_answer me t y n (Err (EraSpent e)) leads) (ap frees none);
          spent = gone.1 ∙ sym (ap (λ (x : Memo). own_word x.own (Era c c)) gone.0);
          last = gone.2;
        },
      )
  refused_leaves (CountFull d j) leads told gone = absurd (true≢false (sym gone.2))

  -- ---- all ways

  answered : ((d u : ℕ) → is_named c m2 d ≡ true → Contains m2.dying u → d ≢ u) → (z : StepNext) → step_next_at me (aims.Down t) y n ≡ z → Told me (aims.Down t) (Body b i) z (events_with me (aims.Down t) (Body b i) y n) → es2 ≡ es ++ events_with me (aims.Down t) (Body b i) y n
      → CanStep me slot (aims.Down t) (Body b i) m → fits.NextHolds me slot (aims.Down t) (Body b i) m m2 z → NextHolds me first r0 b (down_next b g i t z) m2 es2 tr2
  answered alive (next.Point y2) e told all may h = on_holds y2 e (all ∙ ap (λ x. es ++ x) told) may h
  answered alive (next.Answer (Ok z)) e told all may h =
      done z e (all ∙ ap (λ x. es ++ x) told)
      (down_leaves me slot b i t m m2 z (let u = can.geometry.clients in let l = can.who in omega arith) found.era (ap (λ (x : Memo). x.op) a.settled.stays.rest ∙ can.idle) a.settled.visited.dying found h)
    where
      done : (z : Bool) → step_next_at me (aims.Down t) y n ≡ next.Answer (Ok z) → es2 ≡ es ++ event.Down c (Body b i) t ∷ [] → Lowered c b i t z m m2 → NextHolds me first r0 b (lowered_next b g i t (Ok z)) m2 es2 tr2
      done true q o low = fell_holds q o low alive
      done false q o low = kept_holds q o low alive
  answered alive (next.Answer (Err u)) e told all may h = refused_leaves u e (all ∙ ap (λ x. es ++ x) told) h

-- a word step of a step down
pub down_step : (me : Me) (first : ℕ) (r0 : Memo) (b : ℕ) (g : ATag) (i t : ℕ) (y : StepPoint) (w : Spot → ℕ) (r : ℕ → Memo) (f : Frame) (tr : Trail) (es : List Event) → Stands me w r f tr → f.fresh ≡ false → is_over y ≡ false → CanTear me first r0 → TearPointFits me (point.Down g i t y)
    → TearHolds me first r0 b (point.Down g i t y) (r me.who) es tr → TearKept me first r0 b w r f tr es (point.Down g i t y)
down_step me first r0 b g i t y w r f tr es st going runs can fits (k, vs, m, before, a, all, may, holds) =
    let slot : ℕ = word_address b i in
    let ask : Ask = step_ask_at me slot (aims.Down t) y in
    let s : Spot = spot_at me.geometry (classes w) (at_of ask) in
    let n : ℕ = seen_of ask (w s) in
    let kept = step_at me slot (aims.Down t) (Body b i) m w r f tr y runs st (λ _. going) may fits.3 holds in
    let m2 : Memo = memo_on (r me.who) (framed me ask f n) s in
    record {
      told = kept.told;
      step = kept.step;
      fits = answered me first r0 b k vs g i t y m m2 before (es ++ filter is_event (step_event_at me (aims.Down t) (Body b i) y n ∷ [])) tr n can runs a
          (recovers_on (r me.who) (framed me ask f n) s ∙ (holds.agent ∙ a.settled.agent))
          (λ d u named dies. named_counted me.geometry (words_after w ask s) (at1 r me.who m2) me.who d u kept.step.held st.who (subst (λ (x : Memo). is_named me.who x d ≡ true) (sym (at1_here r me.who m2)) named) (subst (λ (x : Memo). Contains x.dying u) (sym (at1_here r me.who m2)) dies))
          (step_next_at me (aims.Down t) y n) refl
          (told_next me (aims.Down t) (Body b i) y n (has_part me (aims.Down t) y fits.3))
          (ap (λ x. x ++ filter is_event (step_event_at me (aims.Down t) (Body b i) y n ∷ [])) all ∙ append_assoc before (events_at me (aims.Down t) (Body b i) y) (filter is_event (step_event_at me (aims.Down t) (Body b i) y n ∷ [])))
          may kept.fits;
    }
