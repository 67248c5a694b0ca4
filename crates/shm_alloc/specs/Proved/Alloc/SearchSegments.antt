-- the steps of the search that read the own era, the roots and the words of segments
use Rattle.std.proofs.Common.{◌≡◌, ◌≢◌, ℕ, ◌+◌, ◌-◌, ◌^◌, ◌<◌, refl, sym, ap, ◌∙◌, subst, arith, Bool, true, false, not, ◌&&◌, cond, eqb, ltb, inl, inr, ◌∷◌, []}
use Rattle.std.proofs.lemmas.Bool.{cases_eq, eq-eqb, ne_eqb, eqb-true, eqb-false, ltb-true, ltb-false, lt-ltb, and_from}
use Rattle.std.specs.{Prelude.Err, List.Contains}
use Rattle.shm_words.specs.Layout.{address}
use Rattle.shm_words.specs.declared.place.Place.TheVariants as place
use Rattle.shm_graph.specs.declared.{ask.{Ask.TheVariants.{Load, Exchange}, Me.Me}, spot.Spot.Spot}
use Rattle.shm_graph.specs.{declared.memo.{Fact.TheVariants.Counter, Memo.Memo, Step.Step}, Spots.spot_at}
use Rattle.shm_graph.specs.{Blocks.classes, Asks.Trail, Views.{own_word, owner_is}}
use Rattle.shm_graph.specs.Changes.{called, test_before, with_call, with_end, memo_on}
use Rattle.shm_graph.specs.{MemoAfterRead.{read_on, row_read}, MemoAfterExchange.exchanged_on}
use Rattle.shm_graph.specs.Laws.{Frame, framed, Stands}
use Rattle.shm_graph.specs.declared.spot.Spot.TheVariants as spot
use Rattle.shm_graph.proofs.{Spots.SpotPlaces.spot-place, StepKinds.{Loads.choice, LoadKeeping.{load_kept, lost_kept}}}
use Rattle.kind_parts.proofs.{PageSteps.claimed, KeptAfter.kept_with}
use Rattle.shm_alloc.specs.declared.{alloc.AllocFault.TheVariants.{EraSpent, RootsFull}, request.Request.Request}
use Rattle.shm_alloc.specs.declared.point.{Goal.Goal, Search.Search, AllocPoint.TheVariants.{Era, Root, Segment, Claim}}
use Rattle.shm_alloc.specs.declared.point.AllocNext.TheVariants.{Point, Answer}
use Rattle.shm_alloc.specs.Alloc.Control.{RequestFits, PointFits, alloc_next_at, first_page, segment_taken, segment_at}
use Rattle.shm_alloc.specs.Alloc.{GoalHas, CanAlloc, PointHolds, NextHolds}
use Rattle.shm_alloc.specs.Proved.Alloc.Steps.{KeepsAt, PointKeeps, is_here, goal_on}
use Rattle.shm_alloc.specs.Proved.Alloc.SearchSteps.{searched, Looks, Remains, remains, called_owned, called_searched, looks_on, owned_on, refused, segment_done, own_same}
use Rattle.shm_alloc.specs.Proved.Turning.{segment_below}
use Rattle.kind_laws.proofs.Lists.{newest}

-- an own word that is read is the one that the memo has
own_read : (me : Me) (w : Spot → ℕ) (r : ℕ → Memo) (f : Frame) (tr : Trail) (r' : Memo) (p : Spot) → Stands me w r f tr → owner_is me.who p ≡ true → Remains (r me.who) r' → own_word r'.own p ≡ w p
own_read me w r f tr r' p st mine k = ap (λ (x : Memo). own_word x.own p) k.same ∙ st.held.mine me.who st.who p mine

-- ---- the own era

-- by the era that was read: it is spent, or the first root is read
era_done : (me : Me) (q : Request) (r0 r : Memo) (n : ℕ) → CanAlloc me r0 → Looks r0 r → own_word r.own (spot.Era me.who me.who) ≡ n → NextHolds me q r0 r (alloc_next_at me q Era n)
era_done me q r0 r n can h e =
    choice (NextHolds me q r0 r) (ltb (2 ^ 47 - 3) n) (Answer (Err (EraSpent n))) (Point (Root n 0))
    (λ z. refused me q r0 r (EraSpent n) can h (sym (ap (λ o. own_word o (spot.Era me.who me.who)) (sym h.own) ∙ e), ltb-true (2 ^ 47 - 3) n z))
    (λ z. record { stays = h.stays; op = h.op; own = h.own; has = (h.has, sym e, λ j l. absurd (omega arith)) })

-- the own era is loaded
pub era_step : (me : Me) (q : Request) (r0 : Memo) (w : Spot → ℕ) (r : ℕ → Memo) (f : Frame) (tr : Trail) → Stands me w r f tr → CanAlloc me r0 → RequestFits q → PointFits me q Era → PointHolds me q r0 (r me.who) Era → KeepsAt me q r0 w r f Era
era_step me q r0 w r f tr st can request fit h =
    let c = me.who in
    let at = address me.geometry (place.Era c c) in
    let p : Spot = spot.Era c c in
    let t : Step = framed me (Load at) f (w p) in
    let m : Memo = called (r c) t in
    let inside = lt-ltb c me.geometry.clients st.who in
    let row : Memo = row_read c m (test_before (r c) t) c (w p) in
    let other : Memo = record m { facts = Counter p (w p) ∷ m.facts } in
    let k : Remains (r c) (memo_on (r c) t p) = remains (r c) t (memo_on (r c) t p)
    (choice (λ (x : Memo). searched x ≡ searched m) (eqb c c && not (eqb c c)) row other (λ _. refl) (λ _. refl))
    (choice (λ (x : Memo). x.owned ≡ m.owned) (eqb c c && not (eqb c c)) row other (λ _. refl) (λ _. refl)) in
    load_kept me w r f tr at (λ n r'. NextHolds me q r0 r' (alloc_next_at me q Era n)) p st
    (spot-place me.geometry (classes w) (place.Era c c) (and_from _ _ inside inside)) refl tt
    (era_done me q r0 (memo_on (r c) t p) (w p) can
    (looks_on r0 (r c) (memo_on (r c) t p) (record { stays = h.stays; op = h.op; own = h.own; has = h.has }) k)
    (own_read me w r f tr (memo_on (r c) t p) p st (eq-eqb c c refl) k))

-- ---- the roots

-- by the root that was read: it is empty, or the next one is read, or all are set
root_done : (me : Me) (q : Request) (r0 r : Memo) (e k n : ℕ) → CanAlloc me r0 → PointFits me q (Root e k) → Looks r0 r → e ≡ own_word r.own (spot.Era me.who me.who) → ((j : ℕ) → j < k → own_word r.own (spot.Root me.who j) ≢ 0)
    → own_word r.own (spot.Root me.who k) ≡ n → NextHolds me q r0 r (alloc_next_at me q (Root e k) n)
root_done me q r0 r e k n can fit h era set here =
    let c = me.who in
    let found : Goal = record { era = e; root = k } in
    let start : Search = record { segment = 0; taken = 0; used = 0 } in
    let more : n ≢ 0 → (j : ℕ) → j < k + 1 → own_word r.own (spot.Root c j) ≢ 0 = λ some j l.
    elim (cases_eq j k) [
      | inl z ↦ subst (λ i. own_word r.own (spot.Root c i) ≢ 0) (sym z) (λ y. some (sym here ∙ y))
      | inr z ↦ set j (omega arith)
    ] in
    choice (NextHolds me q r0 r) (eqb n 0) (Point (Segment found start)) (cond (ltb k 15) (Point (Root e (k + 1))) (Answer (Err RootsFull)))
    (λ z. record { stays = h.stays; op = h.op; own = h.own; has = (h.has, record { room = fit.0; number = fit.1; era = era; empty = here ∙ eqb-true n 0 z; before = set }) })
    (λ z. choice (NextHolds me q r0 r) (ltb k 15) (Point (Root e (k + 1))) (Answer (Err RootsFull))
    (λ _. record { stays = h.stays; op = h.op; own = h.own; has = (h.has, era, more (eqb-false n 0 z)) })
    (λ y. let last = ltb-false k 15 y in
    let o : own_word r0.own (spot.Era c c) ≡ e = sym (era ∙ ap (λ o. own_word o (spot.Era c c)) h.own) in
    let small = fit.0 in
    refused me q r0 r RootsFull can h
    (omega arith, λ j l x. more (eqb-false n 0 z) j (omega arith) (ap (λ o. own_word o (spot.Root c j)) h.own ∙ x))))

-- a root is loaded
pub root_step : (me : Me) (q : Request) (r0 : Memo) (w : Spot → ℕ) (r : ℕ → Memo) (f : Frame) (tr : Trail) (e k : ℕ) → PointKeeps me q r0 w r f tr (Root e k)
root_step me q r0 w r f tr e k st going can request fit h =
    let c = me.who in
    let at = address me.geometry (place.Root c k) in
    let p : Spot = spot.Root c k in
    let t : Step = framed me (Load at) f (w p) in
    let x : Remains (r c) (memo_on (r c) t p) = remains (r c) t (memo_on (r c) t p) refl refl in
    let same : (s : Spot) → own_word (memo_on (r c) t p).own s ≡ own_word (r c).own s = λ s. ap (λ (y : Memo). own_word y.own s) x.same in
    load_kept me w r f tr at (λ n r'. NextHolds me q r0 r' (alloc_next_at me q (Root e k) n)) p st
    (spot-place me.geometry (classes w) (place.Root c k) (and_from _ _ (lt-ltb c me.geometry.clients st.who) (lt-ltb k 16 fit.1))) refl tt
    (root_done me q r0 (memo_on (r c) t p) e k (w p) can fit
    (looks_on r0 (r c) (memo_on (r c) t p) (record { stays = h.stays; op = h.op; own = h.own; has = h.has.0 }) x)
    (h.has.1 ∙ sym (same (spot.Era c c)))
    (λ j l z. h.has.2 j l (sym (same (spot.Root c j)) ∙ z))
    (own_read me w r f tr (memo_on (r c) t p) p st (eq-eqb c c refl) x))

-- ---- segments

-- by the owner that was read: the segment is nobody's, an own one or another's
segment_found : (me : Me) (q : Request) (r0 r : Memo) (g : Goal) (s : Search) (n : ℕ) → CanAlloc me r0 → Looks r0 r → GoalHas me.who r g → (n ≡ me.who + 1 → Contains r.owned (segment_at me q s.segment)) → NextHolds me q r0 r (alloc_next_at me q (Segment g s) n)
segment_found me q r0 r g s n can h goal mine =
    choice (NextHolds me q r0 r) (eqb n 0) (Point (Claim g s)) (cond (eqb n (me.who + 1)) (first_page g s) (segment_taken me g s))
    (λ _. record { stays = h.stays; op = h.op; own = h.own; has = (h.has, goal) })
    (λ _. choice (NextHolds me q r0 r) (eqb n (me.who + 1)) (first_page g s) (segment_taken me g s)
    (λ e. record { stays = h.stays; op = h.op; own = h.own; has = (h.has, goal, mine (eqb-true n (me.who + 1) e)) })
    (λ _. segment_done me q r0 r g (record s { taken = s.taken + 1 }) can h goal))

-- the owner of a segment is loaded
pub segment_step : (me : Me) (q : Request) (r0 : Memo) (w : Spot → ℕ) (r : ℕ → Memo) (f : Frame) (tr : Trail) (g : Goal) (s : Search) → PointKeeps me q r0 w r f tr (Segment g s)
segment_step me q r0 w r f tr g s st going can request fit h =
    let c = me.who in
    let i : ℕ = segment_at me q s.segment in
    let there : i < me.geometry.segments = segment_below me q s.segment fit.1.segment in
    let at = address me.geometry (place.Segment i) in
    let p : Spot = spot.Segment i in
    let t : Step = framed me (Load at) f (w p) in
    let x : Remains (r c) (memo_on (r c) t p) = remains (r c) t (memo_on (r c) t p) refl refl in
    load_kept me w r f tr at (λ n r'. NextHolds me q r0 r' (alloc_next_at me q (Segment g s) n)) p st
    (spot-place me.geometry (classes w) (place.Segment i) (lt-ltb i me.geometry.segments there)) refl tt
    (segment_found me q r0 (memo_on (r c) t p) g s (w p) can
    (looks_on r0 (r c) (memo_on (r c) t p) (record { stays = h.stays; op = h.op; own = h.own; has = h.has.0 }) x)
    (goal_on c (r c) (memo_on (r c) t p) g (own_same (r c) (memo_on (r c) t p) x) h.has.1)
    (λ e. owned_on (r c) (memo_on (r c) t p) i ((st.held.segments c st.who).all i e) x))

-- ---- a segment is claimed

-- a segment is exchanged
pub claim_step : (me : Me) (q : Request) (r0 : Memo) (w : Spot → ℕ) (r : ℕ → Memo) (f : Frame) (tr : Trail) (g : Goal) (s : Search) → PointKeeps me q r0 w r f tr (Claim g s)
claim_step me q r0 w r f tr g s st going can request fit h =
    let c = me.who in
    let i : ℕ = segment_at me q s.segment in
    let there : i < me.geometry.segments = segment_below me q s.segment fit.1.segment in
    let at = address me.geometry (place.Segment i) in
    let p : Spot = spot.Segment i in
    let t : Step = framed me (Exchange at 0 (c + 1)) f (w p) in
    let m : Memo = called (r c) t in
    let after : ℕ → Memo → Type 0 = λ n r'. NextHolds me q r0 r' (alloc_next_at me q (Claim g s) n) in
    let memo : Bool → Memo = λ b. with_end f.ends (with_call m (cond b (exchanged_on me.geometry.wide c m p (c + 1)) (read_on me.geometry c false m (test_before (r c) t) p (w p)))) in
    let Goes : Bool → Type 0 = λ b. NextHolds me q r0 (memo b) (cond b (first_page g s) (segment_taken me g s)) in
    let here : Looks r0 (r c) = record { stays = h.stays; op = h.op; own = h.own; has = h.has.0 } in
    let e = spot-place me.geometry (classes w) (place.Segment i) (lt-ltb i me.geometry.segments there) in
    let won : Remains (r c) (memo true) = record { same = called_searched (r c) t; owned = (i ∷ [], ap (λ os. i ∷ os) (called_owned (r c) t)) } in
    let lost : Remains (r c) (memo false) = remains (r c) t (memo false) refl refl in
    elim (cases_eq (w p) 0) [
      | inl z ↦ kept_with me w r (Exchange at 0 (c + 1)) f after p (spot_at me.geometry (classes w) at) e
          (claimed me w r f tr at i st going e z (is_here me r0 (r c) can here.stays))
          (subst Goes (sym (eq-eqb (w p) 0 z))
          (let x = looks_on r0 (r c) (memo true) here won in
          record { stays = x.stays; op = x.op; own = x.own; has = (x.has, goal_on c (r c) (memo true) g (own_same (r c) (memo true) won) h.has.1, newest i m.owned) }))
      | inr z ↦ lost_kept me w r f tr at 0 (c + 1) after p st e refl tt z
          (subst Goes (sym (ne_eqb (w p) 0 z))
          (segment_done me q r0 (memo false) g (record s { taken = s.taken + 1 }) can (looks_on r0 (r c) (memo false) here lost) (goal_on c (r c) (memo false) g (own_same (r c) (memo false) lost) h.has.1)))
    ]
