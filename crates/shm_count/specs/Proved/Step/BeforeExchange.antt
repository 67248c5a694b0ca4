-- what a count step keeps up to the exchange: it reads the own era, stores the redo record, reads the header of its block, and shows the header's era in the own row
use Rattle.std.proofs.Common.{cond, ◌≡◌, ◌≢◌, ℕ, ◌+◌, ◌<◌, ◌≤◌, refl, sym, ap, ◌∙◌, subst, arith, true, false, eqb, ltb, ◌∷◌, []}
use Rattle.std.proofs.lemmas.Bool.{eq-eqb, ne_eqb, and_from, lt-ltb, ltb-true, ltb-false, cond-true, cond-false}
use Rattle.std.specs.{Prelude.{Result, Err, Bool}, List.Contains}
use Rattle.shm_count.specs.Step.{Events.events_at, Asks.{point_trail, first_trail, more_trail, redo_trail}}
use Rattle.shm_count.specs.Step.Control.{first_point, is_over, last_era, block_at, redo_at, row_address, step_ask_at, step_next_at, PointFits, first_next}
use Rattle.shm_count.specs.Step.{HasPut, CanStep, begun_op, Rows, begun, HasRead, InHalf, PointHolds, NextHolds, CanAim, readied, PointHas}
use Rattle.shm_count.specs.Proved.Step.Memos.{rows_same, row_raised, half_then, half_same, read_same, era_room, half_status, more_rows, rows_then}
use Rattle.shm_count.specs.Proved.Step.Headers.{half_block, header_has, header_found}
use Rattle.shm_count.specs.Proved.Step.Beginning.{record_of, can_on, begins_here, can_ready}
use Rattle.shm_count.specs.declared.{answer.UpFault.{UpFault, TheVariants.EraSpent}, point.Aim.Aim}
use Rattle.shm_count.specs.declared.point.{Aim.TheVariants.{Up, Down, Change}, Half.{Half, TheVariants.First}}
use Rattle.shm_count.specs.declared.point.StepPoint.{StepPoint, TheVariants.{Era, Redo, Row, Show, Exchange, More}}
use Rattle.shm_count.specs.declared.point.StepNext.TheVariants.{Point, Answer}
use Rattle.shm_count.specs.declared.point.StepPoint.TheVariants as point
use Rattle.shm_words.proofs.Words.{fitted_same}
use Rattle.shm_words.specs.{declared.redo.Redo.Redo as ARedo, Headers.header_of, Layout.address}
use Rattle.shm_words.specs.Redos.{second_word, first_word, RedoFits, redo_first, redo_second}
use Rattle.shm_words.specs.declared.place.Place.TheVariants as place
use Rattle.shm_graph.specs.{Trails.Chosen, declared.memo.Op.TheVariants.Nothing as NoOp}
use Rattle.shm_graph.specs.declared.memo.{Fact.TheVariants.{Header as HeaderRead, Counter}, Memo.Memo, Step.Step}
use Rattle.shm_graph.specs.{declared.{ask.{Ask.{Ask, TheVariants.{Load, Store}}, Me.Me}, spot.Spot.Spot}, Held.Names}
use Rattle.shm_graph.specs.{Agents.recovers, Asks.{Trail, at_of}, Blocks.classes}
use Rattle.shm_graph.specs.{Changes.{called, with_call, with_end, memo_on}, Laws.{Frame, framed, Stands, KeptAt}}
use Rattle.shm_graph.specs.{Reach.is_reached, Spots.{spot_at, same_spot}, MemoAfterStore.{with_own, era_stored}}
use Rattle.shm_graph.specs.{Views.{view, own_word}, Core.core}
use Rattle.shm_graph.specs.declared.spot.Spot.TheVariants as spot
use Rattle.shm_graph.proofs.{StepKinds.{LoadKeeping.load_kept, Loads.choice}, Spots.SpotPlaces.spot-place}
use Rattle.shm_graph.proofs.{Spots.Spotting.same_spot_self, Memos.MemoSteps.recovers_on}
use Rattle.kind_laws.specs.OwnWords.{BeginNeeds}
use Rattle.kind_parts.specs.OwnWords.{op_begun, SecondStored}
use Rattle.kind_parts.proofs.{BodyLoads.header_loaded, OwnStores.row_stored, OwnStoresRedo.{redo_stored, more_stored}}
use Rattle.kind_parts.proofs.KeptAfter.{kept_going}
use Rattle.kind_parts.proofs.Cores.{called_core, era_core, era_counts, era_facts, header_core, here_same}

-- ---- what a step owes

-- the step at a point keeps the invariant, and then what comes next holds of the memo
abbrev pub KeepsAt : Me → ℕ → Aim → Spot → Memo → (Spot → ℕ) → (ℕ → Memo) → Frame → StepPoint → Type 0
KeepsAt me slot x p r0 w r f y = KeptAt me w r (step_ask_at me slot x y) f (λ n r'. NextHolds me slot x p r0 r' (step_next_at me x y n)) (spot_at me.geometry (classes w) (at_of (step_ask_at me slot x y)))

-- the spot of a word of the own row
pub row_spot : (me : Me) (w : Spot → ℕ) (j : ℕ) → me.who < me.geometry.clients → j < me.geometry.clients → spot_at me.geometry (classes w) (row_address me j) ≡ spot.Era me.who j
row_spot me w j l k =
    ap (spot_at me.geometry (classes w)) (cond-true (ltb j me.geometry.clients) (address me.geometry (place.Era me.who j)) 0 (lt-ltb j me.geometry.clients k))
    ∙ spot-place me.geometry (classes w) (place.Era me.who j) (and_from _ _ (lt-ltb me.who me.geometry.clients l) (lt-ltb j me.geometry.clients k))

-- a word of the own row that is read is the one that the memo has
row_same : (me : Me) (w : Spot → ℕ) (r : ℕ → Memo) (f : Frame) (tr : Trail) (j : ℕ) → Stands me w r f tr → own_word (r me.who).own (spot.Era me.who j) ≡ w (spot.Era me.who j)
row_same me w r f tr j st = st.held.mine me.who st.who (spot.Era me.who j) (eq-eqb me.who me.who refl)

-- ---- the own era

-- what was read of a queue still binds
era_put : (me : Me) (x : Aim) (p : Spot) (w : Spot → ℕ) (r : ℕ → Memo) (f : Frame) → HasPut me.who x p (r me.who)
    → let at : ℕ = address me.geometry (place.Era me.who me.who) in HasPut me.who x p (memo_on (r me.who) (framed me (Load at) f (w (spot.Era me.who me.who))) (spot.Era me.who me.who))
era_put me x p w r f h = go x p h
  where
    c : ℕ
    c = me.who

    at : ℕ
    at = address me.geometry (place.Era c c)

    n : ℕ
    n = w (spot.Era c c)

    m : Memo
    m = memo_on (r c) (framed me (Load at) f n) (spot.Era c c)

    go : (x : Aim) (p : Spot) → HasPut c x p (r c) → HasPut c x p m
    go (Up b) (spot.Slot s i k) (y, fact, room) = (
      y,
      era_counts me f (r c) at c c n (Counter (spot.QueueHead c i) y) refl fact,
      subst (λ z. z < y + 8) (sym (ap (λ (z : Memo). own_word z.own (spot.Tail c i)) (era_core me f (r c) at c c n))) room,
    )
    go (Up b) _ h = tt
    go (Down b) p h = tt
    go (Change d b) p h = tt

-- what the memo is where the redo record is to be stored
abbrev readied_by : Bool → Me → ℕ → Memo → Memo
readied_by b me v m = cond b (with_own m (spot.RedoMore me.who) v) m

abbrev second : Me → ℕ → Aim → ℕ → ℕ
second me slot x e = second_word me.geometry.wide (redo_at x slot e)

pub ready_part : {T : Type 0} (F : Memo → T) (me : Me) (slot : ℕ) (x : Aim) (e : ℕ) (m : Memo) → F (with_own m (spot.RedoMore me.who) (second me slot x e)) ≡ F m → F (readied me slot x e m) ≡ F m
ready_part {T} F me slot x e m same = go me.geometry.wide
  where
    go : (b : Bool) → F (readied_by b me (second me slot x e) m) ≡ F m
    go true = same
    go false = refl

ready_can : (me : Me) (slot : ℕ) (x : Aim) (p : Spot) (e : ℕ) (m : Memo) → CanAim me.geometry.wide me.geometry.clients me.who m x p → CanAim me.geometry.wide me.geometry.clients me.who (readied me slot x e m) x p
ready_can me slot x p e m h = go me.geometry.wide
  where
    go : (b : Bool) → CanAim me.geometry.wide me.geometry.clients me.who (readied_by b me (second me slot x e) m) x p
    go true = can_ready me.geometry.wide me.geometry.clients me.who (second me slot x e) m x p h
    go false = h

ready_is : (me : Me) (slot : ℕ) (x : Aim) (e : ℕ) (m : Memo) → me.geometry.wide ≡ true → readied me slot x e m ≡ with_own m (spot.RedoMore me.who) (second me slot x e)
ready_is me slot x e m wide = ap (λ b. readied_by b me (second me slot x e) m) wide

ready_not : (me : Me) (slot : ℕ) (x : Aim) (e : ℕ) (m : Memo) → me.geometry.wide ≡ false → readied me slot x e m ≡ m
ready_not me slot x e m narrow = ap (λ b. readied_by b me (second me slot x e) m) narrow

ready_more : (me : Me) (slot : ℕ) (x : Aim) (e : ℕ) (m : Memo) → me.geometry.wide ≡ true → own_word (readied me slot x e m).own (spot.RedoMore me.who) ≡ second me slot x e
ready_more me slot x e m wide =
    let c = me.who in
    ap (λ (y : Memo). own_word y.own (spot.RedoMore c)) (ready_is me slot x e m wide)
    ∙ cond-true (same_spot (spot.RedoMore c) (spot.RedoMore c)) (second me slot x e) (own_word m.own (spot.RedoMore c)) (same_spot_self (spot.RedoMore c))

-- the second word is one of those that may have been stored
ready_rows : (me : Me) (slot : ℕ) (x : Aim) (p : Spot) (e : ℕ) (m : Memo) → Rows me.who (begun me slot x p e m) (begun me slot x p e (readied me slot x e m))
ready_rows me slot x p e m = go me.geometry.wide
  where
    go : (b : Bool) → Rows me.who (begun me slot x p e m) (begun me slot x p e (readied_by b me (second me slot x e) m))
    go true = more_rows me slot x p e (second me slot x e) m
    go false = rows_same me.who (begun me slot x p e m) (begun me slot x p e m) refl

-- what was read of a queue binds still
more_put : (me : Me) (x : Aim) (p : Spot) (at v : ℕ) (r : ℕ → Memo) (f : Frame) → HasPut me.who x p (r me.who) → HasPut me.who x p (memo_on (r me.who) (framed me (Store at v) (record f { fresh = false }) 0) (spot.RedoMore me.who))
more_put me (Up b) (spot.Slot s i k) at v r f h = h
more_put me (Up b) (spot.Root i k) at v r f h = h
more_put me (Up b) (spot.Home i) at v r f h = h
more_put me (Up b) (spot.Body i k) at v r f h = h
more_put me (Down b) p at v r f h = tt
more_put me (Change d b) p at v r f h = tt
more_put me (Up b) _ at v r f h = tt

-- where the own era leaves room the step goes on to its redo record
pub first_holds : (me : Me) (slot : ℕ) (x : Aim) (p : Spot) (r0 m : Memo) (n : ℕ) → recovers m ≡ recovers r0 → core m ≡ core r0 → n ≡ own_word r0.own (spot.Era me.who me.who) → HasPut me.who x p m → NextHolds me slot x p r0 m (first_next me n)
first_holds me slot x p r0 m n agent same own put = go me.geometry.wide refl
  where
    go : (b : Bool) → me.geometry.wide ≡ b → PointHolds me slot x p r0 m (cond b (More n) (Redo n))
    go true z = record { agent = agent; has = (same, own, put, z) }
    go false z = record { agent = agent; has = (same ∙ sym (ap core (ready_not me slot x n r0 z)), own, put) }

-- what the memo shows there: it is what it was, and so is the own era
pub first_same : (me : Me) (slot : ℕ) (x : Aim) (p : Spot) (r0 m : Memo) (n : ℕ) → PointHas me slot x p r0 m (first_point me n) → core m ≡ core r0
first_same me slot x p r0 m n h = go me.geometry.wide refl h
  where
    go : (b : Bool) → me.geometry.wide ≡ b → PointHas me slot x p r0 m (cond b (More n) (Redo n)) → core m ≡ core r0
    go true z h = h.0
    go false z h = h.0 ∙ ap core (ready_not me slot x n r0 z)

pub first_era : (me : Me) (slot : ℕ) (x : Aim) (p : Spot) (r0 m : Memo) (n : ℕ) → PointHas me slot x p r0 m (first_point me n) → n ≡ own_word r0.own (spot.Era me.who me.who)
first_era me slot x p r0 m n h = go me.geometry.wide h
  where
    go : (b : Bool) → PointHas me slot x p r0 m (cond b (More n) (Redo n)) → n ≡ own_word r0.own (spot.Era me.who me.who)
    go true h = h.1
    go false h = h.1

-- and what is asked from there on
pub first_asked : (me : Me) (slot : ℕ) (x : Aim) (n : ℕ) (t : Trail) (a : Result Bool UpFault) → point_trail me slot x (first_point me n) t a → first_trail me slot x n t a
first_asked me slot x n t a h = go me.geometry.wide h
  where
    go : (b : Bool) → point_trail me slot x (cond b (More n) (Redo n)) t a → Chosen b (more_trail me slot x n) (redo_trail me slot x n) t a
    go true h = h
    go false h = h

-- nothing has happened there, and it is not over
pub first_told : (me : Me) (x : Aim) (p : Spot) (n : ℕ) → events_at me x p (first_point me n) ≡ []
first_told me x p n = go me.geometry.wide
  where
    go : (b : Bool) → events_at me x p (cond b (More n) (Redo n)) ≡ []
    go true = refl
    go false = refl

pub first_going : (me : Me) (n : ℕ) → is_over (first_point me n) ≡ false
first_going me n = go me.geometry.wide
  where
    go : (b : Bool) → is_over (cond b (More n) (Redo n)) ≡ false
    go true = refl
    go false = refl

-- the own era is loaded
pub era_step : (me : Me) (slot : ℕ) (x : Aim) (p : Spot) (r0 : Memo) (w : Spot → ℕ) (r : ℕ → Memo) (f : Frame) (tr : Trail) → Stands me w r f tr → CanStep me slot x p r0 → PointFits me x Era → PointHolds me slot x p r0 (r me.who) Era → KeepsAt me slot x p r0 w r f Era
era_step me slot x p r0 w r f tr st can fits h =
    let c = me.who in
    let at = address me.geometry (place.Era c c) in
    let s : Spot = spot.Era c c in
    let n = w s in
    let inside = lt-ltb c me.geometry.clients st.who in
    let m : Memo = memo_on (r c) (framed me (Load at) f n) s in
    let same : core m ≡ core r0 = era_core me f (r c) at c c n ∙ h.has.0 in
    let own : n ≡ own_word r0.own s = sym (row_same me w r f tr c st) ∙ ap (λ (y : Memo). own_word y.own s) h.has.0 in
    load_kept me w r f tr at (λ n r'. NextHolds me slot x p r0 r' (step_next_at me x Era n)) s st
    (spot-place me.geometry (classes w) (place.Era c c) (and_from _ _ inside inside)) refl tt
    (choice (NextHolds me slot x p r0 m) (ltb (last_era x) n) (Answer (Err (EraSpent n))) (first_next me n)
    (λ z. (same, own, ltb-true (last_era x) n z))
    (λ z. first_holds me slot x p r0 m n (recovers_on (r c) (framed me (Load at) f n) s ∙ h.agent) same own (era_put me x p w r f h.has.1)))

-- ---- the redo record

-- in format 2 its second word is stored, while there is no step
pub more_step : (me : Me) (slot : ℕ) (x : Aim) (p : Spot) (r0 : Memo) (w : Spot → ℕ) (r : ℕ → Memo) (f : Frame) (tr : Trail) (e : ℕ) → Stands me w r f tr → f.fresh ≡ false → CanStep me slot x p r0 → PointFits me x (More e) → PointHolds me slot x p r0 (r me.who) (More e)
    → KeepsAt me slot x p r0 w r f (More e)
more_step me slot x p r0 w r f tr e st going can fits h =
    let c = me.who in
    let m : Memo = r c in
    let g = me.geometry in
    let s : Spot = spot.RedoMore c in
    let at : ℕ = address g (place.RedoMore c) in
    let red : ARedo = redo_at x slot e in
    let v : ℕ = second_word g.wide red in
    let a : Ask = Store at v in
    let same : core m ≡ core r0 = h.has.0 in
    let own : e ≡ own_word m.own (spot.Era c c) = h.has.1 ∙ sym (ap (λ (y : Memo). own_word y.own (spot.Era c c)) same) in
    let begins = begins_here g w r c st.held st.who x p (can_on g.clients c r0 m same g.wide x p h.has.2 (can.can (subst (λ y. y ≤ last_era x) h.has.1 (era_room x e fits.0)))) (λ up. ap (λ (y : Memo). is_reached c y (block_at x First)) same ∙ can.reach up) in
    let spells : record_of g w r c st.held st.who x p ≡ red = ap (λ y. redo_at x y (own_word m.own (spot.Era c c))) (sym can.at) ∙ ap (redo_at x slot) (sym own) in
    let names : Names g (classes w) red = subst (Names g (classes w)) spells begins.0.names in
    let in_range : RedoFits g.wide red = subst (RedoFits g.wide) spells begins.0.fits in
    let i : spot_at g (classes w) at ≡ s = spot-place g (classes w) (place.RedoMore c) (and_from _ _ fits.1 (lt-ltb c g.clients st.who)) in
    let value : redo_second true red ≡ v = ap (λ b. redo_second b red) (sym fits.1) ∙ ap (redo_second g.wide) (sym (fitted_same g.wide red in_range)) in
    let idle : m.op ≡ NoOp = ap (λ (y : Memo). y.op) same ∙ can.idle in
    let t : Step = framed me a (record f { fresh = false }) 0 in
    let m' : Memo = memo_on m t s in
    let core_now : core m' ≡ core (readied me slot x e r0) =
    ap (λ (y : Memo). core (with_own y s v)) (called_core m t ∙ same) ∙ sym (ap core (ready_is me slot x e r0 fits.1)) in
    kept_going me w r a f (λ n r'. NextHolds me slot x p r0 r' (step_next_at me x (More e) n)) s going i
    (subst (λ y. KeptAt me w r (Store at y) f (λ n m. Unit {0}) (spot_at g (classes w) at)) value
    (more_stored me w r f tr at red st going i (record { here = here_same r0 m (ap (λ (y : Memo). y.status) same) can.here; wide = fits.1; idle = idle }) names))
    (record { agent = recovers_on m t s ∙ h.agent; has = (core_now, h.has.1, more_put me x p at v r f h.has.2) })

-- the redo record is stored, in format 2 its first word, which begins the step
pub redo_step : (me : Me) (slot : ℕ) (x : Aim) (p : Spot) (r0 : Memo) (w : Spot → ℕ) (r : ℕ → Memo) (f : Frame) (tr : Trail) (e : ℕ) → Stands me w r f tr → f.fresh ≡ false → CanStep me slot x p r0 → PointFits me x (Redo e) → PointHolds me slot x p r0 (r me.who) (Redo e)
    → KeepsAt me slot x p r0 w r f (Redo e)
redo_step me slot x p r0 w r f tr e st going can fits h =
    let c = me.who in
    let m : Memo = r c in
    let g = me.geometry in
    let s : Spot = spot.Redo c in
    let at : ℕ = address g (place.Redo c) in
    let red : ARedo = redo_at x slot e in
    let v : ℕ = first_word g.wide red in
    let a : Ask = Store at v in
    let r1 : Memo = readied me slot x e r0 in
    let same : core m ≡ core r1 = h.has.0 in
    let era1 : own_word r1.own (spot.Era c c) ≡ own_word r0.own (spot.Era c c) = ready_part (λ (y : Memo). own_word y.own (spot.Era c c)) me slot x e r0 refl in
    let own : e ≡ own_word m.own (spot.Era c c) = h.has.1 ∙ (sym era1 ∙ sym (ap (λ (y : Memo). own_word y.own (spot.Era c c)) same)) in
    let can1 : CanAim g.wide g.clients c r1 x p = ready_can me slot x p e r0 (can.can (subst (λ y. y ≤ last_era x) h.has.1 (era_room x e fits))) in
    let begins = begins_here g w r c st.held st.who x p (can_on g.clients c r1 m same g.wide x p h.has.2 can1)
    (λ up. ap (λ (y : Memo). is_reached c y (block_at x First)) same ∙ (ready_part (λ (y : Memo). is_reached c y (block_at x First)) me slot x e r0 refl ∙ can.reach up)) in
    let spells : record_of g w r c st.held st.who x p ≡ red = ap (λ y. redo_at x y (own_word m.own (spot.Era c c))) (sym can.at) ∙ ap (redo_at x slot) (sym own) in
    let in_range : RedoFits g.wide red = subst (RedoFits g.wide) spells begins.0.fits in
    let value : redo_first g.wide red ≡ v = ap (redo_first g.wide) (sym (fitted_same g.wide red in_range)) in
    let ready : SecondStored g c m red = λ wide. ap (λ (y : Memo). own_word y.own (spot.RedoMore c)) same ∙ (ready_more me slot x e r0 wide ∙ (ap (redo_second g.wide) (fitted_same g.wide red in_range) ∙ ap (λ b. redo_second b red) wide)) in
    let ready_here : SecondStored g c m (record_of g w r c st.held st.who x p) = subst (SecondStored g c m) (sym spells) ready in
    let first_is : redo_first g.wide (record_of g w r c st.held st.who x p) ≡ v = ap (redo_first g.wide) spells ∙ value in
    let began : op_begun g c m v ≡ begun_op x p e = ap (op_begun g c m) (sym first_is) ∙ (begins.1 ready_here ∙ ap (begun_op x p) (sym own)) in
    let i : spot_at g (classes w) at ≡ s = spot-place g (classes w) (place.Redo c) (lt-ltb c g.clients st.who) in
    let t : Step = framed me a (record f { fresh = false }) 0 in
    let m' : Memo = memo_on m t s in
    let core_now : core m' ≡ core (begun me slot x p e r1) =
    ap (λ (y : Memo). record y { own = record { spot = s; value = v } ∷ y.own; op = op_begun g c m v }) (called_core m t ∙ same)
    ∙ ap (λ o. core (record r1 { own = record { spot = s; value = v } ∷ r1.own; op = o })) began in
    kept_going me w r a f (λ n r'. NextHolds me slot x p r0 r' (step_next_at me x (Redo e) n)) s going i
    (redo_stored me w r f tr at v st going i (subst (λ y. BeginNeeds g w (view r) c y (op_begun g c m y)) first_is (begins.0.needs ready_here)))
    (record { agent = recovers_on m t s ∙ h.agent; has = (h.has.1, rows_then c (begun me slot x p e r0) (begun me slot x p e r1) m' (ready_rows me slot x p e r0) (rows_same c (begun me slot x p e r1) m' core_now)) })

-- ---- the header

-- the header of the block is loaded
pub load_step : (me : Me) (slot : ℕ) (x : Aim) (p : Spot) (r0 : Memo) (w : Spot → ℕ) (r : ℕ → Memo) (f : Frame) (tr : Trail) (e : ℕ) (h : Half) → Stands me w r f tr → f.fresh ≡ false → CanStep me slot x p r0 → PointFits me x (point.Load e h) → PointHolds me slot x p r0 (r me.who) (point.Load e h)
    → KeepsAt me slot x p r0 w r f (point.Load e h)
load_step me slot x p r0 w r f tr e h st going can fits k =
    let c = me.who in
    let m : Memo = r c in
    let b = block_at x h in
    let s : Spot = spot.Head b in
    let n = w s in
    let a : Ask = Load b in
    let t : Step = framed me a (record f { fresh = false }) n in
    let m' : Memo = memo_on m t s in
    let i : spot_at me.geometry (classes w) b ≡ s = half_block me slot p r0 w r e st.held st.who x h can fits.0 fits.1 k.has in
    let read : HasRead c me.geometry.clients m' n = header_has me slot p r0 w r e st.held st.who x h m' can fits.0 fits.1 k.has (0, omega arith, refl) in
    kept_going me w r a f (λ n r'. NextHolds me slot x p r0 r' (step_next_at me x (point.Load e h) n)) s going i
    (header_loaded me w r f tr b b st i)
    (header_found me slot p r0 m m' e n x h can fits.0 fits.1 k.agent k.has (recovers_on m t s ∙ k.agent) (header_core me a (record f { fresh = false }) m b n true) read)

-- ---- the own row

-- the own row's word for the header's client is loaded
pub row_step : (me : Me) (slot : ℕ) (x : Aim) (p : Spot) (r0 : Memo) (w : Spot → ℕ) (r : ℕ → Memo) (f : Frame) (tr : Trail) (e : ℕ) (h : Half) (w0 : ℕ) → Stands me w r f tr → f.fresh ≡ false → CanStep me slot x p r0 → PointFits me x (Row e h w0) → PointHolds me slot x p r0 (r me.who) (Row e h w0)
    → KeepsAt me slot x p r0 w r f (Row e h w0)
row_step me slot x p r0 w r f tr e h w0 st going can fits k =
    let c = me.who in
    let m : Memo = r c in
    let j = (header_of w0).client in
    let at = row_address me j in
    let s : Spot = spot.Era c j in
    let n = w s in
    let t : Step = framed me (Load at) f n in
    let m' : Memo = memo_on m t s in
    let half : InHalf me slot x p r0 m e h = k.has.0 in
    let has : HasRead c me.geometry.clients m w0 = k.has.1 in
    let other : c ≢ j = k.has.2 in
    let same : core m' ≡ core m = era_core me f m at c j n in
    let now : InHalf me slot x p r0 m' e h = half_same me slot x p r0 m m' e h same half in
    let read : HasRead c me.geometry.clients m' w0 = read_same c me.geometry.clients m m' w0 (era_facts me f m at c j n (HeaderRead w0) going) has in
    let agent : recovers m' ≡ recovers r0 = recovers_on m t s ∙ k.agent in
    let own : own_word m'.own s ≡ n = ap (λ (y : Memo). own_word y.own s) same ∙ row_same me w r f tr j st in
    load_kept me w r f tr at (λ n r'. NextHolds me slot x p r0 r' (step_next_at me x (Row e h w0) n)) s st (row_spot me w j st.who has.client) refl tt
    (choice (NextHolds me slot x p r0 m') (ltb n (header_of w0).era) (Point (Show e h w0)) (Point (Exchange e h w0))
    (λ z. let l = ltb-true n (header_of w0).era z in record { agent = agent; has = (now, read, other, omega arith) })
    (λ z. let l = ltb-false n (header_of w0).era z in record { agent = agent; has = (now, read, λ _. omega arith) }))

-- the header's era is stored there
pub show_step : (me : Me) (slot : ℕ) (x : Aim) (p : Spot) (r0 : Memo) (w : Spot → ℕ) (r : ℕ → Memo) (f : Frame) (tr : Trail) (e : ℕ) (h : Half) (w0 : ℕ) → Stands me w r f tr → f.fresh ≡ false → CanStep me slot x p r0 → PointFits me x (Show e h w0) → PointHolds me slot x p r0 (r me.who) (Show e h w0)
    → KeepsAt me slot x p r0 w r f (Show e h w0)
show_step me slot x p r0 w r f tr e h w0 st going can fits k =
    let c = me.who in
    let m : Memo = r c in
    let j = (header_of w0).client in
    let v = (header_of w0).era in
    let at = row_address me j in
    let s : Spot = spot.Era c j in
    let a : Ask = Store at v in
    let t : Step = framed me a (record f { fresh = false }) 0 in
    let m' : Memo = memo_on m t s in
    let half : InHalf me slot x p r0 m e h = k.has.0 in
    let has : HasRead c me.geometry.clients m w0 = k.has.1 in
    let other : c ≢ j = k.has.2 in
    let more : own_word m.own s ≤ v = k.has.3 in
    let stays = ne_eqb j c (λ z. other (sym z)) in
    let n : Memo = called m t in
    let stored : (F : Memo → Type 0) → F (with_end f.ends (with_call n (with_own n s v))) → F m' = λ F y. subst (λ (z : Memo). F (with_end f.ends (with_call n z))) (sym (cond-false (eqb j c) (era_stored c n s v) (with_own n s v) stays)) y in
    let same : core m' ≡ core (with_own m s v) = stored (λ z. core z ≡ core (with_own m s v)) (ap (λ (y : Memo). record y { own = record { spot = s; value = v } ∷ y.own }) (called_core m t)) in
    let row : Rows c m m' = row_raised c m m' j v other more same in
    let shows : own_word m'.own s ≡ v = ap (λ (y : Memo). own_word y.own s) same ∙ cond-true _ v (own_word m.own s) (same_spot_self s) in
    let i : spot_at me.geometry (classes w) at ≡ s = row_spot me w j st.who has.client in
    kept_going me w r a f (λ n r'. NextHolds me slot x p r0 r' (step_next_at me x (Show e h w0) n)) s going i
    (row_stored me w r f tr at j v st going i
    (record {
      here = here_same r0 m (half_status me slot p r0 m e x h can fits.0 fits.1 half) can.here;
      other = other;
      more = more;
      read = (w0, has.fact, has.live, refl, omega arith);
    }))
    (record {
      agent = recovers_on m t s ∙ k.agent;
      has = (half_then me slot x p r0 m m' e h row half, read_same c me.geometry.clients m m' w0 (λ y. stored (λ z. Contains z.facts (HeaderRead w0)) y) has, λ _. omega arith);
    })
