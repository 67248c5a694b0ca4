-- a block becomes live: what the store of the redo record, the exchange of the header and the stores of the root and the own era keep
use Rattle.std.proofs.Common.{◌≡◌, ℕ, ◌+◌, ◌^◌, ◌<◌, ◌≤◌, refl, sym, ap, ◌∙◌, subst, arith, Bool, true, false, ◌&&◌, eqb, List, [], ◌∷◌, ◌++◌, Some, None, inl, inr, cond}
use Rattle.std.proofs.lemmas.Bool.{and_from, cases_Bool, cond-true, cond-false, eq-eqb, lt-ltb, true≢false}
use Rattle.std.proofs.lemmas.{List.Elements.{All-contains, All-head, All-tail}, Map.Made.Contains-tail}
use Rattle.std.specs.List.{All, Contains}
use Rattle.shm_words.specs.{declared.redo.Redo.Redo as ARedo, Classes.class_for, Headers.HeaderFits}
use Rattle.shm_words.specs.Layout.{address, total_of}
use Rattle.shm_words.specs.Redos.{first_word, second_word, redo_first, redo_second, fitted}
use Rattle.shm_words.specs.Tags.{TagFits, tag_refs, tag_plain}
use Rattle.shm_words.specs.declared.place.Place.TheVariants as place
use Rattle.shm_words.proofs.Placing.{total_small}
use Rattle.shm_words.proofs.Words.{fitted_same, header_of-word, header_word_small, tag_word_small, tag_refs-word, tag_plain-word, tag_author-word, tag_link-word}
use Rattle.shm_graph.specs.declared.{ask.{Ask.{Ask, TheVariants.{Store, Exchange}}, Me.Me}, spot.Spot.Spot}
use Rattle.shm_graph.specs.declared.memo.{First.TheVariants.{Begun, Committed}, Making.Making, Memo.Memo, Op.Op}
use Rattle.shm_graph.specs.{declared.memo.Stored.Stored, Spots.{spot_at, spot_address, same_spot, IsAt}}
use Rattle.shm_graph.specs.{Blocks.{classes, IsBlock}, Views.own_word, Held.InBlock, Asks.Trail, Chains.or_zero}
use Rattle.shm_graph.specs.{Changes.memo_on, MemoAfterExchange.{words_made, values_with, committed, allocated}}
use Rattle.shm_graph.specs.{Idle.hold_word, Ops.slot_of, Reach.{is_at, known_at}, MemoAfterRead.valued}
use Rattle.shm_graph.specs.MemoAfterStore.{is_block_made, with_own, op_written, op_closed, is_lowering, without_looks, era_stored}
use Rattle.shm_graph.specs.Laws.{Frame, framed, KeptAt}
use Rattle.shm_graph.specs.declared.spot.Spot.TheVariants as spot
use Rattle.shm_graph.specs.declared.memo.Op.TheVariants as op
use Rattle.shm_graph.proofs.Spots.{SpotPlaces.spot-place, Spotting.{same_spot_self, same_spot_is}}
use Rattle.kind_laws.specs.{Slotting.Writes, OwnWords.Closes}
use Rattle.kind_parts.specs.{OwnWords.{MayAdd, RedoMayBegin, SecondStored, op_begun}, Preparing.MayAlloc}
use Rattle.kind_parts.proofs.{Allocated.allocates, OwnStoresEra.era_closed}
use Rattle.kind_parts.proofs.OwnStoresRedo.{redo_stored as begin_stored, more_stored as second_stored, root_begins_up, root_at, up_begun}
use Rattle.kind_parts.proofs.{Prepared.{MakingHolds, making_holds}, SlotStores.root_stored, KeptAfter.kept_going}
use Rattle.shm_alloc.specs.declared.{request.Request.Request, point.Goal.Goal}
use Rattle.shm_alloc.specs.declared.point.AllocPoint.TheVariants.{More, Redo, Commit, Slot, Close}
use Rattle.shm_alloc.specs.Alloc.Control.{class_asked, tag_asked, header_made, redo_asked, alloc_next_at, GoalFits}
use Rattle.shm_alloc.specs.Alloc.{AllocStays, CanAlloc, GoalHas, IsPrepared, Prepares, PointHolds, NextHolds, more_stored, readied, redo_stored}
use Rattle.shm_alloc.specs.Proved.Alloc.Steps.{PointKeeps, is_here, live_here, goal_on, ready_is, ready_more, ready_word}
use Rattle.shm_alloc.specs.Proved.Alloc.MakingSteps.{at_step, after_step, stays_after, asked_fits}

-- the spot of an own root
root_spot : (me : Me) (w : Spot → ℕ) (k : ℕ) → me.who < me.geometry.clients → k < 16 → spot_at me.geometry (classes w) (address me.geometry (place.Root me.who k)) ≡ spot.Root me.who k
root_spot me w k l s = spot-place me.geometry (classes w) (place.Root me.who k) (rw (lt-ltb me.who me.geometry.clients l, lt-ltb k 16 s) refl)

-- ---- the redo record

-- the new block is prepared, and the root is empty
module _ (me : Me) (q : Request) (r0 : Memo) (w : Spot → ℕ) (r : ℕ → Memo) (f : Frame) (tr : Trail) (g : Goal) (b : ℕ) where
  abbrev red : ARedo
  red = redo_asked me g.root b

  -- the memo shows what the step needs
  made_here : Prepares me.geometry.wide me.who q b q.refs q.count (r me.who) → is_block_made (r me.who).making b ≡ true
  made_here k = ap (λ z. is_block_made z b) k.1 ∙ eq-eqb k.0.block b k.2.block

  may_add : CanAlloc me r0 → GoalFits g → AllocStays r0 (r me.who) → (r me.who).op ≡ op.Nothing → GoalHas me.who (r me.who) g → Prepares me.geometry.wide me.who q b q.refs q.count (r me.who) → MayAdd me.who (r me.who) g.root b
  may_add can fits stays idle goal k = record { here = is_here me r0 (r me.who) can stays; idle = idle; root = fits.root; empty = goal.empty; room = subst (λ y. y + 3 ≤ 2 ^ 47) goal.era fits.era; source = inl (made_here k) }

  -- in format 2 its second word is stored, while there is no step
  pub more_step : PointKeeps me q r0 w r f tr (More g b)
  unfolding spot_address
  more_step st going can fits point h =
      let c = me.who in
      let m : Memo = r c in
      let p : Spot = spot.RedoMore c in
      let at : ℕ = address me.geometry (place.RedoMore c) in
      let x : ℕ = second_word me.geometry.wide red in
      let a : Ask = Store at x in
      let wide : me.geometry.wide ≡ true = point.3 in
      let e : spot_at me.geometry (classes w) at ≡ p = spot-place me.geometry (classes w) (place.RedoMore c) (and_from _ _ wide (lt-ltb c me.geometry.clients st.who)) in
      let add : MayAdd c m g.root b = may_add can point.0 h.stays h.op h.has.2 h.has.3 in
      let begins : RedoMayBegin me.geometry w r c red = root_begins_up me.geometry w r c st.held st.who g.root b add in
      let value : redo_second true red ≡ x = ap (λ y. redo_second y red) (sym wide) ∙ ap (redo_second me.geometry.wide) (sym (fitted_same me.geometry.wide red begins.fits)) in
      kept_going me w r a f (λ n r'. NextHolds me q r0 r' (alloc_next_at me q (More g b) n)) p going e
      (subst (λ y. KeptAt me w r (Store at y) f (λ n m. Unit {0}) (spot_at me.geometry (classes w) at)) value
      (second_stored me w r f tr at red st going e (record { here = is_here me r0 m can h.stays; wide = wide; idle = h.op }) begins.names))
      (record {
        stays = stays_after me a f 0 r0 m (record { spot = p; value = x } ∷ m.own) m.op m.making m.known m.values m.zeros m.made h.stays;
        op = h.op;
        own = ap (λ o. more_stored me g b ∷ o) h.own ∙ sym (ready_is me g b r0.own wide);
        has = (h.has.0, h.has.1, goal_on c m r0 g (sym h.own) h.has.2, h.has.3);
      })

  -- what the memo shows of the goal it shows once the second word is stored
  goal_ready : (m : Memo) → m.own ≡ readied me g b r0.own → GoalHas me.who r0 g → GoalHas me.who m g
  goal_ready m e h =
      record {
        room = h.room;
        number = h.number;
        era = h.era ∙ sym (same (spot.Era me.who me.who) refl);
        empty = same (spot.Root me.who g.root) refl ∙ h.empty;
        before = λ j l z. h.before j l (sym (same (spot.Root me.who j) refl) ∙ z);
      }
    where
      same : (p : Spot) → same_spot (spot.RedoMore me.who) p ≡ false → own_word m.own p ≡ own_word r0.own p
      same p n = ap (λ o. own_word o p) e ∙ ready_word me g b r0.own p n

  -- the redo record is stored, in format 2 its first word, which begins the step
  pub redo_step : PointKeeps me q r0 w r f tr (Redo g b)
  unfolding spot_address
  redo_step st going can fits point h =
      let c = me.who in
      let m : Memo = r c in
      let p : Spot = spot.Redo c in
      let at : ℕ = address me.geometry (place.Redo c) in
      let x : ℕ = first_word me.geometry.wide red in
      let a : Ask = Store at x in
      let e : spot_at me.geometry (classes w) at ≡ p = spot-place me.geometry (classes w) (place.Redo c) (lt-ltb c me.geometry.clients st.who) in
      let goal : GoalHas c m g = goal_ready m h.own h.has.2 in
      let add : MayAdd c m g.root b = may_add can point.0 h.stays h.op goal h.has.3 in
      let begins : RedoMayBegin me.geometry w r c red = root_begins_up me.geometry w r c st.held st.who g.root b add in
      let same : fitted me.geometry.wide red ≡ red = fitted_same me.geometry.wide red begins.fits in
      let value : redo_first me.geometry.wide red ≡ x = ap (redo_first me.geometry.wide) (sym same) in
      let ready : SecondStored me.geometry c m red = λ wide. ap (λ o. own_word o (spot.RedoMore c)) h.own ∙ (ready_more me g b r0.own wide ∙ (ap (redo_second me.geometry.wide) same ∙ ap (λ y. redo_second y red) wide)) in
      let place : IsAt me.geometry (classes w) (spot.Root c g.root) = root_at me.geometry w r c st.held st.who g.root point.0.root in
      let begun : op_begun me.geometry c m (redo_first me.geometry.wide red) ≡ op.Alloc Begun (spot.Root c g.root) b g.era =
      up_begun me.geometry w r c st.held st.who g.root b place begins.fits ready ∙ (cond-true _ _ _ (made_here h.has.3) ∙ ap (λ y. op.Alloc Begun (spot.Root c g.root) b y) (sym goal.era)) in
      let now : op_begun me.geometry c m x ≡ op.Alloc Begun (spot.Root c g.root) b g.era = ap (op_begun me.geometry c m) (sym value) ∙ begun in
      kept_going me w r a f (λ n r'. NextHolds me q r0 r' (alloc_next_at me q (Redo g b) n)) p going e
      (subst (λ y. KeptAt me w r (Store at y) f (λ n m. Unit {0}) (spot_at me.geometry (classes w) at)) value
      (begin_stored me w r f tr at (redo_first me.geometry.wide red) st going e (begins.needs ready)))
      (record {
        stays = stays_after me a f 0 r0 m (record { spot = p; value = x } ∷ m.own) (op_begun me.geometry c m x) m.making m.known m.values m.zeros m.made h.stays;
        op = now;
        own = ap (λ o. redo_stored me g b ∷ o) h.own;
        has = h.has;
      })

-- ---- the header

-- the tag is known, once it is among the words of the block
tag_known : (tag : ℕ → ℕ) (body : ℕ → ℕ → ℕ) (d b k x : ℕ) (ws : List Stored) → All (λ (s : Stored). InBlock tag body d k s.spot s.value) ws → tag b ≡ x → Contains ws (record { spot = spot.Tag b; value = x }) → known_at (spot.Tag b) ws ≡ Some x
tag_known tag body d b k x [] all same has = absurd (let l = has.1 in omega arith)
tag_known tag body d b k x (s ∷ ss) all same has =
    elim (cases_Bool (is_at (spot.Tag b) s)) [
      | inl e ↦ (let y : InBlock tag body d k (spot.Tag b) s.value = subst (λ p. InBlock tag body d k p s.value) (sym (same_spot_is (spot.Tag b) s.spot e)) (All-head (λ (s : Stored). InBlock tag body d k s.spot s.value) s ss all) in
          cond-true _ _ _ e ∙ ap Some (sym y.1 ∙ same))
      | inr n ↦ cond-false _ _ _ n ∙ tag_known tag body d b k x ss (All-tail (λ (s : Stored). InBlock tag body d k s.spot s.value) s ss all) same
          (Contains-tail s ss (record { spot = spot.Tag b; value = x }) (λ e. true≢false (sym (same_spot_self (spot.Tag b)) ∙ (ap (is_at (spot.Tag b)) (sym e) ∙ n))) has)
    ]

-- the value blocks with the new one are the same for equal parts and values
values_same : (wide : Bool) (m r0 : Memo) (b tag : ℕ) → m.part ≡ r0.part → m.values ≡ r0.values → values_with wide m b tag ≡ values_with wide r0 b tag
values_same wide m r0 b tag part values =
    ap (λ p. cond (eqb (tag_refs wide tag) 0 && eqb (tag_plain wide tag) 1) (valued p b m.values) m.values) part
    ∙ ap (λ vs. cond (eqb (tag_refs wide tag) 0 && eqb (tag_plain wide tag) 1) (valued r0.part b vs) vs) values

-- the block becomes live
pub commit_step : (me : Me) (q : Request) (r0 : Memo) (w : Spot → ℕ) (r : ℕ → Memo) (f : Frame) (tr : Trail) (g : Goal) (b : ℕ) → PointKeeps me q r0 w r f tr (Commit g b)
commit_step me q r0 w r f tr g b st going can fits point h =
    let c = me.who in
    let m : Memo = r c in
    let p : Spot = spot.Head b in
    let k : Making = h.has.3.0 in
    let made : m.making ≡ Some k = h.has.3.1 in
    let words : IsPrepared me.geometry.wide c q b q.refs q.count k = h.has.3.2 in
    let s : MakingHolds w me.geometry c k = making_holds me.geometry w r c k st.held st.who made in
    let free : w p ≡ 0 = ap (λ d. w (spot.Head d)) (sym words.block) ∙ s.free in
    let e : spot_at me.geometry (classes w) b ≡ p = subst (IsBlock me.geometry (classes w)) words.block s.block in
    let to : ℕ = header_made c g.era in
    let t : ℕ = tag_asked me.geometry.wide q c in
    let a : Ask = Exchange b 0 to in
    let header : HeaderFits (record { live = true; client = c; count = 1; era = g.era }) = (let u = can.who in let n = can.geometry.clients in let l = point.0.era in record { client = omega arith; count = omega arith; era = omega arith }) in
    let tag : TagFits me.geometry.wide (record { refs = q.refs; plain = q.count; author = c; link = 0 }) = asked_fits me q r0 can fits in
    let refs : tag_refs me.geometry.wide t ≡ q.refs = tag_refs-word me.geometry.wide _ tag in
    let plain : tag_plain me.geometry.wide t ≡ q.count = tag_plain-word me.geometry.wide _ tag in
    let may : MayAlloc me.geometry.wide c m g.root b g.era to t k = record {
      live = live_here me r0 m can h.stays;
      op = h.op;
      making = made;
      of = words.block;
      small = header_word_small _ header;
      new = header_of-word _ header;
      tagged = words.tag;
      small_tag = tag_word_small me.geometry.wide _ tag;
      refs = subst (λ n. n ≤ 16) (sym refs) fits.refs;
      plain = subst (λ n. n ≤ 8) (sym plain) fits.count;
      author = tag_author-word me.geometry.wide _ tag;
      link = tag_link-word me.geometry.wide _ tag;
      fits = ap (λ n. class_for n (tag_plain me.geometry.wide t)) refs ∙ (ap (class_for q.refs) plain ∙ sym words.class);
      zeros = λ j l. words.zeros j (subst (λ n. j < n) refs l);
    } in
    let tag_word : w (spot.Tag b) ≡ t = (All-contains (λ (y : Stored). InBlock (λ d. w (spot.Tag d)) (λ d i. w (spot.Body d i)) k.block k.class y.spot y.value) k.words (record { spot = spot.Tag b; value = t }) s.stored words.tag).1 in
    let known : known_at (spot.Tag b) k.words ≡ Some t = tag_known (λ d. w (spot.Tag d)) (λ d i. w (spot.Body d i)) k.block b k.class t k.words s.stored tag_word words.tag in
    let n : Memo = at_step me a f 0 m in
    let n' : Memo = after_step me a f 0 m (allocated me.geometry.wide (record n { op = op.Alloc Committed (spot.Root c g.root) b g.era }) b) in
    kept_going me w r a f (λ n r'. NextHolds me q r0 r' (alloc_next_at me q (Commit g b) n)) p going e
    (allocates me w r f tr b g.root b g.era to t k st going e may)
    (subst (λ y. PointHolds me q r0 (memo_on m (framed me a (record f { fresh = false }) y) p) (Slot g b)) (sym free)
    (subst (λ (o : Op). PointHolds me q r0 (after_step me a f 0 m (committed me.geometry.wide c n o to)) (Slot g b)) (sym h.op)
    (record {
      stays = stays_after me a f 0 r0 m m.own (op.Alloc Committed (spot.Root c g.root) b g.era) None n'.known n'.values n'.zeros n'.made h.stays;
      op = refl {a = op.Alloc Committed (spot.Root c g.root) b g.era};
      own = h.own;
      has = (
        refl {a = None},
        ap (λ z. values_with me.geometry.wide m b (or_zero (known_at (spot.Tag b) (words_made z)))) made ∙ (ap (λ z. values_with me.geometry.wide m b (or_zero z)) known ∙ values_same me.geometry.wide m r0 b t h.stays.part h.has.1),
        h.has.2,
        (k, ap (λ z. words_made z ++ m.known) made ∙ ap (λ z. k.words ++ z) h.has.0, words),
        (0, omega arith, refl),
      );
    })))

-- ---- the root

-- the root is stored
pub slot_step : (me : Me) (q : Request) (r0 : Memo) (w : Spot → ℕ) (r : ℕ → Memo) (f : Frame) (tr : Trail) (g : Goal) (b : ℕ) → PointKeeps me q r0 w r f tr (Slot g b)
slot_step me q r0 w r f tr g b st going can fits point h =
    let c = me.who in
    let m : Memo = r c in
    let p : Spot = spot.Root c g.root in
    let at : ℕ = address me.geometry (place.Root c g.root) in
    let a : Ask = Store at b in
    let e : spot_at me.geometry (classes w) at ≡ p = root_spot me w g.root st.who point.0.root in
    let most = total_small me.geometry can.geometry in
    let inside : b + class_asked q ≤ total_of me.geometry = point.1 in
    let n' : Memo = after_step me a f 0 m (record (with_own (at_step me a f 0 m) p b) { op = op_written m.op }) in
    kept_going me w r a f (λ n r'. NextHolds me q r0 r' (alloc_next_at me q (Slot g b) n)) p going e
    (root_stored me w r f tr at g.root b st going e (record {
      here = is_here me r0 m can h.stays;
      slot = ap slot_of h.op;
      op = subst (λ (o : Op). Writes o (op_written o) b) (sym h.op) (refl, refl);
      small = omega arith;
    }))
    (record {
      stays = stays_after me a f 0 r0 m (record { spot = p; value = b } ∷ m.own) (op_written m.op) m.making m.known m.values m.zeros m.made h.stays;
      op = ap op_written h.op;
      own = ap (λ o. record { spot = p; value = b } ∷ o) h.own;
      has = h.has;
    })

-- ---- the own era

-- the own era is stored, which closes the step
pub close_step : (me : Me) (q : Request) (r0 : Memo) (w : Spot → ℕ) (r : ℕ → Memo) (f : Frame) (tr : Trail) (g : Goal) (b : ℕ) → PointKeeps me q r0 w r f tr (Close g b)
close_step me q r0 w r f tr g b st going can fits point h =
    let c = me.who in
    let m : Memo = r c in
    let p : Spot = spot.Era c c in
    let at : ℕ = address me.geometry (place.Era c c) in
    let x : ℕ = g.era + 1 in
    let a : Ask = Store at x in
    let e : spot_at me.geometry (classes w) at ≡ p = spot-place me.geometry (classes w) (place.Era c c) (rw (lt-ltb c me.geometry.clients st.who) refl) in
    let own : own_word m.own p ≡ g.era = ap (λ o. own_word o p) h.own ∙ (ready_word me g b r0.own p refl ∙ sym h.has.2.era) in
    let n : Memo = at_step me a f 0 m in
    let n' : Memo = after_step me a f 0 m (record (with_own n p x) { op = op.Nothing }) in
    let before : List Stored = record { spot = spot.Root c g.root; value = b } ∷ redo_stored me g b ∷ readied me g b r0.own in
    let owns : record { spot = p; value = x } ∷ m.own ≡ record { spot = p; value = own_word r0.own p + 1 } ∷ before = ap (λ o. record { spot = p; value = x } ∷ o) h.own ∙ ap (λ y. record { spot = p; value = y + 1 } ∷ before) h.has.2.era in
    let answer = alloc_next_at me q (Close g b) 0 in
    kept_going me w r a f (λ n r'. NextHolds me q r0 r' (alloc_next_at me q (Close g b) n)) p going e
    (subst (λ y. KeptAt me w r (Store at (y + 1)) f (λ n m. Unit {0}) (spot_at me.geometry (classes w) at)) own
    (era_closed me w r f tr at st going e (record { here = is_here me r0 m can h.stays; op = subst (λ (o : Op). Closes o (op_closed o (own_word m.own p + 1))) (sym h.op) refl })))
    (subst (λ z. NextHolds me q r0 (after_step me a f 0 m z) answer) (sym (cond-true _ (era_stored c n p x) (with_own n p x) (eq-eqb c c refl)))
    (subst (λ (o : Op). NextHolds me q r0 (after_step me a f 0 m (cond (is_lowering o) (without_looks c (record (with_own n p x) { op = op_closed o x })) (record (with_own n p x) { op = op_closed o x }))) answer) (sym h.op)
    (record {
      idle = record {
        live = live_here me r0 m can h.stays;
        op = refl {a = op.Nothing};
        making = h.has.0;
        hold = ap (λ o. own_word o (spot.Hold c)) h.own ∙ (ready_word me g b r0.own (spot.Hold c) refl ∙ can.idle.hold ∙ sym (ap hold_word h.stays.latch));
      };
      stays = stays_after me a f 0 r0 m (record { spot = p; value = x } ∷ m.own) op.Nothing m.making m.known m.values m.zeros m.made h.stays;
      gives = record {
        room = (let u = h.has.2.room in let v = h.has.2.era in omega arith);
        root = point.0.root;
        empty = h.has.2.empty;
        before = h.has.2.before;
        own = owns;
        knows = h.has.3;
        values = h.has.1;
        made = h.has.4;
      };
    })))
