-- the store of the redo word, as machines use it, and what a memo shows of a step that it begins at a root
use Rattle.std.proofs.Common.{◌≡◌, ℕ, ◌+◌, ◌^◌, ◌<◌, ◌≤◌, refl, sym, ap, ◌∙◌, subst, arith, true, false, ◌∷◌, None, Some, Option, cond, inl, inr, ◌⊎◌}
use Rattle.std.proofs.lemmas.Bool.{and_from, eq-eqb, lt-ltb, eqb-true, false≢true}
use Rattle.shm_words.specs.declared.{geometry.Geometry.Geometry, redo.Redo.Redo as ARedo}
use Rattle.shm_words.specs.{Redos.{redo_first, redo_second, redo_of, RedoFits}, Layout.place_limit}
use Rattle.shm_words.specs.declared.redo.Redo.TheVariants as redos
use Rattle.shm_words.proofs.{Placing.{total_in_format, total_small}, Words.redo_first_small}
use Rattle.shm_graph.specs.declared.{ask.{Ask.TheVariants.Store, Me.Me}, memo.{First.TheVariants.Begun, Making.Making}}
use Rattle.shm_graph.specs.declared.{memo.{Memo.Memo, Op.{Op, TheVariants.{Nothing, Alloc, Up, Down}}}, spot.Spot.Spot}
use Rattle.shm_graph.specs.declared.spot.Spot.TheVariants.{Redo, RedoMore, Era, Root, Tag, Body, Head, Segment}
use Rattle.shm_graph.specs.{Spots.{spot_at, spot_address, IsAt}, Blocks.{classes, IsBlock}}
use Rattle.shm_graph.specs.{Views.{View, view, at1, own_word, targets}, References.words_of, Asks.Trail}
use Rattle.shm_graph.specs.Held.{HeldAt, MakingTie, Names, IsSecond, OpSound, OpTie, Allowed, room_of}
use Rattle.shm_graph.specs.{Ops.{Quiet, cover, cover_of, on_of, held_over_of, slot_of}, Reach.is_reached}
use Rattle.shm_graph.specs.MemoAfterStore.{is_block_made, op_spelled}
use Rattle.shm_graph.specs.{Telling.{word_told, outside_or, spot_claimed, claim_of}, Laws.{Frame, Stands, KeptAt}}
use Rattle.shm_graph.proofs.Spots.{Fixed.fixed_is_at, PageSpots.fixed_stays, Spotting.{at_below, block_within}}
use Rattle.shm_graph.proofs.States.RedoNames.{record_said, first_again}
use Rattle.shm_graph.proofs.States.Holders.{Holds, reach_counted, target_counted, held_live_block}
use Rattle.shm_graph.proofs.{States.Reached.{reached_here, shown_target}, StepKinds.{Loads.choice, Keeping.told_fixed}}
use Rattle.shm_graph.proofs.{StepKinds.KindKeeping.{in_frame, kept_from}, Memos.MemoParts.put_same}
use Rattle.kind_laws.specs.OwnWords.{BeginNeeds, begin_view, MoreNeeds, more_view}
use Rattle.kind_laws.proofs.{RedoAndRows.begin_kept, MoreStore.{more_kept, more_quiet}, Quiet.begin_quiet}
use Rattle.kind_parts.specs.Conditions.{IsHere}
use Rattle.kind_parts.specs.OwnWords.{MayAdd, MayRemove, op_begun, SecondStored, MayReady, RedoMayBegin}

-- the redo word is stored, which begins a step
pub redo_stored : (me : Me) (w : Spot → ℕ) (r : ℕ → Memo) (f : Frame) (tr : Trail) (at x : ℕ) → Stands me w r f tr → f.fresh ≡ false → spot_at me.geometry (classes w) at ≡ Redo me.who → BeginNeeds me.geometry w (view r) me.who x (op_begun me.geometry me.who (r me.who) x)
    → KeptAt me w r (Store at x) f (λ n m. Unit {0}) (spot_at me.geometry (classes w) at)
redo_stored me w r f tr at x s going e step =
    let g = me.geometry in
    let c = me.who in
    let v : View = view r in
    let p : Spot = Redo c in
    let o : Op = op_begun g c (r c) x in
    subst (KeptAt me w r (Store at x) f (λ n m. Unit {0})) (sym e)
    (in_frame (λ h. KeptAt me w r (Store at x) h (λ n m. Unit {0}) p) f going
    (kept_from me w r (Store at x) (record f { fresh = false }) (λ n m. Unit {0}) p (begin_view v c x o)
    (told_fixed g (classes w) c (r c) (Store at x) p e refl)
    (sym (ap (λ (u : View). record u { own = at1 v.own c (record { spot = p; value = x } ∷ v.own c); op = at1 v.op c o; test = at1 v.test c None }) (put_same v c)))
    (begin_kept g w v c x o s.held step)
    (begin_quiet g w v c x o s.held step)
    refl tt tt tt))

-- the memo tells a root by its address
root_told : (g : Geometry) (class : ℕ → ℕ → ℕ) (c : ℕ) (m : Memo) (d k : ℕ) → IsAt g class (Root d k) → word_told g c m (spot_address g (Root d k)) ≡ Root d k
unfolding spot_at
root_told g class c m d k h =
    let at : ℕ = spot_address g (Root d k) in
    ap (λ q. outside_or q (spot_claimed at (claim_of g.wide c m at))) (fixed_stays g class (λ s q. 0) at (Root d k) h refl)

-- the block that is prepared is a block
made_block : (g : Geometry) (class : ℕ → ℕ → ℕ) (segment word tag : ℕ → ℕ) (body : ℕ → ℕ → ℕ) (c b : ℕ) (k : Option Making) → MakingTie g class segment word tag body c k → is_block_made k b ≡ true → IsBlock g class b
made_block g class segment word tag body c b None h e = absurd (false≢true e)
made_block g class segment word tag body c b (Some k) h e = subst (IsBlock g class) (eqb-true k.block b e) h.block

module _ (g : Geometry) (w : Spot → ℕ) (r : ℕ → Memo) (c : ℕ) (h : HeldAt g w (view r)) (l : c < g.clients) where
  -- the memo, and the own era that it tells
  abbrev m : Memo
  m = r c

  abbrev e : ℕ
  e = own_word m.own (Era c c)

  -- the own era and the own roots are the words
  era_here : e ≡ w (Era c c)
  era_here = h.mine c l (Era c c) (eq-eqb c c refl)

  root_here : (k : ℕ) → own_word m.own (Root c k) ≡ w (Root c k)
  root_here k = h.mine c l (Root c k) (eq-eqb c c refl)

  -- and so is the second word of the own redo record
  spelled : (red : ARedo) → RedoFits g.wide red → SecondStored g c m red → redo_of g.wide (redo_first g.wide red) (w (RedoMore c)) ≡ Some red
  spelled red fits ready = record_said g.wide red (w (RedoMore c)) fits (λ z. sym (h.mine c l (RedoMore c) (eq-eqb c c refl)) ∙ ready z)

  -- the pool has the own roots
  pub root_at : (k : ℕ) → k < 16 → IsAt g (classes w) (Root c k)
  root_at k s = fixed_is_at g (classes w) (Root c k) refl (rw (lt-ltb c g.clients l, lt-ltb k 16 s) refl)

  -- addresses of roots and of blocks fit in a redo word
  pub address_fits : (k : ℕ) → IsAt g (classes w) (Root c k) → spot_address g (Root c k) < place_limit g.wide
  address_fits k a = let x = at_below g (classes w) (Root c k) a in let y = total_in_format g h.fits in omega arith

  pub block_fits : (b : ℕ) → IsBlock g (classes w) b → b < place_limit g.wide
  block_fits b a = let x = block_within g (classes w) b a in let y = total_in_format g h.fits in omega arith

  -- a step at an own root begins, where its redo word spells it
  begins : (k : ℕ) (red : ARedo) (o : Op) → IsHere m → m.op ≡ Nothing → RedoFits g.wide red → SecondStored g c m red → Names g (classes w) red → on_of o ≡ None → held_over_of o ≡ 0 → cover_of o ≡ Quiet → room_of o ≡ 3 → e + 3 ≤ 2 ^ 47
      → OpTie g (classes w) (redo_first g.wide red) (w (RedoMore c)) (w (Era c c)) (words_of g.wide w) o → Allowed c o → slot_of o ≡ Root c k
      → BeginNeeds g w (view r) c (redo_first g.wide red) o
  begins k red o here idle fits ready names on held_over quiet three room tie may slot =
      record {
        inside = l;
        acts = here.joined;
        here = here.stays;
        place = fixed_is_at g (classes w) (Redo c) refl (lt-ltb c g.clients l);
        small = redo_first_small g.wide red fits;
        op = idle;
        on = on;
        held_over = held_over;
        quiet = quiet;
        room = (let y = era_here in omega arith);
        tie = tie;
        names = record { second = (h.redo c l).second; first = first_again g (classes w) red fits names };
        allowed = may;
        slot = λ is. subst (Holds w g (view r) c) (sym slot) refl;
      }

  -- the step that a redo word begins at an own root
  pub up_begun : (k b : ℕ) → IsAt g (classes w) (Root c k) → RedoFits g.wide (redos.Up (spot_address g (Root c k)) b) → SecondStored g c m (redos.Up (spot_address g (Root c k)) b)
      → op_begun g c m (redo_first g.wide (redos.Up (spot_address g (Root c k)) b)) ≡ cond (is_block_made m.making b) (Alloc Begun (Root c k) b e) (Up Begun (Root c k) b e)
  up_begun k b at fits ready =
      ap (op_spelled (word_told g c m) m.making e) (record_said g.wide (redos.Up (spot_address g (Root c k)) b) _ fits ready)
      ∙ ap (λ p. cond (is_block_made m.making b) (Alloc Begun p b e) (Up Begun p b e)) (root_told g (classes w) c m c k at)

  down_begun : (k b : ℕ) → IsAt g (classes w) (Root c k) → RedoFits g.wide (redos.Down (spot_address g (Root c k)) b) → SecondStored g c m (redos.Down (spot_address g (Root c k)) b)
      → op_begun g c m (redo_first g.wide (redos.Down (spot_address g (Root c k)) b)) ≡ Down Begun (Root c k) b e
  down_begun k b at fits ready =
      ap (op_spelled (word_told g c m) m.making e) (record_said g.wide (redos.Down (spot_address g (Root c k)) b) _ fits ready)
      ∙ ap (λ p. Down Begun p b e) (root_told g (classes w) c m c k at)

  -- a block that is prepared, or in reach, is a block
  source_block : (b : ℕ) → (is_block_made m.making b ≡ true) ⊎ (is_reached c m b ≡ true) → IsBlock g (classes w) b
  source_block b (inl u) = made_block g (classes w) (λ s. w (Segment s)) (λ d. w (Head d)) (λ d. w (Tag d)) (λ d i. w (Body d i)) c b m.making (h.making c l) u
  source_block b (inr u) = held_live_block g w (view r) h b (reach_counted g w (view r) h c b l (reached_here g w r h c l b u)).0

  -- a block is to be put into an own root
  pub root_begins_up : (k b : ℕ) → MayAdd c m k b → RedoMayBegin g w r c (redos.Up (spot_address g (Root c k)) b)
  root_begins_up k b a =
      let red : ARedo = redos.Up (spot_address g (Root c k)) b in
      let at : IsAt g (classes w) (Root c k) = root_at k a.root in
      let block : IsBlock g (classes w) b = source_block b a.source in
      let fits : RedoFits g.wide red = (address_fits k at, block_fits b block) in
      record {
        fits = fits;
        names = block;
        needs = λ ready. (
            let sound : OpSound g (classes w) (redo_first g.wide red) (w (RedoMore c)) (w (Era c c)) (w (Root c k)) (Root c k) red e 0 = record { spelled = spelled red fits ready; blocks = block; current = era_here; at = at; word = sym (root_here k) ∙ a.empty } in
            subst (BeginNeeds g w (view r) c (redo_first g.wide red)) (sym (up_begun k b at fits ready))
            (choice (BeginNeeds g w (view r) c (redo_first g.wide red)) (is_block_made m.making b) (Alloc Begun (Root c k) b e) (Up Begun (Root c k) b e)
            (λ z. begins k red (Alloc Begun (Root c k) b e) a.here a.idle fits ready block refl refl refl refl a.room sound refl refl)
            (λ z. begins k red (Up Begun (Root c k) b e) a.here a.idle fits ready block refl refl refl refl a.room sound refl refl)));
      }

  -- the block of an own root is to go
  pub root_begins_down : (k b : ℕ) → MayRemove c m k b → RedoMayBegin g w r c (redos.Down (spot_address g (Root c k)) b)
  root_begins_down k b a =
      let red : ARedo = redos.Down (spot_address g (Root c k)) b in
      let word : w (Root c k) ≡ b = sym (root_here k) ∙ a.root in
      let at : IsAt g (classes w) (Root c k) = h.there (Root c k) (λ z. a.some (sym word ∙ z)) in
      let names : targets g w (view r) (Root c k) ≡ b = shown_target g w (view r) h c l (Root c k) refl ∙ (ap (λ o. cover (cover_of o) (Root c k) (own_word m.own (Root c k))) a.idle ∙ a.root) in
      let block : IsBlock g (classes w) b = held_live_block g w (view r) h b (target_counted g w (view r) h (Root c k) b a.some names).0 in
      let fits : RedoFits g.wide red = (address_fits k at, block_fits b block) in
      record {
        fits = fits;
        names = block;
        needs = λ ready. subst (BeginNeeds g w (view r) c (redo_first g.wide red)) (sym (down_begun k b at fits ready))
            (begins k red (Down Begun (Root c k) b e) a.here a.idle fits ready block refl refl refl refl a.room (record { spelled = spelled red fits ready; blocks = block; current = era_here; at = at; word = word }) refl refl);
      }

-- in format 2 the second word of a redo record is stored, while there is no step
pub more_stored : (me : Me) (w : Spot → ℕ) (r : ℕ → Memo) (f : Frame) (tr : Trail) (at : ℕ) (red : ARedo) → Stands me w r f tr → f.fresh ≡ false → spot_at me.geometry (classes w) at ≡ RedoMore me.who → MayReady me.geometry (r me.who) → Names me.geometry (classes w) red
    → KeptAt me w r (Store at (redo_second true red)) f (λ n m. Unit {0}) (spot_at me.geometry (classes w) at)
more_stored me w r f tr at red s going e may names =
    subst (KeptAt me w r (Store at x) f (λ n m. Unit {0})) (sym e)
    (in_frame (λ h. KeptAt me w r (Store at x) h (λ n m. Unit {0}) p) f going
    (kept_from me w r (Store at x) (record f { fresh = false }) (λ n m. Unit {0}) p (more_view v c x)
    (told_fixed g (classes w) c (r c) (Store at x) p e refl)
    (sym (ap (λ (u : View). record u { own = at1 v.own c (record { spot = p; value = x } ∷ v.own c); test = at1 v.test c None }) (put_same v c)))
    (more_kept g w v c x s.held needs)
    (more_quiet g w v c x s.held needs)
    refl tt tt tt))
  where
    g : Geometry
    g = me.geometry

    c : ℕ
    c = me.who

    v : View
    v = view r

    p : Spot
    p = RedoMore c

    x : ℕ
    x = redo_second true red

    second : (s : ARedo) → Names g (classes w) s → IsSecond g (classes w) (redo_second true s)
    second redos.Idle n = inl refl
    second (redos.Up q b) n = inl refl
    second (redos.Down q b) n = inr n
    second (redos.Change odd q a b) n = inr n.0

    small : IsSecond g (classes w) x → x < 2 ^ 64
    small (inl z) = omega arith
    small (inr n) = let y = block_within g (classes w) x n in let l = total_small g s.held.fits in omega arith

    needs : MoreNeeds g w v c x
    needs = record {
      inside = s.who;
      acts = may.here.joined;
      here = may.here.stays;
      place = fixed_is_at g (classes w) (RedoMore c) refl (and_from _ _ may.wide (lt-ltb c g.clients s.who));
      small = small (second red names);
      op = may.idle;
      second = second red names;
    }
