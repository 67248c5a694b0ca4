-- a step begins at any slot that the identity may store
use Rattle.std.proofs.Common.{◌≡◌, ◌≢◌, ℕ, ◌<◌, refl, sym, ap, ◌∙◌, subst, arith, Bool, true, false, ltb, None, Some, Option, inl, inr}
use Rattle.std.proofs.lemmas.Bool.{cases_eq, eq-eqb, ne_eqb, lt-ltb, cond-true, cond-false}
use Rattle.shm_words.specs.declared.{geometry.Geometry.Geometry, redo.Redo.Redo as ARedo}
use Rattle.shm_words.specs.{Redos.{redo_first, redo_of, RedoFits}, Layout.place_limit}
use Rattle.shm_words.specs.declared.redo.Redo.TheVariants as redos
use Rattle.shm_words.proofs.{Placing.total_in_format, Words.{redo_first_small, live_not_zero}}
use Rattle.shm_graph.specs.declared.memo.{First.TheVariants.Begun, ChangeStage.TheVariants.Raising, Making.Making}
use Rattle.shm_graph.specs.declared.memo.{Memo.Memo, Op.{Op, TheVariants.{Nothing, Alloc, Up, Down, Change}}}
use Rattle.shm_graph.specs.declared.spot.Spot.{Spot}
use Rattle.shm_graph.specs.declared.spot.Spot.TheVariants.{Spare, Redo, RedoMore, Home, Era, Root, Slot, Segment, Head, Tag, Body}
use Rattle.shm_graph.specs.{declared.ask.Ask.TheVariants.Load, Spots.{spot_address, IsAt, is_in_body}}
use Rattle.shm_graph.specs.{Blocks.{classes, headers, IsBlock, IsLive}, References.{words_of, refs_of}}
use Rattle.shm_graph.specs.Views.{view, own_word, targets}
use Rattle.shm_graph.specs.Held.{HeldAt, MakingTie, Names, OpTie, Allowed, room_of, odd, is_home, is_slot, is_slot_to}
use Rattle.shm_graph.specs.Ops.{Quiet, cover, cover_of, covered, on_of, held_over_of, slot_of, word_at}
use Rattle.shm_graph.specs.{Reach.is_reached, MemoAfterStore.{is_block_made, op_spelled}, Telling.word_told}
use Rattle.shm_graph.proofs.States.{Counting.{cover_slot, covered_none}, RedoNames.{record_said, first_again}}
use Rattle.shm_graph.proofs.States.Holders.{Holds, reach_counted, target_counted, held_live_block, one_holder, step_holds}
use Rattle.shm_graph.proofs.{States.Reached.reached_here, Spots.Fixed.fixed_is_at}
use Rattle.shm_graph.proofs.{Spots.Spotting.{at_below, block_within, same_spot_not}, StepKinds.Keeping.told_fixed}
use Rattle.kind_laws.specs.OwnWords.{BeginNeeds}
use Rattle.kind_parts.specs.{OwnWords.{op_begun, SecondStored, RedoMayBegin}, Beginning.HasRoom}

-- a memo tells a word outside bodies by its address
pub fixed_told : (g : Geometry) (class : ℕ → ℕ → ℕ) (c : ℕ) (m : Memo) (p : Spot) → is_in_body p ≡ false → IsAt g class p → word_told g c m (spot_address g p) ≡ p
fixed_told g class c m p n h = told_fixed g class c m (Load (spot_address g p)) p h n

-- a live block isn't the one that is prepared
live_not_made : (g : Geometry) (class : ℕ → ℕ → ℕ) (segment word tag : ℕ → ℕ) (body : ℕ → ℕ → ℕ) (c b : ℕ) (k : Option Making) → MakingTie g class segment word tag body c k → word b ≢ 0 → is_block_made k b ≡ false
live_not_made g class segment word tag body c b None h n = refl
live_not_made g class segment word tag body c b (Some k) h n = ne_eqb k.block b (λ e. n (subst (λ d. word d ≡ 0) e h.free))

-- a slot that c may store: the memo tells it by its address, the pool has it, and its word is x
pub record SlotHas (g : Geometry) (w : Spot → ℕ) (r : ℕ → Memo) (c : ℕ) (p : Spot) (x : ℕ) : Type 0 where
  pub told : word_told g c (r c) (spot_address g p) ≡ p
  pub at : IsAt g (classes w) p
  pub holds : Holds w g (view r) c p
  pub word : word_at (words_of g.wide w) p ≡ x

module _ (g : Geometry) (w : Spot → ℕ) (r : ℕ → Memo) (c : ℕ) (h : HeldAt g w (view r)) (l : c < g.clients) where
  -- the memo, and the own era that it tells
  abbrev m : Memo
  m = r c

  abbrev e : ℕ
  e = own_word m.own (Era c c)

  -- the own era is the word
  era_here : e ≡ w (Era c c)
  era_here = h.mine c l (Era c c) (eq-eqb c c refl)

  -- and so is the second word of the own redo record
  spelled : (red : ARedo) → RedoFits g.wide red → SecondStored g c m red → redo_of g.wide (redo_first g.wide red) (w (RedoMore c)) ≡ Some red
  spelled red fits ready = record_said g.wide red (w (RedoMore c)) fits (λ z. sym (h.mine c l (RedoMore c) (eq-eqb c c refl)) ∙ ready z)

  -- ---- what a slot names

  -- no step in progress covers a slot that c may store, where that of c covers nothing
  held_cover : (p : Spot) → p ≢ Spare → Holds w g (view r) c p → cover_of m.op ≡ Quiet → (d : ℕ) → d < g.clients → (y : ℕ) → cover (cover_of (r d).op) p y ≡ y
  held_cover p n x quiet d ld y =
      elim (cases_eq c d) [
        | inl z ↦ subst (λ j. cover (cover_of (r j).op) p y ≡ y) z (ap (λ q. cover q p y) quiet)
        | inr o ↦ cover_slot (r d).op p (same_spot_not (slot_of (r d).op) p (λ z. o (one_holder g w (view r) h c d p l ld x (step_holds g w (view r) h d p ld n z)))) y
      ]

  -- so that it names its word
  pub quiet_target : (p : Spot) → Holds w g (view r) c p → cover_of m.op ≡ Quiet → targets g w (view r) p ≡ word_at (words_of g.wide w) p
  quiet_target (Home a) x quiet = covered_none g.clients (Home a) (w (Home a)) (λ d. cover_of (r d).op) (held_cover (Home a) (λ z. cc) x quiet)
  quiet_target (Root d k) x quiet = covered_none g.clients (Root d k) (w (Root d k)) (λ d. cover_of (r d).op) (held_cover (Root d k) (λ z. cc) x quiet)
  quiet_target (Slot s i k) x quiet = covered_none g.clients (Slot s i k) (w (Slot s i k)) (λ d. cover_of (r d).op) (held_cover (Slot s i k) (λ z. cc) x quiet)
  quiet_target (Body d i) x quiet =
      cond-true (ltb i (refs_of g.wide (headers w d).live (w (Tag d)))) (covered (λ d. cover_of (r d).op) g.clients (Body d i) (w (Body d i))) 0 (ap (ltb i) (cond-true (headers w d).live _ 0 x.0) ∙ lt-ltb i _ x.1)
      ∙ covered_none g.clients (Body d i) (w (Body d i)) (λ d. cover_of (r d).op) (held_cover (Body d i) (λ z. cc) x quiet)
  quiet_target _ x quiet = absurd x

  -- and so it is while c has none
  pub word_target : (p : Spot) → Holds w g (view r) c p → m.op ≡ Nothing → targets g w (view r) p ≡ word_at (words_of g.wide w) p
  word_target p x idle = quiet_target p x (ap cover_of idle)

  -- ---- blocks

  -- a block in reach is live
  reached_live : (b : ℕ) → is_reached c m b ≡ true → IsLive (headers w) b
  reached_live b u = (reach_counted g w (view r) h c b l (reached_here g w r h c l b u)).0

  -- so it is a block, and not the one that is prepared
  reached_block : (b : ℕ) → is_reached c m b ≡ true → IsBlock g (classes w) b
  reached_block b u = held_live_block g w (view r) h b (reached_live b u)

  pub reached_not_made : (b : ℕ) → is_reached c m b ≡ true → is_block_made m.making b ≡ false
  reached_not_made b u = live_not_made g (classes w) (λ s. w (Segment s)) (λ d. w (Head d)) (λ d. w (Tag d)) (λ d i. w (Body d i)) c b m.making (h.making c l) (live_not_zero (w (Head b)) (reached_live b u))

  -- what a slot names is a block
  named_block : (p : Spot) (b : ℕ) → b ≢ 0 → SlotHas g w r c p b → m.op ≡ Nothing → IsBlock g (classes w) b
  named_block p b n s idle = held_live_block g w (view r) h b (target_counted g w (view r) h p b n (word_target p s.holds idle ∙ s.word)).0

  -- addresses of slots and of blocks fit in a redo word
  slot_fits : (p : Spot) → IsAt g (classes w) p → spot_address g p < place_limit g.wide
  slot_fits p a = let x = at_below g (classes w) p a in let y = total_in_format g h.fits in omega arith

  named_fits : (b : ℕ) → IsBlock g (classes w) b → b < place_limit g.wide
  named_fits b a = let x = block_within g (classes w) b a in let y = total_in_format g h.fits in omega arith

  -- ---- what is begun

  -- the step that a redo word begins at a slot
  pub up_begun_at : (p : Spot) (b x : ℕ) → SlotHas g w r c p x → is_reached c m b ≡ true → SecondStored g c m (redos.Up (spot_address g p) b) → op_begun g c m (redo_first g.wide (redos.Up (spot_address g p) b)) ≡ Up Begun p b e
  up_begun_at p b x s u ready =
      ap (op_spelled (word_told g c m) m.making e) (record_said g.wide (redos.Up (spot_address g p) b) _ (slot_fits p s.at, named_fits b (reached_block b u)) ready)
      ∙ (cond-false (is_block_made m.making b) (Alloc Begun (word_told g c m (spot_address g p)) b e) (Up Begun (word_told g c m (spot_address g p)) b e) (reached_not_made b u)
      ∙ ap (λ q. Up Begun q b e) s.told)

  pub down_begun_at : (p : Spot) (b : ℕ) → SlotHas g w r c p b → b ≢ 0 → m.op ≡ Nothing → SecondStored g c m (redos.Down (spot_address g p) b) → op_begun g c m (redo_first g.wide (redos.Down (spot_address g p) b)) ≡ Down Begun p b e
  down_begun_at p b s some idle ready =
      ap (op_spelled (word_told g c m) m.making e) (record_said g.wide (redos.Down (spot_address g p) b) _ (slot_fits p s.at, named_fits b (named_block p b some s idle)) ready)
      ∙ ap (λ q. Down Begun q b e) s.told

  pub change_begun_at : (p : Spot) (a b : ℕ) (parity : Bool) → SlotHas g w r c p a → a ≢ 0 → m.op ≡ Nothing → is_reached c m b ≡ true
      → SecondStored g c m (redos.Change parity (spot_address g p) a b) → op_begun g c m (redo_first g.wide (redos.Change parity (spot_address g p) a b)) ≡ Change (Raising Begun) p a b e
  change_begun_at p a b parity s some idle u ready =
      ap (op_spelled (word_told g c m) m.making e) (record_said g.wide (redos.Change parity (spot_address g p) a b) _ (slot_fits p s.at, named_fits a (named_block p a some s idle), named_fits b (reached_block b u)) ready)
      ∙ ap (λ q. Change (Raising Begun) q a b e) s.told

  -- ---- steps

  -- a step begins where its redo word spells it
  begins_at : (p : Spot) (red : ARedo) (o : Op) (x : ℕ) → HasRoom c m (room_of o) → RedoFits g.wide red → SecondStored g c m red → Names g (classes w) red → on_of o ≡ None → held_over_of o ≡ 0 → cover_of o ≡ Quiet
      → OpTie g (classes w) (redo_first g.wide red) (w (RedoMore c)) (w (Era c c)) (words_of g.wide w) o → Allowed c o → slot_of o ≡ p → SlotHas g w r c p x → op_begun g c m (redo_first g.wide red) ≡ o
      → BeginNeeds g w (view r) c (redo_first g.wide red) (op_begun g c m (redo_first g.wide red))
  begins_at p red o x a fits ready names on held_over quiet tie may slot s begun =
      subst (BeginNeeds g w (view r) c (redo_first g.wide red)) (sym begun)
      (record {
        inside = l;
        acts = a.here.joined;
        here = a.here.stays;
        place = fixed_is_at g (classes w) (Redo c) refl (lt-ltb c g.clients l);
        small = redo_first_small g.wide red fits;
        op = a.idle;
        on = on;
        held_over = held_over;
        quiet = quiet;
        room = (let y = era_here in let z = a.room in omega arith);
        tie = tie;
        names = record { second = (h.redo c l).second; first = first_again g (classes w) red fits names };
        allowed = may;
        slot = λ is. subst (Holds w g (view r) c) (sym slot) s.holds;
      })

  -- a block in reach is to be put into a slot
  pub up_at : (p : Spot) (b : ℕ) → HasRoom c m 3 → SlotHas g w r c p 0 → is_slot_to c p ≡ false → is_reached c m b ≡ true
      → RedoMayBegin g w r c (redos.Up (spot_address g p) b)
  up_at p b a s out u =
      let red : ARedo = redos.Up (spot_address g p) b in
      let block : IsBlock g (classes w) b = reached_block b u in
      let fits : RedoFits g.wide red = (slot_fits p s.at, named_fits b block) in
      record {
        fits = fits;
        names = block;
        needs = λ ready. begins_at p red (Up Begun p b e) 0 a fits ready block refl refl refl (record { spelled = spelled red fits ready; blocks = block; current = era_here; at = s.at; word = s.word }) out refl s
            (up_begun_at p b 0 s u ready);
      }

  -- the block of a slot is to go
  pub down_at : (p : Spot) (b : ℕ) → HasRoom c m 3 → SlotHas g w r c p b → b ≢ 0 → is_home p ≡ false
      → RedoMayBegin g w r c (redos.Down (spot_address g p) b)
  down_at p b a s some out =
      let red : ARedo = redos.Down (spot_address g p) b in
      let block : IsBlock g (classes w) b = named_block p b some s a.idle in
      let fits : RedoFits g.wide red = (slot_fits p s.at, named_fits b block) in
      record {
        fits = fits;
        names = block;
        needs = λ ready. begins_at p red (Down Begun p b e) b a fits ready block refl refl refl (record { spelled = spelled red fits ready; blocks = block; current = era_here; at = s.at; word = s.word }) out refl s
            (down_begun_at p b s some a.idle ready);
      }

  -- a slot is to have another block, which is in reach
  pub change_at : (p : Spot) (a b : ℕ) → HasRoom c m 4 → SlotHas g w r c p a → a ≢ 0 → is_slot p ≡ false → is_home p ≡ false → a ≢ b → is_reached c m b ≡ true
      → RedoMayBegin g w r c (redos.Change (odd e) (spot_address g p) a b)
  change_at p a b may s some lane home other u =
      let red : ARedo = redos.Change (odd e) (spot_address g p) a b in
      let before : IsBlock g (classes w) a = named_block p a some s may.idle in
      let after : IsBlock g (classes w) b = reached_block b u in
      let fits : RedoFits g.wide red = (slot_fits p s.at, named_fits a before, named_fits b after) in
      record {
        fits = fits;
        names = (before, after);
        needs = λ ready. begins_at p red (Change (Raising Begun) p a b e) a may fits ready (before, after) refl refl refl (record { spelled = spelled red fits ready; blocks = (before, after); current = era_here; at = s.at; word = s.word }) (lane, home, other) refl s
            (change_begun_at p a b (odd e) s some may.idle u ready);
      }
