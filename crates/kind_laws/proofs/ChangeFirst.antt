-- the exchange of a change's first half keeps the invariant, and is one event
use Rattle.std.proofs.Common.{◌≡◌, ◌≢◌, ℕ, ◌+◌, refl, sym, ap, ◌∙◌, arith, true, false, Bool, cond, eqb, eq-eqb, subst, inl, inr, List}
use Rattle.std.proofs.lemmas.Bool.{cases_eq, true≢false, ne_eqb, and_parts, false_from_ne_true}
use Rattle.std.specs.List.{filter}
use Rattle.shm_words.specs.{declared.{header.Header.Header, geometry.Geometry.Geometry}, Headers.header_of}
use Rattle.shm_words.specs.declared.redo.Redo.TheVariants as redos
use Rattle.shm_graph.specs.{References.{one_if, words_of}, declared.spot.Spot.Spot}
use Rattle.shm_graph.specs.declared.spot.Spot.TheVariants.{Spare, Redo, RedoMore, Home, Era, Root, Slot, Head, Body}
use Rattle.shm_graph.specs.declared.memo.{First.TheVariants.{Begun, Committed}, Op.{Op, TheVariants.Change}}
use Rattle.shm_graph.specs.declared.{memo.{ChangeStage.TheVariants.Raising, Stored.Stored, Look.Look}, table.Part.Part}
use Rattle.shm_graph.specs.Ops.{word_at, cover, cover_of, slot_of, up_slot, indegree, held_over_of, on_of, is_op}
use Rattle.shm_graph.specs.{Spots.{upd, same_spot, spot_address}, Blocks.{headers, IsBlock, classes}}
use Rattle.shm_graph.specs.{Views.{View, targets, held_overs}, Events.{ChangeUp, graph_of, Happens}}
use Rattle.shm_graph.specs.Held.{HeldAt, is_slot, odd, SlotOf, reach_of, is_home, LaneSound, OpTie, OpSound, Allowed, room_of}
use Rattle.shm_graph.specs.MemoAfterStore.{not_block}
use Rattle.shm_graph.proofs.{Memos.Frames.at1_all, Runs.Lists.{at1_here, at1_other, at1_part}}
use Rattle.shm_graph.proofs.{Spots.Spotting.same_spot_is, States.Holders.{target_counted, held_live_not_zero}}
use Rattle.kind_laws.specs.HeaderExchanges.{not_blocks, ChangeNeeds, change_view}
use Rattle.kind_laws.proofs.{Sum.{held_over_step, degree_step}, Keep.block_not_zero}
use Rattle.kind_laws.proofs.Headers.{dying_raised, live_stays, lives, refs_stay, shape_stays}
use Rattle.kind_laws.proofs.Slots.{slot_committed, slot_looks, slot_named, slot_names, slot_not_spare}
use Rattle.kind_laws.proofs.References.{one_name, differs, slot_no_root, part_other, made_kept, made_own}
use Rattle.kind_laws.proofs.LiveExchange.{Changes, exchanged_kept, tails_stay, moved, unmoved}
use Rattle.kind_laws.proofs.Readings.{head_words, queue_heads, tags, tails}

module _ (g : Geometry) (w : Spot → ℕ) (v : View) (c x b e to : ℕ) (p : Spot) (looks' : List Look) (kept : List Stored) (values : List ℕ) (part : Part) (h : HeldAt g w v) (a : ChangeNeeds g w v c x b e to p looks' kept values part) where
  abbrev w' : Spot → ℕ
  w' = upd w (Head b) to

  abbrev v' : View
  v' = change_view v c x b e p looks' kept values part

  abbrev o : Op
  o = Change (Raising Committed) p x b e

  abbrev t : Spot → ℕ
  t = targets g w v

  abbrev t' : Spot → ℕ
  t' = upd t p b

  new_live : (header_of to).live ≡ true
  new_live = ap (λ (x : Header). x.live) a.new

  abbrev At : ℕ → Spot → Type 0
  At d = SlotOf g.wide d (λ i. header_of (head_words w i)) (tags w) (v.latch d) (tails w) (queue_heads w) (reach_of t (tails w) (queue_heads w) v.looks d)

  mine_at : At c p
  mine_at = let q : At c (slot_of (Change (Raising Begun) p x b e)) = subst (λ x. At c (slot_of x)) a.op (h.slots c a.inside (ap is_op a.op)) in q

  allowed_now : Allowed c o
  allowed_now = let q : Allowed c (Change (Raising Begun) p x b e) = subst (Allowed c) a.op (h.allowed c a.inside) in q

  op_sound : OpSound g (classes w) (w (Redo c)) (w (RedoMore c)) (w (Era c c)) (word_at (words_of g.wide w) p) p (redos.Change (odd e) (spot_address g p) x b) e x
  op_sound = let q : OpTie g (classes w) (w (Redo c)) (w (RedoMore c)) (w (Era c c)) (words_of g.wide w) (Change (Raising Begun) p x b e) = subst (OpTie g (classes w) (w (Redo c)) (w (RedoMore c)) (w (Era c c)) (words_of g.wide w)) a.op (h.op c a.inside) in q

  -- the redo word names both blocks
  blocks : IsBlock g (classes w) x × IsBlock g (classes w) b
  blocks = op_sound.blocks

  some : b ≢ 0
  some = block_not_zero g (classes w) b blocks.1

  some_x : x ≢ 0
  some_x = block_not_zero g (classes w) x blocks.0

  -- the slot names the block
  holds : t p ≡ x
  holds = slot_names g w v h c p a.inside mine_at ∙ (ap (λ z. cover (cover_of z) p (word_at (words_of g.wide w) p)) a.op ∙ op_sound.word)

  live : (header_of (head_words w b)).live ≡ true
  live = subst (λ i. (header_of (head_words w i)).live ≡ true) a.named.1 (h.count.targets a.named.0 (λ z. some (sym a.named.1 ∙ z)))

  counted : (header_of (head_words w b)).count ≢ 0
  counted = (target_counted g w v h a.named.0 b some a.named.1).1

  path : targets g w' v' ≡ t'
  path = slot_committed g w v h c p a.inside mine_at b to b o (ap cover_of a.op) refl (refs_stay g w v h b to live counted new_live)

  held_over_was : held_overs v c ≡ 0
  held_over_was = ap held_over_of a.op

  -- the invariant stays
  pub change_kept : HeldAt g (upd w (Head b) to) (change_view v c x b e p looks' kept values part)
  change_kept = exchanged_kept g w v c b to changes t' h (record {
    inside = a.inside;
    acts = a.acts;
    here = a.here;
    small = a.small;
    live = live;
    counted = counted;
    new_live = new_live;
    client = ap (λ (x : Header). x.client) a.new;
    era = ap (λ (x : Header). x.era) a.new ∙ op_sound.current;
    shows = a.shows;
    path = path;
    begun = ap on_of a.op;
    committed = refl;
    room = sym (ap room_of a.op);
    tie = op_sound;
    allowed = allowed_now;
    dying = dying_raised g w v h b to live counted new_live (λ z. let q = new_count in absurd (omega arith));
    count = record {
      counts = λ i. at1_all (λ (j x : ℕ). (header_of x).live ≡ true → (header_of x).count ≡ indegree g (classes w) t' (held_overs v') j) (head_words w) b to i
          (λ _. let q = total b some in let z : one_if (eqb b b) ≡ 1 = ap one_if (eq-eqb b b refl) in let u = h.count.counts b live in let m = new_count in omega arith)
          (λ m l. let q = total i (held_live_not_zero g w v h i l) in let z : one_if (eqb b i) ≡ 0 = ap one_if (ne_eqb b i m) in let u = h.count.counts i l in omega arith);
      targets = λ q. targets q (same_spot p q);
      held_overs = λ d l m. elim (cases_eq c d) [
        | inl y ↦ subst (λ i. (headers w' (held_overs v' i)).live ≡ true) y (subst (λ i. (headers w' i).live ≡ true) (sym held_over_now) (stay x live_x))
        | inr n ↦ (let q = held_over_other d (λ z. n (sym z)) in subst (λ i. (headers w' i).live ≡ true) (sym q) (stay (held_overs v d) (h.count.held_overs d l (λ z. m (q ∙ z)))))
      ];
    };
    slot = a.slot;
    looked = a.looked;
    knows = a.knows;
    valued = a.valued;
    parted = a.parted;
    loose = a.loose;
    made = made_own g w v h c b to b p (not_blocks b x) a.inside (λ y f. let q = and_parts (not_block b y) (not_block x y) f in (differs b y q.0, λ _ z. differs x y q.1 (sym holds ∙ z)));
    named = λ d i n. slot_named g w v h c p a.inside mine_at b d n i;
    looks = λ d. slot_looks g w v h c p a.inside mine_at b d not_home;
    parts = λ d n l. part_other g w v h c d b p (headers w') n l mine_at (λ i _. stay i);
    others_made = λ d n l. made_kept g w v h d b to b p l (λ y k one f. (only d k n y one f, slot_no_root g w v h c d k p n mine_at));
    unsent = λ _ _ _. refl;
    untaken = λ _ _ _. refl;
    lanes = lane p mine_at not_slot;
    self_lanes = λ d k z. lane_apart d d k ∙ z;
    no_queue = h.no_queue;
    tails = tails_stay g w v c o v.unsent h (sym (ap up_slot a.op)) (λ _ _ nz. nz);
    queued = λ _ s r k _. inl (lane_apart s r k);
  })
    where
      changes : Changes v c
      changes =
          record {
            op = o;
            dying = unmoved v.dying c;
            looks = moved v.looks c looks';
            known = moved v.known c kept;
            part = moved v.part c part;
            values = moved v.values c values;
            made = moved v.made c (filter (not_blocks b x) (v.made c));
            unsent = v.unsent;
            untaken = v.untaken;
          }

      not_slot : is_slot p ≡ false
      not_slot = allowed_now.0

      not_home : is_home p ≡ false
      not_home = allowed_now.1

      not_spare : p ≢ Spare
      not_spare = slot_not_spare g w v h c p a.inside mine_at

      live_x : (header_of (head_words w x)).live ≡ true
      live_x = subst (λ i. (header_of (head_words w i)).live ≡ true) holds (h.count.targets p (λ z. some_x (sym holds ∙ z)))

      stay : (i : ℕ) → (headers w i).live ≡ true → (headers w' i).live ≡ true
      stay = lives g w v h b to live counted new_live

      new_count : (header_of to).count ≡ (header_of (head_words w b)).count + 1
      new_count = ap (λ (x : Header). x.count) a.new

      held_over_now : held_overs v' c ≡ x
      held_over_now = ap held_over_of (at1_here v.op c o)

      held_over_other : (d : ℕ) → d ≢ c → held_overs v' d ≡ held_overs v d
      held_over_other d n = ap held_over_of (at1_other v.op c o d (λ z. n (sym z)))

      -- the slot's block goes to what is held over, and the new one comes to the slot
      total : (i : ℕ) → i ≢ 0 → indegree g (classes w) t' (held_overs v') i ≡ indegree g (classes w) t (held_overs v) i + one_if (eqb b i)
      total i nz =
          let s = held_over_step g (classes w) t' (held_overs v) (held_overs v') c i a.inside held_over_other in
          let r = degree_step g (classes w) t (held_overs v) p b i op_sound.at not_spare in
          let y : one_if (eqb (held_overs v c) i) ≡ 0 = ap one_if (ne_eqb _ i (λ z. nz (sym z ∙ held_over_was))) in
          let u : one_if (eqb (held_overs v' c) i) ≡ one_if (eqb x i) = ap (λ z. one_if (eqb z i)) held_over_now in
          let q : one_if (eqb (t p) i) ≡ one_if (eqb x i) = ap (λ z. one_if (eqb z i)) holds in
          omega arith

      targets : (q : Spot) (y : Bool) → cond y b (t q) ≢ 0 → (headers w' (cond y b (t q))).live ≡ true
      targets q true m = stay b live
      targets q false m = stay (t q) (h.count.targets q m)

      lane : (q : Spot) → At c q → is_slot q ≡ false → (i j : ℕ) → i ≢ j → LaneSound (λ k. t (Slot i j k)) (tails w i j) (queue_heads w i j) (v.sent i j) (v.unsent i j) (v.received j i) (v.untaken j i) → LaneSound (λ k. upd t q b (Slot i j k)) (tails w i j) (queue_heads w i j) (v.sent i j) (v.unsent i j) (v.received j i) (v.untaken j i)
      lane (Root _ _) y z i j n l = l
      lane (Home _) y z i j n l = l
      lane (Body _ _) y z i j n l = l
      lane (Slot _ _ _) y z i j n l = cc
      lane _ y z i j n l = absurd y

      lane_apart : (i j k : ℕ) → t' (Slot i j k) ≡ t (Slot i j k)
      lane_apart i j k = let z : same_spot p (Slot i j k) ≡ false = false_from_ne_true _ (λ z. true≢false (ap is_slot (sym (same_spot_is p (Slot i j k) z)) ∙ not_slot)) in rw z refl

      -- a block with one reference, from a root of another identity, is another block
      only : (d k : ℕ) → c ≢ d → (y : ℕ) → (headers w y).count ≡ 1 → t (Root d k) ≡ y → b ≢ y
      only d k m y = one_name g w v h b a.named.0 a.named.1 live d k y (false_from_ne_true _ (λ u. m (sym (a.rooted d k (same_spot_is a.named.0 (Root d k) u)))))

  -- the block comes to the slot, and what the slot named goes to what is held over
  pub change_event : Happens g w (ChangeUp c p x b) (graph_of g w v) (graph_of g (upd w (Head b) to) (change_view v c x b e p looks' kept values part))
  change_event = (
    holds,
    allowed_now.2,
    (live, counted),
    held_over_was,
    record {
      lives = live_stays g w v h b to live counted new_live;
      shapes = shape_stays g w v h b to live counted new_live;
      targets = λ q. ap (λ (f : Spot → ℕ). f q) path;
      held_overs = at1_part held_over_of v.op c o;
    },
  )
