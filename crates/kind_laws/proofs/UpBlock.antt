-- the exchange that raises a live block keeps the invariant, for any slot, and is one event
use Rattle.std.proofs.Math.Path.{fun_ext}
use Rattle.std.proofs.Common.{◌≡◌, ◌≢◌, ℕ, ◌+◌, ◌%◌, ◌<◌, ◌≤◌, refl, sym, ap, ◌∙◌, arith, true, false, Bool, cond, eqb, eq-eqb, subst, inl, inr, ◌⊎◌, ◌&&◌, []}
use Rattle.std.proofs.lemmas.List.Elements.{All-weaker}
use Rattle.std.proofs.lemmas.Bool.{cases_Bool, cases_eq, true≢false, ne_eqb, eqb-true, and_parts, false_from_ne_true}
use Rattle.std.specs.List.{filter}
use Rattle.shm_words.specs.{declared.{geometry.Geometry.Geometry, header.Header.Header}, Headers.header_of}
use Rattle.shm_words.specs.Tags.{tag_author}
use Rattle.shm_words.specs.declared.redo.Redo.TheVariants as redos
use Rattle.shm_graph.specs.declared.spot.Spot.{Spot}
use Rattle.shm_graph.specs.declared.spot.Spot.TheVariants.{Redo, RedoMore, Home, Era, Root, Slot, Head, Tag, Body}
use Rattle.shm_graph.specs.declared.{table.Part.Part, memo.{First.TheVariants.{Begun, Committed}, Op.Op}}
use Rattle.shm_graph.specs.declared.memo.{Op.TheVariants.Up, Stored.Stored}
use Rattle.shm_graph.specs.{Spots.{upd, same_spot, IsAt, spot_address}, References.{one_if, words_of}}
use Rattle.shm_graph.specs.Ops.{word_at, cover, cover_of, slot_of, indegree, held_over_of, on_of, is_op}
use Rattle.shm_graph.specs.{Views.{View, at1, targets, held_overs}, Blocks.{classes, headers}}
use Rattle.shm_graph.specs.{Events.{graph_of, Happens, Up as UpEvent}, Tables.{contents_of, HasShape}}
use Rattle.shm_graph.specs.Held.{HeldAt, CountSound, reach_of, named_by, LooksSound, is_slot, is_slot_to, LaneSound, OpTie, OpSound, Allowed, TailSound, room_of, is_loose}
use Rattle.shm_graph.specs.MemoAfterStore.{not_block}
use Rattle.shm_graph.proofs.{Spots.Spotting.same_spot_is, States.Holders.Holds, Runs.Lists.at1_here}
use Rattle.shm_graph.proofs.Memos.Frames.{at1_all}
use Rattle.kind_laws.proofs.Lanes.{lane_up, lane_same, other_lane, this_lane, no_self, lane_clients, lane_to}
use Rattle.kind_laws.proofs.LiveExchange.{Changes, exchanged_kept, moved, unmoved}
use Rattle.kind_laws.proofs.ExchangeFields.{count_exchange, named_kept, slot_kept, looks_kept, known_kept}
use Rattle.kind_laws.proofs.Headers.{dying_raised, lives, refs_stay, graph_stays}
use Rattle.kind_laws.proofs.Slots.{slot_not_spare, slot_names, slot_committed}
use Rattle.kind_laws.proofs.References.{one_name, differs, live_some, named_count, slot_no_root, part_other, values_kept, made_kept, made_own}
use Rattle.kind_laws.proofs.Readings.{eras, queue_heads, tags, tails}
use Rattle.kind_laws.specs.HeaderExchanges.{UpNeeds, up_view, unsent_after}

module _ (g : Geometry) (w : Spot → ℕ) (v : View) (c b e to : ℕ) (p : Spot) (part : Part) (h : HeldAt g w v) (a : UpNeeds g w v c b e to p part) where
  new_live : (header_of to).live ≡ true
  new_live = ap (λ (x : Header). x.live) a.new

  mine_at : Holds w g v c p
  mine_at = let q : Holds w g v c (slot_of (Up Begun p b e)) = subst (λ x. Holds w g v c (slot_of x)) a.op (h.slots c a.inside (ap is_op a.op)) in q

  op_sound : OpSound g (classes w) (w (Redo c)) (w (RedoMore c)) (w (Era c c)) (word_at (words_of g.wide w) p) p (redos.Up (spot_address g p) b) e 0
  op_sound = let q : OpTie g (classes w) (w (Redo c)) (w (RedoMore c)) (w (Era c c)) (words_of g.wide w) (Up Begun p b e) = subst (OpTie g (classes w) (w (Redo c)) (w (RedoMore c)) (w (Era c c)) (words_of g.wide w)) a.op (h.op c a.inside) in q

  -- the block is a target, so it is live and counted
  live : (headers w b).live ≡ true
  live = subst (λ i. (headers w i).live ≡ true) a.named.1 (h.count.targets a.named.0 (λ z. a.some (sym a.named.1 ∙ z)))

  counted : (headers w b).count ≢ 0
  counted z = let q = named_count g w v h b a.named.0 a.named.1 live in omega arith

  -- the slot names nothing
  held_at : targets g w v p ≡ 0
  held_at = slot_names g w v h c p a.inside mine_at ∙ (ap (λ z. cover (cover_of z) p (word_at (words_of g.wide w) p)) a.op ∙ op_sound.word)

  path : targets g (upd w (Head b) to) (up_view v c b e p part) ≡ upd (targets g w v) p b
  path = slot_committed g w v h c p a.inside mine_at b to b (Up Committed p b e) (ap cover_of a.op) refl (refs_stay g w v h b to live counted new_live)

  held_over : held_overs (up_view v c b e p part) ≡ held_overs v
  held_over = fun_ext (λ d. at1_all (λ (i : ℕ) (x : Op). held_over_of x ≡ held_over_of (v.op i)) v.op c (Up Committed p b e) d (sym (ap held_over_of a.op)) (λ _. refl))

  pub up_kept : HeldAt g (upd w (Head b) to) (up_view v c b e p part)
  up_kept = exchanged_kept g w v c b to changes t' h (record {
    inside = a.inside;
    acts = a.acts;
    here = a.here;
    small = a.small;
    live = live;
    counted = counted;
    new_live = new_live;
    client = ap (λ (x : Header). x.client) a.new;
    era = ap (λ (x : Header). x.era) a.new ∙ op_sound.current;
    shows = a.shows;
    path = path;
    begun = ap on_of a.op;
    committed = refl;
    room = sym (ap room_of a.op);
    tie = op_sound;
    allowed = not_to;
    dying = dying_raised g w v h b to live counted new_live (λ z. let q = new_count in absurd (omega arith));
    count = subst (λ (l : ℕ → ℕ). CountSound g (classes w) (headers (upd w (Head b) to)) t' l) (sym held_over)
        (count_exchange g (classes w) (λ i. w (Head i)) t (held_overs v) p b to b op_sound.at (slot_not_spare g w v h c p a.inside mine_at) (live_some g w v h) new_live balance others (λ _. refl) h.count);
    slot = slot_kept g.wide c (headers w) (headers w) (tags w) (v.latch c) (tails w) (queue_heads w) (reach_of t (tails w) (queue_heads w) v.looks c) (reach_of t' (tails w) (queue_heads w) v.looks c) p (λ i z. inl z) (λ i z. z) (reach c) mine_at;
    looked = looks c a.inside;
    knows = All-weaker _ _ (λ (s : Stored). known_kept g.wide c (tags w) (λ i j. w (Body i j)) (λ i j l. w (Slot i j l)) (tails w) (queue_heads w) (v.untaken c) (v.latch c) (reach_of t (tails w) (queue_heads w) v.looks c) (reach_of t' (tails w) (queue_heads w) v.looks c) (v.dying c) (v.dying c) s.spot s.value (reach c) (λ _ x. x)) (v.known c) (h.known c a.inside);
    valued = values_kept g w v h c (headers w) (λ i j. t' (Body i j)) (λ i j. w (Body i j)) (reach_of t' (tails w) (queue_heads w) v.looks c) a.inside (λ i _ l. l) (reach c);
    parted = a.parted;
    loose = a.loose;
    made = made_own g w v h c b to b p (not_block b) a.inside (λ y f. (differs b y f, λ n z. n (sym z ∙ held_at)));
    named = λ d i _. named d i;
    looks = λ d _ l. looks d l;
    parts = λ d n l. part_other g w v h c d b p (headers (upd w (Head b) to)) n l mine_at (λ i _. lives g w v h b to live counted new_live i);
    others_made = λ d n l. made_kept g w v h d b to b p l (λ y k one f. (only d k n y one f, slot_no_root g w v h c d k p n mine_at));
    unsent = λ d n. unsent d n p mine_at not_to;
    untaken = λ _ _ _. refl;
    lanes = lane p mine_at not_to held_at;
    self_lanes = λ d k z. self_slot p mine_at d k ∙ z;
    no_queue = λ d l r y. let q = h.no_queue d l r y in (none_unsent p mine_at op_sound.at d r y q.0, q.1);
    tails = λ d r l lr. elim (cases_eq c d) [
      | inl x ↦ subst (λ i. TailSound i r (eras w i i) (tails w i r) (unsent_after p b v.unsent i r) (at1 v.op c o i)) x (subst (TailSound c r (eras w c c) (tails w c r) (unsent_after p b v.unsent c r)) (sym (at1_here v.op c o)) (tail_own p mine_at not_to r (subst (TailSound c r (eras w c c) (tails w c r) (v.unsent c r)) a.op (h.tails c r a.inside lr))))
      | inr n ↦ rw (unsent d n p mine_at not_to r, ne_eqb c d n) (h.tails d r l lr)
    ];
    queued = λ f s r k _. in_queue s r k f (cases_Bool (same_spot p (Slot s r k)));
  })
    where
      o : Op
      o = Up Committed p b e

      changes : Changes v c
      changes =
          record {
            op = o;
            dying = unmoved v.dying c;
            looks = unmoved v.looks c;
            known = unmoved v.known c;
            part = moved v.part c part;
            values = unmoved v.values c;
            made = moved v.made c (filter (not_block b) (v.made c));
            unsent = unsent_after p b v.unsent;
            untaken = v.untaken;
          }

      t : Spot → ℕ
      t = targets g w v

      t' : Spot → ℕ
      t' = upd t p b

      not_to : is_slot_to c p ≡ false
      not_to = let q : Allowed c (Up Begun p b e) = subst (Allowed c) a.op (h.allowed c a.inside) in q

      new_count : (header_of to).count ≡ (headers w b).count + 1
      new_count = ap (λ (x : Header). x.count) a.new

      balance : (header_of to).count + one_if (eqb (t p) b) ≡ indegree g (classes w) t (held_overs v) b + one_if (eqb b b)
      balance =
          let x : one_if (eqb (t p) b) ≡ 0 = ap one_if (ne_eqb _ b (λ z. a.some (sym z ∙ held_at))) in
          let y : one_if (eqb b b) ≡ 1 = ap one_if (eq-eqb b b refl) in
          let u = h.count.counts b live in let q = new_count in
          omega arith

      others : (i : ℕ) → i ≢ 0 → b ≢ i → one_if (eqb (t p) i) ≡ one_if (eqb b i)
      others i nz n = ap one_if (ne_eqb _ i (λ z. nz (sym z ∙ held_at)) ∙ sym (ne_eqb b i n))

      -- a target that is something stays
      kept : (q : Spot) (i : ℕ) → i ≢ 0 → t q ≡ i → t' q ≡ i
      kept q i n x = both (same_spot p q) refl
        where
          both : (z : Bool) → same_spot p q ≡ z → cond z b (t q) ≡ i
          both true z = absurd (n (sym x ∙ (ap t (sym (same_spot_is p q z)) ∙ held_at)))
          both false z = x

      named : (d i : ℕ) → named_by t (tails w) (queue_heads w) d i → named_by t' (tails w) (queue_heads w) d i
      named d i = named_kept t t' (tails w) (queue_heads w) d i (λ n l x. kept (Root d l) i n x) (λ n x. kept (Home d) i n x) (λ n s _ x. kept (Slot s d (queue_heads w s d % 8)) i n x)

      reach : (d i : ℕ) → reach_of t (tails w) (queue_heads w) v.looks d i → reach_of t' (tails w) (queue_heads w) v.looks d i
      reach d i (inl x) = inl (named d i x)
      reach d i (inr x) = inr x

      looks : (d : ℕ) → d < g.clients → LooksSound (λ i. t' (Home i)) (λ i j. t' (Body i j)) (λ i. tag_author g.wide (w (Tag i))) (v.latch d) (named_by t' (tails w) (queue_heads w) d) [] (v.looks d)
      looks d l = looks_kept (λ i. t (Home i)) (λ i. t' (Home i)) (λ i j. t (Body i j)) (λ i j. t' (Body i j)) (λ i. tag_author g.wide (w (Tag i))) (v.latch d) (named_by t (tails w) (queue_heads w) d) (named_by t' (tails w) (queue_heads w) d) (λ i x n q. kept (Home i) x n q) (λ i j x n q. kept (Body i j) x n q) (named d) [] (v.looks d) (h.looks d l)

      -- a queue from an identity to itself has no slot of a step
      self_slot : (q : Spot) → Holds w g v c q → (d k : ℕ) → upd t q b (Slot d d k) ≡ t (Slot d d k)
      self_slot (Slot s r l) x d k = let q = other_lane s r l d d k (no_self s r d x.0) in rw q refl
      self_slot (Root i j) x d k = refl
      self_slot (Home i) x d k = refl
      self_slot (Body i j) x d k = refl
      self_slot _ x d k = absurd x

      -- in a pool for tables what is sent is a value block
      in_queue : (s r k : ℕ) → is_loose (v.part c) ≡ false → (same_spot p (Slot s r k) ≡ true) ⊎ (same_spot p (Slot s r k) ≡ false) → (t' (Slot s r k) ≡ t (Slot s r k)) ⊎ HasShape (contents_of g.wide (upd w (Head b) to) t') 0 1 (t' (Slot s r k))
      in_queue s r k f (inl e) = inr (rw e (let q = a.queued f (ap is_slot (same_spot_is p (Slot s r k) e)) in record { live = lives g w v h b to live counted new_live b q.live; names = q.names; words = q.words }))
      in_queue s r k f (inr e) = inl (rw e refl)

      -- the block that is raised has a reference that is no root of another identity
      only : (d k : ℕ) → c ≢ d → (y : ℕ) → (headers w y).count ≡ 1 → t (Root d k) ≡ y → b ≢ y
      only d k m y = one_name g w v h b a.named.0 a.named.1 live d k y (false_from_ne_true _ (λ u. m (sym (a.rooted d k (same_spot_is a.named.0 (Root d k) u)))))

      unsent : (d : ℕ) → c ≢ d → (q : Spot) → Holds w g v c q → is_slot_to c q ≡ false → (r : ℕ) → unsent_after q b v.unsent d r ≡ v.unsent d r
      unsent d n (Slot s r k) x y j = elim x.1 [
        | inl u ↦ (let z : eqb s d ≡ false = ne_eqb s d (λ i. n (sym u.0 ∙ i)) in rw z refl)
        | inr u ↦ absurd (true≢false (sym (eq-eqb r c u.0) ∙ y))
      ]
      unsent d n (Root i j) x y r = refl
      unsent d n (Home i) x y r = refl
      unsent d n (Body i j) x y r = refl
      unsent d n _ x y r = absurd x

      -- the slot is one of a queue that the pool has, to another identity
      none_unsent : (q : Spot) → Holds w g v c q → IsAt g (classes w) q → (d r : ℕ) → (r ≡ d) ⊎ (g.clients ≤ r) → v.unsent d r ≡ 0 → unsent_after q b v.unsent d r ≡ 0
      none_unsent (Slot s i k) x at d r y z = elim (cases_Bool (eqb s d && eqb i r)) [
        | inl f ↦ absurd (lane_to g.clients s i d r x.0 (lane_clients g (classes w) s i k h.fits at).1 y f)
        | inr f ↦ rw f z
      ]
      none_unsent (Root _ _) x at d r y z = z
      none_unsent (Home _) x at d r y z = z
      none_unsent (Body _ _) x at d r y z = z
      none_unsent _ x at d r y z = absurd x

      lane : (q : Spot) → Holds w g v c q → is_slot_to c q ≡ false → t q ≡ 0 → (i j : ℕ) → i ≢ j → LaneSound (λ k. t (Slot i j k)) (tails w i j) (queue_heads w i j) (v.sent i j) (v.unsent i j) (v.received j i) (v.untaken j i) → LaneSound (λ k. upd t q b (Slot i j k)) (tails w i j) (queue_heads w i j) (v.sent i j) (unsent_after q b v.unsent i j) (v.received j i) (v.untaken j i)
      lane (Root _ _) x y z i j n l = l
      lane (Home _) x y z i j n l = l
      lane (Body _ _) x y z i j n l = l
      lane (Slot s r k) x y z i j n l = elim (cases_Bool (eqb s i && eqb r j)) [
        | inr f ↦ rw f (lane_same (λ m. t (Slot i j m)) (λ m. upd t (Slot s r k) b (Slot i j m)) (tails w i j) (queue_heads w i j) (v.sent i j) (v.unsent i j) (v.received j i) (v.untaken j i) (λ m. let q = other_lane s r k i j m f in rw q refl) l)
        | inl f ↦ rw f (lane_up (λ m. t (Slot i j m)) (λ m. upd t (Slot s r k) b (Slot i j m)) (tails w i j) (queue_heads w i j) (v.sent i j) (v.unsent i j) b (v.received j i) (v.untaken j i)
            (at_tail i j f).1
            (λ m ne. let q : same_spot (Slot s r k) (Slot i j m) ≡ false = this_lane s r k i j m f ∙ ne_eqb k m (λ u. ne (sym u ∙ (at_tail i j f).0)) in rw q refl)
            (let q : same_spot (Slot s r k) (Slot i j (tails w i j % 8)) ≡ true = this_lane s r k i j (tails w i j % 8) f ∙ eq-eqb k (tails w i j % 8) (at_tail i j f).0 in rw q refl) l)
      ]
        where
          at_tail : (i j : ℕ) → (eqb s i && eqb r j) ≡ true → (k ≡ tails w i j % 8) × (tails w i j < queue_heads w i j + 8)
          at_tail i j f = elim x.1 [
            | inl u ↦ (let q = and_parts (eqb s i) (eqb r j) f in let d = eqb-true s i q.0 in let o = eqb-true r j q.1 in
                subst (λ a. (k ≡ tails w a j % 8) × (tails w a j < queue_heads w a j + 8)) d (subst (λ a. (k ≡ tails w s a % 8) × (tails w s a < queue_heads w s a + 8)) o (u.1, u.2)))
            | inr u ↦ absurd (true≢false (sym (eq-eqb r c u.0) ∙ y))
          ]
      lane _ x y z i j n l = absurd x

      -- the slot at the tail is the step's own
      tail_own : (q : Spot) → Holds w g v c q → is_slot_to c q ≡ false → (r : ℕ) → TailSound c r (eras w c c) (tails w c r) (v.unsent c r) (Up Begun q b e) → TailSound c r (eras w c c) (tails w c r) (unsent_after q b v.unsent c r) (Up Committed q b e)
      tail_own (Root _ _) x y r k = k
      tail_own (Home _) x y r k = k
      tail_own (Body _ _) x y r k = k
      tail_own (Slot s i j) x y r k = elim (cases_Bool (eqb s c && eqb i r)) [
        | inr f ↦ rw f k
        | inl f ↦ (k.0, λ _ n. absurd (n (here (and_parts (eqb s c) (eqb i r) f) x.1)))
      ]
        where
          here : (eqb s c ≡ true) × (eqb i r ≡ true) → ((s ≡ c) × (j ≡ tails w s i % 8) × (tails w s i < queue_heads w s i + 8)) ⊎ ((i ≡ c) × (j ≡ queue_heads w s i % 8) × (queue_heads w s i < tails w s i)) → Slot s i j ≡ Slot c r (tails w c r % 8)
          here q (inl u) = let m : i ≡ r = eqb-true i r q.1 in ap (λ z. Slot z i j) u.0 ∙ (ap (λ z. Slot c z j) m ∙ ap (Slot c r) (u.1 ∙ (ap (λ z. tails w z i % 8) u.0 ∙ ap (λ z. tails w c z % 8) m)))
          here q (inr u) = absurd (true≢false (sym (eq-eqb i c u.0) ∙ y))
      tail_own _ x y r k = absurd x

  -- and it is one event: the empty slot names the block
  pub up_event : Happens g w (UpEvent c p b) (graph_of g w v) (graph_of g (upd w (Head b) to) (up_view v c b e p part))
  up_event = (held_at, (live, counted), graph_stays g w v h b to live counted new_live (up_view v c b e p part) p b path held_over)
