-- the exchange that lowers a live block keeps the invariant, for any slot, and is one event
use mathlib.Core.Path.{fun_ext}
use Rattle.std.proofs.Common.{◌≡◌, ◌≢◌, ℕ, ◌+◌, ◌%◌, ◌<◌, ◌≤◌, refl, sym, ap, ◌∙◌, arith, true, false, Bool, cond, eqb, eq-eqb, subst, inl, inr, ◌⊎◌, ◌&&◌, List}
use Rattle.std.proofs.lemmas.Bool.{cases_Bool, cases_eq, ne_eqb, eqb-true, and_parts}
use Rattle.std.specs.List.{filter}
use Rattle.shm_words.specs.{declared.{header.Header.Header, geometry.Geometry.Geometry}, Headers.header_of}
use Rattle.shm_words.specs.declared.redo.Redo.TheVariants as redos
use Rattle.shm_graph.specs.{References.{one_if, words_of}, declared.spot.Spot.Spot}
use Rattle.shm_graph.specs.declared.spot.Spot.TheVariants.{Redo, RedoMore, Home, Era, Root, Slot, Head, Body}
use Rattle.shm_graph.specs.declared.memo.{First.TheVariants.{Begun, Committed}, Op.{Op, TheVariants.Down}}
use Rattle.shm_graph.specs.declared.{memo.{Stored.Stored, Look.Look}, table.Part.Part}
use Rattle.shm_graph.specs.Ops.{word_at, cover, cover_of, slot_of, up_slot, indegree, held_over_of, on_of, is_op}
use Rattle.shm_graph.specs.{Spots.{upd, same_spot, IsAt, spot_address}, Views.{View, targets, held_overs}}
use Rattle.shm_graph.specs.Held.{HeldAt, CountSound, is_home, LaneSound, OpTie, OpSound, Allowed, room_of}
use Rattle.shm_graph.specs.{MemoAfterStore.not_block, Blocks.{classes, headers}}
use Rattle.shm_graph.specs.Events.{graph_of, Happens, Down as DownEvent}
use Rattle.shm_graph.proofs.{Memos.Frames.at1_all, States.Holders.{Holds, held_live_not_zero}}
use Rattle.kind_laws.specs.HeaderExchanges.{LowerNeeds, lower_view, dying_after, unsent_back, untaken_after}
use Rattle.kind_laws.proofs.Lanes.{lane_up, lane_taken, lane_same, other_lane, this_lane, lane_clients, lane_from}
use Rattle.kind_laws.proofs.Headers.{dying_lowered, graph_stays, lives, refs_stay}
use Rattle.kind_laws.proofs.Slots.{slot_committed, slot_looks, slot_named, slot_names, slot_not_spare}
use Rattle.kind_laws.proofs.References.{one_name, differs, slot_no_root, part_other, made_kept, made_own}
use Rattle.kind_laws.proofs.{LiveExchange.{Changes, exchanged_kept, tails_stay, moved}, ExchangeFields.count_exchange}
use Rattle.kind_laws.proofs.Readings.{queue_heads, tails}

module _ (g : Geometry) (w : Spot → ℕ) (v : View) (c b e n to : ℕ) (p : Spot) (looks' : List Look) (kept : List Stored) (values : List ℕ) (part : Part) (h : HeldAt g w v) (a : LowerNeeds g w v c b e n to p looks' kept values part) where
  new_live : (header_of to).live ≡ true
  new_live = ap (λ (x : Header). x.live) a.new

  mine_at : Holds w g v c p
  mine_at = let q : Holds w g v c (slot_of (Down Begun p b e)) = subst (λ x. Holds w g v c (slot_of x)) a.op (h.slots c a.inside (ap is_op a.op)) in q

  op_sound : OpSound g (classes w) (w (Redo c)) (w (RedoMore c)) (w (Era c c)) (word_at (words_of g.wide w) p) p (redos.Down (spot_address g p) b) e b
  op_sound = let q : OpTie g (classes w) (w (Redo c)) (w (RedoMore c)) (w (Era c c)) (words_of g.wide w) (Down Begun p b e) = subst (OpTie g (classes w) (w (Redo c)) (w (RedoMore c)) (w (Era c c)) (words_of g.wide w)) a.op (h.op c a.inside) in q

  -- the slot names the block
  holds : targets g w v p ≡ b
  holds = slot_names g w v h c p a.inside mine_at ∙ (ap (λ z. cover (cover_of z) p (word_at (words_of g.wide w) p)) a.op ∙ op_sound.word)

  live : (headers w b).live ≡ true
  live = subst (λ i. (headers w i).live ≡ true) holds (h.count.targets p (λ z. a.some (sym holds ∙ z)))

  counted : (headers w b).count ≢ 0
  counted z = let q = a.lower in omega arith

  path : targets g (upd w (Head b) to) (lower_view v c b e n p looks' kept values part) ≡ upd (targets g w v) p 0
  path = slot_committed g w v h c p a.inside mine_at b to 0 (Down Committed p b e) (ap cover_of a.op) refl (refs_stay g w v h b to live counted new_live)

  held_over : held_overs (lower_view v c b e n p looks' kept values part) ≡ held_overs v
  held_over = fun_ext (λ d. at1_all (λ (i : ℕ) (x : Op). held_over_of x ≡ held_over_of (v.op i)) v.op c (Down Committed p b e) d (sym (ap held_over_of a.op)) (λ _. refl))

  pub lower_kept : HeldAt g (upd w (Head b) to) (lower_view v c b e n p looks' kept values part)
  lower_kept = exchanged_kept g w v c b to changes t' h (record {
    inside = a.inside;
    acts = a.acts;
    here = a.here;
    small = a.small;
    live = live;
    counted = counted;
    new_live = new_live;
    client = new_client;
    era = ap (λ (x : Header). x.era) a.new ∙ op_sound.current;
    shows = a.shows;
    path = path;
    begun = ap on_of a.op;
    committed = refl;
    room = sym (ap room_of a.op);
    tie = op_sound;
    allowed = not_home;
    dying = dying_lowered g w v h b to live counted new_live c n new_client new_count;
    count = subst (λ (l : ℕ → ℕ). CountSound g (classes w) (headers (upd w (Head b) to)) t' l) (sym held_over)
        (count_exchange g (classes w) (λ i. w (Head i)) t (held_overs v) p b to 0 op_sound.at (slot_not_spare g w v h c p a.inside mine_at) (held_live_not_zero g w v h) new_live balance others (λ z. absurd (z refl)) h.count);
    slot = a.slot;
    looked = a.looked;
    knows = a.knows;
    valued = a.valued;
    parted = a.parted;
    loose = a.loose;
    made = made_own g w v h c b to 0 p (not_block b) a.inside (λ x f. (differs b x f, λ _ z. differs b x f (sym holds ∙ z)));
    named = λ d i n. slot_named g w v h c p a.inside mine_at 0 d n i;
    looks = λ d. slot_looks g w v h c p a.inside mine_at 0 d not_home;
    parts = λ d n l. part_other g w v h c d 0 p (headers (upd w (Head b) to)) n l mine_at (λ i _. lives g w v h b to live counted new_live i);
    others_made = λ d n l. made_kept g w v h d b to 0 p l (λ x k one f. let z = slot_no_root g w v h c d k p n mine_at in (one_name g w v h b p holds live d k x z one f, z));
    unsent = λ d n. unsent d n p;
    untaken = λ d n. untaken d n p;
    lanes = lane p mine_at holds;
    self_lanes = λ d k. none (Slot d d k);
    no_queue = λ d l r y. let q = h.no_queue d l r y in (none_unsent p d r q.0, none_untaken p mine_at op_sound.at d r y q.1);
    tails = tails_stay g w v c (Down Committed p b e) (unsent_back c p v.unsent) h (sym (ap up_slot a.op)) (less p);
    queued = λ _ s r k n. inl (was (Slot s r k) n);
  })
    where
      changes : Changes v c
      changes =
          record {
            op = Down Committed p b e;
            dying = moved v.dying c (dying_after n b (v.dying c));
            looks = moved v.looks c looks';
            known = moved v.known c kept;
            part = moved v.part c part;
            values = moved v.values c values;
            made = moved v.made c (filter (not_block b) (v.made c));
            unsent = unsent_back c p v.unsent;
            untaken = untaken_after c p b v.untaken;
          }

      t : Spot → ℕ
      t = targets g w v

      t' : Spot → ℕ
      t' = upd t p 0

      not_home : is_home p ≡ false
      not_home = let q : Allowed c (Down Begun p b e) = subst (Allowed c) a.op (h.allowed c a.inside) in q

      new_count : (header_of to).count ≡ n
      new_count = ap (λ (x : Header). x.count) a.new

      new_client : (header_of to).client ≡ c
      new_client = ap (λ (x : Header). x.client) a.new

      balance : (header_of to).count + one_if (eqb (t p) b) ≡ indegree g (classes w) t (held_overs v) b + one_if (eqb 0 b)
      balance =
          let x : one_if (eqb (t p) b) ≡ 1 = ap one_if (eq-eqb _ b holds) in
          let y : one_if (eqb 0 b) ≡ 0 = ap one_if (ne_eqb 0 b (λ z. a.some (sym z))) in
          let u = h.count.counts b live in let l = a.lower in let q = new_count in
          omega arith

      others : (i : ℕ) → i ≢ 0 → b ≢ i → one_if (eqb (t p) i) ≡ one_if (eqb 0 i)
      others i nz n = ap one_if (ne_eqb _ i (λ z. n (sym holds ∙ z)) ∙ sym (ne_eqb 0 i (λ z. nz (sym z))))

      and_false : (x : Bool) → (x && false) ≡ false
      and_false true = refl
      and_false false = refl

      unsent : (d : ℕ) → c ≢ d → (q : Spot) (r : ℕ) → unsent_back c q v.unsent d r ≡ v.unsent d r
      unsent d m (Slot i j k) r = elim (cases_eq i c) [
        | inl x ↦ (let z : eqb i d ≡ false = ne_eqb i d (λ y. m (sym x ∙ y)) in rw (z, and_false (eqb i c)) refl)
        | inr x ↦ (let z : eqb i c ≡ false = ne_eqb i c x in rw z refl)
      ]
      unsent d m _ r = refl

      untaken : (d : ℕ) → c ≢ d → (q : Spot) (s : ℕ) → untaken_after c q b v.untaken d s ≡ v.untaken d s
      untaken d m (Slot i j k) s = elim (cases_eq j c) [
        | inl x ↦ (let z : eqb j d ≡ false = ne_eqb j d (λ y. m (sym x ∙ y)) in rw (z, and_false (eqb i s), and_false (eqb j c)) refl)
        | inr x ↦ (let z : eqb j c ≡ false = ne_eqb j c x in rw z refl)
      ]
      untaken d m _ s = refl

      none_unsent : (q : Spot) (d r : ℕ) → v.unsent d r ≡ 0 → unsent_back c q v.unsent d r ≡ 0
      none_unsent (Slot i j k) d r z = both (eqb i c && (eqb i d && eqb j r))
        where
          both : (y : Bool) → cond y 0 (v.unsent d r) ≡ 0
          both true = refl
          both false = z
      none_unsent _ d r z = z

      -- the slot is one of a queue that the pool has, from another identity
      none_untaken : (q : Spot) → Holds w g v c q → IsAt g (classes w) q → (d s : ℕ) → (s ≡ d) ⊎ (g.clients ≤ s) → v.untaken d s ≡ 0 → untaken_after c q b v.untaken d s ≡ 0
      none_untaken (Slot i j k) x at d s y z = elim (cases_Bool (eqb i s && eqb j d)) [
        | inl f ↦ absurd (lane_from g.clients i j s d x.0 (lane_clients g (classes w) i j k h.fits at).0 y f)
        | inr f ↦ rw (f, and_false (eqb j c)) z
      ]
      none_untaken (Root _ _) x at d s y z = z
      none_untaken (Home _) x at d s y z = z
      none_untaken (Body _ _) x at d s y z = z
      none_untaken _ x at d s y z = absurd x

      lane : (q : Spot) → Holds w g v c q → t q ≡ b → (i j : ℕ) → i ≢ j → LaneSound (λ k. t (Slot i j k)) (tails w i j) (queue_heads w i j) (v.sent i j) (v.unsent i j) (v.received j i) (v.untaken j i) → LaneSound (λ k. upd t q 0 (Slot i j k)) (tails w i j) (queue_heads w i j) (v.sent i j) (unsent_back c q v.unsent i j) (v.received j i) (untaken_after c q b v.untaken j i)
      lane (Root _ _) x z i j n l = l
      lane (Home _) x z i j n l = l
      lane (Body _ _) x z i j n l = l
      lane (Slot s r k) x z i j n l = elim (cases_Bool (eqb s i && eqb r j)) [
        | inr f ↦ rw (f, and_false (eqb s c), and_false (eqb r c)) (lane_same (λ m. t (Slot i j m)) (λ m. upd t (Slot s r k) 0 (Slot i j m)) (tails w i j) (queue_heads w i j) (v.sent i j) (v.unsent i j) (v.received j i) (v.untaken j i) (λ m. let q = other_lane s r k i j m f in rw q refl) l)
        | inl f ↦ elim x.1 [
          | inl u ↦ (let p1 : eqb s c ≡ true = eq-eqb s c u.0 in let p2 : eqb r c ≡ false = ne_eqb r c (λ y. x.0 (u.0 ∙ sym y)) in
              rw (f, p1, p2) (lane_up (λ m. t (Slot i j m)) (λ m. upd t (Slot s r k) 0 (Slot i j m)) (tails w i j) (queue_heads w i j) (v.sent i j) (v.unsent i j) 0 (v.received j i) (v.untaken j i) (moved (λ a e. (k ≡ tails w a e % 8) × (tails w a e < queue_heads w a e + 8)) i j f (u.1, u.2)).1
              (λ m ne. other i j f m (λ y. ne (sym y ∙ (moved (λ a e. k ≡ tails w a e % 8) i j f u.1)))) (here i j f (tails w i j % 8) (moved (λ a e. k ≡ tails w a e % 8) i j f u.1)) l))
          | inr u ↦ (let p1 : eqb s c ≡ false = ne_eqb s c (λ y. x.0 (y ∙ sym u.0)) in let p2 : eqb r c ≡ true = eq-eqb r c u.0 in
              let at = moved (λ a e. (k ≡ queue_heads w a e % 8) × (queue_heads w a e < tails w a e)) i j f (u.1, u.2) in
              let same : t (Slot i j (queue_heads w i j % 8)) ≡ b = ap (λ m. t (Slot i j m)) (sym at.0) ∙ moved (λ a e. t (Slot a e k) ≡ b) i j f z in
              let none : v.untaken j i ≡ 0 = zero_of (v.untaken j i) (λ y. a.some (sym same ∙ (l.taken y).2)) in
              rw (f, p1, p2) (lane_taken (λ m. t (Slot i j m)) (λ m. upd t (Slot s r k) 0 (Slot i j m)) (tails w i j) (queue_heads w i j) (v.sent i j) (v.unsent i j) b (v.received j i) at.1 a.some same
              (λ m ne. other i j f m (λ y. ne (sym y ∙ at.0))) (here i j f (queue_heads w i j % 8) at.0) (subst (λ y. LaneSound (λ k. t (Slot i j k)) (tails w i j) (queue_heads w i j) (v.sent i j) (v.unsent i j) (v.received j i) y) none l)))
        ]
      ]
        where
          moved : (Q : ℕ → ℕ → Type 0) (i j : ℕ) → (eqb s i && eqb r j) ≡ true → Q s r → Q i j
          moved Q i j f y = let q = and_parts (eqb s i) (eqb r j) f in subst (λ a. Q a j) (eqb-true s i q.0) (subst (λ e. Q s e) (eqb-true r j q.1) y)

          other : (i j : ℕ) → (eqb s i && eqb r j) ≡ true → (m : ℕ) → k ≢ m → upd t (Slot s r k) 0 (Slot i j m) ≡ t (Slot i j m)
          other i j f m ne = let q : same_spot (Slot s r k) (Slot i j m) ≡ false = this_lane s r k i j m f ∙ ne_eqb k m ne in rw q refl

          here : (i j : ℕ) → (eqb s i && eqb r j) ≡ true → (m : ℕ) → k ≡ m → upd t (Slot s r k) 0 (Slot i j m) ≡ 0
          here i j f m e = let q : same_spot (Slot s r k) (Slot i j m) ≡ true = this_lane s r k i j m f ∙ eq-eqb k m e in rw q refl

          zero_of : (y : ℕ) → (y ≢ 0 → ⊥) → y ≡ 0
          zero_of y f = elim (cases_eq y 0) [ inl e ↦ e | inr e ↦ absurd (f e) ]
      lane _ x z i j n l = absurd x

      none : (q : Spot) → t q ≡ 0 → t' q ≡ 0
      none q e = both (same_spot p q)
        where
          both : (y : Bool) → cond y 0 (t q) ≡ 0
          both true = refl
          both false = e

      was : (q : Spot) → t' q ≢ 0 → t' q ≡ t q
      was q n = both (same_spot p q) n
        where
          both : (y : Bool) → cond y 0 (t q) ≢ 0 → cond y 0 (t q) ≡ t q
          both true n = absurd (n refl)
          both false n = refl

      less : (q : Spot) (s r : ℕ) → unsent_back c q v.unsent s r ≢ 0 → v.unsent s r ≢ 0
      less (Slot i j k) s r n = both (eqb i c && (eqb i s && eqb j r)) n
        where
          both : (y : Bool) → cond y 0 (v.unsent s r) ≢ 0 → v.unsent s r ≢ 0
          both true n = absurd (n refl)
          both false n = n
      less _ s r n = n

  -- and it is one event: the slot no longer names the block
  pub lower_event : Happens g w (DownEvent c p b) (graph_of g w v) (graph_of g (upd w (Head b) to) (lower_view v c b e n p looks' kept values part))
  lower_event = (a.some, holds, graph_stays g w v h b to live counted new_live (lower_view v c b e n p looks' kept values part) p 0 path held_over)
