-- the exchange of a change's second half keeps the invariant, and is one event
use mathlib.Core.Path.{fun_ext}
use Rattle.std.proofs.Common.{◌≡◌, ◌≢◌, ℕ, ◌+◌, refl, sym, ap, ◌∙◌, arith, true, eqb, eq-eqb, subst, inl, inr, List}
use Rattle.std.proofs.lemmas.Bool.{cases_eq, ne_eqb}
use Rattle.std.specs.List.{filter}
use Rattle.shm_words.specs.{declared.{header.Header.Header, geometry.Geometry.Geometry}, Headers.header_of}
use Rattle.shm_words.specs.declared.redo.Redo.TheVariants as redos
use Rattle.shm_graph.specs.{References.{one_if, words_of}, declared.spot.Spot.Spot}
use Rattle.shm_graph.specs.declared.{spot.Spot.TheVariants.{Spare, Redo, RedoMore, Era, Root, Head}, memo.Op.Op}
use Rattle.shm_graph.specs.declared.memo.{Op.TheVariants.Change, Second.TheVariants.{Open, Closed}}
use Rattle.shm_graph.specs.declared.memo.{ChangeStage.TheVariants.Lowering, Stored.Stored, Look.Look}
use Rattle.shm_graph.specs.Ops.{Cover, word_at, target, cover_of, up_slot, indegree, held_over_of, on_of}
use Rattle.shm_graph.specs.{Spots.{upd, spot_address}, Blocks.{headers, classes}, Views.{View, targets, held_overs}}
use Rattle.shm_graph.specs.Events.{ChangeDown, graph_of, Happens}
use Rattle.shm_graph.specs.{Held.{HeldAt, odd, OpTie, OpSound, Allowed, room_of}, MemoAfterStore.not_block}
use Rattle.shm_graph.proofs.{Memos.Frames.at1_all, Runs.Lists.{at1_here, at1_other, at1_part}}
use Rattle.kind_laws.specs.HeaderExchanges.{SecondNeeds, second_view, dying_after}
use Rattle.kind_laws.proofs.{Sum.{refs_target, held_over_step}, Keep.block_not_zero}
use Rattle.kind_laws.proofs.Headers.{dying_lowered, live_stays, lives, refs_stay, shape_stays}
use Rattle.kind_laws.proofs.References.{differs, live_some, part_lives, name_and_held_over, made_kept, made_own}
use Rattle.kind_laws.proofs.{LiveExchange.{Changes, exchanged_kept, tails_stay, moved, unmoved}, Readings.head_words}

module _ (g : Geometry) (w : Spot → ℕ) (v : View) (c b y e n to : ℕ) (p : Spot) (looks' : List Look) (kept : List Stored) (values : List ℕ) (h : HeldAt g w v) (a : SecondNeeds g w v c b y e n to p looks' kept values) where
  abbrev w' : Spot → ℕ
  w' = upd w (Head b) to

  abbrev v' : View
  v' = second_view v c b y e n p looks' kept values

  abbrev o : Op
  o = Change (Lowering Closed) p b y e

  abbrev t : Spot → ℕ
  t = targets g w v

  new_live : (header_of to).live ≡ true
  new_live = ap (λ (x : Header). x.live) a.new

  abbrev was : Op
  was = Change (Lowering Open) p b y e

  op_sound : OpSound g (classes w) (w (Redo c)) (w (RedoMore c)) (w (Era c c)) (word_at (words_of g.wide w) p) p (redos.Change (odd (e + 1)) (spot_address g p) b y) e y
  op_sound = let q : OpTie g (classes w) (w (Redo c)) (w (RedoMore c)) (w (Era c c)) (words_of g.wide w) was = subst (OpTie g (classes w) (w (Redo c)) (w (RedoMore c)) (w (Era c c)) (words_of g.wide w)) a.op (h.op c a.inside) in q

  -- the redo word names the block
  some : b ≢ 0
  some = block_not_zero g (classes w) b op_sound.blocks.0

  held_over_was : held_overs v c ≡ b
  held_over_was = ap held_over_of a.op

  live : (header_of (head_words w b)).live ≡ true
  live = subst (λ i. (header_of (head_words w i)).live ≡ true) held_over_was (h.count.held_overs c a.inside (λ z. some (sym held_over_was ∙ z)))

  counted : (header_of (head_words w b)).count ≢ 0
  counted z = let q = a.lower in omega arith

  abbrev cov : ℕ → Cover
  cov = λ d. cover_of (v.op d)

  abbrev cov' : ℕ → Cover
  cov' = λ d. cover_of (v'.op d)

  covers : cov' ≡ cov
  covers = fun_ext (λ d. at1_all (λ (j : ℕ) (k : Op). cover_of k ≡ cover_of (v.op j)) v.op c o d (sym (ap cover_of a.op)) (λ _. refl))

  path : targets g w' v' ≡ t
  path = ap (target g.clients (words_of g.wide w')) covers ∙ refs_target g.clients (words_of g.wide w) (words_of g.wide w').refs (λ d. cover_of (v.op d)) (λ d. inl (refs_stay g w v h b to live counted new_live d))

  -- the invariant stays
  pub second_kept : HeldAt g (upd w (Head b) to) (second_view v c b y e n p looks' kept values)
  second_kept = exchanged_kept g w v c b to changes t h (record {
    inside = a.inside;
    acts = a.acts;
    here = a.here;
    small = a.small;
    live = live;
    counted = counted;
    new_live = new_live;
    client = new_client;
    era = ap (λ (x : Header). x.era) a.new ∙ op_sound.current;
    shows = a.shows;
    path = path;
    begun = ap on_of a.op;
    committed = refl;
    room = sym (ap room_of a.op);
    tie = op_sound;
    allowed = allowed_now;
    dying = dying_lowered g w v h b to live counted new_live c n new_client new_count;
    count = record {
      counts = λ i. at1_all (λ (j x : ℕ). (header_of x).live ≡ true → (header_of x).count ≡ indegree g (classes w) t (held_overs v') j) (head_words w) b to i
          (λ _. let s = step b in let z = one_here in let u = zero_now b some in let q = h.count.counts b live in let l = a.lower in let m = new_count in omega arith)
          (λ m l. let s = step i in let z = one_other i m in let u = zero_now i (live_some g w v h i l) in let q = h.count.counts i l in omega arith);
      targets = λ q m. stay (t q) (h.count.targets q m);
      held_overs = λ d l m. elim (cases_eq c d) [
        | inl x ↦ absurd (m (ap (held_overs v') (sym x) ∙ held_over_now))
        | inr n ↦ (let q = held_over_other d (λ z. n (sym z)) in subst (λ i. (headers w' i).live ≡ true) (sym q) (stay (held_overs v d) (h.count.held_overs d l (λ z. m (q ∙ z)))))
      ];
    };
    slot = a.slot;
    looked = a.looked;
    knows = a.knows;
    valued = a.valued;
    parted = h.part c a.inside;
    loose = refl;
    made = made_own g w v h c b to 0 Spare (not_block b) a.inside (λ x f. (differs b x f, λ n z. n (sym z)));
    named = λ _ _ _ x. x;
    looks = λ d _. h.looks d;
    parts = λ d _ l. part_lives g w v h d (headers w') t l (λ i _. stay i) (λ _ _ _ _. refl) refl;
    others_made = λ d _ l. made_kept g w v h d b to 0 Spare l (λ x k one f. (only d k x one f, refl));
    unsent = λ _ _ _. refl;
    untaken = λ _ _ _. refl;
    lanes = λ _ _ _ l. l;
    self_lanes = λ _ _ z. z;
    no_queue = h.no_queue;
    tails = tails_stay g w v c o v.unsent h (sym (ap up_slot a.op)) (λ _ _ nz. nz);
    queued = λ _ _ _ _ _. inl refl;
  })
    where
      changes : Changes v c
      changes =
          record {
            op = o;
            dying = moved v.dying c (dying_after n b (v.dying c));
            looks = moved v.looks c looks';
            known = moved v.known c kept;
            part = unmoved v.part c;
            values = moved v.values c values;
            made = moved v.made c (filter (not_block b) (v.made c));
            unsent = v.unsent;
            untaken = v.untaken;
          }

      allowed_now : Allowed c o
      allowed_now = let q : Allowed c was = subst (Allowed c) a.op (h.allowed c a.inside) in q

      held_over_now : held_overs v' c ≡ 0
      held_over_now = ap held_over_of (at1_here v.op c o)

      held_over_other : (d : ℕ) → d ≢ c → held_overs v' d ≡ held_overs v d
      held_over_other d n = ap held_over_of (at1_other v.op c o d (λ z. n (sym z)))

      step : (i : ℕ) → indegree g (classes w) t (held_overs v') i + one_if (eqb (held_overs v c) i) ≡ indegree g (classes w) t (held_overs v) i + one_if (eqb (held_overs v' c) i)
      step i = held_over_step g (classes w) t (held_overs v) (held_overs v') c i a.inside held_over_other

      one_here : one_if (eqb (held_overs v c) b) ≡ 1
      one_here = ap one_if (eq-eqb _ b held_over_was)

      one_other : (i : ℕ) → b ≢ i → one_if (eqb (held_overs v c) i) ≡ 0
      one_other i m = ap one_if (ne_eqb _ i (λ z. m (sym held_over_was ∙ z)))

      zero_now : (i : ℕ) → i ≢ 0 → one_if (eqb (held_overs v' c) i) ≡ 0
      zero_now i m = ap one_if (ne_eqb _ i (λ z. m (sym z ∙ held_over_now)))

      stay : (i : ℕ) → (headers w i).live ≡ true → (headers w' i).live ≡ true
      stay = lives g w v h b to live counted new_live

      new_count : (header_of to).count ≡ n
      new_count = ap (λ (x : Header). x.count) a.new

      new_client : (header_of to).client ≡ c
      new_client = ap (λ (x : Header). x.client) a.new

      -- a block with one reference, from a root, is another block
      only : (d k x : ℕ) → (header_of (head_words w x)).count ≡ 1 → t (Root d k) ≡ x → b ≢ x
      only d k x one f z =
          let u = name_and_held_over g w v h b (Root d k) c a.inside (f ∙ sym z) held_over_was live in
          let y : (header_of (head_words w b)).count ≡ 1 = ap (λ i. (header_of (head_words w i)).count) z ∙ one in
          absurd (omega arith)

  -- the reference that was held over is gone
  pub second_event : Happens g w (ChangeDown c b) (graph_of g w v) (graph_of g (upd w (Head b) to) (second_view v c b y e n p looks' kept values))
  second_event = (
    some,
    held_over_was,
    record {
      lives = live_stays g w v h b to live counted new_live;
      shapes = shape_stays g w v h b to live counted new_live;
      targets = λ q. ap (λ (f : Spot → ℕ). f q) path;
      held_overs = at1_part held_over_of v.op c o;
    },
  )
