-- the exchange by which a free block that is prepared becomes live, as machines use it
use Rattle.std.proofs.Common.{◌≡◌, ◌≢◌, ℕ, ◌+◌, ◌<◌, refl, sym, ap, ◌∙◌, subst, arith, true, false, eqb, ◌&&◌, List, [], ◌∷◌, ◌++◌, None, inl, inr, Bool}
use Rattle.std.proofs.lemmas.Bool.{cases_Bool, and_parts, cond-true, cond-false, eqb-true}
use Rattle.std.proofs.lemmas.List.Elements.{All-head, All-tail}
use Rattle.std.specs.List.{All, filter}
use Rattle.shm_words.specs.{declared.{geometry.Geometry.Geometry, header.Header.Header}, Headers.header_of}
use Rattle.shm_words.specs.Tags.{tag_refs, tag_plain}
use Rattle.shm_words.proofs.Words.{live_not_zero, plain_of_zero}
use Rattle.shm_graph.specs.declared.{ask.{Ask.TheVariants.Exchange, Me.Me}, memo.{First.TheVariants.Committed, Op.Op}}
use Rattle.shm_graph.specs.declared.memo.{Op.TheVariants.Alloc, Making.Making, Stored.Stored, Memo.Memo}
use Rattle.shm_graph.specs.declared.spot.Spot.{Spot, TheVariants.{Root, Segment, Head, Tag, Body}}
use Rattle.shm_graph.specs.{Spots.{spot_at, upd, segment_of}, Blocks.{classes, headers}}
use Rattle.shm_graph.specs.{Views.{View, view, at1, targets}, Held.{HeldAt, InBlock, MadeAt}, Asks.Trail}
use Rattle.shm_graph.specs.{Reach.{is_at, known_at}, MemoAfterRead.valued, MemoAfterStore.other_than, Chains.or_zero}
use Rattle.shm_graph.specs.{MemoAfterExchange.{words_made, values_with, committed}, Changes.called}
use Rattle.shm_graph.specs.{Events.{Event, graph_of, Happens}, Laws.{Frame, framed, Stands, KeptAt, event_of}}
use Rattle.shm_graph.proofs.Memos.{BodyTold.told_exchange, Frames.at1_same}
use Rattle.shm_graph.proofs.Memos.KnownChange.{ValueHolds, known_held, valued_all}
use Rattle.shm_graph.proofs.{Memos.MemoParts.{parts, put_parts, put_same}, States.Holders.{InReach, held_live_not_zero}}
use Rattle.shm_graph.proofs.{StepKinds.{KindKeeping.{in_frame, kept_exchange}, Loads.choice}, Runs.Lists.at1_here}
use Rattle.shm_graph.proofs.Spots.{Spotting.same_spot_is, Updating.upd_here}
use Rattle.kind_laws.specs.HeaderExchanges.{AllocNeeds, alloc_view}
use Rattle.kind_laws.proofs.AllocBlock.{alloc_kept, alloc_event}
use Rattle.kind_parts.specs.Preparing.{MayAlloc}
use Rattle.kind_parts.proofs.Prepared.{MakingHolds, making_holds}

-- ---- the tag among the words of a block that is prepared

-- what is told of it, where it isn't 0, is the word
pub tag_told : (wide : Bool) (tag : ℕ → ℕ) (body : ℕ → ℕ → ℕ) (d b k : ℕ) (ws : List Stored) → All (λ (s : Stored). InBlock tag body d k s.spot s.value) ws → or_zero (known_at (Tag b) ws) ≢ 0 → or_zero (known_at (Tag b) ws) ≡ tag b
tag_told wide tag body d b k [] all some = absurd (some refl)
tag_told wide tag body d b k (s ∷ ss) all some =
    elim (cases_Bool (is_at (Tag b) s)) [
      | inl e ↦ (let y : InBlock tag body d k (Tag b) s.value = subst (λ p. InBlock tag body d k p s.value) (sym (same_spot_is (Tag b) s.spot e)) (All-head (λ (s : Stored). InBlock tag body d k s.spot s.value) s ss all) in
          ap or_zero (cond-true _ _ _ e) ∙ sym y.1)
      | inr n ↦ (let x : or_zero (known_at (Tag b) (s ∷ ss)) ≡ or_zero (known_at (Tag b) ss) = ap or_zero (cond-false _ _ _ n) in
          x ∙ tag_told wide tag body d b k ss (All-tail (λ (s : Stored). InBlock tag body d k s.spot s.value) s ss all) (λ z. some (x ∙ z)))
    ]

-- ---- the state after

-- the view with the value blocks that the memo has then
abbrev allocated_view : Bool → View → ℕ → Memo → ℕ → ℕ → ℕ → List Stored → View
allocated_view wide v c m i b e ws =
    record v {
      op = at1 v.op c (Alloc Committed (Root c i) b e);
      making = at1 v.making c None;
      known = at1 v.known c (ws ++ v.known c);
      values = at1 v.values c (values_with wide m b (or_zero (known_at (Tag b) ws)));
      zeros = at1 v.zeros c (filter (other_than (Head b)) (v.zeros c));
      made = at1 v.made c (b ∷ v.made c);
      test = at1 v.test c None;
    }

module _ (g : Geometry) (w : Spot → ℕ) (r : ℕ → Memo) (c i b e to tag : ℕ) (k : Making) (h : HeldAt g w (view r)) (l : c < g.clients) (a : MayAlloc g.wide c (r c) i b e to tag k) where
  -- the condition on the memo is that of the law
  pub alloc_step : AllocNeeds g w (view r) c i b e to tag k
  alloc_step = record {
    inside = l;
    acts = a.live;
    op = a.op;
    making = a.making;
    block = a.of;
    small = a.small;
    new = a.new;
    tagged = a.tagged;
    small_tag = a.small_tag;
    refs = a.refs;
    plain = a.plain;
    author = a.author;
    link = a.link;
    fits = a.fits;
    zeros = a.zeros;
  }

  -- the words and the view after, without the value block
  abbrev w' : Spot → ℕ
  w' = upd w (Head b) to

  abbrev v' : View
  v' = alloc_view (view r) c i b e k

  -- it holds of the view without the value block
  h' : HeldAt g w' v'
  h' = alloc_kept g w (view r) c i b e to tag k h alloc_step

  -- the block is live
  live : (headers w' b).live ≡ true
  live = ap (λ x. (header_of x).live) (upd_here w (Head b) to) ∙ ap (λ (x : Header). x.live) a.new

  -- the root has the block
  reached : InReach w' g v' c b
  reached =
      let m : MadeAt (headers w') (λ j. targets g w' v' (Root c j)) b =
      All-head (MadeAt (headers w') (λ j. targets g w' v' (Root c j))) b (r c).made (subst (All (MadeAt (headers w') (λ j. targets g w' v' (Root c j)))) (at1_here (view r).made c (b ∷ (r c).made)) (h'.made c l)) in
      inl (held_live_not_zero g w' v' h' b live, inl m.1)

  -- where the tag says so the block is a value block
  new_value : (eqb (tag_refs g.wide (or_zero (known_at (Tag b) k.words))) 0 && eqb (tag_plain g.wide (or_zero (known_at (Tag b) k.words))) 1) ≡ true → ValueHolds g w' v' c b
  new_value q =
      let t : ℕ = or_zero (known_at (Tag b) k.words) in
      let y = and_parts _ _ q in
      let m : MakingHolds w g c k = making_holds g w r c k h l a.making in
      let refs : tag_refs g.wide t ≡ 0 = eqb-true _ _ y.0 in
      let plain : tag_plain g.wide t ≡ 1 = eqb-true _ _ y.1 in
      let z : t ≡ w (Tag b) = tag_told g.wide (λ d. w (Tag d)) (λ d j. w (Body d j)) k.block b k.class k.words m.stored (λ z. let u : tag_plain g.wide 0 ≡ 1 = sym (ap (tag_plain g.wide) z) ∙ plain in let y : 0 ≡ 1 = sym (plain_of_zero g.wide) ∙ u in absurd (omega arith)) in
      (record { live = live; names = ap (tag_refs g.wide) (sym z) ∙ refs; words = ap (tag_plain g.wide) (sym z) ∙ plain }, reached)

  -- it holds with the value block
  pub allocated_held : HeldAt g w' (allocated_view g.wide (view r) c (r c) i b e k.words)
  allocated_held =
      let vs : List ℕ = values_with g.wide (r c) b (or_zero (known_at (Tag b) k.words)) in
      subst (HeldAt g w') (ap (λ (z : ℕ → List Stored). record (allocated_view g.wide (view r) c (r c) i b e k.words) { known = z }) (at1_same v'.known c (v'.known c) refl))
      (known_held g w' v' c (v'.known c) vs h' (h'.known c l)
      (choice (All (ValueHolds g w' v' c)) (eqb (tag_refs g.wide (or_zero (known_at (Tag b) k.words))) 0 && eqb (tag_plain g.wide (or_zero (known_at (Tag b) k.words))) 1) (valued (r c).part b (r c).values) (r c).values
      (λ q. valued_all (ValueHolds g w' v' c) (r c).part b (r c).values (λ z. new_value q) (h'.values c l))
      (λ q. h'.values c l)))

-- ---- in the shape of a kind

-- a block that was prepared becomes live
pub allocates : (me : Me) (w : Spot → ℕ) (r : ℕ → Memo) (f : Frame) (tr : Trail) (at i b e to tag : ℕ) (k : Making) → Stands me w r f tr → f.fresh ≡ false → spot_at me.geometry (classes w) at ≡ Head b → MayAlloc me.geometry.wide me.who (r me.who) i b e to tag k
    → KeptAt me w r (Exchange at 0 to) f (λ n m. Unit {0}) (spot_at me.geometry (classes w) at)
allocates me w r f tr at i b e to tag k st going q a =
    let g = me.geometry in
    let c = me.who in
    let v : View = view r in
    let m : MakingHolds w g c k = making_holds g w r c k st.held st.who a.making in
    let free : w (Head b) ≡ 0 = ap (λ d. w (Head d)) (sym a.of) ∙ m.free in
    let mine : w (Segment (segment_of g b)) ≡ c + 1 = ap (λ d. w (Segment (segment_of g d))) (sym a.of) ∙ m.mine in
    let n : Memo = called (r c) (framed me (Exchange at 0 to) (record f { fresh = false }) (w (Head b))) in
    let with_words : List Stored → Memo = (λ ws. record n { op = Alloc Committed (Root c i) b e; making = None; known = ws ++ n.known; values = values_with me.geometry.wide (r c) b (or_zero (known_at (Tag b) ws)); zeros = filter (other_than (Head b)) n.zeros; made = b ∷ n.made }) in
    subst (KeptAt me w r (Exchange at 0 to) f (λ n m. Unit {0})) (sym q)
    (in_frame (λ h. KeptAt me w r (Exchange at 0 to) h (λ n m. Unit {0}) (Head b)) f going
    (kept_exchange me w r at 0 to (record f { fresh = false }) (λ n m. Unit {0}) (Head b) (allocated_view me.geometry.wide v c (r c) i b e k.words) free
    (told_exchange g (classes w) c (r c) at 0 to b q)
    (sym (ap (λ (u : View). record u { op = at1 v.op c (Alloc Committed (Root c i) b e); making = at1 v.making c None; known = at1 v.known c (k.words ++ v.known c); values = at1 v.values c (values_with me.geometry.wide (r c) b (or_zero (known_at (Tag b) k.words))); zeros = at1 v.zeros c (filter (other_than (Head b)) (v.zeros c)); made = at1 v.made c (b ∷ v.made c); test = at1 v.test c None }) (put_same v c))
    ∙ (ap (λ (ws : List Stored). put_parts v c (parts (with_words ws))) (sym (ap words_made a.making))
    ∙ ap (λ (o : Op). put_parts v c (parts (committed me.geometry.wide c n o to))) (sym a.op)))
    (allocated_held g w r c i b e to tag k st.held st.who a)
    (subst (λ (z : Event). Happens g w z (graph_of g w v) (graph_of g (upd w (Head b) to) (allocated_view me.geometry.wide v c (r c) i b e k.words))) (sym (ap (event_of c) a.op))
    (alloc_event g w v c i b e to tag k st.held (alloc_step g w r c i b e to tag k st.held st.who a)))
    (λ z. inl (inl (free, mine)))
    (λ z live. absurd (live_not_zero (w (Head b)) live free))
    tt tt))
