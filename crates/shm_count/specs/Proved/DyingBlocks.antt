-- zero-count blocks in a pool that holds: nothing names them, no partition is read from them, and what their tags and words tell
use Rattle.std.proofs.Common.{◌≡◌, ◌≢◌, ℕ, suc, ◌+◌, ◌<◌, ◌≤◌, refl, sym, ap, ◌∙◌, subst, arith, false, eqb, ltb, ◌&&◌, List, [], ◌∷◌, map, get_or, Some, inl, inr, Bool}
use Rattle.std.proofs.lemmas.Bool.{cases_eq, cases_lt, eq-eqb, ne_eqb, lt-ltb, cond-true, cond-false}
use Rattle.std.specs.List.{Contains}
use Rattle.shm_words.specs.declared.{geometry.Geometry.Geometry, tag.Tag.Tag as ATag}
use Rattle.shm_words.specs.Tags.{tag_word, tag_of, tag_refs, tag_plain, tag_author, tag_link, TagFits}
use Rattle.shm_words.specs.{Classes.{IsClass, class_for}, Layout.total_of}
use Rattle.shm_words.proofs.{Classing.{class_is, class_room}, Words.{tag_fits, tag_from_fields, tag_word-of}}
use Rattle.shm_graph.specs.declared.{spot.Spot.{Spot, TheVariants.{Home, Tag, Body}}, memo.{Memo.Memo, Op.Op}}
use Rattle.shm_graph.specs.declared.{memo.{Op.TheVariants.Nothing, Stored.Stored}, table.{Entry.Entry, Part.Part}}
use Rattle.shm_graph.specs.{declared.table.Part.TheVariants.{Loose, Table}, Spots.{class_at, same_spot, spot_at, upd}}
use Rattle.shm_graph.specs.{Blocks.{classes, headers, IsBlock, IsLive}, References.{words_of, refs_of}}
use Rattle.shm_graph.specs.{Ops.{cover, cover_of, covered, slot_of}, Views.{view, own_word, targets}}
use Rattle.shm_graph.specs.Held.{HeldAt, IsDying, PartTie, TagSound}
use Rattle.shm_graph.specs.{Tables.{Contents, contents_of, IsChain, IsPartition}, Chains.{chain_set, part_set}}
use Rattle.shm_graph.specs.Reach.{shown}
use Rattle.shm_graph.proofs.States.Counting.{cover_slot, covered_none}
use Rattle.shm_graph.proofs.States.Holders.{held_live_block, held_live_not_zero, reach_counted, step_holds, target_counted}
use Rattle.shm_graph.proofs.States.HomeTarget.{home_target}
use Rattle.shm_graph.proofs.Spots.Spotting.{block_within, body_spot, in_block, tag_spot, same_spot_not}
use Rattle.kind_laws.proofs.Parts.{PartKept, part_kept}
use Rattle.kind_parts.specs.Raising.{IsReparted}
use Rattle.shm_count.specs.Step.Control.{IsInside}

-- ---- chains without a block

-- a chain in which no reference names the block stays as it is
chain_same : (z : Contents) (known : List Stored) (c bucket at d i x : ℕ) (es : List Entry) → at ≢ d → ((b j : ℕ) → z.refs b j ≢ d) → IsChain z c bucket at es → chain_set known d i x es ≡ es
chain_same z known c bucket at d i x [] n all h = refl
chain_same z known c bucket at d i x (e ∷ es) n all h =
    cond-false _ _ _ (ne_eqb e.block d (λ y. n (h.0 ∙ y))) ∙ ap (λ q. e ∷ q) (chain_same z known c bucket (z.refs e.block 0) d i x es (all e.block 0) all h.2)

-- what changes no element changes no list
map_same : (wide : Bool) (f : List Entry → List Entry) (ess : List (List Entry)) → ((n : ℕ) → f (get_or ess n []) ≡ get_or ess n []) → map f ess ≡ ess
map_same wide f [] h = refl
map_same wide f (es ∷ ess) h = ap (λ q. q ∷ map f ess) (h 0) ∙ ap (λ q. es ∷ q) (map_same wide f ess (λ n. h (suc n)))

-- each chain of a partition in which no reference names the block stays as it is
chains_same : (z : Contents) (known : List Stored) (c home d i x : ℕ) (chains : ℕ → List Entry) → ((b j : ℕ) → z.refs b j ≢ d) → IsPartition z c home chains → (n : ℕ) → chain_set known d i x (chains n) ≡ chains n
chains_same z known c home d i x chains all part n =
    elim (cases_eq home 0) [
      | inl e ↦ none (part.none e n)
      | inr some ↦ elim (cases_lt n 16) [
        | inl l ↦ chain_same z known c n (z.refs home n) d i x (chains n) (all home n) all (part.chain some n l)
        | inr m ↦ none (part.beyond n m)
      ]
    ]
  where
    none : chains n ≡ [] → chain_set known d i x (chains n) ≡ chains n
    none e = subst (λ es. chain_set known d i x es ≡ es) (sym e) refl

-- a part in which no reference and no home names the block stays as it is, once a word of the block is changed
part_same : (wide : Bool) (z : Contents) (known : List Stored) (c home own d i x : ℕ) (part : Part) → ((b j : ℕ) → z.refs b j ≢ d) → own ≢ d → PartTie z c home part → part_set known c own (Body d i) x part ≡ part
part_same wide z known c home own d i x Loose all n tie = refl
part_same wide z known c home own d i x (Table ess) all n tie =
    ap Table (cond-false _ _ _ (ne_eqb d own (λ y. n (sym y))) ∙ map_same wide (chain_set known d i x) ess (chains_same z known c home d i x (λ b. get_or ess b []) all tie))

-- words of two blocks are at two spots
other_word : (d b i j : ℕ) → b ≢ d → same_spot (Body d i) (Body b j) ≡ false
other_word d b i j n = ap (λ z. z && eqb i j) (ne_eqb d b (λ e. n (sym e)))

-- ---- live blocks in the pool

module _ (g : Geometry) (w : Spot → ℕ) (r : ℕ → Memo) (h : HeldAt g w (view r)) where
  -- the class of a live block has room for its words
  live_class : (b : ℕ) → IsLive (headers w) b → IsClass (class_at g (classes w) b) × (2 + tag_refs g.wide (w (Tag b)) ≤ class_at g (classes w) b) × (2 ≤ class_at g (classes w) b)
  live_class b l =
      let t : TagSound g.wide g.clients (class_at g (classes w) b) (w (Tag b)) = h.blocks.tagged b l in
      let room = class_room (tag_refs g.wide (w (Tag b))) (tag_plain g.wide (w (Tag b))) t.refs t.plain in
      let same : class_for (tag_refs g.wide (w (Tag b))) (tag_plain g.wide (w (Tag b))) ≡ class_at g (classes w) b = t.fits in
      (subst IsClass same (class_is (tag_refs g.wide (w (Tag b))) (tag_plain g.wide (w (Tag b)))), omega arith, omega arith)

  -- a live block lies in the bodies, and its header, its tag and its reference words in the pool
  pub live_room : (b c : ℕ) → IsLive (headers w) b → IsInside (record { geometry = g; who = c }) b × (b + 2 + tag_refs g.wide (w (Tag b)) ≤ total_of g)
  live_room b c l =
      let k = live_class b l in
      let block : IsBlock g (classes w) b = held_live_block g w (view r) h b l in
      let within = block_within g (classes w) b block in
      let last = (in_block g (classes w) b (1 + tag_refs g.wide (w (Tag b))) block k.0 (let y = k.1 in omega arith)).1 in
      ((within.0, within.1), omega arith)

-- ---- a zero-count block

module _ (g : Geometry) (w : Spot → ℕ) (r : ℕ → Memo) (c d : ℕ) (h : HeldAt g w (view r)) (l : c < g.clients) (listed : Contains (r c).dying d) where
  -- it is live, its count is 0, and its identity wrote its header last
  pub dying_header : IsDying (headers w d) c
  dying_header = (h.dying c l).listed d listed

  -- it isn't the block 0
  pub dying_some : d ≢ 0
  dying_some = held_live_not_zero g w (view r) h d dying_header.0

  -- no word names it
  pub dying_unnamed : (p : Spot) → targets g w (view r) p ≢ d
  dying_unnamed p e = (target_counted g w (view r) h p d dying_some e).1 dying_header.1

  -- the own home doesn't hold it
  dying_not_home : own_word (r c).own (Home c) ≢ d
  dying_not_home e =
      let word : w (Home c) ≡ d = sym (h.mine c l (Home c) (eq-eqb c c refl)) ∙ e in
      dying_unnamed (Home c) (home_target g w (view r) c h (λ z. dying_some (sym word ∙ z)) ∙ word)

  -- the part of the memo stays once a word of it is changed
  dying_part_own : (known : List Stored) (i x : ℕ) → part_set known c (own_word (r c).own (Home c)) (Body d i) x (r c).part ≡ (r c).part
  dying_part_own known i x =
      part_same g.wide (contents_of g.wide w (targets g w (view r))) known c (targets g w (view r) (Home c)) (own_word (r c).own (Home c)) d i x (r c).part
      (λ b j. dying_unnamed (Body b j)) dying_not_home (h.part c l)

  -- and so it does by what the home shows while no step is in progress
  pub dying_part : (r c).op ≡ Nothing → (known : List Stored) (i x : ℕ) → part_set known c (shown (r c) (Home c)) (Body d i) x (r c).part ≡ (r c).part
  dying_part idle known i x =
      ap (λ (o : Op). part_set known c (cover (cover_of o) (Home c) (own_word (r c).own (Home c))) (Body d i) x (r c).part) idle ∙ dying_part_own known i x

  -- the other blocks stay as they are once a word of it is changed
  dying_kept : (i x : ℕ) → PartKept (contents_of g.wide w (targets g w (view r))) (contents_of g.wide w (upd (targets g w (view r)) (Body d i) x)) (λ b. b ≢ d) c
  dying_kept i x =
      record {
        format = refl;
        live = λ b n y. y;
        tag = λ b n y. refl;
        refs = λ b j n y a m. cond-false _ _ _ (other_word d b i j n);
        body = λ b j n y m. refl;
      }

  -- no partition is read from it: once a word of it is changed the memo's partition is still the one that the targets hold
  pub dying_reparted : (i x : ℕ) → IsReparted g w (view r) c (r c) (Body d i) x
  dying_reparted i x =
      let t : Spot → ℕ = targets g w (view r) in
      let y : Contents = contents_of g.wide w (upd t (Body d i) x) in
      record {
        tie = λ _.
            subst (PartTie y c (t (Home c))) (sym (dying_part_own (r c).known i x))
            (part_kept (contents_of g.wide w t) y (λ b. b ≢ d) c (dying_kept i x) (λ b j. dying_unnamed (Body b j)) (t (Home c)) (r c).part (dying_unnamed (Home c)) (h.part c l));
      }

  -- ---- its words

  -- no step covers a word of it while its identity has none in progress
  dying_uncovered : (r c).op ≡ Nothing → (i e : ℕ) → e < g.clients → (y : ℕ) → cover (cover_of (r e).op) (Body d i) y ≡ y
  dying_uncovered idle i e m y =
      elim (cases_eq c e) [
        | inl s ↦ ap (λ (o : Op). cover (cover_of o) (Body d i) y) (ap (λ j. (r j).op) (sym s) ∙ idle)
        | inr n ↦ cover_slot (r e).op (Body d i)
            (same_spot_not (slot_of (r e).op) (Body d i)
            (λ s. elim (step_holds g w (view r) h e (Body d i) m (λ z. cc) s).2 [
              | inl u ↦ n (sym dying_header.2 ∙ u.1)
              | inr u ↦ (reach_counted g w (view r) h e d m u.2).1 dying_header.1
            ])) y
      ]

  -- a reference word of it is its target
  pub dying_word : (r c).op ≡ Nothing → (i : ℕ) → i < tag_refs g.wide (w (Tag d)) → targets g w (view r) (Body d i) ≡ w (Body d i)
  dying_word idle i low =
      let e : (words_of g.wide w).refs d ≡ tag_refs g.wide (w (Tag d)) = ap (λ z. refs_of g.wide z (w (Tag d))) dying_header.0 in
      cond-true (ltb i ((words_of g.wide w).refs d)) (covered (λ e. cover_of (r e).op) g.clients (Body d i) (w (Body d i))) 0 (lt-ltb i ((words_of g.wide w).refs d) (subst (λ k. i < k) (sym e) low))
      ∙ covered_none g.clients (Body d i) (w (Body d i)) (λ e. cover_of (r e).op) (dying_uncovered idle i)

  -- the spot of its tag
  pub dying_tag_spot : spot_at g (classes w) (d + 1) ≡ Tag d
  dying_tag_spot = tag_spot g (classes w) d (held_live_block g w (view r) h d dying_header.0) (live_class g w r h d dying_header.0).0

  -- the spot of a reference word of it
  pub dying_spot : (i : ℕ) → i < tag_refs g.wide (w (Tag d)) → spot_at g (classes w) (d + 2 + i) ≡ Body d i
  dying_spot i low =
      let k = live_class g w r h d dying_header.0 in
      let room = k.1 in
      body_spot g (classes w) d i (held_live_block g w (view r) h d dying_header.0) k.0 (omega arith)

  -- a block that a reference word of it holds is a block of the pool, and no zero-count block
  pub dying_target : (r c).op ≡ Nothing → (i : ℕ) → i < tag_refs g.wide (w (Tag d)) → w (Body d i) ≢ 0
      → (Contains (r c).dying (w (Body d i)) → ⊥) × IsInside (record { geometry = g; who = c }) (w (Body d i)) × (w (Body d i) + 2 ≤ total_of g)
  dying_target idle i low some =
      let t : ℕ = w (Body d i) in
      let counted = target_counted g w (view r) h (Body d i) t some (dying_word idle i low) in
      let room = live_room g w r h t c counted.0 in
      (λ y. counted.1 ((h.dying c l).listed t y).1, room.0, (let q = room.1 in omega arith))

  -- its tag word is that of a tag whose reference words lie in the pool
  pub dying_tag : (t : ATag) × (w (Tag d) ≡ tag_word g.wide t) × TagFits g.wide t × (d + 2 + t.refs ≤ total_of g) × IsInside (record { geometry = g; who = c }) d
  dying_tag =
      let n : ℕ = w (Tag d) in
      let t : ATag = record { refs = tag_refs g.wide n; plain = tag_plain g.wide n; author = tag_author g.wide n; link = tag_link g.wide n } in
      let s : TagSound g.wide g.clients (class_at g (classes w) d) n = h.blocks.tagged d dying_header.0 in
      let is : tag_of g.wide n ≡ Some t = tag_from_fields g.wide n s.small s.refs s.plain in
      let room = live_room g w r h d c dying_header.0 in
      (t, sym (tag_word-of g.wide n t is), tag_fits g.wide n t is, room.1, room.0)
