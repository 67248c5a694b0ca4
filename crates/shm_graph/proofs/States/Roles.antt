-- what was read of a table is so: in a pool for tables each block of the looks is what its word tells
use Rattle.std.proofs.Common.{◌≡◌, ◌≢◌, ℕ, ◌<◌, sym, ap, ◌∙◌, subst, arith, false, cond, ltb, eqb, inl, inr, ◌⊎◌, List, [], ◌∷◌, Some}
use Rattle.std.proofs.lemmas.Bool.{cases_Bool, eqb-true, ltb-true, cond-false, true≢false}
use Rattle.std.proofs.lemmas.List.Elements.{All-cons, All-head, All-tail}
use Rattle.std.specs.{Prelude.slice_index_or, List.All}
use Rattle.shm_words.specs.{declared.geometry.Geometry.Geometry, Tags.{tag_author, tag_refs}}
use Rattle.shm_graph.specs.declared.{spot.Spot.{Spot, TheVariants.{Home, Latch, Tag, Body}}, memo.Look.Look}
use Rattle.shm_graph.specs.declared.table.{Entry.Entry, Part.{Part, TheVariants.{Loose, Table}}}
use Rattle.shm_graph.specs.{Blocks.{classes, headers, IsLive}, References.{words_of, refs_of}, Ops.{cover_of, covered}}
use Rattle.shm_graph.specs.Tables.{Contents, contents_of, HasShape, IsEntry, IsChain, IsPartition}
use Rattle.shm_graph.specs.{Views.{View, targets}, Held.{HeldAt, PartTie, LookAt, LooksSound, InLooks, is_loose}}
use Rattle.shm_graph.specs.Telling.{Role, Directory, Entry as AnEntry, Value, Other, role_read, Played, role_in, role_from, roles_from}
use Rattle.shm_graph.proofs.{Spots.SpotPlaces.at_is_in, States.Holders.held_live_not_zero, StepKinds.Loads.choice}

-- a block begins a chain of a's, or is an entry of one
abbrev pub ChainAt : Contents → ℕ → ℕ → Type 0
ChainAt x a b = (i : ℕ) × (es : List Entry) × IsChain x a i b es

-- a block in the role that it plays in a's partition, which begins at `home`
abbrev pub Plays : Contents → ℕ → ℕ → Role → ℕ → Type 0
Plays x a home Directory b = home ≡ b
Plays x a home AnEntry b = ChainAt x a b
Plays x a home Value b = HasShape x 0 1 b
Plays x a home Other b = Unit {0}

-- ---- chains

-- the entry at the beginning of a chain
pub chain_entry : (x : Contents) (a b : ℕ) → b ≢ 0 → ChainAt x a b → (i : ℕ) × (e : Entry) × (b ≡ e.block) × IsEntry x a i e × ChainAt x a (x.refs b 0)
chain_entry x a b n (i, [], z) = absurd (n z)
chain_entry x a b n (i, e ∷ es, z) = (i, e, z.0, z.1, (i, es, subst (λ d. IsChain x a i (x.refs d 0) es) (sym z.0) z.2))

-- what its words name
pub next_entry : (x : Contents) (a home b i d : ℕ) → b ≢ 0 → ChainAt x a b → x.refs b i ≡ d → Plays x a home (role_read AnEntry i) d
next_entry x a home b i d n at e =
    let q = chain_entry x a b n at in
    choice (λ r. Plays x a home r d) (eqb i 0) AnEntry (cond (eqb i 1) Value Other)
    (λ z. subst (ChainAt x a) (sym (ap (x.refs b) (eqb-true i 0 z)) ∙ e) q.4)
    (λ _. choice (λ r. Plays x a home r d) (eqb i 1) Value Other
    (λ z. subst (HasShape x 0 1) (sym q.3.value ∙ (ap (λ j. x.refs j 1) (sym q.2) ∙ (sym (ap (x.refs b) (eqb-true i 1 z)) ∙ e))) q.3.holds)
    (λ _. tt))

-- the shape of a block in its role
pub chain_shape : (x : Contents) (a b : ℕ) → b ≢ 0 → ChainAt x a b → HasShape x 2 1 b × (tag_author x.wide (x.tag b) ≡ a)
chain_shape x a b n at = let q = chain_entry x a b n at in (subst (HasShape x 2 1) (sym q.2) q.3.shape, ap (λ j. tag_author x.wide (x.tag j)) q.2 ∙ q.3.author)

-- the part of a memo in a pool for tables is a partition
pub partition_of : (x : Contents) (a home : ℕ) (p : Part) → is_loose p ≡ false → PartTie x a home p → (chains : ℕ → List Entry) × IsPartition x a home chains
partition_of x a home Loose e h = absurd (true≢false e)
partition_of x a home (Table chains) e h = ((λ b. slice_index_or chains b []), h)

-- ---- roles of blocks

module _ (x : Contents) (a home : ℕ) where
  -- the block plays its role
  abbrev pub IsPlayed : Played → Type 0
  IsPlayed p = Plays x a home p.role p.block

  -- a block plays the role in which it was read last
  pub role_plays : (ps : List Played) (b : ℕ) → All IsPlayed ps → Plays x a home (role_in ps b) b
  role_plays [] b h = tt
  role_plays (p ∷ ps) b h =
      choice (λ r. Plays x a home r b) (eqb p.block b) p.role (role_in ps b)
      (λ e. subst (Plays x a home p.role) (eqb-true p.block b e) (All-head IsPlayed p ps h))
      (λ e. role_plays ps b (All-tail IsPlayed p ps h))

-- what holds of the blocks of the looks holds of the blocks that play roles
pub roles_blocks : (P : ℕ → Type 0) (ps : List Played) (ks : List Look) → All (λ (p : Played). P p.block) ps → All (λ (k : Look). P k.block) ks → All (λ (p : Played). P p.block) (roles_from ps ks)
roles_blocks P ps [] old new = old
roles_blocks P ps (k ∷ ks) old new =
    let p : Played = record { block = k.block; role = role_from ps k.from } in
    roles_blocks P (p ∷ ps) ks (All-cons (λ (q : Played). P q.block) p ps (All-head (λ (j : Look). P j.block) k ks new) old) (All-tail (λ (j : Look). P j.block) k ks new)

module _ (g : Geometry) (w : Spot → ℕ) (v : View) (h : HeldAt g w v) where
  -- a word of a block that names one is a reference word of a live block
  pub reference_live : (b i : ℕ) → targets g w v (Body b i) ≢ 0 → IsLive (headers w) b × (i < tag_refs g.wide (w (Tag b)))
  reference_live b i n =
      elim (cases_Bool (ltb i ((words_of g.wide w).refs b))) [
        | inr f ↦ absurd (n (cond-false _ (covered (λ d. cover_of (v.op d)) g.clients (Body b i) (w (Body b i))) 0 f))
        | inl f ↦ (let l = ltb-true i ((words_of g.wide w).refs b) f in
            elim (cases_Bool (headers w b).live) [
              | inl y ↦ (y, subst (λ k. i < k) (ap (λ z. refs_of g.wide z (w (Tag b))) y) l)
              | inr y ↦ (let z : (words_of g.wide w).refs b ≡ 0 = ap (λ z. refs_of g.wide z (w (Tag b))) y in absurd (omega arith))
            ])
      ]

  -- whose latch is held is an identity
  pub latch_inside : (c a : ℕ) → c < g.clients → v.latch c ≡ Some a → a < g.clients
  latch_inside c a l e =
      let q = ((h.latch c l).some a e).0 in
      ltb-true a g.clients (at_is_in g (classes w) (Latch a) h.fits (h.there (Latch a) (λ z. omega arith)))

  module _ (a : ℕ) (chains : ℕ → List Entry) (part : IsPartition (contents_of g.wide w (targets g w v)) a (targets g w v (Home a)) chains) where
    -- in a's partition
    abbrev InRole : Role → ℕ → Type 0
    InRole = Plays (contents_of g.wide w (targets g w v)) a (targets g w v (Home a))

    -- the chains of the directory
    next_chain : (b i : ℕ) → b ≢ 0 → targets g w v (Home a) ≡ b → targets g w v (Body b i) ≢ 0 → ChainAt (contents_of g.wide w (targets g w v)) a (targets g w v (Body b i))
    next_chain b i n e some =
        let here : targets g w v (Home a) ≢ 0 = (λ z. n (sym e ∙ z)) in
        let l = (reference_live b i some).1 in
        let k : tag_refs g.wide (w (Tag b)) ≡ 16 = ap (λ j. tag_refs g.wide (w (Tag j))) (sym e) ∙ (part.shape here).names in
        (i, chains i, subst (λ j. IsChain (contents_of g.wide w (targets g w v)) a i (targets g w v (Body j i)) (chains i)) e (part.chain here i (omega arith)))

    -- what a word of a block in a role names plays the role that the word gives it
    role_next : (role : Role) (b i d : ℕ) → InRole role b → targets g w v (Body b i) ≡ d → d ≢ 0 → InRole (role_read role i) d
    role_next Directory b i d p e n =
        let some : targets g w v (Body b i) ≢ 0 = (λ z. n (sym e ∙ z)) in
        subst (ChainAt (contents_of g.wide w (targets g w v)) a) e (next_chain b i (held_live_not_zero g w v h b (reference_live b i some).0) p some)
    role_next AnEntry b i d p e n =
        let some : targets g w v (Body b i) ≢ 0 = (λ z. n (sym e ∙ z)) in
        next_entry (contents_of g.wide w (targets g w v)) a (targets g w v (Home a)) b i d (held_live_not_zero g w v h b (reference_live b i some).0) p e
    role_next Value b i d p e n = tt
    role_next Other b i d p e n = tt

    -- ---- along the looks

    -- and so does the block of one more look
    role_look : (authors : ℕ → ℕ) (reach : ℕ → Type 0) (ps : List Played) (p : Spot) (b : ℕ) → All (IsPlayed (contents_of g.wide w (targets g w v)) a (targets g w v (Home a))) ps
        → LookAt (λ d. targets g w v (Home d)) (λ d i. targets g w v (Body d i)) authors (Some a) reach p b → InRole (role_from ps p) b
    role_look authors reach ps (Home d) b old y = let s : Some a ≡ Some d = y.1 in let e : a ≡ d = cc in ap (λ j. targets g w v (Home j)) e ∙ y.2
    role_look authors reach ps (Body d i) b old y = role_next (role_in ps d) d i b (role_plays (contents_of g.wide w (targets g w v)) a (targets g w v (Home a)) ps d old) y.2 y.0
    role_look authors reach ps p b old y = absurd y

    -- and the blocks of all looks
    pub roles_play : (authors : ℕ → ℕ) (named : ℕ → Type 0) (ps : List Played) (earlier ks : List Look) → All (IsPlayed (contents_of g.wide w (targets g w v)) a (targets g w v (Home a))) ps
        → LooksSound (λ d. targets g w v (Home d)) (λ d i. targets g w v (Body d i)) authors (Some a) named earlier ks → All (IsPlayed (contents_of g.wide w (targets g w v)) a (targets g w v (Home a))) (roles_from ps ks)
    roles_play authors named ps earlier [] old s = old
    roles_play authors named ps earlier (k ∷ ks) old s =
        let p : Played = record { block = k.block; role = role_from ps k.from } in
        roles_play authors named (p ∷ ps) (k ∷ earlier) ks
        (All-cons (IsPlayed (contents_of g.wide w (targets g w v)) a (targets g w v (Home a))) p ps (role_look authors (λ b. named b ⊎ InLooks earlier b) ps k.from k.block old s.0) old) s.1
