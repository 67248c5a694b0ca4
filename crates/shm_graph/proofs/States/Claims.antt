-- what a memo tells of blocks is so, and with it the spot of a word of a body that is read
use Rattle.std.proofs.Common.{◌≡◌, ◌≢◌, ℕ, ◌+◌, ◌<◌, refl, sym, ap, ◌∙◌, subst, true, false, inl, inr, ◌⊎◌, List, [], ◌∷◌, ◌++◌, map, Option, Some, None}
use Rattle.std.proofs.lemmas.Bool.{false≢true}
use Rattle.std.proofs.lemmas.List.Elements.{All-nil, All-cons, All-head, All-tail, All-append, All-map, All-weaker, All-contains_itself}
use Rattle.std.specs.List.{All, Contains}
use Rattle.shm_words.specs.{declared.geometry.Geometry.Geometry, Tags.{tag_author, tag_refs, tag_plain}}
use Rattle.shm_graph.specs.declared.spot.Spot.{Spot, TheVariants.{Home, Tail, QueueHead, Tag, Body}}
use Rattle.shm_graph.specs.declared.{memo.{Stored.Stored, Look.Look, Memo.Memo}, table.Entry.Entry as AnEntry}
use Rattle.shm_graph.specs.{Blocks.{headers, IsLive}, Tables.{Contents, contents_of, HasShape, IsPartition}}
use Rattle.shm_graph.specs.{Views.{View, view, targets}, Held.{HeldAt, LooksSound, LookAt, InLooks, named_by, is_loose}}
use Rattle.shm_graph.specs.Reach.{reached_blocks}
use Rattle.shm_graph.specs.Telling.{Claim, bare, tag_claim, tag_claims, Role, Directory, Entry, Value, Other, Played, role_in, roles_from, roles, shaped, role_claim, claims}
use Rattle.shm_graph.specs.MemoAfterRead.{is_entry}
use Rattle.shm_graph.proofs.States.{Holders.{InReach, held_live_not_zero, reach_counted}, Reached.all_reached}
use Rattle.shm_graph.proofs.States.Roles.{Plays, IsPlayed, chain_shape, partition_of, roles_blocks, roles_play, latch_inside, role_plays, next_entry, reference_live}
use Rattle.shm_graph.proofs.{Memos.KnownChange.{KnownHolds, ValueHolds}, StepKinds.Loads.choice}

-- both facts hold of each element
all_both : {X : Type 0} (P Q : X → Type 0) (xs : List X) → All P xs → All Q xs → All (λ x. P x × Q x) xs
all_both P Q xs h i = λ k d lt. (h k d lt, i k d lt)

-- What is told of a block: it is live, a zero-count block of c or in reach of it, and where numbers of words are told, and an author, they are those of its tag
pub record ClaimSound (g : Geometry) (w : Spot → ℕ) (v : View) (c : ℕ) (k : Claim) : Type 0 where
  pub live : IsLive (headers w) k.block
  pub holds : Contains (v.dying c) k.block ⊎ InReach w g v c k.block
  pub shape : k.refs + k.plain ≢ 0 → (tag_refs g.wide (w (Tag k.block)) ≡ k.refs) × (tag_plain g.wide (w (Tag k.block)) ≡ k.plain)
  pub author : (a : ℕ) → k.author ≡ Some a → tag_author g.wide (w (Tag k.block)) ≡ a

-- without a latch nothing was read under one
no_looks : (home : ℕ → ℕ) (body : ℕ → ℕ → ℕ) (author : ℕ → ℕ) (named : ℕ → Type 0) (earlier ks : List Look) → LooksSound home body author None named earlier ks → ks ≡ []
no_looks home body author named earlier [] s = refl
no_looks home body author named earlier (k ∷ ks) s = absurd (none k.from k.block s.0)
  where
    none : (p : Spot) (b : ℕ) → LookAt home body author None (λ d. named d ⊎ InLooks earlier d) p b → ⊥
    none (Home a) b y = let z = y.1 in cc
    none (Body d i) b y = let z = y.1 in cc
    none p b y = y

-- only one role is that of an entry
entry_is : (role : Role) → is_entry role ≡ true → role ≡ Entry
entry_is Entry e = refl
entry_is _ e = absurd (false≢true e)

module _ (g : Geometry) (w : Spot → ℕ) (r : ℕ → Memo) (h : HeldAt g w (view r)) (c : ℕ) (l : c < g.clients) where
  -- what is told of a block by this memo, and the blocks that it has in reach
  abbrev Sound : Claim → Type 0
  Sound = ClaimSound g w (view r) c

  abbrev Near : ℕ → Type 0
  Near = InReach w g (view r) c

  -- a zero-count block and a block in reach are live
  near_live : (b : ℕ) → Contains (r c).dying b ⊎ Near b → IsLive (headers w) b
  near_live b (inl x) = ((h.dying c l).listed b x).0
  near_live b (inr x) = (reach_counted g w (view r) h c b l x).0

  -- ---- tags

  -- a known tag
  tag_sound : (p : Spot) (x : ℕ) → KnownHolds g w (view r) c (record { spot = p; value = x }) → All Sound (tag_claim g.wide p x)
  tag_sound (Tag b) x a =
      All-cons Sound (record { block = b; refs = tag_refs g.wide x; plain = tag_plain g.wide x; author = Some (tag_author g.wide x) }) []
      (record {
        live = near_live b a.1;
        holds = a.1;
        shape = λ _. (ap (tag_refs g.wide) a.0, ap (tag_plain g.wide) a.0);
        author = λ d e. let q : tag_author g.wide x ≡ d = cc in ap (tag_author g.wide) a.0 ∙ q;
      })
      (All-nil Sound)
  tag_sound p x a = All-nil Sound

  tags_sound : (ks : List Stored) → All (KnownHolds g w (view r) c) ks → All Sound (tag_claims g.wide ks)
  tags_sound [] a = All-nil Sound
  tags_sound (s ∷ ks) a =
      All-append Sound (tag_claim g.wide s.spot s.value) (tag_claims g.wide ks)
      (tag_sound s.spot s.value (All-head (KnownHolds g w (view r) c) s ks a))
      (tags_sound ks (All-tail (KnownHolds g w (view r) c) s ks a))

  -- ---- shapes

  -- what the table is read from, the homes, and the roles of blocks in a's partition
  abbrev Here : Contents
  Here = contents_of g.wide w (targets g w (view r))

  abbrev home : ℕ → ℕ
  home a = targets g w (view r) (Home a)

  abbrev InRole : ℕ → Role → ℕ → Type 0
  InRole a = Plays Here a (home a)

  -- the looks, under this latch
  abbrev LooksUnder : Option ℕ → Type 0
  LooksUnder o = LooksSound home (λ b i. targets g w (view r) (Body b i)) (λ b. tag_author g.wide (w (Tag b))) o (named_by (targets g w (view r)) (λ s i. w (Tail s i)) (λ s i. w (QueueHead s i)) c) [] (r c).looks

  -- a block of a known shape, one of which nothing is known, and a value block
  shape_sound : (b refs plain : ℕ) (author : Option ℕ) → HasShape Here refs plain b → Near b → ((a : ℕ) → author ≡ Some a → tag_author g.wide (w (Tag b)) ≡ a) → Sound (record { block = b; refs = refs; plain = plain; author = author })
  shape_sound b refs plain author s n a = record { live = s.live; holds = inr n; shape = λ _. (s.names, s.words); author = a }

  bare_sound : (b : ℕ) → Contains (r c).dying b ⊎ Near b → Sound (bare b)
  bare_sound b n = record { live = near_live b n; holds = n; shape = λ z. absurd (z refl); author = λ a e. cc }

  value_sound : (b : ℕ) → ValueHolds g w (view r) c b → Sound (shaped None b Value)
  value_sound b x = shape_sound b 0 1 None x.0 x.1 (λ a e. cc)

  -- ---- roles

  -- the directory of a partition has 16 references and is its author's
  pub directory_shape : (a b : ℕ) (chains : ℕ → List AnEntry) → IsPartition Here a (home a) chains → InRole a Directory b → b ≢ 0 → HasShape Here 16 0 b × (tag_author g.wide (w (Tag b)) ≡ a)
  directory_shape a b chains part p n =
      let some : home a ≢ 0 = (λ z. n (sym p ∙ z)) in
      (subst (HasShape Here 16 0) p (part.shape some), ap (λ j. tag_author g.wide (w (Tag j))) (sym p) ∙ part.author some)

  -- a block in a role has the shape that its role tells
  role_sound : (a : ℕ) (chains : ℕ → List AnEntry) → IsPartition Here a (home a) chains → (role : Role) (b : ℕ) → InRole a role b → Near b → Sound (shaped (Some a) b role)
  role_sound a chains part Directory b p n =
      let s = directory_shape a b chains part p (held_live_not_zero g w (view r) h b (near_live b (inr n))) in
      shape_sound b 16 0 (Some a) s.0 n (λ d e. let q : a ≡ d = cc in s.1 ∙ q)
  role_sound a chains part Entry b p n =
      let s = chain_shape Here a b (held_live_not_zero g w (view r) h b (near_live b (inr n))) p in
      shape_sound b 2 1 (Some a) s.0 n (λ d e. let q : a ≡ d = cc in s.1 ∙ q)
  role_sound a chains part Value b p n = shape_sound b 0 1 None p n (λ d e. cc)
  role_sound a chains part Other b p n = bare_sound b (inr n)

  -- the blocks of the looks are in reach
  looks_near : All (λ (k : Look). Near k.block) (r c).looks
  looks_near = All-weaker (Contains (r c).looks) (λ (k : Look). Near k.block) (λ k x. inr (k, x, refl)) (r c).looks (All-contains_itself (r c).looks)

  -- the looks are read under the latch that is held
  looks_under : (o : Option ℕ) → (r c).latch ≡ o → LooksUnder o
  looks_under o e = subst LooksUnder e (h.looks c l)

  -- the partition whose latch is held
  pub part_here : (a : ℕ) → (r c).latch ≡ Some a → is_loose (r c).part ≡ false → (chains : ℕ → List AnEntry) × IsPartition Here a (home a) chains
  part_here a e table = let m = latch_inside g w (view r) h c a l e in partition_of Here a (home a) (r a).part (sym (h.parts c a l m) ∙ table) (h.part a m)

  -- what the looks of a pool for tables say of it
  pub played_here : (a : ℕ) → (r c).latch ≡ Some a → is_loose (r c).part ≡ false → All (IsPlayed Here a (home a)) (roles_from [] (r c).looks)
  played_here a e table =
      let q = part_here a e table in
      roles_play g w (view r) h a q.0 q.1 (λ b. tag_author g.wide (w (Tag b))) (named_by (targets g w (view r)) (λ s i. w (Tail s i)) (λ s i. w (QueueHead s i)) c) [] [] (r c).looks (All-nil _) (looks_under (Some a) e)

  -- the role that a block was read in is its role
  pub role_here : (a : ℕ) → (r c).latch ≡ Some a → (b : ℕ) → InRole a (role_in (roles (r c)) b) b
  role_here a e b =
      choice (λ ps. InRole a (role_in ps b) b) (is_loose (r c).part) [] (roles_from [] (r c).looks)
      (λ _. tt) (λ table. role_plays Here a (home a) (roles_from [] (r c).looks) b (played_here a e table))

  -- the second word of an entry that was read names a value block
  pub entry_value : (a b d : ℕ) → (r c).latch ≡ Some a → is_entry (role_in (roles (r c)) b) ≡ true → targets g w (view r) (Body b 1) ≡ d → d ≢ 0 → HasShape Here 0 1 d
  entry_value a b d e is names some =
      next_entry Here a (home a) b 1 d (held_live_not_zero g w (view r) h b (reference_live g w (view r) h b 1 (λ z. some (sym names ∙ z))).0)
      (subst (λ role. InRole a role b) (entry_is (role_in (roles (r c)) b) is) (role_here a e b)) names

  -- what the looks of a pool for tables tell is so
  table_sound : (o : Option ℕ) → (r c).latch ≡ o → is_loose (r c).part ≡ false → All Sound (map (role_claim o) (roles_from [] (r c).looks))
  table_sound None e table =
      subst (λ ks. All Sound (map (role_claim None) (roles_from [] ks)))
      (sym (no_looks home (λ b i. targets g w (view r) (Body b i)) (λ b. tag_author g.wide (w (Tag b))) (named_by (targets g w (view r)) (λ s i. w (Tail s i)) (λ s i. w (QueueHead s i)) c) [] (r c).looks (looks_under None e)))
      (All-nil Sound)
  table_sound (Some a) e table =
      let q = part_here a e table in
      let played = roles_from [] (r c).looks in
      let N : Played → Type 0 = λ p. Near p.block in
      All-map Sound (role_claim (Some a)) played
      (All-weaker (λ p. IsPlayed Here a (home a) p × N p) (λ p. Sound (role_claim (Some a) p)) (λ p x. role_sound a q.0 q.1 p.role p.block x.0 x.1) played
      (all_both (IsPlayed Here a (home a)) N played (played_here a e table) (roles_blocks Near [] (r c).looks (All-nil _) looks_near)))

  -- ---- all

  -- the parts of what is told
  tags_and_roles : All Sound (tag_claims g.wide (r c).known ++ map (role_claim (r c).latch) (roles (r c)))
  tags_and_roles =
      let m : Memo = r c in
      All-append Sound (tag_claims g.wide m.known) (map (role_claim m.latch) (roles m)) (tags_sound m.known (h.known c l))
      (choice (λ ps. All Sound (map (role_claim m.latch) ps)) (is_loose m.part) [] (roles_from [] m.looks) (λ e. All-nil Sound) (table_sound m.latch refl))

  values_sound : All Sound (map (λ b. shaped None b Value) (r c).values)
  values_sound = All-map Sound (λ b. shaped None b Value) (r c).values (All-weaker (ValueHolds g w (view r) c) (λ b. Sound (shaped None b Value)) value_sound (r c).values (h.values c l))

  blocks_sound : All Sound (map bare (reached_blocks c (r c) ++ (r c).dying))
  blocks_sound =
      let m : Memo = r c in
      All-map Sound bare (reached_blocks c m ++ m.dying)
      (All-append (λ b. Sound (bare b)) (reached_blocks c m) m.dying
      (All-weaker Near (λ b. Sound (bare b)) (λ b x. bare_sound b (inr x)) (reached_blocks c m) (all_reached g w r h c l))
      (All-weaker (Contains m.dying) (λ b. Sound (bare b)) (λ b x. bare_sound b (inl x)) m.dying (All-contains_itself m.dying)))

  -- all that the memo tells of blocks is so
  pub claims_sound : All Sound (claims g.wide c (r c))
  claims_sound =
      let m : Memo = r c in
      let tags = tag_claims g.wide m.known ++ map (role_claim m.latch) (roles m) in
      All-append Sound (tags ++ map (λ b. shaped None b Value) m.values) (map bare (reached_blocks c m ++ m.dying))
      (All-append Sound tags (map (λ b. shaped None b Value) m.values) tags_and_roles values_sound) blocks_sound
