-- the partition that a memo has after a count step at one of its words is the one that the new targets hold
use Rattle.std.proofs.Common.{◌≡◌, ◌≢◌, ℕ, ◌%◌, ◌<◌, ◌≤◌, ◌⊎◌, refl, sym, ap, ◌∙◌, subst, arith, true, false, cond, eqb, ltb, List, [], ◌∷◌, ◌++◌, map, Option, Some, None, inl, inr, Bool}
use Rattle.std.proofs.lemmas.Bool.{cases_Bool, cases_eq, eq-eqb, ne_eqb, lt-ltb, cond-true, cond-false, true≢false}
use Rattle.std.proofs.lemmas.List.Elements.{All-nil, All-cons, All-head, All-tail, All-weaker, All-contains, Contains-append_cases}
use Rattle.std.specs.List.{All, Contains}
use Rattle.shm_words.specs.{declared.geometry.Geometry.Geometry, Tags.{tag_refs, tag_plain, tag_author}}
use Rattle.shm_graph.specs.declared.{spot.Spot.{Spot, TheVariants.{Home, Tag, Body}}, memo.{Memo.Memo, Stored.Stored}}
use Rattle.shm_graph.specs.declared.table.{Entry.Entry, Part.{Part, TheVariants.{Loose, Table}}}
use Rattle.shm_graph.specs.{Spots.{same_spot, upd}, Blocks.{headers, IsLive}, References.{words_of, refs_of}}
use Rattle.shm_graph.specs.Ops.{Quiet, On, cover, cover_of, covered, slot_of, word_at}
use Rattle.shm_graph.specs.Tables.{Contents, contents_of, HasShape, IsEntry, IsChain, IsPartition, find}
use Rattle.shm_graph.specs.{Views.{view, own_word, targets, at1}, Held.{HeldAt, PartTie, is_loose}}
use Rattle.shm_graph.specs.Reach.{is_at, known_at}
use Rattle.shm_graph.specs.Chains.{word_known, entry_known, or_zero, part_set, chains_set, bucket_set, relinked, chain_set}
use Rattle.shm_graph.proofs.Spots.Updating.{upd_here, upd_other}
use Rattle.shm_graph.proofs.Spots.Spotting.{same_spot_self, same_spot_is, same_spot_not}
use Rattle.shm_graph.proofs.States.Counting.{cover_slot, covered_none}
use Rattle.shm_graph.proofs.States.Holders.{Holds, InReach, held_live_not_zero, reach_counted, step_holds}
use Rattle.shm_graph.proofs.{States.Reached.names_here, Memos.KnownChange.{KnownHolds, ValueHolds}}
use Rattle.kind_parts.proofs.Partitions.Remapping.{map_in_one, map_out, map_put}
use Rattle.kind_parts.proofs.Partitions.Relinking.{AreKeyed, with_value, chains_at, unset, chain_part}
use Rattle.kind_parts.proofs.Partitions.Repartition.{listed, keyed_at, partition_same, empty_at, empty_partition, same_left, without_new, not_home, entry_in, entry_out, entry_valued, has_home}
use Rattle.kind_parts.proofs.BeginAt.{quiet_target}
use Rattle.kind_parts.specs.Raising.{IsReparted, is_read}
use Rattle.kind_parts.specs.Reparting.{Sight, sight, chain_in, map_in, link_after, IsKnown, IsTagged, IsBare, IsNew, IsValue, HasEntry, TableStep, map_after}
use Rattle.kind_parts.specs.Reparting.TableStep.{Founds, Prepares, Links, Unlinks, Replaces}

-- ---- what is known

-- the only element of a list
only : {T : Type 0} (x y : T) → Contains (x ∷ []) y → x ≡ y
only x y h = All-contains (λ z. x ≡ z) (x ∷ []) y (All-cons (λ z. x ≡ z) x [] refl (All-nil (λ z. x ≡ z))) h

-- a word that is listed is found, where all that is listed of it is so
listed_found : (p : Spot) (x : ℕ) (ks : List Stored) → All (λ (s : Stored). s.spot ≡ p → s.value ≡ x) ks → Contains ks (record { spot = p; value = x }) → known_at p ks ≡ Some x
listed_found p x [] all h = let l = h.1 in absurd (omega arith)
listed_found p x (s ∷ ks) all h =
    elim (cases_Bool (is_at p s)) [
      | inl y ↦ cond-true (is_at p s) (Some s.value) (known_at p ks) y ∙ ap Some (All-head (λ (s : Stored). s.spot ≡ p → s.value ≡ x) s ks all (sym (same_spot_is p s.spot y)))
      | inr n ↦ cond-false (is_at p s) (Some s.value) (known_at p ks) n
          ∙ listed_found p x ks (All-tail (λ (s : Stored). s.spot ≡ p → s.value ≡ x) s ks all)
          (elim (Contains-append_cases (s ∷ []) ks (record { spot = p; value = x }) h) [
            | inl z ↦ (let e : s ≡ record { spot = p; value = x } = only s (record { spot = p; value = x }) z in
                absurd (true≢false (sym (same_spot_self p) ∙ (ap (λ (k : Stored). same_spot p k.spot) (sym e) ∙ n))))
            | inr z ↦ z
          ])
    ]

module _ (g : Geometry) (w : Spot → ℕ) (r : ℕ → Memo) (c : ℕ) (h : HeldAt g w (view r)) (l : c < g.clients) where
  abbrev m : Memo
  m = r c

  abbrev t : Spot → ℕ
  t = targets g w (view r)

  abbrev z : Contents
  z = contents_of g.wide w (targets g w (view r))

  -- what is known is so
  known_so : (p : Spot) (x : ℕ) → IsKnown (sight c m) p x → KnownHolds g w (view r) c (record { spot = p; value = x })
  known_so p x k = All-contains (KnownHolds g w (view r) c) m.known (record { spot = p; value = x }) (h.known c l) k

  pub body_so : (b i x : ℕ) → IsKnown (sight c m) (Body b i) x → w (Body b i) ≡ x
  body_so b i x k = (known_so (Body b i) x k).0

  -- and it is what the memo's change finds
  pub word_so : (b i x : ℕ) → IsKnown (sight c m) (Body b i) x → word_known m.known b i ≡ x
  word_so b i x k =
      ap or_zero
      (listed_found (Body b i) x m.known
      (All-weaker (KnownHolds g w (view r) c) (λ (s : Stored). s.spot ≡ Body b i → s.value ≡ x)
      (λ s a e. sym (let q : KnownHolds g w (view r) c (record { spot = Body b i; value = s.value }) = subst (λ p. KnownHolds g w (view r) c (record { spot = p; value = s.value })) e a in q.0) ∙ body_so b i x k)
      m.known (h.known c l)) k)

  -- a block whose tag is known is live, and c's
  pub record IsOwn (b refs plain : ℕ) : Type 0 where
    pub shape : HasShape z refs plain b
    pub author : tag_author g.wide (w (Tag b)) ≡ c
    pub near : Contains m.dying b ⊎ InReach w g (view r) c b

  pub tagged_own : (b refs plain : ℕ) → IsTagged g.wide c (sight c m) b refs plain → IsOwn b refs plain
  tagged_own b refs plain a =
      let k : KnownHolds g w (view r) c (record { spot = Tag b; value = a.tag }) = known_so (Tag b) a.tag a.known in
      record {
        shape = record { live = live k.1; names = ap (tag_refs g.wide) k.0 ∙ a.refs_are; words = ap (tag_plain g.wide) k.0 ∙ a.plain_are };
        author = ap (tag_author g.wide) k.0 ∙ a.author;
        near = k.1;
      }
    where
      live : Contains m.dying b ⊎ InReach w g (view r) c b → IsLive (headers w) b
      live (inl x) = ((h.dying c l).listed b x).0
      live (inr x) = (reach_counted g w (view r) h c b l x).0

  -- no step of another covers a reference word of an own block
  others_off : (b i e : ℕ) → tag_author g.wide (w (Tag b)) ≡ c → Contains m.dying b ⊎ InReach w g (view r) c b → e < g.clients → c ≢ e → slot_of (r e).op ≢ Body b i
  others_off b i e author near le n s = off (step_holds g w (view r) h e (Body b i) le (λ q. cc) s).2 near
    where
      off : (((headers w b).count ≡ 0) × ((headers w b).client ≡ e)) ⊎ ((tag_author g.wide (w (Tag b)) ≡ e) × ((view r).latch e ≡ Some e) × InReach w g (view r) e b) → Contains m.dying b ⊎ InReach w g (view r) c b → ⊥
      off (inr u) y = n (sym author ∙ u.0)
      off (inl u) (inl x) = n (sym ((h.dying c l).listed b x).2 ∙ u.1)
      off (inl u) (inr x) = (reach_counted g w (view r) h c b l x).1 u.0

  -- so that it is its target
  pub own_target : (b i : ℕ) → IsLive (headers w) b → tag_author g.wide (w (Tag b)) ≡ c → Contains m.dying b ⊎ InReach w g (view r) c b → i < tag_refs g.wide (w (Tag b)) → cover_of m.op ≡ Quiet → t (Body b i) ≡ w (Body b i)
  own_target b i live author near low quiet =
      let e : (words_of g.wide w).refs b ≡ tag_refs g.wide (w (Tag b)) = ap (λ y. refs_of g.wide y (w (Tag b))) live in
      cond-true (ltb i ((words_of g.wide w).refs b)) (covered (λ d. cover_of (r d).op) g.clients (Body b i) (w (Body b i))) 0 (lt-ltb i ((words_of g.wide w).refs b) (subst (λ k. i < k) (sym e) low))
      ∙ covered_none g.clients (Body b i) (w (Body b i)) (λ d. cover_of (r d).op)
      (λ d ld y. elim (cases_eq c d) [
        | inl s ↦ ap (λ o. cover o (Body b i) y) (ap (λ j. cover_of (r j).op) (sym s) ∙ quiet)
        | inr n ↦ cover_slot (r d).op (Body b i) (same_spot_not (slot_of (r d).op) (Body b i) (others_off b i d author near ld n)) y
      ])

  -- a reference word of an own block that is known is its target
  pub known_target : (b i y : ℕ) → IsLive (headers w) b → tag_author g.wide (w (Tag b)) ≡ c → i < tag_refs g.wide (w (Tag b)) → cover_of m.op ≡ Quiet → IsKnown (sight c m) (Body b i) y → t (Body b i) ≡ y
  known_target b i y live author low quiet known =
      let k : KnownHolds g w (view r) c (record { spot = Body b i; value = y }) = known_so (Body b i) y known in
      own_target b i live author (near k.1) low quiet ∙ k.0
    where
      near : Contains m.dying b ⊎ (InReach w g (view r) c b × ((tag_refs g.wide (w (Tag b)) ≤ i) ⊎ ((tag_author g.wide (w (Tag b)) ≡ c) ⊎ (m.latch ≡ Some (tag_author g.wide (w (Tag b))))))) → Contains m.dying b ⊎ InReach w g (view r) c b
      near (inl a) = inl a
      near (inr a) = inr a.0

  -- the own home is its target
  pub home_so : cover_of m.op ≡ Quiet → t (Home c) ≡ own_word m.own (Home c)
  home_so quiet = sym (names_here g w r h c l).home ∙ ap (λ o. cover o (Home c) (own_word m.own (Home c))) quiet

  -- a live block isn't 0
  pub some_block : (b : ℕ) → (z.head b).live ≡ true → b ≢ 0
  some_block b live = held_live_not_zero g w (view r) h b live

  -- a value block with a known number
  pub value_so : (b n : ℕ) → IsValue (sight c m) b n → HasShape z 0 1 b × (w (Body b 0) ≡ n) × (word_known m.known b 0 ≡ n)
  value_so b n a = ((All-contains (ValueHolds g w (view r) c) m.values b (h.values c l) a.value).0, body_so b 0 n a.word, word_so b 0 n a.word)

-- ---- the step

-- a word that leads on is a word of a block
link_body : (d i : ℕ) (es : List Entry) → (b : ℕ) × (j : ℕ) × (link_after d i es ≡ Body b j)
link_body d i [] = (d, i, refl)
link_body d i (e ∷ es) = link_body e.block 0 es

-- the chains after a step: those that the memo's change computes, a partition of what the new targets hold, and their map
pub record Repartitions (g : Geometry) (w : Spot → ℕ) (r : ℕ → Memo) (c : ℕ) (p : Spot) (new : ℕ) (ess : List (List Entry)) (map : ℕ → Option (ℕ × ℕ)) : Type 0 where
  pub chains : ℕ → List Entry
  pub lists : (n : ℕ) → listed (chains_set (r c).known c (cover (On p new) (Home c) (own_word (r c).own (Home c))) p new ess) n ≡ chains n
  pub part : IsPartition (contents_of g.wide w (upd (targets g w (view r)) p new)) c (upd (targets g w (view r)) p new (Home c)) chains
  pub maps : (k : ℕ) → find k (chains (k % 16)) ≡ map k

module _ (g : Geometry) (w : Spot → ℕ) (r : ℕ → Memo) (c : ℕ) (h : HeldAt g w (view r)) (l : c < g.clients) (new : ℕ) (quiet : cover_of (r c).op ≡ Quiet) (ess : List (List Entry)) (is : (r c).part ≡ Table ess) where
  abbrev u : Spot → ℕ
  u = targets g w (view r)

  abbrev x : Contents
  x = contents_of g.wide w (targets g w (view r))

  abbrev q : Memo
  q = r c

  abbrev home : ℕ
  home = own_word (r c).own (Home c)

  -- the partition that the memo has
  part_so : IsPartition x c (u (Home c)) (listed ess)
  part_so = subst (PartTie x c (u (Home c))) is (h.part c l)

  part_home : IsPartition x c home (listed ess)
  part_home = subst (λ a. IsPartition x c a (listed ess)) (home_so g w r c h l quiet) part_so

  chain_so : (b : ℕ) → chain_in q.part b ≡ listed ess b
  chain_so b = ap (λ y. chain_in y b) is

  -- the references once a word of a block is changed
  abbrev refs_at : ℕ → ℕ → ℕ → ℕ → ℕ
  refs_at d i b j = upd u (Body d i) new (Body b j)

  refs_set : (d i : ℕ) → refs_at d i d i ≡ new
  refs_set d i = upd_here u (Body d i) new

  refs_rest : (d i b j : ℕ) → (b ≡ d → j ≡ i → ⊥) → refs_at d i b j ≡ x.refs b j
  refs_rest d i b j n = upd_other u (Body d i) new (Body b j) (same_spot_not (Body d i) (Body b j) (λ e. n (let s : b ≡ d = cc in s) (let s : j ≡ i = cc in s)))

  -- a partition of what the new targets hold begins at the new target of the home
  abbrev After : ℕ → ℕ → (ℕ → List Entry) → Type 0
  After d i chains = IsPartition (contents_of g.wide w (upd u (Body d i) new)) c (upd u (Body d i) new (Home c)) chains

  after_so : (d i : ℕ) (chains : ℕ → List Entry) → IsPartition (record x { refs = refs_at d i }) c home chains → After d i chains
  after_so d i chains y = subst (λ a. IsPartition (contents_of g.wide w (upd u (Body d i) new)) c a chains) (sym (home_so g w r c h l quiet)) y

  -- the home comes to name an empty directory
  founded : (old : ℕ) → w (Home c) ≡ old → old ≡ 0 → IsBare g.wide c (sight c q) new → Repartitions g w r c (Home c) new ess (λ k. find k (listed ess (k % 16)))
  founded old word none a =
      let o = tagged_own g w r c h l new 16 0 a.tagged in
      record {
        chains = λ b. [];
        lists = λ n. empty_at 16 n;
        part = subst (λ a. IsPartition x c a (λ b. [])) (sym (upd_here u (Home c) new))
            (empty_partition x c new o.shape o.author
            (λ b s. own_target g w r c h l new b o.shape.live o.author o.near (let k = o.shape.names in omega arith) quiet ∙ body_so g w r c h l new b 0 (a.words b s)));
        maps = λ k. sym (ap (find k) (part_so.none (home_so g w r c h l quiet ∙ (h.mine c l (Home c) (eq-eqb c c refl) ∙ (word ∙ none))) (k % 16)));
      }

  -- the word is one of a block that isn't an entry yet
  prepared : (d i key : ℕ) → IsNew g.wide c (sight c q) d key → Repartitions g w r c (Body d i) new ess (λ k. find k (listed ess (k % 16)))
  prepared d i key a =
      let o = tagged_own g w r c h l d 2 1 a.tagged in
      let key_so : w (Body d 2) ≡ key = body_so g w r c h l d 2 key a.word in
      let absent : find (w (Body d 2)) (listed ess (w (Body d 2) % 16)) ≡ None = subst (λ k. find k (listed ess (k % 16)) ≡ None) (sym key_so) (sym (ap (find key) (chain_so (key % 16))) ∙ a.absent) in
      let without = without_new x c home (listed ess) part_home (some_block g w r c h l) d absent in
      let off : d ≢ home = not_home x c home (listed ess) part_home (some_block g w r c h l) d o.shape.live o.shape.names in
      record {
        chains = listed ess;
        lists = λ n. ap (λ y. listed y n) (cond-false (eqb d home) (bucket_set (relinked q.known new) i ess) (map (chain_set q.known d i new) ess) (ne_eqb d home off))
            ∙ (chains_at (chain_set q.known d i new) n ess refl ∙ unset q.known d i new (listed ess n) (without n));
        part = after_so d i (listed ess) (same_left x c home (listed ess) part_home (some_block g w r c h l) (refs_at d i) d i new (refs_set d i) (refs_rest d i) (λ s. off (sym s)) without);
        maps = λ k. refl;
      }

  -- a new entry is what is known of its words
  new_entry : (key v n : ℕ) → IsNew g.wide c (sight c q) new key → IsKnown (sight c q) (Body new 1) v → IsValue (sight c q) v n → IsEntry x c (key % 16) (entry_known q.known new) × (entry_known q.known new ≡ record { key = key; number = n; block = new; value = v })
  new_entry key v n a value number =
      let o = tagged_own g w r c h l new 2 1 a.tagged in
      let ks : word_known q.known new 2 ≡ key = word_so g w r c h l new 2 key a.word in
      let vs : word_known q.known new 1 ≡ v = word_so g w r c h l new 1 v value in
      let s = value_so g w r c h l v n number in
      let ns : word_known q.known (word_known q.known new 1) 0 ≡ n = ap (λ b. word_known q.known b 0) vs ∙ s.2 in
      let e : entry_known q.known new ≡ record { key = key; number = n; block = new; value = v } = λ j. record { key = ks j; number = ns j; block = new; value = vs j } in
      let is : IsEntry x c (key % 16) (record { key = key; number = n; block = new; value = v }) = record {
        shape = o.shape;
        author = o.author;
        key = body_so g w r c h l new 2 key a.word;
        small = a.small;
        placed = refl;
        value = own_target g w r c h l new 1 o.shape.live o.author o.near (let k = o.shape.names in omega arith) quiet ∙ body_so g w r c h l new 1 v value;
        holds = s.0;
        number = s.1;
      } in
      (subst (IsEntry x c (key % 16)) (sym e) is, e)

  -- a new entry begins the chain of its bucket
  linked : (old key v n : ℕ) → Holds w g (view r) c (Body home (key % 16)) → w (Body home (key % 16)) ≡ old → IsNew g.wide c (sight c q) new key → IsKnown (sight c q) (Body new 0) old → IsKnown (sight c q) (Body new 1) v → IsValue (sight c q) v n
      → Repartitions g w r c (Body home (key % 16)) new ess (λ k. cond (eqb key k) (Some (n, v)) (find k (listed ess (k % 16))))
  linked old key v n holds word a next value number =
      let b : ℕ = key % 16 in
      let o = tagged_own g w r c h l new 2 1 a.tagged in
      let e = new_entry key v n a value number in
      let key_so : w (Body new 2) ≡ key = body_so g w r c h l new 2 key a.word in
      let absent : find key (listed ess b) ≡ None = sym (ap (find key) (chain_so b)) ∙ a.absent in
      let first : x.refs home b ≡ old = quiet_target g w r c h l (Body home b) holds quiet ∙ word in
      let names : x.refs new 0 ≡ old = own_target g w r c h l new 0 o.shape.live o.author o.near (let k = o.shape.names in omega arith) quiet ∙ body_so g w r c h l new 0 old next in
      let y = entry_in x c home (listed ess) part_home (some_block g w r c h l) (refs_at home b) home b new (refs_set home b) (refs_rest home b) b q.known (omega arith)
      (some_block g w r c h l home holds.0) refl refl (some_block g w r c h l new o.shape.live) o.shape.names
      (word_so g w r c h l new 2 key a.word ∙ sym key_so)
      (ap (λ k. find k (listed ess b)) key_so ∙ absent)
      (word_so g w r c h l new 0 old next ∙ sym first)
      (names ∙ sym first)
      e.0 ess (λ k. refl) in
      record {
        chains = at1 (listed ess) b (entry_known q.known new ∷ listed ess b);
        lists = y.0;
        part = after_so home b (at1 (listed ess) b (entry_known q.known new ∷ listed ess b)) y.1;
        maps = λ k. subst (λ (i : Entry). find k (at1 (listed ess) b (i ∷ listed ess b) (k % 16)) ≡ cond (eqb key k) (Some (n, v)) (find k (listed ess (k % 16)))) (sym e.1) (map_in_one (listed ess) b (record { key = key; number = n; block = new; value = v }) k refl);
      }

  -- an entry is taken out of its chain
  unlinks : (old key d i : ℕ) (before : List Entry) (e : Entry) (after : List Entry) → old ≢ new → HasEntry (sight c q) key before e after → Body d i ≡ link_after home (key % 16) before → e.block ≡ old → IsKnown (sight c q) (Body old 0) new
      → Repartitions g w r c (Body d i) new ess (λ k. cond (eqb key k) None (find k (listed ess (k % 16))))
  unlinks old key d i before e after other has at old_is next =
      let b : ℕ = key % 16 in
      let list : listed ess b ≡ before ++ e ∷ after = sym (chain_so b) ∙ has.chain in
      let nz : home ≢ 0 = has_home x c home (listed ess) part_home (some_block g w r c h l) b before e after list in
      let entry : IsEntry x c b e = (chain_part x c b (x.refs home b) before e after (subst (IsChain x c b (x.refs home b)) list (part_home.chain nz b (omega arith)))).0 in
      let names : x.refs e.block 0 ≡ new = known_target g w r c h l e.block 0 new entry.shape.live entry.author (let k = entry.shape.names in omega arith) quiet (subst (λ y. IsKnown (sight c q) (Body y 0) new) (sym old_is) next) in
      let y = entry_out x c home (listed ess) part_home (some_block g w r c h l) (refs_at d i) d i new (refs_set d i) (refs_rest d i) b before e after q.known (omega arith) list at (λ s. other (sym old_is ∙ s)) names ess (λ k. refl) in
      let keys = subst AreKeyed list (keyed_at x c home (listed ess) part_home (some_block g w r c h l) b) in
      record {
        chains = at1 (listed ess) b (before ++ after);
        lists = y.0;
        part = after_so d i (at1 (listed ess) b (before ++ after)) y.1;
        maps = λ k. subst (λ j. find k (at1 (listed ess) b (before ++ after) (k % 16)) ≡ cond (eqb j k) None (find k (listed ess (k % 16)))) has.key_is
            (map_out (listed ess) b before e after list keys (ap (λ j. j % 16) has.key_is) k);
      }

  -- an entry has another value block
  values : (key n : ℕ) (before : List Entry) (e : Entry) (after : List Entry) → HasEntry (sight c q) key before e after → IsValue (sight c q) new n
      → Repartitions g w r c (Body e.block 1) new ess (λ k. cond (eqb key k) (Some (n, new)) (find k (listed ess (k % 16))))
  values key n before e after has number =
      let b : ℕ = key % 16 in
      let list : listed ess b ≡ before ++ e ∷ after = sym (chain_so b) ∙ has.chain in
      let v = value_so g w r c h l new n number in
      let y = entry_valued x c home (listed ess) part_home (some_block g w r c h l) (refs_at e.block 1) e.block new (refs_set e.block 1) (refs_rest e.block 1) b before e after q.known (omega arith) list refl v.0 (v.1 ∙ sym v.2) ess (λ k. refl) in
      let keys = subst AreKeyed list (keyed_at x c home (listed ess) part_home (some_block g w r c h l) b) in
      let es : List Entry = before ++ with_value q.known new e ∷ after in
      record {
        chains = at1 (listed ess) b es;
        lists = y.0;
        part = after_so e.block 1 (at1 (listed ess) b es) y.1;
        maps = λ k. subst (λ j. find k (at1 (listed ess) b es (k % 16)) ≡ cond (eqb j k) (Some (n, new)) (find k (listed ess (k % 16)))) has.key_is
            (subst (λ j. find k (at1 (listed ess) b es (k % 16)) ≡ cond (eqb e.key k) (Some (j, new)) (find k (listed ess (k % 16)))) v.2
            (map_put (listed ess) b before e after list keys (ap (λ j. j % 16) has.key_is) (with_value q.known new e) k refl));
      }

  -- what each step at a word of the own partition leaves
  pub repartitions : (p : Spot) (old : ℕ) → Holds w g (view r) c p → word_at (words_of g.wide w) p ≡ old → old ≢ new → (s : TableStep g.wide c (sight c q) p old new) → Repartitions g w r c p new ess (map_after g.wide c (sight c q) p old new s (λ k. find k (listed ess (k % 16))))
  repartitions p old holds word other (Founds at none a) =
      subst (λ y. Repartitions g w r c y new ess (λ k. find k (listed ess (k % 16)))) (sym at) (founded old (subst (λ y. word_at (words_of g.wide w) y ≡ old) at word) none a)
  repartitions p old holds word other (Prepares d i key at a) =
      subst (λ y. Repartitions g w r c y new ess (λ k. find k (listed ess (k % 16)))) (sym at) (prepared d i key a)
  repartitions p old holds word other (Links key v n at a next value number) =
      subst (λ y. Repartitions g w r c y new ess (λ k. cond (eqb key k) (Some (n, v)) (find k (listed ess (k % 16))))) (sym at)
      (linked old key v n (subst (Holds w g (view r) c) at holds) (subst (λ y. word_at (words_of g.wide w) y ≡ old) at word) a next value number)
  repartitions p old holds word other (Unlinks key before e after has at old_is next) =
      let b = link_body home (key % 16) before in
      subst (λ y. Repartitions g w r c y new ess (λ k. cond (eqb key k) None (find k (listed ess (k % 16))))) (sym (at ∙ b.2))
      (unlinks old key b.0 b.1 before e after other has (sym b.2) old_is next)
  repartitions p old holds word other (Replaces key n before e after has at number) =
      subst (λ y. Repartitions g w r c y new ess (λ k. cond (eqb key k) (Some (n, new)) (find k (listed ess (k % 16))))) (sym at) (values key n before e after has number)

-- ---- the memo's partition

-- what a step makes of a map at a key it makes of what the map has there
map_same : (wide : Bool) (c : ℕ) (m : Sight) (p : Spot) (old new : ℕ) (s : TableStep wide c m p old new) (f f' : ℕ → Option (ℕ × ℕ)) (k : ℕ) → f k ≡ f' k → map_after wide c m p old new s f k ≡ map_after wide c m p old new s f' k
map_same wide c m p old new (Founds at none a) f f' k e = e
map_same wide c m p old new (Prepares b i key at a) f f' k e = e
map_same wide c m p old new (Links key v n at a next value number) f f' k e = ap (cond (eqb key k) (Some (n, v))) e
map_same wide c m p old new (Unlinks key before e1 after has at old_is next) f f' k e = ap (cond (eqb key k) None) e
map_same wide c m p old new (Replaces key n before e1 after has at number) f f' k e = ap (cond (eqb key k) (Some (n, new))) e

-- a step in progress that has begun, at a word that it finds
module _ (g : Geometry) (w : Spot → ℕ) (r : ℕ → Memo) (c : ℕ) (h : HeldAt g w (view r)) (l : c < g.clients) (p : Spot) (old new : ℕ) (quiet : cover_of (r c).op ≡ Quiet) (holds : Holds w g (view r) c p) (word : word_at (words_of g.wide w) p ≡ old) (other : old ≢ new) (s : TableStep g.wide c (sight c (r c)) p old new) where
  -- the partition of the memo is the one that the new targets hold
  pub table_reparted : IsReparted g w (view r) c (r c) p new
  table_reparted = record { tie = λ read. go (r c).part refl read }
    where
      go : (y : Part) → (r c).part ≡ y → is_read y p ≡ true → PartTie (contents_of g.wide w (upd (targets g w (view r)) p new)) c (upd (targets g w (view r)) p new (Home c)) (part_set (r c).known c (cover (On p new) (Home c) (own_word (r c).own (Home c))) p new y)
      go Loose e read = tt
      go (Table ess) e read =
          let a = repartitions g w r c h l new quiet ess e p old holds word other s in
          partition_same (contents_of g.wide w (upd (targets g w (view r)) p new)) c (upd (targets g w (view r)) p new (Home c)) a.chains
          (listed (chains_set (r c).known c (cover (On p new) (Home c) (own_word (r c).own (Home c))) p new ess)) a.lists a.part

  -- and its map is what the step makes of the map before
  pub table_mapped : is_loose (r c).part ≡ false → (k : ℕ) → map_in (part_set (r c).known c (cover (On p new) (Home c) (own_word (r c).own (Home c))) p new (r c).part) k ≡ map_after g.wide c (sight c (r c)) p old new s (map_in (r c).part) k
  table_mapped table k = go (r c).part refl table
    where
      go : (y : Part) → (r c).part ≡ y → is_loose y ≡ false → map_in (part_set (r c).known c (cover (On p new) (Home c) (own_word (r c).own (Home c))) p new y) k ≡ map_after g.wide c (sight c (r c)) p old new s (map_in (r c).part) k
      go Loose e n = absurd (true≢false n)
      go (Table ess) e n =
          let a = repartitions g w r c h l new quiet ess e p old holds word other s in
          ap (find k) (a.lists (k % 16)) ∙ (a.maps k ∙ map_same g.wide c (sight c (r c)) p old new s (λ j. find j (listed ess (j % 16))) (map_in (r c).part) k (ap (λ z. map_in z k) (sym e)))
