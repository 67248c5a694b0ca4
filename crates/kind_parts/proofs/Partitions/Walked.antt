-- a walk along a chain of the own partition: what a read of its words shows, and which steps may follow
use Rattle.std.proofs.Common.{◌≡◌, ◌≢◌, ℕ, ◌%◌, ◌<◌, refl, sym, ap, ◌∙◌, subst, arith, false, List, [], ◌∷◌, ◌++◌, Option, Some, None, Bool}
use Rattle.std.proofs.lemmas.{Bool.true≢false, List.Elements.All-contains}
use Rattle.std.specs.List.{Contains}
use Rattle.shm_words.specs.{declared.geometry.Geometry.Geometry, Tags.tag_refs}
use Rattle.shm_graph.specs.declared.{spot.Spot.{Spot, TheVariants.{Home, Tag, Body}}, memo.Memo.Memo, table.Entry.Entry}
use Rattle.shm_graph.specs.{declared.table.Part.{Part, TheVariants.{Loose, Table}}, Held.{HeldAt, PartTie, is_loose}}
use Rattle.shm_graph.specs.Ops.{Quiet, cover_of}
use Rattle.shm_graph.specs.Tables.{Contents, contents_of, HasShape, IsEntry, IsChain, IsPartition, find}
use Rattle.shm_graph.specs.Views.{view, own_word, targets}
use Rattle.shm_graph.proofs.Memos.KnownChange.{ValueHolds}
use Rattle.kind_parts.specs.Reparting.{IsNew, Sight, sight, chain_in, map_in, link_after, IsKnown, IsValue, HasEntry, TableStep}
use Rattle.kind_parts.specs.{Reparting.TableStep.{Unlinks, Replaces}, Walking.{Starts, IsWalking}}
use Rattle.kind_parts.proofs.Partitions.Relinking.{found_joined, found_here, not_found, chain_part, IsWithout, AreApart}
use Rattle.kind_parts.proofs.Partitions.Repartition.{has_home, not_home, without_home, apart_at}
use Rattle.kind_parts.proofs.Partitions.Reparted.{home_so, some_block, body_so, known_target, tagged_own}

-- ---- lists

-- one more entry is passed
passed_more : (xs : List Entry) (e : Entry) (ys : List Entry) → xs ++ e ∷ ys ≡ (xs ++ e ∷ []) ++ ys
passed_more [] e ys = refl
passed_more (x ∷ xs) e ys = ap (λ q. x ∷ q) (passed_more xs e ys)

-- the word that leads on from a list's last entry is that entry's next word
link_last : (d i : ℕ) (xs : List Entry) (e : Entry) → link_after d i (xs ++ e ∷ []) ≡ Body e.block 0
link_last d i [] e = refl
link_last d i (x ∷ xs) e = link_last x.block 0 xs e

-- the word that leads to an entry is of an entry before it
link_before : (d i : ℕ) (q : Entry) (bs : List Entry) (e : Entry) (ys : List Entry) → link_after q.block 0 bs ≡ Body d i → AreApart (q ∷ bs ++ e ∷ ys) → d ≢ e.block
link_before d i q [] e ys word apart s = apart.0.0 (sym s ∙ (let k : d ≡ q.block = cc in k))
link_before d i q (p ∷ bs) e ys word apart s = link_before d i p bs e ys word apart.1 s

-- the second part of a list whose blocks are distinct
apart_part : (xs ys : List Entry) → AreApart (xs ++ ys) → AreApart ys
apart_part [] ys h = h
apart_part (x ∷ xs) ys h = apart_part xs ys h.1

-- nothing after a list
nothing_after : (xs : List Entry) → xs ++ [] ≡ xs
nothing_after [] = refl
nothing_after (x ∷ xs) = ap (λ q. x ∷ q) (nothing_after xs)

-- a chain starts at its block
chain_starts : (z : Contents) (c n at : ℕ) (es : List Entry) → IsChain z c n at es → Starts es at
chain_starts z c n at [] h = h
chain_starts z c n at (e ∷ es) h = h.0

-- ---- by the memo alone

-- the key was found
pub walk_has : (s : Sight) (key : ℕ) (p : Spot) (at : ℕ) (xs : List Entry) (e : Entry) (ys : List Entry) → IsWalking s key p at xs (e ∷ ys) → e.key ≡ key → HasEntry s key xs e ys × (map_in s.part key ≡ Some (e.number, e.value))
walk_has s key p at xs e ys a k = (record { chain = a.chain; key_is = k }, ap (find key) a.chain ∙ (found_joined key xs (e ∷ ys) a.others ∙ found_here key e ys k))

-- the entry may be taken out, once its next word is known
pub walk_unlinks : (wide : Bool) (c : ℕ) (s : Sight) (key : ℕ) (p : Spot) (at next : ℕ) (xs : List Entry) (e : Entry) (ys : List Entry) → IsWalking s key p at xs (e ∷ ys) → e.key ≡ key → IsKnown s (Body at 0) next → TableStep wide c s p at next
walk_unlinks wide c s key p at next xs e ys a k known = Unlinks key xs e ys (walk_has s key p at xs e ys a k).0 a.link (sym a.starts) known

-- and it may have another value block
pub walk_replaces : (wide : Bool) (c : ℕ) (s : Sight) (key : ℕ) (p : Spot) (at old new n : ℕ) (xs : List Entry) (e : Entry) (ys : List Entry) → IsWalking s key p at xs (e ∷ ys) → e.key ≡ key → IsValue s new n → TableStep wide c s (Body at 1) old new
walk_replaces wide c s key p at old new n xs e ys a k number = Replaces key n xs e ys (walk_has s key p at xs e ys a k).0 (ap (λ b. Body b 1) a.starts) number

-- ---- by what holds

module _ (g : Geometry) (w : Spot → ℕ) (r : ℕ → Memo) (c : ℕ) (h : HeldAt g w (view r)) (l : c < g.clients) (quiet : cover_of (r c).op ≡ Quiet) (table : is_loose (r c).part ≡ false) where
  abbrev z : Contents
  z = contents_of g.wide w (targets g w (view r))

  abbrev s : Sight
  s = sight c (r c)

  abbrev home : ℕ
  home = own_word (r c).own (Home c)

  -- the memo's partition
  partition : IsPartition z c home (chain_in (r c).part)
  partition = subst (λ a. IsPartition z c a (chain_in (r c).part)) (home_so g w r c h l quiet) (of (r c).part table (h.part c l))
    where
      of : (y : Part) → is_loose y ≡ false → PartTie z c (targets g w (view r) (Home c)) y → IsPartition z c (targets g w (view r) (Home c)) (chain_in y)
      of Loose e tie = absurd (true≢false e)
      of (Table chains) e tie = tie

  -- an entry of it, and what follows
  entry_of : (key : ℕ) (xs : List Entry) (e : Entry) (ys : List Entry) → chain_in (r c).part (key % 16) ≡ xs ++ e ∷ ys → IsEntry z c (key % 16) e × IsChain z c (key % 16) (z.refs e.block 0) ys
  entry_of key xs e ys is =
      let b : ℕ = key % 16 in
      let some : home ≢ 0 = has_home z c home (chain_in (r c).part) partition (some_block g w r c h l) b xs e ys is in
      chain_part z c b (z.refs home b) xs e ys (subst (IsChain z c b (z.refs home b)) is (partition.chain some b (omega arith)))

  -- without a directory there is no key
  pub walk_nowhere : (key : ℕ) → home ≡ 0 → map_in (r c).part key ≡ None
  walk_nowhere key e = ap (find key) (partition.none e (key % 16))

  -- the word of a bucket was read: a walk begins
  pub walk_first : (key at : ℕ) → home ≢ 0 → IsKnown s (Body home (key % 16)) at → IsWalking s key (Body home (key % 16)) at [] (chain_in (r c).part (key % 16))
  walk_first key at some known =
      let b : ℕ = key % 16 in
      let shape = partition.shape some in
      let names : z.refs home b ≡ at = known_target g w r c h l home b at shape.live (partition.author some) (let k = shape.names in omega arith) quiet known in
      record { chain = refl; others = refl; link = refl; known = known; starts = chain_starts z c b at (chain_in (r c).part b) (subst (λ a. IsChain z c b a (chain_in (r c).part b)) names (partition.chain some b (omega arith))) }

  -- the key word of the entry at which it is was read
  pub walk_key : (key : ℕ) (p : Spot) (at x : ℕ) (xs : List Entry) (e : Entry) (ys : List Entry) → IsWalking s key p at xs (e ∷ ys) → IsKnown s (Body at 2) x → e.key ≡ x
  walk_key key p at x xs e ys a known = sym (entry_of key xs e ys a.chain).0.key ∙ (ap (λ b. w (Body b 2)) (sym a.starts) ∙ body_so g w r c h l at 2 x known)

  -- the next word of an entry of another key was read: the walk goes on
  pub walk_next : (key : ℕ) (p : Spot) (at next : ℕ) (xs : List Entry) (e : Entry) (ys : List Entry) → IsWalking s key p at xs (e ∷ ys) → e.key ≢ key → IsKnown s (Body at 0) next → IsWalking s key (Body at 0) next (xs ++ e ∷ []) ys
  walk_next key p at next xs e ys a other known =
      let b : ℕ = key % 16 in
      let q = entry_of key xs e ys a.chain in
      let here : at ≡ e.block = a.starts in
      let names : z.refs e.block 0 ≡ next = known_target g w r c h l e.block 0 next q.0.shape.live q.0.author (let k = q.0.shape.names in omega arith) quiet (subst (λ d. IsKnown s (Body d 0) next) here known) in
      record {
        chain = a.chain ∙ passed_more xs e ys;
        others = found_joined key xs (e ∷ []) a.others ∙ not_found key e [] other;
        link = ap (λ d. Body d 0) here ∙ sym (link_last home b xs e);
        known = known;
        starts = chain_starts z c b next ys (subst (λ d. IsChain z c b d ys) names q.1);
      }

  -- it came to an end: the partition doesn't have the key
  pub walk_end : (key : ℕ) (p : Spot) (xs left : List Entry) → IsWalking s key p 0 xs left → map_in (r c).part key ≡ None
  walk_end key p xs [] a = ap (find key) (a.chain ∙ nothing_after xs) ∙ a.others
  walk_end key p xs (e ∷ ys) a = absurd (some_block g w r c h l e.block (entry_of key xs e ys a.chain).0.shape.live (sym a.starts))

  -- the value word of an entry was read, and the number of its value block
  pub entry_valued : (key v : ℕ) (xs : List Entry) (e : Entry) (ys : List Entry) → HasEntry s key xs e ys → IsKnown s (Body e.block 1) v → e.value ≡ v
  entry_valued key v xs e ys a known =
      let q = entry_of key xs e ys a.chain in
      sym q.0.value ∙ known_target g w r c h l e.block 1 v q.0.shape.live q.0.author (let k = q.0.shape.names in omega arith) quiet known

  pub entry_numbered : (key v n : ℕ) (xs : List Entry) (e : Entry) (ys : List Entry) → HasEntry s key xs e ys → e.value ≡ v → IsKnown s (Body v 0) n → e.number ≡ n
  entry_numbered key v n xs e ys a same known = sym (entry_of key xs e ys a.chain).0.number ∙ (ap (λ b. w (Body b 0)) same ∙ body_so g w r c h l v 0 n known)

  -- ---- a new entry

  -- a block that is to be an entry isn't the directory
  pub new_not_home : (b key : ℕ) → IsNew g.wide c s b key → b ≢ home
  new_not_home b key a = let o = tagged_own g w r c h l b 2 1 a.tagged in not_home z c home (chain_in (r c).part) partition (some_block g w r c h l) b o.shape.live o.shape.names

  -- and no value block
  pub new_not_value : (b key v : ℕ) → IsNew g.wide c s b key → Contains (r c).values v → v ≢ b
  new_not_value b key v a value e =
      let o = tagged_own g w r c h l b 2 1 a.tagged in
      let shape : HasShape z 0 1 v = (All-contains (ValueHolds g w (view r) c) (r c).values v (h.values c l) value).0 in
      let two : tag_refs g.wide (w (Tag v)) ≡ 2 = ap (λ d. tag_refs g.wide (w (Tag d))) e ∙ o.shape.names in
      let none = shape.names in
      absurd (omega arith)

  -- the word that leads to an entry is none of its own words
  pub link_elsewhere : (key : ℕ) (p : Spot) (at j : ℕ) (xs : List Entry) (e : Entry) (ys : List Entry) → IsWalking s key p at xs (e ∷ ys) → p ≢ Body at j
  link_elsewhere key p at j xs e ys a same = go xs a.chain (sym a.link ∙ same)
    where
      b : ℕ
      b = key % 16

      go : (xs : List Entry) → chain_in (r c).part (key % 16) ≡ xs ++ e ∷ ys → link_after home (key % 16) xs ≡ Body at j → ⊥
      go [] is word =
          let some : home ≢ 0 = has_home z c home (chain_in (r c).part) partition (some_block g w r c h l) (key % 16) [] e ys is in
          let off : IsWithout home (e ∷ ys) = subst (IsWithout home) is (without_home z c home (chain_in (r c).part) partition (some_block g w r c h l) some (key % 16)) in
          let k : home ≡ at = cc in
          off.0 (sym a.starts ∙ sym k)
      go (q ∷ bs) is word =
          let some : home ≢ 0 = has_home z c home (chain_in (r c).part) partition (some_block g w r c h l) (key % 16) (q ∷ bs) e ys is in
          link_before at j q bs e ys word (subst AreApart is (apart_at z c home (chain_in (r c).part) partition (some_block g w r c h l) (key % 16) some (omega arith))) a.starts

  -- the entry at which it is isn't the directory
  pub entry_not_home : (key : ℕ) (p : Spot) (at : ℕ) (xs : List Entry) (e : Entry) (ys : List Entry) → IsWalking s key p at xs (e ∷ ys) → at ≢ home
  entry_not_home key p at xs e ys a same =
      let shape = (entry_of key xs e ys a.chain).0.shape in
      not_home z c home (chain_in (r c).part) partition (some_block g w r c h l) e.block shape.live shape.names (sym a.starts ∙ same)

  -- and it isn't 0
  pub entry_some : (key : ℕ) (p : Spot) (at : ℕ) (xs : List Entry) (e : Entry) (ys : List Entry) → IsWalking s key p at xs (e ∷ ys) → at ≢ 0
  entry_some key p at xs e ys a same = some_block g w r c h l e.block (entry_of key xs e ys a.chain).0.shape.live (sym a.starts ∙ same)

  -- ---- steps that may change

  -- what an entry's next word names is another block than the entry
  pub next_other : (key : ℕ) (p : Spot) (at next : ℕ) (xs : List Entry) (e : Entry) (ys : List Entry) → IsWalking s key p at xs (e ∷ ys) → IsKnown s (Body at 0) next → next ≢ 0 → at ≢ next
  next_other key p at next xs e ys a known some same =
      let b : ℕ = key % 16 in
      let q = entry_of key xs e ys a.chain in
      let names : z.refs e.block 0 ≡ next = known_target g w r c h l e.block 0 next q.0.shape.live q.0.author (let k = q.0.shape.names in omega arith) quiet (subst (λ d. IsKnown s (Body d 0) next) a.starts known) in
      let nz : home ≢ 0 = has_home z c home (chain_in (r c).part) partition (some_block g w r c h l) b xs e ys a.chain in
      let apart : AreApart (e ∷ ys) = apart_part xs (e ∷ ys) (subst AreApart a.chain (apart_at z c home (chain_in (r c).part) partition (some_block g w r c h l) b nz (omega arith))) in
      first ys (subst (λ d. IsChain z c b d ys) names q.1) apart.0
    where
      first : (ys : List Entry) → IsChain z c (key % 16) next ys → IsWithout e.block ys → ⊥
      first [] k w = some k
      first (y ∷ ys) k w = w.0 (sym k.0 ∙ (sym same ∙ a.starts))

  -- an entry's value word names a block
  pub value_some : (key v : ℕ) (xs : List Entry) (e : Entry) (ys : List Entry) → HasEntry s key xs e ys → IsKnown s (Body e.block 1) v → v ≢ 0
  value_some key v xs e ys a known = λ n. some_block g w r c h l e.value (entry_of key xs e ys a.chain).0.holds.live (entry_valued key v xs e ys a known ∙ n)

  -- the first entry of a chain is another block than one that is to be an entry
  pub first_other : (key first b : ℕ) → home ≢ 0 → IsKnown s (Body home (key % 16)) first → IsNew g.wide c s b key → first ≢ 0 → first ≢ b
  first_other key first b nz known new some same = go (chain_in (r c).part (key % 16)) refl (walk_first key first nz known).starts
    where
      go : (es : List Entry) → chain_in (r c).part (key % 16) ≡ es → Starts es first → ⊥
      go [] is starts = some starts
      go (e ∷ es) is starts =
          let entry : IsEntry z c (key % 16) e = (entry_of key [] e es is).0 in
          let k : e.key ≡ key = sym entry.key ∙ (ap (λ d. w (Body d 2)) (sym starts ∙ same) ∙ body_so g w r c h l b 2 key new.word) in
          let found : ◌≡◌ {A = Option (ℕ × ℕ)} (Some (e.number, e.value)) None = sym (ap (find key) is ∙ found_here key e es k) ∙ new.absent in
          absurd (cc)
