-- what a search for a key says of maps: of the own partition, and in a held state of that of the author: what is proved of it
use Rattle.std.proofs.Common.{◌≡◌, ◌≢◌, ℕ, ◌%◌, ◌<◌, refl, sym, ap, ◌∙◌, subst, arith, false, ltb, List, [], ◌∷◌, ◌++◌, Option, Some, None, inl, inr}
use Rattle.std.proofs.lemmas.Bool.{cases_eq, cond-true, lt-ltb, true≢false}
use Rattle.std.proofs.lemmas.List.Elements.{All-cons, All-contains, All-head, All-nil, All-tail}
use Rattle.std.specs.{Prelude.◌⊎◌, List.{All, Contains}}
use Rattle.shm_words.specs.{declared.geometry.Geometry.Geometry, Tags.{tag_author, tag_refs}}
use Rattle.shm_graph.specs.declared.{ask.Me.Me, memo.{Look.Look, Memo.Memo, Op.TheVariants.Nothing, Stored.Stored}}
use Rattle.shm_graph.specs.declared.spot.Spot.{Spot, TheVariants.{Home, Tail, QueueHead, Tag, Body}}
use Rattle.shm_graph.specs.{declared.table.{Entry.Entry, Part.{Part, TheVariants.{Loose, Table}}}, Asks.Trail}
use Rattle.shm_graph.specs.{Events.Event, Held.{HeldAt, InLooks, LookAt, LooksSound, PartTie, is_loose, named_by}}
use Rattle.shm_graph.specs.{Ops.{cover, cover_of, covered, slot_of}, References.{refs_of, words_of}}
use Rattle.shm_graph.specs.Tables.{Contents, contents_of, HasShape, IsChain, IsEntry, IsPartition, find}
use Rattle.shm_graph.specs.Views.{targets, view}
use Rattle.shm_graph.proofs.States.Counting.{cover_slot, covered_none}
use Rattle.shm_graph.proofs.States.Holders.{InReach, held_live_not_zero, one_latch, reach_counted, step_holds}
use Rattle.shm_graph.proofs.{States.Roles.latch_inside, Spots.Spotting.same_spot_not}
use Rattle.plans.specs.Parts.{IsHeld}
use Rattle.kind_parts.specs.Reparting.{chain_in, map_in}
use Rattle.kind_parts.proofs.Partitions.{Reparted.body_so, Relinking.{found_here, found_joined, not_found}}
use Rattle.kind_parts.proofs.Partitions.Walked.{walk_has}
use Rattle.shm_table.specs.Find.{Control.Passed, AreOthers, IsAbsent, IsChainRead, IsFound, IsLook}
use Rattle.shm_table.specs.{Find.Tells.{HasKey, HasRead}, Proved.Find.SearchLoads.chain_kept}

-- ---- the own partition

-- it has no such key, or has it
pub absent_tells : (me : Me) (a key home first : ℕ) (r0 r : Memo) (tr : Trail) (es : List Event) → IsAbsent me a key home first r0 r tr es → a ≡ me.who → map_in r0.part key ≡ None
absent_tells me a key home first r0 r tr es h q = ap (λ (x : Memo). map_in x.part key) (sym h.reads.memo) ∙ h.absent q

pub found_tells : (me : Me) (a key entry before word : ℕ) (r0 r : Memo) (tr : Trail) (es : List Event) → IsFound me a key entry before word r0 r tr es → a ≡ me.who → (n : ℕ) × (v : ℕ) × (map_in r0.part key ≡ Some (n, v))
found_tells me a key entry before word r0 r tr es h q =
    let o = h.own q in
    (o.2.number, o.2.value, ap (λ (x : Memo). map_in x.part key) (sym h.reads.memo) ∙ (walk_has _ key (Body before word) entry o.1 o.2 o.3 o.4.walk o.5).1)

-- ---- the author's

-- what a search that found an entry leaves is that
pub has_read : (me : Me) (a key entry before word : ℕ) (r0 r : Memo) (tr : Trail) (es : List Event) → IsFound me a key entry before word r0 r tr es → HasRead a r key entry
has_read me a key entry before word r0 r tr es f = record { home = f.home; passed = f.passed; latch = f.latch; table = f.table; look = f.look; chain = f.chain; others = f.others; known = f.known }

-- and it stays so while the latch is held and more is read
pub read_kept : (a key entry : ℕ) (r x : Memo) → x.latch ≡ r.latch → x.part ≡ r.part → ((s : Stored) → Contains r.known s → Contains x.known s) → ((k : Look) → Contains r.looks k → Contains x.looks k) → HasRead a r key entry → HasRead a x key entry
read_kept a key entry r x latch part known looked f =
    record {
      home = f.home;
      passed = f.passed;
      latch = latch ∙ f.latch;
      table = ap is_loose part ∙ f.table;
      look = looked (record { block = f.home; from = Home a }) f.look;
      chain = chain_kept r x f.home (key % 16) f.passed entry known looked f.chain;
      others = f.others;
      known = known (record { spot = Body entry 2; value = key }) f.known;
    }

-- the entry at its end is a look
chain_last : (r : Memo) (d i : ℕ) (ps : List Passed) (at : ℕ) → IsChainRead r d i ps at → (p : Spot) × IsLook r p at
chain_last r d i [] at h = (Body d i, h)
chain_last r d i (p ∷ ps) at h = chain_last r p.block 0 ps at h.2

-- what was read from a word is what it names
look_so : (t : Spot → ℕ) (author : ℕ → ℕ) (latch : Option ℕ) (reach : ℕ → Type 0) (p : Spot) (b : ℕ) → LookAt (λ d. t (Home d)) (λ d i. t (Body d i)) author latch reach p b → (b ≢ 0) × (t p ≡ b)
look_so t author latch reach (Home d) b y = (y.0, y.2)
look_so t author latch reach (Body d i) b y = (y.0, y.2)
look_so t author latch reach _ b y = absurd y

looks_so : (t : Spot → ℕ) (author : ℕ → ℕ) (latch : Option ℕ) (named : ℕ → Type 0) (earlier looks : List Look) → LooksSound (λ d. t (Home d)) (λ d i. t (Body d i)) author latch named earlier looks → All (λ (k : Look). (k.block ≢ 0) × (t k.from ≡ k.block)) looks
looks_so t author latch named earlier [] x = All-nil (λ (k : Look). (k.block ≢ 0) × (t k.from ≡ k.block))
looks_so t author latch named earlier (k ∷ ks) x = All-cons (λ (k : Look). (k.block ≢ 0) × (t k.from ≡ k.block)) k ks (look_so t author latch (λ b. named b ⊎ InLooks earlier b) k.from k.block x.0) (looks_so t author latch named (k ∷ earlier) ks x.1)

module _ (g : Geometry) (w : Spot → ℕ) (r : ℕ → Memo) (c a key : ℕ) (h : HeldAt g w (view r)) (l : c < g.clients) (latch : (r c).latch ≡ Some a) (table : is_loose (r c).part ≡ false) where
  abbrev t : Spot → ℕ
  t = targets g w (view r)

  abbrev z : Contents
  z = contents_of g.wide w (targets g w (view r))

  named_so : (p : Spot) (b : ℕ) → IsLook (r c) p b → (b ≢ 0) × (t p ≡ b)
  named_so p b k = All-contains (λ (k : Look). (k.block ≢ 0) × (t k.from ≡ k.block)) (r c).looks (record { block = b; from = p }) (looks_so t (λ b. tag_author g.wide (w (Tag b))) (r c).latch (named_by t (λ s i. w (Tail s i)) (λ s i. w (QueueHead s i)) c) [] (r c).looks (h.looks c l)) k

  -- the partition of the author
  partition_so : IsPartition z a (t (Home a)) (chain_in (r a).part)
  partition_so =
      let m = latch_inside g w (view r) h c a l latch in
      of (r a).part (sym (h.parts c a l m) ∙ table) (h.part a m)
    where
      of : (y : Part) → is_loose y ≡ false → PartTie z a (t (Home a)) y → IsPartition z a (t (Home a)) (chain_in y)
      of Loose e tie = absurd (true≢false e)
      of (Table chains) e tie = tie

  -- where the chain from a word on was read, its entries are those that were passed, and the next one is at the block
  record IsSo (n : ℕ) (es : List Entry) (at : ℕ) : Type 0 where
    others : List Entry
    e : Entry
    after : List Entry
    chain : es ≡ others ++ e ∷ after
    none : find key others ≡ None
    block : e.block ≡ at
    key_is : e.key ≡ key
    entry : IsEntry z a n e

  chain_so : (n d i : ℕ) (ps : List Passed) (at : ℕ) (es : List Entry) → IsChain z a n (z.refs d i) es → IsChainRead (r c) d i ps at → AreOthers key ps → Contains (r c).known (record { spot = Body at 2; value = key }) → IsSo n es at
  chain_so n d i [] at [] k read others known = let q = named_so (Body d i) at read in absurd (q.0 (sym q.1 ∙ k))
  chain_so n d i [] at (e ∷ es) k read others known =
      let q = named_so (Body d i) at read in
      let here : e.block ≡ at = sym k.0 ∙ q.1 in
      record { others = []; e = e; after = es; chain = refl; none = refl; block = here; key_is = sym k.1.key ∙ (ap (λ b. w (Body b 2)) here ∙ body_so g w r c h l at 2 key known); entry = k.1 }
  chain_so n d i (p ∷ ps) at [] k read others known = let q = named_so (Body d i) p.block read.0 in absurd (q.0 (sym q.1 ∙ k))
  chain_so n d i (p ∷ ps) at (e ∷ es) k read others known =
      let q = named_so (Body d i) p.block read.0 in
      let here : e.block ≡ p.block = sym k.0 ∙ q.1 in
      let key_here : e.key ≡ p.key = sym k.1.key ∙ (ap (λ b. w (Body b 2)) here ∙ body_so g w r c h l p.block 2 p.key read.1) in
      let rest = chain_so n p.block 0 ps at es (subst (λ b. IsChain z a n (z.refs b 0) es) here k.2) read.2 (All-tail (λ (p : Passed). p.key ≢ key) p ps others) known in
      record {
        others = e ∷ rest.others;
        e = rest.e;
        after = rest.after;
        chain = ap (λ ys. e ∷ ys) rest.chain;
        none = not_found key e rest.others (λ same. All-head (λ (p : Passed). p.key ≢ key) p ps others (sym key_here ∙ same)) ∙ rest.none;
        block = rest.block;
        key_is = rest.key_is;
        entry = rest.entry;
      }

  -- so the chain of the key's bucket
  bucket_so : (entry : ℕ) → HasRead a (r c) key entry → IsSo (key % 16) (chain_in (r a).part (key % 16)) entry
  bucket_so entry f =
      let q = named_so (Home a) f.home f.look in
      let part = partition_so in
      chain_so (key % 16) f.home (key % 16) f.passed entry (chain_in (r a).part (key % 16))
      (subst (λ d. IsChain z a (key % 16) (z.refs d (key % 16)) (chain_in (r a).part (key % 16))) q.1 (part.chain (λ e. q.0 (sym q.1 ∙ e)) (key % 16) (omega arith)))
      f.chain f.others f.known

  map_so : (entry : ℕ) (s : IsSo (key % 16) (chain_in (r a).part (key % 16)) entry) → map_in (r a).part key ≡ Some (s.e.number, s.e.value)
  map_so entry s = ap (find key) s.chain ∙ (found_joined key s.others (s.e ∷ s.after) s.none ∙ found_here key s.e s.after s.key_is)

  found_so : (entry : ℕ) → HasRead a (r c) key entry → HasKey (r a).part key entry
  found_so entry f = let s = bucket_so entry f in record { e = s.e; others = s.others; after = s.after; chain = s.chain; block = s.block; map = map_so entry s }

  -- with its value block
  value_had : (entry v : ℕ) → IsLook (r c) (Body entry 1) v → (s : IsSo (key % 16) (chain_in (r a).part (key % 16)) entry) → s.e.value ≡ v
  value_had entry v look s = sym s.entry.value ∙ (ap (λ b. t (Body b 1)) s.block ∙ (named_so (Body entry 1) v look).1)

  block_so : (entry v : ℕ) → HasRead a (r c) key entry → IsLook (r c) (Body entry 1) v → map_in (r a).part key ≡ Some (w (Body v 0), v)
  block_so entry v f look =
      let s = bucket_so entry f in
      let value : s.e.value ≡ v = value_had entry v look s in
      map_so entry s ∙ (ap (λ k. Some (k, s.e.value)) (sym s.entry.number) ∙ ap (λ b. Some (w (Body b 0), b)) value)

  -- which has no reference word
  shape_so : (entry v : ℕ) → HasRead a (r c) key entry → IsLook (r c) (Body entry 1) v → HasShape z 0 1 v
  shape_so entry v f look = let s = bucket_so entry f in subst (HasShape z 0 1) (value_had entry v look s) s.entry.holds

  -- and that block's number
  value_so : (entry v n : ℕ) → HasRead a (r c) key entry → IsLook (r c) (Body entry 1) v → Contains (r c).known (record { spot = Body v 0; value = n }) → map_in (r a).part key ≡ Some (n, v)
  value_so entry v n f look known = block_so entry v f look ∙ ap (λ k. Some (k, v)) (body_so g w r c h l v 0 n known)

  -- a reference word of a block of the author that is in reach is what it names, where no own step is about to store it
  named_word : (b i : ℕ) → InReach w g (view r) c b → tag_author g.wide (w (Tag b)) ≡ a → i < tag_refs g.wide (w (Tag b)) → (r c).op ≡ Nothing → t (Body b i) ≡ w (Body b i)
  named_word b i reach author low idle =
      let counted = reach_counted g w (view r) h c b l reach in
      let refs : (words_of g.wide w).refs b ≡ tag_refs g.wide (w (Tag b)) = ap (λ y. refs_of g.wide y (w (Tag b))) counted.0 in
      cond-true (ltb i ((words_of g.wide w).refs b)) (covered (λ d. cover_of (r d).op) g.clients (Body b i) (w (Body b i))) 0 (lt-ltb i ((words_of g.wide w).refs b) (subst (λ k. i < k) (sym refs) low))
      ∙ covered_none g.clients (Body b i) (w (Body b i)) (λ d. cover_of (r d).op)
      (λ d ld y. elim (cases_eq c d) [
        | inl s ↦ ap (λ o. cover o (Body b i) y) (ap (λ j. cover_of (r j).op) (sym s) ∙ ap cover_of idle)
        | inr n ↦ cover_slot (r d).op (Body b i)
            (same_spot_not (slot_of (r d).op) (Body b i)
            (λ s. elim (step_holds g w (view r) h d (Body b i) ld (λ q. cc) s).2 [
              | inl u ↦ counted.1 u.0
              | inr u ↦ n (one_latch g w (view r) h c d a l ld latch (u.1 ∙ ap Some (sym u.0 ∙ author)))
            ])) y
      ])

  -- the value word of the entry names a block
  value_named : (entry n : ℕ) → HasRead a (r c) key entry → (r c).op ≡ Nothing → Contains (r c).known (record { spot = Body entry 1; value = n }) → n ≢ 0
  value_named entry n f idle known none =
      let s = bucket_so entry f in
      let k = chain_last (r c) f.home (key % 16) f.passed entry f.chain in
      let refs : tag_refs g.wide (w (Tag entry)) ≡ 2 = subst (λ b. tag_refs g.wide (w (Tag b)) ≡ 2) s.block s.entry.shape.names in
      let author : tag_author g.wide (w (Tag entry)) ≡ a = subst (λ b. tag_author g.wide (w (Tag b)) ≡ a) s.block s.entry.author in
      let named : t (Body entry 1) ≡ n = named_word entry 1 (inr (record { block = entry; from = k.0 }, k.1, refl)) author (omega arith) idle ∙ body_so g w r c h l entry 1 n known in
      let value : s.e.value ≡ n = sym s.entry.value ∙ (ap (λ b. t (Body b 1)) s.block ∙ named) in
      held_live_not_zero g w (view r) h s.e.value s.entry.holds.live (value ∙ none)

-- in a held state with such a memo the author's partition has the key at that entry
pub author_has : (me : Me) (a key entry : ℕ) (r : Memo) → HasRead a r key entry → me.who < me.geometry.clients → (w : Spot → ℕ) (rs : ℕ → Memo) → HeldAt me.geometry w (view rs) → rs me.who ≡ r → HasKey (rs a).part key entry
author_has me a key entry r f l w rs h same =
    let here : HasRead a (rs me.who) key entry = subst (λ (x : Memo). HasRead a x key entry) (sym same) f in
    found_so me.geometry w rs me.who a key h l here.latch here.table entry here

-- and where its value word was read, the author's map has the value block at the key, with the number in its word
pub author_names : (me : Me) (a key entry v : ℕ) (r : Memo) → HasRead a r key entry → IsLook r (Body entry 1) v → me.who < me.geometry.clients → (w : Spot → ℕ) (rs : ℕ → Memo) → HeldAt me.geometry w (view rs) → rs me.who ≡ r → map_in (rs a).part key ≡ Some (w (Body v 0), v)
author_names me a key entry v r f look l w rs h same =
    let here : HasRead a (rs me.who) key entry = subst (λ (x : Memo). HasRead a x key entry) (sym same) f in
    block_so me.geometry w rs me.who a key h l here.latch here.table entry v here (subst (λ (x : Memo). IsLook x (Body entry 1) v) (sym same) look)

-- which is a live block of one plain word
pub author_value : (me : Me) (a key entry v : ℕ) (r : Memo) → HasRead a r key entry → IsLook r (Body entry 1) v → me.who < me.geometry.clients → (w : Spot → ℕ) (rs : ℕ → Memo) → HeldAt me.geometry w (view rs) → rs me.who ≡ r → HasShape (contents_of me.geometry.wide w (targets me.geometry w (view rs))) 0 1 v
author_value me a key entry v r f look l w rs h same =
    let here : HasRead a (rs me.who) key entry = subst (λ (x : Memo). HasRead a x key entry) (sym same) f in
    shape_so me.geometry w rs me.who a key h l here.latch here.table entry v here (subst (λ (x : Memo). IsLook x (Body entry 1) v) (sym same) look)

-- and where the number of the value block was read too, it has that number there
pub author_maps : (me : Me) (a key entry v n : ℕ) (r : Memo) → HasRead a r key entry → IsLook r (Body entry 1) v → Contains r.known (record { spot = Body v 0; value = n }) → me.who < me.geometry.clients
    → (w : Spot → ℕ) (rs : ℕ → Memo) → HeldAt me.geometry w (view rs) → rs me.who ≡ r → map_in (rs a).part key ≡ Some (n, v)
author_maps me a key entry v n r f look known l w rs h same =
    let here : HasRead a (rs me.who) key entry = subst (λ (x : Memo). HasRead a x key entry) (sym same) f in
    value_so me.geometry w rs me.who a key h l here.latch here.table entry v n here (subst (λ (x : Memo). IsLook x (Body entry 1) v) (sym same) look) (subst (λ (x : Memo). Contains x.known (record { spot = Body v 0; value = n })) (sym same) known)

-- in a held state its value word, once it is known, names a block
pub entry_value : (me : Me) (a key entry n : ℕ) (r : Memo) → HasRead a r key entry → r.op ≡ Nothing → Contains r.known (record { spot = Body entry 1; value = n }) → me.who < me.geometry.clients → IsHeld me r → n ≢ 0
entry_value me a key entry n r f idle known l (w, rs, h, same) =
    subst (λ (x : Memo). HasRead a x key entry → x.op ≡ Nothing → Contains x.known (record { spot = Body entry 1; value = n }) → n ≢ 0) same
    (λ f idle known. value_named me.geometry w rs me.who a key h l f.latch f.table entry n f idle known)
    f idle known
