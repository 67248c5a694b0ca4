-- What a client finds that reads words of nodes.
use Rattle.std.proofs.Common.{◌≡◌, ℕ, ◌+◌, ◌<◌, List, [], ◌∷◌, ◌++◌, refl, sym, ap, ◌∙◌, subst, arith, inl, inr, eqb}
use Rattle.std.proofs.lemmas.{Bool.cases_eq, List.Elements.Contains-append_right}
use Rattle.std.specs.{Prelude.{Some, Result, Ok, Err, slice_index}, List.{Contains, filter}}
use Rattle.shm_words.specs.Tags.{tag_author, tag_plain, tag_refs}
use Rattle.shm_graph.specs.declared.{ask.Me.Me, memo.{Memo.Memo, Stored.Stored}, run.Start.Start, spot.Spot.Spot}
use Rattle.shm_graph.specs.{declared.spot.Spot.TheVariants.{Body, Root, Tag}, Asks.Trail, Core.core, Events.Event}
use Rattle.shm_graph.specs.{Held.is_loose, Idle.hold_word, MemoAfterRead.values_read, Reach.{learnt, not_at}, Spots.see}
use Rattle.shm_graph.specs.Views.{own_word}
use Rattle.shm_graph.proofs.StepKinds.Loads.{choice}
use Rattle.kind_laws.proofs.Lists.{Contains-filter}
use Rattle.shm_plain.specs.Pools.{Pool, memo_of, pool}
use Rattle.shm_count.specs.{Roots.member, Tear.Memos.Knows}
use Rattle.shm_ref.specs.declared.answer.LookFault.{LookFault, TheVariants.{NoSuchRef, NotHeld}}
use Rattle.shm_ref.specs.{declared.answer.NoSuchWord.NoSuchWord, Look.{LookLeaves, looking}, OnlyRead.OnlyRead}
use Rattle.shm_ref.specs.Proved.{OnlyRead.{look_reads, read_reads, still_reached}, SetRef.Memos.{seen_dying, seen_word}}
use Rattle.shm_ref.specs.{Read.{ReadLeaves, reading}, ReadParts.tagged, SetRef.Memos.{tag_seen, word_seen}}
use Rattle.shm_tree.specs.declared.node.Side.{Side, TheVariants.{Left, Right}}
use Rattle.shm_tree.specs.{Keeping.{HasNode, IsStill, child_of, side_word}, Standing.{IsNode, word_of}}
use Rattle.shm_tree.specs.Working.{AreSameRoots, IsWorking, Reaches}
use Rattle.shm_tree.proofs.Alive.{IsOn, IsQuiet, after, homeless_none, known_tag, known_word, still, works}
use Rattle.shm_tree.proofs.Nodes.{IsCalm, as_started, calm_held}

-- ---- what reading leaves of the memo

pub core_quiet : (m s r : Memo) → core r ≡ core s → IsQuiet m s → IsQuiet m r
core_quiet m s r e h =
    record {
      loose = ap (λ (x : Memo). is_loose x.part) e ∙ h.loose;
      unsent = λ j. ap (λ (x : Memo). slice_index x.unsent j) e ∙ h.unsent j;
      untaken = λ j. ap (λ (x : Memo). slice_index x.untaken j) e ∙ h.untaken j;
    }

pub quiet_self : (m : Memo) → IsQuiet m m
quiet_self m = record { loose = refl; unsent = λ j. refl; untaken = λ j. refl }

pub word_quiet : (b k t x : ℕ) (m : Memo) → IsQuiet m (word_seen b k t x m)
word_quiet b k t x m =
    let y : Memo = tag_seen b t m in
    choice (λ (z : Memo). IsQuiet m z) (eqb x 0) (record y { known = learnt (Body b k) x y.known }) (record y { looks = y.looks ++ record { block = x; from = Body b k } ∷ []; known = learnt (Body b k) x y.known; values = values_read y b k x })
    (λ e. record { loose = refl; unsent = λ j. refl; untaken = λ j. refl })
    (λ e. record { loose = refl; unsent = λ j. refl; untaken = λ j. refl })

-- the word and the tag are known
tag_knows : (b x : ℕ) (r0 r : Memo) → core r ≡ core (tagged b x r0) → Knows r (Tag b) x
tag_knows b x r0 r e = subst (λ (ks : List Stored). Contains ks (record { spot = Tag b; value = x })) (sym (ap (λ (y : Memo). y.known) e)) (0, omega arith, refl)

both_known : (b j v x : ℕ) (known : List Stored) → Contains (learnt (Body b j) v (learnt (Tag b) x known)) (record { spot = Tag b; value = x })
both_known b j v x known =
    let s : Stored = record { spot = Tag b; value = x } in
    let ks : List Stored = learnt (Tag b) x known in
    Contains-append_right (record { spot = Body b j; value = v } ∷ []) (filter (not_at (Body b j)) ks) s (Contains-filter (not_at (Body b j)) ks s (0, omega arith, refl) refl)

module _ (p q : Pool) (es : List Event) (on : IsOn p q es) where
  abbrev me : Me
  me = member p.start.geometry 0

  abbrev r0 : Memo
  r0 = memo_of p 0

  abbrev r : Memo
  r = memo_of q 0

  -- nothing but words was read
  read_roots : OnlyRead r0 r → AreSameRoots p q
  read_roots h k = ap (λ ks. own_word ks (Root 0 k)) h.own

  pub read_reaches : OnlyRead r0 r → Reaches p q
  read_reaches h b reach = still_reached 0 b r0 r h reach

  read_still : es ≡ [] → OnlyRead r0 r → r.dying ≡ r0.dying → IsStill p q
  read_still none h dying = still p q es on none (read_roots h) dying

  -- ---- a node

  module _ (b k n h : ℕ) (node : IsNode p b k n h) (s : IsStill p q) where
    node_after : IsNode (pool p.start q.words q.accounts q.turns) b k n h
    node_after = as_started (λ z. IsNode z b k n h) p q on.start (s.nodes b k n h node).node

    word_q : (x : Spot) → word_of q x ≡ see p.start.geometry q.words x
    word_q x = ap (λ (z : Start). see z.geometry q.words x) on.start

    pub refs_known : (x : ℕ) → Knows r (Tag b) x → tag_refs p.start.geometry.wide x ≡ 2
    refs_known x e = ap (tag_refs p.start.geometry.wide) (sym (known_tag p q es on b x e)) ∙ node_after.refs

    plain_known : (x : ℕ) → Knows r (Tag b) x → tag_plain p.start.geometry.wide x ≡ 3
    plain_known x e = ap (tag_plain p.start.geometry.wide) (sym (known_tag p q es on b x e)) ∙ node_after.plain

    pub author_known : (x : ℕ) → Knows r (Tag b) x → tag_author p.start.geometry.wide x ≡ 0
    author_known x e =
        let started : IsCalm (pool p.start q.words q.accounts q.turns) = as_started IsCalm p q on.start (after p q es on) in
        let low : tag_author p.start.geometry.wide (see p.start.geometry q.words (Tag b)) < p.start.geometry.clients = ((calm_held (pool p.start q.words q.accounts q.turns) started).blocks.tagged b node_after.live).author in
        let same : tag_author p.start.geometry.wide (see p.start.geometry q.words (Tag b)) ≡ tag_author p.start.geometry.wide x = ap (tag_author p.start.geometry.wide) (known_tag p q es on b x e) in
        let one : p.start.geometry.clients ≡ 1 = started.one in
        omega (arith, low, same, one)

    -- the child that is known is the one that it has
    child_known : (i : Side) (v : ℕ) → Knows r (Body b (side_word i)) v → v ≡ child_of p b i
    child_known Left v e = sym (known_word p q es on b 0 v e) ∙ (sym (word_q (Body b 0)) ∙ (s.nodes b k n h node).left)
    child_known Right v e = sym (known_word p q es on b 1 v e) ∙ (sym (word_q (Body b 1)) ∙ (s.nodes b k n h node).right)

    -- and so are key, number and height
    content_same : (i : ℕ) → i < 3 → see p.start.geometry q.words (Body b (2 + i)) ≡ word_of p (Body b (2 + i))
    content_same i low =
        elim (cases_eq i 0) [
          | inl e ↦ subst (λ j. see p.start.geometry q.words (Body b (2 + j)) ≡ word_of p (Body b (2 + j))) (sym e) (node_after.key ∙ sym node.key)
          | inr x ↦ elim (cases_eq i 1) [
            | inl e ↦ subst (λ j. see p.start.geometry q.words (Body b (2 + j)) ≡ word_of p (Body b (2 + j))) (sym e) (node_after.number ∙ sym node.number)
            | inr y ↦ (let e : i ≡ 2 = omega (arith, low, x, y) in subst (λ j. see p.start.geometry q.words (Body b (2 + j)) ≡ word_of p (Body b (2 + j))) (sym e) (node_after.height ∙ sym node.height))
          ]
        ]

  -- ---- a look at a child

  module _ (b i : ℕ) (tr : Trail) where
    look_dying : (a : Result ℕ LookFault) → LookLeaves (looking me b i) r0 r tr es a → r.dying ≡ r0.dying
    look_dying (Ok v) l = ap (λ (x : Memo). x.dying) l.memo ∙ seen_dying b i l.x v r0
    look_dying (Err (NoSuchRef n)) l = ap (λ (x : Memo). x.dying) l.memo
    look_dying (Err NotHeld) l = ap (λ (x : Memo). x.dying) l.memo

    pub look_works : (a : Result ℕ LookFault) → LookLeaves (looking me b i) r0 r tr es a → IsWorking q
    look_works (Ok v) l = works p q es on (core_quiet r0 (word_seen b i l.x v r0) r l.memo (word_quiet b i l.x v r0)) (homeless_none es l.none) (look_dying (Ok v) l)
    look_works (Err (NoSuchRef n)) l = works p q es on (core_quiet r0 (tagged b l.x r0) r l.memo (record { loose = refl; unsent = λ j. refl; untaken = λ j. refl })) (homeless_none es l.none) (ap (λ (x : Memo). x.dying) l.memo)
    look_works (Err NotHeld) l = works p q es on (core_quiet r0 (tagged b l.x r0) r l.memo (record { loose = refl; unsent = λ j. refl; untaken = λ j. refl })) (homeless_none es l.none) (ap (λ (x : Memo). x.dying) l.memo)

    pub look_only : (a : Result ℕ LookFault) → LookLeaves (looking me b i) r0 r tr es a → OnlyRead r0 r
    look_only a l = look_reads (looking me b i) r0 r tr es a l

    look_none : (a : Result ℕ LookFault) → LookLeaves (looking me b i) r0 r tr es a → es ≡ []
    look_none (Ok v) l = l.none
    look_none (Err (NoSuchRef n)) l = l.none
    look_none (Err NotHeld) l = l.none

    pub look_still : (a : Result ℕ LookFault) → LookLeaves (looking me b i) r0 r tr es a → IsStill p q
    look_still a l = read_still (look_none a l) (look_only a l) (look_dying a l)

  pub look_names : (b : ℕ) (s : Side) (tr : Trail) (v : ℕ) → HasNode p b → LookLeaves (looking me b (side_word s)) r0 r tr es (Ok v) → v ≡ child_of p b s
  look_names b s tr v (k, n, h, node) l =
      child_known b k n h node (look_still b (side_word s) tr (Ok v) l) s v
      (subst (λ (ks : List Stored). Contains ks (record { spot = Body b (side_word s); value = v })) (sym (ap (λ (x : Memo). x.known) l.memo)) (seen_word b (side_word s) l.x v r0))

  pub side_low : (s : Side) → side_word s < 2
  side_low Left = omega arith
  side_low Right = omega arith

  -- it isn't refused
  pub look_refused : (b : ℕ) (s : Side) (tr : Trail) (f : LookFault) → HasNode p b → r0.latch ≡ Some 0 → LookLeaves (looking me b (side_word s)) r0 r tr es (Err f) → ⊥
  look_refused b s tr (NoSuchRef c) (k, n, h, node) held l =
      let refs = refs_known b k n h node (look_still b (side_word s) tr (Err (NoSuchRef c)) l) l.x (tag_knows b l.x r0 r l.memo) in
      let low = side_low s in
      let high = l.high in
      let is : c ≡ tag_refs p.start.geometry.wide l.x = l.refs in
      omega (arith, refs, low, high, is)
  look_refused b s tr NotHeld (k, n, h, node) held l =
      let author = author_known b k n h node (look_still b (side_word s) tr (Err NotHeld) l) l.x (tag_knows b l.x r0 r l.memo) in
      l.other (on.working.work.idle.hold ∙ (ap hold_word held ∙ ap (λ n. n + 1) (sym author)))

  -- ---- a plain word

  module _ (b i : ℕ) (tr : Trail) where
    read_dying : (a : Result ℕ NoSuchWord) → ReadLeaves (reading me b i) r0 r tr es a → r.dying ≡ r0.dying
    read_dying (Ok v) l = ap (λ (x : Memo). x.dying) l.memo
    read_dying (Err e) l = ap (λ (x : Memo). x.dying) l.memo

    pub read_works : (a : Result ℕ NoSuchWord) → ReadLeaves (reading me b i) r0 r tr es a → IsWorking q
    read_works (Ok v) l = works p q es on (core_quiet r0 (record r0 { known = learnt (Body b (tag_refs me.geometry.wide l.x + i)) v (learnt (Tag b) l.x r0.known) }) r l.memo (record { loose = refl; unsent = λ j. refl; untaken = λ j. refl })) (homeless_none es l.none) (ap (λ (x : Memo). x.dying) l.memo)
    read_works (Err e) l = works p q es on (core_quiet r0 (tagged b l.x r0) r l.memo (record { loose = refl; unsent = λ j. refl; untaken = λ j. refl })) (homeless_none es l.none) (ap (λ (x : Memo). x.dying) l.memo)

    pub read_only : (a : Result ℕ NoSuchWord) → ReadLeaves (reading me b i) r0 r tr es a → OnlyRead r0 r
    read_only a l = read_reads (reading me b i) r0 r tr es a l

    read_none : (a : Result ℕ NoSuchWord) → ReadLeaves (reading me b i) r0 r tr es a → es ≡ []
    read_none (Ok v) l = l.none
    read_none (Err e) l = l.none

    pub plain_still : (a : Result ℕ NoSuchWord) → ReadLeaves (reading me b i) r0 r tr es a → IsStill p q
    plain_still a l = read_still (read_none a l) (read_only a l) (read_dying a l)

    pub plain_is : (v : ℕ) → HasNode p b → i < 3 → ReadLeaves (reading me b i) r0 r tr es (Ok v) → v ≡ word_of p (Body b (2 + i))
    plain_is v (k, n, h, node) low l =
        let s = plain_still (Ok v) l in
        let at : ℕ = tag_refs me.geometry.wide l.x + i in
        let tag : Knows r (Tag b) l.x = subst (λ (ks : List Stored). Contains ks (record { spot = Tag b; value = l.x })) (sym (ap (λ (x : Memo). x.known) l.memo)) (both_known b at v l.x r0.known) in
        let word : Knows r (Body b at) v = subst (λ (ks : List Stored). Contains ks (record { spot = Body b at; value = v })) (sym (ap (λ (x : Memo). x.known) l.memo)) (0, omega arith, refl) in
        let two : at ≡ 2 + i = ap (λ z. z + i) (refs_known b k n h node s l.x tag) in
        sym (known_word p q es on b at v word) ∙ (ap (λ z. see p.start.geometry q.words (Body b z)) two ∙ content_same b k n h node s i low)

    pub plain_refused : (f : NoSuchWord) → HasNode p b → i < 3 → ReadLeaves (reading me b i) r0 r tr es (Err f) → ⊥
    plain_refused f (k, n, h, node) low l =
        let plain = plain_known b k n h node (plain_still (Err f) l) l.x (tag_knows b l.x r0 r l.memo) in
        let high = l.high in
        let is = l.plain in
        omega (arith, plain, low, high, is)
