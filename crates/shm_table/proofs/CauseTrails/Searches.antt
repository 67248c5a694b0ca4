-- an allocation that is refused as spent has read that era, and one that found no empty root has read all roots
use Rattle.std.proofs.Common.{◌≡◌, ◌≢◌, ℕ, zero, suc, ◌+◌, ◌-◌, ◌*◌, ◌/◌, ◌^◌, ◌<◌, ◌≤◌, refl, sym, subst, arith, Bool, true, false, [], ◌∷◌, inl, inr}
use Rattle.std.proofs.lemmas.{Bool.{cases_eq, eqb-false}, List.Elements.Contains-append_right}
use Rattle.std.specs.{Prelude.{◌==◌, nat_lt, Ok, Err, slice_index}, List.Contains}
use Rattle.shm_words.specs.{Layout.address, Redos.{first_word, second_word}}
use Rattle.shm_words.specs.declared.place.Place.TheVariants as place
use Rattle.shm_graph.specs.declared.{ask.{Ask.{Ask, TheVariants.{Load, Store, Exchange}}, Me.Me}, memo.Seen.Seen}
use Rattle.shm_graph.specs.{Asks.{Trail, pair}, Trails.{Answers, Asked, Chosen}}
use Rattle.kind_laws.proofs.Lists.{newest}
use Rattle.shm_count.specs.declared.answer.Made.{Made}
use Rattle.shm_alloc.specs.declared.alloc.AllocFault.{AllocFault, TheVariants.{EraSpent, RootsFull, Full}}
use Rattle.shm_alloc.specs.declared.request.Request.{Request}
use Rattle.shm_alloc.specs.Alloc.Asks.{AllocTrails, alloc_trail, block_trail, class_trail, close_trail, commit_trail, first_trail, header_trail, headers_trail, live_trail, more_trail, page_trail, plain_trail, reference_trail, root_trail, segment_trail, slot_trail}
use Rattle.shm_alloc.specs.Alloc.Control.{class_asked, header_made, index_at, page_at, redo_asked, segment_at, tag_asked}
use Rattle.shm_table.specs.Causes.{LoadsEra, LoadsRoot}

-- it is refused since no block was free
abbrev IsFull : AllocFault → Type 0
IsFull (Full s b) = Unit {0}
IsFull f = ⊥

-- trails of this kind that end in a refusal end in that one
abbrev Late : AllocTrails → Type 0
Late f = (tr : Trail) (a : AllocFault) → f tr (Err a) → IsFull a

late_asked : (k : Ask) (next : ℕ → AllocTrails) → ((x : ℕ) → Late (next x)) → Late (Asked k next)
late_asked k next s tr a t = s t.0 t.1.0 a t.1.1.1

late_chosen : (b : Bool) (f g : AllocTrails) → Late f → Late g → Late (Chosen b f g)
late_chosen true f g one other = one
late_chosen false f g one other = other

late_made : (a : Made) → Late (Answers (Ok a))
late_made a tr f t = absurd (let same = t.1 in cc)

module _ (me : Me) (q : Request) where
  -- ---- a block is made

  slot_late : (e k b : ℕ) → Late (slot_trail me q e k b)
  slot_late e k b =
      late_asked (Store (address me.geometry (place.Root me.who k)) b) (λ _. close_trail me q e k b)
      (λ _. late_asked (Store (address me.geometry (place.Era me.who me.who)) (e + 1)) (λ _. Answers (Ok (record { root = k; block = b }))) (λ _. late_made (record { root = k; block = b })))

  live_late : (e k b : ℕ) → Late (live_trail me q e k b)
  live_late e k b =
      late_asked (Store (address me.geometry (place.Redo me.who)) (first_word me.geometry.wide (redo_asked me k b))) (λ _. commit_trail me q e k b)
      (λ _. late_asked (Exchange b 0 (header_made me.who e)) (λ _. slot_trail me q e k b) (λ _. slot_late e k b))

  first_late : (e k b : ℕ) → Late (first_trail me q e k b)
  first_late e k b =
      late_chosen me.geometry.wide (more_trail me q e k b) (live_trail me q e k b)
      (late_asked (Store (address me.geometry (place.RedoMore me.who)) (second_word me.geometry.wide (redo_asked me k b))) (λ _. live_trail me q e k b) (λ _. live_late e k b))
      (live_late e k b)

  plain_late : (n i e k b : ℕ) → Late (plain_trail me q n i e k b)
  plain_late zero i e k b = first_late e k b
  plain_late (suc n) i e k b = late_asked (Store (b + 2 + q.refs + i) (slice_index q.plain i)) (λ _. plain_trail me q n (i + 1) e k b) (λ _. plain_late n (i + 1) e k b)

  reference_late : (n i e k b : ℕ) → Late (reference_trail me q n i e k b)
  reference_late zero i e k b = plain_late q.count 0 e k b
  reference_late (suc n) i e k b = late_asked (Store (b + 2 + i) 0) (λ _. reference_trail me q n (i + 1) e k b) (λ _. reference_late n (i + 1) e k b)

  block_late : (e k b : ℕ) → Late (block_trail me q e k b)
  block_late e k b = late_asked (Store (b + 1) (tag_asked me.geometry.wide q me.who)) (λ _. reference_trail me q q.refs 0 e k b) (λ _. reference_late q.refs 0 e k b)

  -- ---- a block is looked for

  header_late : (n i at e k used : ℕ) (rest : ℕ → AllocTrails) → ((u : ℕ) → Late (rest u)) → Late (header_trail me q n i at e k used rest)
  header_late zero i at e k used rest s = s used
  header_late (suc n) i at e k used rest s =
      late_asked (Load (at + class_asked q * index_at q i)) (λ x. Chosen (x == 0) (block_trail me q e k (at + class_asked q * index_at q i)) (header_trail me q n (i + 1) at e k (used + 1) rest))
      (λ x. late_chosen (x == 0) (block_trail me q e k (at + class_asked q * index_at q i)) (header_trail me q n (i + 1) at e k (used + 1) rest) (block_late e k (at + class_asked q * index_at q i)) (header_late n (i + 1) at e k (used + 1) rest s))

  headers_late : (s p e k used : ℕ) (rest : ℕ → AllocTrails) → ((u : ℕ) → Late (rest u)) → Late (headers_trail me q s p e k used rest)
  headers_late s p e k used rest h = header_late (128 / class_asked q) 0 (address me.geometry (place.Body s p 0)) e k used rest h

  page_late : (n p s e k used : ℕ) (rest : ℕ → AllocTrails) → ((u : ℕ) → Late (rest u)) → Late (page_trail me q n p s e k used rest)
  page_late zero p s e k used rest h = h used
  page_late (suc n) p s e k used rest h =
      let j : ℕ = page_at q p in
      let next : ℕ → AllocTrails = λ u. page_trail me q n (p + 1) s e k u rest in
      let late : (u : ℕ) → Late (next u) = λ u. page_late n (p + 1) s e k u rest h in
      late_asked (Load (address me.geometry (place.Page s j))) (λ x. Chosen (x == 0) (class_trail me q s j e k used next) (Chosen (x == class_asked q) (headers_trail me q s j e k used next) (next used)))
      (λ x. late_chosen (x == 0) (class_trail me q s j e k used next) (Chosen (x == class_asked q) (headers_trail me q s j e k used next) (next used))
      (late_asked (Store (address me.geometry (place.Page s j)) (class_asked q)) (λ _. headers_trail me q s j e k used next) (λ _. headers_late s j e k used next late))
      (late_chosen (x == class_asked q) (headers_trail me q s j e k used next) (next used) (headers_late s j e k used next late) (late used)))

  segment_late : (n s e k taken used : ℕ) → Late (segment_trail me q n s e k taken used)
  segment_late zero s e k taken used tr a h = let same = h.1 in let is : Full taken used ≡ a = cc in subst IsFull is tt
  segment_late (suc n) s e k taken used tr a h =
      let j : ℕ = segment_at me q s in
      let own : AllocTrails = page_trail me q 16 0 j e k used (λ u. segment_trail me q n (s + 1) e k taken u) in
      let other : AllocTrails = segment_trail me q n (s + 1) e k (taken + 1) used in
      let own_late : Late own = page_late 16 0 j e k used (λ u. segment_trail me q n (s + 1) e k taken u) (λ u. segment_late n (s + 1) e k taken u) in
      let other_late : Late other = segment_late n (s + 1) e k (taken + 1) used in
      late_asked (Load (address me.geometry (place.Segment j))) (λ x. Chosen (x == 0) (Asked (Exchange (address me.geometry (place.Segment j)) 0 (me.who + 1)) (λ y. Chosen (y == 0) own other)) (Chosen (x == me.who + 1) own other))
      (λ x. late_chosen (x == 0) (Asked (Exchange (address me.geometry (place.Segment j)) 0 (me.who + 1)) (λ y. Chosen (y == 0) own other)) (Chosen (x == me.who + 1) own other)
      (late_asked (Exchange (address me.geometry (place.Segment j)) 0 (me.who + 1)) (λ y. Chosen (y == 0) own other) (λ y. late_chosen (y == 0) own other own_late other_late))
      (late_chosen (x == me.who + 1) own other own_late other_late)) tr a h

  -- ---- the roots

  -- what roots from k on, n of them, were read to name
  abbrev RootsSo : ℕ → ℕ → Trail → AllocFault → Type 0
  RootsSo n k tr (EraSpent e) = ⊥
  RootsSo n k tr RootsFull = (j : ℕ) → k ≤ j → j < k + n → LoadsRoot me j tr
  RootsSo n k tr (Full s b) = Unit {0}

  roots_of_full : (n k : ℕ) (tr : Trail) (a : AllocFault) → IsFull a → RootsSo n k tr a
  roots_of_full n k tr (EraSpent e) h = h
  roots_of_full n k tr RootsFull h = absurd h
  roots_of_full n k tr (Full s b) h = tt

  roots_read : (n k e : ℕ) (tr : Trail) (a : AllocFault) → root_trail me q n k e tr (Err a) → RootsSo n k tr a
  roots_read zero k e tr a h = let same = h.1 in let is : RootsFull ≡ a = cc in subst (RootsSo 0 k tr) is (λ j l m. absurd (omega (arith, l, m)))
  roots_read (suc n) k e tr a (x, (rest, (told, h))) = go a (x == 0) (eqb-false x 0) (roots_read n (k + 1) e rest a) h
    where
      load : Seen
      load = pair (Load (address me.geometry (place.Root me.who k))) x

      next : ((x ≡ 0) → ⊥) → RootsSo n (k + 1) rest RootsFull → (j : ℕ) → k ≤ j → j < k + suc n → LoadsRoot me j tr
      next some h j l m =
          elim (cases_eq j k) [
            | inl is ↦ subst (λ i. LoadsRoot me i tr) (sym is) (x, some, subst (λ (u : Trail). Contains u load) (sym told) (newest load rest))
            | inr other ↦ (let y = h j (omega (arith, l, other)) (omega (arith, m)) in (y.0, y.1, subst (λ (u : Trail). Contains u (pair (Load (address me.geometry (place.Root me.who j))) y.0)) (sym told) (Contains-append_right (load ∷ []) rest (pair (Load (address me.geometry (place.Root me.who j))) y.0) y.2)))
          ]

      one_more : (a : AllocFault) → ((x ≡ 0) → ⊥) → RootsSo n (k + 1) rest a → RootsSo (suc n) k tr a
      one_more (EraSpent y) some h = h
      one_more (Full s b) some h = tt
      one_more RootsFull some h = next some h

      go : (a : AllocFault) (z : Bool) → (z ≡ false → x ≢ 0) → (root_trail me q n (k + 1) e rest (Err a) → RootsSo n (k + 1) rest a) → Chosen z (segment_trail me q me.geometry.segments 0 e k 0 0) (root_trail me q n (k + 1) e) rest (Err a) → RootsSo (suc n) k tr a
      go a true other on h = roots_of_full (suc n) k tr a (segment_late me.geometry.segments 0 e k 0 0 rest a h)
      go a false other on h = one_more a (other refl) (on h)

  -- ---- the whole

  abbrev era_load : ℕ → Seen
  era_load n = pair (Load (address me.geometry (place.Era me.who me.who))) n

  pub alloc_era : (tr : Trail) (e : ℕ) → alloc_trail me q tr (Err (EraSpent e)) → LoadsEra me e tr
  alloc_era tr e (x, (rest, (told, h))) = go (nat_lt (2 ^ 47 - 3) x) h
    where
      go : (z : Bool) → Chosen z (Answers (Err (EraSpent x))) (root_trail me q 16 0 x) rest (Err (EraSpent e)) → LoadsEra me e tr
      go true h = let same = h.1 in let is : x ≡ e = cc in subst (λ (u : Trail). LoadsEra me e u) (sym told) (subst (λ n. Contains (era_load x ∷ rest) (era_load n)) is (newest (era_load x) rest))
      go false h = absurd (roots_read 16 0 x rest (EraSpent e) h)

  pub alloc_roots : (tr : Trail) → alloc_trail me q tr (Err RootsFull) → (j : ℕ) → j < 16 → LoadsRoot me j tr
  alloc_roots tr (x, (rest, (told, h))) j l = go (nat_lt (2 ^ 47 - 3) x) h
    where
      go : (z : Bool) → Chosen z (Answers (Err (EraSpent x))) (root_trail me q 16 0 x) rest (Err RootsFull) → LoadsRoot me j tr
      go true h = absurd (let same = h.1 in cc)
      go false h =
          let y = roots_read 16 0 x rest RootsFull h j (omega arith) (omega (arith, l)) in
          (y.0, y.1, subst (λ (u : Trail). Contains u (pair (Load (address me.geometry (place.Root me.who j))) y.0)) (sym told) (Contains-append_right (era_load x ∷ []) rest (pair (Load (address me.geometry (place.Root me.who j))) y.0) y.2))
