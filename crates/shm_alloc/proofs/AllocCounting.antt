-- an allocation that finds no free block answers how many segments of others and how many blocks in use its trail shows
use Rattle.std.proofs.Common.{◌≡◌, ℕ, zero, suc, ◌+◌, ◌-◌, ◌*◌, ◌/◌, ◌^◌, ◌<◌, ◌≤◌, refl, sym, ap, ◌∙◌, subst, arith, inl, inr, Bool, true, false}
use Rattle.std.proofs.lemmas.Bool.{lt-ltb, cond-true, cond-false, Decides.nat_tests}
use Rattle.std.specs.Prelude.{◌==◌, nat_lt, if◌then◌else◌, Result, Ok, Err, slice_index}
use Rattle.shm_words.specs.{declared.place.Place.Place, Layout.{address, place_at, is_in}}
use Rattle.shm_words.specs.{Redos.{first_word, second_word}, Classes.IsClass}
use Rattle.shm_words.specs.declared.place.Place.TheVariants as place
use Rattle.shm_words.proofs.{Classing.class_is, Placing.place-address, Regions.body_at}
use Rattle.shm_graph.specs.{declared.ask.{Ask.{Ask, TheVariants.{Load, Store, Exchange}}, Me.Me}, Asks.Trail}
use Rattle.shm_graph.specs.Trails.{Answers, Asked, Chosen}
use Rattle.shm_count.specs.declared.answer.Made.{Made}
use Rattle.shm_alloc.specs.declared.alloc.AllocFault.{AllocFault, TheVariants.{EraSpent, Full}}
use Rattle.shm_alloc.specs.declared.request.Request.{Request}
use Rattle.shm_alloc.specs.Alloc.Control.{class_asked, tag_asked, header_made, redo_asked, segment_at, page_at, index_at}
use Rattle.shm_alloc.specs.Alloc.Asks.{AllocTrails, alloc_trail, root_trail, segment_trail, page_trail, header_trail, headers_trail, class_trail, block_trail, reference_trail, plain_trail, live_trail, more_trail, first_trail, commit_trail, slot_trail, close_trail}
use Rattle.shm_alloc.specs.Alloc.Counts.{load_taken, claim_taken, load_used, taken_by, used_by, taken_in, used_in}
use Rattle.shm_alloc.specs.Proved.Turning.{segment_below, page_below, index_below}

-- the numbers in the answer of an allocation that found no free block
abbrev pub Tells : Result Made AllocFault → ℕ → ℕ → Type 0
Tells (Err (Full taken used)) t u = (taken ≡ t) × (used ≡ u)
Tells _ t u = Unit {0}

-- the same numbers, told otherwise
tells_same : (a : Result Made AllocFault) (t t2 u u2 : ℕ) → t ≡ t2 → u ≡ u2 → Tells a t u → Tells a t2 u2
tells_same a t t2 u u2 e f k = subst (λ (x : ℕ). Tells a x u2) e (subst (λ (x : ℕ). Tells a t x) f k)

module _ (me : Me) where
  -- after t segments of others and u blocks in use, each of the trails answers these and those that it shows
  abbrev pub Counts : AllocTrails → ℕ → ℕ → Type 0
  Counts f t u = (tr : Trail) (a : Result Made AllocFault) → f tr a → Tells a (t + taken_in me tr) (u + used_in me tr)

  -- the answer itself, where nothing is asked any more
  counts_full : (t u : ℕ) → Counts (Answers (Err (Full t u))) t u
  counts_full t u tr a k =
      subst (λ (x : Trail). Tells a (t + taken_in me x) (u + used_in me x)) (sym k.0)
      (subst (λ (b : Result Made AllocFault). Tells b (t + 0) (u + 0)) k.1 (omega arith, omega arith))

  -- one pair, and what follows after what it shows
  counts_asked : (k : Ask) (next : ℕ → AllocTrails) (t u : ℕ) → ((n : ℕ) → Counts (next n) (t + taken_by me k n) (u + used_by me k n)) → Counts (Asked k next) t u
  counts_asked k next t u s tr a h =
      let n = h.0 in let rest = h.1.0 in
      subst (λ (x : Trail). Tells a (t + taken_in me x) (u + used_in me x)) (sym h.1.1.0)
      (tells_same a (t + taken_by me k n + taken_in me rest) (t + (taken_by me k n + taken_in me rest)) (u + used_by me k n + used_in me rest) (u + (used_by me k n + used_in me rest)) (omega arith) (omega arith) (s n rest a h.1.1.1))

  -- the pair counts so much
  counts_at : (f : AllocTrails) (t x u y t2 u2 : ℕ) → t + x ≡ t2 → u + y ≡ u2 → Counts f t2 u2 → Counts f (t + x) (u + y)
  counts_at f t x u y t2 u2 e d s tr a h = tells_same a (t2 + taken_in me tr) (t + x + taken_in me tr) (u2 + used_in me tr) (u + y + used_in me tr) (omega arith) (omega arith) (s tr a h)

  -- the choice between two kinds of trails
  counts_chosen : (b : Bool) (f g : AllocTrails) (t u : ℕ) → (b ≡ true → Counts f t u) → (b ≡ false → Counts g t u) → Counts (Chosen b f g) t u
  counts_chosen true f g t u one other = one refl
  counts_chosen false f g t u one other = other refl

  -- ---- the making of a block answers no such numbers

  -- whatever was counted before, the trails answer no other numbers: they answer none
  abbrev pub Never : AllocTrails → Type 0
  Never f = (t u : ℕ) → Counts f t u

  -- one pair, and what follows
  never_asked : (k : Ask) (next : ℕ → AllocTrails) → ((n : ℕ) → Never (next n)) → Never (Asked k next)
  never_asked k next s t u = counts_asked k next t u (λ n. s n (t + taken_by me k n) (u + used_by me k n))

  module _ (q : Request) where
    -- the own era is the last word
    close_never : (e k b : ℕ) → Never (close_trail me q e k b)
    close_never e k b = never_asked (Store (address me.geometry (place.Era me.who me.who)) (e + 1)) (λ _. Answers (Ok (record { root = k; block = b }))) (λ _ t u tr a h. subst (λ (x : Result Made AllocFault). Tells x (t + taken_in me tr) (u + used_in me tr)) h.1 tt)

    -- the root
    slot_never : (e k b : ℕ) → Never (slot_trail me q e k b)
    slot_never e k b = never_asked (Store (address me.geometry (place.Root me.who k)) b) (λ _. close_trail me q e k b) (λ _. close_never e k b)

    -- the header
    commit_never : (e k b : ℕ) → Never (commit_trail me q e k b)
    commit_never e k b = never_asked (Exchange b 0 (header_made me.who e)) (λ _. slot_trail me q e k b) (λ _. slot_never e k b)

    -- the redo record
    live_never : (e k b : ℕ) → Never (live_trail me q e k b)
    live_never e k b = never_asked (Store (address me.geometry (place.Redo me.who)) (first_word me.geometry.wide (redo_asked me k b))) (λ _. commit_trail me q e k b) (λ _. commit_never e k b)

    -- in format 2 its second word comes before
    first_never : (e k b : ℕ) → Never (first_trail me q e k b)
    first_never e k b = go me.geometry.wide
      where
        go : (x : Bool) → Never (Chosen x (more_trail me q e k b) (live_trail me q e k b))
        go true = never_asked (Store (address me.geometry (place.RedoMore me.who)) (second_word me.geometry.wide (redo_asked me k b))) (λ _. live_trail me q e k b) (λ _. live_never e k b)
        go false = live_never e k b

    -- the plain words
    plain_never : (n i e k b : ℕ) → Never (plain_trail me q n i e k b)
    plain_never zero i e k b = first_never e k b
    plain_never (suc n) i e k b = never_asked (Store (b + 2 + q.refs + i) (slice_index q.plain i)) (λ _. plain_trail me q n (i + 1) e k b) (λ _. plain_never n (i + 1) e k b)

    -- the reference words
    reference_never : (n i e k b : ℕ) → Never (reference_trail me q n i e k b)
    reference_never zero i e k b = plain_never q.count 0 e k b
    reference_never (suc n) i e k b = never_asked (Store (b + 2 + i) 0) (λ _. reference_trail me q n (i + 1) e k b) (λ _. reference_never n (i + 1) e k b)

    -- the tag
    pub block_never : (e k b : ℕ) → Never (block_trail me q e k b)
    block_never e k b = never_asked (Store (b + 1) (tag_asked me.geometry.wide q me.who)) (λ _. reference_trail me q q.refs 0 e k b) (λ _. reference_never q.refs 0 e k b)

-- ---- what each pair counts

-- block i of a page is a word of its body
block_place : (me : Me) (s p k : ℕ) → s < me.geometry.segments → p < 16 → k < 128 → place_at me.geometry (address me.geometry (place.Body s p 0) + k) ≡ place.Body s p k
unfolding address
block_place me s p k l m n = ap (place_at me.geometry) (omega arith) ∙ body_at me.geometry s p k l m n

-- the blocks of a page lie in it
block_within : (k i : ℕ) → IsClass k → i < 128 / k → k * i < 128
block_within k i (inl e) = subst (λ (x : ℕ). i < 128 / x → x * i < 128) (sym e) (λ l. omega arith)
block_within k i (inr (inl e)) = subst (λ (x : ℕ). i < 128 / x → x * i < 128) (sym e) (λ l. omega arith)
block_within k i (inr (inr (inl e))) = subst (λ (x : ℕ). i < 128 / x → x * i < 128) (sym e) (λ l. omega arith)
block_within k i (inr (inr (inr e))) = subst (λ (x : ℕ). i < 128 / x → x * i < 128) (sym e) (λ l. omega arith)

-- a load, or an exchange, at a place counts what such a place counts
module _ (me : Me) (at : ℕ) (q : Place) (e : place_at me.geometry at ≡ q) where
  -- what a load shows of the owner of a segment
  load_takes : (n : ℕ) → taken_by me (Load at) n ≡ load_taken me.who q n
  load_takes n = ap (λ (x : Place). load_taken me.who x n) e

  -- what a load shows of a block
  load_uses : (n : ℕ) → used_by me (Load at) n ≡ load_used q n
  load_uses n = ap (λ (x : Place). load_used x n) e

  -- what an exchange shows of the owner of a segment
  claim_takes : (from to n : ℕ) → taken_by me (Exchange at from to) n ≡ claim_taken q n
  claim_takes from to n = ap (λ (x : Place). claim_taken x n) e

-- nothing is added
with_none : (t x : ℕ) → x ≡ 0 → t + x ≡ t
with_none t x e = omega arith

-- one is added
with_one : (t x : ℕ) → x ≡ 1 → t + x ≡ t + 1
with_one t x e = omega arith

-- ---- the search counts as it goes

module _ (me : Me) (q : Request) (who : me.who < me.geometry.clients) where
  -- the headers of a page from block i on: each that isn't free counts
  counts_header : (n i s p e k t u : ℕ) (rest : ℕ → AllocTrails) → s < me.geometry.segments → p < 16 → i + n ≤ 128 / class_asked q → ((x : ℕ) → Counts me (rest x) t x)
      → Counts me (header_trail me q n i (address me.geometry (place.Body s p 0)) e k u rest) t u
  counts_header zero i s p e k t u rest l m w c = c u
  counts_header (suc n) i s p e k t u rest l m w c =
      let j : ℕ = index_at q i in
      let at : ℕ = address me.geometry (place.Body s p 0) + class_asked q * j in
      let there : place_at me.geometry at ≡ place.Body s p (class_asked q * j) = block_place me s p (class_asked q * j) l m (block_within (class_asked q) j (class_is q.refs q.count) (index_below q i (omega arith))) in
      let free : AllocTrails = block_trail me q e k at in
      let on : AllocTrails = header_trail me q n (i + 1) (address me.geometry (place.Body s p 0)) e k (u + 1) rest in
      let none : (x : ℕ) → t + taken_by me (Load at) x ≡ t = λ x. with_none t (taken_by me (Load at) x) (load_takes me at (place.Body s p (class_asked q * j)) there x) in
      counts_asked me (Load at) (λ x. Chosen (x == 0) free on) t u
      (λ x. counts_chosen me (x == 0) free on (t + taken_by me (Load at) x) (u + used_by me (Load at) x)
      (λ z. block_never me q e k at (t + taken_by me (Load at) x) (u + used_by me (Load at) x))
      (λ z. counts_at me on t (taken_by me (Load at) x) u (used_by me (Load at) x) t (u + 1) (none x)
      (with_one u (used_by me (Load at) x) (load_uses me at (place.Body s p (class_asked q * j)) there x ∙ cond-false (x == 0) 0 1 z))
      (counts_header n (i + 1) s p e k t (u + 1) rest l m (omega arith) c)))

  -- all headers of a page
  counts_headers : (s p e k t u : ℕ) (rest : ℕ → AllocTrails) → s < me.geometry.segments → p < 16 → ((x : ℕ) → Counts me (rest x) t x) → Counts me (headers_trail me q s p e k u rest) t u
  counts_headers s p e k t u rest l m c = counts_header (128 / class_asked q) 0 s p e k t u rest l m (omega arith) c

  -- the store of a class counts nothing
  counts_class : (s p e k t u : ℕ) (rest : ℕ → AllocTrails) → s < me.geometry.segments → p < 16 → ((x : ℕ) → Counts me (rest x) t x) → Counts me (class_trail me q s p e k u rest) t u
  counts_class s p e k t u rest l m c =
      counts_asked me (Store (address me.geometry (place.Page s p)) (class_asked q)) (λ _. headers_trail me q s p e k u rest) t u
      (λ x. counts_at me (headers_trail me q s p e k u rest) t 0 u 0 t u (omega arith) (omega arith) (counts_headers s p e k t u rest l m c))

  -- the pool has the page
  page_in : (s p : ℕ) → s < me.geometry.segments → p < 16 → is_in me.geometry (place.Page s p) ≡ true
  page_in s p l m = grind (arith, nat_tests)

  -- the pages of a segment from page p on: their words count nothing
  counts_page : (n p s e k t u : ℕ) (rest : ℕ → AllocTrails) → s < me.geometry.segments → p + n ≤ 16 → ((x : ℕ) → Counts me (rest x) t x) → Counts me (page_trail me q n p s e k u rest) t u
  counts_page zero p s e k t u rest l m c = c u
  counts_page (suc n) p s e k t u rest l m c =
      let j : ℕ = page_at q p in
      let here : j < 16 = page_below q p (omega arith) in
      let at : ℕ = address me.geometry (place.Page s j) in
      let there : place_at me.geometry at ≡ place.Page s j = place-address me.geometry (place.Page s j) (page_in s j l here) in
      let after : ℕ → AllocTrails = λ v. page_trail me q n (p + 1) s e k v rest in
      let short : (v : ℕ) → Counts me (after v) t v = λ v. counts_page n (p + 1) s e k t v rest l (omega arith) c in
      let classed : AllocTrails = class_trail me q s j e k u after in
      let headed : AllocTrails = headers_trail me q s j e k u after in
      counts_asked me (Load at) (λ x. Chosen (x == 0) classed (Chosen (x == class_asked q) headed (after u))) t u
      (λ x. counts_at me (Chosen (x == 0) classed (Chosen (x == class_asked q) headed (after u))) t (taken_by me (Load at) x) u (used_by me (Load at) x) t u
      (with_none t (taken_by me (Load at) x) (load_takes me at (place.Page s j) there x)) (with_none u (used_by me (Load at) x) (load_uses me at (place.Page s j) there x))
      (counts_chosen me (x == 0) classed (Chosen (x == class_asked q) headed (after u)) t u (λ z. counts_class s j e k t u after l here short)
      (λ z. counts_chosen me (x == class_asked q) headed (after u) t u (λ y. counts_headers s j e k t u after l here short) (λ y. short u))))

  -- the pool has the segment
  segment_in : (s : ℕ) → s < me.geometry.segments → is_in me.geometry (place.Segment s) ≡ true
  segment_in s l = lt-ltb s me.geometry.segments l

  -- a segment that was nobody's is claimed, or another was faster
  counts_claim : (s t u : ℕ) (own other : AllocTrails) → s < me.geometry.segments → Counts me own t u → Counts me other (t + 1) u
      → Counts me (Asked (Exchange (address me.geometry (place.Segment s)) 0 (me.who + 1)) (λ y. Chosen (y == 0) own other)) t u
  counts_claim s t u own other l c d =
      let at : ℕ = address me.geometry (place.Segment s) in
      let ask : Ask = Exchange at 0 (me.who + 1) in
      let there : place_at me.geometry at ≡ place.Segment s = place-address me.geometry (place.Segment s) (segment_in s l) in
      counts_asked me ask (λ y. Chosen (y == 0) own other) t u
      (λ y. counts_chosen me (y == 0) own other (t + taken_by me ask y) (u + used_by me ask y)
      (λ z. counts_at me own t (taken_by me ask y) u (used_by me ask y) t u (with_none t (taken_by me ask y) (claim_takes me at (place.Segment s) there 0 (me.who + 1) y ∙ cond-true (y == 0) 0 1 z)) (omega arith) c)
      (λ z. counts_at me other t (taken_by me ask y) u (used_by me ask y) (t + 1) u (with_one t (taken_by me ask y) (claim_takes me at (place.Segment s) there 0 (me.who + 1) y ∙ cond-false (y == 0) 0 1 z)) (omega arith) d))

  -- a segment is nobody's, one's own, or another's
  counts_owner : (s t u : ℕ) (claim own other : AllocTrails) → s < me.geometry.segments → Counts me claim t u → Counts me own t u → Counts me other (t + 1) u
      → Counts me (Asked (Load (address me.geometry (place.Segment s))) (λ x. Chosen (x == 0) claim (Chosen (x == me.who + 1) own other))) t u
  counts_owner s t u claim own other l b c d =
      let at : ℕ = address me.geometry (place.Segment s) in
      let there : place_at me.geometry at ≡ place.Segment s = place-address me.geometry (place.Segment s) (segment_in s l) in
      let none : (x : ℕ) → u + used_by me (Load at) x ≡ u = λ x. with_none u (used_by me (Load at) x) (load_uses me at (place.Segment s) there x) in
      let tells : (x : ℕ) → taken_by me (Load at) x ≡ (if x == 0 then 0 else if x == me.who + 1 then 0 else 1) = λ x. load_takes me at (place.Segment s) there x in
      counts_asked me (Load at) (λ x. Chosen (x == 0) claim (Chosen (x == me.who + 1) own other)) t u
      (λ x.
      let more : ℕ = taken_by me (Load at) x in
      let uses : ℕ = used_by me (Load at) x in
      let inner : ℕ = if x == me.who + 1 then 0 else 1 in
      counts_chosen me (x == 0) claim (Chosen (x == me.who + 1) own other) (t + more) (u + uses)
      (λ z. counts_at me claim t more u uses t u (with_none t more (tells x ∙ cond-true (x == 0) 0 inner z)) (none x) b)
      (λ z. counts_chosen me (x == me.who + 1) own other (t + more) (u + uses)
      (λ y. counts_at me own t more u uses t u (with_none t more (tells x ∙ (cond-false (x == 0) 0 inner z ∙ cond-true (x == me.who + 1) 0 1 y))) (none x) c)
      (λ y. counts_at me other t more u uses (t + 1) u (with_one t more (tells x ∙ (cond-false (x == 0) 0 inner z ∙ cond-false (x == me.who + 1) 0 1 y))) (none x) d)))

  -- the segments from segment s on
  counts_segment : (n s e k t u : ℕ) → s + n ≤ me.geometry.segments → Counts me (segment_trail me q n s e k t u) t u
  counts_segment zero s e k t u l = counts_full me t u
  counts_segment (suc n) s e k t u l =
      let after : ℕ → AllocTrails = λ v. segment_trail me q n (s + 1) e k t v in
      let other : AllocTrails = segment_trail me q n (s + 1) e k (t + 1) u in
      let j : ℕ = segment_at me q s in
      let here : j < me.geometry.segments = segment_below me q s (omega arith) in
      let own : AllocTrails = page_trail me q 16 0 j e k u after in
      let pages : Counts me own t u = counts_page 16 0 j e k t u after here (omega arith) (λ v. counts_segment n (s + 1) e k t v (omega arith)) in
      let next : Counts me other (t + 1) u = counts_segment n (s + 1) e k (t + 1) u (omega arith) in
      counts_owner j t u (Asked (Exchange (address me.geometry (place.Segment j)) 0 (me.who + 1)) (λ y. Chosen (y == 0) own other)) own other here (counts_claim j t u own other here pages next) pages next

  -- ---- the own era and the roots count nothing

  -- the pool has the root
  root_in : (k : ℕ) → k < 16 → is_in me.geometry (place.Root me.who k) ≡ true
  root_in k l = grind (arith, nat_tests)

  -- the roots from root k on
  counts_root : (n k e : ℕ) → k + n ≤ 16 → Counts me (root_trail me q n k e) 0 0
  counts_root zero k e l = λ tr a h. subst (λ (x : Result Made AllocFault). Tells x (0 + taken_in me tr) (0 + used_in me tr)) h.1 tt
  counts_root (suc n) k e l =
      let at : ℕ = address me.geometry (place.Root me.who k) in
      let there : place_at me.geometry at ≡ place.Root me.who k = place-address me.geometry (place.Root me.who k) (root_in k (omega arith)) in
      let found : AllocTrails = segment_trail me q me.geometry.segments 0 e k 0 0 in
      let on : AllocTrails = root_trail me q n (k + 1) e in
      counts_asked me (Load at) (λ x. Chosen (x == 0) found on) 0 0
      (λ x. counts_at me (Chosen (x == 0) found on) 0 (taken_by me (Load at) x) 0 (used_by me (Load at) x) 0 0
      (with_none 0 (taken_by me (Load at) x) (load_takes me at (place.Root me.who k) there x)) (with_none 0 (used_by me (Load at) x) (load_uses me at (place.Root me.who k) there x))
      (counts_chosen me (x == 0) found on 0 0 (λ z. counts_segment me.geometry.segments 0 e k 0 0 (omega arith)) (λ z. counts_root n (k + 1) e (omega arith))))

  -- the pool has the own era
  era_in : is_in me.geometry (place.Era me.who me.who) ≡ true
  era_in = grind (arith, nat_tests)

  -- a whole trail
  counts_all : Counts me (alloc_trail me q) 0 0
  counts_all =
      let at : ℕ = address me.geometry (place.Era me.who me.who) in
      let there : place_at me.geometry at ≡ place.Era me.who me.who = place-address me.geometry (place.Era me.who me.who) era_in in
      counts_asked me (Load at) (λ e. Chosen (nat_lt (2 ^ 47 - 3) e) (Answers (Err (EraSpent e))) (root_trail me q 16 0 e)) 0 0
      (λ e. counts_at me (Chosen (nat_lt (2 ^ 47 - 3) e) (Answers (Err (EraSpent e))) (root_trail me q 16 0 e)) 0 (taken_by me (Load at) e) 0 (used_by me (Load at) e) 0 0
      (with_none 0 (taken_by me (Load at) e) (load_takes me at (place.Era me.who me.who) there e)) (with_none 0 (used_by me (Load at) e) (load_uses me at (place.Era me.who me.who) there e))
      (counts_chosen me (nat_lt (2 ^ 47 - 3) e) (Answers (Err (EraSpent e))) (root_trail me q 16 0 e) 0 0
      (λ z tr a h. subst (λ (x : Result Made AllocFault). Tells x (0 + taken_in me tr) (0 + used_in me tr)) h.1 tt) (λ z. counts_root 16 0 e (omega arith))))

-- an allocation that found no free block answers how many segments of others and how many blocks in use its trail shows
pub alloc_counts : (me : Me) (q : Request) → me.who < me.geometry.clients → (tr : Trail) (taken used : ℕ) → alloc_trail me q tr (Err (Full taken used)) → (taken ≡ taken_in me tr) × (used ≡ used_in me tr)
alloc_counts me q who tr taken used h = let k = counts_all me q who tr (Err (Full taken used)) h in (k.0 ∙ omega arith, k.1 ∙ omega arith)
