-- how many word steps an allocation makes at most
use Rattle.std.proofs.Common.{ℕ, zero, suc, ◌+◌, ◌*◌, ◌/◌, ◌^◌, ◌-◌, ◌≤◌, sym, subst, arith, inl, inr, Bool, true, false, length}
use Rattle.std.specs.Prelude.{◌==◌, nat_lt, Result, Ok, Err, slice_index}
use Rattle.shm_words.specs.{Layout.address, Redos.{first_word, second_word}, Classes.IsClass}
use Rattle.shm_words.specs.declared.place.Place.TheVariants as place
use Rattle.shm_words.proofs.Classing.{class_is}
use Rattle.shm_graph.specs.{declared.ask.{Ask.{Ask, TheVariants.{Load, Store, Exchange}}, Me.Me}, Asks.Trail}
use Rattle.shm_graph.specs.{Trails.{Answers, Asked, Chosen}, Bounds.{alloc_steps, redo_steps}}
use Rattle.shm_count.specs.declared.answer.Made.{Made}
use Rattle.shm_alloc.specs.declared.alloc.AllocFault.{AllocFault, TheVariants.{EraSpent, RootsFull, Full}}
use Rattle.shm_alloc.specs.declared.request.Request.{Request}
use Rattle.shm_alloc.specs.Alloc.Control.{class_asked, tag_asked, header_made, redo_asked, segment_at, page_at, index_at, RequestFits}
use Rattle.shm_alloc.specs.Alloc.Asks.{AllocTrails, alloc_trail, root_trail, segment_trail, page_trail, header_trail, headers_trail, class_trail, block_trail, reference_trail, plain_trail, live_trail, more_trail, first_trail, commit_trail, slot_trail, close_trail}

-- each of the trails has at most n pairs
abbrev Short : AllocTrails → ℕ → Type 0
Short f n = (tr : Trail) (a : Result Made AllocFault) → f tr a → length tr ≤ n

-- a greater number will do
short_more : (f : AllocTrails) (n m : ℕ) → n ≤ m → Short f n → Short f m
short_more f n m l s tr a t = let below = s tr a t in omega arith

-- nothing is asked any more
short_answers : (b : Result Made AllocFault) → Short (Answers b) 0
short_answers b tr a t = subst (λ (x : Trail). length x ≤ 0) (sym t.0) (omega arith)

-- one pair more
short_asked : (k : Ask) (next : ℕ → AllocTrails) (n : ℕ) → ((x : ℕ) → Short (next x) n) → Short (Asked k next) (n + 1)
short_asked k next n s tr a t = let below = s t.0 t.1.0 a t.1.1.1 in subst (λ (x : Trail). length x ≤ n + 1) (sym t.1.1.0) (omega arith)

-- the choice between two kinds of trails
short_chosen : (b : Bool) (f g : AllocTrails) (n : ℕ) → Short f n → Short g n → Short (Chosen b f g) n
short_chosen true f g n one other = one
short_chosen false f g n one other = other

-- a page has at most 32 blocks
page_blocks : (k : ℕ) → IsClass k → 128 / k ≤ 32
page_blocks k (inl e) = subst (λ (x : ℕ). 128 / x ≤ 32) (sym e) (omega arith)
page_blocks k (inr (inl e)) = subst (λ (x : ℕ). 128 / x ≤ 32) (sym e) (omega arith)
page_blocks k (inr (inr (inl e))) = subst (λ (x : ℕ). 128 / x ≤ 32) (sym e) (omega arith)
page_blocks k (inr (inr (inr e))) = subst (λ (x : ℕ). 128 / x ≤ 32) (sym e) (omega arith)

module _ (me : Me) (q : Request) where
  -- ---- the making

  -- the own era
  close_short : (e k b : ℕ) → Short (close_trail me q e k b) 1
  close_short e k b = short_asked (Store (address me.geometry (place.Era me.who me.who)) (e + 1)) (λ _. Answers (Ok (record { root = k; block = b }))) 0 (λ _. short_answers (Ok (record { root = k; block = b })))

  -- the root, and the own era
  slot_short : (e k b : ℕ) → Short (slot_trail me q e k b) 2
  slot_short e k b = short_asked (Store (address me.geometry (place.Root me.who k)) b) (λ _. close_trail me q e k b) 1 (λ _. close_short e k b)

  -- the header, the root and the own era
  commit_short : (e k b : ℕ) → Short (commit_trail me q e k b) 3
  commit_short e k b = short_asked (Exchange b 0 (header_made me.who e)) (λ _. slot_trail me q e k b) 2 (λ _. slot_short e k b)

  -- the redo record, the header, the root and the own era
  live_short : (e k b : ℕ) → Short (live_trail me q e k b) 4
  live_short e k b = short_asked (Store (address me.geometry (place.Redo me.who)) (first_word me.geometry.wide (redo_asked me k b))) (λ _. commit_trail me q e k b) 3 (λ _. commit_short e k b)

  -- in format 2 the second word of the redo record comes before that
  first_short : (e k b : ℕ) → Short (first_trail me q e k b) (3 + redo_steps me.geometry.wide)
  first_short e k b = go me.geometry.wide
    where
      go : (x : Bool) → Short (Chosen x (more_trail me q e k b) (live_trail me q e k b)) (3 + redo_steps x)
      go true =
          short_more (more_trail me q e k b) (4 + 1) (3 + redo_steps true) (omega arith)
          (short_asked (Store (address me.geometry (place.RedoMore me.who)) (second_word me.geometry.wide (redo_asked me k b))) (λ _. live_trail me q e k b) 4 (λ _. live_short e k b))
      go false = short_more (live_trail me q e k b) 4 (3 + redo_steps false) (omega arith) (live_short e k b)

  -- n plain words, and then four words more, in format 2 five
  plain_short : (n i e k b : ℕ) → Short (plain_trail me q n i e k b) (n + (3 + redo_steps me.geometry.wide))
  plain_short zero i e k b = short_more (first_trail me q e k b) (3 + redo_steps me.geometry.wide) (0 + (3 + redo_steps me.geometry.wide)) (omega arith) (first_short e k b)
  plain_short (suc n) i e k b =
      short_more (plain_trail me q (suc n) i e k b) (n + (3 + redo_steps me.geometry.wide) + 1) (suc n + (3 + redo_steps me.geometry.wide)) (omega arith)
      (short_asked (Store (b + 2 + q.refs + i) (slice_index q.plain i)) (λ _. plain_trail me q n (i + 1) e k b) (n + (3 + redo_steps me.geometry.wide)) (λ _. plain_short n (i + 1) e k b))

  -- n reference words, and then the plain words
  reference_short : (n i e k b : ℕ) → Short (reference_trail me q n i e k b) (n + (q.count + (3 + redo_steps me.geometry.wide)))
  reference_short zero i e k b = short_more (plain_trail me q q.count 0 e k b) (q.count + (3 + redo_steps me.geometry.wide)) (0 + (q.count + (3 + redo_steps me.geometry.wide))) (omega arith) (plain_short q.count 0 e k b)
  reference_short (suc n) i e k b =
      short_more (reference_trail me q (suc n) i e k b) (n + (q.count + (3 + redo_steps me.geometry.wide)) + 1) (suc n + (q.count + (3 + redo_steps me.geometry.wide))) (omega arith)
      (short_asked (Store (b + 2 + i) 0) (λ _. reference_trail me q n (i + 1) e k b) (n + (q.count + (3 + redo_steps me.geometry.wide))) (λ _. reference_short n (i + 1) e k b))

  -- the tag, at most 16 reference words, at most 8 plain words and four words more, in format 2 five
  block_short : RequestFits q → (e k b : ℕ) → Short (block_trail me q e k b) (28 + redo_steps me.geometry.wide)
  block_short fits e k b =
      let refs = fits.refs in let count = fits.count in
      short_more (block_trail me q e k b) (q.refs + (q.count + (3 + redo_steps me.geometry.wide)) + 1) (28 + redo_steps me.geometry.wide) (omega arith)
      (short_asked (Store (b + 1) (tag_asked me.geometry.wide q me.who)) (λ _. reference_trail me q q.refs 0 e k b) (q.refs + (q.count + (3 + redo_steps me.geometry.wide))) (λ _. reference_short q.refs 0 e k b))

  -- ---- the search; what follows has at most m pairs, and the making of a block has no more

  module _ (fits : RequestFits q) where
    -- n headers
    header_short : (n i at e k used m : ℕ) (rest : ℕ → AllocTrails) → (28 + redo_steps me.geometry.wide) ≤ m → ((u : ℕ) → Short (rest u) m) → Short (header_trail me q n i at e k used rest) (n + m)
    header_short zero i at e k used m rest l s = short_more (rest used) m (0 + m) (omega arith) (s used)
    header_short (suc n) i at e k used m rest l s =
        short_more (header_trail me q (suc n) i at e k used rest) (n + m + 1) (suc n + m) (omega arith)
        (short_asked (Load (at + class_asked q * index_at q i)) (λ x. Chosen (x == 0) (block_trail me q e k (at + class_asked q * index_at q i)) (header_trail me q n (i + 1) at e k (used + 1) rest)) (n + m)
        (λ x. short_chosen (x == 0) (block_trail me q e k (at + class_asked q * index_at q i)) (header_trail me q n (i + 1) at e k (used + 1) rest) (n + m)
        (short_more (block_trail me q e k (at + class_asked q * index_at q i)) (28 + redo_steps me.geometry.wide) (n + m) (omega arith) (block_short fits e k (at + class_asked q * index_at q i)))
        (header_short n (i + 1) at e k (used + 1) m rest l s)))

    -- at most 32 headers
    headers_short : (s p e k used m : ℕ) (rest : ℕ → AllocTrails) → (28 + redo_steps me.geometry.wide) ≤ m → ((u : ℕ) → Short (rest u) m) → Short (headers_trail me q s p e k used rest) (32 + m)
    headers_short s p e k used m rest l r =
        let blocks = page_blocks (class_asked q) (class_is q.refs q.count) in
        short_more (headers_trail me q s p e k used rest) (128 / class_asked q + m) (32 + m) (omega arith)
        (header_short (128 / class_asked q) 0 (address me.geometry (place.Body s p 0)) e k used m rest l r)

    -- a page's class, and its headers
    class_short : (s p e k used m : ℕ) (rest : ℕ → AllocTrails) → (28 + redo_steps me.geometry.wide) ≤ m → ((u : ℕ) → Short (rest u) m) → Short (class_trail me q s p e k used rest) (33 + m)
    class_short s p e k used m rest l r =
        short_more (class_trail me q s p e k used rest) (32 + m + 1) (33 + m) (omega arith)
        (short_asked (Store (address me.geometry (place.Page s p)) (class_asked q)) (λ _. headers_trail me q s p e k used rest) (32 + m) (λ _. headers_short s p e k used m rest l r))

    -- n pages: the class of each is read and stored, and 32 headers are read
    page_short : (n p s e k used m : ℕ) (rest : ℕ → AllocTrails) → (28 + redo_steps me.geometry.wide) ≤ m → ((u : ℕ) → Short (rest u) m) → Short (page_trail me q n p s e k used rest) (n * 34 + m)
    page_short zero p s e k used m rest l r = short_more (rest used) m (0 * 34 + m) (omega arith) (r used)
    page_short (suc n) p s e k used m rest l r =
        let j : ℕ = page_at q p in
        let after : ℕ → AllocTrails = λ u. page_trail me q n (p + 1) s e k u rest in
        let short : (u : ℕ) → Short (after u) (n * 34 + m) = λ u. page_short n (p + 1) s e k u m rest l r in
        short_more (page_trail me q (suc n) p s e k used rest) (33 + (n * 34 + m) + 1) (suc n * 34 + m) (omega arith)
        (short_asked (Load (address me.geometry (place.Page s j))) (λ x. Chosen (x == 0) (class_trail me q s j e k used after) (Chosen (x == class_asked q) (headers_trail me q s j e k used after) (after used))) (33 + (n * 34 + m))
        (λ x. short_chosen (x == 0) (class_trail me q s j e k used after) (Chosen (x == class_asked q) (headers_trail me q s j e k used after) (after used)) (33 + (n * 34 + m))
        (class_short s j e k used (n * 34 + m) after (omega arith) short)
        (short_chosen (x == class_asked q) (headers_trail me q s j e k used after) (after used) (33 + (n * 34 + m))
        (short_more (headers_trail me q s j e k used after) (32 + (n * 34 + m)) (33 + (n * 34 + m)) (omega arith) (headers_short s j e k used (n * 34 + m) after (omega arith) short))
        (short_more (after used) (n * 34 + m) (33 + (n * 34 + m)) (omega arith) (short used)))))

    -- n segments: the word of each is read and claimed, and 16 pages are looked at
    segment_short : (n s e k taken used : ℕ) → Short (segment_trail me q n s e k taken used) (n * 546 + (28 + redo_steps me.geometry.wide))
    segment_short zero s e k taken used = short_more (Answers (Err (Full taken used))) 0 (0 * 546 + (28 + redo_steps me.geometry.wide)) (omega arith) (short_answers (Err (Full taken used)))
    segment_short (suc n) s e k taken used =
        let after : ℕ → AllocTrails = λ u. segment_trail me q n (s + 1) e k taken u in
        let other : AllocTrails = segment_trail me q n (s + 1) e k (taken + 1) used in
        let j : ℕ = segment_at me q s in
        let pages : AllocTrails = page_trail me q 16 0 j e k used after in
        let own : Short pages (16 * 34 + (n * 546 + (28 + redo_steps me.geometry.wide))) = page_short 16 0 j e k used (n * 546 + (28 + redo_steps me.geometry.wide)) after (omega arith) (λ u. segment_short n (s + 1) e k taken u) in
        let on : Short other (16 * 34 + (n * 546 + (28 + redo_steps me.geometry.wide))) = short_more other (n * 546 + (28 + redo_steps me.geometry.wide)) (16 * 34 + (n * 546 + (28 + redo_steps me.geometry.wide))) (omega arith) (segment_short n (s + 1) e k (taken + 1) used) in
        let claim : AllocTrails = Asked (Exchange (address me.geometry (place.Segment j)) 0 (me.who + 1)) (λ y. Chosen (y == 0) pages other) in
        let claimed : Short claim (16 * 34 + (n * 546 + (28 + redo_steps me.geometry.wide)) + 1) =
        short_asked (Exchange (address me.geometry (place.Segment j)) 0 (me.who + 1)) (λ y. Chosen (y == 0) pages other) (16 * 34 + (n * 546 + (28 + redo_steps me.geometry.wide))) (λ y. short_chosen (y == 0) pages other (16 * 34 + (n * 546 + (28 + redo_steps me.geometry.wide))) own on) in
        short_more (segment_trail me q (suc n) s e k taken used) (16 * 34 + (n * 546 + (28 + redo_steps me.geometry.wide)) + 1 + 1) (suc n * 546 + (28 + redo_steps me.geometry.wide)) (omega arith)
        (short_asked (Load (address me.geometry (place.Segment j))) (λ x. Chosen (x == 0) claim (Chosen (x == me.who + 1) pages other)) (16 * 34 + (n * 546 + (28 + redo_steps me.geometry.wide)) + 1)
        (λ x. short_chosen (x == 0) claim (Chosen (x == me.who + 1) pages other) (16 * 34 + (n * 546 + (28 + redo_steps me.geometry.wide)) + 1) claimed
        (short_more (Chosen (x == me.who + 1) pages other) (16 * 34 + (n * 546 + (28 + redo_steps me.geometry.wide))) (16 * 34 + (n * 546 + (28 + redo_steps me.geometry.wide)) + 1) (omega arith) (short_chosen (x == me.who + 1) pages other (16 * 34 + (n * 546 + (28 + redo_steps me.geometry.wide))) own on))))

    -- ---- the own era and the roots

    -- n roots, and then the segments
    root_short : (n k e : ℕ) → Short (root_trail me q n k e) (n + (me.geometry.segments * 546 + (28 + redo_steps me.geometry.wide)))
    root_short zero k e = short_more (Answers (Err RootsFull)) 0 (0 + (me.geometry.segments * 546 + (28 + redo_steps me.geometry.wide))) (omega arith) (short_answers (Err RootsFull))
    root_short (suc n) k e =
        let most = me.geometry.segments * 546 + (28 + redo_steps me.geometry.wide) in
        short_more (root_trail me q (suc n) k e) (n + (me.geometry.segments * 546 + (28 + redo_steps me.geometry.wide)) + 1) (suc n + (me.geometry.segments * 546 + (28 + redo_steps me.geometry.wide))) (omega arith)
        (short_asked (Load (address me.geometry (place.Root me.who k))) (λ x. Chosen (x == 0) (segment_trail me q me.geometry.segments 0 e k 0 0) (root_trail me q n (k + 1) e)) (n + (me.geometry.segments * 546 + (28 + redo_steps me.geometry.wide)))
        (λ x. short_chosen (x == 0) (segment_trail me q me.geometry.segments 0 e k 0 0) (root_trail me q n (k + 1) e) (n + (me.geometry.segments * 546 + (28 + redo_steps me.geometry.wide)))
        (short_more (segment_trail me q me.geometry.segments 0 e k 0 0) (me.geometry.segments * 546 + (28 + redo_steps me.geometry.wide)) (n + (me.geometry.segments * 546 + (28 + redo_steps me.geometry.wide))) (omega arith) (segment_short me.geometry.segments 0 e k 0 0))
        (root_short n (k + 1) e)))

    -- a whole trail
    all_short : Short (alloc_trail me q) (alloc_steps me.geometry.wide me.geometry.segments)
    all_short =
        short_more (alloc_trail me q) (16 + (me.geometry.segments * 546 + (28 + redo_steps me.geometry.wide)) + 1) (alloc_steps me.geometry.wide me.geometry.segments) (omega arith)
        (short_asked (Load (address me.geometry (place.Era me.who me.who))) (λ e. Chosen (nat_lt (2 ^ 47 - 3) e) (Answers (Err (EraSpent e))) (root_trail me q 16 0 e)) (16 + (me.geometry.segments * 546 + (28 + redo_steps me.geometry.wide)))
        (λ e. short_chosen (nat_lt (2 ^ 47 - 3) e) (Answers (Err (EraSpent e))) (root_trail me q 16 0 e) (16 + (me.geometry.segments * 546 + (28 + redo_steps me.geometry.wide)))
        (short_more (Answers (Err (EraSpent e))) 0 (16 + (me.geometry.segments * 546 + (28 + redo_steps me.geometry.wide))) (omega arith) (short_answers (Err (EraSpent e)))) (root_short 16 0 e)))

-- an allocation takes at most 546 word steps for each segment, and 46 more, in format 2 47
pub alloc_bound : (me : Me) (q : Request) → RequestFits q → (tr : Trail) (a : Result Made AllocFault) → alloc_trail me q tr a → length tr ≤ alloc_steps me.geometry.wide me.geometry.segments
alloc_bound me q fits = all_short me q fits
