-- where the blocks of a page lie
use Rattle.std.proofs.Common.{◌≡◌, ap, ◌∙◌, ℕ, ◌+◌, ◌*◌, ◌/◌, ◌<◌, ◌≤◌, sym, subst, arith, inl, inr}
use Rattle.shm_words.specs.{declared.geometry.Geometry.Geometry, Layout.{address, total_of, bodies}, Classes.IsClass}
use Rattle.shm_words.specs.declared.place.Place.TheVariants as place
use Rattle.shm_words.proofs.Classing.{class_is}
use Rattle.shm_graph.specs.declared.ask.Me.{Me}
use Rattle.shm_alloc.specs.declared.{request.Request.Request, point.Search.Search}
use Rattle.shm_alloc.specs.Alloc.Control.{class_asked, block_of, segment_at, page_at, index_at}
use Rattle.shm_alloc.specs.Proved.Turning.{segment_below, page_below, index_below, turned_next}

-- each block of a class lies wholly in the 128 words of its page
room_in_page : (k i : ℕ) → IsClass k → i < 128 / k → k * i + k ≤ 128
room_in_page k i (inl e) l = subst (λ n. i < 128 / n → n * i + n ≤ 128) (sym e) (λ m. omega arith) l
room_in_page k i (inr (inl e)) l = subst (λ n. i < 128 / n → n * i + n ≤ 128) (sym e) (λ m. omega arith) l
room_in_page k i (inr (inr (inl e))) l = subst (λ n. i < 128 / n → n * i + n ≤ 128) (sym e) (λ m. omega arith) l
room_in_page k i (inr (inr (inr e))) l = subst (λ n. i < 128 / n → n * i + n ≤ 128) (sym e) (λ m. omega arith) l

-- a page has at most 32 blocks
pub blocks_most : (k i : ℕ) → IsClass k → i < 128 / k → i < 32
blocks_most k i (inl e) l = subst (λ n. i < 128 / n → i < 32) (sym e) (λ m. omega arith) l
blocks_most k i (inr (inl e)) l = subst (λ n. i < 128 / n → i < 32) (sym e) (λ m. omega arith) l
blocks_most k i (inr (inr (inl e))) l = subst (λ n. i < 128 / n → i < 32) (sym e) (λ m. omega arith) l
blocks_most k i (inr (inr (inr e))) l = subst (λ n. i < 128 / n → i < 32) (sym e) (λ m. omega arith) l

-- a page has a block
pub blocks_least : (k : ℕ) → IsClass k → 0 < 128 / k
blocks_least k (inl e) = subst (λ n. 0 < 128 / n) (sym e) (omega arith)
blocks_least k (inr (inl e)) = subst (λ n. 0 < 128 / n) (sym e) (omega arith)
blocks_least k (inr (inr (inl e))) = subst (λ n. 0 < 128 / n) (sym e) (omega arith)
blocks_least k (inr (inr (inr e))) = subst (λ n. 0 < 128 / n) (sym e) (omega arith)

-- what lies in a page lies in the bodies of the pool
lies_within : (g : Geometry) (s p i k : ℕ) → s < g.segments → p < 16 → i + k ≤ 128 → (address g (place.Body s p 0) + i + k ≤ total_of g) × (bodies g ≤ address g (place.Body s p 0) + i)
unfolding address
lies_within g s p i k l m n = (omega arith, omega arith)

-- each block of a page lies in the bodies of the pool
pub block_of_within : (me : Me) (q : Request) (s : Search) (p i : ℕ) → s.segment < me.geometry.segments → p < 16 → i < 128 / class_asked q
    → (block_of me q s p i + class_asked q ≤ total_of me.geometry) × (bodies me.geometry ≤ block_of me q s p i)
block_of_within me q s p i l m n =
    lies_within me.geometry (segment_at me q s.segment) (page_at q p) (class_asked q * index_at q i) (class_asked q) (segment_below me q s.segment l) (page_below q p m)
    (room_in_page (class_asked q) (index_at q i) (class_is q.refs q.count) (index_below q i n))

-- one more of them
one_more : (a k x : ℕ) → a + k * (x + 1) ≡ a + k * x + k
one_more a k x = omega arith

-- the next block of a page, where one lies behind it
pub block_of_next : (me : Me) (q : Request) (s : Search) (p i : ℕ) → index_at q i + 1 < 128 / class_asked q
    → (index_at q (i + 1) ≡ index_at q i + 1) × (block_of me q s p (i + 1) ≡ block_of me q s p i + class_asked q)
block_of_next me q s p i l =
    let e : index_at q (i + 1) ≡ index_at q i + 1 = turned_next (128 / class_asked q) q.near.index i l in
    let at : ℕ = address me.geometry (place.Body (segment_at me q s.segment) (page_at q p) 0) in
    (e, ap (λ x. at + class_asked q * x) e ∙ one_more at (class_asked q) (index_at q i))
