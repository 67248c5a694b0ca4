-- what the control of an allocation keeps in range, it keeps there
use Rattle.std.proofs.Common.{◌≡◌, ℕ, ◌+◌, ◌-◌, ◌*◌, ◌/◌, ◌^◌, ◌<◌, ◌≤◌, ◌==◌, nat_lt, if◌then◌else◌, Bool, true, false, subst, arith, refl}
use Rattle.std.proofs.lemmas.Bool.Decides.{nat_tests}
use Rattle.shm_words.specs.Layout.{GeometryFits, total_of, bodies}
use Rattle.shm_words.proofs.Classing.{class_is}
use Rattle.shm_graph.specs.declared.ask.Me.{Me}
use Rattle.shm_graph.proofs.StepKinds.Loads.{choice}
use Rattle.shm_alloc.specs.declared.{request.Request.Request, point.{Goal.Goal, Search.Search, AllocPoint.AllocPoint}}
use Rattle.shm_alloc.specs.declared.point.AllocPoint.TheVariants.{Era, Root, Segment, Claim, Page, Class, Header, Tag, Reference, Plain, More, Redo, Commit, Slot, Close, Over}
use Rattle.shm_alloc.specs.declared.point.{AllocState.AllocState, AllocNext.{AllocNext, TheVariants.{Point, Answer}}}
use Rattle.shm_alloc.specs.Alloc.Control.{point_of, class_asked, first_page, first_header, segment_over, segment_taken, page_over, era_next, root_next, segment_next, claim_next, page_next, header_next, first_point, plain_from, references_from, alloc_next_at, alloc_next, GoalFits, SearchFits, PointFits, AllocInRange}
use Rattle.shm_alloc.specs.Proved.BlockPlaces.{block_of_within, blocks_most, blocks_least}

-- where it goes on, the point is in range
abbrev NextFits : Me → Request → AllocNext → Type 0
NextFits me q (Point p) = PointFits me q p
NextFits me q (Answer a) = Unit {0}

-- after the own era is read, the next point is in range
era_fits : (me : Me) (q : Request) (n : ℕ) → NextFits me q (era_next n)
era_fits me q n = choice (NextFits me q) (nat_lt (2 ^ 47 - 3) n) _ _ (λ e. tt) (λ e. (grind (arith, nat_tests), omega arith))

-- so it is after a root is read
root_fits : (me : Me) (q : Request) (e k n : ℕ) → GeometryFits me.geometry → PointFits me q (Root e k) → NextFits me q (root_next e k n)
root_fits me q e k n f h =
    choice (NextFits me q) (n == 0) _ _
    (λ z. (record { era = h.0; root = h.1 }, record { segment = let l = f.segment in omega arith; taken = omega arith; used = omega arith }))
    (λ z. choice (NextFits me q) (nat_lt k 15) _ _ (λ l. (h.0, grind (arith, nat_tests))) (λ l. tt))

-- the next segment, where the last one had so many headers at most
over_fits : (me : Me) (q : Request) (g : Goal) (s : Search) → GoalFits g → s.taken ≤ s.segment + 1 → s.used ≤ 512 * s.segment + 512 → NextFits me q (segment_over me g s)
over_fits me q g s h t u =
    choice (NextFits me q) (nat_lt (s.segment + 1) me.geometry.segments) _ _
    (λ l. (h, record { segment = grind (arith, nat_tests); taken = t; used = omega arith }))
    (λ l. tt)

-- so it is after a segment of another is found
taken_fits : (me : Me) (q : Request) (g : Goal) (s : Search) → GoalFits g → SearchFits me s 0 → NextFits me q (segment_taken me g s)
taken_fits me q g s h k = let t = k.taken in let u = k.used in over_fits me q g (record s { taken = s.taken + 1 }) h (omega arith) (omega arith)

-- the next page, where the last one had so many headers at most
page_over_fits : (me : Me) (q : Request) (g : Goal) (s : Search) (p : ℕ) → GoalFits g → SearchFits me s (32 * p + 32) → p < 16 → NextFits me q (page_over me g s p)
page_over_fits me q g s p h k l =
    let t = k.taken in
    let u = k.used in
    choice (NextFits me q) (nat_lt p 15) _ _
    (λ e. (h, record { segment = k.segment; taken = k.taken; used = omega arith }, grind (arith, nat_tests)))
    (λ e. over_fits me q g s h (omega arith) (omega arith))

-- the first page of an own segment
first_fits : (me : Me) (q : Request) (g : Goal) (s : Search) → GoalFits g → SearchFits me s 0 → NextFits me q (first_page g s)
first_fits me q g s h k = (h, k, omega arith)

-- so it is after the owner of a segment is read
segment_fits : (me : Me) (q : Request) (g : Goal) (s : Search) (n : ℕ) → PointFits me q (Segment g s) → NextFits me q (segment_next me g s n)
segment_fits me q g s n h =
    choice (NextFits me q) (n == 0) _ _ (λ e. h) (λ e. choice (NextFits me q) (n == me.who + 1) _ _ (λ u. first_fits me q g s h.0 h.1) (λ u. taken_fits me q g s h.0 h.1))

-- so it is after a segment is exchanged
claim_fits : (me : Me) (q : Request) (g : Goal) (s : Search) (n : ℕ) → PointFits me q (Claim g s) → NextFits me q (claim_next me g s n)
claim_fits me q g s n h = choice (NextFits me q) (n == 0) _ _ (λ e. first_fits me q g s h.0 h.1) (λ e. taken_fits me q g s h.0 h.1)

-- the first header of a page of the class
first_header_fits : (me : Me) (q : Request) (g : Goal) (s : Search) (p : ℕ) → PointFits me q (Class g s p) → NextFits me q (first_header g s p)
first_header_fits me q g s p h =
    let u = h.1.used in
    (h.0, record { segment = h.1.segment; taken = h.1.taken; used = omega arith }, h.2, blocks_least (class_asked q) (class_is q.refs q.count))

-- so it is after the class of a page is read
page_fits : (me : Me) (q : Request) (g : Goal) (s : Search) (p n : ℕ) → PointFits me q (Page g s p) → NextFits me q (page_next me q g s p n)
page_fits me q g s p n h =
    let u = h.1.used in
    choice (NextFits me q) (n == 0) _ _ (λ e. h)
    (λ e. choice (NextFits me q) (n == class_asked q) _ _ (λ z. first_header_fits me q g s p h)
    (λ z. page_over_fits me q g s p h.0 (record { segment = h.1.segment; taken = h.1.taken; used = omega arith }) h.2))

-- so it is after a header is read
header_fits : (me : Me) (q : Request) (g : Goal) (s : Search) (p i n : ℕ) → PointFits me q (Header g s p i) → NextFits me q (header_next me q g s p i n)
header_fits me q g s p i n h =
    let u = h.1.used in
    let m = blocks_most (class_asked q) i (class_is q.refs q.count) h.3 in
    let b = block_of_within me q s p i h.1.segment h.2 h.3 in
    let t : Search = record s { used = s.used + 1 } in
    choice (NextFits me q) (n == 0) _ _ (λ e. (h.0, b.0, b.1))
    (λ e. choice (NextFits me q) (nat_lt (i + 1) (128 / class_asked q)) _ _
    (λ l. (h.0, record { segment = h.1.segment; taken = h.1.taken; used = omega arith }, h.2, grind (arith, nat_tests)))
    (λ l. page_over_fits me q g t p h.0 (record { segment = h.1.segment; taken = h.1.taken; used = omega arith }) h.2))

-- a block of the class lies in the bodies
abbrev BlockFits : Me → Request → ℕ → Type 0
BlockFits me q b = (b + class_asked q ≤ total_of me.geometry) × (bodies me.geometry ≤ b)

-- the store of the redo record, in format 2 of its second word
record_fits : (me : Me) (q : Request) (g : Goal) (b : ℕ) → GoalFits g → BlockFits me q b → PointFits me q (first_point me.geometry.wide g b)
record_fits me q g b h k = go me.geometry.wide refl
  where
    go : (x : Bool) → me.geometry.wide ≡ x → PointFits me q (if x then More g b else Redo g b)
    go true e = (h, k.0, k.1, e)
    go false e = (h, k.0, k.1)

-- so it is where so many plain words are stored
plain_fits : (me : Me) (q : Request) (g : Goal) (b i : ℕ) → GoalFits g → BlockFits me q b → PointFits me q (plain_from me.geometry.wide q g b i)
plain_fits me q g b i h k = go (nat_lt i q.count) refl
  where
    go : (x : Bool) → nat_lt i q.count ≡ x → PointFits me q (if x then Plain g b i else first_point me.geometry.wide g b)
    go true e = (h, k.0, grind (arith, nat_tests), k.1)
    go false e = record_fits me q g b h k

-- so it is where so many reference words are stored
references_fit : (me : Me) (q : Request) (g : Goal) (b i : ℕ) → GoalFits g → BlockFits me q b → PointFits me q (references_from me.geometry.wide q g b i)
references_fit me q g b i h k = go (nat_lt i q.refs) refl
  where
    go : (x : Bool) → nat_lt i q.refs ≡ x → PointFits me q (if x then Reference g b i else plain_from me.geometry.wide q g b 0)
    go true e = (h, k.0, grind (arith, nat_tests), k.1)
    go false e = plain_fits me q g b 0 h k

-- so it is after each step
next_fits : (me : Me) (q : Request) (p : AllocPoint) (n : ℕ) → GeometryFits me.geometry → PointFits me q p → NextFits me q (alloc_next_at me q p n)
next_fits me q Era n f h = era_fits me q n
next_fits me q (Root e k) n f h = root_fits me q e k n f h
next_fits me q (Segment g s) n f h = segment_fits me q g s n h
next_fits me q (Claim g s) n f h = claim_fits me q g s n h
next_fits me q (Page g s p) n f h = page_fits me q g s p n h
next_fits me q (Class g s p) n f h = first_header_fits me q g s p h
next_fits me q (Header g s p i) n f h = header_fits me q g s p i n h
next_fits me q (Tag g b) n f h = references_fit me q g b 0 h.0 (h.1, h.2)
next_fits me q (Reference g b i) n f h = references_fit me q g b (i + 1) h.0 (h.1, h.3)
next_fits me q (Plain g b i) n f h = plain_fits me q g b (i + 1) h.0 (h.1, h.3)
next_fits me q (More g b) n f h = (h.0, h.1, h.2)
next_fits me q (Redo g b) n f h = h
next_fits me q (Commit g b) n f h = h
next_fits me q (Slot g b) n f h = h
next_fits me q (Close g b) n f h = tt
next_fits me q Over n f h = tt

-- where the control goes on, what it keeps in range stays there
pub knows_after : (m : AllocState) (n : ℕ) → AllocInRange m → (p : AllocPoint) → alloc_next m n ≡ Point p → AllocInRange (record m { point = p })
knows_after m n k p e =
    record {
      geometry = k.geometry;
      who = k.who;
      request = k.request;
      point = subst (NextFits m.me m.request) e (next_fits m.me m.request m.point n k.geometry k.point);
    }

-- and so wherever it goes
pub knows_next : (m : AllocState) (n : ℕ) → AllocInRange m → PointFits m.me m.request (point_of (alloc_next m n))
knows_next m n k = go (alloc_next m n) refl
  where
    go : (z : AllocNext) → alloc_next m n ≡ z → PointFits m.me m.request (point_of z)
    go (Point y) e = (knows_after m n k y e).point
    go (Answer a) e = tt
