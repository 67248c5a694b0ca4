-- the laws of an allocation
use Rattle.std.proofs.Common.{◌≡◌, ◌≢◌, ℕ, ◌+◌, ◌-◌, ◌^◌, ◌/◌, ◌<◌, ◌≤◌, ◌==◌, nat_lt, if◌then◌else◌, Bool, true, false, refl, arith, lt-ltb}
use Rattle.std.proofs.lemmas.Bool.{true≢false, and_from, Decides.nat_tests}
use Rattle.shm_words.specs.declared.{geometry.Geometry.Geometry, place.Place.Place}
use Rattle.shm_words.specs.Layout.{GeometryFits, address, is_in, total_of, bodies}
use Rattle.shm_words.specs.declared.place.Place.TheVariants as place
use Rattle.shm_words.proofs.{Classing.class_room, Placing.address_below}
use Rattle.shm_graph.specs.{declared.ask.Me.Me, Asks.at_of, Laws.{Laws, Steady, Inside, Back, is_some}}
use Rattle.shm_alloc.specs.declared.{request.Request.Request, point.{Goal.Goal, Search.Search, AllocPoint.AllocPoint}}
use Rattle.shm_alloc.specs.declared.point.AllocPoint.TheVariants.{Era, Root, Segment, Claim, Page, Class, Header, Tag, Reference, Plain, More, Redo, Commit, Slot, Close, Over}
use Rattle.shm_alloc.specs.declared.point.AllocNext.{AllocNext, TheVariants.{Point, Answer}}
use Rattle.shm_alloc.specs.Proved.{Turning.{segment_below, page_below}, Alloc.Keeps.alloc_keeps}
use Rattle.shm_alloc.specs.Proved.BlockPlaces.{block_of_within}
use Rattle.shm_alloc.specs.Alloc.Control.{class_asked, segment_at, page_at, segment_over, page_over, first_point, plain_from, references_from, alloc_ask_at, alloc_next_at, alloc_next, point_of, answer_of, is_first, is_over, alloc_control, RequestFits, PointFits}
use Rattle.shm_alloc.specs.Alloc.{AllocFits, AllocGives}

-- ---- steady

-- where it goes on, the point is neither the first one nor the end
abbrev GoesOn : AllocNext → Type 0
GoesOn (Point p) = (is_first p ≡ false) × (is_over p ≡ false)
GoesOn (Answer a) = Unit {0}

-- where both ways go on, the one that is taken does
chosen : (b : Bool) (x y : AllocNext) → GoesOn x → GoesOn y → GoesOn (if b then x else y)
chosen true x y f h = f
chosen false x y f h = h

-- where a segment is over, it goes on or answers
over_goes : (me : Me) (g : Goal) (s : Search) → GoesOn (segment_over me g s)
over_goes me g s = chosen (nat_lt (s.segment + 1) me.geometry.segments) _ _ (refl, refl) tt

-- so it does where a segment is another's
taken_goes : (me : Me) (g : Goal) (s : Search) → GoesOn (segment_over me g (record s { taken = s.taken + 1 }))
taken_goes me g s = over_goes me g (record s { taken = s.taken + 1 })

-- so it does where a page is over
page_goes : (me : Me) (g : Goal) (s : Search) (p : ℕ) → GoesOn (page_over me g s p)
page_goes me g s p = chosen (nat_lt p 15) _ _ (refl, refl) (over_goes me g s)

-- so it does where all words are stored
first_goes : (wide : Bool) (g : Goal) (b : ℕ) → GoesOn (Point (first_point wide g b))
first_goes true g b = (refl, refl)
first_goes false g b = (refl, refl)

-- so it does where so many plain words are stored
plain_goes : (wide : Bool) (q : Request) (g : Goal) (b i : ℕ) → GoesOn (Point (plain_from wide q g b i))
plain_goes wide q g b i = go (nat_lt i q.count)
  where
    go : (x : Bool) → GoesOn (Point (if x then Plain g b i else first_point wide g b))
    go true = (refl, refl)
    go false = first_goes wide g b

-- so it does where so many reference words are stored
references_go : (wide : Bool) (q : Request) (g : Goal) (b i : ℕ) → GoesOn (Point (references_from wide q g b i))
references_go wide q g b i = go (nat_lt i q.refs)
  where
    go : (x : Bool) → GoesOn (Point (if x then Reference g b i else plain_from wide q g b 0))
    go true = (refl, refl)
    go false = plain_goes wide q g b 0

-- and after each step, if it isn't over
goes_on : (me : Me) (q : Request) (p : AllocPoint) (n : ℕ) → is_over p ≡ false → GoesOn (alloc_next_at me q p n)
goes_on me q Era n e = chosen (nat_lt (2 ^ 47 - 3) n) _ _ tt (refl, refl)
goes_on me q (Root d k) n e = chosen (n == 0) _ _ (refl, refl) (chosen (nat_lt k 15) _ _ (refl, refl) tt)
goes_on me q (Segment g s) n e = chosen (n == 0) _ _ (refl, refl) (chosen (n == me.who + 1) _ _ (refl, refl) (taken_goes me g s))
goes_on me q (Claim g s) n e = chosen (n == 0) _ _ (refl, refl) (taken_goes me g s)
goes_on me q (Page g s p) n e = chosen (n == 0) _ _ (refl, refl) (chosen (n == class_asked q) _ _ (refl, refl) (page_goes me g s p))
goes_on me q (Class g s p) n e = (refl, refl)
goes_on me q (Header g s p i) n e = chosen (n == 0) _ _ (refl, refl) (chosen (nat_lt (i + 1) (128 / class_asked q)) _ _ (refl, refl) (page_goes me g (record s { used = s.used + 1 }) p))
goes_on me q (Tag g b) n e = references_go me.geometry.wide q g b 0
goes_on me q (Reference g b i) n e = references_go me.geometry.wide q g b (i + 1)
goes_on me q (Plain g b i) n e = plain_goes me.geometry.wide q g b (i + 1)
goes_on me q (More g b) n e = (refl, refl)
goes_on me q (Redo g b) n e = (refl, refl)
goes_on me q (Commit g b) n e = (refl, refl)
goes_on me q (Slot g b) n e = (refl, refl)
goes_on me q (Close g b) n e = tt
goes_on me q Over n e = absurd (true≢false e)

-- it has made a step, and it is over once it has answered
after_next : (x : AllocNext) → GoesOn x → (is_first (point_of x) ≡ false) × (is_over (point_of x) ≡ is_some (answer_of x))
after_next (Point p) h = (h.0, h.1)
after_next (Answer a) h = (refl, refl)

-- the control of an allocation is steady
pub alloc_steady : Steady alloc_control
alloc_steady m n going =
    let h = after_next (alloc_next m n) (goes_on m.me m.request m.point n going) in
    record { same_me = refl; same_line = refl; started = h.0; ends = h.1 }

-- ---- inside

-- of the pool's words only the spare one lies at 0
place_inside : (g : Geometry) (p : Place) → GeometryFits g → is_in g p ≡ true → p ≢ place.Spare → (0 < address g p) × (address g p < total_of g)
unfolding address
place_inside g place.Spare f i n = absurd (n refl)
place_inside g (place.Status c) f i n = (omega arith, address_below g (place.Status c) i f)
place_inside g (place.Redo c) f i n = (omega arith, address_below g (place.Redo c) i f)
place_inside g (place.RedoMore c) f i n = (omega arith, address_below g (place.RedoMore c) i f)
place_inside g (place.Hold c) f i n = (omega arith, address_below g (place.Hold c) i f)
place_inside g (place.Latch c) f i n = (omega arith, address_below g (place.Latch c) i f)
place_inside g (place.Home c) f i n = (omega arith, address_below g (place.Home c) i f)
place_inside g (place.Era c d) f i n = (omega arith, address_below g (place.Era c d) i f)
place_inside g (place.Root c k) f i n = (omega arith, address_below g (place.Root c k) i f)
place_inside g (place.Tail s r) f i n = (omega arith, address_below g (place.Tail s r) i f)
place_inside g (place.Head s r) f i n = (omega arith, address_below g (place.Head s r) i f)
place_inside g (place.Slot s r k) f i n = (omega arith, address_below g (place.Slot s r k) i f)
place_inside g (place.Segment s) f i n = (omega arith, address_below g (place.Segment s) i f)
place_inside g (place.Page s p) f i n = (omega arith, address_below g (place.Page s p) i f)
place_inside g (place.Body s p k) f i n = (omega arith, address_below g (place.Body s p k) i f)

-- a word of a block of the class
word_inside : (me : Me) (q : Request) (b i : ℕ) → RequestFits q → b + class_asked q ≤ total_of me.geometry → bodies me.geometry ≤ b → i < 2 + q.refs + q.count → (0 < b + i) × (b + i < total_of me.geometry)
word_inside me q b i f t l k = let r = class_room q.refs q.count f.refs f.count in (omega arith, omega arith)

-- the word of a segment that is searched
segment_inside : (me : Me) (q : Request) (j : ℕ) → GeometryFits me.geometry → j < me.geometry.segments
    → (0 < address me.geometry (place.Segment (segment_at me q j))) × (address me.geometry (place.Segment (segment_at me q j)) < total_of me.geometry)
segment_inside me q j f l = place_inside me.geometry (place.Segment (segment_at me q j)) f (lt-ltb (segment_at me q j) me.geometry.segments (segment_below me q j l)) (λ z. cc)

-- the word of a page of it
page_inside : (me : Me) (q : Request) (j p : ℕ) → GeometryFits me.geometry → j < me.geometry.segments → p < 16
    → (0 < address me.geometry (place.Page (segment_at me q j) (page_at q p))) × (address me.geometry (place.Page (segment_at me q j) (page_at q p)) < total_of me.geometry)
page_inside me q j p f l m =
    place_inside me.geometry (place.Page (segment_at me q j) (page_at q p)) f
    (and_from _ _ (lt-ltb (segment_at me q j) me.geometry.segments (segment_below me q j l)) (lt-ltb (page_at q p) 16 (page_below q p m))) (λ z. cc)

-- what is asked for at a point is in the pool
ask_inside : (me : Me) (q : Request) (p : AllocPoint) → GeometryFits me.geometry → me.who < me.geometry.clients → RequestFits q → PointFits me q p → is_over p ≡ false
    → (0 < at_of (alloc_ask_at me q p)) × (at_of (alloc_ask_at me q p) < total_of me.geometry)
ask_inside me q Era f l r h e = place_inside me.geometry (place.Era me.who me.who) f (grind (arith, nat_tests)) (λ z. cc)
ask_inside me q (Root d k) f l r h e = let z = h.1 in place_inside me.geometry (place.Root me.who k) f (grind (arith, nat_tests)) (λ z. cc)
ask_inside me q (Segment g s) f l r h e = segment_inside me q s.segment f h.1.segment
ask_inside me q (Claim g s) f l r h e = segment_inside me q s.segment f h.1.segment
ask_inside me q (Page g s p) f l r h e = page_inside me q s.segment p f h.1.segment h.2
ask_inside me q (Class g s p) f l r h e = page_inside me q s.segment p f h.1.segment h.2
ask_inside me q (Header g s p i) f l r h e =
    let b = block_of_within me q s p i h.1.segment h.2 h.3 in
    let k = class_room q.refs q.count r.refs r.count in
    (omega arith, omega arith)
ask_inside me q (Tag g b) f l r h e = word_inside me q b 1 r h.1 h.2 (omega arith)
ask_inside me q (Reference g b i) f l r h e = let z = h.2 in let w = word_inside me q b (2 + i) r h.1 h.3 (omega arith) in (omega arith, omega arith)
ask_inside me q (Plain g b i) f l r h e = let z = h.2 in let w = word_inside me q b (2 + q.refs + i) r h.1 h.3 (omega arith) in (omega arith, omega arith)
ask_inside me q (More g b) f l r h e = place_inside me.geometry (place.RedoMore me.who) f (and_from _ _ h.3 (lt-ltb me.who me.geometry.clients l)) (λ z. cc)
ask_inside me q (Redo g b) f l r h e = place_inside me.geometry (place.Redo me.who) f (grind (arith, nat_tests)) (λ z. cc)
ask_inside me q (Commit g b) f l r h e = let w = word_inside me q b 0 r h.1 h.2 (omega arith) in (omega arith, omega arith)
ask_inside me q (Slot g b) f l r h e = let z = h.0.root in place_inside me.geometry (place.Root me.who g.root) f (grind (arith, nat_tests)) (λ z. cc)
ask_inside me q (Close g b) f l r h e = place_inside me.geometry (place.Era me.who me.who) f (grind (arith, nat_tests)) (λ z. cc)
ask_inside me q Over f l r h e = absurd (true≢false e)

-- each word that an allocation asks for is in the pool
pub alloc_inside : Inside alloc_control AllocFits
alloc_inside m r0 r tr l fit going = (ask_inside m.me m.request m.point fit.knows.geometry l fit.knows.request fit.knows.point going).1

-- ---- back

-- what an answer says, it says of the identity and of the request alone
pub alloc_back : Back alloc_control AllocGives
alloc_back m n going goes r0 r tr a g = record { holds = g.holds; grows = g.grows; trail = g.trail; events = g.events }

-- ---- all

-- the laws of an allocation
pub alloc_laws : Laws alloc_control AllocFits AllocGives
alloc_laws = record { steady = alloc_steady; inside = alloc_inside; back = alloc_back; keeps = alloc_keeps }
