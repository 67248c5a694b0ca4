-- the steps of the search that read and store the classes of pages, and that read headers
use Rattle.std.proofs.Common.{◌≡◌, ◌≢◌, ℕ, ◌+◌, ◌-◌, ◌*◌, ◌/◌, ◌%◌, ◌<◌, refl, sym, ap, ◌∙◌, subst, arith, Bool, true, false, not, ◌&&◌, cond, eqb, ltb, leb, List, ◌∷◌, inl, inr}
use Rattle.std.proofs.lemmas.{Bool.{eq-eqb, ne_eqb, eqb-true, lt-ltb, and_from}, Map.Views.list_any-from_Contains}
use Rattle.std.specs.{List.{Contains, list_any}, Cmp.nat_eq_equiv}
use Rattle.shm_words.specs.{declared.geometry.Geometry.Geometry, Layout.{address, bodies}, Classes.IsClass}
use Rattle.shm_words.specs.Headers.{header_of}
use Rattle.shm_words.specs.declared.place.Place.TheVariants as place
use Rattle.shm_words.proofs.Classing.{class_is}
use Rattle.shm_graph.specs.declared.{ask.{Ask.TheVariants.{Load, Store}, Me.Me}, spot.Spot.Spot, memo.Fact.Fact}
use Rattle.shm_graph.specs.{declared.memo.{Op.Op, Memo.Memo, Step.Step}, Spots.{spot_at, block_spot, segment_of}}
use Rattle.shm_graph.specs.{Blocks.classes, Asks.Trail, Views.{view, ons}, Agents.recovers}
use Rattle.shm_graph.specs.Changes.{called, with_call, with_end, memo_on}
use Rattle.shm_graph.specs.{MemoAfterRead.{op_refused, raised_by, is_held}, MemoAfterStore.{class_read, class_told}}
use Rattle.shm_graph.specs.Laws.{Frame, framed}
use Rattle.shm_graph.specs.declared.spot.Spot.TheVariants as spot
use Rattle.shm_graph.specs.declared.memo.Fact.TheVariants as facts
use Rattle.shm_graph.specs.declared.memo.Op.TheVariants as op
use Rattle.shm_graph.proofs.{Machines.Calling.called_part, Spots.SpotPlaces.{spot-place, body_spot_at}}
use Rattle.shm_graph.proofs.StepKinds.{Loads.choice, LoadKeeping.load_kept}
use Rattle.kind_parts.proofs.{BlockTold.class_is_read, BodyLoads.header_loaded, PageSteps.class_stored}
use Rattle.kind_parts.proofs.{KeptAfter.kept_with, Cores.called_facts}
use Rattle.shm_alloc.specs.declared.{request.Request.Request, point.{Goal.Goal, Search.Search}}
use Rattle.shm_alloc.specs.declared.point.AllocPoint.TheVariants.{Page, Class, Header, Tag}
use Rattle.shm_alloc.specs.declared.point.AllocNext.TheVariants.{Point}
use Rattle.shm_alloc.specs.Alloc.Control.{class_asked, block_of, segment_at, page_at, index_at, alloc_next_at, first_header, page_over, header_used}
use Rattle.shm_alloc.specs.{Alloc.{GoalHas, CanAlloc, NextHolds}, Proved.Alloc.Steps.{PointKeeps, goal_on}}
use Rattle.shm_alloc.specs.Proved.Alloc.SearchSteps.{searched, Looks, Remains, remains, called_owned, looks_on, owned_on, page_done, own_same}
use Rattle.shm_alloc.specs.Proved.Turning.{segment_below, page_below, index_below}
use Rattle.kind_laws.proofs.Lists.{newest}

-- ---- the class of a page

-- the class that was read or stored last is the one that is told
class_first : (fs : List Fact) (s p n : ℕ) → class_read (facts.Class s p n ∷ fs) s p ≡ n
class_first fs s p n = ap (λ b. cond b n (class_read fs s p)) (and_from _ _ (eq-eqb s s refl) (eq-eqb p p refl))

-- by the class that was read: the page has none, has the one that is asked, or another one
page_found : (me : Me) (q : Request) (r0 r : Memo) (g : Goal) (s : Search) (p n : ℕ) → CanAlloc me r0 → Looks r0 r → GoalHas me.who r g → Contains r.owned (segment_at me q s.segment)
    → (eqb n 0 ≡ true → Contains r.zeros (spot.Page (segment_at me q s.segment) (page_at q p))) → (eqb n 0 ≡ false → class_read r.facts (segment_at me q s.segment) (page_at q p) ≡ n) → NextHolds me q r0 r (alloc_next_at me q (Page g s p) n)
page_found me q r0 r g s p n can h goal mine none some =
    choice (NextHolds me q r0 r) (eqb n 0) (Point (Class g s p)) (cond (eqb n (class_asked q)) (first_header g s p) (page_over me g s p))
    (λ z. record { stays = h.stays; op = h.op; own = h.own; has = (h.has, goal, mine, none z) })
    (λ z. choice (NextHolds me q r0 r) (eqb n (class_asked q)) (first_header g s p) (page_over me g s p)
    (λ e. record { stays = h.stays; op = h.op; own = h.own; has = (h.has, goal, mine, some z ∙ eqb-true n (class_asked q) e) })
    (λ _. page_done me q r0 r g s p can h goal mine))

-- the class of a page is loaded
pub page_step : (me : Me) (q : Request) (r0 : Memo) (w : Spot → ℕ) (r : ℕ → Memo) (f : Frame) (tr : Trail) (g : Goal) (s : Search) (p : ℕ) → PointKeeps me q r0 w r f tr (Page g s p)
page_step me q r0 w r f tr g s p st going can request fit h =
    let c = me.who in
    let i : ℕ = segment_at me q s.segment in
    let j : ℕ = page_at q p in
    let there : i < me.geometry.segments = segment_below me q s.segment fit.1.segment in
    let here : j < 16 = page_below q p fit.2 in
    let at = address me.geometry (place.Page i j) in
    let x : Spot = spot.Page i j in
    let n = w x in
    let t : Step = framed me (Load at) f n in
    let m : Memo = called (r c) t in
    let zero : Memo = record m { zeros = x ∷ m.zeros } in
    let class : Memo = record m { facts = facts.Class i j n ∷ m.facts } in
    let own = list_any (eqb i) m.owned in
    let memo : Bool → Bool → Memo = λ b d. with_end f.ends (with_call m (cond b (cond d zero m) class)) in
    let mine : own ≡ true = list_any-from_Contains nat_eq_equiv i m.owned (subst (λ os. Contains os i) (sym (called_owned (r c) t)) h.has.2) in
    let k : Remains (r c) (memo (eqb n 0) own) = remains (r c) t (memo (eqb n 0) own)
    (choice (λ (y : Memo). searched y ≡ searched m) (eqb n 0) (cond own zero m) class (λ _. choice (λ (y : Memo). searched y ≡ searched m) own zero m (λ _. refl) (λ _. refl)) (λ _. refl))
    (choice (λ (y : Memo). y.owned ≡ m.owned) (eqb n 0) (cond own zero m) class (λ _. choice (λ (y : Memo). y.owned ≡ m.owned) own zero m (λ _. refl) (λ _. refl)) (λ _. refl)) in
    load_kept me w r f tr at (λ n r'. NextHolds me q r0 r' (alloc_next_at me q (Page g s p) n)) x st
    (spot-place me.geometry (classes w) (place.Page i j) (and_from _ _ (lt-ltb i me.geometry.segments there) (lt-ltb j 16 here))) refl tt
    (page_found me q r0 (memo (eqb n 0) own) g s p n can
    (looks_on r0 (r c) (memo (eqb n 0) own) (record { stays = h.stays; op = h.op; own = h.own; has = h.has.0 }) k)
    (goal_on c (r c) (memo (eqb n 0) own) g (own_same (r c) (memo (eqb n 0) own) k) h.has.1)
    (owned_on (r c) (memo (eqb n 0) own) i h.has.2 k)
    (λ z. subst (λ b. Contains (memo b own).zeros x) (sym z) (subst (λ d. Contains (memo true d).zeros x) (sym mine) (newest x m.zeros)))
    (λ z. subst (λ b. class_read (memo b own).facts i j ≡ n) (sym z) (class_first m.facts i j n)))

-- ---- a page gets its class

-- the class that is asked is stored
pub class_step : (me : Me) (q : Request) (r0 : Memo) (w : Spot → ℕ) (r : ℕ → Memo) (f : Frame) (tr : Trail) (g : Goal) (s : Search) (p : ℕ) → PointKeeps me q r0 w r f tr (Class g s p)
class_step me q r0 w r f tr g s p st going can request fit h =
    let c = me.who in
    let i : ℕ = segment_at me q s.segment in
    let j : ℕ = page_at q p in
    let there : i < me.geometry.segments = segment_below me q s.segment fit.1.segment in
    let here : j < 16 = page_below q p fit.2 in
    let at = address me.geometry (place.Page i j) in
    let x : Spot = spot.Page i j in
    let t : Step = framed me (Store at (class_asked q)) f 0 in
    let e = spot-place me.geometry (classes w) (place.Page i j) (and_from _ _ (lt-ltb i me.geometry.segments there) (lt-ltb j 16 here)) in
    let k : Remains (r c) (memo_on (r c) t x) = remains (r c) t (memo_on (r c) t x) refl refl in
    let y = looks_on r0 (r c) (memo_on (r c) t x) (record { stays = h.stays; op = h.op; own = h.own; has = h.has.0 }) k in
    kept_with me w r (Store at (class_asked q)) f (λ n r'. NextHolds me q r0 r' (alloc_next_at me q (Class g s p) n)) x (spot_at me.geometry (classes w) at) e
    (class_stored me w r f tr at i j (class_asked q) st going e (record { live = h.stays.status ∙ can.idle.live; read = h.has.3; class = class_is q.refs q.count }))
    (record {
      stays = y.stays;
      op = y.op;
      own = y.own;
      has = (y.has, goal_on c (r c) (memo_on (r c) t x) g (own_same (r c) (memo_on (r c) t x) k) h.has.1, owned_on (r c) (memo_on (r c) t x) i h.has.2 k, class_first (called (r c) t).facts i j (class_asked q));
    })

-- ---- the blocks of a page

-- where i is below n, block i of a page of class k begins within the page, at a multiple of the class
abbrev Lies : ℕ → ℕ → ℕ → Type 0
Lies k i n = i < n → (k * i < 128) × (k * i % k ≡ 0) × (k ≢ 0)

-- the blocks of a class lie so
lies_in : (k i : ℕ) → IsClass k → Lies k i (128 / k)
lies_in k i (inl e) = subst (λ n. Lies n i (128 / n)) (sym e) (λ l. (omega arith, omega arith, omega arith))
lies_in k i (inr (inl e)) = subst (λ n. Lies n i (128 / n)) (sym e) (λ l. (omega arith, omega arith, omega arith))
lies_in k i (inr (inr (inl e))) = subst (λ n. Lies n i (128 / n)) (sym e) (λ l. (omega arith, omega arith, omega arith))
lies_in k i (inr (inr (inr e))) = subst (λ n. Lies n i (128 / n)) (sym e) (λ l. (omega arith, omega arith, omega arith))

-- the spot of word j of a page of class k, where that is a multiple of the class
head_there : (g : Geometry) (class : ℕ → ℕ → ℕ) (s p k j : ℕ) → class s p ≡ k → k ≢ 0 → j % k ≡ 0 → s < g.segments → p < 16 → j < 128
    → spot_at g class (address g (place.Body s p 0) + j) ≡ spot.Head (address g (place.Body s p 0) + j)
unfolding address
head_there g class s p k j e n m l o u =
    let a = bodies g + 2048 * s + 128 * p + j in
    let x : bodies g + 2048 * s + 128 * p + 0 + j ≡ a = omega arith in
    let z : eqb k 0 ≡ false = ne_eqb k 0 n in
    let y : eqb (j % k) 0 ≡ true = eq-eqb (j % k) 0 m in
    subst (λ (b : ℕ). spot_at g class b ≡ spot.Head b) (sym x) (body_spot_at g class s p j l o u ∙ (ap (λ i. block_spot i a j) e ∙ rw (z, y) refl))

-- the page of that block
page_of : (g : Geometry) (s p j : ℕ) → p < 16 → j < 128 → (segment_of g (address g (place.Body s p 0) + j) ≡ s) × ((address g (place.Body s p 0) + j - bodies g) / 128 % 16 ≡ p)
unfolding address
page_of g s p j o u =
    let x : bodies g + 2048 * s + 128 * p + 0 + j - bodies g ≡ 2048 * s + 128 * p + j = omega arith in
    (rw x (omega arith), rw x (omega arith))

-- the class that is told of it
class_of_page : (g : Geometry) (fs : List Fact) (s p j : ℕ) → p < 16 → j < 128 → class_told g fs (address g (place.Body s p 0) + j) ≡ class_read fs s p
class_of_page g fs s p j o u =
    let e = page_of g s p j o u in
    ap (λ i. class_read fs i ((address g (place.Body s p 0) + j - bodies g) / 128 % 16)) e.0 ∙ ap (λ i. class_read fs s i) e.1

-- ---- a header

-- a memo without a step in progress stays so, where a header is read
not_refused : (m : Memo) (b n : ℕ) → m.op ≡ op.Nothing → op_refused m b n ≡ m.op
not_refused m b n e = choice (λ (o : Op). o ≡ m.op) (not (recovers m) && (is_held (raised_by m.op) b && leb 1023 (header_of n).count)) op.Nothing m.op (λ _. sym e) (λ _. refl)

-- by the header that was read: the block is free, or the next header is read, or the page is over
header_found : (me : Me) (q : Request) (r0 r : Memo) (g : Goal) (s : Search) (p i n : ℕ) → CanAlloc me r0 → Looks r0 r → GoalHas me.who r g → Contains r.owned (segment_at me q s.segment) → class_read r.facts (segment_at me q s.segment) (page_at q p) ≡ class_asked q
    → (eqb n 0 ≡ true → Contains r.zeros (spot.Head (block_of me q s p i))) → class_told me.geometry r.facts (block_of me q s p i) ≡ class_asked q → NextHolds me q r0 r (alloc_next_at me q (Header g s p i) n)
header_found me q r0 r g s p i n can h goal mine class none told =
    let s' : Search = record s { used = s.used + 1 } in
    choice (NextHolds me q r0 r) (eqb n 0) (Point (Tag g (block_of me q s p i))) (header_used me q g s' p i)
    (λ z. record { stays = h.stays; op = h.op; own = h.own; has = (h.has, goal, none z, told) })
    (λ _. choice (NextHolds me q r0 r) (ltb (i + 1) (128 / class_asked q)) (Point (Header g s' p (i + 1))) (page_over me g s' p)
    (λ _. record { stays = h.stays; op = h.op; own = h.own; has = (h.has, goal, mine, class) })
    (λ _. page_done me q r0 r g s' p can h goal mine))

-- the header of a block is loaded
pub header_step : (me : Me) (q : Request) (r0 : Memo) (w : Spot → ℕ) (r : ℕ → Memo) (f : Frame) (tr : Trail) (g : Goal) (s : Search) (p i : ℕ) → PointKeeps me q r0 w r f tr (Header g s p i)
header_step me q r0 w r f tr g s p i st going can request fit h =
    let c = me.who in
    let k = class_asked q in
    let y : ℕ = segment_at me q s.segment in
    let z : ℕ = page_at q p in
    let j : ℕ = index_at q i in
    let there : y < me.geometry.segments = segment_below me q s.segment fit.1.segment in
    let here : z < 16 = page_below q p fit.2 in
    let b = block_of me q s p i in
    let x : Spot = spot.Head b in
    let n = w x in
    let t : Step = framed me (Load b) f n in
    let m : Memo = called (r c) t in
    let r' : Memo = memo_on (r c) t x in
    let l = lies_in k j (class_is q.refs q.count) (index_below q i fit.3) in
    let some : class_read (r c).facts y z ≢ 0 = λ none. l.2 (sym h.has.3 ∙ none) in
    let class : w (spot.Page y z) ≡ k =
    class_is_read me.geometry.clients (λ i j. w (spot.Era i j)) (ons (view r)) (λ s q. w (spot.Tail s q)) (λ s q. w (spot.QueueHead s q)) (classes w) (r c).facts y z (st.held.facts c st.who) some ∙ h.has.3 in
    let e : spot_at me.geometry (classes w) b ≡ x = head_there me.geometry (classes w) y z k (k * j) class l.2 l.1 there here l.0 in
    let same : searched r' ≡ searched m = ap (λ (o : Op). record (searched m) { op = o }) (not_refused m b n (called_part (λ (y : Memo). y.op) (r c) t refl refl ∙ h.op)) in
    let on : Remains (r c) r' = remains (r c) t r' same refl in
    let told : class_read r'.facts y z ≡ k = ap (λ (fs : List Fact). class_read fs y z) (called_facts me (Load b) f n (r c) going) ∙ h.has.3 in
    let own = list_any (eqb (segment_of me.geometry b)) m.owned in
    let mine : own ≡ true =
    ap (λ v. list_any (eqb v) m.owned) (page_of me.geometry y z (k * j) here l.0).0
    ∙ list_any-from_Contains nat_eq_equiv y m.owned (subst (λ os. Contains os y) (sym (called_owned (r c) t)) h.has.2) in
    kept_with me w r (Load b) f (λ n r'. NextHolds me q r0 r' (alloc_next_at me q (Header g s p i) n)) x (spot_at me.geometry (classes w) b) e
    (header_loaded me w r f tr b b st e)
    (header_found me q r0 r' g s p i n can
    (looks_on r0 (r c) r' (record { stays = h.stays; op = h.op; own = h.own; has = h.has.0 }) on)
    (goal_on c (r c) r' g (own_same (r c) r' on) h.has.1)
    (owned_on (r c) r' y h.has.2 on)
    told
    (λ none. subst (λ d. Contains (cond d (x ∷ m.zeros) m.zeros) x) (sym (and_from (eqb n 0) own none mine)) (newest x m.zeros))
    (class_of_page me.geometry r'.facts y z (k * j) here l.0 ∙ told))
