-- the event of each step of an allocation is the one that it tells
use Rattle.std.proofs.Common.{◌≡◌, ℕ, ◌+◌, ◌<◌, refl, sym, ap, ◌∙◌, subst, arith, false, eqb, eq-eqb, lt-ltb}
use Rattle.std.proofs.lemmas.{Bool.{true≢false, and_from, cond-true}, List.Elements.All-contains}
use Rattle.shm_words.specs.declared.place.Place.TheVariants as place
use Rattle.shm_words.proofs.Classing.{class_room}
use Rattle.shm_graph.specs.declared.{ask.{Ask.{Ask, TheVariants.{Load, Store, Exchange}}, Me.Me}, spot.Spot.Spot}
use Rattle.shm_graph.specs.{declared.memo.{Memo.Memo, Making.Making, Step.Step}, Spots.{spot_at, segment_of}}
use Rattle.shm_graph.specs.{Blocks.{classes, IsBlock}, Held.ZeroAt, Asks.{Trail, at_of, seen_of}, Events.Nothing}
use Rattle.shm_graph.specs.{Laws.{Frame, framed, Stands, event_by, event_on, event_of}, Tells.Tells}
use Rattle.shm_graph.specs.declared.spot.Spot.TheVariants as spot
use Rattle.shm_graph.proofs.{Spots.{SpotPlaces.spot-place, Spotting.{block_within, tag_spot}}, Memos.LoadTold.is_head}
use Rattle.kind_parts.proofs.Prepared.{MakingHolds, making_holds}
use Rattle.shm_alloc.specs.declared.{request.Request.Request, point.AllocPoint.AllocPoint}
use Rattle.shm_alloc.specs.declared.point.AllocPoint.TheVariants.{Era, Root, Segment, Claim, Page, Class, Header, Tag, Reference, Plain, More, Redo, Commit, Slot, Close, Over}
use Rattle.shm_alloc.specs.Proved.{Turning.{segment_below, page_below}, Alloc.MakingSteps.word_spot}
use Rattle.shm_alloc.specs.Alloc.Control.{segment_at, page_at, alloc_ask_at, alloc_control, is_over, RequestFits, PointFits}
use Rattle.shm_alloc.specs.Alloc.{Events.{alloc_event_at, alloc_event}, PointHolds, IsPrepared, AllocFits}

-- a step at another word than a header is no event
elsewhere : (m : Memo) (t : Step) (a : Ask) (p q : Spot) → p ≡ q → is_head q ≡ false → event_by m t a p ≡ Nothing
elsewhere m t a p q e n = ap (event_by m t a) e ∙ go a q n
  where
    go : (b : Ask) (x : Spot) → is_head x ≡ false → event_by m t b x ≡ Nothing
    go (Load at) x z = refl
    go (Store at v) (spot.Head b) z = absurd (true≢false z)
    go (Exchange at from to) (spot.Head b) z = absurd (true≢false z)
    go (Store at v) x z = refl
    go (Exchange at from to) x z = refl

-- so is one that is asked for there
quiet : (me : Me) (w : Spot → ℕ) (r : ℕ → Memo) (f : Frame) (a : Ask) (q : Spot) → spot_at me.geometry (classes w) (at_of a) ≡ q → is_head q ≡ false
    → let s = spot_at me.geometry (classes w) (at_of a) in event_on (r me.who) (framed me a f (seen_of a (w s))) s ≡ Nothing
quiet me w r f a q e n = let s = spot_at me.geometry (classes w) (at_of a) in elsewhere (r me.who) (framed me a f (seen_of a (w s))) a s q e n

-- the event at a point: that of the exchange of the header, which finds 0, and otherwise none
commits : (me : Me) (q : Request) (r0 : Memo) (w : Spot → ℕ) (r : ℕ → Memo) (f : Frame) (tr : Trail) (p : AllocPoint) → Stands me w r f tr → PointHolds me q r0 (r me.who) p → is_over p ≡ false
    → let a : Ask = alloc_ask_at me q p in let s = spot_at me.geometry (classes w) (at_of a) in
    RequestFits q → PointFits me q p → event_on (r me.who) (framed me a f (seen_of a (w s))) s ≡ alloc_event_at me p (seen_of a (w s))
commits me q r0 w r f tr Era st h o fits l = refl
commits me q r0 w r f tr (Root e k) st h o fits l = refl
commits me q r0 w r f tr (Segment g s) st h o fits l = refl
commits me q r0 w r f tr (Claim g s) st h o fits l = quiet me w r f (alloc_ask_at me q (Claim g s)) (spot.Segment (segment_at me q s.segment)) (spot-place me.geometry (classes w) (place.Segment (segment_at me q s.segment)) (lt-ltb (segment_at me q s.segment) me.geometry.segments (segment_below me q s.segment l.1.segment))) refl
commits me q r0 w r f tr (Page g s p) st h o fits l = refl
commits me q r0 w r f tr (Class g s p) st h o fits l = quiet me w r f (alloc_ask_at me q (Class g s p)) (spot.Page (segment_at me q s.segment) (page_at q p)) (spot-place me.geometry (classes w) (place.Page (segment_at me q s.segment) (page_at q p)) (and_from _ _ (lt-ltb (segment_at me q s.segment) me.geometry.segments (segment_below me q s.segment l.1.segment)) (lt-ltb (page_at q p) 16 (page_below q p l.2)))) refl
commits me q r0 w r f tr (Header g s p i) st h o fits l = refl
commits me q r0 w r f tr (Tag g b) st h o fits l =
    let zero : (w (spot.Head b) ≡ 0) × IsBlock me.geometry (classes w) b × (w (spot.Segment (segment_of me.geometry b)) ≡ me.who + 1) = All-contains (ZeroAt me.geometry (classes w) (λ i. w (spot.Segment i)) (λ i. w (spot.Head i)) me.who) (r me.who).zeros (spot.Head b) (st.held.zeros me.who st.who) h.has.2 in
    quiet me w r f (alloc_ask_at me q (Tag g b)) (spot.Tag b) (tag_spot me.geometry (classes w) b zero.1 (st.held.sizes.classes _ _ (block_within me.geometry (classes w) b zero.1).2)) refl
commits me q r0 w r f tr (Reference g b i) st h o fits l =
    let room = class_room q.refs q.count fits.refs fits.count in
    let less : i < q.refs = l.2 in
    quiet me w r f (alloc_ask_at me q (Reference g b i)) (spot.Body b i) (word_spot me q w r b i i 0 h.has.3.0 st.held st.who h.has.3.1 h.has.3.2 (omega arith)) refl
commits me q r0 w r f tr (Plain g b i) st h o fits l =
    let room = class_room q.refs q.count fits.refs fits.count in
    let less : i < q.count = l.2 in
    let sum : b + 2 + q.refs + i ≡ b + 2 + (q.refs + i) = omega arith in
    quiet me w r f (alloc_ask_at me q (Plain g b i)) (spot.Body b (q.refs + i)) (ap (spot_at me.geometry (classes w)) sum ∙ word_spot me q w r b (q.refs + i) q.refs i h.has.3.0 st.held st.who h.has.3.1 h.has.3.2 (omega arith)) refl
commits me q r0 w r f tr (More g b) st h o fits l = quiet me w r f (alloc_ask_at me q (More g b)) (spot.RedoMore me.who) (spot-place me.geometry (classes w) (place.RedoMore me.who) (and_from _ _ l.3 (lt-ltb me.who me.geometry.clients st.who))) refl
commits me q r0 w r f tr (Redo g b) st h o fits l = quiet me w r f (alloc_ask_at me q (Redo g b)) (spot.Redo me.who) (spot-place me.geometry (classes w) (place.Redo me.who) (lt-ltb me.who me.geometry.clients st.who)) refl
commits me q r0 w r f tr (Commit g b) st h o fits l =
    let k : Making = h.has.3.0 in
    let words : IsPrepared me.geometry.wide me.who q b q.refs q.count k = h.has.3.2 in
    let s : MakingHolds w me.geometry me.who k = making_holds me.geometry w r me.who k st.held st.who h.has.3.1 in
    let free : w (spot.Head b) ≡ 0 = ap (λ d. w (spot.Head d)) (sym words.block) ∙ s.free in
    let e : spot_at me.geometry (classes w) b ≡ spot.Head b = subst (IsBlock me.geometry (classes w)) words.block s.block in
    let t : ℕ → Step = λ n. framed me (alloc_ask_at me q (Commit g b)) f n in
    ap (λ x. event_on (r me.who) (t (w x)) x) e ∙ (cond-true (eqb (w (spot.Head b)) 0) _ _ (eq-eqb (w (spot.Head b)) 0 free) ∙ ap (event_of me.who) h.op)
commits me q r0 w r f tr (Slot g b) st h o fits l = quiet me w r f (alloc_ask_at me q (Slot g b)) (spot.Root me.who g.root) (spot-place me.geometry (classes w) (place.Root me.who g.root) (and_from _ _ (lt-ltb me.who me.geometry.clients st.who) (lt-ltb g.root 16 l.0.root))) refl
commits me q r0 w r f tr (Close g b) st h o fits l = quiet me w r f (alloc_ask_at me q (Close g b)) (spot.Era me.who me.who) (spot-place me.geometry (classes w) (place.Era me.who me.who) (and_from _ _ (lt-ltb me.who me.geometry.clients st.who) (lt-ltb me.who me.geometry.clients st.who))) refl
commits me q r0 w r f tr Over st h o fits l = absurd (true≢false o)

-- in any frame
pub alloc_tells : Tells alloc_control AllocFits alloc_event
alloc_tells m r0 tr w r f going st fit = commits m.me m.request r0 w r f tr m.point st fit.holds going fit.knows.request fit.knows.point
