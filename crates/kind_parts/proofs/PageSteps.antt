-- the steps of segments' words, of pages' classes and of a latch that is taken, as machines use them
use Rattle.std.proofs.Common.{◌≡◌, ℕ, ◌+◌, refl, sym, ap, subst, false, ◌∷◌, Some, None, inr}
use Rattle.std.proofs.lemmas.List.Elements.{All-contains}
use Rattle.std.specs.List.{filter}
use Rattle.shm_graph.specs.declared.{ask.{Ask.TheVariants.{Store, Exchange}, Me.Me}, memo.Memo.Memo}
use Rattle.shm_graph.specs.declared.{memo.Fact.TheVariants.Class, spot.Spot.Spot}
use Rattle.shm_graph.specs.{declared.spot.Spot.TheVariants.{Latch, Segment, Page, Head}, Spots.spot_at, Blocks.classes}
use Rattle.shm_graph.specs.{Views.{View, view, at1}, Held.ZeroAt, Asks.Trail}
use Rattle.shm_graph.specs.{MemoAfterStore.{not_segment, outside_of, other_than}, Laws.{Frame, Stands, KeptAt}}
use Rattle.shm_graph.proofs.{Spots.Spotting.spot_there, StepKinds.Keeping.told_fixed}
use Rattle.shm_graph.proofs.{StepKinds.KindKeeping.{in_frame, kept_from, kept_exchange}, Memos.MemoParts.put_same}
use Rattle.kind_laws.specs.Segments.{ClassNeeds, class_view, ClaimNeeds, claim_view, SegmentBackNeeds, segment_back_view}
use Rattle.kind_laws.specs.Latches.{LatchNeeds, latch_view}
use Rattle.kind_laws.proofs.SegmentClaim.{claim_kept, claim_quiet}
use Rattle.kind_laws.proofs.{SegmentBack.{segment_back_kept, segment_back_quiet}, PageClass.class_kept}
use Rattle.kind_laws.proofs.{Latches.latch_kept, Quiet.{class_quiet, latch_quiet}}
use Rattle.kind_parts.specs.{Conditions.IsHere, Preparing.{MayGive, MayClass, MayLatch}}

-- a segment that nobody owns becomes the identity's
pub claimed : (me : Me) (w : Spot → ℕ) (r : ℕ → Memo) (f : Frame) (tr : Trail) (at s : ℕ) → Stands me w r f tr → f.fresh ≡ false → spot_at me.geometry (classes w) at ≡ Segment s → w (Segment s) ≡ 0 → IsHere (r me.who)
    → KeptAt me w r (Exchange at 0 (me.who + 1)) f (λ n m. Unit {0}) (spot_at me.geometry (classes w) at)
claimed me w r f tr at s st going e free a =
    let g = me.geometry in
    let c = me.who in
    let v : View = view r in
    let step : ClaimNeeds g w v c s = record { inside = st.who; acts = a.joined; here = a.stays; free = free; place = spot_there g (classes w) at (Segment s) e (λ z. cc) } in
    subst (KeptAt me w r (Exchange at 0 (c + 1)) f (λ n m. Unit {0})) (sym e)
    (in_frame (λ h. KeptAt me w r (Exchange at 0 (c + 1)) h (λ n m. Unit {0}) (Segment s)) f going
    (kept_exchange me w r at 0 (c + 1) (record f { fresh = false }) (λ n m. Unit {0}) (Segment s) (claim_view v c s) free
    (told_fixed g (classes w) c (r c) (Exchange at 0 (c + 1)) (Segment s) e refl)
    (sym (ap (λ (u : View). record u { owned = at1 v.owned c (s ∷ v.owned c); test = at1 v.test c None }) (put_same v c)))
    (claim_kept g w v c s st.held step)
    (claim_quiet g w v c s st.held step)
    (λ z. inr free) tt tt tt))

-- an own segment is given up
pub given_up : (me : Me) (w : Spot → ℕ) (r : ℕ → Memo) (f : Frame) (tr : Trail) (at s : ℕ) → Stands me w r f tr → f.fresh ≡ false → spot_at me.geometry (classes w) at ≡ Segment s → MayGive (r me.who) s
    → KeptAt me w r (Store at 0) f (λ n m. Unit {0}) (spot_at me.geometry (classes w) at)
given_up me w r f tr at s st going e a =
    let g = me.geometry in
    let c = me.who in
    let v : View = view r in
    let step : SegmentBackNeeds g v c s = record { inside = st.who; acts = a.here.joined; here = a.here.stays; making = a.idle; owned = a.owned } in
    subst (KeptAt me w r (Store at 0) f (λ n m. Unit {0})) (sym e)
    (in_frame (λ h. KeptAt me w r (Store at 0) h (λ n m. Unit {0}) (Segment s)) f going
    (kept_from me w r (Store at 0) (record f { fresh = false }) (λ n m. Unit {0}) (Segment s) (segment_back_view g v c s)
    (told_fixed g (classes w) c (r c) (Store at 0) (Segment s) e refl)
    (sym (ap (λ (u : View). record u { owned = at1 v.owned c (filter (not_segment s) (v.owned c)); zeros = at1 v.zeros c (filter (outside_of g s) (v.zeros c)); test = at1 v.test c None }) (put_same v c)))
    (segment_back_kept g w v c s st.held step)
    (segment_back_quiet g w v c s st.held step)
    ((st.held.segments c st.who).listed s a.owned) tt tt tt))

-- a page of an own segment gets its class
pub class_stored : (me : Me) (w : Spot → ℕ) (r : ℕ → Memo) (f : Frame) (tr : Trail) (at s q k : ℕ) → Stands me w r f tr → f.fresh ≡ false → spot_at me.geometry (classes w) at ≡ Page s q → MayClass (r me.who) s q k
    → KeptAt me w r (Store at k) f (λ n m. Unit {0}) (spot_at me.geometry (classes w) at)
class_stored me w r f tr at s q k st going e a =
    let g = me.geometry in
    let c = me.who in
    let v : View = view r in
    let step : ClassNeeds g w v c s q k = record { inside = st.who; acts = a.live; page = spot_there g (classes w) at (Page s q) e (λ z. cc); read = a.read; class = a.class } in
    let zero : (w (Page s q) ≡ 0) × (w (Segment s) ≡ c + 1) = All-contains (ZeroAt g (classes w) (λ i. w (Segment i)) (λ b. w (Head b)) c) (v.zeros c) (Page s q) (st.held.zeros c st.who) a.read in
    subst (KeptAt me w r (Store at k) f (λ n m. Unit {0})) (sym e)
    (in_frame (λ h. KeptAt me w r (Store at k) h (λ n m. Unit {0}) (Page s q)) f going
    (kept_from me w r (Store at k) (record f { fresh = false }) (λ n m. Unit {0}) (Page s q) (class_view v c s q k)
    (told_fixed g (classes w) c (r c) (Store at k) (Page s q) e refl)
    (sym (ap (λ (u : View). record u { zeros = at1 v.zeros c (filter (other_than (Page s q)) (v.zeros c)); facts = at1 v.facts c (Class s q k ∷ v.facts c); test = at1 v.test c None }) (put_same v c)))
    (class_kept g w v c s q k st.held step)
    (class_quiet g w v c s q k st.held step)
    (zero.1, zero.0) tt tt tt))

-- a latch that nobody holds is taken
pub latched : (me : Me) (w : Spot → ℕ) (r : ℕ → Memo) (f : Frame) (tr : Trail) (at a : ℕ) → Stands me w r f tr → f.fresh ≡ false → spot_at me.geometry (classes w) at ≡ Latch a → w (Latch a) ≡ 0 → MayLatch me.who (r me.who) a
    → KeptAt me w r (Exchange at 0 (me.who + 1)) f (λ n m. Unit {0}) (spot_at me.geometry (classes w) at)
latched me w r f tr at a st going e free may =
    let g = me.geometry in
    let c = me.who in
    let v : View = view r in
    let step : LatchNeeds g w v c a = record { inside = st.who; acts = may.here.joined; here = may.here.stays; place = spot_there g (classes w) at (Latch a) e (λ z. cc); op = may.idle; none = may.none; free = free; hold = may.wants } in
    subst (KeptAt me w r (Exchange at 0 (c + 1)) f (λ n m. Unit {0})) (sym e)
    (in_frame (λ h. KeptAt me w r (Exchange at 0 (c + 1)) h (λ n m. Unit {0}) (Latch a)) f going
    (kept_exchange me w r at 0 (c + 1) (record f { fresh = false }) (λ n m. Unit {0}) (Latch a) (latch_view v c a) free
    (told_fixed g (classes w) c (r c) (Exchange at 0 (c + 1)) (Latch a) e refl)
    (sym (ap (λ (u : View). record u { latch = at1 v.latch c (Some a); test = at1 v.test c None }) (put_same v c)))
    (latch_kept g w v c a st.held step)
    (latch_quiet g w v c a st.held step)
    (λ z. inr free) tt tt tt))
