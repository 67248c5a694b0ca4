-- puts, copies and receives: while one runs the own map is what it was, until its deciding step, and from then on its key has its value block
use Rattle.std.proofs.Common.{◌≡◌, ℕ, refl, sym, subst, Bool, true, false, List, Option, Some, None}
use Rattle.shm_graph.specs.{declared.{ask.Me.Me, memo.Memo.Memo}, Asks.Trail, Events.Event, Tells.after_all}
use Rattle.plans.specs.{declared.or.Or.TheVariants.{First, Second}, CallsControl.calls_of, CallsFit.CallsFits}
use Rattle.plans.specs.Either.{or_control}
use Rattle.shm_alloc.specs.Alloc.Control.{alloc_control}
use Rattle.shm_ref.specs.DropRoots.Control.{drop_root}
use Rattle.shm_table.specs.declared.{answer.PutFault.PutFault, copy.{CopyPoint.CopyPoint, CopyState.CopyState}}
use Rattle.shm_table.specs.declared.{put.{PutPoint.PutPoint, PutState.PutState}, recv.RecvPoint.RecvPoint}
use Rattle.shm_table.specs.{declared.recv.RecvState.RecvState, Commands.ValueSo}
use Rattle.shm_table.specs.CopyKey.Control.{CopyCall, CopyCalls, copy_call_at, copy_parts, fetch_control}
use Rattle.shm_table.specs.CopyKey.{CopyKnows, copy_part, copy_plan}
use Rattle.shm_table.specs.{Effects.{copy_at, put_at, put_root_decided, recv_at, settled}, Proved.Enter.Laws.enter_laws}
use Rattle.shm_table.specs.Proved.{Locate.Laws.locate_laws, OpenTable.Laws.open_laws, PutRoot.Laws.put_root_laws}
use Rattle.shm_table.specs.Proved.{PutRoot.Steps.{same_more, set_after, set_then}, Replace.Laws.replace_laws}
use Rattle.shm_table.specs.Machines.{Copy.copy_control, Put.put, Recv.recv_control}
use Rattle.shm_table.specs.Put.{Control.{PutCall, PutCalls, put_call_at, put_parts}, PutKnows, put_part, put_plan}
use Rattle.shm_table.specs.PutRoot.Control.{PutRootCalls, put_root_parts, putting_root, put_root_steered, put_root_control}
use Rattle.shm_table.specs.PutRoot.{put_root_plan}
use Rattle.shm_table.specs.RecvKey.Control.{RecvCall, RecvCalls, fetch_head_control, recv_call_at, recv_parts, take_head_control}
use Rattle.shm_table.specs.{RecvKey.{RecvKnows, recv_part, recv_plan}, Staying.{MapSet, SameMap}}
use Rattle.shm_table.specs.declared.copy.CopyPoint.TheVariants as copies
use Rattle.shm_table.specs.declared.put.PutPoint.TheVariants as puts
use Rattle.shm_table.specs.declared.recv.RecvPoint.TheVariants as receives
use Rattle.shm_table.proofs.Running.AsMade.{at_first, at_second, at_second_first, at_second_second, made_so}
use Rattle.shm_table.proofs.Running.{Entries.MapBy, Fetching.{fetch_head_quiet, fetch_quiet}}
use Rattle.shm_table.proofs.Running.Reading.{drop_quiet, take_head_quiet}
use Rattle.shm_table.proofs.Running.{Roots.{RootDoes, by_call, by_then, put_root_so}, Still.{alloc_still, same_now}}

-- ---- what they share

-- while the value block is brought in, where its number is known
brought_so : (me : Me) (key n v : ℕ) (t : Trail) (r0 rs r : Memo) → SameMap r0 rs → (RootDoes (putting_root me key v) rs r → MapSet key n v rs r) → let c = after_all put_root_control (calls_of put_root_steered (putting_root me key v)) t in put_root_control.finished c ≡ false → CallsFits put_root_parts put_root_plan c rs r t
    → MapBy (put_root_decided c) (MapSet key n v r0 r) r0 r
brought_so me key n v t r0 rs r same so run fit =
    let c : PutRootCalls = after_all put_root_control (calls_of put_root_steered (putting_root me key v)) t in
    let made = made_so put_root_parts put_root_plan (put_root_laws open_laws locate_laws replace_laws enter_laws) (putting_root me key v) t refl in
    by_call (put_root_decided c) (RootDoes c.plan rs r) (MapSet key n v r0 r) r0 rs r same (λ d. set_after key n v r0 rs r same (so (subst (λ s. RootDoes s rs r) made d))) (put_root_so c rs r t run fit)

-- once it is settled
valued_so : (me : Me) (key n b : ℕ) (r0 r : Memo) (es : List Event) (z : Bool) (f : Option PutFault) → (z ≡ false → SameMap r0 r) → ValueSo me key n b r0 r es f → MapBy (settled z f) (MapSet key n b r0 r) r0 r
valued_so me key n b r0 r es false None still h = still refl
valued_so me key n b r0 r es true None still h = h.0
valued_so me key n b r0 r es z (Some f) still h = h.0

-- and after it
valued_then : (key n b : ℕ) (z : Bool) (f : Option PutFault) (r0 rs r : Memo) → MapBy (settled z f) (MapSet key n b r0 rs) r0 rs → SameMap rs r → MapBy (settled z f) (MapSet key n b r0 r) r0 r
valued_then key n b z f r0 rs r h same = by_then (settled z f) (MapSet key n b r0 rs) (MapSet key n b r0 r) r0 rs r (λ d. set_then key n b r0 rs r d same) same h

-- ---- puts

abbrev PutSo : PutState → (r0 rs r : Memo) → Trail → PutCall → Type 0
PutSo p r0 rs r t c = put_parts.finished c ≡ false → put_part.fits c rs r t → MapBy (put_at p c) (MapSet p.key p.number p.block r0 r) r0 r

pub put_so : (m : PutCalls) (r0 r : Memo) (tr : Trail) → put.finished m ≡ false → CallsFits put_parts put_plan m r0 r tr → MapBy (put_at m.plan m.call) (MapSet m.plan.key m.plan.number m.plan.block r0 r) r0 r
put_so m r0 r tr going fit = go m.plan m.plan.point m.call r0 fit.rs r fit.before fit.t fit.es fit.there fit.knows going fit.fits
  where
    go : (p : PutState) (y : PutPoint) (c : PutCall) (r0 rs r : Memo) (before t : Trail) (es : List Event) → after_all put_parts (put_call_at p y) t ≡ c → PutKnows p y r0 rs before es → PutSo p r0 rs r t c
    go p puts.Make c r0 rs r before t es there known =
        at_first alloc_control (or_control put_root_control drop_root) (PutSo p r0 rs r t) _ t there
        (λ run fit. same_more r0 rs r (same_now r0 rs known.2) (alloc_still _ rs r t run fit))
    go p puts.Put c r0 rs r before t es there known =
        at_second_first alloc_control put_root_control drop_root (PutSo p r0 rs r t) _ t there
        (λ run fit. brought_so p.me p.key p.number p.block t r0 rs r known.map (λ d. d p.number known.value) run fit)
    go p puts.Drop c r0 rs r before t es there known =
        at_second_second alloc_control put_root_control drop_root (PutSo p r0 rs r t) _ t there
        (λ run fit. valued_then p.key p.number p.block p.decided p.refused r0 rs r (valued_so p.me p.key p.number p.block r0 rs es p.decided p.refused known.1 known.0.value) (drop_quiet _ rs r t run fit).0)

-- ---- copies

abbrev CopySo : CopyState → (r0 rs r : Memo) → Trail → CopyCall → Type 0
CopySo p r0 rs r t c = copy_parts.finished c ≡ false → copy_part.fits c rs r t → MapBy (copy_at p c) (MapSet p.key p.number p.block r0 r) r0 r

pub copy_so : (m : CopyCalls) (r0 r : Memo) (tr : Trail) → copy_control.finished m ≡ false → CallsFits copy_parts copy_plan m r0 r tr → MapBy (copy_at m.plan m.call) (MapSet m.plan.key m.plan.number m.plan.block r0 r) r0 r
copy_so m r0 r tr going fit = go m.plan m.plan.point m.call r0 fit.rs r fit.before fit.t fit.es fit.there fit.knows going fit.fits
  where
    go : (p : CopyState) (y : CopyPoint) (c : CopyCall) (r0 rs r : Memo) (before t : Trail) (es : List Event) → after_all copy_parts (copy_call_at p y) t ≡ c → CopyKnows p y r0 rs before es → CopySo p r0 rs r t c
    go p copies.Fetch c r0 rs r before t es there known =
        at_first fetch_control (or_control put_root_control drop_root) (CopySo p r0 rs r t) _ t there
        (λ run fit. same_more r0 rs r (same_now r0 rs known.1) (fetch_quiet _ rs r t run fit).0)
    go p copies.Put c r0 rs r before t es there known =
        at_second_first fetch_control put_root_control drop_root (CopySo p r0 rs r t) _ t there
        (λ run fit. brought_so p.me p.key p.number p.block t r0 rs r known.1.map (λ d. d p.number known.1.value) run fit)
    go p copies.Drop c r0 rs r before t es there known =
        at_second_second fetch_control put_root_control drop_root (CopySo p r0 rs r t) _ t there
        (λ run fit. valued_then p.key p.number p.block p.decided p.refused r0 rs r (valued_so p.me p.key p.number p.block r0 rs es p.decided p.refused known.1 known.0.value) (drop_quiet _ rs r t run fit).0)

-- ---- receives

abbrev RecvSo : RecvState → (r0 rs r : Memo) → Trail → RecvCall → Type 0
RecvSo p r0 rs r t c = recv_parts.finished c ≡ false → recv_part.fits c rs r t → MapBy (recv_at p c) (MapSet p.key p.number p.block r0 r) r0 r

pub recv_so : (m : RecvCalls) (r0 r : Memo) (tr : Trail) → recv_control.finished m ≡ false → CallsFits recv_parts recv_plan m r0 r tr → MapBy (recv_at m.plan m.call) (MapSet m.plan.key m.plan.number m.plan.block r0 r) r0 r
recv_so m r0 r tr going fit = go m.plan m.plan.point m.call r0 fit.rs r fit.before fit.t fit.es fit.there fit.knows going fit.fits
  where
    go : (p : RecvState) (y : RecvPoint) (c : RecvCall) (r0 rs r : Memo) (before t : Trail) (es : List Event) → after_all recv_parts (recv_call_at p y) t ≡ c → RecvKnows p y r0 rs before es → RecvSo p r0 rs r t c
    go p receives.Fetch c r0 rs r before t es there known =
        at_first (or_control fetch_head_control take_head_control) (or_control put_root_control drop_root) (RecvSo p r0 rs r t) _ t there (at_first fetch_head_control take_head_control (λ x. RecvSo p r0 rs r t (First x)) _ t refl
        (λ run fit. same_more r0 rs r (same_now r0 rs known.1) (fetch_head_quiet _ rs r t run fit).0))
    go p receives.Take c r0 rs r before t es there known =
        at_first (or_control fetch_head_control take_head_control) (or_control put_root_control drop_root) (RecvSo p r0 rs r t) _ t there (at_second fetch_head_control take_head_control (λ x. RecvSo p r0 rs r t (First x)) _ t refl
        (λ run fit. valued_then p.key p.number p.block p.decided p.refused r0 rs r (valued_so p.me p.key p.number p.block r0 rs es p.decided p.refused known.3 (subst (ValueSo p.me p.key p.number p.block r0 rs es) (sym known.0) known.1.value)) (take_head_quiet _ rs r t run fit).0))
    go p receives.Put c r0 rs r before t es there known =
        at_second (or_control fetch_head_control take_head_control) (or_control put_root_control drop_root) (RecvSo p r0 rs r t) _ t there (at_first put_root_control drop_root (λ x. RecvSo p r0 rs r t (Second x)) _ t refl
        (λ run fit. brought_so p.me p.key p.number p.block t r0 rs r known.1.map (λ d. d p.number known.1.value) run fit))
    go p receives.Drop c r0 rs r before t es there known =
        at_second (or_control fetch_head_control take_head_control) (or_control put_root_control drop_root) (RecvSo p r0 rs r t) _ t there (at_second put_root_control drop_root (λ x. RecvSo p r0 rs r t (Second x)) _ t refl
        (λ run fit. valued_then p.key p.number p.block p.decided p.refused r0 rs r (valued_so p.me p.key p.number p.block r0 rs es p.decided p.refused known.2 known.0.value) (drop_quiet _ rs r t run fit).0))
