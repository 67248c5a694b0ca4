-- the store of a committed step into its slot, as machines use it
use Rattle.std.proofs.Common.{◌≡◌, ℕ, ◌^◌, ◌<◌, refl, sym, ap, subst, false, ◌∷◌, None, inl, inr, true, ◌&&◌, ◌∙◌}
use Rattle.std.proofs.lemmas.Bool.{and_from, cond-true}
use Rattle.shm_graph.specs.declared.{ask.{Ask.TheVariants.Store, Me.Me}, memo.Memo.Memo}
use Rattle.shm_graph.specs.declared.memo.{Op.{TheVariants.{Nothing, Alloc, Change, Down, Up}, Op}, First.First}
use Rattle.shm_graph.specs.declared.memo.First.TheVariants.{Begun, Committed, Written}
use Rattle.shm_graph.specs.declared.{memo.ChangeStage.TheVariants.{Raising, Lowering}, spot.Spot.Spot}
use Rattle.shm_graph.specs.{declared.spot.Spot.TheVariants.{Root, Body, Home, Slot}, Spots.{spot_at, same_spot}}
use Rattle.shm_graph.specs.{Blocks.classes, Views.{View, view, at1}, Asks.Trail}
use Rattle.shm_graph.specs.{MemoAfterStore.{op_written, stage_written}, Laws.{Frame, Stands, KeptAt}}
use Rattle.shm_graph.specs.{Ops.{On, cover_of, cover_from, is_op, slot_of}, Reach.learnt}
use Rattle.shm_graph.proofs.StepKinds.{Keeping.told_fixed, KindKeeping.{in_frame, kept_from}}
use Rattle.shm_graph.proofs.Memos.{MemoParts.{put_same, parts, put_parts}, BodyTold.told_slot}
use Rattle.shm_graph.proofs.Spots.Spotting.{same_spot_self}
use Rattle.kind_laws.specs.Slotting.{RootNeeds, root_view, BodyNeeds, Writes, WritesFrom, body_view, HomeNeeds, QueueNeeds, home_view, queue_view}
use Rattle.kind_laws.proofs.{RootStore.root_kept, Writing.written, Quiet.{root_quiet, body_quiet}, BodyStore.body_kept}
use Rattle.kind_laws.proofs.{HomeStore.{home_kept, home_quiet}, QueueStore.{queue_kept, queue_quiet}}
use Rattle.kind_parts.specs.Conditions.{IsHere, MayWrite}

pub root_stored : (me : Me) (w : Spot → ℕ) (r : ℕ → Memo) (f : Frame) (tr : Trail) (at k x : ℕ) → Stands me w r f tr → f.fresh ≡ false → spot_at me.geometry (classes w) at ≡ Root me.who k → MayWrite (r me.who) (Root me.who k) x
    → KeptAt me w r (Store at x) f (λ n m. Unit {0}) (spot_at me.geometry (classes w) at)
root_stored me w r f tr at k x s going e a =
    let g = me.geometry in
    let c = me.who in
    let v : View = view r in
    let o = op_written (r c).op in
    let step : RootNeeds g w v c k x o = record { inside = s.who; acts = a.here.joined; here = a.here.stays; slot = a.slot; op = a.op; small = a.small } in
    subst (KeptAt me w r (Store at x) f (λ n m. Unit {0})) (sym e)
    (in_frame (λ h. KeptAt me w r (Store at x) h (λ n m. Unit {0}) (Root c k)) f going
    (kept_from me w r (Store at x) (record f { fresh = false }) (λ n m. Unit {0}) (Root c k) (root_view v c k x o)
    (told_fixed g (classes w) c (r c) (Store at x) (Root c k) e refl)
    (sym (ap (λ (u : View). record u { own = at1 v.own c (record { spot = Root c k; value = x } ∷ v.own c); op = at1 v.op c o; test = at1 v.test c None }) (put_same v c)))
    (root_kept g w v c k x o s.held step)
    (root_quiet g w v c k x o s.held step)
    refl tt tt tt))

-- the own home
pub home_stored : (me : Me) (w : Spot → ℕ) (r : ℕ → Memo) (f : Frame) (tr : Trail) (at x : ℕ) → Stands me w r f tr → f.fresh ≡ false → spot_at me.geometry (classes w) at ≡ Home me.who → MayWrite (r me.who) (Home me.who) x
    → KeptAt me w r (Store at x) f (λ n m. Unit {0}) (spot_at me.geometry (classes w) at)
home_stored me w r f tr at x s going e a =
    let g = me.geometry in
    let c = me.who in
    let v : View = view r in
    let o = op_written (r c).op in
    let step : HomeNeeds g w v c x o = record { inside = s.who; acts = a.here.joined; here = a.here.stays; slot = a.slot; op = a.op; small = a.small } in
    subst (KeptAt me w r (Store at x) f (λ n m. Unit {0})) (sym e)
    (in_frame (λ h. KeptAt me w r (Store at x) h (λ n m. Unit {0}) (Home c)) f going
    (kept_from me w r (Store at x) (record f { fresh = false }) (λ n m. Unit {0}) (Home c) (home_view v c x o)
    (told_fixed g (classes w) c (r c) (Store at x) (Home c) e refl)
    (sym (ap (λ (u : View). record u { own = at1 v.own c (record { spot = Home c; value = x } ∷ v.own c); op = at1 v.op c o; test = at1 v.test c None }) (put_same v c)))
    (home_kept g w v c x o s.held step)
    (home_quiet g w v c x o s.held step)
    refl tt tt tt))

-- a slot of a queue
pub queue_stored : (me : Me) (w : Spot → ℕ) (r : ℕ → Memo) (f : Frame) (tr : Trail) (at i j k x : ℕ) → Stands me w r f tr → f.fresh ≡ false → spot_at me.geometry (classes w) at ≡ Slot i j k → MayWrite (r me.who) (Slot i j k) x
    → KeptAt me w r (Store at x) f (λ n m. Unit {0}) (spot_at me.geometry (classes w) at)
queue_stored me w r f tr at i j k x s going e a =
    let g = me.geometry in
    let c = me.who in
    let v : View = view r in
    let o = op_written (r c).op in
    let step : QueueNeeds g w v c i j k x o = record { inside = s.who; acts = a.here.joined; here = a.here.stays; slot = a.slot; op = a.op; small = a.small } in
    subst (KeptAt me w r (Store at x) f (λ n m. Unit {0})) (sym e)
    (in_frame (λ h. KeptAt me w r (Store at x) h (λ n m. Unit {0}) (Slot i j k)) f going
    (kept_from me w r (Store at x) (record f { fresh = false }) (λ n m. Unit {0}) (Slot i j k) (queue_view v c o)
    (told_fixed g (classes w) c (r c) (Store at x) (Slot i j k) e refl)
    (sym (ap (λ (u : View). record u { op = at1 v.op c o; test = at1 v.test c None }) (put_same v c)))
    (queue_kept g w v c i j k x o s.held step)
    (queue_quiet g w v c i j k x o s.held step)
    (inl a.slot) tt tt tt))

-- a step that may write covers its slot
writes_cover : (o new : Op) (x : ℕ) (p : Spot) → slot_of o ≡ p → Writes o new x → (cover_of o ≡ On p x) × (is_op o ≡ true)
writes_cover o new x p s y = let q = written o new x y in (q.before ∙ ap (λ z. On z x) s, q.was)

on_is : (q p : Spot) (new x : ℕ) → On q new ≡ On p x → (q ≡ p) × (x ≡ new)
on_is q p new x e = (cc, cc)

covers_stage : (s : First) (q p : Spot) (new x : ℕ) (o : First → Op) → cover_from s q new ≡ On p x → (q ≡ p) × WritesFrom s (o Written) new (o (stage_written s)) x
covers_stage Begun q p new x o e = cc
covers_stage Committed q p new x o e = let k = on_is q p new x e in (k.0, (refl, k.1))
covers_stage Written q p new x o e = let k = on_is q p new x e in (k.0, (refl, k.1))

covers_write : (o : Op) (p : Spot) (x : ℕ) → cover_of o ≡ On p x → (slot_of o ≡ p) × Writes o (op_written o) x
covers_write (Alloc s q b e) p x y = covers_stage s q p b x (λ z. Alloc z q b e) y
covers_write (Up s q b e) p x y = covers_stage s q p b x (λ z. Up z q b e) y
covers_write (Down s q b e) p x y = covers_stage s q p 0 x (λ z. Down z q b e) y
covers_write (Change (Raising s) q a b e) p x y = covers_stage s q p b x (λ z. Change (Raising z) q a b e) y
covers_write (Change (Lowering s) q a b e) p x y = cc
covers_write Nothing p x y = cc

-- a step that is committed may write, whether or not it has before
pub may_write : (m : Memo) (p : Spot) (x : ℕ) → IsHere m → cover_of m.op ≡ On p x → x < 2 ^ 64 → MayWrite m p x
may_write m p x here on small = let q = covers_write m.op p x on in record { here = here; slot = q.0; op = q.1; small = small }

-- a reference word of a block
pub body_stored : (me : Me) (w : Spot → ℕ) (r : ℕ → Memo) (f : Frame) (tr : Trail) (at b i x : ℕ) → Stands me w r f tr → f.fresh ≡ false → spot_at me.geometry (classes w) at ≡ Body b i → MayWrite (r me.who) (Body b i) x
    → KeptAt me w r (Store at x) f (λ n m. Unit {0}) (spot_at me.geometry (classes w) at)
body_stored me w r f tr at b i x s going e a =
    let g = me.geometry in
    let c = me.who in
    let v : View = view r in
    let o = op_written (r c).op in
    let step : BodyNeeds g v c b i x o = record { inside = s.who; acts = a.here.joined; here = a.here.stays; slot = a.slot; op = a.op; small = a.small } in
    let on = writes_cover (r c).op o x (Body b i) a.slot a.op in
    let mine : is_op (r c).op && same_spot (slot_of (r c).op) (Body b i) ≡ true = and_from _ _ on.1 (ap (λ q. same_spot q (Body b i)) a.slot ∙ same_spot_self (Body b i)) in
    subst (KeptAt me w r (Store at x) f (λ n m. Unit {0})) (sym e)
    (in_frame (λ h. KeptAt me w r (Store at x) h (λ n m. Unit {0}) (Body b i)) f going
    (kept_from me w r (Store at x) (record f { fresh = false }) (λ n m. Unit {0}) (Body b i) (body_view v c b i x o)
    (told_slot g (classes w) c (r c) at x x (Body b i) e refl on.0)
    (sym (ap (λ (u : View). record u { op = at1 v.op c o; known = at1 v.known c (learnt (Body b i) x (v.known c)); test = at1 v.test c None }) (put_same v c))
    ∙ ap (λ (m : Memo). put_parts v c (parts m)) (sym (cond-true _ _ _ mine)))
    (body_kept g w v c b i x o s.held step)
    (body_quiet g w v c b i x o s.held step)
    (inr (inr (inl a.slot))) tt tt tt))
