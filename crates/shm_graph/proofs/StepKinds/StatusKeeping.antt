-- the stores of the statuses dead and gone, as machines use them
use Rattle.std.proofs.{Common.{◌≡◌, ◌<◌, ℕ, refl, sym, ap, ◌∙◌, subst, List, [], Option}, lemmas.List.Elements.All-nil}
use Rattle.std.specs.{Prelude.None, List.All}
use Rattle.shm_words.specs.declared.geometry.Geometry.{Geometry}
use Rattle.shm_graph.specs.declared.{ask.{Ask.TheVariants.Store, Me.Me}, spot.Spot.Spot}
use Rattle.shm_graph.specs.declared.spot.Spot.TheVariants.{Status, Segment, Page, Head, Tag, Body, Slot, Tail, QueueHead}
use Rattle.shm_graph.specs.{declared.memo.{Memo.Memo, Stored.Stored, Making.Making}, Spots.{spot_at, upd}}
use Rattle.shm_graph.specs.{Blocks.classes, Tables.contents_of, Views.{View, view, at1, targets}}
use Rattle.shm_graph.specs.{Held.{HeldAt, Fresh, KnownAt, ValueAt, MakingTie, reach_of}, Asks.Trail}
use Rattle.shm_graph.specs.{Changes.{called, with_end}, Agents.with_status, Ops.{cover_of, held_over_of}}
use Rattle.shm_graph.specs.Laws.{Frame, framed, Stands, KeptAt, GoneNow}
use Rattle.shm_graph.specs.declared.memo.Status.TheVariants as status
use Rattle.shm_graph.proofs.Memos.{Frames.at1_all, MemoParts.{changed_view, put_same, status_set}, RecallHeld.memo_held}
use Rattle.shm_graph.proofs.{Runs.Lists.at1_here, Machines.Calling.{called_held, called_part, called_by}}
use Rattle.shm_graph.proofs.StepKinds.{StatusStore.status_held, SameGraph.same_graph, Keeping.fixed_kept}

-- what a dead agent prepared and knew is forgotten
abbrev forgets : Memo → Memo
forgets m = record m { making = None; known = []; values = [] }

abbrev forgets_view : View → ℕ → View
forgets_view v c = record v { making = at1 v.making c None; known = at1 v.known c []; values = at1 v.values c [] }

forgets_set : (r : ℕ → Memo) (c : ℕ) (m : Memo) → ◌≡◌ {A = View} (view (at1 r c (forgets m))) (forgets_view (view (at1 r c m)) c)
forgets_set r c m = let v : View = view (at1 r c m) in
    changed_view r c m forgets (λ x. record x { making = None; known = []; values = [] }) (λ x. refl) ∙ ap (λ (u : View). record u { making = at1 v.making c None; known = at1 v.known c []; values = at1 v.values c [] }) (put_same v c)

forgets_held : (g : Geometry) (w : Spot → ℕ) (v : View) (c : ℕ) → HeldAt g w v → HeldAt g w (forgets_view v c)
forgets_held g w v c h =
    memo_held g w v _ h refl (record {
      making = λ d. at1_all (λ (i : ℕ) (x : Option Making). i < g.clients → MakingTie g (λ s q. w (Page s q)) (λ s. w (Segment s)) (λ b. w (Head b)) (λ b. w (Tag b)) (λ b i. w (Body b i)) i x) v.making c None d (λ l. tt) (λ n. h.making d);
      slots = h.slots;
      looks = h.looks;
      known = λ d. at1_all (λ (i : ℕ) (x : List Stored). i < g.clients → All (λ (k : Stored). KnownAt g.wide i (λ b. w (Tag b)) (λ b i. w (Body b i)) (λ s r k. w (Slot s r k)) (λ s r. w (Tail s r)) (λ s r. w (QueueHead s r)) (v.untaken i) (v.latch i) (reach_of (targets g w v) (λ s r. w (Tail s r)) (λ s r. w (QueueHead s r)) v.looks i) (v.dying i) k.spot k.value) x)
          v.known c [] d (λ l. All-nil _) (λ n. h.known d);
      facts = h.facts;
      zeros = h.zeros;
      test = h.test;
      fresh = λ d. at1_all (λ (i : ℕ) (x : Option Making). i < g.clients → v.status i ≡ status.New → Fresh i (v.own i) (v.op i) (v.latch i) (v.looks i) x (v.owned i) (v.dying i) (v.unsent i) (v.untaken i)) v.making c None d
          (λ l st. let q = h.fresh c l st in record { words = q.words; idle = q.idle; latched = q.latched; looked = q.looked; made = refl; segments = q.segments; dyings = q.dyings; sends = q.sends; takes = q.takes })
          (λ n. h.fresh d);
      values = λ d. at1_all (λ (i : ℕ) (x : List ℕ). i < g.clients → All (ValueAt (contents_of g.wide w (targets g w v)) (reach_of (targets g w v) (λ s r. w (Tail s r)) (λ s r. w (QueueHead s r)) v.looks i)) x) v.values c [] d (λ l. All-nil _) (λ n. h.values d);
      made = h.made;
    })

-- a dead client's identity is taken over
pub dead_kept : (me : Me) (w : Spot → ℕ) (r : ℕ → Memo) (f : Frame) (tr : Trail) (at : ℕ) (after : ℕ → Memo → Type 0) → Stands me w r f tr → spot_at me.geometry (classes w) at ≡ Status me.who
    → after 0 (with_status (called (r me.who) (framed me (Store at 2) f 0)) 2)
    → KeptAt me w r (Store at 2) f after (spot_at me.geometry (classes w) at)
dead_kept me w r f tr at after s e x =
    let c = me.who in
    let m : Memo = called (r c) (framed me (Store at 2) f 0) in
    let m' : Memo = forgets m in
    fixed_kept me w r (Store at 2) f after (Status c) e refl
    (subst (HeldAt me.geometry (upd w (Status c) 2)) (sym (status_set r c m' status.Dead m'.agents))
    (status_held me.geometry w (view (at1 r c m')) c status.Dead
    (subst (HeldAt me.geometry w) (sym (forgets_set r c m)) (forgets_held me.geometry w (view (at1 r c m)) c (called_held me.geometry w r c (framed me (Store at 2) f 0) s.held s.who)))
    s.who (λ q. cc) (λ q. cc)))
    (same_graph me.geometry w (upd w (Status c) 2) r c (with_status m 2) (called_part (λ (y : Memo). cover_of y.op) (r c) (framed me (Store at 2) f 0) refl refl) (called_part (λ (y : Memo). held_over_of y.op) (r c) (framed me (Store at 2) f 0) refl refl) (λ b. refl) (λ b. refl) refl)
    refl tt x

-- an identity that has nothing left to finish is gone
pub gone_kept : (me : Me) (w : Spot → ℕ) (r : ℕ → Memo) (f : Frame) (tr : Trail) (at : ℕ) (after : ℕ → Memo → Type 0) → Stands me w r f tr → spot_at me.geometry (classes w) at ≡ Status me.who → GoneNow me.who (r me.who)
    → after 0 (with_end f.ends (with_status (called (r me.who) (framed me (Store at 3) f 0)) 3))
    → KeptAt me w r (Store at 3) f after (spot_at me.geometry (classes w) at)
gone_kept me w r f tr at after s e left x =
    let c = me.who in
    let t = framed me (Store at 3) f 0 in
    let m : Memo = called (r c) t in
    let m' : Memo = with_end f.ends (with_status m 3) in
    let gone : GoneNow c m = called_by (GoneNow c) (r c) t left left in
    fixed_kept me w r (Store at 3) f after (Status c) e refl
    (subst (HeldAt me.geometry (upd w (Status c) 3)) (sym (status_set r c m status.Gone m'.agents))
    (status_held me.geometry w (view (at1 r c m)) c status.Gone (called_held me.geometry w r c t s.held s.who) s.who (λ q. cc) (λ q. subst (GoneNow c) (sym (at1_here r c m)) gone)))
    (same_graph me.geometry w (upd w (Status c) 3) r c m' (called_part (λ (y : Memo). cover_of y.op) (r c) t refl refl) (called_part (λ (y : Memo). held_over_of y.op) (r c) t refl refl) (λ b. refl) (λ b. refl) refl)
    refl tt x
