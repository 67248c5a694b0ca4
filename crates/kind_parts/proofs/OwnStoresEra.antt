-- the store of the own era, as machines use it: where the step that it closes lowers, the looks are over
use Rattle.std.proofs.Common.{◌≡◌, ◌≢◌, ℕ, ◌+◌, ◌<◌, refl, arith, sym, ap, ◌∙◌, subst, Bool, true, false, cond, List, [], ◌∷◌, None, inl, inr, ◌⊎◌, eqb}
use Rattle.std.proofs.lemmas.Bool.{eq-eqb, cases_eq, false≢true}
use Rattle.std.specs.List.{All, filter}
use Rattle.shm_words.specs.{declared.geometry.Geometry.Geometry, Headers.header_of, Tags.tag_author}
use Rattle.shm_graph.specs.declared.{ask.{Ask.TheVariants.Store, Me.Me}, memo.ChangeStage.TheVariants.Raising}
use Rattle.shm_graph.specs.declared.memo.{Look.Look, Memo.Memo, Op.{Op, TheVariants.{Nothing, Change}}, Stored.Stored}
use Rattle.shm_graph.specs.declared.spot.Spot.{Spot}
use Rattle.shm_graph.specs.declared.spot.Spot.TheVariants.{Era, Home, Root, Tail, QueueHead, Slot, Head, Tag, Body}
use Rattle.shm_graph.specs.{Spots.{spot_at, upd}, Blocks.classes, Views.{View, view, at1, own_word, targets}}
use Rattle.shm_graph.specs.{Asks.Trail, Changes.called, Controllers.IsEraRaised}
use Rattle.shm_graph.specs.Events.{Nothing as Quietly, graph_of, Happens}
use Rattle.shm_graph.specs.Held.{HeldAt, KnownAt, ValueAt, SlotOf, LooksSound, Fresh, InLooks, named_by, reach_of}
use Rattle.shm_graph.specs.{Ops.{cover, cover_of, slot_of, is_op}, Reach.{binds, is_reached}}
use Rattle.shm_graph.specs.MemoAfterStore.{op_closed, is_lowering, without_looks, era_stored, with_own}
use Rattle.shm_graph.specs.{Tables.contents_of, Laws.{Frame, framed, Stands, KeptAt}}
use Rattle.shm_graph.specs.declared.memo.Status.TheVariants as status
use Rattle.shm_graph.proofs.Memos.{Frames.at1_all, KnownChange.{KnownHolds, ValueHolds}}
use Rattle.shm_graph.proofs.Memos.{MemoParts.{parts, put_parts, put_same}, RecallHeld.memo_held}
use Rattle.shm_graph.proofs.StepKinds.{Keeping.told_fixed, KindKeeping.{in_frame, kept_from}}
use Rattle.shm_graph.proofs.Runs.Lists.{at1_here, at1_other}
use Rattle.shm_graph.proofs.States.Reached.{Names, reached_sound, shown_target, all_named}
use Rattle.kind_laws.specs.OwnWords.{CloseNeeds, close_view}
use Rattle.kind_laws.proofs.{CloseOp.close_kept, Quiet.close_quiet, Lists.All-kept}
use Rattle.kind_parts.specs.OwnWords.{MayClose}
use Rattle.kind_parts.proofs.{Sifting.sift_known, BlockTold.dying_listed}

-- ---- the looks of one identity are dropped

-- a fact of two changed values and of each other pair is one of all
pub at1_both : {S T : Type 0} (P : ℕ → S → T → Type 0) (f : ℕ → S) (h : ℕ → T) (c : ℕ) (x : S) (y : T) (d : ℕ) → P c x y → (c ≢ d → P d (f d) (h d)) → P d (at1 f c x d) (at1 h c y d)
at1_both P f h c x y d here other =
    elim (cases_eq c d) [
      | inl e ↦ subst (λ k. P k (at1 f c x k) (at1 h c y k)) e (subst (λ s. P c s (at1 h c y c)) (sym (at1_here f c x)) (subst (P c x) (sym (at1_here h c y)) here))
      | inr n ↦ subst (λ s. P d s (at1 h c y d)) (sym (at1_other f c x d n)) (subst (P d (f d)) (sym (at1_other h c y d n)) (other n))
    ]

-- c has the block in a word of its own, or in these looks
abbrev pub InReachBy : (Spot → ℕ) → Geometry → View → ℕ → List Look → ℕ → Type 0
InReachBy w g v c looks b = named_by (targets g w v) (λ s r. w (Tail s r)) (λ s r. w (QueueHead s r)) c b ⊎ InLooks looks b

-- c knows a word as it is, and a value block in reach, with these looks
abbrev pub KnownBy : Bool → Geometry → (Spot → ℕ) → View → ℕ → List Look → Stored → Type 0
KnownBy wide g w v c looks k = KnownAt wide c (λ b. w (Tag b)) (λ b i. w (Body b i)) (λ s r k. w (Slot s r k)) (λ s r. w (Tail s r)) (λ s r. w (QueueHead s r)) (v.untaken c) (v.latch c) (InReachBy w g v c looks) (v.dying c) k.spot k.value

abbrev pub ValueBy : Bool → Geometry → (Spot → ℕ) → View → ℕ → List Look → ℕ → Type 0
ValueBy wide g w v c looks = ValueAt (contents_of wide w (targets g w v)) (InReachBy w g v c looks)

-- no step is in progress, and what stays known and the value blocks that stay are in reach without looks
pub looks_dropped : (g : Geometry) (w : Spot → ℕ) (v : View) (c : ℕ) (ks : List Stored) (vs : List ℕ) → HeldAt g w v → v.op c ≡ Nothing → All (KnownBy g.wide g w v c []) ks → All (ValueBy g.wide g w v c []) vs
    → HeldAt g w (record v { looks = at1 v.looks c []; known = at1 v.known c ks; values = at1 v.values c vs })
looks_dropped g w v c ks vs h idle known values =
    memo_held g w v _ h refl (record {
      making = h.making;
      slots = λ d. at1_all (λ (i : ℕ) (x : List Look). i < g.clients → is_op (v.op i) ≡ true → SlotOf g.wide i (λ b. header_of (w (Head b))) (λ b. w (Tag b)) (v.latch i) (λ s r. w (Tail s r)) (λ s r. w (QueueHead s r)) (InReachBy w g v i x) (slot_of (v.op i))) v.looks c [] d
          (λ l is. absurd (false≢true (sym (ap is_op idle) ∙ is))) (λ n. h.slots d);
      looks = λ d. at1_all (λ (i : ℕ) (x : List Look). i < g.clients → LooksSound (λ a. targets g w v (Home a)) (λ b i. targets g w v (Body b i)) (λ b. tag_author g.wide (w (Tag b))) (v.latch i) (named_by (targets g w v) (λ s r. w (Tail s r)) (λ s r. w (QueueHead s r)) i) [] x) v.looks c [] d
          (λ l. tt) (λ n. h.looks d);
      known = λ d. at1_both (λ (i : ℕ) (x : List Look) (y : List Stored). i < g.clients → All (KnownBy g.wide g w v i x) y) v.looks v.known c [] ks d (λ l. known) (λ n. h.known d);
      facts = h.facts;
      zeros = h.zeros;
      test = h.test;
      fresh = λ d. at1_all (λ (i : ℕ) (x : List Look). i < g.clients → v.status i ≡ status.New → Fresh i (v.own i) (v.op i) (v.latch i) x (v.making i) (v.owned i) (v.dying i) (v.unsent i) (v.untaken i)) v.looks c [] d
          (λ l n. let q = h.fresh c l n in subst (λ (x : List Look). Fresh c (v.own c) (v.op c) (v.latch c) x (v.making c) (v.owned c) (v.dying c) (v.unsent c) (v.untaken c)) q.looked q) (λ n. h.fresh d);
      values = λ d. at1_both (λ (i : ℕ) (x : List Look) (y : List ℕ). i < g.clients → All (ValueBy g.wide g w v i x) y) v.looks v.values c [] vs d (λ l. values) (λ n. h.values d);
      made = h.made;
    })

-- ---- what stays known

-- a step that lowers has one half left
lowered_none : (o : Op) (x : ℕ) → is_lowering o ≡ true → op_closed o x ≡ Nothing
lowered_none (Change (Raising s) p a b e) x z = absurd (false≢true z)
lowered_none _ x z = refl

-- ---- the own era

module _ (me : Me) (w : Spot → ℕ) (r : ℕ → Memo) (f : Frame) (tr : Trail) (at x : ℕ) (s : Stands me w r f tr) (a : MayClose (r me.who) x) (word : x ≡ w (Era me.who me.who) + 1) where
  -- the sizes, the identity, the parts of the memos, the spot of the own era
  abbrev g : Geometry
  g = me.geometry

  abbrev c : ℕ
  c = me.who

  abbrev v : View
  v = view r

  abbrev p : Spot
  p = Era c c

  -- the words, the step in progress and the own words afterwards
  abbrev w' : Spot → ℕ
  w' = upd w p x

  abbrev o : Op
  o = op_closed (r c).op x

  abbrev own : List Stored
  own = record { spot = p; value = x } ∷ v.own c

  -- the memo at the step, once the step in progress is closed, and then without looks
  abbrev m : Memo
  m = called (r c) (framed me (Store at x) (record f { fresh = false }) 0)

  abbrev n : Memo
  n = record (with_own m p x) { op = o }

  abbrev n' : Memo
  n' = record n { looks = [] }

  -- the parts of the memos once the step in progress is closed
  abbrev v' : View
  v' = close_view v c x o

  -- the step is one that closes
  step : CloseNeeds g v c o
  step = record { inside = s.who; acts = a.here.joined; here = a.here.stays; op = a.op }

  -- they hold, and the graph stays
  closed_held : HeldAt g w' v'
  closed_held = subst (λ y. HeldAt g (upd w p y) (close_view v c y o)) (sym word) (close_kept g w v c o s.held step)

  closed_quiet : Happens g w Quietly (graph_of g w v) (graph_of g w' v')
  closed_quiet = subst (λ y. Happens g w Quietly (graph_of g w v) (graph_of g (upd w p y) (close_view v c y o))) (sym word) (close_quiet g w v c o s.held step)

  -- the own era is the next one
  raised : IsEraRaised w (Store at x) p
  raised = (let q = word in omega arith, λ _. word)

  -- an own reference word names what the memo shows
  own_target : (q : Spot) → targets g w' v' q ≡ cover (cover_of (v'.op c)) q (own_word (v'.own c) q) → cover (cover_of o) q (own_word own q) ≡ targets g w' v' q
  own_target q e = sym (e ∙ (ap (λ k. cover (cover_of k) q (own_word (v'.own c) q)) (at1_here v.op c o) ∙ ap (λ k. cover (cover_of o) q (own_word k q)) (at1_here v.own c own)))

  -- the memo without looks names what the targets say
  names : Names (targets g w' v') (λ i j. w' (Tail i j)) (λ i j. w' (QueueHead i j)) c n'
  names =
      record {
        roots = λ k. own_target (Root c k) (shown_target g w' v' closed_held c s.who (Root c k) refl);
        home = own_target (Home c) (shown_target g w' v' closed_held c s.who (Home c) refl);
        slots = all_named g w' v' closed_held c s.who (r c).known (closed_held.known c s.who);
      }

  -- what the memo has in reach without looks is in reach without looks
  in_reach : (b : ℕ) → is_reached c n' b ≡ true → InReachBy w' g v' c [] b
  in_reach b e = reached_sound (targets g w' v') (λ i j. w' (Tail i j)) (λ i j. w' (QueueHead i j)) c n' names b e

  -- what stays known, and the value blocks that stay
  abbrev ks : List Stored
  ks = filter (λ (k : Stored). binds c n' k.spot) (r c).known

  abbrev vs : List ℕ
  vs = filter (is_reached c n') (r c).values

  -- where the step lowers, the state without looks holds
  dropped_held : is_lowering (r c).op ≡ true → HeldAt g w' (record v' { looks = at1 v.looks c []; known = at1 v.known c ks; values = at1 v.values c vs })
  dropped_held e =
      looks_dropped g w' v' c ks vs closed_held (at1_here v.op c o ∙ lowered_none (r c).op x e)
      (All-kept (KnownHolds g w' v' c) (KnownBy me.geometry.wide g w' v' c []) (λ (k : Stored). binds c n' k.spot)
      (λ k t h. sift_known me.geometry.wide c (λ b. w' (Tag b)) (λ b i. w' (Body b i)) (λ i j k. w' (Slot i j k)) (λ i j. w' (Tail i j)) (λ i j. w' (QueueHead i j)) (v'.untaken c) (v'.untaken c) (v'.latch c) (reach_of (targets g w' v') (λ i j. w' (Tail i j)) (λ i j. w' (QueueHead i j)) v'.looks c) (InReachBy w' g v' c []) (v'.dying c) (v'.dying c) n' in_reach (dying_listed n') (λ b d. d) k.spot k.value (λ i j a e u z none. none) t h)
      (r c).known (closed_held.known c s.who))
      (All-kept (ValueHolds g w' v' c) (ValueBy me.geometry.wide g w' v' c []) (is_reached c n') (λ b t h. (h.0, in_reach b t)) (r c).values (closed_held.values c s.who))

  -- a view is that of a memo of c
  abbrev IsMemos : View → Memo → Type 0
  IsMemos u y = u ≡ put_parts v c (parts y)

  -- the memo's change by the kind of step that is closed
  stored_view : (u : View) (b : Bool) → is_lowering (r c).op ≡ b → IsMemos u (cond b (without_looks c n) n) → IsMemos u (cond (eqb c c) (era_stored c m p x) (with_own m p x))
  stored_view u b e q = subst (λ t. IsMemos u (cond t (era_stored c m p x) (with_own m p x))) (sym (eq-eqb c c refl)) (subst (λ t. IsMemos u (cond t (without_looks c n) n)) (sym e) q)

  -- a step that lowers, and another one
  era_by : spot_at g (classes w) at ≡ p → (b : Bool) → is_lowering (r c).op ≡ b → KeptAt me w r (Store at x) (record f { fresh = false }) (λ n m. Unit {0}) p
  era_by place true e =
      let u : View = record v' { looks = at1 v.looks c []; known = at1 v.known c ks; values = at1 v.values c vs } in
      kept_from me w r (Store at x) (record f { fresh = false }) (λ n m. Unit {0}) p u
      (told_fixed g (classes w) c (r c) (Store at x) p place refl)
      (stored_view u true e (sym (ap (λ (z : View). record z { own = at1 v.own c own; op = at1 v.op c o; looks = at1 v.looks c []; known = at1 v.known c ks; values = at1 v.values c vs; test = at1 v.test c None }) (put_same v c))))
      (dropped_held e) closed_quiet refl tt raised tt
  era_by place false e =
      kept_from me w r (Store at x) (record f { fresh = false }) (λ n m. Unit {0}) p v'
      (told_fixed g (classes w) c (r c) (Store at x) p place refl)
      (stored_view v' false e (sym (ap (λ (z : View). record z { own = at1 v.own c own; op = at1 v.op c o; test = at1 v.test c None }) (put_same v c))))
      closed_held closed_quiet refl tt raised tt

-- the own era is stored, which closes a step or the first half of a change
pub era_closed : (me : Me) (w : Spot → ℕ) (r : ℕ → Memo) (f : Frame) (tr : Trail) (at : ℕ) → Stands me w r f tr → f.fresh ≡ false → spot_at me.geometry (classes w) at ≡ Era me.who me.who → MayClose (r me.who) (own_word (r me.who).own (Era me.who me.who) + 1)
    → KeptAt me w r (Store at (own_word (r me.who).own (Era me.who me.who) + 1)) f (λ n m. Unit {0}) (spot_at me.geometry (classes w) at)
era_closed me w r f tr at s going e a =
    let p : Spot = Era me.who me.who in
    let x : ℕ = own_word (r me.who).own p + 1 in
    subst (KeptAt me w r (Store at x) f (λ n m. Unit {0})) (sym e)
    (in_frame (λ h. KeptAt me w r (Store at x) h (λ n m. Unit {0}) p) f going
    (era_by me w r f tr at x s a (ap (λ y. y + 1) (s.held.mine me.who s.who p (eq-eqb me.who me.who refl))) e (is_lowering (r me.who).op) refl))
