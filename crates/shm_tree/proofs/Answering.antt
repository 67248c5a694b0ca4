-- What a plan leaves that was run for the one client and answered, and what a call leaves that comes after another.
use Rattle.shm_tree.specs.declared.{hints.Hints.{Hints, TheVariants.Off}, node.Side.{Side, TheVariants.{Left, Right}}}
use Rattle.shm_tree.specs.{declared.stop.Stop.Stop, Asking.IsAskedBy}
use Rattle.shm_tree.specs.Causes.{AllocRefused, DropRefused, SetRefused, ShareRefused, StopCause, Within}
use Rattle.shm_tree.specs.{Keeping.{HasNode, HasTree, IsStill, child_of}, Standing.{TreeStands, word_of}}
use Rattle.shm_tree.specs.Trees.{Tree, Empty, Node, height}
use Rattle.shm_tree.specs.Working.{HasRoom, IfAlive, IfRefused, IsEmptied, IsReached, IsWorking, Reaches}
use Rattle.shm_tree.specs.declared.stop.Stop.TheVariants as stop
use Rattle.shm_tree.proofs.{Asking.asked_more, Alive.{IsOn, on_answer}, Turns.did_then}
use Rattle.std.proofs.Common.{◌≡◌, ◌≢◌, ℕ, true, List, [], ◌++◌, refl, sym, ◌∙◌, subst, inl, inr}
use Rattle.std.specs.Prelude.{IfOk, Ok, Err, Result, Some}
use Rattle.shm_graph.specs.declared.{ask.Me.Me, memo.Memo.Memo, run.Start.Start, spot.Spot.TheVariants.Body}
use Rattle.shm_graph.specs.{Asks.Trail, Events.Event, Laws.Control}
use Rattle.plans.specs.{CallsControl.calls_of, Plans.Planned}
use Rattle.shm_plain.specs.{Calls.{Did, IsAtWork, Ran}, Pools.{IsRun, Pool, memo_of}}
use Rattle.shm_plain.proofs.OwnTurns.{did_none}
use Rattle.shm_alloc.specs.{declared.alloc.AllocFault.AllocFault, Alloc.AllocGives}
use Rattle.shm_alloc.specs.declared.alloc.AllocFault.TheVariants as alloc
use Rattle.shm_count.specs.{declared.answer.{EraSpent.EraSpent, ShareFault.ShareFault}, Roots.member}
use Rattle.shm_count.specs.UpRoot.{UpRootLeaves}
use Rattle.shm_count.specs.declared.answer.ShareFault.TheVariants as share
use Rattle.shm_ref.specs.{declared.answer.SetFault.SetFault, DropRoot.{Control.dropping, DropLeaves}}
use Rattle.shm_ref.specs.SetRef.{Control.setting, SetLeaves}
use Rattle.shm_ref.specs.declared.answer.SetFault.TheVariants as set
use Rattle.shm_client.proofs.Running.{MachineLeft, PlanLeft, plan_done}

-- ---- one call

-- the plan s of the client was answered so: it is between two calls with these events, of which the plan says this
abbrev pub Answered : {P C B A : Type 0} → Planned P C B A → P → Pool → Pool → A → Type 0
Answered q s p r a = (es : List Event) × IsOn p r es × q.leaves s (memo_of p 0) (memo_of r 0) (memo_of r 0).call es a

answered_at : {P C B A : Type 0} (q : Planned P C B A) (s : P) (p r : Pool) (x y : ℕ) (a b : A) → a ≡ b → IsWorking p → Ran 0 true true p r x y → IsAtWork 0 r → PlanLeft q s 0 p r a → Answered q s p r b
answered_at {P} {C} {B} {A} q s p r x y a b e h ran at left =
    let Q : A → Type 0 = λ z. Answered q s p r z in
    subst Q e (left.0, on_answer true p r x y left.0 h ran at left.1, left.2)

-- by the plan as it was made, for the client's identity
pub plan_answered : {P C B A : Type 0} (k : Control C B) (q : Planned P C B A) (plan : Me → P) (p r : Pool) {x y : ℕ} {z : Me} {e : P} (a : A) {b : A} → z ≡ member p.start.geometry 0 → e ≡ plan z → a ≡ b → IsWorking p → Ran 0 true true p r x y → IsAtWork 0 r → MachineLeft k q (calls_of q.steered e) 0 p r (Some a)
    → Answered q (plan (member p.start.geometry 0)) p r b
plan_answered k q plan p r a is planned same wp ran at left =
    let me = member p.start.geometry 0 in
    answered_at q (plan me) p r _ _ a _ same wp ran at (plan_done q plan me _ _ _ is planned refl k 0 p r (Some a) a refl left)

-- ---- what a block is

-- a tree that isn't empty stands at a node
pub node_of : (p : Pool) (b : ℕ) → b ≢ 0 → HasTree p b → HasNode p b
node_of p b some (t, s) = by t s
  where
    by : (u : Tree) → TreeStands p b u → HasNode p b
    by Empty y = absurd (some y)
    by (Node k n l r) y = (k, n, height (Node k n l r), y.0)

-- no tree stands at 0 but the empty one
pub height_none : (p : Pool) (b : ℕ) (t : Tree) → b ≡ 0 → TreeStands p b t → 0 ≡ height t
height_none p b Empty none y = refl
height_none p b (Node k n l r) none y = absurd (y.0.some none)

-- a node tells the height of its tree
pub height_told : (p : Pool) (b x : ℕ) (t : Tree) → b ≢ 0 → x ≡ word_of p (Body b 4) → TreeStands p b t → x ≡ height t
height_told p b x Empty some e y = absurd (some y)
height_told p b x (Node k n l r) some e y = e ∙ y.0.height

-- also as it was read, or not
pub height_read : (p : Pool) (b : ℕ) (r : Result ℕ Stop) → b ≢ 0 → IfOk r (λ x. x ≡ word_of p (Body b 4)) → IfOk r (λ h. (t : Tree) → TreeStands p b t → h ≡ height t)
height_read p b (Ok x) some e = λ t y. height_told p b x t some e y
height_read p b (Err s) some e = tt

-- ---- a call after another

-- what stood stands where nothing was done
pub node_still : (p q : Pool) (b : ℕ) → IsStill p q → HasNode p b → HasNode q b
node_still p q b s (k, n, h, x) = (k, n, h, (s.nodes b k n h x).node)

pub tree_still : (p q : Pool) (b : ℕ) → IsStill p q → HasTree p b → HasTree q b
tree_still p q b s (t, y) = (t, s.trees b t y)

pub number_still : (p q : Pool) (b : ℕ) → IsStill p q → HasNode p b → word_of q (Body b 3) ≡ word_of p (Body b 3)
number_still p q b s (k, n, h, x) = (s.nodes b k n h x).node.number ∙ sym x.number

pub child_still : (p q : Pool) (b : ℕ) (side : Side) → IsStill p q → HasNode p b → child_of q b side ≡ child_of p b side
child_still p q b Left s (k, n, h, x) = (s.nodes b k n h x).left
child_still p q b Right s (k, n, h, x) = (s.nodes b k n h x).right

pub room_still : (p q : Pool) → IsStill p q → HasRoom p → HasRoom q
room_still p q s (k, low, empty) = (k, low, s.roots k ∙ empty)

pub reaches_then : (p m q : Pool) → Reaches p m → Reaches m q → Reaches p q
reaches_then p m q x y b h = y b (x b h)

-- what was in reach, or none, is so still
pub reached_then : (p q : Pool) (b : ℕ) → IsReached p b → Reaches p q → IsReached q b
reached_then p q b h more some = more b (h some)

-- a root that was made empty is so where nothing was done then
pub emptied_then : (k : ℕ) (p m q : Pool) → IsEmptied k p m → IsStill m q → IsEmptied k p q
emptied_then k p m q x s = record { root = s.roots k ∙ x.root; others = λ j n. s.roots j ∙ x.others j n }

-- ---- by the answer of a call that stopped

-- for want of word steps
pub alive_died : (T : Type 0) (P : Type 0) (e : Stop) → e ≡ stop.Died → IfAlive {T = T} (Err e) P
alive_died T P e d = let Q : Stop → Type 0 = λ z. IfAlive {T = T} (Err z) P in subst Q (sym d) tt

pub refused_died : (T : Type 0) (P : Type 0) (e : Stop) → e ≡ stop.Died → IfRefused {T = T} (Err e) P
refused_died T P e d = let Q : Stop → Type 0 = λ z. IfRefused {T = T} (Err z) P in subst Q (sym d) tt

pub cause_died : (hints : Hints) (p q : Pool) (e : Stop) → e ≡ stop.Died → StopCause hints p q e
cause_died hints p q e d = let Q : Stop → Type 0 = λ z. StopCause hints p q z in subst Q (sym d) tt

-- or as it was refused: the caller stopped so too
pub alive_map : (T S : Type 0) (P Q : Type 0) (e : Stop) → (P → Q) → IfAlive {T = T} (Err e) P → IfAlive {T = S} (Err e) Q
alive_map T S P Q stop.Died f h = tt
alive_map T S P Q (stop.Full s b) f h = f h
alive_map T S P Q (stop.CountFull b c) f h = f h
alive_map T S P Q (stop.EraSpent e) f h = f h

pub refused_map : (T S : Type 0) (P Q : Type 0) (e : Stop) → (P → Q) → IfRefused {T = T} (Err e) P → IfRefused {T = S} (Err e) Q
refused_map T S P Q stop.Died f h = tt
refused_map T S P Q (stop.Full s b) f h = f h
refused_map T S P Q (stop.CountFull b c) f h = f h
refused_map T S P Q (stop.EraSpent e) f h = f h

-- ---- causes

-- what a call left after which came others
pub within_before : (L : Memo → Memo → Trail → List Event → Type 0) (p m q : Pool) (es : List Event) → IsOn p m es → L (memo_of p 0) (memo_of m 0) (memo_of m 0).call es → (fs : List Event) × Did 0 m q fs → Within p q L
within_before L p m q es first leaves on =
    record {
      before = p;
      after = m;
      told = es;
      starts = (refl, first.start);
      runs = (first.working.run, first.run);
      to = ([], did_none 0 p p refl);
      ran = first.did;
      leaves = leaves;
      on = on;
    }

-- and one before which came others
within_after : (L : Memo → Memo → Trail → List Event → Type 0) (p m q : Pool) → IsRun p → IsRun m → m.start ≡ p.start → (es : List Event) × Did 0 p m es → Within m q L → Within p q L
within_after L p m q hp hm start (es, did) w =
    record {
      before = w.before;
      after = w.after;
      told = w.told;
      starts = (w.starts.0 ∙ start, w.starts.1 ∙ start);
      runs = w.runs;
      to = (es ++ w.to.0, did_then 0 p m w.before es w.to.0 hp hm start did w.to.1);
      ran = w.ran;
      leaves = w.leaves;
      on = w.on;
    }

module _ (p m q : Pool) (hp : IsRun p) (hm : IsRun m) (start : m.start ≡ p.start) (before : (es : List Event) × Did 0 p m es) where
  alloc_after : (hints : Hints) (f : AllocFault) → AllocRefused hints m q f → AllocRefused hints p q f
  alloc_after hints f (s, xs, long, asked, w) =
      (s, xs, long, subst (λ (z : Start). IsAskedBy hints z.geometry xs s) start asked, within_after (λ r0 r tr es. AllocGives s r0 r tr (Err f)) p m q hp hm start before w)

  set_after : (f : SetFault) → SetRefused m q f → SetRefused p q f
  set_after f (b, i, c, w) =
      (b, i, c, within_after (λ r0 r tr es. SetLeaves (setting (member p.start.geometry 0) b i c) r0 r tr es (Err f) × (es ≡ [])) p m q hp hm start before (subst (λ (z : Start). Within m q (λ r0 r tr es. SetLeaves (setting (member z.geometry 0) b i c) r0 r tr es (Err f) × (es ≡ []))) start w))

  share_after : (f : ShareFault) → ShareRefused m q f → ShareRefused p q f
  share_after f (b, w) =
      (b, within_after (λ r0 r tr es. UpRootLeaves (member p.start.geometry 0) b r0 r tr es (Err f)) p m q hp hm start before (subst (λ (z : Start). Within m q (λ r0 r tr es. UpRootLeaves (member z.geometry 0) b r0 r tr es (Err f))) start w))

  drop_after : (f : EraSpent) → DropRefused m q f → DropRefused p q f
  drop_after f (k, w) =
      (k, within_after (λ r0 r tr es. DropLeaves (dropping (member p.start.geometry 0) k) r0 r tr es (Err f)) p m q hp hm start before (subst (λ (z : Start). Within m q (λ r0 r tr es. DropLeaves (dropping (member z.geometry 0) k) r0 r tr es (Err f))) start w))

  -- the cause of a stop is one of a stop of the whole
  pub cause_after : (hints : Hints) (e : Stop) → StopCause hints m q e → StopCause hints p q e
  cause_after hints stop.Died h = tt
  cause_after hints (stop.Full s b) h = alloc_after hints (alloc.Full s b) h
  cause_after hints (stop.CountFull b c) (inl h) = inl (set_after (set.CountFull b c) h)
  cause_after hints (stop.CountFull b c) (inr h) = inr (share_after (share.CountFull b c) h)
  cause_after hints (stop.EraSpent e) (inl h) = inl (alloc_after hints (alloc.EraSpent e) h)
  cause_after hints (stop.EraSpent e) (inr (inl h)) = inr (inl (set_after (set.EraSpent e) h))
  cause_after hints (stop.EraSpent e) (inr (inr (inl h))) = inr (inr (inl (share_after (share.EraSpent e) h)))
  cause_after hints (stop.EraSpent e) (inr (inr (inr h))) = inr (inr (inr (drop_after (record { era = e }) h)))

-- the cause of a stop of calls without hints is one of a stop of calls with any
pub cause_by : (hints : Hints) (p q : Pool) (e : Stop) → StopCause Off p q e → StopCause hints p q e
cause_by hints p q stop.Died h = tt
cause_by hints p q (stop.Full s b) (m, xs, long, asked, w) = (m, xs, long, asked_more hints p.start.geometry xs m asked, w)
cause_by hints p q (stop.CountFull b c) h = h
cause_by hints p q (stop.EraSpent e) (inl (m, xs, long, asked, w)) = inl (m, xs, long, asked_more hints p.start.geometry xs m asked, w)
cause_by hints p q (stop.EraSpent e) (inr h) = inr h
