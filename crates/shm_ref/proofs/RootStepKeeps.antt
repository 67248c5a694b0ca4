-- what a count step at an own root says of the roots of its identity, and what stays
use Rattle.std.proofs.Common.{◌≡◌, ◌≢◌, ℕ, Bool, true, false, cond, eqb, ◌&&◌, is_ok, refl, sym, ap, ◌∙◌, subst, List, [], ◌∷◌, ◌++◌, Result}
use Rattle.std.proofs.lemmas.{Bool.{cond-false, cond-true, eq-eqb, ne_eqb}, List.Elements.Contains-push}
use Rattle.std.specs.{Prelude.{if◌then◌else◌, Ok, Err, IfErr, IfOk, slice_index}, List.Contains}
use Rattle.shm_graph.specs.{declared.{ask.Me.Me, memo.Memo.Memo, spot.Spot.{Spot, TheVariants.Root}}, Events.Event}
use Rattle.shm_graph.specs.{Held.is_loose, Idle.IsIdle}
use Rattle.shm_count.specs.declared.{answer.UpFault.UpFault, point.Aim.{Aim, TheVariants.{Up, Down, Change}}}
use Rattle.shm_count.specs.{Proved.Idles.step_idle, Roots.{AreRootsReached, root_word}, Slots.{Lost, StepDid}}
use Rattle.shm_count.specs.{Step.Control.value_after, Waiting.LeavesQueues}
use Rattle.shm_count.proofs.{RootSpots.roots_reached, Waiting.{loose_after, own_queues}}

-- ---- the roots

-- root k holds the new word where the step is done, and each root what it held otherwise
pub root_after : (me : Me) (x : Aim) (k : ℕ) (r0 r : Memo) (es : List Event) (a : Result Bool UpFault) → StepDid me x (Root me.who k) false r0 r es a → (j : ℕ) → root_word me.who r j ≡ cond (is_ok a && eqb k j) (value_after x) (root_word me.who r0 j)
root_after me (Up b) k r0 r es (Ok z) d j = d.0.own (Root me.who j) refl ∙ ap (λ y. cond (y && eqb k j) b (root_word me.who r0 j)) (eq-eqb me.who me.who refl)
root_after me (Down b) k r0 r es (Ok z) d j = d.0.took.own (Root me.who j) refl ∙ ap (λ y. cond (y && eqb k j) 0 (root_word me.who r0 j)) (eq-eqb me.who me.who refl)
root_after me (Change t b) k r0 r es (Ok z) d j = d.0.took.own (Root me.who j) refl ∙ ap (λ y. cond (y && eqb k j) b (root_word me.who r0 j)) (eq-eqb me.who me.who refl)
root_after me (Up b) k r0 r es (Err f) d j = d.0.own (Root me.who j) refl
root_after me (Down b) k r0 r es (Err f) d j = d.0.own (Root me.who j) refl
root_after me (Change t b) k r0 r es (Err f) d j = d.0.own (Root me.who j) refl

-- so by any answer that tells whether it is done
module _ {T E : Type 0} (c k v : ℕ) (r0 r : Memo) where
  abbrev After : Result T E → Type 0
  After a = (j : ℕ) → root_word c r j ≡ cond (is_ok a && eqb k j) v (root_word c r0 j)

  pub ok_root : (a : Result T E) → After a → IfOk a (λ u. root_word c r k ≡ v)
  ok_root (Ok u) h = h k ∙ cond-true _ _ _ (eq-eqb k k refl)
  ok_root (Err e) h = tt

  pub ok_others : (a : Result T E) → After a → IfOk a (λ u. (j : ℕ) → j ≢ k → root_word c r j ≡ root_word c r0 j)
  ok_others (Ok u) h = λ j n. h j ∙ cond-false _ _ _ (ne_eqb k j (λ e. n (sym e)))
  ok_others (Err e) h = tt

  pub err_same : (a : Result T E) → After a → IfErr a (λ e. (j : ℕ) → root_word c r j ≡ root_word c r0 j)
  err_same (Ok u) h = tt
  err_same (Err e) h = λ j. h j

-- ---- what stays

pub queues_after : (me : Me) (x : Aim) (k : ℕ) (r0 r : Memo) (es : List Event) (a : Result Bool UpFault) → StepDid me x (Root me.who k) false r0 r es a → LeavesQueues r0 r
queues_after me (Up b) k r0 r es (Ok z) d =
    record {
      latch = ap (λ (y : Memo). y.latch) d.0.rest;
      unsent = λ j. ap (λ (y : Memo). slice_index y.unsent j) d.0.rest;
      untaken = λ j. ap (λ (y : Memo). slice_index y.untaken j) d.0.rest;
      loose = ap (λ (y : Memo). is_loose y.part) d.0.rest ∙ loose_after me.who r0 (Root me.who k) b;
    }
queues_after me (Down b) k r0 r es (Ok z) d =
    record {
      latch = ap (λ (y : Memo). y.latch) d.0.took.rest;
      unsent = λ j. ap (λ (y : Memo). slice_index y.unsent j) d.0.took.rest;
      untaken = λ j. ap (λ (y : Memo). slice_index y.untaken j) d.0.took.rest;
      loose = ap (λ (y : Memo). is_loose y.part) d.0.took.rest ∙ loose_after me.who r0 (Root me.who k) 0;
    }
queues_after me (Change t b) k r0 r es (Ok z) d =
    record {
      latch = ap (λ (y : Memo). y.latch) d.0.took.rest;
      unsent = λ j. ap (λ (y : Memo). slice_index y.unsent j) d.0.took.rest;
      untaken = λ j. ap (λ (y : Memo). slice_index y.untaken j) d.0.took.rest;
      loose = ap (λ (y : Memo). is_loose y.part) d.0.took.rest ∙ loose_after me.who r0 (Root me.who k) b;
    }
queues_after me (Up b) k r0 r es (Err f) d = own_queues r0 r d.0.rest
queues_after me (Down b) k r0 r es (Err f) d = own_queues r0 r d.0.rest
queues_after me (Change t b) k r0 r es (Err f) d = own_queues r0 r d.0.rest

pub reached_after : (me : Me) (x : Aim) (k : ℕ) (r0 r : Memo) (es : List Event) (a : Result Bool UpFault) → StepDid me x (Root me.who k) false r0 r es a → IsIdle me.who r0 → AreRootsReached me.who r
reached_after me x k r0 r es a d idle = roots_reached me.who r (step_idle me x (Root me.who k) false r0 r es a d idle).op

-- ---- a count that came to 0

-- the block joins the zero-count blocks
pub lost_dies : (c : ℕ) (p : Spot) (h : Bool) (t x : ℕ) (z : Bool) (m r : Memo) → Lost c p h t x z m r → z ≡ true → Contains r.dying t
lost_dies c p h t x z m r d e = subst (λ (ds : List ℕ). Contains ds t) (sym (d.dying ∙ ap (λ (q : Bool). m.dying ++ (if q then t ∷ [] else [])) e)) (Contains-push m.dying t)
