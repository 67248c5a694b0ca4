-- the status stays over a count step
use Rattle.std.proofs.Common.{◌≡◌, ℕ, ◌≤◌, refl, ap, ◌∙◌, arith, Bool, eqb, ltb, ◌&&◌}
use Rattle.std.specs.Prelude.{◌==◌, if◌then◌else◌, Result, Ok, Err}
use Rattle.shm_words.specs.Headers.{header_of}
use Rattle.shm_graph.specs.declared.{ask.Me.Me, spot.Spot.Spot, memo.First.TheVariants.Committed}
use Rattle.shm_graph.specs.declared.memo.{Second.TheVariants.Closed, ChangeStage.TheVariants.Lowering, Memo.Memo}
use Rattle.shm_graph.specs.MemoAfterExchange.{cut, reparted, with_unsent, with_untaken, without_made}
use Rattle.shm_graph.specs.{Ops.{is_op, slot_of}, Reach.learnt, Spots.same_spot, MemoAfterStore.{making_with, written}}
use Rattle.shm_graph.specs.Views.{own_word}
use Rattle.shm_graph.specs.declared.spot.Spot.TheVariants as spot
use Rattle.shm_graph.specs.declared.memo.Op.TheVariants as op
use Rattle.shm_graph.proofs.StepKinds.Loads.{choice}
use Rattle.kind_parts.proofs.MemoCommits.{lowered_is, with_unsent_is, with_untaken_is}
use Rattle.shm_count.specs.declared.{answer.UpFault.{UpFault, TheVariants.{EraSpent, CountFull}}, point.Aim.Aim}
use Rattle.shm_count.specs.declared.point.{Aim.TheVariants.{Up, Down, Change}, Half.{Half, TheVariants.{First, Second}}}
use Rattle.shm_count.specs.declared.point.{StepPoint.StepPoint, StepNext.{StepNext, TheVariants.{Point, Answer}}}
use Rattle.shm_count.specs.Step.Control.{PointFits, block_at, committed_next, header_after, header_next, last_era, raises, step_next_at, value_after, first_next}
use Rattle.shm_count.specs.Step.{CanAim, CanStep, Done, Gives, PointHas, Refused, set_memo, slot_memo}
use Rattle.shm_count.specs.Proved.Step.Memos.{closed_part}
use Rattle.shm_count.specs.declared.point.StepPoint.TheVariants as point

-- ---- the memos of a step

-- a spot that a step may change
abbrev IsStepSpot : Spot → Type 0
IsStepSpot (spot.Root d k) = Unit {0}
IsStepSpot (spot.Home d) = Unit {0}
IsStepSpot (spot.Slot s r k) = Unit {0}
IsStepSpot (spot.Body d i) = Unit {0}
IsStepSpot p = ⊥

step_spot : (wide : Bool) (n c : ℕ) (m : Memo) (x : Aim) (p : Spot) → CanAim wide n c m x p → IsStepSpot p
step_spot wide n c m (Up b) (spot.Root d k) h = tt
step_spot wide n c m (Up b) (spot.Home d) h = tt
step_spot wide n c m (Up b) (spot.Slot s r k) h = tt
step_spot wide n c m (Up b) (spot.Body d i) h = tt
step_spot wide n c m (Up b) _ h = absurd h
step_spot wide n c m (Down b) (spot.Root d k) h = tt
step_spot wide n c m (Down b) (spot.Slot s r k) h = tt
step_spot wide n c m (Down b) (spot.Body d i) h = tt
step_spot wide n c m (Down b) _ h = absurd h
step_spot wide n c m (Change a b) (spot.Root d k) h = tt
step_spot wide n c m (Change a b) (spot.Body d i) h = tt
step_spot wide n c m (Change a b) _ h = absurd h

module _ (me : Me) (q : Memo) (e w : ℕ) where
  -- the exchanges leave it
  set_status : (x : Aim) (h : Half) (p : Spot) → (set_memo me x p e h q w).status ≡ q.status
  set_status (Up b) First p = ap (λ (y : Memo). y.status) (with_unsent_is me.who p b (record q { op = op.Up Committed p b e; made = without_made q b }))
  set_status (Up b) Second p = refl
  set_status (Down b) First p =
      let c = me.who in
      let u : Memo = record q { op = op.Down Committed p b e; made = without_made q b } in
      let t : Memo = with_unsent c p 0 u in
      ap (λ (y : Memo). y.status) (lowered_is (header_of (header_after me (Down b) e First w)).count b (cut c p (reparted c (with_untaken c p b t) p 0)))
      ∙ (ap (λ (y : Memo). y.status) (with_untaken_is c p b t) ∙ ap (λ (y : Memo). y.status) (with_unsent_is c p 0 u))
  set_status (Down b) Second p = refl
  set_status (Change a b) First p = refl
  set_status (Change a b) Second p =
      ap (λ (y : Memo). y.status) (lowered_is (header_of (header_after me (Change a b) e Second w)).count a (cut me.who p (record q { op = op.Change (Lowering Closed) p a b e; made = without_made q a })))

  -- and so does the store of the slot
  slot_status : (x : Aim) (p : Spot) → IsStepSpot p → (slot_memo me x p e q w).status ≡ q.status
  slot_status x (spot.Root d k) s = set_status x First (spot.Root d k)
  slot_status x (spot.Home d) s = set_status x First (spot.Home d)
  slot_status x (spot.Slot s r k) o = set_status x First (spot.Slot s r k)
  slot_status x (spot.Body d i) s =
      let m : Memo = set_memo me x (spot.Body d i) e First q w in
      choice (λ (y : Memo). y.status ≡ m.status) (is_op m.op && same_spot (slot_of m.op) (spot.Body d i)) (record (written m) { known = learnt (spot.Body d i) (value_after x) m.known })
      (record m { making = making_with me.geometry m.facts m.making d (spot.Body d i) (value_after x) }) (λ z. refl) (λ z. refl)
      ∙ set_status x First (spot.Body d i)
  slot_status x _ s = absurd s

-- a step that is done leaves it
done_status : (me : Me) (slot : ℕ) (x : Aim) (p : Spot) (r0 r : Memo) (z : Bool) → IsStepSpot p → Done me slot x p r0 r z → r.status ≡ r0.status
done_status me slot (Up b) p r0 r z s (e, q, w, first, some, same, is) =
    ap (λ (m : Memo). m.status) same
    ∙ (closed_part (λ (m : Memo). m.status) me e (slot_memo me (Up b) p e q w) refl
    ∙ (slot_status me q e w (Up b) p s ∙ ap (λ (m : Memo). m.status) first.1.rest))
done_status me slot (Down b) p r0 r z s (e, q, w, first, some, same, is) =
    ap (λ (m : Memo). m.status) same
    ∙ (closed_part (λ (m : Memo). m.status) me e (slot_memo me (Down b) p e q w) refl
    ∙ (slot_status me q e w (Down b) p s ∙ ap (λ (m : Memo). m.status) first.1.rest))
done_status me slot (Change a b) p r0 r z s (e, q, w, half, some, same, is) =
    let x : Aim = Change a b in
    let f = half.2 in
    ap (λ (m : Memo). m.status) same
    ∙ (closed_part (λ (m : Memo). m.status) me e (set_memo me x p e Second q w) refl
    ∙ (set_status me q e w x Second p
    ∙ (ap (λ (m : Memo). m.status) f.3.rest
    ∙ (closed_part (λ (m : Memo). m.status) me half.0 (slot_memo me x p half.0 f.0 f.1) refl
    ∙ (slot_status me f.0 half.0 f.1 x p s ∙ ap (λ (m : Memo). m.status) f.2.1.rest)))))

-- and so does one that is refused
refused_status : (me : Me) (x : Aim) (r0 r : Memo) (f : UpFault) → Refused me x r0 r f → r.status ≡ r0.status
refused_status me x r0 r (EraSpent e) h = ap (λ (m : Memo). m.status) h.0
refused_status me x r0 r (CountFull b n) h = ap (λ (m : Memo). m.status) h.3.1.rest

-- ---- a step that is done had room

header_goes : (me : Me) (x : Aim) (e : ℕ) (h : Half) (w : ℕ) (z : Bool) → header_next me x e h w ≡ Answer (Ok z) → ⊥
header_goes me x e h w z =
    choice (λ (y : StepNext). y ≡ Answer (Ok z) → ⊥) (raises x h && eqb (header_of w).count 1023) (Answer (Err (CountFull (block_at x h) (header_of w).count)))
    (if (header_of w).client == me.who then Point (point.Exchange e h w) else Point (point.Row e h w))
    (λ _ k. cc)
    (λ _. choice (λ (y : StepNext). y ≡ Answer (Ok z) → ⊥) (eqb (header_of w).client me.who) (Point (point.Exchange e h w)) (Point (point.Row e h w)) (λ _ k. cc) (λ _ k. cc))

committed_goes : (x : Aim) (e : ℕ) (h : Half) (w : ℕ) (z : Bool) → committed_next x e h w ≡ Answer (Ok z) → ⊥
committed_goes x e First w z k = cc
committed_goes x e Second w z k = cc

closed_room : (me : Me) (slot : ℕ) (x : Aim) (p : Spot) (r0 r : Memo) (n : ℕ) (z : Bool) (e : ℕ) (h : Half) (k : Bool) → step_next_at me x (point.Close e h k) n ≡ Answer (Ok z) → PointFits me x (point.Close e h k) → PointHas me slot x p r0 r (point.Close e h k)
    → own_word r0.own (spot.Era me.who me.who) ≤ last_era x
closed_room me slot (Up b) p r0 r n z e First k leads fits has = let o = has.2.0 in let l = fits.0 in omega arith
closed_room me slot (Down b) p r0 r n z e First k leads fits has = let o = has.2.0 in let l = fits.0 in omega arith
closed_room me slot (Change a b) p r0 r n z e First k leads fits has = absurd (cc)
closed_room me slot (Change a b) p r0 r n z e Second k leads fits has = let half = has.2 in let o = half.2.2.0 in let s = half.1 in let l = fits.0 in omega arith
closed_room me slot (Up b) p r0 r n z e Second k leads fits has = absurd fits.1
closed_room me slot (Down b) p r0 r n z e Second k leads fits has = absurd fits.1

done_room : (me : Me) (slot : ℕ) (x : Aim) (p : Spot) (r0 r : Memo) (n : ℕ) (z : Bool) (y : StepPoint) → step_next_at me x y n ≡ Answer (Ok z) → PointFits me x y → PointHas me slot x p r0 r y → own_word r0.own (spot.Era me.who me.who) ≤ last_era x
done_room me slot x p r0 r n z point.Era leads fits has =
    absurd (choice (λ (y : StepNext). y ≡ Answer (Ok z) → ⊥) (ltb (last_era x) n) (Answer (Err (EraSpent n))) (first_next me n) (λ _ k. cc) (λ _ k. cc) leads)
done_room me slot x p r0 r n z (point.More e) leads fits has = absurd (cc)
done_room me slot x p r0 r n z (point.Redo e) leads fits has = absurd (cc)
done_room me slot x p r0 r n z (point.Load e h) leads fits has = absurd (header_goes me x e h n z leads)
done_room me slot x p r0 r n z (point.Row e h w) leads fits has =
    absurd (choice (λ (y : StepNext). y ≡ Answer (Ok z) → ⊥) (ltb n (header_of w).era) (Point (point.Show e h w)) (Point (point.Exchange e h w)) (λ _ k. cc) (λ _ k. cc) leads)
done_room me slot x p r0 r n z (point.Show e h w) leads fits has = absurd (cc)
done_room me slot x p r0 r n z (point.Exchange e h w) leads fits has =
    absurd (choice (λ (y : StepNext). y ≡ Answer (Ok z) → ⊥) (eqb n w) (committed_next x e h w) (header_next me x e h n) (λ _. committed_goes x e h w z) (λ _. header_goes me x e h n z) leads)
done_room me slot x p r0 r n z (point.Slot e k) leads fits has = absurd (cc)
done_room me slot x p r0 r n z (point.Close e h k) leads fits has = closed_room me slot x p r0 r n z e h k leads fits has
done_room me slot x p r0 r n z point.Over leads fits has = absurd (cc)

-- the status is what it was where the step answers
pub gives_status : (me : Me) (slot : ℕ) (x : Aim) (p : Spot) (r0 r r2 : Memo) (n : ℕ) (y : StepPoint) (a : Result Bool UpFault) → CanStep me slot x p r0 → PointFits me x y → PointHas me slot x p r0 r y → step_next_at me x y n ≡ Answer a → Gives me slot x p r0 r2 a → r2.status ≡ r0.status
gives_status me slot x p r0 r r2 n y (Ok z) can fits has leads h = done_status me slot x p r0 r2 z (step_spot me.geometry.wide me.geometry.clients me.who r0 x p (can.can (done_room me slot x p r0 r n z y leads fits has))) h
gives_status me slot x p r0 r r2 n y (Err f) can fits has leads h = refused_status me x r0 r2 f h
