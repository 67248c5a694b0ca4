-- what the redo record and the commit test tell of a step in progress
use Rattle.std.proofs.Common.{◌≡◌, ◌≢◌, ℕ, ◌+◌, refl, sym, ap, ◌∙◌, subst, true, false, not, cond, inl, inr}
use Rattle.std.proofs.lemmas.Bool.{false≢true, true≢false}
use Rattle.std.specs.Prelude.{◌⊎◌, Option, Some, None}
use Rattle.shm_words.specs.{declared.{geometry.Geometry.Geometry, redo.Redo.Redo as ARedo}, Redos.redo_of}
use Rattle.shm_words.specs.declared.redo.Redo.TheVariants as redos
use Rattle.shm_words.proofs.Words.{change_told}
use Rattle.shm_graph.specs.declared.{spot.Spot.Spot, memo.First.{First, TheVariants.{Begun, Committed, Written}}}
use Rattle.shm_graph.specs.declared.memo.Second.TheVariants.{Closed, Open}
use Rattle.shm_graph.specs.declared.memo.{ChangeStage.TheVariants.{Lowering, Raising}, Op.Op}
use Rattle.shm_graph.specs.{declared.memo.Op.TheVariants.{Alloc, Change, Down, Nothing, Up}, Held.{OpTie, odd}}
use Rattle.shm_graph.specs.{Ops.{IsUncommitted, on_of, slot_of}, References.Words, Spots.spot_address}
use Rattle.shm_graph.specs.MemoAfterStore.{op_closed, op_written}
use Rattle.kind_laws.specs.{OwnWords.Closes, Slotting.Writes}
use Rattle.shm_count.specs.CommitTest.{step_block, Control.is_first_half}
use Rattle.shm_count.specs.Proved.CommitTest.Shown.{itself, odd_next, opposite}
use Rattle.shm_recover.specs.Mend.Control.{before_of, block_of, is_first, is_second, slot_at, value_at}

-- ---- parity

first_half : (e own : ℕ) → e ≡ own → is_first_half (odd e) own ≡ true
first_half e own is = ap (is_first_half (odd e)) (sym is) ∙ itself (odd e)

second_half : (e own : ℕ) → e ≡ own → is_first_half (odd (e + 1)) own ≡ false
second_half e own is = ap (is_first_half (odd (e + 1))) (sym is) ∙ (ap (λ z. cond z (odd e) (not (odd e))) (odd_next e) ∙ opposite (odd e))

-- ---- the record names the block of the step

pub step_named : (r : ARedo) (e : ℕ) → r ≢ redos.Idle → step_block (Some r) e ≡ Some (block_of r e)
step_named redos.Idle e some = absurd (some refl)
step_named (redos.Up p b) e some = refl
step_named (redos.Down p b) e some = refl
step_named (redos.Change parity p a b) e some = refl

some_same : (x y : ARedo) → ◌≡◌ {A = Option ARedo} (Some x) (Some y) → x ≡ y
some_same x y e = cc

-- a record that spells a step is none of these
no_step : {T : Type 0} (r : ARedo) (q : Option ARedo) → q ≡ Some r → r ≢ redos.Idle → (q ≡ None) ⊎ (q ≡ Some redos.Idle) → T
no_step r q is some (inl none) = absurd (let e : ◌≡◌ {A = Option ARedo} None (Some r) = sym none ∙ is in cc)
no_step r q is some (inr none) = absurd (some (some_same r redos.Idle (sym is ∙ none)))

module _ (g : Geometry) (class : ℕ → ℕ → ℕ) (redo more own : ℕ) (x : Words) where
  -- a record that spells no step: none is in progress
  idle : (o : Op) (q : Option ARedo) → OpTie g class redo more own x o → redo_of g.wide redo more ≡ q → (q ≡ None) ⊎ (q ≡ Some redos.Idle) → IsUncommitted o
  idle Nothing q tie is none = tt
  idle (Alloc s p b e) q tie is none = no_step (redos.Up (spot_address g p) b) q (sym is ∙ tie.spelled) (λ z. cc) none
  idle (Up s p b e) q tie is none = no_step (redos.Up (spot_address g p) b) q (sym is ∙ tie.spelled) (λ z. cc) none
  idle (Down s p b e) q tie is none = no_step (redos.Down (spot_address g p) b) q (sym is ∙ tie.spelled) (λ z. cc) none
  idle (Change (Raising s) p a b e) q tie is none = no_step (redos.Change (odd e) (spot_address g p) a b) q (sym is ∙ tie.spelled) (λ z. cc) none
  idle (Change (Lowering s) p a b e) q tie is none = no_step (redos.Change (odd (e + 1)) (spot_address g p) a b) q (sym is ∙ tie.spelled) (λ z. cc) none

  pub spells_none : (o : Op) → OpTie g class redo more own x o → redo_of g.wide redo more ≡ None → IsUncommitted o
  spells_none o tie is = idle o None tie is (inl refl)

  pub spells_idle : (o : Op) → OpTie g class redo more own x o → redo_of g.wide redo more ≡ Some redos.Idle → IsUncommitted o
  spells_idle o tie is = idle o (Some redos.Idle) tie is (inr refl)

  -- ---- committed: the slot is to be stored, or the half has but its era left

  pub to_write : (o : Op) (q : ARedo) (b : ℕ) → OpTie g class redo more own x o → redo_of g.wide redo more ≡ Some q → is_second q own ≡ false → on_of o ≡ Some b → Writes o (op_written o) (value_at q) × (slot_at q ≡ spot_address g (slot_of o))
  to_write Nothing q b tie is half on = absurd (cc)
  to_write (Alloc s p d e) q b tie is half on =
      let same : q ≡ redos.Up (spot_address g p) d = some_same q (redos.Up (spot_address g p) d) (sym is ∙ tie.spelled) in
      (go s on same, ap slot_at same)
    where
      go : (s : First) → on_of (Alloc s p d e) ≡ Some b → q ≡ redos.Up (spot_address g p) d → Writes (Alloc s p d e) (op_written (Alloc s p d e)) (value_at q)
      go Begun on same = absurd (cc)
      go Committed on same = (refl, ap value_at same)
      go Written on same = (refl, ap value_at same)
  to_write (Up s p d e) q b tie is half on =
      let same : q ≡ redos.Up (spot_address g p) d = some_same q (redos.Up (spot_address g p) d) (sym is ∙ tie.spelled) in
      (go s on same, ap slot_at same)
    where
      go : (s : First) → on_of (Up s p d e) ≡ Some b → q ≡ redos.Up (spot_address g p) d → Writes (Up s p d e) (op_written (Up s p d e)) (value_at q)
      go Begun on same = absurd (cc)
      go Committed on same = (refl, ap value_at same)
      go Written on same = (refl, ap value_at same)
  to_write (Down s p d e) q b tie is half on =
      let same : q ≡ redos.Down (spot_address g p) d = some_same q (redos.Down (spot_address g p) d) (sym is ∙ tie.spelled) in
      (go s on same, ap slot_at same)
    where
      go : (s : First) → on_of (Down s p d e) ≡ Some b → q ≡ redos.Down (spot_address g p) d → Writes (Down s p d e) (op_written (Down s p d e)) (value_at q)
      go Begun on same = absurd (cc)
      go Committed on same = (refl, ap value_at same)
      go Written on same = (refl, ap value_at same)
  to_write (Change (Raising s) p a d e) q b tie is half on =
      let r : ARedo = redos.Change (odd e) (spot_address g p) a d in
      let same : q ≡ r = some_same q r (sym is ∙ tie.spelled) in
      (go s on same, ap slot_at same)
    where
      go : (s : First) → on_of (Change (Raising s) p a d e) ≡ Some b → q ≡ redos.Change (odd e) (spot_address g p) a d → Writes (Change (Raising s) p a d e) (op_written (Change (Raising s) p a d e)) (value_at q)
      go Begun on same = absurd (cc)
      go Committed on same = (refl, ap value_at same)
      go Written on same = (refl, ap value_at same)
  to_write (Change (Lowering s) p a d e) q b tie is half on =
      let r : ARedo = redos.Change (odd (e + 1)) (spot_address g p) a d in
      let same : q ≡ r = some_same q r (sym is ∙ tie.spelled) in
      absurd (true≢false (sym (ap (λ z. is_second z own) same ∙ ap not (second_half e own tie.current)) ∙ half))

  -- what has written its slot: a change leads to its second half, and every other step to its end
  pub has_written : (o : Op) (q : ARedo) (v : ℕ) → OpTie g class redo more own x o → redo_of g.wide redo more ≡ Some q → Writes o (op_written o) v
      → Closes (op_written o) (op_closed (op_written o) (own + 1)) × (is_first q own ≡ true → (p : Spot) × (b : ℕ) × (op_written o ≡ Change (Raising Written) p (before_of q) b own)) × (is_first q own ≡ false → op_closed (op_written o) (own + 1) ≡ Nothing)
  has_written Nothing q v tie is writes = absurd writes
  has_written (Alloc s p d e) q v tie is writes =
      let same : q ≡ redos.Up (spot_address g p) d = some_same q (redos.Up (spot_address g p) d) (sym is ∙ tie.spelled) in
      (go s writes, (λ z. absurd (true≢false (sym z ∙ ap (λ r. is_first r own) same))), (λ z. refl))
    where
      go : (s : First) → Writes (Alloc s p d e) (op_written (Alloc s p d e)) v → Closes (op_written (Alloc s p d e)) Nothing
      go Begun h = absurd h
      go Committed h = refl
      go Written h = refl
  has_written (Up s p d e) q v tie is writes =
      let same : q ≡ redos.Up (spot_address g p) d = some_same q (redos.Up (spot_address g p) d) (sym is ∙ tie.spelled) in
      (go s writes, (λ z. absurd (true≢false (sym z ∙ ap (λ r. is_first r own) same))), (λ z. refl))
    where
      go : (s : First) → Writes (Up s p d e) (op_written (Up s p d e)) v → Closes (op_written (Up s p d e)) Nothing
      go Begun h = absurd h
      go Committed h = refl
      go Written h = refl
  has_written (Down s p d e) q v tie is writes =
      let same : q ≡ redos.Down (spot_address g p) d = some_same q (redos.Down (spot_address g p) d) (sym is ∙ tie.spelled) in
      (go s writes, (λ z. absurd (true≢false (sym z ∙ ap (λ r. is_first r own) same))), (λ z. refl))
    where
      go : (s : First) → Writes (Down s p d e) (op_written (Down s p d e)) v → Closes (op_written (Down s p d e)) Nothing
      go Begun h = absurd h
      go Committed h = refl
      go Written h = refl
  has_written (Change (Raising s) p a d e) q v tie is writes =
      let r : ARedo = redos.Change (odd e) (spot_address g p) a d in
      let same : q ≡ r = some_same q r (sym is ∙ tie.spelled) in
      let done = go s writes in (
        subst (λ o. Closes o (op_closed o (own + 1))) (sym done) (ap (λ z. Change (Lowering Open) p a d (z + 1)) (sym tie.current)),
        (λ z. (p, d, done ∙ (ap (λ z. Change (Raising Written) p a d z) tie.current ∙ ap (λ z. Change (Raising Written) p z d own) (sym (ap before_of same))))),
        (λ z. absurd (true≢false (sym (ap (λ r. is_first r own) same ∙ first_half e own tie.current) ∙ z))),
      )
    where
      go : (s : First) → Writes (Change (Raising s) p a d e) (op_written (Change (Raising s) p a d e)) v → op_written (Change (Raising s) p a d e) ≡ Change (Raising Written) p a d e
      go Begun h = absurd h
      go Committed h = refl
      go Written h = refl
  has_written (Change (Lowering s) p a d e) q v tie is writes = absurd writes

  -- a second half that is committed has but its era left
  pub to_close : (o : Op) (q : ARedo) (b : ℕ) → OpTie g class redo more own x o → redo_of g.wide redo more ≡ Some q → is_second q own ≡ true → on_of o ≡ Some b → Closes o (op_closed o (own + 1)) × (op_closed o (own + 1) ≡ Nothing)
  to_close Nothing q b tie is half on = absurd (cc)
  to_close (Alloc s p d e) q b tie is half on = absurd (false≢true (sym (ap (λ z. is_second z own) (some_same q (redos.Up (spot_address g p) d) (sym is ∙ tie.spelled))) ∙ half))
  to_close (Up s p d e) q b tie is half on = absurd (false≢true (sym (ap (λ z. is_second z own) (some_same q (redos.Up (spot_address g p) d) (sym is ∙ tie.spelled))) ∙ half))
  to_close (Down s p d e) q b tie is half on = absurd (false≢true (sym (ap (λ z. is_second z own) (some_same q (redos.Down (spot_address g p) d) (sym is ∙ tie.spelled))) ∙ half))
  to_close (Change (Raising s) p a d e) q b tie is half on = absurd (false≢true (sym (ap (λ z. is_second z own) (some_same q (redos.Change (odd e) (spot_address g p) a d) (sym is ∙ tie.spelled)) ∙ ap not (first_half e own tie.current)) ∙ half))
  to_close (Change (Lowering Open) p a d e) q b tie is half on = absurd (cc)
  to_close (Change (Lowering Closed) p a d e) q b tie is half on = (refl, refl)

  -- ---- not committed: a second half is to be made, and else nothing is

  pub to_lower : (o : Op) (q : ARedo) → OpTie g class redo more own x o → redo_of g.wide redo more ≡ Some q → is_second q own ≡ true → on_of o ≢ Some (block_of q own) → (p : Spot) × (b : ℕ) × (o ≡ Change (Lowering Open) p (before_of q) b own)
  to_lower Nothing redos.Idle tie is half on = absurd (cc)
  to_lower Nothing (redos.Up p b) tie is half on = absurd (cc)
  to_lower Nothing (redos.Down p b) tie is half on = absurd (cc)
  to_lower Nothing (redos.Change parity p a b) tie is half on = absurd (false≢true (sym (ap not (ap (λ z. is_first_half z own) (let y = change_told g.wide redo more parity p a b is in sym y.1 ∙ tie y.0) ∙ itself (odd own))) ∙ half))
  to_lower (Alloc s p d e) q tie is half on = absurd (false≢true (sym (ap (λ z. is_second z own) (some_same q (redos.Up (spot_address g p) d) (sym is ∙ tie.spelled))) ∙ half))
  to_lower (Up s p d e) q tie is half on = absurd (false≢true (sym (ap (λ z. is_second z own) (some_same q (redos.Up (spot_address g p) d) (sym is ∙ tie.spelled))) ∙ half))
  to_lower (Down s p d e) q tie is half on = absurd (false≢true (sym (ap (λ z. is_second z own) (some_same q (redos.Down (spot_address g p) d) (sym is ∙ tie.spelled))) ∙ half))
  to_lower (Change (Raising s) p a d e) q tie is half on = absurd (false≢true (sym (ap (λ z. is_second z own) (some_same q (redos.Change (odd e) (spot_address g p) a d) (sym is ∙ tie.spelled)) ∙ ap not (first_half e own tie.current)) ∙ half))
  to_lower (Change (Lowering Open) p a d e) q tie is half on =
      let same = some_same q (redos.Change (odd (e + 1)) (spot_address g p) a d) (sym is ∙ tie.spelled) in
      (p, d, ap (λ z. Change (Lowering Open) p a d z) tie.current ∙ ap (λ z. Change (Lowering Open) p z d own) (sym (ap before_of same)))
  to_lower (Change (Lowering Closed) p a d e) q tie is half on =
      let same = some_same q (redos.Change (odd (e + 1)) (spot_address g p) a d) (sym is ∙ tie.spelled) in
      absurd (on (ap Some (sym (ap (λ z. block_of z own) same ∙ ap (λ z. cond z d a) (second_half e own tie.current)))))

  pub to_drop : (o : Op) (q : ARedo) → OpTie g class redo more own x o → redo_of g.wide redo more ≡ Some q → is_second q own ≡ false → on_of o ≢ Some (block_of q own) → IsUncommitted o
  to_drop Nothing q tie is half on = tt
  to_drop (Alloc s p d e) q tie is half on = go s on
    where
      same : block_of q own ≡ d
      same = ap (λ z. block_of z own) (some_same q (redos.Up (spot_address g p) d) (sym is ∙ tie.spelled))

      go : (s : First) → on_of (Alloc s p d e) ≢ Some (block_of q own) → IsUncommitted (Alloc s p d e)
      go Begun on = tt
      go Committed on = absurd (on (ap Some (sym same)))
      go Written on = absurd (on (ap Some (sym same)))
  to_drop (Up s p d e) q tie is half on = go s on
    where
      same : block_of q own ≡ d
      same = ap (λ z. block_of z own) (some_same q (redos.Up (spot_address g p) d) (sym is ∙ tie.spelled))

      go : (s : First) → on_of (Up s p d e) ≢ Some (block_of q own) → IsUncommitted (Up s p d e)
      go Begun on = tt
      go Committed on = absurd (on (ap Some (sym same)))
      go Written on = absurd (on (ap Some (sym same)))
  to_drop (Down s p d e) q tie is half on = go s on
    where
      same : block_of q own ≡ d
      same = ap (λ z. block_of z own) (some_same q (redos.Down (spot_address g p) d) (sym is ∙ tie.spelled))

      go : (s : First) → on_of (Down s p d e) ≢ Some (block_of q own) → IsUncommitted (Down s p d e)
      go Begun on = tt
      go Committed on = absurd (on (ap Some (sym same)))
      go Written on = absurd (on (ap Some (sym same)))
  to_drop (Change (Raising s) p a d e) q tie is half on = go s on
    where
      same : block_of q own ≡ d
      same = ap (λ z. block_of z own) (some_same q (redos.Change (odd e) (spot_address g p) a d) (sym is ∙ tie.spelled)) ∙ ap (λ z. cond z d a) (first_half e own tie.current)

      go : (s : First) → on_of (Change (Raising s) p a d e) ≢ Some (block_of q own) → IsUncommitted (Change (Raising s) p a d e)
      go Begun on = tt
      go Committed on = absurd (on (ap Some (sym same)))
      go Written on = absurd (on (ap Some (sym same)))
  to_drop (Change (Lowering s) p a d e) q tie is half on = absurd (true≢false (sym (ap (λ z. is_second z own) (some_same q (redos.Change (odd (e + 1)) (spot_address g p) a d) (sym is ∙ tie.spelled)) ∙ ap not (second_half e own tie.current)) ∙ half))
