-- a header is read, by a load or by an exchange that fails: what its reader's memo has then holds
use Rattle.std.proofs.Common.{◌≡◌, ℕ, ◌<◌, refl, sym, ap, ◌∙◌, subst, arith, Bool, true, not, cond, eqb, leb, ◌&&◌, inl, inr, ◌∷◌, Some, None}
use Rattle.std.proofs.lemmas.Bool.{and_parts, and_from, eqb-true, eq-eqb, false≢true, true≢false}
use Rattle.std.proofs.lemmas.{List.Elements.All-cons, Map.Views.Contains-from_any}
use Rattle.std.specs.List.{list_any}
use Rattle.shm_words.specs.{declared.geometry.Geometry.Geometry, Headers.header_of}
use Rattle.shm_graph.specs.declared.spot.Spot.{Spot, TheVariants.{Era, Head}}
use Rattle.shm_graph.specs.declared.memo.First.TheVariants.{Begun, Committed, Written}
use Rattle.shm_graph.specs.declared.memo.{ChangeStage.TheVariants.{Raising, Lowering}, Op.Op}
use Rattle.shm_graph.specs.declared.memo.Op.TheVariants.{Nothing, Alloc, Up, Down, Change}
use Rattle.shm_graph.specs.declared.memo.{Fact.TheVariants.Header as HeaderRead, Memo.Memo, Step.Step}
use Rattle.shm_graph.specs.{Spots.segment_of, Blocks.{classes, IsBlock}, Ops.IsUncommitted}
use Rattle.shm_graph.specs.{Views.{View, view, at1, own_word}, Held.HeldAt, Agents.recovers, Changes.called}
use Rattle.shm_graph.specs.MemoAfterRead.{header_read, op_refused, raised_by, is_held, test_from}
use Rattle.shm_graph.proofs.Memos.{Frames.at1_same, MemoParts.{put_memo, put_same}}
use Rattle.shm_graph.proofs.Memos.Calls.{FactHolds, ZeroHolds, ZerosHold, TestHolds, call_held}
use Rattle.shm_graph.proofs.{Machines.Calling.{after_call, called_part}, StepKinds.{Loads.choice, OpEnd.op_ended}}
use Rattle.kind_laws.proofs.Loads.{header_fact}

-- ---- the step in progress

-- a step that is to raise a block has not committed
raised_uncommitted : (o : Op) (b : ℕ) → is_held (raised_by o) b ≡ true → IsUncommitted o
raised_uncommitted (Up Begun p d x) b e = tt
raised_uncommitted (Change (Raising Begun) p a d x) b e = tt
raised_uncommitted (Up Committed p d x) b e = absurd (false≢true e)
raised_uncommitted (Up Written p d x) b e = absurd (false≢true e)
raised_uncommitted (Change (Raising Committed) p a d x) b e = absurd (false≢true e)
raised_uncommitted (Change (Raising Written) p a d x) b e = absurd (false≢true e)
raised_uncommitted (Change (Lowering s) p a d x) b e = absurd (false≢true e)
raised_uncommitted Nothing b e = absurd (false≢true e)
raised_uncommitted (Alloc s p d x) b e = absurd (false≢true e)
raised_uncommitted (Down s p d x) b e = absurd (false≢true e)

-- it stays, or it was not committed and ends
refused_op : (P : Op → Type 0) (m : Memo) (b seen : ℕ) → P m.op → (IsUncommitted m.op → P Nothing) → P (op_refused m b seen)
refused_op P m b seen same none =
    choice P (not (recovers m) && (is_held (raised_by m.op) b && leb 1023 (header_of seen).count)) Nothing m.op
    (λ e. none (raised_uncommitted m.op b (and_parts (is_held (raised_by m.op) b) (leb 1023 (header_of seen).count) (and_parts (not (recovers m)) (is_held (raised_by m.op) b && leb 1023 (header_of seen).count) e).1).0))
    (λ _. same)

-- ---- what holds of the memo

module _ (g : Geometry) (w : Spot → ℕ) (r : ℕ → Memo) (c b : ℕ) (load : Bool) (h : HeldAt g w (view r)) (l : c < g.clients) (is : IsBlock g (classes w) b) where
  -- the view in which the step in progress may have ended
  abbrev ended_view : View
  ended_view = record (view r) { op = at1 (view r).op c (op_refused (r c) b (w (Head b))) }

  -- it holds
  ended_held : HeldAt g w ended_view
  ended_held =
      refused_op (λ o. HeldAt g w (record (view r) { op = at1 (view r).op c o })) (r c) b (w (Head b))
      (subst (λ (ops : ℕ → Op). HeldAt g w (record (view r) { op = ops })) (sym (at1_same (view r).op c (r c).op refl)) h)
      (λ u. op_ended g w (view r) c h l u)

  -- a header of an own segment that was read as 0 is 0
  zeros_held : ZerosHold g w c (cond ((eqb (w (Head b)) 0) && list_any (eqb (segment_of g b)) (r c).owned) (Head b ∷ (r c).zeros) (r c).zeros)
  zeros_held =
      choice (ZerosHold g w c) (eqb (w (Head b)) 0 && list_any (eqb (segment_of g b)) (r c).owned) (Head b ∷ (r c).zeros) (r c).zeros
      (λ e. let q = and_parts (eqb (w (Head b)) 0) (list_any (eqb (segment_of g b)) (r c).owned) e in
      All-cons (ZeroHolds g w c) (Head b) (r c).zeros
      (eqb-true (w (Head b)) 0 q.0, is, (h.segments c l).listed (segment_of g b) (Contains-from_any eqb-true (segment_of g b) (r c).owned q.1))
      (h.zeros c l))
      (λ _. h.zeros c l)

  -- the commit test begins where the header doesn't show c at its own era
  test_held : TestHolds g w ended_view c (cond (load && recovers (r c)) (test_from c (own_word (r c).own (Era c c)) b (w (Head b))) None)
  test_held =
      choice (TestHolds g w ended_view c) (load && recovers (r c)) (test_from c (own_word (r c).own (Era c c)) b (w (Head b))) None
      (λ _. choice (TestHolds g w ended_view c) (eqb (header_of (w (Head b))).client c && eqb (header_of (w (Head b))).era (own_word (r c).own (Era c c))) None (Some (record { block = b; next = 0 }))
      (λ _. tt)
      (λ n on. elim (ended_held.era.shown c b l on) [
        | inl z ↦ absurd (true≢false (sym (and_from _ _ (eq-eqb (header_of (w (Head b))).client c z.0) (eq-eqb (header_of (w (Head b))).era (own_word (r c).own (Era c c)) (z.1 ∙ sym (h.mine c l (Era c c) (eq-eqb c c refl))))) ∙ n))
        | inr z ↦ (z.0, omega arith, z.1, z.2, z.3)
      ]))
      (λ _. tt)

  -- the pool holds with the memo that read the header
  header_step : HeldAt g w (view (at1 r c (header_read g c load (r c) b (w (Head b)))))
  header_step =
      let v : View = view r in
      let n : Memo = header_read g c load (r c) b (w (Head b)) in
      subst (HeldAt g w) (sym (put_memo r c n ∙ ap (λ (u : View). record u { op = at1 v.op c n.op; facts = at1 v.facts c n.facts; zeros = at1 v.zeros c n.zeros; test = at1 v.test c n.test; made = at1 v.made c n.made }) (put_same v c)))
      (call_held g w ended_view c n.facts n.zeros n.test n.made ended_held
      (All-cons (FactHolds g w ended_view) (HeaderRead (w (Head b))) (r c).facts (header_fact g w ended_view b ended_held) (ended_held.facts c l))
      zeros_held test_held (ended_held.made c l))

-- the pool holds with the memo at a step that read a header
pub header_held : (g : Geometry) (w : Spot → ℕ) (r : ℕ → Memo) (c b : ℕ) (load : Bool) (t : Step) → HeldAt g w (view r) → c < g.clients → IsBlock g (classes w) b
    → HeldAt g w (view (at1 r c (header_read g c load (called (r c) t) b (w (Head b)))))
header_held g w r c b load t h l is = after_call g w r c t (λ m. header_read g c load m b (w (Head b))) h l (λ q e here. header_step g w q c b load here l is)

-- and does to the references what it did
pub header_op : (P : Op → Type 0) (g : Geometry) (w : Spot → ℕ) (c b : ℕ) (load : Bool) (m : Memo) (t : Step) → P m.op → (IsUncommitted m.op → P Nothing) → P (header_read g c load (called m t) b (w (Head b))).op
header_op P g w c b load m t same none =
    let e = called_part (λ (x : Memo). x.op) m t refl refl in
    refused_op P (called m t) b (w (Head b)) (subst P (sym e) same) (λ u. none (subst IsUncommitted e u))
