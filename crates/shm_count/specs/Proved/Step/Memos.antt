-- what the memo shows on the way of a count step: what stays where a word is read, where a row is raised, and in each half
use Rattle.std.proofs.Common.{◌≡◌, ◌≢◌, ℕ, ◌+◌, ◌-◌, ◌^◌, ◌≤◌, refl, sym, ap, ◌∙◌, subst, arith, true, false, not, cond, List}
use Rattle.std.proofs.lemmas.Bool.{eq-eqb, ne_eqb, and_from, cond-true, true≢false}
use Rattle.std.specs.List.{Contains}
use Rattle.shm_graph.specs.declared.{ask.Me.Me, spot.Spot.Spot, memo.Fact.TheVariants.Header as HeaderRead}
use Rattle.shm_graph.specs.declared.memo.{ChangeStage.TheVariants.Lowering, Second.TheVariants.Open, Memo.Memo, Op.Op}
use Rattle.shm_graph.specs.{declared.memo.Stored.Stored, Ops.{Quiet, cover, cover_of}}
use Rattle.shm_graph.specs.{Reach.{shown, is_reached, learnt}, Spots.same_spot}
use Rattle.shm_graph.specs.MemoAfterStore.{with_own, written, op_closed, is_lowering, without_looks, era_stored, making_with}
use Rattle.shm_graph.specs.{Views.own_word, Core.core}
use Rattle.shm_graph.specs.declared.spot.Spot.TheVariants as spot
use Rattle.shm_graph.specs.declared.memo.Op.TheVariants as op
use Rattle.shm_graph.proofs.{StepKinds.Loads.choice, Spots.Spotting.{same_spot_self, same_spot_is, same_spot_not}}
use Rattle.shm_words.specs.Redos.{first_word}
use Rattle.kind_parts.proofs.Cores.{reach_same}
use Rattle.shm_count.specs.declared.point.{Aim.{Aim, TheVariants.{Up, Down, Change}}, Half.Half}
use Rattle.shm_count.specs.declared.point.Half.TheVariants.{First, Second}
use Rattle.shm_count.specs.Step.Control.{last_era, redo_at, EraFits, PartFits}
use Rattle.shm_count.specs.Step.{CanChange, CanStep, begun_op, op_of, is_row, Rows, begun, AtFirst, set_memo, slot_memo, closed_memo, HasRead, InHalf}

-- ---- rows

-- no row was raised where only what the memo has of its call and of its agents differs
pub rows_same : (c : ℕ) (m m' : Memo) → core m' ≡ core m → Rows c m m'
rows_same c m m' e =
    let o : m'.own ≡ m.own = ap (λ (x : Memo). x.own) e in
    record {
      rest = e ∙ ap (λ (s : List Stored). core (record m { own = s })) (sym o);
      own = λ p n. ap (λ (s : List Stored). own_word s p) o;
      more = λ j. subst (λ (s : List Stored). own_word m.own (spot.Era c j) ≤ own_word s (spot.Era c j)) (sym o) (omega arith);
    }

-- rows are raised again
pub rows_then : (c : ℕ) (m m' m'' : Memo) → Rows c m m' → Rows c m' m'' → Rows c m m''
rows_then c m m' m'' h k =
    record {
      rest = k.rest ∙ ap (λ (x : Memo). record x { own = m''.own }) h.rest;
      own = λ p n. k.own p n ∙ h.own p n;
      more = λ j. let a = h.more j in let b = k.more j in omega arith;
    }

-- the word of another identity in the own row is one of the row
row_is : (c j : ℕ) → c ≢ j → is_row c (spot.Era c j) ≡ true
row_is c j n = and_from _ _ (eq-eqb c c refl) (ap not (ne_eqb j c (λ z. n (sym z))))

-- and the own era is none
own_is_none : (c : ℕ) → is_row c (spot.Era c c) ≡ false
own_is_none c = rw (eq-eqb c c refl) refl

-- a row is raised
pub row_raised : (c : ℕ) (m m' : Memo) (j v : ℕ) → c ≢ j → own_word m.own (spot.Era c j) ≤ v → core m' ≡ core (with_own m (spot.Era c j) v) → Rows c m m'
row_raised c m m' j v other more e =
    rows_then c m (with_own m (spot.Era c j) v) m'
    (record {
      rest = refl;
      own = λ p n. ap (λ b. cond b v (own_word m.own p)) (same_spot_not (spot.Era c j) p (λ z. true≢false (sym (row_is c j other) ∙ (ap (is_row c) z ∙ n))));
      more = λ i. choice (λ y. own_word m.own (spot.Era c i) ≤ y) (same_spot (spot.Era c j) (spot.Era c i)) v (own_word m.own (spot.Era c i))
          (λ z. subst (λ s. own_word m.own s ≤ v) (same_spot_is (spot.Era c j) (spot.Era c i) z) more)
          (λ z. omega arith);
    })
    (rows_same c (with_own m (spot.Era c j) v) m' e)

-- the second word of the redo record was stored before the first one
pub more_rows : (me : Me) (slot : ℕ) (x : Aim) (p : Spot) (e v : ℕ) (m : Memo) → Rows me.who (begun me slot x p e m) (begun me slot x p e (with_own m (spot.RedoMore me.who) v))
more_rows me slot x p e v m =
    record {
      rest = refl;
      own = λ q n. ap (cond (same_spot (spot.Redo me.who) q) (first_word me.geometry.wide (redo_at x slot e)))
          (ap (λ b. cond b v (own_word m.own q)) (same_spot_not (spot.RedoMore me.who) q (λ z. true≢false (sym (eq-eqb me.who me.who refl) ∙ (ap (is_row me.who) z ∙ n)))));
      more = λ j. omega arith;
    }

-- ---- the halves

-- the halves stay where a word is read, and where a row is raised
pub half_then : (me : Me) (slot : ℕ) (x : Aim) (p : Spot) (r0 r r' : Memo) (e : ℕ) (h : Half) → Rows me.who r r' → InHalf me slot x p r0 r e h → InHalf me slot x p r0 r' e h
half_then me slot x p r0 r r' e First k (own, rows) = (own, rows_then me.who (begun me slot x p e r0) r r' rows k)
half_then me slot x p r0 r r' e Second k (d, next, (q, w, at, rows)) = (d, next, (q, w, at, rows_then me.who (closed_memo me d (slot_memo me x p d q w)) r r' rows k))

pub half_same : (me : Me) (slot : ℕ) (x : Aim) (p : Spot) (r0 r r' : Memo) (e : ℕ) (h : Half) → core r' ≡ core r → InHalf me slot x p r0 r e h → InHalf me slot x p r0 r' e h
half_same me slot x p r0 r r' e h k = half_then me slot x p r0 r r' e h (rows_same me.who r r' k)

-- what was read before still binds where the facts stay
pub read_same : (c n : ℕ) (r r' : Memo) (w : ℕ) → (Contains r.facts (HeaderRead w) → Contains r'.facts (HeaderRead w)) → HasRead c n r w → HasRead c n r' w
read_same c n r r' w stays h = record { fact = stays h.fact; live = h.live; counted = h.counted; client = h.client }

-- ---- the first half

-- the own era leaves room for the step
pub era_room : (x : Aim) (e : ℕ) → EraFits x e First → e ≤ last_era x
era_room (Up b) e l = omega arith
era_room (Down b) e l = omega arith
era_room (Change a b) e l = omega arith

-- a step that has begun covers nothing
pub begun_quiet : (x : Aim) (p : Spot) (e : ℕ) → cover_of (begun_op x p e) ≡ Quiet
begun_quiet (Up b) p e = refl
begun_quiet (Down b) p e = refl
begun_quiet (Change a b) p e = refl

-- ---- the slot of a change

-- what the store of the own era makes of a part that the looks and what is known don't show
pub closed_part : {T : Type 0} (F : Memo → T) (me : Me) (e : ℕ) (m : Memo)
    → F (without_looks me.who (record (with_own m (spot.Era me.who me.who) (e + 1)) { op = op_closed m.op (e + 1) })) ≡ F (record (with_own m (spot.Era me.who me.who) (e + 1)) { op = op_closed m.op (e + 1) })
    → F (closed_memo me e m) ≡ F (record (with_own m (spot.Era me.who me.who) (e + 1)) { op = op_closed m.op (e + 1) })
closed_part F me e m same =
    let c = me.who in
    let n : Memo = record (with_own m (spot.Era c c) (e + 1)) { op = op_closed m.op (e + 1) } in
    ap F (cond-true _ (era_stored c m (spot.Era c c) (e + 1)) (with_own m (spot.Era c c) (e + 1)) (eq-eqb c c refl))
    ∙ choice (λ (z : Memo). F z ≡ F n) (is_lowering m.op) (without_looks c n) n (λ z. same) (λ z. refl)

-- what the store of a change's slot, an own root or a word of a block, makes of the memo
module _ (me : Me) (a b : ℕ) (r0 q : Memo) (d w : ℕ) where
  abbrev slotted : Spot → Memo
  slotted p = slot_memo me (Change a b) p d q w

  -- the second half is open once the own era is stored
  slotted_op : (p : Spot) (v : ℕ) → CanChange me.geometry.wide me.who r0 a b p → op_closed (slotted p).op v ≡ op.Change (Lowering Open) p a b v
  slotted_op (spot.Root i k) v can = refl
  slotted_op (spot.Body i k) v can =
      let s : Memo = set_memo me (Change a b) (spot.Body i k) d First q w in
      choice (λ (z : Memo). op_closed z.op v ≡ op.Change (Lowering Open) (spot.Body i k) a b v) (same_spot (spot.Body i k) (spot.Body i k))
      (record (written s) { known = learnt (spot.Body i k) b s.known }) (record s { making = making_with me.geometry s.facts s.making i (spot.Body i k) b }) (λ z. refl) (λ z. refl)
  slotted_op _ v can = absurd can

  -- the status stays
  slotted_status : (p : Spot) → CanChange me.geometry.wide me.who r0 a b p → (slotted p).status ≡ q.status
  slotted_status (spot.Root i k) can = refl
  slotted_status (spot.Body i k) can =
      let s : Memo = set_memo me (Change a b) (spot.Body i k) d First q w in
      choice (λ (z : Memo). z.status ≡ q.status) (same_spot (spot.Body i k) (spot.Body i k))
      (record (written s) { known = learnt (spot.Body i k) b s.known }) (record s { making = making_with me.geometry s.facts s.making i (spot.Body i k) b }) (λ z. refl) (λ z. refl)
  slotted_status _ can = absurd can

  -- and so does the redo word
  slotted_redo : (p : Spot) → CanChange me.geometry.wide me.who r0 a b p → own_word (slotted p).own (spot.Redo me.who) ≡ own_word q.own (spot.Redo me.who)
  slotted_redo (spot.Root i k) can = refl
  slotted_redo (spot.Body i k) can =
      let s : Memo = set_memo me (Change a b) (spot.Body i k) d First q w in
      choice (λ (z : Memo). own_word z.own (spot.Redo me.who) ≡ own_word q.own (spot.Redo me.who)) (same_spot (spot.Body i k) (spot.Body i k))
      (record (written s) { known = learnt (spot.Body i k) b s.known }) (record s { making = making_with me.geometry s.facts s.making i (spot.Body i k) b }) (λ z. refl) (λ z. refl)
  slotted_redo _ can = absurd can

-- ---- what each half shows

-- the era of the first half
abbrev pub first_era : ℕ → Half → ℕ
first_era e First = e
first_era e Second = e - 1

module _ (me : Me) (slot : ℕ) (p : Spot) (r0 r : Memo) (e : ℕ) where
  -- what the memo shows before is what the slot needs
  pub change_can : (a b : ℕ) → CanStep me slot (Change a b) p r0 → e + 3 ≤ 2 ^ 47 → InHalf me slot (Change a b) p r0 r e Second → CanChange me.geometry.wide me.who r0 a b p
  change_can a b can era (d, next, (q, w, (own, first), rows)) = can.can (omega arith)

  -- the step in progress
  pub half_op : (x : Aim) (h : Half) → CanStep me slot x p r0 → EraFits x e h → PartFits x h → InHalf me slot x p r0 r e h → r.op ≡ op_of x p e h
  half_op x First can era part (own, rows) = ap (λ (m : Memo). m.op) rows.rest
  half_op (Change a b) Second can era part (d, next, (q, w, at, rows)) =
      let s : Memo = slot_memo me (Change a b) p d q w in
      ap (λ (m : Memo). m.op) rows.rest
      ∙ (closed_part (λ (m : Memo). m.op) me d s refl
      ∙ (slotted_op me a b r0 q d w p (d + 1) (change_can a b can era (d, next, (q, w, at, rows)))
      ∙ ap (λ y. op.Change (Lowering Open) p a b y) (sym next)))
  half_op (Up b) Second can era part k = absurd part
  half_op (Down b) Second can era part k = absurd part

  -- the own era
  pub half_era : (x : Aim) (h : Half) → InHalf me slot x p r0 r e h → own_word r.own (spot.Era me.who me.who) ≡ e
  half_era x First (own, rows) = rows.own (spot.Era me.who me.who) (own_is_none me.who) ∙ sym own
  half_era x Second (d, next, (q, w, at, rows)) =
      let c = me.who in
      let s : Memo = slot_memo me x p d q w in
      rows.own (spot.Era c c) (own_is_none c)
      ∙ (closed_part (λ (m : Memo). own_word m.own (spot.Era c c)) me d s refl
      ∙ (cond-true (same_spot (spot.Era c c) (spot.Era c c)) (d + 1) (own_word s.own (spot.Era c c)) (same_spot_self (spot.Era c c)) ∙ sym next))

  -- the redo word
  first_redo : (x : Aim) (q : Memo) (d : ℕ) → AtFirst me slot x p r0 q d → own_word q.own (spot.Redo me.who) ≡ first_word me.geometry.wide (redo_at x slot d)
  first_redo x q d (own, rows) = rows.own (spot.Redo me.who) refl ∙ cond-true (same_spot (spot.Redo me.who) (spot.Redo me.who)) (first_word me.geometry.wide (redo_at x slot d)) (own_word r0.own (spot.Redo me.who)) (same_spot_self (spot.Redo me.who))

  pub half_redo : (x : Aim) (h : Half) → CanStep me slot x p r0 → EraFits x e h → PartFits x h → InHalf me slot x p r0 r e h → own_word r.own (spot.Redo me.who) ≡ first_word me.geometry.wide (redo_at x slot (first_era e h))
  half_redo x First can era part k = first_redo x r e k
  half_redo (Change a b) Second can era part (d, next, (q, w, at, rows)) =
      let s : Memo = slot_memo me (Change a b) p d q w in
      let same : d ≡ e - 1 = omega arith in
      rows.own (spot.Redo me.who) refl
      ∙ (closed_part (λ (m : Memo). own_word m.own (spot.Redo me.who)) me d s refl
      ∙ (slotted_redo me a b r0 q d w p (change_can a b can era (d, next, (q, w, at, rows)))
      ∙ (first_redo (Change a b) q d at ∙ ap (λ y. first_word me.geometry.wide (redo_at (Change a b) slot y)) same)))
  half_redo (Up b) Second can era part k = absurd part
  half_redo (Down b) Second can era part k = absurd part

  -- the status
  pub half_status : (x : Aim) (h : Half) → CanStep me slot x p r0 → EraFits x e h → PartFits x h → InHalf me slot x p r0 r e h → r.status ≡ r0.status
  half_status x First can era part (own, rows) = ap (λ (m : Memo). m.status) rows.rest
  half_status (Change a b) Second can era part (d, next, (q, w, (own, first), rows)) =
      let s : Memo = slot_memo me (Change a b) p d q w in
      ap (λ (m : Memo). m.status) rows.rest
      ∙ (closed_part (λ (m : Memo). m.status) me d s refl
      ∙ (slotted_status me a b r0 q d w p (change_can a b can era (d, next, (q, w, (own, first), rows)))
      ∙ ap (λ (m : Memo). m.status) first.rest))
  half_status (Up b) Second can era part k = absurd part
  half_status (Down b) Second can era part k = absurd part

-- in the first half what is in reach is so as before
pub first_reach : (me : Me) (slot : ℕ) (x : Aim) (p : Spot) (r0 r : Memo) (e b : ℕ) → r0.op ≡ op.Nothing → AtFirst me slot x p r0 r e → is_reached me.who r b ≡ is_reached me.who r0 b
first_reach me slot x p r0 r e b idle (own, rows) =
    let c = me.who in
    let same : (s : Spot) → is_row c s ≡ false → own_word (begun me slot x p e r0).own s ≡ own_word r0.own s → shown r s ≡ shown r0 s = λ s n k.
    ap (λ (o : Op). cover (cover_of o) s (own_word r.own s)) (ap (λ (m : Memo). m.op) rows.rest)
    ∙ (ap (λ y. cover y s (own_word r.own s)) (begun_quiet x p e)
    ∙ (rows.own s n ∙ (k ∙ ap (λ (o : Op). cover (cover_of o) s (own_word r0.own s)) (sym idle)))) in
    reach_same c r0 r b (λ k. same (spot.Root c k) refl refl) (same (spot.Home c) refl refl) (ap (λ (m : Memo). m.known) rows.rest) (ap (λ (m : Memo). m.looks) rows.rest)
