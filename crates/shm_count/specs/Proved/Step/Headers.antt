-- the block of a half is a live block that is counted, and where a count step goes by the header that it read
use Rattle.std.proofs.Common.{◌≡◌, ◌≢◌, ℕ, ◌<◌, refl, sym, ap, ◌∙◌, subst, arith, Bool, true, false, not, cond, eqb, leb, ◌&&◌, ◌∷◌}
use Rattle.std.proofs.lemmas.Bool.{eq-eqb, eqb-true, eqb-false, and_parts, and_from, cond-true, true≢false, false≢true}
use Rattle.std.proofs.lemmas.Bool.Decides.{nat_tests}
use Rattle.std.specs.{Prelude.Err, List.Contains}
use Rattle.shm_words.specs.{Headers.header_of, Redos.first_word}
use Rattle.shm_graph.specs.declared.{ask.Me.Me, spot.Spot.Spot, memo.{Fact.TheVariants.Header as HeaderRead, Memo.Memo}}
use Rattle.shm_graph.specs.{declared.memo.Op.Op, Agents.recovers, Blocks.{classes, headers, IsBlock, IsLive}}
use Rattle.shm_graph.specs.{Held.{HeldAt, OpTie}, Ops.{is_op, slot_of, cover_of, held_over_of}, References.words_of}
use Rattle.shm_graph.specs.{MemoAfterRead.{op_refused, raised_by, is_held}, Views.view, Core.core}
use Rattle.shm_graph.specs.declared.spot.Spot.TheVariants as spot
use Rattle.shm_graph.specs.declared.memo.Op.TheVariants as op
use Rattle.shm_graph.proofs.States.Holders.{Holds, target_counted, held_over_counted, reach_counted}
use Rattle.shm_graph.proofs.{States.Reached.reached_here, StepKinds.Loads.choice, Spots.Spotting.in_pool}
use Rattle.kind_parts.proofs.BeginAt.{quiet_target}
use Rattle.shm_count.specs.declared.{answer.UpFault.TheVariants.CountFull, point.Aim.Aim}
use Rattle.shm_count.specs.declared.point.{Aim.TheVariants.{Up, Down, Change}, Half.{Half, TheVariants.{First, Second}}}
use Rattle.shm_count.specs.declared.point.{StepPoint.TheVariants.{Exchange, Row}, StepNext.TheVariants.{Point, Answer}}
use Rattle.shm_count.specs.Step.Control.{block_at, raises, redo_at, header_next, EraFits, PartFits}
use Rattle.shm_count.specs.Step.{CanStep, begun_op, op_of, Rows, HasRead, InHalf, Refused, NextHolds}
use Rattle.shm_count.specs.Proved.Step.Memos.{rows_same, rows_then, half_same, begun_quiet, first_reach, half_op}

-- ---- the block of a half

module _ (me : Me) (slot : ℕ) (p : Spot) (r0 : Memo) (w : Spot → ℕ) (r : ℕ → Memo) (e : ℕ) (s : HeldAt me.geometry w (view r)) (l : me.who < me.geometry.clients) where
  -- the redo word and the slot's word tell the step in progress
  half_tie : (x : Aim) (h : Half) → CanStep me slot x p r0 → EraFits x e h → PartFits x h → InHalf me slot x p r0 (r me.who) e h
      → OpTie me.geometry (classes w) (w (spot.Redo me.who)) (w (spot.RedoMore me.who)) (w (spot.Era me.who me.who)) (words_of me.geometry.wide w) (op_of x p e h)
  half_tie x h can era part k = subst (OpTie me.geometry (classes w) (w (spot.Redo me.who)) (w (spot.RedoMore me.who)) (w (spot.Era me.who me.who)) (words_of me.geometry.wide w)) (half_op me slot p r0 (r me.who) e x h can era part k) (s.op me.who l)

  -- the block is one of the pool
  pub half_block : (x : Aim) (h : Half) → CanStep me slot x p r0 → EraFits x e h → PartFits x h → InHalf me slot x p r0 (r me.who) e h → IsBlock me.geometry (classes w) (block_at x h)
  half_block (Up b) First can era part k = (half_tie (Up b) First can era part k).blocks
  half_block (Down b) First can era part k = (half_tie (Down b) First can era part k).blocks
  half_block (Change a b) First can era part k = (half_tie (Change a b) First can era part k).blocks.1
  half_block (Change a b) Second can era part k = (half_tie (Change a b) Second can era part k).blocks.0
  half_block (Up b) Second can era part k = absurd part
  half_block (Down b) Second can era part k = absurd part

  -- a block that is to be raised is in reach
  first_counted : (x : Aim) → raises x First ≡ true → CanStep me slot x p r0 → InHalf me slot x p r0 (r me.who) e First → IsLive (headers w) (block_at x First) × ((headers w (block_at x First)).count ≢ 0)
  first_counted x up can k =
      let b = block_at x First in
      reach_counted me.geometry w (view r) s me.who b l
      (reached_here me.geometry w r s me.who l b (first_reach me slot x p r0 (r me.who) e b can.idle k ∙ can.reach up))

  -- the block of a slot is the slot's target until the step is committed
  down_counted : (b : ℕ) → CanStep me slot (Down b) p r0 → EraFits (Down b) e First → InHalf me slot (Down b) p r0 (r me.who) e First → IsLive (headers w) b × ((headers w b).count ≢ 0)
  down_counted b can era k =
      let c = me.who in
      let o : (r c).op ≡ begun_op (Down b) p e = half_op me slot p r0 (r c) e (Down b) First can era tt k in
      let tie = half_tie (Down b) First can era tt k in
      let block : IsBlock me.geometry (classes w) b = half_block (Down b) First can era tt k in
      let some : b ≢ 0 = (λ z. let q = in_pool me.geometry (classes w) b (spot.Head b) block (λ y. cc) in absurd (omega arith)) in
      let holds : Holds w me.geometry (view r) c p = subst (Holds w me.geometry (view r) c) (ap slot_of o) (s.slots c l (ap is_op o)) in
      target_counted me.geometry w (view r) s p b some (quiet_target me.geometry w r c s l p holds (ap cover_of o ∙ begun_quiet (Down b) p e) ∙ tie.word)

  -- the block before is held over until the second half is committed
  second_counted : (a b : ℕ) → CanStep me slot (Change a b) p r0 → EraFits (Change a b) e Second → InHalf me slot (Change a b) p r0 (r me.who) e Second → IsLive (headers w) a × ((headers w a).count ≢ 0)
  second_counted a b can era k =
      let c = me.who in
      let o : (r c).op ≡ op_of (Change a b) p e Second = half_op me slot p r0 (r c) e (Change a b) Second can era tt k in
      let block : IsBlock me.geometry (classes w) a = half_block (Change a b) Second can era tt k in
      let some : a ≢ 0 = (λ z. let q = in_pool me.geometry (classes w) a (spot.Head a) block (λ y. cc) in absurd (omega arith)) in
      held_over_counted me.geometry w (view r) s c a l some (ap held_over_of o)

  -- the block is live, and its count isn't 0
  pub half_counted : (x : Aim) (h : Half) → CanStep me slot x p r0 → EraFits x e h → PartFits x h → InHalf me slot x p r0 (r me.who) e h → IsLive (headers w) (block_at x h) × ((headers w (block_at x h)).count ≢ 0)
  half_counted (Up b) First can era part k = first_counted (Up b) refl can k
  half_counted (Down b) First can era part k = down_counted b can era k
  half_counted (Change a b) First can era part k = first_counted (Change a b) refl can k
  half_counted (Change a b) Second can era part k = second_counted a b can era k
  half_counted (Up b) Second can era part k = absurd part
  half_counted (Down b) Second can era part k = absurd part

  -- a memo that read the header of the block has it
  pub header_has : (x : Aim) (h : Half) (r' : Memo) → CanStep me slot x p r0 → EraFits x e h → PartFits x h → InHalf me slot x p r0 (r me.who) e h
      → Contains r'.facts (HeaderRead (w (spot.Head (block_at x h)))) → HasRead me.who me.geometry.clients r' (w (spot.Head (block_at x h)))
  header_has x h r' can era part k fact =
      let live = half_counted x h can era part k in
      record { fact = fact; live = live.0; counted = live.1; client = s.era.client (block_at x h) live.0 }

-- ---- the count is full, or it isn't

-- only the first half of a step raises
raises_first : (x : Aim) (h : Half) → PartFits x h → raises x h ≡ true → h ≡ First
raises_first (Up b) First part e = refl
raises_first (Down b) First part e = refl
raises_first (Change a b) First part e = refl
raises_first (Change a b) Second part e = absurd (false≢true e)
raises_first (Up b) Second part e = absurd part
raises_first (Down b) Second part e = absurd part

-- the step that ends where a header shows a full count is one that raises
raised_here : (x : Aim) (p : Spot) (e : ℕ) → raises x First ≡ true → is_held (raised_by (begun_op x p e)) (block_at x First) ≡ true
raised_here (Up b) p e u = eq-eqb b b refl
raised_here (Change a b) p e u = eq-eqb b b refl
raised_here (Down b) p e u = absurd (false≢true u)

lowers_none : (x : Aim) (p : Spot) (e : ℕ) (h : Half) (b : ℕ) → PartFits x h → raises x h ≡ false → is_held (raised_by (op_of x p e h)) b ≡ false
lowers_none (Down d) p e First b part u = refl
lowers_none (Change a d) p e Second b part u = refl
lowers_none (Up d) p e First b part u = absurd (true≢false u)
lowers_none (Change a d) p e First b part u = absurd (true≢false u)
lowers_none (Up d) p e Second b part u = absurd part
lowers_none (Down d) p e Second b part u = absurd part

-- a count has ten bits
count_room : (n : ℕ) → (header_of n).count ≢ 1023 → leb 1023 (header_of n).count ≡ false
unfolding header_of
count_room n z = grind (arith, nat_tests)

-- the count is full
full_ends : (m : Memo) (b n : ℕ) → recovers m ≡ false → is_held (raised_by m.op) b ≡ true → (header_of n).count ≡ 1023 → op_refused m b n ≡ op.Nothing
full_ends m b n client up full =
    let most : leb 1023 (header_of n).count ≡ true = ap (leb 1023) full in
    cond-true _ op.Nothing m.op (and_from _ _ (ap not client) (and_from _ _ up most))

-- it isn't, or the step lowers
not_full : (m : Memo) (b n : ℕ) → is_held (raised_by m.op) b && leb 1023 (header_of n).count ≡ false → op_refused m b n ≡ m.op
not_full m b n e =
    choice (λ (o : Op). o ≡ m.op) (not (recovers m) && (is_held (raised_by m.op) b && leb 1023 (header_of n).count)) op.Nothing m.op
    (λ z. absurd (true≢false (sym (and_parts (not (recovers m)) (is_held (raised_by m.op) b && leb 1023 (header_of n).count) z).1 ∙ e)))
    (λ z. refl)

-- ---- by the header that was read

module _ (me : Me) (slot : ℕ) (p : Spot) (r0 r r' : Memo) (e n : ℕ) where
  -- the count is full: no step is in progress any more
  full_refused : (x : Aim) → CanStep me slot x p r0 → recovers r ≡ recovers r0 → EraFits x e First → InHalf me slot x p r0 r e First → core r' ≡ core (record r { op = op_refused r (block_at x First) n })
      → raises x First ≡ true → (header_of n).count ≡ 1023 → Refused me x r0 r' (CountFull (block_at x First) (header_of n).count)
  full_refused x can agent era (own, rows) same up full =
      let o : r.op ≡ begun_op x p e = ap (λ (m : Memo). m.op) rows.rest in
      let none : op_refused r (block_at x First) n ≡ op.Nothing = full_ends r (block_at x First) n (agent ∙ can.client up) (ap (λ y. is_held (raised_by y) (block_at x First)) o ∙ raised_here x p e up) full in
      let m : Memo = record r0 { own = record { spot = spot.Redo me.who; value = first_word me.geometry.wide (redo_at x slot e) } ∷ r0.own } in
      let m' : Memo = record r { op = op.Nothing } in
      let ends : core r' ≡ core m' = same ∙ ap (λ y. core (record r { op = y })) none in
      let raised : Rows me.who m m' = record {
        rest = ap (λ (z : Memo). record z { op = op.Nothing }) rows.rest ∙ ap (λ y. core (record m { own = r.own; op = y })) (sym can.idle);
        own = rows.own;
        more = rows.more;
      } in
      (full, refl, up, (first_word me.geometry.wide (redo_at x slot e), rows_then me.who m m' r' raised (rows_same me.who m' r' ends)))

  -- it isn't: the exchange comes next, or the own row
  header_goes : (x : Aim) (h : Half) → recovers r' ≡ recovers r0 → InHalf me slot x p r0 r e h → core r' ≡ core r → HasRead me.who me.geometry.clients r' n
      → NextHolds me slot x p r0 r' (cond (eqb (header_of n).client me.who) (Point (Exchange e h n)) (Point (Row e h n)))
  header_goes x h agent k same read =
      let half : InHalf me slot x p r0 r' e h = half_same me slot x p r0 r r' e h same k in
      choice (NextHolds me slot x p r0 r') (eqb (header_of n).client me.who) (Point (Exchange e h n)) (Point (Row e h n))
      (λ z. record { agent = agent; has = (half, read, λ other. absurd (other (sym (eqb-true (header_of n).client me.who z)))) })
      (λ z. record { agent = agent; has = (half, read, λ y. eqb-false (header_of n).client me.who z (sym y)) })

  -- what comes next by the header that was read
  pub header_found : (x : Aim) (h : Half) → CanStep me slot x p r0 → EraFits x e h → PartFits x h → recovers r ≡ recovers r0 → InHalf me slot x p r0 r e h
      → recovers r' ≡ recovers r0 → core r' ≡ core (record r { op = op_refused r (block_at x h) n }) → HasRead me.who me.geometry.clients r' n
      → NextHolds me slot x p r0 r' (header_next me x e h n)
  header_found x h can era part before k agent same read =
      let b = block_at x h in
      let goes : op_refused r b n ≡ r.op → NextHolds me slot x p r0 r' (cond (eqb (header_of n).client me.who) (Point (Exchange e h n)) (Point (Row e h n))) = λ z.
      header_goes x h agent k (same ∙ ap (λ y. core (record r { op = y })) z) read in
      let o : r.op ≡ op_of x p e h = half_op me slot p r0 r e x h can era part k in
      choice (NextHolds me slot x p r0 r') (raises x h && eqb (header_of n).count 1023) (Answer (Err (CountFull b (header_of n).count))) (cond (eqb (header_of n).client me.who) (Point (Exchange e h n)) (Point (Row e h n)))
      (λ z. let q = and_parts (raises x h) (eqb (header_of n).count 1023) z in full h era k same (raises_first x h part q.0) q.0 (eqb-true (header_of n).count 1023 q.1))
      (λ z. goes (not_full r b n (stays (raises x h) refl o z)))
    where
      full : (h : Half) → EraFits x e h → InHalf me slot x p r0 r e h → core r' ≡ core (record r { op = op_refused r (block_at x h) n }) → h ≡ First → raises x h ≡ true → (header_of n).count ≡ 1023 → Refused me x r0 r' (CountFull (block_at x h) (header_of n).count)
      full First era k same f up c = full_refused x can before era k same up c
      full Second era k same f up c = absurd (true≢false (ap is_second f))
        where
          is_second : Half → Bool
          is_second First = false
          is_second Second = true

      stays : (up : Bool) → raises x h ≡ up → r.op ≡ op_of x p e h → up && eqb (header_of n).count 1023 ≡ false → is_held (raised_by r.op) (block_at x h) && leb 1023 (header_of n).count ≡ false
      stays true u o z = ap (λ y. is_held (raised_by r.op) (block_at x h) && y) (count_room n (eqb-false (header_of n).count 1023 z)) ∙ and_false (is_held (raised_by r.op) (block_at x h))
        where
          and_false : (y : Bool) → y && false ≡ false
          and_false true = refl
          and_false false = refl
      stays false u o z = ap (λ y. y && leb 1023 (header_of n).count) (ap (λ y. is_held (raised_by y) (block_at x h)) o ∙ lowers_none x p e h (block_at x h) part u)
