-- what a count step at an own root leaves in the memo of its identity
use Rattle.std.proofs.Common.{◌≡◌, ℕ, ◌+◌, ◌-◌, ◌^◌, ◌<◌, ◌≤◌, refl, sym, ap, ◌∙◌, subst, arith, Bool, true, false, not, cond, eqb, ◌&&◌, List, [], ◌∷◌, ◌++◌}
use Rattle.std.proofs.lemmas.{Bool.{cond-true, cond-false, eq-eqb, eqb-true}, List.Elements.Contains-push}
use Rattle.std.specs.{Prelude.◌==◌, List.{Contains, filter}}
use Rattle.shm_words.specs.{Headers.{header_of, HeaderFits}, declared.header.Header.Header}
use Rattle.shm_words.proofs.Words.{header_of-word}
use Rattle.shm_graph.specs.declared.{ask.Me.Me, spot.Spot.Spot, memo.ChangeStage.TheVariants.{Lowering, Raising}}
use Rattle.shm_graph.specs.declared.memo.{First.TheVariants.Committed, Second.TheVariants.Closed, Memo.Memo}
use Rattle.shm_graph.specs.declared.{memo.Stored.Stored, table.Part.{Part as TablePart, TheVariants.{Loose, Table}}}
use Rattle.shm_graph.specs.{Chains.part_set, MemoAfterExchange.{cut, lowered, reparted, without_made}, Held.is_loose}
use Rattle.shm_graph.specs.{Idle.{IsIdle, hold_word}, Reach.shown, Spots.same_spot}
use Rattle.shm_graph.specs.{MemoAfterStore.{not_block, not_of, op_closed, op_written}, Views.own_word, Core.core}
use Rattle.shm_graph.specs.declared.spot.Spot.TheVariants as spot
use Rattle.shm_graph.specs.declared.memo.Op.TheVariants as op
use Rattle.shm_count.specs.declared.{answer.UpFault.{UpFault, TheVariants.{EraSpent, CountFull}}, point.Aim.Aim}
use Rattle.shm_count.specs.declared.point.{Aim.TheVariants.{Up, Down, Change}, Half.{Half, TheVariants.{First, Second}}}
use Rattle.shm_count.specs.Step.Control.{PartFits, header_after, last_era, raises, value_after}
use Rattle.shm_count.specs.Step.{AtFirst, Done, Refused, Rows, begun, closed_memo, is_row, set_memo, slot_memo}
use Rattle.shm_count.specs.{Step.Machines.is_change, Proved.Step.{Cores.{is_set, set_op}, Memos.closed_part}}
use Rattle.shm_count.specs.Roots.{root_word}

-- ---- what a step that is done says of the memo

-- a step up or down: q is the memo at the exchange of the header w, at the own era e
pub record FirstDone (me : Me) (slot : ℕ) (x : Aim) (p : Spot) (r0 r : Memo) (z : Bool) : Type 0 where
  pub e : ℕ
  pub q : Memo
  pub w : ℕ
  pub at : AtFirst me slot x p r0 q e
  pub same : core r ≡ core (closed_memo me e (slot_memo me x p e q w))
  pub zero : z ≡ (not (raises x First) && ((header_of w).count == 1))

-- a change: q1 is the memo at the first exchange, of the header v at the own era d, and q that at the second one, of the header w
pub record SecondDone (me : Me) (slot a b : ℕ) (p : Spot) (r0 r : Memo) (z : Bool) : Type 0 where
  pub d : ℕ
  pub q1 : Memo
  pub v : ℕ
  pub at : AtFirst me slot (Change a b) p r0 q1 d
  pub q : Memo
  pub rows : Rows me.who (closed_memo me d (slot_memo me (Change a b) p d q1 v)) q
  pub w : ℕ
  pub same : core r ≡ core (closed_memo me (d + 1) (set_memo me (Change a b) p (d + 1) Second q w))
  pub zero : z ≡ ((header_of w).count == 1)

-- each step that is done is one of the two
pub up_done : (me : Me) (slot b : ℕ) (p : Spot) (r0 r : Memo) (z : Bool) → Done me slot (Up b) p r0 r z → FirstDone me slot (Up b) p r0 r z
up_done me slot b p r0 r z (e, q, w, at, some, same, zero) = record { e = e; q = q; w = w; at = at; same = same; zero = zero }

pub down_done : (me : Me) (slot b : ℕ) (p : Spot) (r0 r : Memo) (z : Bool) → Done me slot (Down b) p r0 r z → FirstDone me slot (Down b) p r0 r z
down_done me slot b p r0 r z (e, q, w, at, some, same, zero) = record { e = e; q = q; w = w; at = at; same = same; zero = zero }

pub change_done : (me : Me) (slot a b : ℕ) (p : Spot) (r0 r : Memo) (z : Bool) → Done me slot (Change a b) p r0 r z → SecondDone me slot a b p r0 r z
change_done me slot a b p r0 r z (e, q, w, (d, next, (q1, v, at, rows)), some, same, zero) =
    record {
      d = d;
      q1 = q1;
      v = v;
      at = at;
      q = q;
      rows = rows;
      w = w;
      same = subst (λ n. core r ≡ core (closed_memo me n (set_memo me (Change a b) p n Second q w))) next same;
      zero = zero;
    }

-- each step has a first half
has_first : (x : Aim) → PartFits x First
has_first (Up b) = tt
has_first _ = tt

-- ---- what no count step changes

-- the status, the latch, the block that is prepared, and whether the pool is one for tables
pub record Kept (m m' : Memo) : Type 0 where
  pub status : m'.status ≡ m.status
  pub latch : m'.latch ≡ m.latch
  pub making : m'.making ≡ m.making
  pub loose : is_loose m'.part ≡ is_loose m.part

kept_same : (m : Memo) → Kept m m
kept_same m = record { status = refl; latch = refl; making = refl; loose = refl }

-- one step after the other
kept_then : (m m' m'' : Memo) → Kept m m' → Kept m' m'' → Kept m m''
kept_then m m' m'' h k = record { status = k.status ∙ h.status; latch = k.latch ∙ h.latch; making = k.making ∙ h.making; loose = k.loose ∙ h.loose }

-- memos of one core have the same
kept_core : (m m' : Memo) → core m' ≡ core m → Kept m m'
kept_core m m' e =
    record {
      status = ap (λ (x : Memo). x.status) e;
      latch = ap (λ (x : Memo). x.latch) e;
      making = ap (λ (x : Memo). x.making) e;
      loose = ap (λ (x : Memo). is_loose x.part) e;
    }

-- rows that are raised leave it
kept_rows : (c : ℕ) (m m' : Memo) → Rows c m m' → Kept m m'
kept_rows c m m' h = let k = kept_core (record m { own = m'.own }) m' h.rest in record { status = k.status; latch = k.latch; making = k.making; loose = k.loose }

-- a part stays a partition, or none
loose_set : (ks : List Stored) (c home : ℕ) (p : Spot) (x : ℕ) (part : TablePart) → is_loose (part_set ks c home p x part) ≡ is_loose part
loose_set ks c home p x Loose = refl
loose_set ks c home p x (Table chains) = refl

loose_reparted : (c : ℕ) (m : Memo) (p : Spot) (x : ℕ) → is_loose (reparted c m p x).part ≡ is_loose m.part
loose_reparted c m p x = loose_set m.known c (shown m (spot.Home c)) p x m.part

-- a block that joins the zero-count blocks leaves it
kept_lowered : (n b : ℕ) (m : Memo) → Kept m (lowered n b m)
kept_lowered n b m = go (eqb n 0)
  where
    go : (z : Bool) → Kept m (cond z (record m { dying = m.dying ++ b ∷ []; known = filter (not_of b) m.known }) m)
    go true = record { status = refl; latch = refl; making = refl; loose = refl }
    go false = kept_same m

-- the store of the own era leaves it
kept_closed : (me : Me) (e : ℕ) (m : Memo) → Kept m (closed_memo me e m)
kept_closed me e m =
    record {
      status = closed_part (λ (x : Memo). x.status) me e m refl;
      latch = closed_part (λ (x : Memo). x.latch) me e m refl;
      making = closed_part (λ (x : Memo). x.making) me e m refl;
      loose = closed_part (λ (x : Memo). is_loose x.part) me e m refl;
    }

module _ (me : Me) (slot k : ℕ) (r0 : Memo) where
  abbrev c : ℕ
  c = me.who

  abbrev p : Spot
  p = spot.Root c k

  -- the exchange of a half leaves it
  kept_set : (x : Aim) (e : ℕ) (h : Half) (q : Memo) (w : ℕ) → PartFits x h → Kept q (set_memo me x p e h q w)
  kept_set (Up b) e First q w f = record { status = refl; latch = refl; making = refl; loose = loose_reparted c (record q { op = op.Up Committed p b e; made = without_made q b }) p b }
  kept_set (Down b) e First q w f =
      let m : Memo = cut c p (reparted c (record q { op = op.Down Committed p b e; made = without_made q b }) p 0) in
      let y = kept_lowered (header_of (header_after me (Down b) e First w)).count b m in
      record { status = y.status; latch = y.latch; making = y.making; loose = y.loose ∙ loose_reparted c (record q { op = op.Down Committed p b e; made = without_made q b }) p 0 }
  kept_set (Change a b) e First q w f =
      record { status = refl; latch = refl; making = refl; loose = loose_reparted c (record q { op = op.Change (Raising Committed) p a b e; made = filter (not_block a) (without_made q b) }) p b }
  kept_set (Change a b) e Second q w f =
      let m : Memo = cut c p (record q { op = op.Change (Lowering Closed) p a b e; made = without_made q a }) in
      let y = kept_lowered (header_of (header_after me (Change a b) e Second w)).count a m in
      record { status = y.status; latch = y.latch; making = y.making; loose = y.loose }
  kept_set (Up b) e Second q w f = absurd f
  kept_set (Down b) e Second q w f = absurd f

  -- and so does the store of the root
  kept_slot : (x : Aim) (e : ℕ) (q : Memo) (w : ℕ) → Kept q (slot_memo me x p e q w)
  kept_slot x e q w = let y = kept_set x e First q w (has_first x) in record { status = y.status; latch = y.latch; making = y.making; loose = y.loose }

  -- at the first exchange it is what it was
  kept_first : (x : Aim) (q : Memo) (e : ℕ) → AtFirst me slot x p r0 q e → Kept r0 q
  kept_first x q e at = let y = kept_rows c (begun me slot x p e r0) q at.1 in record { status = y.status; latch = y.latch; making = y.making; loose = y.loose }

  -- so it stays where a step is done
  kept_by_first : (x : Aim) (r : Memo) (z : Bool) → FirstDone me slot x p r0 r z → Kept r0 r
  kept_by_first x r z d =
      let s : Memo = slot_memo me x p d.e d.q d.w in
      kept_then r0 d.q r (kept_first x d.q d.e d.at)
      (kept_then d.q s r (kept_slot x d.e d.q d.w)
      (kept_then s (closed_memo me d.e s) r (kept_closed me d.e s) (kept_core (closed_memo me d.e s) r d.same)))

  kept_by_second : (a b : ℕ) (r : Memo) (z : Bool) → SecondDone me slot a b p r0 r z → Kept r0 r
  kept_by_second a b r z d =
      let x : Aim = Change a b in
      let s : Memo = slot_memo me x p d.d d.q1 d.v in
      let t : Memo = set_memo me x p (d.d + 1) Second d.q d.w in
      kept_then r0 d.q1 r (kept_first x d.q1 d.d d.at)
      (kept_then d.q1 s r (kept_slot x d.d d.q1 d.v)
      (kept_then s (closed_memo me d.d s) r (kept_closed me d.d s)
      (kept_then (closed_memo me d.d s) d.q r (kept_rows c (closed_memo me d.d s) d.q d.rows)
      (kept_then d.q t r (kept_set x (d.d + 1) Second d.q d.w tt)
      (kept_then t (closed_memo me (d.d + 1) t) r (kept_closed me (d.d + 1) t) (kept_core (closed_memo me (d.d + 1) t) r d.same))))))

  pub kept_done : (x : Aim) (r : Memo) (z : Bool) → Done me slot x p r0 r z → Kept r0 r
  kept_done (Up b) r z d = kept_by_first (Up b) r z (up_done me slot b p r0 r z d)
  kept_done (Down b) r z d = kept_by_first (Down b) r z (down_done me slot b p r0 r z d)
  kept_done (Change a b) r z d = kept_by_second a b r z (change_done me slot a b p r0 r z d)

  -- and where none is
  pub kept_refused : (x : Aim) (r : Memo) (f : UpFault) → Refused me x r0 r f → Kept r0 r
  kept_refused x r (EraSpent e) d = kept_core r0 r d.0
  kept_refused x r (CountFull b n) d = let y = kept_rows c (record r0 { own = record { spot = spot.Redo c; value = d.3.0 } ∷ r0.own }) r d.3.1 in record { status = y.status; latch = y.latch; making = y.making; loose = y.loose }

  -- ---- no step is in progress

  op_by_first : (x : Aim) (r : Memo) (z : Bool) → is_change x ≡ false → FirstDone me slot x p r0 r z → r.op ≡ op.Nothing
  op_by_first x r z n d =
      let s : Memo = slot_memo me x p d.e d.q d.w in
      ap (λ (y : Memo). y.op) d.same
      ∙ (closed_part (λ (y : Memo). y.op) me d.e s refl
      ∙ (ap (λ o. op_closed (op_written o) (d.e + 1)) (is_set me x p d.e First d.q d.w (has_first x)).op ∙ closes x n))
    where
      closes : (x : Aim) → is_change x ≡ false → op_closed (op_written (set_op x p d.e First)) (d.e + 1) ≡ op.Nothing
      closes (Up b) n = refl
      closes (Down b) n = refl
      closes (Change a b) n = absurd (cc)

  op_by_second : (a b : ℕ) (r : Memo) (z : Bool) → SecondDone me slot a b p r0 r z → r.op ≡ op.Nothing
  op_by_second a b r z d =
      let t : Memo = set_memo me (Change a b) p (d.d + 1) Second d.q d.w in
      ap (λ (y : Memo). y.op) d.same
      ∙ (closed_part (λ (y : Memo). y.op) me (d.d + 1) t refl
      ∙ ap (λ o. op_closed o (d.d + 1 + 1)) (is_set me (Change a b) p (d.d + 1) Second d.q d.w tt).op)

  pub op_done : (x : Aim) (r : Memo) (z : Bool) → Done me slot x p r0 r z → r.op ≡ op.Nothing
  op_done (Up b) r z d = op_by_first (Up b) r z refl (up_done me slot b p r0 r z d)
  op_done (Down b) r z d = op_by_first (Down b) r z refl (down_done me slot b p r0 r z d)
  op_done (Change a b) r z d = op_by_second a b r z (change_done me slot a b p r0 r z d)

  pub op_left : (x : Aim) (r : Memo) (f : UpFault) → Refused me x r0 r f → r.op ≡ r0.op
  op_left x r (EraSpent e) d = ap (λ (y : Memo). y.op) d.0
  op_left x r (CountFull b n) d = ap (λ (y : Memo). y.op) d.3.1.rest

  -- ---- own words

  -- an own word that is neither the redo record nor of the own row
  module _ (s : Spot) (era : same_spot (spot.Era c c) s ≡ false) (redo : same_spot (spot.Redo c) s ≡ false) (row : is_row c s ≡ false) where
    closed_word : (e : ℕ) (m : Memo) → own_word (closed_memo me e m).own s ≡ own_word m.own s
    closed_word e m = closed_part (λ (y : Memo). own_word y.own s) me e m refl ∙ cond-false _ _ _ era

    slot_word : (x : Aim) (e : ℕ) (q : Memo) (w : ℕ) → own_word (slot_memo me x p e q w).own s ≡ cond (same_spot p s) (value_after x) (own_word q.own s)
    slot_word x e q w = ap (λ (o : List Stored). cond (same_spot p s) (value_after x) (own_word o s)) (is_set me x p e First q w (has_first x)).own

    first_word : (x : Aim) (q : Memo) (e : ℕ) → AtFirst me slot x p r0 q e → own_word q.own s ≡ own_word r0.own s
    first_word x q e at = at.1.own s row ∙ cond-false _ _ _ redo

    word_by_first : (x : Aim) (r : Memo) (z : Bool) → FirstDone me slot x p r0 r z → own_word r.own s ≡ cond (same_spot p s) (value_after x) (own_word r0.own s)
    word_by_first x r z d =
        ap (λ (y : Memo). own_word y.own s) d.same
        ∙ (closed_word d.e (slot_memo me x p d.e d.q d.w)
        ∙ (slot_word x d.e d.q d.w ∙ ap (cond (same_spot p s) (value_after x)) (first_word x d.q d.e d.at)))

    word_by_second : (a b : ℕ) (r : Memo) (z : Bool) → SecondDone me slot a b p r0 r z → own_word r.own s ≡ cond (same_spot p s) b (own_word r0.own s)
    word_by_second a b r z d =
        let x : Aim = Change a b in
        let t : Memo = set_memo me x p (d.d + 1) Second d.q d.w in
        ap (λ (y : Memo). own_word y.own s) d.same
        ∙ (closed_word (d.d + 1) t
        ∙ (ap (λ (o : List Stored). own_word o s) (is_set me x p (d.d + 1) Second d.q d.w tt).own
        ∙ (d.rows.own s row
        ∙ (closed_word d.d (slot_memo me x p d.d d.q1 d.v)
        ∙ (slot_word x d.d d.q1 d.v ∙ ap (cond (same_spot p s) b) (first_word x d.q1 d.d d.at))))))

    pub word_done : (x : Aim) (r : Memo) (z : Bool) → Done me slot x p r0 r z → own_word r.own s ≡ cond (same_spot p s) (value_after x) (own_word r0.own s)
    word_done (Up b) r z d = word_by_first (Up b) r z (up_done me slot b p r0 r z d)
    word_done (Down b) r z d = word_by_first (Down b) r z (down_done me slot b p r0 r z d)
    word_done (Change a b) r z d = word_by_second a b r z (change_done me slot a b p r0 r z d)

    pub word_left : (x : Aim) (r : Memo) (f : UpFault) → Refused me x r0 r f → own_word r.own s ≡ own_word r0.own s
    word_left x r (EraSpent e) d = ap (λ (y : Memo). own_word y.own s) d.0
    word_left x r (CountFull b n) d = d.3.1.own s row ∙ cond-false _ _ _ redo

  -- ---- all

  -- what a step leaves, by whether it is done: the identity is between two calls, and the root holds v, or what it held
  pub record StepLeft (v : ℕ) (done : Bool) (r : Memo) : Type 0 where
    pub idle : IsIdle c r
    pub loose : is_loose r.part ≡ is_loose r0.part
    pub root : (j : ℕ) → root_word c r j ≡ cond (done && eqb k j) v (root_word c r0 j)

  idle_left : (r : Memo) → Kept r0 r → r.op ≡ op.Nothing → own_word r.own (spot.Hold c) ≡ own_word r0.own (spot.Hold c) → IsIdle c r0 → IsIdle c r
  idle_left r kept o hold idle = record { live = kept.status ∙ idle.live; op = o; making = kept.making ∙ idle.making; hold = hold ∙ (idle.hold ∙ sym (ap hold_word kept.latch)) }

  pub left_done : (x : Aim) (r : Memo) (z : Bool) → IsIdle c r0 → Done me slot x p r0 r z → StepLeft (value_after x) true r
  left_done x r z idle d =
      let kept = kept_done x r z d in
      record {
        idle = idle_left r kept (op_done x r z d) (word_done (spot.Hold c) refl refl refl x r z d) idle;
        loose = kept.loose;
        root = λ j. word_done (spot.Root c j) refl refl refl x r z d ∙ ap (λ y. cond (y && eqb k j) (value_after x) (root_word c r0 j)) (eq-eqb c c refl);
      }

  pub left_refused : (x : Aim) (v : ℕ) (r : Memo) (f : UpFault) → IsIdle c r0 → Refused me x r0 r f → StepLeft v false r
  left_refused x v r f idle d =
      let kept = kept_refused x r f d in
      record {
        idle = idle_left r kept (op_left x r f d ∙ idle.op) (word_left (spot.Hold c) refl refl refl x r f d) idle;
        loose = kept.loose;
        root = λ j. word_left (spot.Root c j) refl refl refl x r f d;
      }

  -- ---- the block whose count came to 0

  -- the store of the own era leaves the zero-count blocks
  closed_dying : (e : ℕ) (m : Memo) → (closed_memo me e m).dying ≡ m.dying
  closed_dying e m = closed_part (λ (y : Memo). y.dying) me e m (refl {a = m.dying})

  -- it joins the zero-count blocks
  dying_lowered : (n b : ℕ) (m : Memo) → n ≡ 0 → Contains (lowered n b m).dying b
  dying_lowered n b m e =
      subst (λ (xs : List ℕ). Contains xs b) (sym (ap (λ (y : Memo). y.dying) (cond-true (eqb n 0) (record m { dying = m.dying ++ b ∷ []; known = filter (not_of b) m.known }) m (eq-eqb n 0 e))))
      (Contains-push m.dying b)

  -- the new header of a block that had one reference shows none
  none_left : (x : Aim) (e : ℕ) (h : Half) (w : ℕ) → c < 64 → e < 2 ^ 47 → raises x h ≡ false → ((header_of w).count == 1) ≡ true → (header_of (header_after me x e h w)).count ≡ 0
  none_left x e h w l s down one =
      let count : (cond (raises x h) ((header_of w).count + 1) ((header_of w).count - 1)) ≡ 0 = cond-false _ _ _ down ∙ ap (λ n. n - 1) (eqb-true (header_of w).count 1 one) in
      let fits : HeaderFits (record { live = true; client = c; count = cond (raises x h) ((header_of w).count + 1) ((header_of w).count - 1); era = e }) = record { client = l; count = (let z = count in omega arith); era = s } in
      ap (λ (y : Header). y.count) (header_of-word _ fits) ∙ count

  pub dying_down : (b : ℕ) (r : Memo) → c < 64 → own_word r0.own (spot.Era c c) ≤ last_era (Down b) → Done me slot (Down b) p r0 r true → Contains r.dying b
  dying_down b r l room done =
      let d = down_done me slot b p r0 r true done in
      let n : ℕ = (header_of (header_after me (Down b) d.e First d.w)).count in
      let m : Memo = cut c p (reparted c (record d.q { op = op.Down Committed p b d.e; made = without_made d.q b }) p 0) in
      let small : d.e < 2 ^ 47 = (let y = d.at.0 in let u = room in omega arith) in
      subst (λ (xs : List ℕ). Contains xs b) (sym (ap (λ (y : Memo). y.dying) d.same ∙ closed_dying d.e (slot_memo me (Down b) p d.e d.q d.w)))
      (dying_lowered n b m (none_left (Down b) d.e First d.w l small refl (sym d.zero)))

  pub dying_change : (a b : ℕ) (r : Memo) → c < 64 → own_word r0.own (spot.Era c c) ≤ last_era (Change a b) → Done me slot (Change a b) p r0 r true → Contains r.dying a
  dying_change a b r l room done =
      let d = change_done me slot a b p r0 r true done in
      let n : ℕ = (header_of (header_after me (Change a b) (d.d + 1) Second d.w)).count in
      let m : Memo = cut c p (record d.q { op = op.Change (Lowering Closed) p a b (d.d + 1); made = without_made d.q a }) in
      let small : d.d + 1 < 2 ^ 47 = (let y = d.at.0 in let u = room in omega arith) in
      subst (λ (xs : List ℕ). Contains xs a) (sym (ap (λ (y : Memo). y.dying) d.same ∙ closed_dying (d.d + 1) (set_memo me (Change a b) p (d.d + 1) Second d.q d.w)))
      (dying_lowered n a m (none_left (Change a b) (d.d + 1) Second d.w l small refl (sym d.zero)))
