-- what each call of a mending leaves as it was
use Rattle.std.proofs.Common.{◌≡◌, ℕ, ◌+◌, ◌<◌, ◌≤◌, refl, sym, ap, ◌∙◌, subst, arith, Bool, true, false, cond, eqb, ◌&&◌, List, [], ◌∷◌, ◌++◌, inl, inr}
use Rattle.std.proofs.lemmas.Bool.{cond-false, eq-eqb, eqb-true, false≢true}
use Rattle.std.specs.Prelude.{◌⊎◌}
use Rattle.shm_graph.specs.{Bounds.redo_steps, declared.{ask.Me.Me, spot.Spot.Spot}}
use Rattle.shm_graph.specs.declared.memo.First.TheVariants.{Begun, Committed, Written}
use Rattle.shm_graph.specs.declared.memo.{Second.TheVariants.{Closed, Open}, Memo.Memo, Op.Op}
use Rattle.shm_graph.specs.declared.memo.Op.TheVariants.{Alloc, Change, Down, Nothing, Up}
use Rattle.shm_graph.specs.{declared.memo.ChangeStage.TheVariants.{Lowering, Raising}, Agents.recovers}
use Rattle.shm_graph.specs.{Asks.{Trail, IsWithin}, Blocks.classes, Core.core, Events.{ChangeDown, Event}}
use Rattle.shm_graph.specs.Held.{HeldAt, OpTie, is_loose}
use Rattle.shm_graph.specs.Ops.{IsUncommitted, On, Quiet, cover, cover_of, held_over_of, slot_of, word_at}
use Rattle.shm_graph.specs.{Reach.shown, References.words_of, Spots.same_spot}
use Rattle.shm_graph.specs.MemoAfterStore.{era_stored, is_lowering, op_closed, op_written, with_own, without_looks}
use Rattle.shm_graph.specs.Views.{own_word, owner_is, view}
use Rattle.shm_graph.specs.declared.spot.Spot.TheVariants as spot
use Rattle.shm_graph.specs.declared.memo.Status.TheVariants as status
use Rattle.shm_graph.proofs.Spots.Spotting.{same_spot_is}
use Rattle.kind_laws.specs.{OwnWords.Closes, Slotting.Writes}
use Rattle.plans.specs.Parts.{IsHeld}
use Rattle.kind_parts.specs.{Conditions.IsHere, Reparting.map_in}
use Rattle.shm_recover.specs.{MendLower.{IsLowered, MayLowerDead}, MendRest.{bare, is_hold, is_row}}
use Rattle.shm_recover.specs.MendUnlatch.{Unlatched}
use Rattle.shm_recover.specs.Mend.{HeldOver, IsDead, IsMended, IsMending, WasLost, dead, is_apart, is_name, slotted}
use Rattle.shm_recover.specs.Proved.Mend.Slots.{slotted_shown}

-- ---- words of other kinds

row_no_name : (c j : ℕ) (p : Spot) → is_name p ≡ true → same_spot (spot.Era c j) p ≡ false
row_no_name c j (spot.Era x y) e = absurd (cc)
row_no_name c j _ e = refl

row_not_apart : (c j : ℕ) (p : Spot) → is_apart p ≡ true → same_spot (spot.Era c j) p ≡ false
row_not_apart c j (spot.Era x y) e = absurd (cc)
row_not_apart c j _ e = refl

name_no_row : (p : Spot) → is_name p ≡ true → is_row p ≡ false
name_no_row (spot.Era x y) e = absurd (cc)
name_no_row _ e = refl

name_no_hold : (p : Spot) → is_name p ≡ true → is_hold p ≡ false
name_no_hold (spot.Hold x) e = absurd (cc)
name_no_hold _ e = refl

apart_no_row : (p : Spot) → is_apart p ≡ true → is_row p ≡ false
apart_no_row (spot.Era x y) e = absurd (cc)
apart_no_row _ e = refl

apart_no_hold : (p : Spot) → is_apart p ≡ true → is_hold p ≡ false
apart_no_hold (spot.Hold x) e = absurd (cc)
apart_no_hold _ e = refl

root_not_apart : (c k : ℕ) (p : Spot) → is_apart p ≡ true → same_spot (spot.Root c k) p ≡ false
root_not_apart c k (spot.Root x y) e = absurd (cc)
root_not_apart c k _ e = refl

home_not_apart : (c : ℕ) (p : Spot) → is_apart p ≡ true → same_spot (spot.Home c) p ≡ false
home_not_apart c (spot.Home x) e = absurd (cc)
home_not_apart c _ e = refl

-- ---- the status was stored, and only words were read since

pub dead_here : (me : Me) (r0 r : Memo) → IsMending me r0 r → IsHere r
dead_here me r0 r h =
    let is : r.status ≡ status.Dead = ap (λ (x : Memo). x.status) h.rest in
    record { joined = λ e. (let z : status.Dead ≡ status.New = sym is ∙ e in cc); stays = λ e. (let z : status.Dead ≡ status.Gone = sym is ∙ e in cc) }

-- a mending begins with the status
pub begun : (me : Me) (r0 r : Memo) (es : List Event) → IsDead me r0 r es → IsMending me r0 r × HeldOver me.who r0 r es
begun me r0 r es h = (
  record {
    may = h.may;
    recoverer = h.recoverer;
    rest = ap bare h.same;
    names = λ p name own. ap (λ (x : Memo). shown x p) h.same;
    apart = λ p other. ap (λ (x : Memo). own_word x.own p) h.same;
    rows = λ j. subst (λ (x : Memo). own_word r0.own (spot.Era me.who j) ≤ own_word x.own (spot.Era me.who j)) (sym h.same) (omega arith);
  },
  inl (h.none, ap (λ (x : Memo). x.dying) h.same, ap (λ (x : Memo). held_over_of x.op) h.same),
)

-- the reference that is held over is the same, and there was no event
pub held_still : (c : ℕ) (r0 rs r : Memo) (es ds : List Event) → r.dying ≡ rs.dying → held_over_of r.op ≡ held_over_of rs.op → ds ≡ [] → HeldOver c r0 rs es → HeldOver c r0 r (es ++ ds)
held_still c r0 rs r es ds dying over none (inl (quiet, same, held)) = inl (ap (λ (x : List Event). x ++ ds) quiet ∙ none, dying ∙ same, over ∙ held)
held_still c r0 rs r es ds dying over none (inr (event, some, held, left)) =
    inr (ap (λ (x : List Event). x ++ ds) event ∙ ap (λ (x : List Event). ChangeDown c (held_over_of r0.op) ∷ x) none, some, over ∙ held, subst (λ ds. (ds ≡ r0.dying) ⊎ (ds ≡ r0.dying ++ held_over_of r0.op ∷ [])) (sym dying) left)

-- ---- the slot was stored

slotted_bare : (m : Memo) (slot : Spot) (v : ℕ) → (bare (slotted m slot v) ≡ bare m) × ((slotted m slot v).dying ≡ m.dying) × ((slotted m slot v).op ≡ op_written m.op)
slotted_bare m (spot.Root c k) v = (refl, refl, refl)
slotted_bare m (spot.Home c) v = (refl, refl, refl)
slotted_bare m (spot.Body b i) v = (refl, refl, refl)
slotted_bare m _ v = (refl, refl, refl)

slotted_apart : (m : Memo) (slot : Spot) (v : ℕ) (p : Spot) → is_apart p ≡ true → own_word (slotted m slot v).own p ≡ own_word m.own p
slotted_apart m (spot.Root c k) v p e = cond-false (same_spot (spot.Root c k) p) v (own_word m.own p) (root_not_apart c k p e)
slotted_apart m (spot.Home c) v p e = cond-false (same_spot (spot.Home c) p) v (own_word m.own p) (home_not_apart c p e)
slotted_apart m (spot.Body b i) v p e = refl
slotted_apart m _ v p e = refl

pub slotted_row : (m : Memo) (slot : Spot) (v : ℕ) (i j : ℕ) → own_word (slotted m slot v).own (spot.Era i j) ≡ own_word m.own (spot.Era i j)
slotted_row m (spot.Root c k) v i j = refl
slotted_row m (spot.Home c) v i j = refl
slotted_row m (spot.Body b k) v i j = refl
slotted_row m _ v i j = refl

-- what is held over stays once the slot is stored
written_over : (o : Op) (v : ℕ) → Writes o (op_written o) v → held_over_of (op_written o) ≡ held_over_of o
written_over (Alloc s p b e) v h = refl
written_over (Up s p b e) v h = refl
written_over (Down s p b e) v h = refl
written_over (Change (Raising Begun) p a b e) v h = absurd h
written_over (Change (Raising Committed) p a b e) v h = refl
written_over (Change (Raising Written) p a b e) v h = refl
written_over (Change (Lowering s) p a b e) v h = absurd h
written_over Nothing v h = absurd h

module _ (me : Me) (r0 rs r : Memo) (v : ℕ) (left : core r ≡ core (slotted rs (slot_of rs.op) v)) (writes : Writes rs.op (op_written rs.op) v) where
  pub slot_op : r.op ≡ op_written rs.op
  slot_op = ap (λ (x : Memo). x.op) left ∙ (slotted_bare rs (slot_of rs.op) v).2

  pub slot_mending : recovers r ≡ true → IsMending me r0 rs → IsMending me r0 r
  slot_mending recoverer h =
      record {
        may = h.may;
        recoverer = recoverer;
        rest = ap bare left ∙ ((slotted_bare rs (slot_of rs.op) v).0 ∙ h.rest);
        names = λ p name own. ap (λ (x : Memo). shown x p) left ∙ (slotted_shown rs v p writes ∙ h.names p name own);
        apart = λ p other. ap (λ (x : Memo). own_word x.own p) left ∙ (slotted_apart rs (slot_of rs.op) v p other ∙ h.apart p other);
        rows = λ j. subst (λ z. own_word r0.own (spot.Era me.who j) ≤ z) (sym (ap (λ (x : Memo). own_word x.own (spot.Era me.who j)) left ∙ slotted_row rs (slot_of rs.op) v me.who j)) (h.rows j);
      }

  pub slot_over : (es ds : List Event) → ds ≡ [] → HeldOver me.who r0 rs es → HeldOver me.who r0 r (es ++ ds)
  slot_over es ds none h = held_still me.who r0 rs r es ds (ap (λ (x : Memo). x.dying) left ∙ (slotted_bare rs (slot_of rs.op) v).1) (ap held_over_of slot_op ∙ written_over rs.op v writes) none h

-- ---- the own era was stored

-- a word of its own that names a block is a word of the pool's
word_named : (wide : Bool) (w : Spot → ℕ) (p : Spot) → is_name p ≡ true → word_at (words_of wide w) p ≡ w p
word_named wide w (spot.Home c) e = refl
word_named wide w (spot.Root c k) e = refl
word_named wide w _ e = absurd (false≢true e)

-- a word that holds what covers it shows it
module _ (me : Me) (w : Spot → ℕ) (r : ℕ → Memo) (h : HeldAt me.geometry w (view r)) (l : me.who < me.geometry.clients) (p : Spot) (name : is_name p ≡ true) (mine : owner_is me.who p ≡ true) where
  covers_same : (q : Spot) (x : ℕ) → word_at (words_of me.geometry.wide w) q ≡ x → cover (On q x) p (own_word (r me.who).own p) ≡ own_word (r me.who).own p
  covers_same q x held = go (same_spot q p) (same_spot_is q p)
    where
      go : (z : Bool) → (z ≡ true → q ≡ p) → cond z x (own_word (r me.who).own p) ≡ own_word (r me.who).own p
      go true is = sym held ∙ (ap (word_at (words_of me.geometry.wide w)) (is refl) ∙ (word_named me.geometry.wide w p name ∙ sym (h.mine me.who l p mine)))
      go false is = refl

  closed_covers : (o : Op) (x : Op) → OpTie me.geometry (classes w) (w (spot.Redo me.who)) (w (spot.RedoMore me.who)) (w (spot.Era me.who me.who)) (words_of me.geometry.wide w) o → Closes o x → cover (cover_of o) p (own_word (r me.who).own p) ≡ own_word (r me.who).own p
  closed_covers (Alloc Written q b e) x tie c = covers_same q b tie.word
  closed_covers (Up Written q b e) x tie c = covers_same q b tie.word
  closed_covers (Down Written q b e) x tie c = covers_same q 0 tie.word
  closed_covers (Change (Raising Written) q a b e) x tie c = covers_same q b tie.word
  closed_covers (Change (Lowering Closed) q a b e) x tie c = refl
  closed_covers (Change (Lowering Open) q a b e) x tie c = absurd c
  closed_covers (Alloc Begun q b e) x tie c = absurd c
  closed_covers (Alloc Committed q b e) x tie c = absurd c
  closed_covers (Up Begun q b e) x tie c = absurd c
  closed_covers (Up Committed q b e) x tie c = absurd c
  closed_covers (Down Begun q b e) x tie c = absurd c
  closed_covers (Down Committed q b e) x tie c = absurd c
  closed_covers (Change (Raising Begun) q a b e) x tie c = absurd c
  closed_covers (Change (Raising Committed) q a b e) x tie c = absurd c
  closed_covers Nothing x tie c = absurd c

-- a step that is to be closed has all its words stored
closing_shown : (me : Me) (m : Memo) (o : Op) → IsHeld me m → me.who < me.geometry.clients → Closes m.op o → (p : Spot) → is_name p ≡ true → owner_is me.who p ≡ true → shown m p ≡ own_word m.own p
closing_shown me m o (w, r, h, same) l closes p name mine =
    subst (λ (x : Memo). Closes x.op o → shown x p ≡ own_word x.own p) same (λ c. closed_covers me w r h l p name mine (r me.who).op o (h.op me.who l) c) closes

-- once closed it covers nothing, and what it holds over it held over
closed_quiet : (o : Op) (v : ℕ) → Closes o (op_closed o v) → (cover_of (op_closed o v) ≡ Quiet) × (held_over_of (op_closed o v) ≡ held_over_of o)
closed_quiet (Alloc s q b e) v c = (refl, refl)
closed_quiet (Up s q b e) v c = (refl, refl)
closed_quiet (Down s q b e) v c = (refl, refl)
closed_quiet (Change (Raising Written) q a b e) v c = (refl, refl)
closed_quiet (Change (Raising Begun) q a b e) v c = absurd c
closed_quiet (Change (Raising Committed) q a b e) v c = absurd c
closed_quiet (Change (Lowering Closed) q a b e) v c = (refl, refl)
closed_quiet (Change (Lowering Open) q a b e) v c = absurd c
closed_quiet Nothing v c = absurd c

-- the memo after it
pub record IsEraStored (c v : ℕ) (m x : Memo) : Type 0 where
  pub rest : bare x ≡ bare m
  pub own : x.own ≡ (with_own m (spot.Era c c) v).own
  pub op : x.op ≡ op_closed m.op v
  pub dying : x.dying ≡ m.dying

era_is_stored : (c v : ℕ) (m : Memo) → IsEraStored c v m (era_stored c m (spot.Era c c) v)
era_is_stored c v m = go (is_lowering m.op)
  where
    n : Memo
    n = record (with_own m (spot.Era c c) v) { op = op_closed m.op v }

    go : (q : Bool) → IsEraStored c v m (cond q (without_looks c n) n)
    go true = record { rest = refl; own = refl; op = refl; dying = refl }
    go false = record { rest = refl; own = refl; op = refl; dying = refl }

module _ (me : Me) (r0 rs r : Memo) (v : ℕ) (left : core r ≡ core (era_stored me.who rs (spot.Era me.who me.who) v)) (closes : Closes rs.op (op_closed rs.op v)) where
  abbrev c : ℕ
  c = me.who

  stored : IsEraStored c v rs (era_stored c rs (spot.Era c c) v)
  stored = era_is_stored c v rs

  pub era_op : r.op ≡ op_closed rs.op v
  era_op = ap (λ (x : Memo). x.op) left ∙ stored.op

  own_at : (p : Spot) → own_word r.own p ≡ cond (same_spot (spot.Era c c) p) v (own_word rs.own p)
  own_at p = ap (λ ws. own_word ws p) (ap (λ (x : Memo). x.own) left ∙ stored.own)

  pub era_own : own_word r.own (spot.Era c c) ≡ v
  era_own = own_at (spot.Era c c) ∙ (ap (λ z. cond (z && z) v (own_word rs.own (spot.Era c c))) (eq-eqb c c refl))

  raised : (j : ℕ) → own_word rs.own (spot.Era c c) ≤ v → own_word rs.own (spot.Era c j) ≤ cond (same_spot (spot.Era c c) (spot.Era c j)) v (own_word rs.own (spot.Era c j))
  raised j more = go (eqb c c && eqb c j) (eqb c j) (eqb-true c j) (ap (λ z. z && eqb c j) (eq-eqb c c refl))
    where
      go : (z q : Bool) → (q ≡ true → c ≡ j) → z ≡ q → own_word rs.own (spot.Era c j) ≤ cond z v (own_word rs.own (spot.Era c j))
      go true true is e = subst (λ i. own_word rs.own (spot.Era c i) ≤ v) (is refl) more
      go true false is e = absurd (cc)
      go false q is e = omega arith

  pub era_mending : IsHeld me rs → own_word rs.own (spot.Era c c) ≤ v → recovers r ≡ true → IsMending me r0 rs → IsMending me r0 r
  era_mending held more recoverer h =
      record {
        may = h.may;
        recoverer = recoverer;
        rest = ap bare left ∙ (stored.rest ∙ h.rest);
        names = λ p name own.
            ap (λ o. cover o p (own_word r.own p)) (ap cover_of era_op ∙ (closed_quiet rs.op v closes).0)
            ∙ (own_at p ∙ (cond-false (same_spot (spot.Era c c) p) v (own_word rs.own p) (row_no_name c c p name) ∙ (sym (closing_shown me rs (op_closed rs.op v) held h.may.who closes p name own) ∙ h.names p name own)));
        apart = λ p other. own_at p ∙ (cond-false (same_spot (spot.Era c c) p) v (own_word rs.own p) (row_not_apart c c p other) ∙ h.apart p other);
        rows = λ j. (let x = h.rows j in let y = raised j more in let z = own_at (spot.Era c j) in omega arith);
      }

  pub era_over : (es ds : List Event) → ds ≡ [] → HeldOver c r0 rs es → HeldOver c r0 r (es ++ ds)
  era_over es ds none h = held_still c r0 rs r es ds (ap (λ (x : Memo). x.dying) left ∙ stored.dying) (ap held_over_of era_op ∙ (closed_quiet rs.op v closes).1) none h

-- ---- the second half of a change was made

module _ (me : Me) (r0 rs r : Memo) (a e : ℕ) (es ds : List Event) (t : Trail) (may : MayLowerDead me a e rs) (g : IsLowered me a e rs r t ds) where
  pub lower_mending : recovers r ≡ true → IsMending me r0 rs → IsMending me r0 r
  lower_mending recoverer h =
      record {
        may = h.may;
        recoverer = recoverer;
        rest = g.rest ∙ h.rest;
        names = λ p name own.
            ap (λ o. cover (cover_of o) p (own_word r.own p)) g.op
            ∙ (g.own p (name_no_row p name) ∙ (sym (ap (λ o. cover (cover_of o) p (own_word rs.own p)) may.op) ∙ h.names p name own));
        apart = λ p other. g.own p (apart_no_row p other) ∙ h.apart p other;
        rows = λ j. (let x = h.rows j in let y = g.rows j in omega arith);
      }

  over_is : held_over_of rs.op ≡ a
  over_is = ap held_over_of may.op

  pub lower_over : HeldOver me.who r0 rs es → HeldOver me.who r0 r (es ++ ds)
  lower_over (inl (quiet, same, held)) =
      let was : a ≡ held_over_of r0.op = sym over_is ∙ held in
      inr (
        ap (λ (x : List Event). x ++ ds) quiet ∙ (g.events ∙ ap (λ b. ChangeDown me.who b ∷ []) was),
        (λ z. let low = may.inside.0 in let y = was in absurd (omega arith)),
        ap held_over_of g.op,
        subst (λ b. (r.dying ≡ r0.dying) ⊎ (r.dying ≡ r0.dying ++ b ∷ [])) was (subst (λ bs. (r.dying ≡ bs) ⊎ (r.dying ≡ bs ++ a ∷ [])) same g.dying),
      )
  lower_over (inr (event, some, held, left)) = absurd (let low = may.inside.0 in let y = sym over_is ∙ held in omega arith)

-- ---- the latch was given back

uncommitted : (o : Op) → IsUncommitted o → (cover_of o ≡ Quiet) × (held_over_of o ≡ 0)
uncommitted Nothing u = (refl, refl)
uncommitted (Alloc Begun p b e) u = (refl, refl)
uncommitted (Up Begun p b e) u = (refl, refl)
uncommitted (Down Begun p b e) u = (refl, refl)
uncommitted (Change (Raising Begun) p a b e) u = (refl, refl)
uncommitted (Alloc Committed p b e) u = absurd u
uncommitted (Alloc Written p b e) u = absurd u
uncommitted (Up Committed p b e) u = absurd u
uncommitted (Up Written p b e) u = absurd u
uncommitted (Down Committed p b e) u = absurd u
uncommitted (Down Written p b e) u = absurd u
uncommitted (Change (Raising Committed) p a b e) u = absurd u
uncommitted (Change (Raising Written) p a b e) u = absurd u
uncommitted (Change (Lowering s) p a b e) u = absurd u

-- what became of the reference that was held over
lost : (c : ℕ) (r0 rs r : Memo) (es ds : List Event) → ds ≡ [] → r.dying ≡ rs.dying → held_over_of rs.op ≡ 0 → HeldOver c r0 rs es → WasLost c r0 r (es ++ ds)
lost c r0 rs r es ds none dying over (inl (quiet, same, held)) = inl (sym held ∙ over, ap (λ (x : List Event). x ++ ds) quiet ∙ none, dying ∙ same)
lost c r0 rs r es ds none dying over (inr (event, some, held, left)) =
    inr (some, ap (λ (x : List Event). x ++ ds) event ∙ ap (λ (x : List Event). ChangeDown c (held_over_of r0.op) ∷ x) none, subst (λ ds. (ds ≡ r0.dying) ⊎ (ds ≡ r0.dying ++ held_over_of r0.op ∷ [])) (sym dying) left)

one_event : (c : ℕ) (r0 r : Memo) (es : List Event) → WasLost c r0 r es → (es ≡ []) ⊎ ((a : ℕ) × (es ≡ ChangeDown c a ∷ []))
one_event c r0 r es (inl (none, quiet, same)) = inl quiet
one_event c r0 r es (inr (some, event, left)) = inr (held_over_of r0.op, event)

pub mended : (me : Me) (r0 rs r : Memo) (tr t : Trail) (es ds : List Event) → IsMending me r0 rs → HeldOver me.who r0 rs es → IsUncommitted rs.op → Unlatched me rs r t ds → recovers r ≡ true → IsWithin (me.geometry.clients + 13 + redo_steps me.geometry.wide) (tr ++ t) → IsMended me r0 r (tr ++ t) (es ++ ds)
mended me r0 rs r tr t es ds h over ended g recoverer bound =
    let rest : bare r ≡ bare (dead r0) = g.rest ∙ h.rest in
    let was : WasLost me.who r0 r (es ++ ds) = lost me.who r0 rs r es ds g.none g.dying (uncommitted rs.op ended).1 over in
    record {
      status = ap (λ (x : Memo). x.status) rest;
      op = g.op;
      latch = g.latch;
      hold = g.hold;
      making = ap (λ (x : Memo). x.making) rest;
      recoverer = recoverer;
      sent = ap (λ (x : Memo). x.sent) rest;
      received = ap (λ (x : Memo). x.received) rest;
      unsent = ap (λ (x : Memo). x.unsent) rest;
      untaken = ap (λ (x : Memo). x.untaken) rest;
      owned = ap (λ (x : Memo). x.owned) rest;
      loose = ap (λ (x : Memo). is_loose x.part) rest;
      map = ap (λ (x : Memo). map_in x.part) rest;
      names = λ p name own. g.own p (name_no_hold p name) ∙ (sym (ap (λ o. cover o p (own_word rs.own p)) (uncommitted rs.op ended).0) ∙ h.names p name own);
      apart = λ p other. g.own p (apart_no_hold p other) ∙ h.apart p other;
      rows = λ j. (let x = h.rows j in let y = g.own (spot.Era me.who j) refl in omega arith);
      lost = was;
      events = one_event me.who r0 r (es ++ ds) was;
      bound = bound;
    }
