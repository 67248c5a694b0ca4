-- what a held state shows of the step that a commit test is of
use Rattle.std.proofs.Common.{◌≡◌, ◌≢◌, ℕ, ◌+◌, ◌%◌, ◌<◌, ◌≤◌, refl, sym, ap, ◌∙◌, subst, arith, Bool, true, false, not, cond, eqb, inl, inr}
use Rattle.std.proofs.lemmas.{Bool.{and_parts, eq-eqb, eqb-false, eqb-true, ne_eqb}, List.Elements.All-contains}
use Rattle.std.specs.{Prelude.{Option, Some, None}, List.Contains}
use Rattle.shm_words.specs.{declared.{geometry.Geometry.Geometry, redo.Redo.Redo as ARedo}, Headers.header_of}
use Rattle.shm_words.specs.Redos.{redo_of}
use Rattle.shm_words.specs.declared.redo.Redo.TheVariants as redos
use Rattle.shm_graph.specs.declared.{ask.Me.Me, spot.Spot.Spot}
use Rattle.shm_graph.specs.declared.spot.Spot.TheVariants.{Era, Head, Page, QueueHead, Redo, RedoMore, Spare, Tail}
use Rattle.shm_graph.specs.declared.memo.{Fact.TheVariants.Counter, First.First}
use Rattle.shm_graph.specs.declared.memo.{First.TheVariants.{Begun, Committed, Written}, Second.Second}
use Rattle.shm_graph.specs.declared.memo.Second.TheVariants.{Closed, Open}
use Rattle.shm_graph.specs.declared.memo.{ChangeStage.TheVariants.{Lowering, Raising}, Memo.Memo, Op.Op}
use Rattle.shm_graph.specs.{declared.memo.Op.TheVariants.{Alloc, Change, Down, Nothing, Up}, Blocks.{IsBlock, classes}}
use Rattle.shm_graph.specs.{Held.{MayName, IsBefore, FactAt, HeldAt, OpTie, TestAt, odd}, Ops.{on_from, on_of, on_till}}
use Rattle.shm_graph.specs.{References.{Words, words_of}, Views.{ons, own_word, view}}
use Rattle.shm_graph.proofs.{Spots.Spotting.in_pool, States.RedoNames.may_name}
use Rattle.shm_count.specs.CommitTest.{record_in, step_block, Control.{is_first_half, is_shown}}

-- ---- the block on which a step is committed is the one that the redo record names

from_is : (s : First) (d b : ℕ) → on_from s d ≡ Some b → ◌≡◌ {A = Option ℕ} (Some d) (Some b)
from_is Begun d b e = absurd (cc)
from_is Committed d b e = e
from_is Written d b e = e

till_is : (s : Second) (d b : ℕ) → on_till s d ≡ Some b → ◌≡◌ {A = Option ℕ} (Some d) (Some b)
till_is Open d b e = absurd (cc)
till_is Closed d b e = e

pub itself : (q : Bool) → cond q q (not q) ≡ true
itself true = refl
itself false = refl

pub opposite : (q : Bool) → cond (not q) q (not q) ≡ false
opposite true = refl
opposite false = refl

-- one era on the parity is the other one
pub odd_next : (e : ℕ) → odd (e + 1) ≡ not (odd e)
odd_next e = go (eqb (e % 2) 1) (eqb-true (e % 2) 1) (eqb-false (e % 2) 1)
  where
    go : (q : Bool) → (q ≡ true → e % 2 ≡ 1) → (q ≡ false → e % 2 ≢ 1) → eqb ((e + 1) % 2) 1 ≡ not q
    go true is other = let x = is refl in ne_eqb ((e + 1) % 2) 1 (omega arith)
    go false is other = let x = other refl in eq-eqb ((e + 1) % 2) 1 (omega arith)

named_by : (g : Geometry) (class : ℕ → ℕ → ℕ) (redo more own : ℕ) (x : Words) (o : Op) (b : ℕ) → OpTie g class redo more own x o → on_of o ≡ Some b → step_block (redo_of g.wide redo more) own ≡ Some b
named_by g class redo more own x Nothing b tie on = absurd (cc)
named_by g class redo more own x (Alloc s p d e) b tie on = ap (λ r. step_block r own) tie.spelled ∙ from_is s d b on
named_by g class redo more own x (Up s p d e) b tie on = ap (λ r. step_block r own) tie.spelled ∙ from_is s d b on
named_by g class redo more own x (Down s p d e) b tie on = ap (λ r. step_block r own) tie.spelled ∙ from_is s d b on
named_by g class redo more own x (Change (Raising s) p a d e) b tie on =
    ap (λ r. step_block r own) tie.spelled
    ∙ (ap (λ z. Some (cond (is_first_half (odd e) z) d a)) (sym tie.current) ∙ (ap (λ q. Some (cond q d a)) (itself (odd e)) ∙ from_is s d b on))
named_by g class redo more own x (Change (Lowering s) p a d e) b tie on =
    ap (λ r. step_block r own) tie.spelled
    ∙ (ap (λ z. Some (cond (is_first_half (odd (e + 1)) z) d a)) (sym tie.current)
    ∙ (ap (λ z. Some (cond (cond z (odd e) (not (odd e))) d a)) (odd_next e) ∙ (ap (λ q. Some (cond q d a)) (opposite (odd e)) ∙ till_is s a b on)))

-- a step in progress names blocks, and none of them is 0
block_some : (g : Geometry) (class : ℕ → ℕ → ℕ) (b : ℕ) → IsBlock g class b → b ≢ 0
block_some g class b is e = let q = in_pool g class b (Head b) is (λ z. cc) in absurd (omega arith)

on_block : (g : Geometry) (class : ℕ → ℕ → ℕ) (redo more own : ℕ) (x : Words) (o : Op) (b : ℕ) → OpTie g class redo more own x o → on_of o ≡ Some b → b ≢ 0
on_block g class redo more own x Nothing b tie on = absurd (cc)
on_block g class redo more own x (Alloc s p d e) b tie on = let same : d ≡ b = (let i = from_is s d b on in cc) in subst (λ z. z ≢ 0) same (block_some g class d tie.blocks)
on_block g class redo more own x (Up s p d e) b tie on = let same : d ≡ b = (let i = from_is s d b on in cc) in subst (λ z. z ≢ 0) same (block_some g class d tie.blocks)
on_block g class redo more own x (Down s p d e) b tie on = let same : d ≡ b = (let i = from_is s d b on in cc) in subst (λ z. z ≢ 0) same (block_some g class d tie.blocks)
on_block g class redo more own x (Change (Raising s) p a d e) b tie on = let same : d ≡ b = (let i = from_is s d b on in cc) in subst (λ z. z ≢ 0) same (block_some g class d tie.blocks.1)
on_block g class redo more own x (Change (Lowering s) p a d e) b tie on = let same : a ≡ b = (let i = till_is s a b on in cc) in subst (λ z. z ≢ 0) same (block_some g class a tie.blocks.0)

-- the block that the redo record names is a block, or in format 2 it is 0, while its words are of two records
pub step_is_block : (g : Geometry) (class : ℕ → ℕ → ℕ) (r : ARedo) (e b : ℕ) → MayName g class r → b ≢ 0 → step_block (Some r) e ≡ Some b → IsBlock g class b
step_is_block g class redos.Idle e b names some is = absurd (cc)
step_is_block g class (redos.Up p d) e b names some is = let same : d ≡ b = cc in subst (IsBlock g class) same names
step_is_block g class (redos.Down p d) e b names some is = let same : d ≡ b = cc in before names same
  where
    before : IsBefore g class d → d ≡ b → IsBlock g class b
    before (inl z) same = absurd (some (sym same ∙ z.1))
    before (inr n) same = subst (IsBlock g class) same n
step_is_block g class (redos.Change parity p a d) e b names some is = go (is_first_half parity e) is
  where
    before : IsBefore g class a → a ≡ b → IsBlock g class b
    before (inl z) same = absurd (some (sym same ∙ z.1))
    before (inr n) same = subst (IsBlock g class) same n

    go : (q : Bool) → ◌≡◌ {A = Option ℕ} (Some (cond q d a)) (Some b) → IsBlock g class b
    go true same = let i : d ≡ b = cc in subst (IsBlock g class) i names.1
    go false same = let i : a ≡ b = cc in before names.0 i

-- the word of a free block shows no era
free_era : (n : ℕ) → n ≡ 0 → (header_of n).era ≡ 0
unfolding header_of
free_era n e = omega arith

module _ (me : Me) (w : Spot → ℕ) (r : ℕ → Memo) (h : HeldAt me.geometry w (view r)) (l : me.who < me.geometry.clients) where
  abbrev c : ℕ
  c = me.who

  abbrev own : ℕ
  own = w (Era me.who me.who)

  own_era : own_word (r c).own (Era c c) ≡ own
  own_era = h.mine c l (Era c c) (eq-eqb c c refl)

  own_redo : own_word (r c).own (Redo c) ≡ w (Redo c)
  own_redo = h.mine c l (Redo c) (eq-eqb c c refl)

  own_more : own_word (r c).own (RedoMore c) ≡ w (RedoMore c)
  own_more = h.mine c l (RedoMore c) (eq-eqb c c refl)

  record_is : record_in me (r c) ≡ redo_of me.geometry.wide (w (Redo c)) (w (RedoMore c))
  record_is = ap (λ z. redo_of me.geometry.wide z (own_word (r c).own (RedoMore c))) own_redo ∙ ap (redo_of me.geometry.wide (w (Redo c))) own_more

  -- a step that is committed on any block is committed on the one that is named
  named_here : (b d : ℕ) → step_block (record_in me (r c)) (own_word (r c).own (Era c c)) ≡ Some b → on_of (r c).op ≡ Some d → on_of (r c).op ≡ Some b
  named_here b d named on =
      let is = named_by me.geometry (classes w) (w (Redo c)) (w (RedoMore c)) own (words_of me.geometry.wide w) (r c).op d (h.op c l) on in
      let there : step_block (redo_of me.geometry.wide (w (Redo c)) (w (RedoMore c))) own ≡ Some b = ap (λ z. step_block z own) (sym record_is) ∙ (ap (step_block (record_in me (r c))) (sym own_era) ∙ named) in
      on ∙ (sym is ∙ there)

  pub block_here : (b e : ℕ) → b ≢ 0 → step_block (record_in me (r c)) e ≡ Some b → IsBlock me.geometry (classes w) b
  block_here b e some named = go (redo_of me.geometry.wide (w (Redo c)) (w (RedoMore c))) refl (ap (λ z. step_block z e) (sym record_is) ∙ named)
    where
      go : (o : Option ARedo) → redo_of me.geometry.wide (w (Redo c)) (w (RedoMore c)) ≡ o → step_block o e ≡ Some b → IsBlock me.geometry (classes w) b
      go None spelled is = absurd (cc)
      go (Some x) spelled is = step_is_block me.geometry (classes w) x e b (may_name me.geometry (classes w) (w (Redo c)) (w (RedoMore c)) x (h.redo c l) spelled) some is

  -- word 0 shows no era
  pub spare_hidden : is_shown c (own_word (r c).own (Era c c)) (w Spare) ≡ true → ⊥
  spare_hidden shown =
      let era : (header_of (w Spare)).era ≡ own = eqb-true _ _ (and_parts _ _ shown).1 ∙ own_era in
      let none = free_era (w Spare) h.spare in
      let some = (h.own c l).some in
      omega arith

  -- and no step is committed on it
  pub none_there : on_of (r c).op ≢ Some 0
  none_there on = on_block me.geometry (classes w) (w (Redo c)) (w (RedoMore c)) own (words_of me.geometry.wide w) (r c).op 0 (h.op c l) on refl

  -- a header that shows the own era is live
  shown_live : (b : ℕ) → (header_of (w (Head b))).era ≡ own → (header_of (w (Head b))).live ≡ true
  shown_live b is = go (header_of (w (Head b))).live refl
    where
      go : (q : Bool) → (header_of (w (Head b))).live ≡ q → (header_of (w (Head b))).live ≡ true
      go true e = e
      go false e = let none = free_era (w (Head b)) (h.blocks.plain b e) in let some = (h.own c l).some in absurd (omega arith)

  -- so the step is committed on the block that is named
  pub by_header : (b d : ℕ) → step_block (record_in me (r c)) (own_word (r c).own (Era c c)) ≡ Some b → is_shown c (own_word (r c).own (Era c c)) (w (Head d)) ≡ true → on_of (r c).op ≡ Some b
  by_header b d named shown =
      let parts = and_parts _ _ shown in
      let client = eqb-true _ _ parts.0 in
      let era : (header_of (w (Head d))).era ≡ own = eqb-true _ _ parts.1 ∙ own_era in
      let seen = h.era.header d (shown_live d era) in
      named_here b d named (subst (λ j. ons (view r) j ≡ Some d) client (seen.equal (era ∙ ap (λ j. w (Era j j)) (sym client))))

  -- and so it is where a row of another that was read shows the own era
  pub by_row : (b k n : ℕ) → step_block (record_in me (r c)) (own_word (r c).own (Era c c)) ≡ Some b → k < me.geometry.clients → k ≢ c → Contains (r c).facts (Counter (Era k c) n) → own_word (r c).own (Era c c) ≤ n → on_of (r c).op ≡ Some b
  by_row b k n named low other has most =
      let read : n ≤ w (Era k c) = All-contains (FactAt me.geometry.clients (λ i j. w (Era i j)) (ons (view r)) (λ s i. w (Tail s i)) (λ s i. w (QueueHead s i)) (λ s q. w (Page s q))) (r c).facts (Counter (Era k c) n) (h.facts c l) has in
      let bound = h.era.row k c low l other in
      let above = bound.most in
      let mine = own_era in
      let on = bound.equal (omega arith) in
      named_here b on.0 named on.1

  -- once no row is left to be read it isn't committed there
  pub by_none : (b n : ℕ) → (r c).test ≡ Some (record { block = b; next = n }) → ((k : ℕ) → n ≤ k → k < me.geometry.clients → k ≡ c) → on_of (r c).op ≢ Some b
  by_none b n stands none on =
      let tie = subst (TestAt me.geometry.clients (λ i j. w (Era i j)) (ons (view r) c) c) stands (h.test c l) in
      let row = tie on in
      row.3 (none row.0 row.1 row.2)
