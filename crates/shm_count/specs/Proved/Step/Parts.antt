-- what a count step leaves of the memo's partition and of its map, and what a step up leaves at a word of a block: what is proved of it
use Rattle.std.proofs.Common.{◌≡◌, ℕ, ◌+◌, ◌≤◌, refl, sym, ap, ◌∙◌, arith, true, false, not, cond, eqb, ◌&&◌, List, [], ◌∷◌}
use Rattle.std.proofs.lemmas.Bool.{ne_eqb, eqb-false, not-true}
use Rattle.shm_words.specs.{Redos.first_word, Headers.header_of}
use Rattle.shm_graph.specs.declared.{ask.Me.Me, spot.Spot.Spot, memo.{Memo.Memo, First.TheVariants.Committed}}
use Rattle.shm_graph.specs.{declared.table.Entry.Entry, MemoAfterExchange.{reparted, cut, without_made}}
use Rattle.shm_graph.specs.{Ops.{is_op, slot_of}, Reach.{sifted, learnt}, Spots.same_spot}
use Rattle.shm_graph.specs.{MemoAfterStore.{written, making_with, with_own}, Views.own_word, Core.core}
use Rattle.shm_graph.specs.declared.spot.Spot.TheVariants as spot
use Rattle.shm_graph.specs.declared.memo.Op.TheVariants as op
use Rattle.shm_graph.proofs.{Spots.Spotting.same_spot_is, StepKinds.Loads.choice}
use Rattle.kind_parts.specs.Reparting.{sight, link_after}
use Rattle.kind_parts.proofs.MemoCommits.{known_lowered, lowered_is}
use Rattle.kind_laws.specs.HeaderExchanges.{dying_after}
use Rattle.shm_count.specs.declared.point.{Aim.{Aim, TheVariants.{Up, Down, Change}}, Half.TheVariants.First}
use Rattle.shm_count.specs.Step.Control.{redo_at, value_after, header_after}
use Rattle.shm_count.specs.Step.{AtFirst, is_row, begun, set_memo, slot_memo, Parts.{part_after, IsTableSpot, p}}
use Rattle.shm_count.specs.Lasting.{is_lasting}

-- a link of a chain is one, and so the word of each table step
link_spot : (d i : ℕ) (es : List Entry) → IsTableSpot (link_after d i es)
link_spot d i [] = tt
link_spot d i (e ∷ es) = link_spot e.block 0 es

-- ---- the memos of a step

module _ (me : Me) (q : Memo) (e w : ℕ) where
  -- the partition is set with the exchange of the first half
  set_part : (x : Aim) (p : Spot) → IsTableSpot p → (set_memo me x p e First q w).part ≡ part_after me.who (sight me.who q) p (value_after x)
  set_part (Up b) (spot.Home d) s = refl
  set_part (Up b) (spot.Body d i) s = refl
  set_part (Down b) (spot.Home d) s =
      let c = me.who in
      let p : Spot = spot.Home d in
      let m : Memo = cut c p (reparted c (record q { op = op.Down Committed p b e; made = without_made q b }) p 0) in
      let n : ℕ = (header_of (header_after me (Down b) e First w)).count in
      ap (λ (y : Memo). (sifted c y).part) {y = record m { dying = dying_after n b m.dying; known = known_lowered n b m.known }} (lowered_is n b m)
  set_part (Down b) (spot.Body d i) s =
      let c = me.who in
      let p : Spot = spot.Body d i in
      let m : Memo = cut c p (reparted c (record q { op = op.Down Committed p b e; made = without_made q b }) p 0) in
      let n : ℕ = (header_of (header_after me (Down b) e First w)).count in
      ap (λ (y : Memo). (sifted c y).part) {y = record m { dying = dying_after n b m.dying; known = known_lowered n b m.known }} (lowered_is n b m)
  set_part (Change a b) (spot.Home d) s = refl
  set_part (Change a b) (spot.Body d i) s = refl
  set_part x _ s = absurd s

  -- and stays with the store of the slot
  slot_part : (x : Aim) (p : Spot) → IsTableSpot p → (slot_memo me x p e q w).part ≡ part_after me.who (sight me.who q) p (value_after x)
  slot_part x (spot.Home d) s = set_part x (spot.Home d) s
  slot_part x (spot.Body d i) s =
      let m : Memo = set_memo me x (spot.Body d i) e First q w in
      choice (λ (y : Memo). y.part ≡ m.part) (is_op m.op && same_spot (slot_of m.op) (spot.Body d i)) (record (written m) { known = learnt (spot.Body d i) (value_after x) m.known })
      (record m { making = making_with me.geometry m.facts m.making d (spot.Body d i) (value_after x) }) (λ z. refl) (λ z. refl)
      ∙ set_part x (spot.Body d i) s
  slot_part x _ s = absurd s

-- what the memo shows of its partition at the exchange is as before
pub first_sight : (me : Me) (slot : ℕ) (x : Aim) (p : Spot) (r0 q : Memo) (e : ℕ) → AtFirst me slot x p r0 q e → sight me.who q ≡ sight me.who r0
first_sight me slot x p r0 q e first =
    let rest : core q ≡ core (record (begun me slot x p e r0) { own = q.own }) = first.1.rest in
    let home : own_word q.own (spot.Home me.who) ≡ own_word r0.own (spot.Home me.who) = first.1.own (spot.Home me.who) refl in
    λ i. record { known = (rest i).known; values = (rest i).values; part = (rest i).part; home = home i }

-- ---- the own words

-- a word that lasts is none of the own row, and not the own redo record
pub lasting_not : (c : ℕ) (p : Spot) → is_lasting c p ≡ true → (same_spot (spot.Era c c) p ≡ false) × (is_row c p ≡ false) × (same_spot (spot.Redo c) p ≡ false)
lasting_not c (spot.Redo j) e = (refl, refl, not-true (eqb c j) e)
lasting_not c (spot.Era j k) e =
    let other : eqb c j ≡ false = not-true (eqb c j) e in
    (ap (λ z. z && eqb c k) other, ap (λ z. z && not (eqb k c)) (ne_eqb j c (λ z. eqb-false c j other (sym z))), refl)
lasting_not c (spot.RedoMore j) e = (refl, ne_eqb j c (λ z. eqb-false c j (not-true (eqb c j) e) (sym z)), refl)
lasting_not c _ e = (refl, refl, refl)

module _ (me : Me) (slot : ℕ) (x : Aim) (p : Spot) (e : ℕ) (m q : Memo) (first : AtFirst me slot x p m q e) where
  -- an own word that lasts is what it was
  pub own_stays : (s : Spot) → is_lasting me.who s ≡ true → own_word (with_own q (spot.Era me.who me.who) (e + 1)).own s ≡ own_word m.own s
  own_stays s l =
      let not_it = lasting_not me.who s l in
      let began : own_word (begun me slot x p e m).own s ≡ own_word m.own s = ap (λ z. cond z (first_word me.geometry.wide (redo_at x slot e)) (own_word m.own s)) not_it.2 in
      ap (λ z. cond z (e + 1) (own_word q.own s)) not_it.0 ∙ (first.1.own s not_it.1 ∙ began)

  -- the words of the own row grow
  pub rows_grow : (j : ℕ) → own_word m.own (spot.Era me.who j) ≤ own_word (with_own q (spot.Era me.who me.who) (e + 1)).own (spot.Era me.who j)
  rows_grow j =
      let c = me.who in
      choice (λ y. own_word m.own (spot.Era c j) ≤ y) (same_spot (spot.Era c c) (spot.Era c j)) (e + 1) (own_word q.own (spot.Era c j))
      (λ z. let own : e ≡ own_word m.own (spot.Era c j) = first.0 ∙ ap (own_word m.own) (same_spot_is (spot.Era c c) (spot.Era c j) z) in omega arith)
      (λ z. first.1.more j)

-- ---- what any step at a word of a block leaves

-- an own word that lasts stays in the first half
pub first_own : (me : Me) (slot : ℕ) (x : Aim) (p : Spot) (m q : Memo) (e : ℕ) → AtFirst me slot x p m q e → (s : Spot) → is_lasting me.who s ≡ true → own_word q.own s ≡ own_word m.own s
first_own me slot x p m q e first s l =
    let not_it = lasting_not me.who s l in
    first.1.own s not_it.1 ∙ ap (λ z. cond z (first_word me.geometry.wide (redo_at x slot e)) (own_word m.own s)) not_it.2
