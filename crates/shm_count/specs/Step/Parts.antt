-- what a count step leaves of the memo's partition and of its map, and what a step up leaves at a word of a block
use Rattle.std.proofs.Common.{◌≡◌, ℕ, ◌≤◌, refl, sym, ap, ◌∙◌, subst, true, Option, List, []}
use Rattle.shm_words.specs.Headers.{header_of}
use Rattle.shm_graph.specs.declared.{ask.Me.Me, spot.Spot.Spot, memo.{Memo.Memo, First.TheVariants.Committed, Op.Op}}
use Rattle.shm_graph.specs.declared.{memo.{Status.Status as AStatus, Making.Making}, table.Part.Part as TablePart}
use Rattle.shm_graph.specs.{Chains.part_set, MemoAfterExchange.{reparted, cut, without_made}}
use Rattle.shm_graph.specs.{Ops.{On, cover, is_op, slot_of}, Reach.{sifted, learnt}, MemoAfterStore.written}
use Rattle.shm_graph.specs.{Views.own_word, Core.core}
use Rattle.shm_graph.specs.declared.spot.Spot.TheVariants as spot
use Rattle.shm_graph.specs.declared.memo.Op.TheVariants as op
use Rattle.kind_parts.specs.Reparting.{Sight, sight}
use Rattle.kind_parts.proofs.{MemoCommits.{known_lowered, lowered_is}, Cores.{body_word, HasSlot}}
use Rattle.kind_laws.specs.HeaderExchanges.{dying_after}
use Rattle.shm_count.specs.declared.point.{Aim.{Aim, TheVariants.{Up, Down, Change}}, Half.TheVariants.First}
use Rattle.shm_count.specs.{Step.{Control.{value_after, header_after}, set_memo, slot_memo}, Proved.Step.Cores.is_set}
use Rattle.shm_count.specs.Lasting.{is_lasting}

-- the partition after a step at a word, as the memo's change computes it
abbrev pub part_after : ℕ → Sight → Spot → ℕ → TablePart
part_after c s p x = part_set s.known c (cover (On p x) (spot.Home c) s.home) p x s.part

-- a word that a partition may be read from
abbrev pub IsTableSpot : Spot → Type 0
IsTableSpot (spot.Home d) = Unit {0}
IsTableSpot (spot.Body b i) = Unit {0}
IsTableSpot p = ⊥

-- ---- a step up at a word of a block

-- it leaves the word known, the partition as the memo's change computes it, and all else of the memo but the redo record and the own row
pub record Raised (c : ℕ) (p : Spot) (b : ℕ) (m r : Memo) : Type 0 where
  pub rest : core r ≡ core (record m { own = r.own; known = learnt p b m.known; part = part_after c (sight c m) p b })
  pub own : (s : Spot) → is_lasting c s ≡ true → own_word r.own s ≡ own_word m.own s
  pub rows : (j : ℕ) → own_word m.own (spot.Era c j) ≤ own_word r.own (spot.Era c j)

-- ---- what any step at a word of a block leaves

-- no step is in progress, and the status, the latch, what is prepared, the segments and the own words but the redo record and the own row are as before
pub record StepStays (c : ℕ) (m r : Memo) : Type 0 where
  pub status : r.status ≡ m.status
  pub op : r.op ≡ op.Nothing
  pub latch : r.latch ≡ m.latch
  pub making : r.making ≡ m.making
  pub owned : r.owned ≡ m.owned
  pub own : (s : Spot) → is_lasting c s ≡ true → own_word r.own s ≡ own_word m.own s

-- those of them that no count step changes
abbrev Rest : Type 0
Rest = AStatus × Option ℕ × Option Making × List ℕ

abbrev rest_of : Memo → Rest
rest_of m = (m.status, m.latch, m.making, m.owned)

module _ (me : Me) (q : Memo) (e w d i : ℕ) where
  abbrev pub p : Spot
  p = spot.Body d i

  -- the exchange of the first half leaves them, and the own words
  set_rest : (x : Aim) → (rest_of (set_memo me x p e First q w) ≡ rest_of q) × ((set_memo me x p e First q w).own ≡ q.own)
  set_rest (Up b) = (refl, refl)
  set_rest (Down b) =
      let c = me.who in
      let m : Memo = cut c p (reparted c (record q { op = op.Down Committed p b e; made = without_made q b }) p 0) in
      let n : ℕ = (header_of (header_after me (Down b) e First w)).count in
      let f : Memo = record m { dying = dying_after n b m.dying; known = known_lowered n b m.known } in
      (ap (λ (y : Memo). rest_of (sifted c y)) {y = f} (lowered_is n b m), ap (λ (y : Memo). (sifted c y).own) {y = f} (lowered_is n b m))
  set_rest (Change a b) = (refl, refl)

  -- so does the store of the slot
  slot_rest : (x : Aim) → (rest_of (slot_memo me x p e q w) ≡ rest_of q) × ((slot_memo me x p e q w).own ≡ q.own)
  slot_rest x =
      let n : Memo = set_memo me x p e First q w in
      let f : Memo = record (written n) { known = learnt p (value_after x) n.known } in
      let stored : ◌≡◌ {A = Memo} (slot_memo me x p e q w) f = body_word me.geometry me.who d i (value_after x) n (has x) in
      let s = set_rest x in
      (ap rest_of {y = f} stored ∙ s.0, ap (λ (y : Memo). y.own) {y = f} stored ∙ s.1)
    where
      has : (x : Aim) → HasSlot (set_memo me x p e First q w) p
      has (Up b) = (refl, refl)
      has (Down b) = subst (λ (o : Op). (is_op o ≡ true) × (slot_of o ≡ p)) (sym (is_set me (Down b) p e First q w tt).op) (refl, refl)
      has (Change a b) = (refl, refl)
