-- zero-count blocks of the memo, and the spots of stores into blocks while no step is in progress
use Rattle.std.proofs.Common.{◌≡◌, ◌≢◌, ℕ, ◌+◌, ◌-◌, ◌<◌, refl, sym, ap, ◌∙◌, arith, true, false, eqb, eq-eqb, ◌&&◌, List, [], ◌∷◌, Option, inl, inr}
use Rattle.std.proofs.Math.Bool.{and-false}
use Rattle.std.proofs.lemmas.Bool.{cases_Bool, and_parts, cond-true, cond-false, eqb-true, ne_eqb, false_from_ne_true}
use Rattle.std.proofs.lemmas.{Cmp.nat_eq_equiv, List.Elements.{All-head, All-tail}}
use Rattle.std.proofs.lemmas.Map.Views.{Contains-from_any, list_any-from_Contains}
use Rattle.std.specs.List.{All, Contains}
use Rattle.shm_words.specs.declared.geometry.Geometry.{Geometry}
use Rattle.shm_graph.specs.declared.{spot.Spot.{Spot, TheVariants.{Head, Tag, Body}}, memo.Op.TheVariants.Nothing}
use Rattle.shm_graph.specs.{declared.memo.{Fact.{Fact, TheVariants.Class}, Memo.Memo}, Spots.spot_at}
use Rattle.shm_graph.specs.{Blocks.{classes, IsBlock}, Views.view, Held.{HeldAt, FactAt}, Ops.cover_of, Reach.is_dying}
use Rattle.shm_graph.specs.{MemoAfterStore.class_read, Telling.{is_slot_at, stored_told, prepared, word_of_block}}
use Rattle.shm_graph.proofs.{States.Holders.held_live_block, Spots.Spotting.{tag_block, body_block}}

-- ---- zero-count blocks

-- one that is listed is found
pub dying_true : (m : Memo) (b : ℕ) → Contains m.dying b → is_dying m b ≡ true
dying_true m b x = list_any-from_Contains nat_eq_equiv b m.dying x

-- and one that is found is listed
pub dying_listed : (m : Memo) (b : ℕ) → is_dying m b ≡ true → Contains m.dying b
dying_listed m b e = Contains-from_any eqb-true b m.dying e

-- one that isn't listed isn't found
pub dying_false : (m : Memo) (b : ℕ) → (Contains m.dying b → ⊥) → is_dying m b ≡ false
dying_false m b n = false_from_ne_true _ (λ e. n (dying_listed m b e))

-- they are blocks
pub dying_block : (g : Geometry) (w : Spot → ℕ) (r : ℕ → Memo) (c b : ℕ) → HeldAt g w (view r) → c < g.clients → Contains (r c).dying b → IsBlock g (classes w) b
dying_block g w r c b h l x = held_live_block g w (view r) h b ((h.dying c l).listed b x).0

-- at the address of another spot stands no zero-count block
pub no_dying_at : (g : Geometry) (w : Spot → ℕ) (r : ℕ → Memo) (c at : ℕ) (p : Spot) → HeldAt g w (view r) → c < g.clients → spot_at g (classes w) at ≡ p → p ≢ Head at → is_dying (r c) at ≡ false
no_dying_at g w r c at p h l e n = dying_false (r c) at (λ x. n (sym e ∙ dying_block g w r c at h l x))

-- ---- the spot of a store

-- the word of a block that is prepared
pub stored_prepared : (g : Geometry) (m : Memo) (at v : ℕ) (p : Spot) → m.op ≡ Nothing → is_dying m at ≡ false → is_dying m (at - 1) ≡ false → prepared m.making at ≡ p → stored_told g m at v ≡ p
stored_prepared g m at v p idle here before e =
    cond-false _ _ _ (ap (λ o. is_slot_at g (cover_of o) at) idle)
    ∙ (cond-false _ _ _ (ap (λ z. eqb v 0 && z) here ∙ and-false (eqb v 0))
    ∙ (cond-false _ _ _ before ∙ e))

-- the tag of a zero-count block
pub stored_linked : (g : Geometry) (m : Memo) (at v : ℕ) → m.op ≡ Nothing → is_dying m at ≡ false → is_dying m (at - 1) ≡ true → stored_told g m at v ≡ Tag (at - 1)
stored_linked g m at v idle here before =
    cond-false _ _ _ (ap (λ o. is_slot_at g (cover_of o) at) idle)
    ∙ (cond-false _ _ _ (ap (λ z. eqb v 0 && z) here ∙ and-false (eqb v 0))
    ∙ cond-true _ _ _ before)

-- the header of a zero-count block that is freed
pub stored_freed : (g : Geometry) (m : Memo) (at : ℕ) → m.op ≡ Nothing → is_dying m at ≡ true → stored_told g m at 0 ≡ Head at
stored_freed g m at idle here = cond-false _ _ _ (ap (λ o. is_slot_at g (cover_of o) at) idle) ∙ cond-true _ _ _ here

-- the tag of the block that is prepared, by its address
pub tag_prepared : (g : Geometry) (class : ℕ → ℕ → ℕ) (at b : ℕ) → spot_at g class at ≡ Tag b → word_of_block b at ≡ Tag b
tag_prepared g class at b e = cond-true _ _ _ (eq-eqb at (b + 1) (sym (tag_block g class at b e).1))

-- and another word of it
pub body_prepared : (g : Geometry) (class : ℕ → ℕ → ℕ) (at b i : ℕ) → spot_at g class at ≡ Body b i → word_of_block b at ≡ Body b i
body_prepared g class at b i e =
    let q : b + 2 + i ≡ at = (body_block g class at b i e).2 in
    let x : at - (b + 2) ≡ i = omega arith in
    cond-false _ _ _ (ne_eqb at (b + 1) (λ z. absurd (omega arith))) ∙ ap (Body b) x

-- ---- the class of a page

-- a class that was read is the page's
pub class_is_read : (n : ℕ) (era : ℕ → ℕ → ℕ) (on : ℕ → Option ℕ) (tail queue_head class : ℕ → ℕ → ℕ) (fs : List Fact) (s q : ℕ) → All (FactAt n era on tail queue_head class) fs → class_read fs s q ≢ 0 → class s q ≡ class_read fs s q
class_is_read n era on tail queue_head class [] s q all some = absurd (some refl)
class_is_read n era on tail queue_head class (Class i j k ∷ fs) s q all some =
    elim (cases_Bool (eqb i s && eqb j q)) [
      | inl e ↦ (let h = and_parts (eqb i s) (eqb j q) e in
          let y : (k ≢ 0) × (class i j ≡ k) = All-head (FactAt n era on tail queue_head class) (Class i j k) fs all in
          ap (λ z. class z q) (sym (eqb-true i s h.0)) ∙ (ap (class i) (sym (eqb-true j q h.1)) ∙ (y.1 ∙ sym (cond-true _ _ _ e))))
      | inr e ↦ (let x = cond-false (eqb i s && eqb j q) k (class_read fs s q) e in
          class_is_read n era on tail queue_head class fs s q (All-tail (FactAt n era on tail queue_head class) (Class i j k) fs all) (λ z. some (x ∙ z)) ∙ sym x)
    ]
class_is_read n era on tail queue_head class (f ∷ fs) s q all some = class_is_read n era on tail queue_head class fs s q (All-tail (FactAt n era on tail queue_head class) f fs all) some
