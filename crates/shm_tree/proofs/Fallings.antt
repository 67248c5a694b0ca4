-- Word steps of a removal, and what stays live.
use Rattle.std.proofs.Common.{◌≡◌, ℕ, ◌+◌, ◌-◌, ◌*◌, ◌≤◌, [], true, refl, sym, ◌∙◌, subst, arith, inl, inr, true≢false}
use Rattle.shm_words.specs.declared.geometry.Geometry.{Geometry}
use Rattle.shm_plain.specs.Pools.{Pool, memo_of}
use Rattle.shm_tree.specs.{Bounds.{fall_steps, remnant_steps, remove_steps, raise_steps}, Building.{IsCut, root_block}}
use Rattle.shm_tree.specs.{Keeping.{IsShared, is_live}, Living.{AreLivesTrees, KeepsLives}, Spending.HasSpent}
use Rattle.shm_tree.specs.{Standing.TreeStands, Working.{IsSpent, IsWorking, Went}}
use Rattle.shm_tree.proofs.{Eras.spent_stays, Lights.{once, part_weighs, weighs_live}, Named.lives_nodes}
use Rattle.shm_tree.proofs.Spendings.{spent_more}

-- ---- word steps

more : (b j k d e w : ℕ) → k ≡ 5 * e + w → d ≤ e → b + j * k + 5 * d + w ≤ b + (j + 1) * k
more b j k d e w is low = omega (arith, is, low)

square : (e k l w : ℕ) → 5 * e + 9 + l + e * (5 * e + w) ≤ 5 * (e + k) + 9 + l + (e + k) * (5 * (e + k) + w)
square e k l w = omega arith

-- the tree at the lowest node got its root
pub fallen_none : (p q : Pool) {x y : ℕ} (e : ℕ) → HasSpent (5 * e + 9 + remnant_steps p.start.geometry) p q x y → HasSpent (fall_steps (e - e) e p.start.geometry) p q x y
fallen_none p q {x} {y} e s =
    let none : e - e ≡ 0 = omega arith in
    subst (λ j. HasSpent (fall_steps j e p.start.geometry) p q x y) (sym none) (spent_more _ (fall_steps 0 e p.start.geometry) (omega arith) s)

-- and a node above it was made anew
pub fallen_more : (p q : Pool) {x y : ℕ} (j d e i : ℕ) → d ≤ e → i ≡ j + 1 → HasSpent (fall_steps j e p.start.geometry + 5 * d + raise_steps p.start.geometry) p q x y → HasSpent (fall_steps i e p.start.geometry) p q x y
fallen_more p q {x} {y} j d e i low next s =
    let g : Geometry = p.start.geometry in
    subst (λ n. HasSpent (fall_steps n e g) p q x y) (sym next) (spent_more _ (fall_steps (j + 1) e g) (more (5 * e + 9 + remnant_steps g) j (5 * e + raise_steps g) d e (raise_steps g) refl low) s)

-- up to the first one
pub fallen_low : (p q : Pool) {x y : ℕ} (j e h : ℕ) → j ≡ e → e ≤ h → HasSpent (fall_steps j e p.start.geometry) p q x y → HasSpent (remove_steps h p.start.geometry) p q x y
fallen_low p q {x} {y} j e h all low s =
    let g : Geometry = p.start.geometry in
    let whole : HasSpent (fall_steps e e g) p q x y = subst (λ n. HasSpent (fall_steps n e g) p q x y) all s in
    let sum : e + (h - e) ≡ h = omega (arith, low) in
    subst (λ n. HasSpent (remove_steps n g) p q x y) sum (spent_more _ (remove_steps (e + (h - e)) g) (square e (h - e) (remnant_steps g) (raise_steps g)) whole)

-- ---- live blocks

pub rests_shared : {k b : ℕ} {p q : Pool} → IsShared k b p q → KeepsLives p q
rests_shared s calm d live before =
    elim before [
      | inl dead ↦ absurd (true≢false (sym live ∙ (s.lives d ∙ dead)))
      | inr t ↦ (t.0, s.trees d t.0 t.1)
    ]

-- Each block that was live is so still where what roots named stands, of the same blocks: it is a node of a tree that a root names
pub cut_stay : {n x y : ℕ} (p q : Pool) → IsWorking p → IsWorking q → Went p q x y → (IsSpent (memo_of q 0) → ⊥) → AreLivesTrees p → IsCut n p q → (b : ℕ) → is_live p b ≡ true → is_live q b ≡ true
cut_stay p q wp wq went calm trees cut b live =
    let none : (memo_of p 0).dying ≡ [] = elim wp.dying [ inl e ↦ e | inr s ↦ absurd (calm (spent_stays p q wp wq went s)) ] in
    let w = lives_nodes p wp none trees b live in
    let there : TreeStands q (root_block p w.0) w.2 = cut.trees w.0 w.2 w.1 w.3 in
    let some = part_weighs p b (root_block p w.0) w.2 w.4 in
    let same = cut.blocks (once b) w.0 w.2 w.1 w.3 in
    weighs_live q b (root_block p w.0) w.2 there (omega (arith, some, same))
