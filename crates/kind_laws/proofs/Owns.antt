-- spots, and an identity's own words
use Rattle.std.proofs.Common.{◌≡◌, ◌≢◌, ℕ, ◌<◌, refl, sym, ap, ◌∙◌, true, false, cond, subst, List, ◌∷◌}
use Rattle.std.proofs.lemmas.Bool.{eqb-true, false_from_ne_true, true≢false}
use Rattle.shm_graph.specs.{Views.{at1, own_word, owner_is}, declared.spot.Spot.Spot}
use Rattle.shm_graph.specs.declared.spot.Spot.TheVariants.{Redo, RedoMore, Hold, Home, Era, Root, Tail, QueueHead}
use Rattle.shm_graph.specs.{declared.memo.Stored.Stored, Spots.{upd, same_spot}}
use Rattle.shm_graph.proofs.{Memos.Frames.at1_all, Spots.Spotting.same_spot_is}

one_owner : (c d : ℕ) (p : Spot) → owner_is c p ≡ true → owner_is d p ≡ true → c ≡ d
one_owner c d (Redo e) h k = eqb-true c e h ∙ sym (eqb-true d e k)
one_owner c d (RedoMore e) h k = eqb-true c e h ∙ sym (eqb-true d e k)
one_owner c d (Hold e) h k = eqb-true c e h ∙ sym (eqb-true d e k)
one_owner c d (Home e) h k = eqb-true c e h ∙ sym (eqb-true d e k)
one_owner c d (Era e j) h k = eqb-true c e h ∙ sym (eqb-true d e k)
one_owner c d (Root e j) h k = eqb-true c e h ∙ sym (eqb-true d e k)
one_owner c d (Tail e r) h k = eqb-true c e h ∙ sym (eqb-true d e k)
one_owner c d (QueueHead s e) h k = eqb-true c e h ∙ sym (eqb-true d e k)
one_owner c d _ h k = cc

-- own words after a store of c
pub mine_stored : (w : Spot → ℕ) (owns : ℕ → List Stored) (c n : ℕ) (p : Spot) (x : ℕ) → owner_is c p ≡ true → c < n → ((d : ℕ) → d < n → (q : Spot) → owner_is d q ≡ true → own_word (owns d) q ≡ w q) → (d : ℕ) → d < n → (q : Spot) → owner_is d q ≡ true → own_word (at1 owns c (record { spot = p; value = x } ∷ owns c) d) q ≡ upd w p x q
mine_stored w owns c n p x own lc mine d =
    at1_all (λ (k : ℕ) (s : List Stored). k < n → (q : Spot) → owner_is k q ≡ true → own_word s q ≡ upd w p x q) owns c (record { spot = p; value = x } ∷ owns c) d
    (λ l q o. ap (cond (same_spot p q) x) (mine c l q o))
    (λ ne l q o. mine d l q o ∙ sym (let apart : same_spot p q ≡ false = false_from_ne_true _ (λ s. ne (one_owner c d p own (subst (λ z. owner_is d z ≡ true) (sym (same_spot_is p q s)) o))) in rw apart))

-- own words after a store of a word that is nobody's own
pub mine_other : (w : Spot → ℕ) (owns : ℕ → List Stored) (n : ℕ) (p : Spot) (x : ℕ) → ((d : ℕ) → owner_is d p ≡ false) → ((d : ℕ) → d < n → (q : Spot) → owner_is d q ≡ true → own_word (owns d) q ≡ w q) → (d : ℕ) → d < n → (q : Spot) → owner_is d q ≡ true → own_word (owns d) q ≡ upd w p x q
mine_other w owns n p x free mine d l q o = mine d l q o ∙ sym (let apart : same_spot p q ≡ false = false_from_ne_true _ (λ s. true≢false (sym (subst (λ z. owner_is d z ≡ true) (sym (same_spot_is p q s)) o) ∙ free d)) in rw apart)

-- small words, and places, after a store
pub small_stored : (w : Spot → ℕ) (p : Spot) (x n : ℕ) → x < n → ((q : Spot) → w q < n) → (q : Spot) → upd w p x q < n
small_stored w p x n l h q = both (same_spot p q)
  where
    both : (b : _) → cond b x (w q) < n
    both true = l
    both false = h q

pub there_stored : (A : Spot → Type 0) (w : Spot → ℕ) (p : Spot) (x : ℕ) → A p → ((q : Spot) → w q ≢ 0 → A q) → (q : Spot) → upd w p x q ≢ 0 → A q
there_stored A w p x here h q = go (same_spot p q) refl
  where
    go : (b : _) → same_spot p q ≡ b → cond b x (w q) ≢ 0 → A q
    go true e n = subst A (same_spot_is p q e) here
    go false e n = h q n
