-- the memo of a committed step, part by part
use Rattle.std.proofs.Common.{◌≡◌, ℕ, refl, sym, ap, ◌∙◌, Bool, true, false, cond, eqb, ◌&&◌, subst, inl, inr, List, [], ◌∷◌, ◌⊎◌}
use Rattle.std.proofs.{Math.Path.fun_ext, lemmas.Bool.{cases_eq, eq-eqb, ne_eqb}}
use Rattle.std.specs.{Prelude.slice_index, List.filter}
use Rattle.shm_graph.specs.{declared.{spot.Spot.{Spot, TheVariants.Slot}, memo.{Stored.Stored, Memo.Memo}}, Views.at1}
use Rattle.shm_graph.specs.MemoAfterStore.{put, other_than, not_block, not_of}
use Rattle.shm_graph.specs.MemoAfterExchange.{with_unsent, with_untaken, lowered}
use Rattle.shm_graph.proofs.Memos.Frames.{at1_same}
use Rattle.kind_laws.specs.HeaderExchanges.{unsent_after, unsent_back, untaken_after, dying_after, not_blocks}
use Rattle.kind_parts.proofs.Items.{put_at}

-- ---- what becomes of each part

-- the unsent blocks once the slot at an own tail has b
abbrev pub unsent_list : ℕ → Spot → ℕ → List ℕ → List ℕ
unsent_list c (Slot s r k) b l = cond (eqb s c) (put 0 l r b) l
unsent_list c p b l = l

-- the untaken blocks once the item b of a head slot is taken
abbrev pub untaken_list : ℕ → Spot → ℕ → List ℕ → List ℕ
untaken_list c (Slot s r k) b l = cond (eqb r c) (put 0 l s b) l
untaken_list c p b l = l

-- what is known without the head slot that is taken
abbrev pub known_left : ℕ → Spot → List Stored → List Stored
known_left c (Slot s r k) ks = cond (eqb r c) (filter (λ x. other_than (Slot s r k) x.spot) ks) ks
known_left c p ks = ks

-- what is known without the words of a block whose count became 0
abbrev pub known_lowered : ℕ → ℕ → List Stored → List Stored
known_lowered n b ks = cond (eqb n 0) (filter (not_of b) ks) ks

pub with_unsent_is : (c : ℕ) (p : Spot) (b : ℕ) (m : Memo) → ◌≡◌ {A = Memo} (with_unsent c p b m) (record m { unsent = unsent_list c p b m.unsent })
with_unsent_is c (Slot s r k) b m = go (eqb s c)
  where
    go : (z : Bool) → ◌≡◌ {A = Memo} (cond z (record m { unsent = put 0 m.unsent r b }) m) (record m { unsent = cond z (put 0 m.unsent r b) m.unsent })
    go true = refl
    go false = refl
with_unsent_is c _ b m = refl

pub with_untaken_is : (c : ℕ) (p : Spot) (b : ℕ) (m : Memo) → ◌≡◌ {A = Memo} (with_untaken c p b m) (record m { untaken = untaken_list c p b m.untaken; known = known_left c p m.known })
with_untaken_is c (Slot s r k) b m = go (eqb r c)
  where
    go : (z : Bool) → ◌≡◌ {A = Memo} (cond z (record m { untaken = put 0 m.untaken s b; known = filter (λ x. other_than (Slot s r k) x.spot) m.known }) m) (record m { untaken = cond z (put 0 m.untaken s b) m.untaken; known = cond z (filter (λ x. other_than (Slot s r k) x.spot) m.known) m.known })
    go true = refl
    go false = refl
with_untaken_is c _ b m = refl

pub lowered_is : (n b : ℕ) (m : Memo) → ◌≡◌ {A = Memo} (lowered n b m) (record m { dying = dying_after n b m.dying; known = known_lowered n b m.known })
lowered_is n b m = go (eqb n 0)
  where
    go : (z : Bool) → ◌≡◌ {A = Memo} (cond z (record m { dying = dying_after 0 b m.dying; known = filter (not_of b) m.known }) m) (record m { dying = cond z (dying_after 0 b m.dying) m.dying; known = cond z (filter (not_of b) m.known) m.known })
    go true = refl
    go false = refl

-- ---- lists that have one item anew

-- the lists of all identities, where item j of c's is x
set_item : (u : ℕ → ℕ → ℕ) (l : List ℕ) (c j x s r : ℕ) → slice_index l r ≡ u c r → cond (eqb c s && eqb j r) x (u s r) ≡ at1 u c (λ k. slice_index (put 0 l j x) k) s r
set_item u l c j x s r e =
    elim (cases_eq c s) [
      | inl q ↦ subst (λ k. cond (eqb c k && eqb j r) x (u k r) ≡ at1 u c (λ i. slice_index (put 0 l j x) i) k r) q (rw (eq-eqb c c refl) (ap (cond (eqb j r) x) (sym e) ∙ sym (put_at 0 l j x r)))
      | inr n ↦ rw (ne_eqb c s n) refl
    ]

-- the lists as they were
same_items : (u : ℕ → ℕ → ℕ) (l : List ℕ) (c : ℕ) → ((k : ℕ) → slice_index l k ≡ u c k) → at1 u c (λ k. slice_index l k) ≡ u
same_items u l c e = at1_same u c (λ k. slice_index l k) (fun_ext e)

-- the slot that is raised is no slot to another than its sender
abbrev pub IsSender : ℕ → Spot → Type 0
IsSender c (Slot s r k) = s ≡ c
IsSender c p = Unit {0}

pub unsent_raised : (c : ℕ) (p : Spot) (b : ℕ) (u : ℕ → ℕ → ℕ) (l : List ℕ) → IsSender c p → ((k : ℕ) → slice_index l k ≡ u c k) → unsent_after p b u ≡ at1 u c (λ k. slice_index (unsent_list c p b l) k)
unsent_raised c (Slot i j k) b u l q e =
    subst (λ d. ◌≡◌ {A = ℕ → ℕ → ℕ} (unsent_after (Slot d j k) b u) (at1 u c (λ k. slice_index (cond (eqb d c) (put 0 l j b) l) k))) (sym q)
    (rw (eq-eqb c c refl) (fun_ext (λ s. fun_ext (λ r. set_item u l c j b s r (e r)))))
unsent_raised c _ b u l q e = sym (same_items u l c e)

pub unsent_lowered : (c : ℕ) (p : Spot) (u : ℕ → ℕ → ℕ) (l : List ℕ) → ((k : ℕ) → slice_index l k ≡ u c k) → unsent_back c p u ≡ at1 u c (λ k. slice_index (unsent_list c p 0 l) k)
unsent_lowered c (Slot i j k) u l e = go (cases_eq i c)
  where
    go : (i ≡ c) ⊎ (i ≡ c → ⊥) → ◌≡◌ {A = ℕ → ℕ → ℕ} (λ s r. cond (eqb i c && (eqb i s && eqb j r)) 0 (u s r)) (at1 u c (λ k. slice_index (cond (eqb i c) (put 0 l j 0) l) k))
    go (inl q) =
        subst (λ d. ◌≡◌ {A = ℕ → ℕ → ℕ} (λ s r. cond (eqb d c && (eqb d s && eqb j r)) 0 (u s r)) (at1 u c (λ k. slice_index (cond (eqb d c) (put 0 l j 0) l) k))) (sym q)
        (rw (eq-eqb c c refl) (fun_ext (λ s. fun_ext (λ r. set_item u l c j 0 s r (e r)))))
    go (inr n) = rw (ne_eqb i c n) (sym (same_items u l c e))
unsent_lowered c _ u l e = sym (same_items u l c e)

swapped : (x y : Bool) (a b : ℕ) → cond (x && y) a b ≡ cond (y && x) a b
swapped true true a b = refl
swapped true false a b = refl
swapped false true a b = refl
swapped false false a b = refl

pub untaken_lowered : (c : ℕ) (p : Spot) (b : ℕ) (u : ℕ → ℕ → ℕ) (l : List ℕ) → ((k : ℕ) → slice_index l k ≡ u c k) → untaken_after c p b u ≡ at1 u c (λ k. slice_index (untaken_list c p b l) k)
untaken_lowered c (Slot i j k) b u l e = go (cases_eq j c)
  where
    go : (j ≡ c) ⊎ (j ≡ c → ⊥) → ◌≡◌ {A = ℕ → ℕ → ℕ} (λ r s. cond (eqb j c && (eqb i s && eqb j r)) b (u r s)) (at1 u c (λ k. slice_index (cond (eqb j c) (put 0 l i b) l) k))
    go (inl q) =
        subst (λ d. ◌≡◌ {A = ℕ → ℕ → ℕ} (λ r s. cond (eqb d c && (eqb i s && eqb d r)) b (u r s)) (at1 u c (λ k. slice_index (cond (eqb d c) (put 0 l i b) l) k))) (sym q)
        (rw (eq-eqb c c refl) (fun_ext (λ r. fun_ext (λ s. swapped (eqb i s) (eqb c r) b (u r s) ∙ set_item u l c i b r s (e s)))))
    go (inr n) = rw (ne_eqb j c n) (sym (same_items u l c e))
untaken_lowered c _ b u l e = sym (same_items u l c e)

-- ---- the blocks that a call made

pub not_both : (b x : ℕ) (ms : List ℕ) → filter (not_block x) (filter (not_block b) ms) ≡ filter (not_blocks b x) ms
not_both b x [] = refl
not_both b x (d ∷ ds) = go (not_block b d) (not_block x d) refl (not_both b x ds)
  where
    go : (y z : Bool) → not_block x d ≡ z → filter (not_block x) (filter (not_block b) ds) ≡ filter (not_blocks b x) ds → filter (not_block x) (cond y (d ∷ filter (not_block b) ds) (filter (not_block b) ds)) ≡ cond (y && z) (d ∷ filter (not_blocks b x) ds) (filter (not_blocks b x) ds)
    go true true e q = ap (λ t. cond t (d ∷ filter (not_block x) (filter (not_block b) ds)) (filter (not_block x) (filter (not_block b) ds))) e ∙ ap (λ l. d ∷ l) q
    go true false e q = ap (λ t. cond t (d ∷ filter (not_block x) (filter (not_block b) ds)) (filter (not_block x) (filter (not_block b) ds))) e ∙ q
    go false true e q = q
    go false false e q = q
