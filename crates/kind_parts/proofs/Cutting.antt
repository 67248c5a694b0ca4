-- the looks that stay once a reference is taken away are sound for the new targets, and the slot's block stays in reach
use Rattle.shm_graph.specs.declared.spot.Spot.{TheVariants.{Body, QueueHead, Head, Home, Root, Slot, Tag, Tail}, Spot}
use Rattle.shm_graph.specs.declared.memo.{Look.Look, Memo.Memo}
use Rattle.shm_graph.specs.{Held.{HeldAt, InLooks, LooksSound, SlotOf, named_by, reach_of}, Views.{View, targets}}
use Rattle.shm_graph.specs.{Reach.{cut_looks, is_look_from, is_look_of, is_named, upto}, Spots.same_spot}
use Rattle.shm_graph.proofs.{States.Holders.{Holds, InReach}, StepKinds.Loads.choice, Memos.Looking.not_empty}
use Rattle.std.proofs.Common.{Bool, List, [], ap, eq-eqb, false, inl, inr, not, refl, subst, sym, true, ℕ, ◌%◌, ◌&&◌, ◌<◌, ◌∙◌, ◌≡◌}
use Rattle.std.proofs.lemmas.{Bool.{and_from, and_parts, cases_Bool, cond-true, not-true}, List.Folds.list_any_at}
use Rattle.std.specs.List.{list_any}
use Rattle.shm_words.specs.{declared.geometry.Geometry.Geometry, Headers.header_of, Tags.tag_author}
use Rattle.kind_laws.proofs.{LooksCut.{from_named, looks_apart, upto_first, upto_has}, ExchangeFields.named_kept}

module _ (g : Geometry) (w : Spot → ℕ) (v : View) (h : HeldAt g w v) (c : ℕ) (l : c < g.clients) (p : Spot) (mine : Holds w g v c p) (t' : Spot → ℕ) (same : (q : Spot) → same_spot p q ≡ false → t' q ≡ targets g w v q) (m : Memo) (looks : m.looks ≡ v.looks c) where
  abbrev t : Spot → ℕ
  t = targets g w v

  abbrev tail : ℕ → ℕ → ℕ
  tail = λ i j. w (Tail i j)

  abbrev queue_head : ℕ → ℕ → ℕ
  queue_head = λ i j. w (QueueHead i j)

  abbrev author : ℕ → ℕ
  author = λ i. tag_author g.wide (w (Tag i))

  -- the looks are sound for these targets
  abbrev Sound : (Spot → ℕ) → List Look → Type 0
  Sound s ks = LooksSound (λ a. s (Home a)) (λ i j. s (Body i j)) author (v.latch c) (named_by s tail queue_head c) [] ks

  looks_now : Sound t m.looks
  looks_now = subst (Sound t) (sym looks) (h.looks c l)

  -- no word by which a block is named is a word of a block
  named_still : (b i : ℕ) → p ≡ Body b i → (d : ℕ) → named_by t tail queue_head c d → named_by t' tail queue_head c d
  named_still b i e d = named_kept t t' tail queue_head c d
      (λ n k z. stays (Root c k) refl ∙ z)
      (λ n z. stays (Home c) refl ∙ z)
      (λ n s o z. stays (Slot s c (queue_head s c % 8)) refl ∙ z)
    where
      stays : (q : Spot) → same_spot (Body b i) q ≡ false → t' q ≡ t q
      stays q z = same q (ap (λ x. same_spot x q) e ∙ z)

  abbrev from : ℕ → ℕ → Bool
  from b i = list_any (is_look_from (Body b i)) (upto b m.looks)

  abbrev some : ℕ → Bool
  some b = list_any (is_look_of b) m.looks

  pub cut_sound : Sound t' (cut_looks c m p)
  cut_sound = go p refl
    where
      go : (q : Spot) → p ≡ q → Sound t' (cut_looks c m q)
      go (Body b i) e =
          choice (Sound t') (not (is_named c m b) && (some b && not (from b i))) (upto b m.looks) []
          (λ z. let y = and_parts (some b) (not (from b i)) (and_parts (not (is_named c m b)) (some b && not (from b i)) z).1 in
          looks_apart t t' author (v.latch c) (named_by t tail queue_head c) (named_by t' tail queue_head c) (Body b i) (λ q n. same q (ap (λ x. same_spot x q) e ∙ n)) (named_still b i e) [] (upto b m.looks) (not-true (from b i) y.1)
          (upto_first (λ a. t (Home a)) (λ a j. t (Body a j)) author (v.latch c) (named_by t tail queue_head c) b [] m.looks looks_now))
          (λ z. tt)
      go _ e = tt

  -- the block of the slot is named, or one of the looks that stay
  reach_still : (b i : ℕ) → p ≡ Body b i → (is_named c m b ≡ true → named_by t' tail queue_head c b) → InReach w g v c b → reach_of t' tail queue_head (λ d. cut_looks c m (Body b i)) c b
  reach_still b i e shows (inl u) = inl (named_still b i e b u)
  reach_still b i e shows (inr u) =
      let x : InLooks m.looks b = subst (λ ks. InLooks ks b) (sym looks) u in
      elim (cases_Bool (is_named c m b)) [
        | inl y ↦ inl (shows y)
        | inr y ↦ elim (cases_Bool (from b i)) [
          | inl z ↦ inl (named_still b i e b (from_named (λ a. t (Home a)) (λ a j. t (Body a j)) author (v.latch c) (named_by t tail queue_head c) b i [] m.looks (not_empty b) z looks_now))
          | inr z ↦ inr (subst (λ ks. InLooks ks b) (sym (cond-true _ _ _ (and_from _ _ (not-false-true (is_named c m b) y) (and_from _ _ (look_any b m.looks x) (not-false-true (from b i) z))))) (upto_has b m.looks x))
        ]
      ]
    where
      not-false-true : (z : Bool) → z ≡ false → not z ≡ true
      not-false-true z q = ap not q

      look_any : (j : ℕ) (ks : List Look) → InLooks ks j → list_any (is_look_of j) ks ≡ true
      look_any j ks x = list_any_at (is_look_of j) ks x.1.0 x.0 x.1.1 (ap (is_look_of j) x.1.2 ∙ eq-eqb x.0.block j x.2)

  pub cut_slot : ((b : ℕ) → is_named c m b ≡ true → named_by t' tail queue_head c b) → SlotOf g.wide c (λ i. header_of (w (Head i))) (λ i. w (Tag i)) (v.latch c) tail queue_head (reach_of t' tail queue_head (λ d. cut_looks c m p) c) p
  cut_slot shows = go p refl mine
    where
      go : (q : Spot) → p ≡ q → Holds w g v c q → SlotOf g.wide c (λ i. header_of (w (Head i))) (λ i. w (Tag i)) (v.latch c) tail queue_head (reach_of t' tail queue_head (λ d. cut_looks c m q) c) q
      go (Root d k) e x = x
      go (Home d) e x = x
      go (Slot s r k) e x = x
      go (Body b i) e x = (x.0, x.1, elim x.2 [ inl u ↦ inl u | inr u ↦ inr (u.0, u.1, reach_still b i e (shows b) u.2) ])
      go _ e x = absurd x
