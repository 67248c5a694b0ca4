-- what each step gives its slot and owes, and what each word names: the words tell what the memos do
use Rattle.std.proofs.Common.{◌≡◌, ℕ, zero, suc, ◌+◌, ◌%◌, ◌<◌, refl, sym, ap, ◌∙◌, arith, true, false, Bool, cond, ltb, not, ◌&&◌, inl, inr}
use Rattle.std.proofs.lemmas.Bool.{cases_eq, cond-true, cond-false, and_left, and_right, eq-eqb, ne_eqb}
use Rattle.std.specs.Prelude.{Option, Some, None}
use Rattle.shm_words.specs.declared.{geometry.Geometry.Geometry, redo.Redo.Redo as ARedo}
use Rattle.shm_words.specs.declared.redo.Redo.TheVariants as redos
use Rattle.shm_words.proofs.Words.{change_told}
use Rattle.shm_graph.specs.declared.spot.Spot.{Spot, TheVariants.{Redo, RedoMore, Home, Era, Root, Slot, Page, Body}}
use Rattle.shm_graph.specs.declared.memo.{ChangeStage.TheVariants.{Raising, Lowering}, Op.Op}
use Rattle.shm_graph.specs.declared.memo.Op.TheVariants.{Nothing, Alloc, Up, Down, Change}
use Rattle.shm_graph.specs.{Spots.{spot_at, spot_address}, Blocks.classes, References.{Words, words_of}}
use Rattle.shm_graph.specs.Ops.{Cover, Quiet, On, cover, covered, cover_of, held_over_of, on_of, target}
use Rattle.shm_graph.specs.{Views.{View, targets, held_overs, ons}, Held.{OpTie, IdleSound, odd}, Sound.IsSound}
use Rattle.shm_headline.specs.Now.{is_committed, is_first_half, given_by, owed_by, record_of, names, owed}
use Rattle.shm_headline.proofs.Committed.{uncommitted, gives_from, owes_from, owes_till}

-- ---- halves of a change

same_half : (t : Bool) → cond t t (not t) ≡ true
same_half true = refl
same_half false = refl

other_half : (t : Bool) → cond (not t) t (not t) ≡ false
other_half true = refl
other_half false = refl

pub first_half : (e own : ℕ) → e ≡ own → is_first_half (odd e) own ≡ true
first_half e own q = ap (is_first_half (odd e)) (sym q) ∙ same_half (odd e)

odd_next : (e : ℕ) → odd (e + 1) ≡ not (odd e)
odd_next e =
    elim (cases_eq (e % 2) 1) [
      | inl o ↦ ne_eqb ((e + 1) % 2) 1 (λ z. absurd (omega arith)) ∙ sym (ap not (eq-eqb (e % 2) 1 o))
      | inr n ↦ eq-eqb ((e + 1) % 2) 1 (omega arith) ∙ sym (ap not (ne_eqb (e % 2) 1 n))
    ]

pub second_half : (e own : ℕ) → e ≡ own → is_first_half (odd (e + 1)) own ≡ false
second_half e own q = ap (is_first_half (odd (e + 1))) (sym q) ∙ (ap (λ t. is_first_half t e) (odd_next e) ∙ other_half (odd e))

-- ---- a step

module _ (g : Geometry) (w : Spot → ℕ) (v : View) (h : IsSound g w v) (c : ℕ) (lc : c < g.clients) where
  gives : (q : Spot) (p : Spot) (x b : ℕ) → q ≡ p → cond (is_committed g w c b) (On q x) Quiet ≡ cond (is_committed g w c b) (On p x) Quiet
  gives q p x b e = ap (λ r. cond (is_committed g w c b) (On r x) Quiet) e

  idle_gives : ons v c ≡ None → (r : Option ARedo) → given_by g w c r ≡ Quiet
  idle_gives e None = refl
  idle_gives e (Some redos.Idle) = refl
  idle_gives e (Some (redos.Up p b)) = cond-false _ _ _ (uncommitted g w v h c lc e b)
  idle_gives e (Some (redos.Down p b)) = cond-false _ _ _ (uncommitted g w v h c lc e b)
  idle_gives e (Some (redos.Change t p a b)) = cond-false _ _ _ (and_right _ _ (uncommitted g w v h c lc e b))

  -- a change in an idle record is in its first half, and not committed
  idle_half : IdleSound (w (Redo c)) (w (Era c c)) → (t : Bool) (p a b : ℕ) → record_of g w c ≡ Some (redos.Change t p a b) → is_first_half t (w (Era c c)) ≡ true
  idle_half i t p a b e =
      let k = change_told g.wide (w (Redo c)) (w (RedoMore c)) t p a b e in
      ap (λ y. is_first_half y (w (Era c c))) (sym k.1 ∙ i k.0) ∙ same_half (odd (w (Era c c)))

  idle_owes : ons v c ≡ None → IdleSound (w (Redo c)) (w (Era c c)) → (r : Option ARedo) → record_of g w c ≡ r → owed_by g w c r ≡ 0
  idle_owes e i None q = refl
  idle_owes e i (Some redos.Idle) q = refl
  idle_owes e i (Some (redos.Up p b)) q = refl
  idle_owes e i (Some (redos.Down p b)) q = refl
  idle_owes e i (Some (redos.Change t p a b)) q = cond-true _ _ _ (idle_half i t p a b q) ∙ cond-false _ _ _ (uncommitted g w v h c lc e b)

  -- the tie of the step in progress
  Tied : Op → Type 0
  Tied o = OpTie g (λ s q. w (Page s q)) (w (Redo c)) (w (RedoMore c)) (w (Era c c)) (words_of g.wide w) o

  given_at : (o : Op) → v.op c ≡ o → Tied o → given_by g w c (record_of g w c) ≡ cover_of o
  unfolding Tied
  given_at Nothing q t = idle_gives (ap on_of q) (record_of g w c)
  given_at (Alloc s p b e) q t = ap (given_by g w c) t.spelled ∙ (gives _ p b b t.at ∙ gives_from g w v h c lc s p b b (ap on_of q))
  given_at (Up s p b e) q t = ap (given_by g w c) t.spelled ∙ (gives _ p b b t.at ∙ gives_from g w v h c lc s p b b (ap on_of q))
  given_at (Down s p b e) q t = ap (given_by g w c) t.spelled ∙ (gives _ p 0 b t.at ∙ gives_from g w v h c lc s p 0 b (ap on_of q))
  given_at (Change (Raising s) p a b e) q t =
      ap (given_by g w c) t.spelled
      ∙ (ap (λ y. cond (y && is_committed g w c b) (On (spot_at g (classes w) (spot_address g p)) b) Quiet) (first_half e (w (Era c c)) t.current)
      ∙ (gives _ p b b t.at ∙ gives_from g w v h c lc s p b b (ap on_of q)))
  given_at (Change (Lowering s) p a b e) q t = ap (given_by g w c) t.spelled ∙ cond-false _ _ _ (and_left _ _ (second_half e (w (Era c c)) t.current))

  owed_at : (o : Op) → v.op c ≡ o → Tied o → owed g w c ≡ held_over_of o
  unfolding Tied
  owed_at Nothing q t = idle_owes (ap on_of q) t (record_of g w c) refl
  owed_at (Alloc s p b e) q t = ap (owed_by g w c) t.spelled
  owed_at (Up s p b e) q t = ap (owed_by g w c) t.spelled
  owed_at (Down s p b e) q t = ap (owed_by g w c) t.spelled
  owed_at (Change (Raising s) p a b e) q t =
      ap (owed_by g w c) t.spelled
      ∙ (cond-true _ _ _ (first_half e (w (Era c c)) t.current) ∙ owes_from g w v h c lc s a b (ap on_of q))
  owed_at (Change (Lowering s) p a b e) q t =
      ap (owed_by g w c) t.spelled
      ∙ (cond-false _ _ _ (second_half e (w (Era c c)) t.current) ∙ owes_till g w v h c lc s a (ap on_of q))

  pub given_told : given_by g w c (record_of g w c) ≡ cover_of (v.op c)
  unfolding Tied
  given_told = given_at (v.op c) refl (h.op c lc)

  pub owed_told : owed g w c ≡ held_overs v c
  unfolding Tied
  owed_told = owed_at (v.op c) refl (h.op c lc)

-- ---- what each word names

covered_each : (n : ℕ) (ps qs : ℕ → Cover) → ((d : ℕ) → d < n → ps d ≡ qs d) → (p : Spot) (x : ℕ) → covered ps n p x ≡ covered qs n p x
covered_each zero ps qs e p x = refl
covered_each (suc n) ps qs e p x = ap (λ y. cover y p (covered ps n p x)) (e n (omega arith)) ∙ ap (cover (qs n) p) (covered_each n ps qs (λ d l. e d (omega arith)) p x)

target_each : (n : ℕ) (x : Words) (ps qs : ℕ → Cover) → ((d : ℕ) → d < n → ps d ≡ qs d) → (p : Spot) → target n x ps p ≡ target n x qs p
target_each n x ps qs e (Home c) = covered_each n ps qs e (Home c) (x.home c)
target_each n x ps qs e (Root c k) = covered_each n ps qs e (Root c k) (x.root c k)
target_each n x ps qs e (Slot s r k) = covered_each n ps qs e (Slot s r k) (x.slot s r k)
target_each n x ps qs e (Body b i) = ap (λ z. cond (ltb i (x.refs b)) z 0) (covered_each n ps qs e (Body b i) (x.body b i))
target_each n x ps qs e _ = refl

pub names_told : (g : Geometry) (w : Spot → ℕ) (v : View) → IsSound g w v → (p : Spot) → names g w p ≡ targets g w v p
names_told g w v h p = target_each g.clients (words_of g.wide w) (λ c. given_by g w c (record_of g w c)) (λ c. cover_of (v.op c)) (given_told g w v h) p
