-- a word of the fixed part is read: rows, tails, heads and pages
use Rattle.std.proofs.Common.{◌≡◌, ◌≢◌, ℕ, ◌+◌, ◌<◌, ◌≤◌, refl, sym, ap, ◌∙◌, subst, arith, Bool, true, false, not, cond, eqb, ltb, ◌&&◌, inl, inr, ◌∷◌, Option}
use Rattle.std.proofs.lemmas.Bool.{cases_eq, eq-eqb, ne_eqb, eqb-true, ltb-true, and_parts}
use Rattle.std.proofs.lemmas.Map.Views.{Contains-from_any}
use Rattle.std.specs.{Prelude.{None, Some}, List.list_any}
use Rattle.shm_words.specs.declared.geometry.Geometry.{Geometry}
use Rattle.shm_graph.specs.declared.{spot.Spot.{Spot, TheVariants.{Era, Page}}, memo.Fact.TheVariants.{Counter, Class}}
use Rattle.shm_graph.specs.{declared.memo.{Test.Test, Memo.Memo, Step.Step}, Views.{view, at1, own_word, ons}}
use Rattle.shm_graph.specs.{Held.{HeldAt, TestAt}, Changes.{called, test_before}}
use Rattle.shm_graph.specs.{MemoAfterRead.{next_row, test_on, row_read, page_read}, Agents.recovers}
use Rattle.shm_graph.proofs.{Memos.Calls.TestHolds, Machines.Calling.{called_part, called_held, fact_held, zero_held}}

-- what holds of both values of a choice
pub choice : {T : Type 0} (P : T → Type 0) (b : Bool) (x y : T) → (b ≡ true → P x) → (b ≡ false → P y) → P (cond b x y)
choice P true x y f h = f refl
choice P false x y f h = h refl

-- ---- rows

next_row_most : (c k j n : ℕ) → next_row c k ≡ n → k ≤ j → j ≢ c → n ≤ j
next_row_most c k j n e l m =
    elim (cases_eq k c) [
      | inl q ↦ (let x : next_row c k ≡ k + 1 = rw (eq-eqb k c q) refl in omega arith)
      | inr q ↦ (let x : next_row c k ≡ k = rw (ne_eqb k c q) refl in omega arith)
    ]

-- the next row was below, so that the commit test moves on
row_test : (n : ℕ) (era : ℕ → ℕ → ℕ) (on : Option ℕ) (c k : ℕ) (test : Option Test) → TestAt n era on c test → TestAt n era on c (test_on c (era c c) test k (era k c))
row_test n era on c k None h = tt
row_test n era on c k (Some t) h =
    choice (TestAt n era on c) (eqb (next_row c t.next) k && ltb (era k c) (era c c)) (Some (record { block = t.block; next = k + 1 })) None
    (λ b e. let q = and_parts _ _ b in let x = h e in
    let m = next_row_most c t.next x.0 k (eqb-true _ _ q.0) x.1 x.3 in
    let d : x.0 ≢ k = (λ z. let u : era x.0 c ≡ era k c = ap (λ i. era i c) z in let v = ltb-true _ _ q.1 in let y = x.4 in omega arith) in
    (x.0, omega arith, x.2, x.3, x.4))
    (λ b. tt)

test_before_holds : (g : Geometry) (w : Spot → ℕ) (r : ℕ → Memo) (c : ℕ) (t : Step) → HeldAt g w (view r) → c < g.clients → TestHolds g w (view r) c (test_before (r c) t)
test_before_holds g w r c t h l = choice (TestHolds g w (view r) c) t.fresh None (r c).test (λ b. tt) (λ b. h.test c l)

pub own_era : (g : Geometry) (w : Spot → ℕ) (r : ℕ → Memo) (c : ℕ) (t : Step) → HeldAt g w (view r) → c < g.clients → own_word (called (r c) t).own (Era c c) ≡ w (Era c c)
own_era g w r c t h l = called_part (λ (x : Memo). own_word x.own (Era c c)) (r c) t refl refl ∙ h.mine c l (Era c c) (eq-eqb c c refl)

-- the row of k was read, of the era of c
pub row_held : (g : Geometry) (w : Spot → ℕ) (r : ℕ → Memo) (c : ℕ) (t : Step) (k : ℕ) → HeldAt g w (view r) → c < g.clients
    → HeldAt g w (view (at1 r c (row_read c (called (r c) t) (test_before (r c) t) k (w (Era k c)))))
row_held g w r c t k h l =
    let m : Memo = called (r c) t in
    fact_held g w r c t (Counter (Era k c) (w (Era k c))) (cond (recovers m && not (eqb k c)) (test_on c (own_word m.own (Era c c)) (test_before (r c) t) k (w (Era k c))) None) h l (omega arith)
    (choice (TestHolds g w (view r) c) (recovers m && not (eqb k c)) (test_on c (own_word m.own (Era c c)) (test_before (r c) t) k (w (Era k c))) None
    (λ b. subst (λ e. TestHolds g w (view r) c (test_on c e (test_before (r c) t) k (w (Era k c)))) (sym (own_era g w r c t h l))
    (row_test g.clients (λ i j. w (Era i j)) (ons (view r) c) c k (test_before (r c) t) (test_before_holds g w r c t h l)))
    (λ b. tt))

-- ---- pages

pub page_held : (g : Geometry) (w : Spot → ℕ) (r : ℕ → Memo) (c : ℕ) (t : Step) (s q : ℕ) → HeldAt g w (view r) → c < g.clients
    → HeldAt g w (view (at1 r c (page_read (called (r c) t) s q (w (Page s q)))))
page_held g w r c t s q h l =
    let m : Memo = called (r c) t in
    let P : Memo → Type 0 = λ x. HeldAt g w (view (at1 r c x)) in
    elim (cases_eq (w (Page s q)) 0) [
      | inl z ↦ rw (eq-eqb (w (Page s q)) 0 z) (choice P (list_any (eqb s) m.owned) (record m { zeros = Page s q ∷ m.zeros }) m
          (λ b. zero_held g w r c t (Page s q) h l (z, (h.segments c l).listed s (Contains-from_any eqb-true s (r c).owned (subst (λ o. list_any (eqb s) o ≡ true) (called_part (λ (x : Memo). x.owned) (r c) t refl refl) b))))
          (λ b. called_held g w r c t h l))
      | inr n ↦ rw (ne_eqb (w (Page s q)) 0 n) (fact_held g w r c t (Class s q (w (Page s q))) None h l (n, refl) tt)
    ]
