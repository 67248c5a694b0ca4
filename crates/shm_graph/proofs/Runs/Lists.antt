-- steps on lists of words and of accounts are steps on spots and memos
use Rattle.std.proofs.Common.{◌≡◌, ◌≢◌, ℕ, ◌<◌, refl, sym, ap, ◌∙◌, true, false, Bool, cond, eqb, subst, inl, inr, List, length, get_or, ◌⊎◌}
use Rattle.std.proofs.Math.{ListN.{set, length-set}, Path.fun_ext}
use Rattle.std.proofs.lemmas.List.{get_or-set_same, get_or-set_other, set-get_or, set_past}
use Rattle.std.proofs.lemmas.Bool.{cases_Bool, cases_eq, cases_lt, eq-eqb, ne_eqb, eqb-true, false≢true, cond-true, cond-false}
use Rattle.std.specs.Prelude.{slice_index, slice_set}
use Rattle.shm_words.specs.{declared.geometry.Geometry.Geometry, Layout.total_of}
use Rattle.shm_graph.specs.declared.{spot.Spot.{Spot, TheVariants.Page}, ask.Ask.Ask}
use Rattle.shm_graph.specs.declared.{ask.Ask.TheVariants.{Load, Store, Exchange}, memo.Step.Step, run.Account.Account}
use Rattle.shm_graph.specs.{Spots.{upd, spot_at, classes_in, see}, Views.{View, at1}, Held.HeldAt}
use Rattle.shm_graph.specs.Controllers.{IsController, IsOpen, IsAllowed}
use Rattle.shm_graph.specs.Asks.{at_of, word_after, words_after, words_set}
use Rattle.shm_graph.specs.Runs.{account_at, account_after, accounts_after, memos_of, changed}
use Rattle.shm_graph.proofs.Spots.{Storing.is_page, ClassStoring.see-set_any, Seeing.see_at}

-- ---- a function with one value changed

pub at1_here : {T : Type 0} (f : ℕ → T) (c : ℕ) (x : T) → at1 f c x c ≡ x
at1_here f c x = rw (eq-eqb c c refl)

pub at1_other : {T : Type 0} (f : ℕ → T) (c : ℕ) (x : T) (d : ℕ) → c ≢ d → at1 f c x d ≡ f d
at1_other f c x d n = rw (ne_eqb c d n)

-- a part of the value at a key
pub at1_part : {S T : Type 0} (h : S → T) (f : ℕ → S) (c : ℕ) (x : S) (d : ℕ) → h (at1 f c x d) ≡ at1 (λ k. h (f k)) c (h x) d
at1_part h f c x d = go (eqb c d)
  where
    go : (b : Bool) → h (cond b x (f d)) ≡ cond b (h x) (h (f d))
    go true = refl
    go false = refl

-- where the changed value has the same part
pub at1_part_same : {S T : Type 0} (h : S → T) (f : ℕ → S) (c : ℕ) (x : S) (d : ℕ) → h x ≡ h (f c) → h (at1 f c x d) ≡ h (f d)
at1_part_same {S} h f c x d e =
    elim (cases_eq c d) [
      | inl q ↦ ap h (cond-true _ _ _ (eq-eqb c d q)) ∙ (e ∙ ap (λ k. h (f k)) q)
      | inr n ↦ ap h (at1_other f c x d n)
    ]

-- ---- words

-- who may store a page's class finds it 0
control_once : (g : Geometry) (w : Spot → ℕ) (v : View) (c : ℕ) (p : Spot) → IsController g w v c p → is_page p ≡ true → w p ≡ 0
control_once g w v c (Page s q) h e = h.1
control_once g w v c _ h e = absurd (false≢true e)

open_once : (w : Spot → ℕ) (p : Spot) → IsOpen w p → is_page p ≡ true → w p ≡ 0
open_once w (Page s q) h e = absurd h
open_once w _ h e = absurd (false≢true e)

-- an allowed step on the list of words is the step at its spot
pub see-words_set : (g : Geometry) (ws : List ℕ) (v : View) (c : ℕ) (a : Ask) (p : Spot) → HeldAt g (see g ws) v → length ws ≡ total_of g → at_of a < total_of g → spot_at g (classes_in g ws) (at_of a) ≡ p → IsAllowed g (see g ws) v c a p → see g (words_set a ws) ≡ words_after (see g ws) a p
see-words_set g ws v c (Load at) p h all l e may = ap (see g) (set-get_or ws at 0)
see-words_set g ws v c (Store at x) p h all l e may = see-set_any g ws at x p h.fits all l e (control_once g (see g ws) v c p may) h.unused
see-words_set g ws v c (Exchange at from to) p h all l e may =
    let word : see g ws p ≡ get_or ws at 0 = see_at g ws at p l e in
    elim (cases_Bool (eqb (see g ws p) from)) [
      | inr n ↦ (let m : eqb (get_or ws at 0) from ≡ false = ap (λ x. eqb x from) (sym word) ∙ n in
          ap (λ x. see g (set ws at x)) (cond-false _ _ _ m) ∙ (ap (see g) (set-get_or ws at 0) ∙ ap (λ b. cond b (upd (see g ws) p to) (see g ws)) (sym n)))
      | inl t ↦ (let m : eqb (get_or ws at 0) from ≡ true = ap (λ x. eqb x from) (sym word) ∙ t in
          ap (λ x. see g (set ws at x)) (cond-true _ _ _ m)
          ∙ (see-set_any g ws at to p h.fits all l e (λ page. once (may (eqb-true (see g ws p) from t)) page) h.unused
          ∙ ap (λ b. cond b (upd (see g ws) p to) (see g ws)) (sym t)))
    ]
  where
    once : IsController g (see g ws) v c p ⊎ IsOpen (see g ws) p → is_page p ≡ true → see g ws p ≡ 0
    once (inl k) = control_once g (see g ws) v c p k
    once (inr k) = open_once (see g ws) p k

pub length-words_set : (a : Ask) (ws : List ℕ) → length (words_set a ws) ≡ length ws
length-words_set a ws = length-set ws (at_of a) (word_after a (slice_index ws (at_of a)))

-- ---- accounts

pub account_at-set : (es : List Account) (c : ℕ) (e : Account) (d : ℕ) → c < length es → account_at (slice_set es c e) d ≡ at1 (account_at es) c e d
account_at-set es c e d l =
    elim (cases_eq c d) [
      | inl q ↦ subst (λ k. account_at (slice_set es c e) k ≡ at1 (account_at es) c e k) q (get_or-set_same es c e _ l ∙ sym (at1_here (account_at es) c e))
      | inr n ↦ get_or-set_other es c d e _ (λ z. n (sym z)) ∙ sym (at1_other (account_at es) c e d n)
    ]

pub memos_of-set : (es : List Account) (c : ℕ) (e : Account) → c < length es → memos_of (slice_set es c e) ≡ at1 (memos_of es) c e.memo
memos_of-set es c e l = fun_ext (λ d. ap (λ (x : Account). x.memo) (account_at-set es c e d l) ∙ at1_part (λ (x : Account). x.memo) (account_at es) c e d)

-- the accounts after a word step, a death and a beginning
pub memos_of-after : (es : List Account) (t : Step) → t.me.who < length es → memos_of (accounts_after es t) ≡ at1 (memos_of es) t.me.who (account_after (account_at es t.me.who) t).memo
memos_of-after es t l = memos_of-set es t.me.who (account_after (account_at es t.me.who) t) l

pub memos_of-changed : (f : Account → Account) (es : List Account) (c : ℕ) → c < length es → memos_of (changed f es c) ≡ at1 (memos_of es) c (f (account_at es c)).memo
memos_of-changed f es c l = memos_of-set es c (f (account_at es c)) l

pub length-accounts_after : (es : List Account) (t : Step) → length (accounts_after es t) ≡ length es
length-accounts_after es t = length-set es t.me.who (account_after (account_at es t.me.who) t)

pub length-changed : (f : Account → Account) (es : List Account) (c : ℕ) → length (changed f es c) ≡ length es
length-changed f es c = length-set es c (f (account_at es c))

-- the account of the identity that was changed, and a part of each account that a change leaves
pub account_here : (es : List Account) (c : ℕ) (e : Account) → c < length es → account_at (slice_set es c e) c ≡ e
account_here es c e l = get_or-set_same es c e _ l

pub account_part : {T : Type 0} (h : Account → T) (es : List Account) (c : ℕ) (e : Account) (d : ℕ) → h e ≡ h (account_at es c) → h (account_at (slice_set es c e) d) ≡ h (account_at es d)
account_part h es c e d same =
    elim (cases_lt c (length es)) [
      | inl l ↦ ap h (account_at-set es c e d l) ∙ at1_part_same h (account_at es) c e d same
      | inr o ↦ ap (λ xs. h (account_at xs d)) (set_past es c e o)
    ]
