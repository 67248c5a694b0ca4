-- the words of a block without reference words, as of a value block, stay in each turn of a run while it is live
use Rattle.std.proofs.Common.{◌≡◌, ℕ, ◌<◌, refl, ap, ◌∙◌, subst, arith, cond, eqb, ◌⊎◌, inl, inr}
use Rattle.std.proofs.lemmas.Bool.{cases_Bool, cond-false, eqb-true}
use Rattle.shm_words.specs.{declared.geometry.Geometry.Geometry, Tags.tag_refs}
use Rattle.shm_words.proofs.Words.{live_not_zero}
use Rattle.shm_graph.specs.declared.{ask.Ask.{Ask, TheVariants.{Load, Store, Exchange}}, memo.Memo.Memo, run.Move.Move}
use Rattle.shm_graph.specs.declared.{run.Move.TheVariants.Word, spot.Spot.{Spot, TheVariants.{Head, Tag, Body}}}
use Rattle.shm_graph.specs.{Asks.{at_of, words_after}, Blocks.{IsLive, headers}}
use Rattle.shm_graph.specs.{Controllers.{IsAllowed, IsController, IsOpen}, Held.HeldAt}
use Rattle.shm_graph.specs.Runs.{Held, IsMove, State, Turned, memos_of, moved}
use Rattle.shm_graph.specs.{Spots.{classes_in, same_spot, see, spot_at, upd}, Views.{View, view}}
use Rattle.shm_graph.proofs.{Runs.{Going.acts_within, Lists.see-words_set}, Spots.Spotting.same_spot_is}
use Rattle.shm_graph.proofs.States.Holders.{step_holds}

-- a step leaves each word that its identity may not store
word_left : (g : Geometry) (w : Spot → ℕ) (v : View) (c : ℕ) (a : Ask) (q p : Spot) → IsAllowed g w v c a q → (IsController g w v c p ⊎ IsOpen w p → ⊥) → words_after w a q p ≡ w p
word_left g w v c (Load at) q p may not = refl
word_left g w v c (Store at x) q p may not =
    elim (cases_Bool (same_spot q p)) [
      | inl e ↦ absurd (not (inl (subst (IsController g w v c) (same_spot_is q p e) may)))
      | inr e ↦ cond-false (same_spot q p) x (w p) e
    ]
word_left g w v c (Exchange at from to) q p may not =
    elim (cases_Bool (eqb (w q) from)) [
      | inr e ↦ ap (λ b. cond b (upd w q to) w p) e
      | inl e ↦ elim (cases_Bool (same_spot q p)) [
        | inl s ↦ absurd (not (subst (λ y. IsController g w v c y ⊎ IsOpen w y) (same_spot_is q p s) (may (eqb-true (w q) from e))))
        | inr s ↦ ap (λ b. cond b (upd w q to) w p) e ∙ cond-false (same_spot q p) to (w p) s
      ]
    ]

module _ (g : Geometry) (w : Spot → ℕ) (r : ℕ → Memo) (h : HeldAt g w (view r)) (b i : ℕ) (live : IsLive (headers w) b) (none : tag_refs g.wide (w (Tag b)) ≡ 0) where
  -- it has no reference word
  no_word : i < tag_refs g.wide (w (Tag b)) → ⊥
  no_word low = absurd (omega arith)

  -- so no identity may store its word
  nobody : (c : ℕ) → c < g.clients → IsController g w (view r) c (Body b i) ⊎ IsOpen w (Body b i) → ⊥
  nobody c l (inl (inl free)) = live_not_zero (w (Head b)) live free.0
  nobody c l (inl (inr (inl dying))) = no_word dying.1
  nobody c l (inl (inr (inr (inl slot)))) = no_word (step_holds g w (view r) h c (Body b i) l (λ q. cc) slot).1
  nobody c l (inl (inr (inr (inr slot)))) = no_word slot.1
  nobody c l (inr free) = free

pub word_stays : (g : Geometry) (s : State) (b i : ℕ) → Held g s.words s.accounts → IsLive (headers (see g s.words)) b → tag_refs g.wide (see g s.words (Tag b)) ≡ 0 → (x : Move) → IsMove s x → Turned g s x → see g (moved s x).words (Body b i) ≡ see g s.words (Body b i)
word_stays g s b i held live none (Word t) may turned =
    let w : Spot → ℕ = see g s.words in
    let q : Spot = spot_at g (classes_in g s.words) (at_of t.ask) in
    let allowed = turned.event.one_event.allowed in
    let within : t.me.who < g.clients = subst (λ (n : ℕ). t.me.who < n) held.accounts (acts_within s.accounts t.me.who may.1) in
    ap (λ (f : Spot → ℕ). f (Body b i)) (see-words_set g s.words (view (memos_of s.accounts)) t.me.who t.ask q held.at held.words turned.event.inside refl allowed)
    ∙ word_left g w (view (memos_of s.accounts)) t.me.who t.ask q (Body b i) allowed (nobody g w (memos_of s.accounts) held.at b i live none t.me.who within)
word_stays g s b i held live none _ may turned = refl
