-- who is at work, by the turns alone
use Rattle.std.proofs.Common.{◌≡◌, ◌≢◌, ◌⊎◌, ℕ, ◌<◌, refl, sym, ap, ◌∙◌, subst, inl, inr, Bool, true, false, cond}
use Rattle.std.proofs.lemmas.Bool.{and_parts, cases_Bool, cases_eq, false≢true}
use Rattle.shm_words.specs.declared.geometry.Geometry.{Geometry}
use Rattle.shm_graph.specs.declared.{memo.{Memo.Memo, Status.{Status as AStatus, TheVariants.Gone}}, run.Move.Move}
use Rattle.shm_graph.specs.declared.run.{Move.TheVariants.{Word, Dies, Begins}, Start.Start}
use Rattle.shm_graph.specs.{declared.spot.Spot.TheVariants.Status, Agents.{acts, is_gone}, Changes.asked_spot}
use Rattle.shm_graph.specs.{Held.status_word, Runs.{Held, IsMove, State, Turned, first_state, memos_of, moved}}
use Rattle.shm_graph.specs.Spots.{see}
use Rattle.shm_graph.proofs.Memos.MemoSteps.{acts-died, acts-entered, acts_after, ends_agent}
use Rattle.shm_graph.proofs.{Runs.Lists.{at1_here, at1_other}, States.FirstHeld.nobody_acts}
use Rattle.shm_headline.specs.{TurnsOf.turn_of, WordRuns.{IsTurn, at_work_by, nobody}}
use Rattle.shm_headline.proofs.{Moves.{memo_by, memo_here, memo_there, who_of}, Steps.step_made}

-- an agent of the identity acts, or its last one finished and left
abbrev pub Works : Memo → Type 0
Works r = (acts r ≡ true) ⊎ (r.status ≡ Gone)

-- an identity of which an agent acts is at work, and one that is at work has such an agent, or its last one finished and left
pub record AreAtWork (on : ℕ → Bool) (s : State) : Type 0 where
  pub acting : (c : ℕ) → acts (memos_of s.accounts c) ≡ true → on c ≡ true
  pub working : (c : ℕ) → on c ≡ true → Works (memos_of s.accounts c)

gone_is : (z : AStatus) → is_gone z ≡ true → z ≡ Gone
gone_is Gone e = refl
gone_is _ e = absurd (false≢true e)

-- those of which an agent acts are at work, and at first nobody
pub acting_work : (s : State) → AreAtWork (λ c. acts (memos_of s.accounts c)) s
acting_work s = record { acting = λ c e. e; working = λ c e. inl e }

pub first_work : (s : Start) → AreAtWork nobody (first_state s)
first_work s = record { acting = λ c e. sym (nobody_acts s c) ∙ e; working = λ c e. absurd (false≢true e) }

module _ (on : ℕ → Bool) (s : State) (x : AreAtWork on s) (m : Move) (i : IsMove s m) where
  on_there : (m : Move) (c : ℕ) → who_of m ≢ c → at_work_by (turn_of m) on c ≡ on c
  on_there (Word t) c n = refl
  on_there (Dies d) c n = at1_other on d false c n
  on_there (Begins d k) c n = at1_other on d true c n

  acting_here : (m : Move) → IsMove s m → acts (memo_by s m) ≡ true → at_work_by (turn_of m) on (who_of m) ≡ true
  acting_here (Word t) i e = x.acting t.me.who i.1
  acting_here (Dies d) i e = absurd (false≢true (sym (acts-died (memos_of s.accounts d)) ∙ e))
  acting_here (Begins d k) i e = at1_here on d true

  working_here : (m : Move) → IsMove s m → at_work_by (turn_of m) on (who_of m) ≡ true → Works (memo_by s m)
  working_here (Word t) i e =
      let r = memos_of s.accounts t.me.who in
      elim (cases_Bool (ends_agent r t (asked_spot r t))) [
        | inl over ↦ inr (gone_is _ (and_parts _ _ over).0)
        | inr n ↦ inl (acts_after r t (asked_spot r t) ∙ (ap (λ (b : Bool). cond b false (acts r)) n ∙ i.1))
      ]
  working_here (Dies d) i e = absurd (false≢true (sym (at1_here on d false) ∙ e))
  working_here (Begins d k) i e = inl (acts-entered k (memos_of s.accounts d))

  pub work_after : AreAtWork (at_work_by (turn_of m) on) (moved s m)
  work_after = record {
    acting = λ c e. elim (cases_eq (who_of m) c) [
      | inl q ↦ subst (λ (k : ℕ). at_work_by (turn_of m) on k ≡ true) q (acting_here m i (ap acts (sym (memo_here s m i)) ∙ (ap (λ (k : ℕ). acts (memos_of (moved s m).accounts k)) q ∙ e)))
      | inr n ↦ on_there m c n ∙ x.acting c (ap acts (sym (memo_there s m i c n)) ∙ e)
    ];
    working = λ c e. elim (cases_eq (who_of m) c) [
      | inl q ↦ subst (λ (k : ℕ). Works (memos_of (moved s m).accounts k)) q (subst Works (sym (memo_here s m i)) (working_here m i (ap (at_work_by (turn_of m) on) q ∙ e)))
      | inr n ↦ subst Works (sym (memo_there s m i c n)) (x.working c (sym (on_there m c n) ∙ e))
    ];
  }

module _ (g : Geometry) (on : ℕ → Bool) (s : State) (held : Held g s.words s.accounts) (x : AreAtWork on s) where
  may_begin : (c : ℕ) → c < g.clients → acts (memos_of s.accounts c) ≡ false → (on c ≡ false) ⊎ (see g s.words (Status c) ≡ 3)
  may_begin c l idle =
      elim (cases_Bool (on c)) [
        | inr off ↦ inl off
        | inl at ↦ (elim (x.working c at) [
          | inl a ↦ absurd (false≢true (sym idle ∙ a))
          | inr gone ↦ inr (sym (held.at.state c l) ∙ ap status_word gone)
        ])
      ]

  pub turn_made : (m : Move) → IsMove s m → Turned g s m → IsTurn g on s.words (turn_of m)
  turn_made (Word t) i turned = (x.acting t.me.who i.1, step_made g s t held turned)
  turn_made (Dies c) i turned = x.acting c i
  turn_made (Begins c k) i turned = let l = subst (λ (n : ℕ). c < n) held.accounts i.0 in (l, may_begin c l i.1)
