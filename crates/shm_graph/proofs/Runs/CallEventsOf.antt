-- the events of an identity's steps in a run are those that its memo tells
use Rattle.std.proofs.Common.{◌≡◌, ◌≢◌, ℕ, ◌<◌, List, [], ◌∷◌, length, refl, sym, ap, ◌∙◌, subst, Bool, true, inl, inr}
use Rattle.std.proofs.lemmas.{List.get_or-set_other, Bool.{cases_eq, eq-eqb, ne_eqb}}
use Rattle.std.specs.Prelude.{slice_set}
use Rattle.shm_words.specs.declared.geometry.Geometry.{Geometry}
use Rattle.shm_graph.specs.declared.{ask.Me.Me, memo.{Memo.Memo, Step.Step}, run.{Account.Account, Move.Move}}
use Rattle.shm_graph.specs.{declared.run.Move.TheVariants.{Word, Dies, Begins}, Spots.{spot_at, classes_in}}
use Rattle.shm_graph.specs.{Asks.{Trail, at_of}, Changes.{memo_after, asked_spot}, Laws.event_on}
use Rattle.shm_graph.specs.Runs.{State, memos_of, moved, account_at, account_after, account_died, account_entered, Leads}
use Rattle.shm_graph.specs.CallEvents.{steps_of_call, events_of, steps_in, events_in, IsUnbroken}
use Rattle.shm_graph.proofs.Runs.Lists.{account_here, length-accounts_after, length-changed}

-- the memo of another identity
pub memo_other : (es : List Account) (c d : ℕ) (e : Account) → c ≢ d → (account_at (slice_set es d e) c).memo ≡ memos_of es c
memo_other es c d e n = ap (λ (x : Account). x.memo) (get_or-set_other es d c e _ n)

-- the memo of the stepping identity
pub memo_here : (es : List Account) (t : Step) (c : ℕ) → t.me.who ≡ c → c < length es → (account_at (slice_set es t.me.who (account_after (account_at es t.me.who) t)) c).memo ≡ memo_after (memos_of es c) t
memo_here es t c e l =
    subst (λ k. (account_at (slice_set es t.me.who (account_after (account_at es t.me.who) t)) k).memo ≡ memo_after (memos_of es k) t) e
    (ap (λ (x : Account). x.memo) (account_here es t.me.who (account_after (account_at es t.me.who) t) (subst (λ k. k < length es) (sym e) l)))

pub events_told : (g : Geometry) (c : ℕ) (a : State) (ms : List Move) (b : State) → c < length a.accounts → IsUnbroken c ms → Leads g a ms b → events_in g c a ms ≡ events_of (memos_of a.accounts c) (steps_in c ms)
events_told g c a [] b l u run = refl
events_told g c a (Word t ∷ ms) b l u run =
    let next : State = moved a (Word t) in
    let m : Memo = memos_of a.accounts c in
    let long : c < length next.accounts = subst (λ n. c < n) (sym (length-accounts_after a.accounts t)) l in
    let rest : events_in g c next ms ≡ events_of (memos_of next.accounts c) (steps_in c ms) = events_told g c next ms b long u run.2 in
    elim (cases_eq t.me.who c) [
      | inl e ↦ rw (eq-eqb t.me.who c e)
          (let told : (asked_spot m t) ≡ spot_at g (classes_in g a.words) (at_of t.ask) = subst (λ k. (asked_spot (memos_of a.accounts k) t) ≡ spot_at g (classes_in g a.words) (at_of t.ask)) e run.1.event.told in
          ap (λ p. event_on m t p ∷ events_in g c next ms) (sym told)
          ∙ ap (λ zs. event_on m t ((asked_spot m t)) ∷ zs) (rest ∙ ap (λ (x : Memo). events_of x (steps_in c ms)) (memo_here a.accounts t c e l)))
      | inr n ↦ rw (ne_eqb t.me.who c n)
          (rest ∙ ap (λ (x : Memo). events_of x (steps_in c ms)) (memo_other a.accounts c t.me.who (account_after (account_at a.accounts t.me.who) t) (λ e. n (sym e))))
    ]
events_told g c a (Dies d ∷ ms) b l u run =
    let next : State = moved a (Dies d) in
    events_told g c next ms b (subst (λ n. c < n) (sym (length-changed account_died a.accounts d)) l) u.1 run.2
    ∙ ap (λ (x : Memo). events_of x (steps_in c ms)) (memo_other a.accounts c d (account_died (account_at a.accounts d)) u.0)
events_told g c a (Begins d k ∷ ms) b l u run =
    let next : State = moved a (Begins d k) in
    events_told g c next ms b (subst (λ n. c < n) (sym (length-changed (account_entered k) a.accounts d)) l) u.1 run.2
    ∙ ap (λ (x : Memo). events_of x (steps_in c ms)) (memo_other a.accounts c d (account_entered k (account_at a.accounts d)) u.0)

-- those of a call are a function of its pairs
pub call_told : (g : Geometry) (c : ℕ) (a : State) (ms : List Move) (b : State) (me : Me) (line : List ℕ) (whole : Bool) (tr : Trail) → c < length a.accounts → IsUnbroken c ms → Leads g a ms b → steps_in c ms ≡ steps_of_call me line true whole tr
    → events_in g c a ms ≡ events_of (memos_of a.accounts c) (steps_of_call me line true whole tr)
call_told g c a ms b me line whole tr l u run e = events_told g c a ms b l u run ∙ ap (events_of (memos_of a.accounts c)) e
