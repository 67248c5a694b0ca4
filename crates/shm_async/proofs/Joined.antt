-- word steps of one machine, some of which were made before others, as its steps
use Rattle.std.proofs.Common.{◌≡◌, ℕ, Bool, List, [], ◌∷◌, ◌++◌, append_assoc, refl, sym, ap, ◌∙◌, subst}
use Rattle.shm_graph.specs.declared.{memo.{Memo.Memo, Step.Step}, run.Account.Account}
use Rattle.shm_graph.specs.{Asks.{Trail, call_before, pair}, CallEvents.events_of, Changes.asked_spot, Events.Event}
use Rattle.shm_graph.specs.{Laws.{Control, event_on, step_of}, Runs.account_after}
use Rattle.shm_graph.specs.Tells.{after_all, machine_steps, tells_along}
use Rattle.shm_pool.specs.Calls.{AreMade, IsDriven, accounts_by, fresh_after, pairs}

pub fresh_then : (b : Bool) (ts us : List Step) → fresh_after b (ts ++ us) ≡ fresh_after (fresh_after b ts) us
fresh_then b [] us = refl
fresh_then b (t ∷ ts) [] = refl
fresh_then b (t ∷ ts) (u ∷ us) = refl

pairs_then : (ts us : List Step) → pairs (ts ++ us) ≡ pairs ts ++ pairs us
pairs_then [] us = refl
pairs_then (t ∷ ts) us = ap (λ (tr : Trail). pair t.ask t.seen ∷ tr) (pairs_then ts us)

events_then : (r : Account) (ts us : List Step) → events_of r.memo (ts ++ us) ≡ events_of r.memo ts ++ events_of (accounts_by r ts).memo us
events_then r [] us = refl
events_then r (t ∷ ts) us = ap (λ (es : List Event). event_on r.memo t (asked_spot r.memo t) ∷ es) (events_then (account_after r t) ts us)

made_then : (r : Account) (ts us : List Step) → AreMade r ts → AreMade (accounts_by r ts) us → AreMade r (ts ++ us)
made_then r [] us made more = more
made_then r (t ∷ ts) us made more = (made.0, made_then (account_after r t) ts us made.1 more)

module _ {M A : Type 0} (k : Control M A) where
  after_then : (m : M) (tr tr' : Trail) → after_all k m (tr ++ tr') ≡ after_all k (after_all k m tr) tr'
  after_then m [] tr' = refl
  after_then m (x ∷ tr) tr' = after_then (k.after m x.word) tr tr'

  steps_then : (m : M) (tr tr' : Trail) → machine_steps k m (tr ++ tr') ≡ machine_steps k m tr ++ machine_steps k (after_all k m tr) tr'
  steps_then m [] tr' = refl
  steps_then m (x ∷ tr) tr' = ap (λ (ts : List Step). step_of k m x.word ∷ ts) (steps_then (k.after m x.word) tr tr')

  tells_then : (does : M → ℕ → Event) (m : M) (tr tr' : Trail) → tells_along k does m (tr ++ tr') ≡ tells_along k does m tr ++ tells_along k does (after_all k m tr) tr'
  tells_then does m [] tr' = refl
  tells_then does m (x ∷ tr) tr' = ap (λ (es : List Event). does m x.word ∷ es) (tells_then does (k.after m x.word) tr tr')

  -- those that took it from m to m1, and then those that took it on to m2
  module _ (fits : M → Memo → Memo → Trail → Type 0) (m m1 m2 : M) (r r1 r2 : Account) (ts us : List Step) where
    pub driven_then : IsDriven k fits m m1 r r1 ts → IsDriven k fits m1 m2 r1 r2 us → r1 ≡ accounts_by r ts → k.fresh m1 ≡ fresh_after (k.fresh m) ts → IsDriven k fits m m2 r r2 (ts ++ us)
    driven_then d e is first =
        let both : pairs (ts ++ us) ≡ pairs ts ++ pairs us = pairs_then ts us in
        record {
          steps = (λ i. d.steps i ++ (e.steps ∙ ap (λ (z : M). machine_steps k z (pairs us)) d.machine) i)
              ∙ (sym (steps_then m (pairs ts) (pairs us)) ∙ ap (machine_steps k m) (sym both));
          machine = e.machine ∙ (ap (λ (z : M). after_all k z (pairs us)) d.machine ∙ (sym (after_then m (pairs ts) (pairs us)) ∙ ap (after_all k m) (sym both)));
          made = made_then r ts us d.made (subst (λ (z : Account). AreMade z us) is e.made);
          asked = ap (λ (b : Bool). call_before b r2.memo.call) (fresh_then (k.fresh m) ts us ∙ ap (λ (b : Bool). fresh_after b us) (sym first))
              ∙ (e.asked
              ∙ (ap (λ (tr : Trail). tr ++ pairs us) (ap (λ (b : Bool). call_before b r1.memo.call) first ∙ d.asked)
              ∙ (append_assoc (call_before (k.fresh m) r.memo.call) (pairs ts) (pairs us) ∙ ap (λ (tr : Trail). call_before (k.fresh m) r.memo.call ++ tr) (sym both))));
          events = λ does tells. events_then r ts us
              ∙ ((λ i. d.events does tells i ++ events_of (sym is i).memo us)
              ∙ ((λ i. tells_along k does m (pairs ts) ++ (e.events does tells ∙ ap (λ (z : M). tells_along k does z (pairs us)) d.machine) i)
              ∙ (sym (tells_then does m (pairs ts) (pairs us)) ∙ ap (tells_along k does m) (sym both))));
        }
