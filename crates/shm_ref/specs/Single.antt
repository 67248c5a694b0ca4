-- plans of one call, which answer what it answers
use Rattle.std.proofs.Common.{◌≡◌, true, false, List, [], ◌++◌, refl, sym, subst}
use Rattle.std.specs.Prelude.{Some}
use Rattle.shm_graph.specs.{declared.{ask.Me.Me, memo.Memo.Memo}, Asks.Trail, Events.Event, Idle.IsIdle, Laws.Control}
use Rattle.shm_graph.specs.Operations.{IsReady}
use Rattle.plans.specs.{Parts.{Part, PartLaws}, Plans.{PlanLaws, Planned}, Tasks.TaskLaws, Steering.Steered}

module _ {P C A : Type 0} (me : P → Me) (call : P → C) where
  -- what it does
  abbrev pub single_steered : Steered P C A A
  single_steered =
      record {
        me = me;
        line = λ p. [];
        first = λ p. true;
        start = λ p. p;
        call = call;
        after = λ p a. p;
        turns = λ p a. Some a;
      }

module _ {P C A : Type 0} (me : P → Me) (call : P → C) (part : P → Part C A) where
  -- nothing was done yet, and the memo shows what the call needs
  abbrev pub SingleKnows : P → Memo → Memo → Trail → List Event → Type 0
  SingleKnows p r0 r tr es = (part p).needs (call p) r0 × (r ≡ r0) × (tr ≡ []) × (es ≡ [])

  abbrev pub single_plan : Planned P C A A
  single_plan =
      record {
        steered = single_steered me call;
        part = part;
        knows = SingleKnows;
        leaves = λ p. (part p).leaves (call p);
      }

  module _ (k : Control C A) where
    leads : (p : P) (r0 rs r : Memo) (tr t : Trail) (es ds : List Event) (a : A) → SingleKnows p r0 rs tr es → (part p).leaves (call p) rs r t ds a → (part p).leaves (call p) r0 r (tr ++ t) (es ++ ds) a
    leads p r0 rs r tr t es ds a (needs, same, none, quiet) g =
        subst (λ (x : List Event). (part p).leaves (call p) r0 r (tr ++ t) (x ++ ds) a) (sym quiet)
        (subst (λ (x : Trail). (part p).leaves (call p) r0 r (x ++ t) ds a) (sym none)
        (subst (λ (x : Memo). (part p).leaves (call p) x r t ds a) same g))

    -- the call is one of the same identity, has something to ask, and is a part
    pub single_laws : ((p : P) → k.me (call p) ≡ me p) → ((p : P) → k.finished (call p) ≡ false) → ((p : P) → PartLaws true k (part p)) → PlanLaws k single_plan
    single_laws mine asks parts =
        record {
          stays = λ p a. record { same_me = refl; same_line = refl; same_start = refl; started = λ e. absurd (cc) };
          calls = λ p. record { me = mine p; asks = asks p };
          parts = parts;
          opens = λ p r0 r tr es h. subst ((part p).needs (call p)) (sym h.1) h.0;
          leads = λ p r0 rs r tr t es ds a h g held same. leads p r0 rs r tr t es ds a h g;
        }

    -- and its machine is an operation where the memo shows what the call needs, and what that leaves is between two calls
    pub single_task : (may : P → Memo → Type 0) → ((p : P) → k.fresh (call p) ≡ true) → ((p : P) (r : Memo) → IsReady (me p) r → may p r → (part p).needs (call p) r)
        → ((p : P) (r0 r : Memo) (tr : Trail) (es : List Event) (a : A) → IsReady (me p) r0 → (part p).leaves (call p) r0 r tr es a → IsIdle (me p).who r) → TaskLaws k single_plan may (λ p a. Unit {0})
    single_task may fresh needs rests =
        record {
          new = λ p r h. record { first = refl; start = refl; fresh = fresh p };
          begins = λ p r ready h. (needs p r ready h, refl, refl, refl);
          rests = λ p r0 r tr es a ready h l e. rests p r0 r tr es a ready l;
        }
