-- one of two operations is an operation
use Rattle.std.proofs.Common.{◌≡◌, ℕ, List, [], ◌∷◌, refl, subst, sym, ap}
use Rattle.std.specs.List.{filter}
use Rattle.shm_graph.specs.{declared.memo.Memo.Memo, Asks.Trail, Events.Event, Idle.IsIdle, Laws.Control}
use Rattle.shm_graph.specs.{Operations.{IsReady, OperationLaws}, Mapped.{OnTheWay, AtTheEnd}}
use Rattle.shm_graph.specs.Tells.{happens_along, is_event, tells_along}
use Rattle.plans.specs.declared.or.Or.{Or, TheVariants.{First, Second}}
use Rattle.plans.specs.{Either.{or_control, or_does, OrFits, OrGives, OrLeaves, OrNeeds}, Proved.Either.or_tells}

abbrev pub OrRests : {S T A B : Type 0} → (S → A → Type 0) → (T → B → Type 0) → Or S T → Or A B → Type 0
OrRests f g (First m) (First a) = f m a
OrRests f g (Second m) (Second b) = g m b
OrRests f g _ _ = ⊥

module _ {S T A B : Type 0} (j : Control S A) (k : Control T B) (f : OnTheWay S) (g : AtTheEnd S A) (f' : OnTheWay T) (g' : AtTheEnd T B) (may : S → Memo → Type 0) (may' : T → Memo → Type 0) (does : S → ℕ → Event) (does' : T → ℕ → Event) (leaves : S → Memo → Memo → Trail → List Event → A → Type 0) (leaves' : T → Memo → Memo → Trail → List Event → B → Type 0) (ends : S → A → Type 0) (ends' : T → B → Type 0) (l : OperationLaws j f g may does leaves ends) (l' : OperationLaws k f' g' may' does' leaves' ends') where
  told_first : (m : S) (tr : Trail) → tells_along (or_control j k) (or_does does does') (First m) tr ≡ tells_along j does m tr
  told_first m [] = refl
  told_first m (x ∷ tr) = ap (λ (es : List Event). does m x.word ∷ es) (told_first (j.after m x.word) tr)

  told_second : (m : T) (tr : Trail) → tells_along (or_control j k) (or_does does does') (Second m) tr ≡ tells_along k does' m tr
  told_second m [] = refl
  told_second m (x ∷ tr) = ap (λ (es : List Event). does' m x.word ∷ es) (told_second (k.after m x.word) tr)

  leads : (m : Or S T) (r0 r : Memo) (tr : Trail) (a : Or A B) → IsReady ((or_control j k).me m) r0 → OrNeeds may may' m r0 → OrGives g g' m r0 r tr a → OrLeaves leaves leaves' m r0 r tr (happens_along (or_control j k) (or_does does does') m tr) a
  leads (First m) r0 r tr (First a) ready fit h = subst (λ (es : List Event). leaves m r0 r tr (filter is_event es) a) (sym (told_first m tr)) (l.leads m r0 r tr a ready fit h)
  leads (Second m) r0 r tr (Second a) ready fit h = subst (λ (es : List Event). leaves' m r0 r tr (filter is_event es) a) (sym (told_second m tr)) (l'.leads m r0 r tr a ready fit h)
  leads (First m) r0 r tr (Second a) ready fit h = absurd h
  leads (Second m) r0 r tr (First a) ready fit h = absurd h

  pub or_operation : OperationLaws (or_control j k) (OrFits f f') (OrGives g g') (OrNeeds may may') (or_does does does') (OrLeaves leaves leaves') (OrRests ends ends')
  or_operation =
      record {
        tells = or_tells j k f f' does does' l.tells l'.tells;
        fresh = elim [ First m ↦ l.fresh m | Second m ↦ l'.fresh m ];
        asks = elim [ First m ↦ l.asks m | Second m ↦ l'.asks m ];
        begins = elim [ First m ↦ l.begins m | Second m ↦ l'.begins m ];
        leads = leads;
        rests = λ m r0 r tr es a. rests m r0 r tr es a;
      }
    where
      rests : (m : Or S T) (r0 r : Memo) (tr : Trail) (es : List Event) (a : Or A B) → IsReady ((or_control j k).me m) r0 → OrNeeds may may' m r0 → OrLeaves leaves leaves' m r0 r tr es a → OrRests ends ends' m a → IsIdle ((or_control j k).me m).who r
      rests (First m) r0 r tr es (First a) ready fit h e = l.rests m r0 r tr es a ready fit h e
      rests (Second m) r0 r tr es (Second a) ready fit h e = l'.rests m r0 r tr es a ready fit h e
      rests (First m) r0 r tr es (Second a) ready fit h e = absurd h
      rests (Second m) r0 r tr es (First a) ready fit h e = absurd h
