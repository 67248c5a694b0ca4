-- what a machine tells of one more pair
use Rattle.std.proofs.{Common.{◌≡◌, ℕ, refl, ap, ◌∙◌, List, [], ◌∷◌, ◌++◌}, lemmas.List.Elements.filter-append}
use Rattle.std.specs.List.{filter}
use Rattle.shm_graph.specs.{declared.memo.Seen.Seen, Asks.Trail, Events.Event, Laws.Control}
use Rattle.shm_graph.specs.Tells.{is_event, after_all, tells_along, happens_along}

module _ {S A : Type 0} (k : Control S A) where
  pub after_all-append : (m : S) (tr : Trail) (x : Seen) → after_all k m (tr ++ x ∷ []) ≡ k.after (after_all k m tr) x.word
  after_all-append m [] x = refl
  after_all-append m (y ∷ tr) x = after_all-append (k.after m y.word) tr x

  tells_along-append : (does : S → ℕ → Event) (m : S) (tr : Trail) (x : Seen) → tells_along k does m (tr ++ x ∷ []) ≡ tells_along k does m tr ++ does (after_all k m tr) x.word ∷ []
  tells_along-append does m [] x = refl
  tells_along-append does m (y ∷ tr) x = ap (λ (es : List Event). does m y.word ∷ es) (tells_along-append does (k.after m y.word) tr x)

  pub happens_along-append : (does : S → ℕ → Event) (m : S) (tr : Trail) (x : Seen) → happens_along k does m (tr ++ x ∷ []) ≡ happens_along k does m tr ++ filter is_event (does (after_all k m tr) x.word ∷ [])
  happens_along-append does m tr x = ap (filter is_event) (tells_along-append does m tr x) ∙ filter-append is_event (tells_along k does m tr) (does (after_all k m tr) x.word ∷ [])
