-- what calls tell and ask, put together: the events of a machine whose answers are told otherwise, and bounds that add up
use Rattle.std.proofs.{Common.{◌≡◌, ℕ, ◌+◌, refl, ap, arith, List, [], ◌∷◌, ◌++◌}, lemmas.List.length-append}
use Rattle.std.specs.List.{filter}
use Rattle.shm_graph.specs.{Asks.{Trail, failed, IsWithin}, Events.Event, Laws.Control, Mapped.mapped}
use Rattle.shm_graph.specs.Tells.{is_event, tells_along, happens_along}

-- ---- events

-- a control whose answers are told otherwise tells of the same events
tells_mapped : {S A B : Type 0} (f : A → B) (k : Control S A) (does : S → ℕ → Event) (m : S) (tr : Trail) → tells_along (mapped f k) does m tr ≡ tells_along k does m tr
tells_mapped f k does m [] = refl
tells_mapped f k does m (x ∷ tr) = ap (λ (es : List Event). does m x.word ∷ es) (tells_mapped f k does (k.after m x.word) tr)

pub mapped_events : {S A B : Type 0} (f : A → B) (k : Control S A) (does : S → ℕ → Event) (m : S) (tr : Trail) → happens_along (mapped f k) does m tr ≡ happens_along k does m tr
mapped_events f k does m tr = ap (filter is_event) (tells_mapped f k does m tr)

-- ---- bounds

pub failed-append : (t u : Trail) → failed (t ++ u) ≡ failed t + failed u
failed-append [] u = omega arith
failed-append (x ∷ t) u = let e = failed-append t u in omega arith

-- what is asked after what was asked
pub within_more : (a b : ℕ) (t u : Trail) → IsWithin a t → IsWithin b u → IsWithin (a + b) (t ++ u)
within_more a b t u h i = let l = length-append t u in let f = failed-append t u in omega arith
