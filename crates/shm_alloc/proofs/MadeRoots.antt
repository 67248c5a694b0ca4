-- what an allocation leaves of each root of its identity
use Rattle.std.proofs.Common.{◌≡◌, ℕ, Bool, true, false, refl, ap, ◌∙◌, cond, eqb, ◌&&◌, List, ◌∷◌}
use Rattle.std.proofs.lemmas.Bool.{eq-eqb}
use Rattle.shm_graph.specs.{declared.{ask.Me.Me, memo.{Memo.Memo, Stored.Stored}}, Views.own_word}
use Rattle.shm_graph.specs.declared.spot.Spot.TheVariants as spot
use Rattle.shm_count.specs.{Roots.root_word, declared.answer.Made.Made}
use Rattle.shm_alloc.specs.declared.{point.Goal.Goal, request.Request.Request}
use Rattle.shm_alloc.specs.Alloc.{MadeGives, goal_of, more_stored, readied}

-- the second word of a redo record is no root
unreadied : (me : Me) (g : Goal) (b : ℕ) (own : List Stored) (j : ℕ) → own_word (readied me g b own) (spot.Root me.who j) ≡ own_word own (spot.Root me.who j)
unreadied me g b own j = go me.geometry.wide
  where
    go : (wide : Bool) → own_word (cond wide (more_stored me g b ∷ own) own) (spot.Root me.who j) ≡ own_word own (spot.Root me.who j)
    go true = refl
    go false = refl

-- the root of the new block holds it, and each other root what it held
pub made_word : (me : Me) (q : Request) (r0 r : Memo) (a : Made) (j : ℕ) → MadeGives me q r0 r a → root_word me.who r j ≡ cond (eqb a.root j) a.block (root_word me.who r0 j)
made_word me q r0 r a j h =
    let g : Goal = goal_of me r0 a in
    ap (λ (o : List Stored). own_word o (spot.Root me.who j)) h.own
    ∙ (ap (λ y. cond (y && eqb a.root j) a.block (own_word (readied me g a.block r0.own) (spot.Root me.who j))) (eq-eqb me.who me.who refl)
    ∙ ap (λ (x : ℕ). cond (eqb a.root j) a.block x) (unreadied me g a.block r0.own j))
