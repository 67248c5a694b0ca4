use Rattle.std.proofs.{Common.{◌≡◌, ap, ◌∙◌, arith, List, refl, sym}, lemmas.Bool.{cond-true, cond-false}}
use Rattle.shm_graph.specs.{declared.{memo.Stored.Stored, spot.Spot.TheVariants.Root}, Views.own_word}
use Rattle.shm_graph.proofs.Spots.Spotting.{same_spot_self, same_spot_not}
use Rattle.shm_alloc.specs.{Alloc.goal_of, Proved.Alloc.Steps.ready_word}
use Rattle.shm_alloc.proofs.lasting.alloc_least_root.Goals as goal

pub returns-clause-empty : goal.returns-clause-empty
returns-clause-empty c m r0 r tr a g = g.holds.gives.empty

pub returns-clause-named : goal.returns-clause-named
returns-clause-named c m r0 r tr a g = ap (λ (s : List Stored). own_word s (Root m.me.who a.root)) g.holds.gives.own ∙ cond-true _ _ _ (same_spot_self (Root m.me.who a.root))

pub returns-clause-below : goal.returns-clause-below
returns-clause-below c m r0 r tr a g j l e =
    g.holds.gives.before j l
    (sym (ap (λ (s : List Stored). own_word s (Root m.me.who j)) g.holds.gives.own ∙ cond-false _ _ _ (same_spot_not (Root m.me.who a.root) (Root m.me.who j) (λ z. let k : a.root ≡ j = cc in absurd (omega arith))) ∙ ready_word m.me (goal_of m.me r0 a) a.block r0.own (Root m.me.who j) refl) ∙ e)
