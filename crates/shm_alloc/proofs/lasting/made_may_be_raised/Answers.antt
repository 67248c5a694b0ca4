use Rattle.std.proofs.{Common.{◌≡◌, ap, ◌∙◌, arith, refl, true, List, inr}, lemmas.Bool.cond-true}
use Rattle.shm_graph.specs.{declared.{memo.Stored.Stored, spot.Spot.TheVariants.Root}, Reach.is_reached, Views.own_word}
use Rattle.shm_graph.proofs.Spots.Spotting.{same_spot_self}
use Rattle.shm_count.specs.declared.point.Aim.TheVariants.{Up}
use Rattle.shm_count.proofs.RootSpots.{can_root, fits_root, is_here, roots_reached, some_inside}
use Rattle.shm_alloc.proofs.lasting.made_may_be_raised.Goals as goal

pub returns : goal.returns
returns c m r0 r tr es a k left can client inside small empty =
    let g = m.me.geometry in
    let who = m.me.who in
    let idle = left.holds.idle in
    let made = left.holds.gives in
    let names : own_word r.own (Root who a.root) ≡ a.block = ap (λ (s : List Stored). own_word s (Root who a.root)) made.own ∙ cond-true _ _ _ (same_spot_self (Root who a.root)) in
    let reached : is_reached who r a.block ≡ true = roots_reached who r idle.op a.root a.block made.root (some_inside g who a.block inside) names in
    let may = can_root g who k can.geometry can.who small (Up a.block) r idle (λ z. left.grows.agent ∙ client) inside
    (λ room. (refl, record { here = is_here who r idle; idle = idle.op; root = small; empty = empty; room = omega arith; source = inr reached })) (λ z. reached) in
    ((refl, record { made = refl; knows = (fits_root g who k can.geometry can.who small (Up a.block) r inside may).knows; can = may }), made.made)
