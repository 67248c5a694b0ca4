use Rattle.std.proofs.{Common.{sym, subst, ◌<◌}, lemmas.Bool.{and_from, lt-ltb}}
use Rattle.shm_words.specs.Layout.{address_limit}
use Rattle.shm_words.specs.declared.place.Place.TheVariants as place
use Rattle.shm_words.proofs.Placing.{address_small}
use Rattle.shm_ref.proofs.root_steps.LowerRootPlan.call.Goals as goal

pub new-requires-clause-slot : goal.new-requires-clause-slot
new-requires-clause-slot c =
    let m = c.self.inside.state in
    let k = c.self.invariant in
    subst (λ x. x < address_limit) (sym c.root-slot.ensures) (address_small m.me.geometry (place.Root m.me.who m.root) (and_from _ _ (lt-ltb m.me.who m.me.geometry.clients k.who) (lt-ltb m.root 16 k.root)) k.geometry)
