use Rattle.std.proofs.{Common.{sym, subst, ◌<◌}, lemmas.Bool.{and_from, lt-ltb}}
use Rattle.shm_words.specs.Layout.{address_limit}
use Rattle.shm_words.specs.declared.place.Place.TheVariants as place
use Rattle.shm_words.proofs.Placing.{address_small}
use Rattle.shm_count.proofs.up_root.UpRootPlan.call.Goals as goal

pub taken_up-requires-clause-slot : goal.taken_up-requires-clause-slot
taken_up-requires-clause-slot c =
    let m = c.self.inside.state in
    let k = c.self.invariant in
    subst (λ x. x < address_limit) (sym c.root-slot.ensures) (address_small m.me.geometry (place.Root m.me.who m.root) (and_from _ _ (lt-ltb m.me.who m.me.geometry.clients k.who) (lt-ltb m.root 16 k.root)) k.geometry)
