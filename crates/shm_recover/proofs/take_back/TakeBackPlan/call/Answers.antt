use Rattle.std.proofs.{Common.{sym, subst, arith, ◌%◌, ◌<◌}, lemmas.Bool.{and_from, lt-ltb}}
use Rattle.shm_words.specs.Layout.{address_limit}
use Rattle.shm_words.specs.declared.place.Place.TheVariants as place
use Rattle.shm_words.proofs.Placing.{address_small}
use Rattle.shm_recover.specs.Proved.Others.{other_low}
use Rattle.shm_recover.proofs.take_back.TakeBackPlan.call.Goals as goal

pub new-requires-clause-slot : goal.new-requires-clause-slot
new-requires-clause-slot c =
    let m = c.self.inside.state in
    let k = c.self.invariant in
    let to = c.other-to.result in
    let low = subst (λ x. x < m.me.geometry.clients) (sym c.other-to.ensures) (other_low m.me.who m.passed m.me.geometry.clients k.who k.passed) in
    subst (λ x. x < address_limit) (sym c.slot-slot.ensures) (address_small m.me.geometry (place.Slot m.me.who to (m.at % 8)) (and_from _ _ (and_from _ _ (lt-ltb m.me.who m.me.geometry.clients k.who) (lt-ltb to m.me.geometry.clients low)) (lt-ltb (m.at % 8) 8 (omega arith))) k.geometry)
