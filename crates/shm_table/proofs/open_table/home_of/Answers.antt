use Rattle.std.proofs.{Common.{sym, subst, ◌<◌}, lemmas.Bool.lt-ltb}
use Rattle.shm_words.specs.Layout.{address_limit}
use Rattle.shm_words.specs.declared.place.Place.TheVariants as place
use Rattle.shm_words.proofs.Placing.{address_small}
use Rattle.shm_table.proofs.open_table.home_of.Goals as goal

pub returns-clause-small : goal.returns-clause-small
returns-clause-small c =
    let m = c.args.me in
    subst (λ x. x < address_limit) (sym c.home.ensures) (address_small m.geometry (place.Home m.who) (lt-ltb m.who m.geometry.clients c.requires.who) c.requires.geometry)
