-- what a join asks
use Rattle.std.specs.Prelude.{[], ◌∷◌}
use Rattle.shm_words.specs.Layout.{address}
use Rattle.shm_words.specs.declared.place.Place.TheVariants as place
use Rattle.shm_graph.specs.{declared.ask.{Ask.{Ask, TheVariants.Store}, Me.Me}, Asks.{Trail, pair}}

-- the status live is stored
abbrev pub join_ask : Me → Ask
join_ask me = Store (address me.geometry (place.Status me.who)) 1

-- all that a join asks, with what it sees
abbrev pub join_trail : Me → Trail
join_trail me = pair (join_ask me) 0 ∷ []
