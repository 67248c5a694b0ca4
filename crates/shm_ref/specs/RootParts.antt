-- the load of an own root as a part, the block that a root names, and the step down at it
use Rattle.std.proofs.Common.{ℕ, Bool}
use Rattle.shm_words.specs.Layout.{address}
use Rattle.shm_words.specs.declared.place.Place.TheVariants as place
use Rattle.shm_graph.specs.declared.{ask.Me.Me, spot.Spot.TheVariants.Root}
use Rattle.shm_graph.specs.declared.ask.Ask.TheVariants as ask
use Rattle.plans.specs.{declared.word.Word.Word, Parts.Part, Words.word_part}
use Rattle.kind_parts.specs.WordParts.{OwnLoaded}

-- ---- the load

-- the load of root k
abbrev pub load_part : Me → ℕ → Bool → Part Word ℕ
load_part me k first = word_part first me (ask.Load (address me.geometry (place.Root me.who k))) (OwnLoaded (Root me.who k))
